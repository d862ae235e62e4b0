use Rattle.std.proofs.Common.{ℕ, List, ◌++◌, subst}
use Rattle.rv_text.specs.Telling.{Told}
use Rattle.rv_text.proofs.Parts.{at_ok, at_err}
use Rattle.rv_barrel_text.specs.BarrelRowText.{lines_text, of_each, barrel_row_text}
use Rattle.rv_barrel_text.proofs.Parts.{row_is}
use Rattle.rv_barrel_text.proofs.row_writing.write_row.Goals as goal

pub returns-in-Ok-clause-carries : goal.returns-in-Ok-clause-carries
returns-in-Ok-clause-carries g c =
    at_ok c.write_lines.result
    (λ f rest before whole t.
    f rest before whole
    (c.in-Ok.ensures.carries (of_each lines_text 0 c.args.row.now.parts ++ rest) before whole
    (subst (λ (l : List ℕ). Told before (g.S.Sink.written c.args.sink.now) c.args.out.now l whole) (row_is c.args.shape.stages c.args.number c.args.row.now rest) t)))
    c.write_lines.ensures.carries

pub returns-in-Ok-clause-breaks : goal.returns-in-Ok-clause-breaks
returns-in-Ok-clause-breaks g c =
    at_err c.write_lines.result
    (λ f rest before whole t.
    f rest before whole
    (c.in-Ok.ensures.carries (of_each lines_text 0 c.args.row.now.parts ++ rest) before whole
    (subst (λ (l : List ℕ). Told before (g.S.Sink.written c.args.sink.now) c.args.out.now l whole) (row_is c.args.shape.stages c.args.number c.args.row.now rest) t)))
    c.write_lines.ensures.breaks

pub returns-in-Err-clause-breaks : goal.returns-in-Err-clause-breaks
returns-in-Err-clause-breaks g c = λ rest. c.in-Err.ensures.breaks (barrel_row_text c.args.shape.stages c.args.number c.args.row.now ++ rest)
