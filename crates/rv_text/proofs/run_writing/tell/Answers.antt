use Rattle.std.proofs.Common.{ℕ, List, subst}
use Rattle.ix_io.specs.Sink.{Appends, AppendsFront}
use Rattle.ix_extension.specs.Extensions.{view_extension}
use Rattle.rv_text.proofs.Parts.{run_is}
use Rattle.rv_text.proofs.run_writing.tell.Goals as goal

pub returns-in-Ok-clause-whole : goal.returns-in-Ok-clause-whole
returns-in-Ok-clause-whole g c =
    subst (λ (l : List ℕ). Appends (g.S.Sink.written c.args.sink.now) (g.S.Sink.written c.write_whole.new.sink) l)
    (run_is (view_extension c.args.ext.now) c.args.image.now c.args.steps c.args.arch.now c.requires.first) c.in-Ok.ensures.whole

pub returns-in-Err-clause-front : goal.returns-in-Err-clause-front
returns-in-Err-clause-front g c =
    subst (λ (l : List ℕ). AppendsFront (g.S.Sink.written c.args.sink.now) (g.S.Sink.written c.write_whole.new.sink) l)
    (run_is (view_extension c.args.ext.now) c.args.image.now c.args.steps c.args.arch.now c.requires.first) c.in-Err.ensures.front
