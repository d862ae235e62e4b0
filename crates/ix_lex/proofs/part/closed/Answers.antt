use Rattle.std.proofs.Common.{◌≤◌, length, take}
use Rattle.ix_tree.specs.Lexing.{IsComment}
use Rattle.ix_lex.specs.Fronts.{NoComment}
use Rattle.ix_lex.proofs.Options.{none_from}
use Rattle.ix_lex.proofs.Scans.{at_rest}
use Rattle.ix_lex.proofs.Parts.{comment_front, comment_none}
use Rattle.ix_lex.proofs.part.closed.Goals as goal

pub returns-in_err-length-clause-none : goal.returns-in_err-length-clause-none
returns-in_err-length-clause-none c =
    none_from c.from_residual.result (comment_none c.args.bytes.now c.requires (at_rest (λ z. NoComment z) 2 c.args.bytes.now c.in_err-length.ensures.none))

pub returns-clause-some : goal.returns-clause-some
returns-clause-some c =
    comment_front c.args.bytes.now c.in_ok-length.length c.requires
    (at_rest (λ z. c.in_ok-length.length ≤ length z) 2 c.args.bytes.now c.in_ok-length.ensures.some.0)
    (at_rest (λ z. IsComment (take c.in_ok-length.length z)) 2 c.args.bytes.now c.in_ok-length.ensures.some.1)
