use Rattle.std.proofs.Common.{◌≡◌, true, take, drop, arith}
use Rattle.std.specs.List.{list_all}
use Rattle.ix_tree.specs.Lexing.{Stops, is_text_byte}
use Rattle.ix_lex.proofs.Scans.{at_rest}
use Rattle.ix_lex.proofs.Parts.{text_found, text_missing}
use Rattle.ix_lex.proofs.part.text.Goals as goal
use Rattle.ix_lex.proofs.part.text.Goals.{else-inner-bytes-via-then-inner-bytes+else-bytes-inner-eq34, else-inner-bytes-via-else-inner-bytes}

pub returns-then-bytes-inner-eq34-clause-some : goal.returns-then-bytes-inner-eq34-clause-some
returns-then-bytes-inner-eq34-clause-some c =
    text_found c.args.bytes.now c.run-inner.result c.requires c.if-inner-bytes.true c.if-bytes-inner-eq34.true
    (at_rest (λ z. list_all is_text_byte (take c.run-inner.result z) ≡ true) 1 c.args.bytes.now c.run-inner.ensures.inside)

pub returns-else-inner-bytes-clause-none : goal.returns-else-inner-bytes-clause-none
returns-else-inner-bytes-clause-none c =
    text_missing c.args.bytes.now c.run-inner.result c.requires
    (at_rest (λ z. list_all is_text_byte (take c.run-inner.result z) ≡ true) 1 c.args.bytes.now c.run-inner.ensures.inside)
    (at_rest (λ z. Stops is_text_byte (drop c.run-inner.result z)) 1 c.args.bytes.now c.run-inner.ensures.stops)
    (λ l e. elim c.else-inner-bytes.branch [
      | else-inner-bytes-via-then-inner-bytes+else-bytes-inner-eq34 w ↦ w.if-bytes-inner-eq34.false e
      | else-inner-bytes-via-else-inner-bytes w ↦ omega arith
    ])
