use Rattle.std.proofs.Common.{◌≡◌, ◌≤◌, true, length, take, drop}
use Rattle.std.specs.List.{list_all}
use Rattle.ix_tree.specs.Lexing.{Stops, is_line_byte}
use Rattle.ix_lex.proofs.Scans.{at_rest}
use Rattle.ix_lex.proofs.Parts.{line_front}
use Rattle.ix_lex.proofs.part.line.Goals as goal

pub returns : goal.returns
returns c =
    line_front c.args.bytes.now c.run.result c.requires
    (at_rest (λ z. c.run.result ≤ length z) 2 c.args.bytes.now c.run.ensures.within)
    (at_rest (λ z. list_all is_line_byte (take c.run.result z) ≡ true) 2 c.args.bytes.now c.run.ensures.inside)
    (at_rest (λ z. Stops is_line_byte (drop c.run.result z)) 2 c.args.bytes.now c.run.ensures.stops)
