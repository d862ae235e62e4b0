use Rattle.std.proofs.Common.{◌≡◌, ◌+◌, map, length}
use Rattle.ix_extension.specs.Extensions.{view_instruction}
use Rattle.rv_seq.specs.Decoding.{own_from}
use Rattle.rv_seq.proofs.decoding.own_number.Given as goal

abbrev pub invariant-loop-first : goal.invariant-loop-first
invariant-loop-first l =
    (l.number + length l.left ≡ length l.instructions) × (own_from l.number (map view_instruction l.left) l.word ≡ own_from 0 (map view_instruction l.instructions) l.word)

abbrev pub decreases-loop-first : goal.decreases-loop-first
decreases-loop-first l = length l.left
