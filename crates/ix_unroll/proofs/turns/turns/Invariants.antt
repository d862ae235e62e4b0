use Rattle.std.proofs.Common.{◌≡◌, ◌-◌, Some}
use Rattle.ix_tree.specs.Unrolling.{turns_from, most_turns}
use Rattle.ix_unroll.specs.Scopes.{bindings}
use Rattle.ix_unroll.specs.Values.{seen_option}
use Rattle.ix_unroll.specs.Turning.{head_of}
use Rattle.ix_unroll.proofs.Turned.{all_after}
use Rattle.ix_unroll.proofs.turns.turns.Given as goal

-- the turns so far, and those from the value on
abbrev pub invariant-loop : goal.invariant-loop
invariant-loop l =
    let bs = bindings l.scope in
    let h = head_of l.head in
    turns_from most_turns bs h (seen_option (Some l.fn.first)) ≡ all_after l.values.items (turns_from (128 - l.counter) bs h (seen_option l.value))
