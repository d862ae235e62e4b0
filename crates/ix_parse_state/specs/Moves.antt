-- What an answer of the code says of a step of the grammar's machine.
use Rattle.std.specs.Prelude.{◌≡◌, ◌<◌, ◌≤◌, Result, Ok, Err}
use Rattle.ix_tree.specs.Machine.{Stack, State, Next, stop, go}
use Rattle.ix_parse_state.specs.declared.stop.Stop.{Stop}
use Rattle.ix_parse_state.specs.declared.stop.Stop.TheVariants.{Refused, Deep, Memory}
use Rattle.ix_parse_state.specs.declared.state.Reader.{Reader}
use Rattle.ix_parse_state.specs.declared.state.TypeGoal.{TypeGoal}
use Rattle.ix_parse_state.specs.Views.{reader_of, of_type}

-- the machine goes to the state over a token that does not nest too deep
abbrev pub GoesTo : State → Next → Type 0
GoesTo z stop = ⊥
GoesTo z (go m y) = (m ≤ 64) × (y ≡ z)

-- the machine goes over the token, which nests too deep
abbrev pub GoesDeep : Next → Type 0
GoesDeep stop = ⊥
GoesDeep (go m y) = 64 < m

abbrev pub StopsBy : Stop → Next → Type 0
StopsBy Refused n = n ≡ stop
StopsBy Deep n = GoesDeep n
StopsBy Memory n = Unit {0}

-- the answer is the machine's next state, or why there is none
abbrev pub Moves : Result Reader Stop → Next → Type 0
Moves (Ok r) n = GoesTo (reader_of r) n
Moves (Err e) n = StopsBy e n

-- what is wanted next in a type, inside of what is open, is the machine's next state, or why there is none
abbrev pub Reaches : Result TypeGoal Stop → Stack → Next → Type 0
Reaches (Ok g) k n = GoesTo (of_type g k) n
Reaches (Err e) k n = StopsBy e n
