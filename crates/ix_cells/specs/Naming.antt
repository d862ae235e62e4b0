-- The names of a netlist's signals, and their order.
use Rattle.std.specs.Prelude.{ℕ, ◌+◌, ◌*◌, ◌^◌, ◌≡◌, ◌<◌, ◌≤◌, codes, List, [], ◌∷◌, ◌++◌}
use Rattle.std.specs.Fmt.{decimal}
use Rattle.ix_ports.specs.Ports.{enable_name, input_name, output_name}
use Rattle.ix_ports.specs.declared.letter.Letter.{Letter}
use Rattle.ix_ports.specs.declared.letter.Letter.TheVariants.{Address, Value, Condition}
use Rattle.ix_cells.specs.declared.signal.Signal.{Signal}
use Rattle.ix_cells.specs.declared.signal.Signal.TheVariants.{Enable, Input, Node, Output, Register}

-- the name of a cell, by its number (this project's choice, as is the next)
abbrev pub node_name : ℕ → List ℕ
node_name k = codes "n" ++ decimal k

-- the name of the bank that holds an operation's result at a time
abbrev pub register_name : ℕ → ℕ → List ℕ
register_name k t = codes "r" ++ (decimal k ++ 95 ∷ decimal t)

-- the name of a signal
unfoldable pub name_of : Signal → List ℕ
name_of (Enable t) = enable_name t
name_of (Input k) = input_name k
name_of (Node k) = node_name k
name_of (Output k letter) = output_name k letter
name_of (Register k t) = register_name k t

-- the order of letters: address, value, condition
abbrev pub letter_rank : Letter → ℕ
letter_rank Address = 0
letter_rank Value = 1
letter_rank Condition = 2

-- where a signal stands in the order of declarations
unfoldable pub code : Signal → ℕ
code (Enable t) = t
code (Input k) = 2 ^ 80 + k
code (Node k) = 2 * 2 ^ 80 + k
code (Output k l) = 3 * 2 ^ 80 + (256 * k + letter_rank l)
code (Register k t) = 4 * 2 ^ 80 + (256 * k + t)

-- its numbers can be told from its name
abbrev pub IsBounded : Signal → Type 0
IsBounded (Enable t) = t < 2 ^ 64
IsBounded (Input k) = k < 2 ^ 64
IsBounded (Node k) = k < 2 ^ 64
IsBounded (Output k l) = k < 2 ^ 64
IsBounded (Register k t) = (k < 2 ^ 64) × (t < 2 ^ 64)

-- names of signals in order, from the code lo and below hi
abbrev pub Ascends : ℕ → ℕ → List (List ℕ) → Type 0
Ascends lo hi [] = lo ≤ hi
Ascends lo hi (x ∷ xs) = (s : Signal) × (x ≡ name_of s) × IsBounded s × (lo ≤ code s) × Ascends (code s + 1) hi xs
