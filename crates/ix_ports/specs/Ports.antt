-- The ports of a behaviour's module (this project's choice).
use Rattle.std.specs.Prelude.{ℕ, ◌+◌, ◌-◌, max, codes, List, [], ◌∷◌, ◌++◌, map, slice_get, unwrap_or}
use Rattle.std.specs.Option.{option_map}
use Rattle.std.specs.List.{range_with_len}
use Rattle.std.specs.Fmt.{decimal}
use Rattle.ix_graph.specs.declared.kind.Kind.{Kind}
use Rattle.ix_graph.specs.declared.kind.Kind.TheVariants.{RdMem, WrRD, WrPC, WrCustReg, WrMem}
use Rattle.ix_graph.specs.declared.args.Arg.{Arg}
use Rattle.ix_graph.specs.declared.args.Arg.TheVariants as arg
use Rattle.ix_graph.specs.declared.graph.Op.{Op}
use Rattle.ix_net.specs.declared.netlist.Port.{Port}
use Rattle.ix_ports.specs.declared.letter.Letter.{Letter}
use Rattle.ix_ports.specs.declared.letter.Letter.TheVariants.{Address, Value, Condition}
use Rattle.ix_graph.specs.declared.role.Role.{Role}
use Rattle.ix_graph.specs.declared.role.Role.TheVariants.{Read, Compute, Write}
use Rattle.ix_graph.specs.Roles.{role_of}

abbrev pub module_name : List ℕ → List ℕ
module_name name = codes "ixt_" ++ name

abbrev pub enable_name : ℕ → List ℕ
enable_name t = codes "en" ++ decimal t

abbrev pub input_name : ℕ → List ℕ
input_name k = codes "in" ++ decimal k

abbrev pub byte_of : Letter → ℕ
byte_of Address = 97
byte_of Value = 118
byte_of Condition = 99

-- the letter says what it is: the address, the value or the condition
abbrev pub output_name : ℕ → Letter → List ℕ
output_name k letter = codes "out" ++ (decimal k ++ 95 ∷ byte_of letter ∷ [])

-- the letters of the outputs of an operation, one for each argument
abbrev pub letters_of : Kind → List Letter
letters_of RdMem = Address ∷ Condition ∷ []
letters_of WrRD = Value ∷ Condition ∷ []
letters_of WrPC = Value ∷ Condition ∷ []
letters_of (WrCustReg register) = Value ∷ Condition ∷ []
letters_of WrMem = Address ∷ Value ∷ Condition ∷ []
letters_of kind = []

-- the greatest time of an operation, or the first time that there is
abbrev pub last_from : ℕ → List ℕ → ℕ
last_from rd [] = rd
last_from rd (t ∷ ts) = max t (last_from rd ts)

abbrev pub enable_port : ℕ → Port
enable_port t = record { name = enable_name t; width = 1 }

abbrev pub enable_ports : ℕ → ℕ → List Port
enable_ports rd last = map enable_port (range_with_len rd (last - rd))

abbrev pub read_port : ℕ → Op → Role → List Port
read_port k op Read = record { name = input_name k; width = op.ty.width } ∷ []
read_port k op Compute = []
read_port k op Write = []

-- the inputs of the reads among operations of which the first has the number k
abbrev pub read_ports : ℕ → List Op → List Port
read_ports k [] = []
read_ports k (op ∷ ops) = read_port k op (role_of op.kind) ++ read_ports (k + 1) ops

abbrev pub input_ports : ℕ → List Op → List ℕ → List Port
input_ports rd ops times = enable_ports rd (last_from rd times) ++ read_ports 0 ops

abbrev pub arg_width : List Op → Arg → ℕ
arg_width ops (arg.Op number) = unwrap_or (option_map (λ (op : Op). op.ty.width) (slice_get ops number)) 0
arg_width ops (arg.Const ty bits) = ty.width

-- the outputs of the operation k, one for each letter
abbrev pub letter_ports : List Op → ℕ → List Letter → List Arg → List Port
letter_ports ops k [] args = []
letter_ports ops k (l ∷ ls) [] = []
letter_ports ops k (l ∷ ls) (a ∷ args) = record { name = output_name k l; width = arg_width ops a } ∷ letter_ports ops k ls args

-- the outputs of operations of which the first has the number k
abbrev pub write_ports : List Op → ℕ → List Op → List Port
write_ports all k [] = []
write_ports all k (op ∷ ops) = letter_ports all k (letters_of op.kind) op.args ++ write_ports all (k + 1) ops
