-- A worked module: the sum of two registers, on a core that reads operands in stage 1 and writes at time 2 (the ports are this project's choice).
use Rattle.std.specs.Prelude.{◌≡◌, ℕ, codes, List, [], ◌∷◌, false}
use Rattle.ix_bits.specs.declared.number.Ty.{Ty}
use Rattle.ix_bits.specs.declared.number.Bits.{Bits}
use Rattle.ix_bits.specs.NearTypes.{type_near}
use Rattle.ix_graph.specs.declared.args.Arg.TheVariants.{Op as op, Const as constant}
use Rattle.ix_graph.specs.declared.graph.Op.{Op}
use Rattle.ix_graph.specs.declared.kind.Kind.TheVariants.{RdRS1, RdRS2, Add, Cast, WrRD}
use Rattle.ix_net.specs.declared.netlist.Port.{Port}
use Rattle.ix_ports.specs.Ports.{input_ports, write_ports}

abbrev pub u32 : Ty
u32 = type_near false 32

-- two reads, their sum, its low bits, and the write, whose condition is 1
abbrev pub worked_ops : Bits → List Op
worked_ops one =
    record { kind = RdRS1; args = []; ty = u32 }
    ∷ record { kind = RdRS2; args = []; ty = u32 }
    ∷ record { kind = Add; args = op 0 ∷ op 1 ∷ []; ty = type_near false 33 }
    ∷ record { kind = Cast; args = op 2 ∷ []; ty = u32 }
    ∷ record { kind = WrRD; args = op 3 ∷ constant (type_near false 1) one ∷ []; ty = type_near false 1 }
    ∷ []

abbrev pub port : List ℕ → ℕ → Port
port name width = record { name = name; width = width }

-- the enable from time 1, the two operands, and at time 2 the value and the condition
pub record ArePorts (one : Bits) : Type 0 where
  pub inputs : input_ports 1 (worked_ops one) (1 ∷ 1 ∷ 1 ∷ 1 ∷ 2 ∷ []) ≡ port (codes "en1") 1 ∷ port (codes "in0") 32 ∷ port (codes "in1") 32 ∷ []
  pub outputs : write_ports (worked_ops one) 0 (worked_ops one) ≡ port (codes "out4_v") 32 ∷ port (codes "out4_c") 1 ∷ []

abbrev pub WorkedPorts : Type 0
WorkedPorts = (one : Bits) → ArePorts one
