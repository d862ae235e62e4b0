-- A net with a signal inside that has the name of an enable (this project's choice).
use Rattle.std.specs.Prelude.{◌≡◌, [], ◌∷◌, codes}
use Rattle.rv_core.specs.declared.Shape.{Shape}
use Rattle.ix_bits.specs.declared.number.Bits.{Bits}
use Rattle.ix_bits.specs.declared.number.Ty.{Ty}
use Rattle.ix_graph.specs.declared.args.Arg.TheVariants.{Const}
use Rattle.ix_graph.specs.declared.graph.Op.{Op}
use Rattle.ix_graph.specs.declared.graph.Graph.{Graph}
use Rattle.ix_graph.specs.declared.kind.Kind.TheVariants.{WrRD}
use Rattle.ix_net.specs.declared.netlist.Net.{Net}
use Rattle.ix_net.specs.declared.netlist.Form.TheVariants.{Hex, Copy}
use Rattle.ix_plan.specs.Service.{Serves}

-- the module of an instruction that writes a number at time 2, on a core with the operands at time 1: its last time has no enable as a port, but a cell inside has that name and is
-- always 1, and the condition is shown only in the cycle behind one in which a token came
abbrev pub inner_net : Bits → Bits → Net
inner_net one number =
    record {
      name = codes "ixt_a";
      inputs = record { name = codes "en1"; width = 1 } ∷ [];
      cells =
          record { target = codes "en2"; width = 1; form = Hex one }
          ∷ record { target = codes "out0_v"; width = 32; form = Hex number }
          ∷ record { target = codes "out0_c"; width = 1; form = Copy (codes "came1") }
          ∷ [];
      banks = record { target = codes "came1"; width = 1; enable = codes "en2"; source = codes "en1" } ∷ [];
      outputs = record { name = codes "out0_v"; width = 32 } ∷ record { name = codes "out0_c"; width = 1 } ∷ [];
    }

-- it does not serve: a token that is held at time 2 loses its condition
abbrev pub InnerEnableLaw : Type 0
InnerEnableLaw =
    (shape : Shape) (g : Graph) (op : Op) (one number : Bits) (tv tc : Ty) → shape.rd ≡ 1 → g.ops ≡ op ∷ [] → op.kind ≡ WrRD → op.args ≡ Const tv number ∷ Const tc one ∷ [] → one.raw ≡ 1 → number.width ≡ 32
    → Serves shape (codes "a") g (2 ∷ []) (inner_net one number) → ⊥
