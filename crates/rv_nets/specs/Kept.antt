-- What holds of a module that is driven, whatever row comes.
use Rattle.std.specs.Prelude.{◌≡◌, ℕ, List, [], ◌∷◌, length}
use Rattle.ix_bits.specs.declared.number.Bits.{Bits}
use Rattle.ix_net.specs.declared.netlist.Net.{Net}
use Rattle.ix_net.specs.Valid.{IsValid}
use Rattle.ix_neteval.specs.State.{State}
use Rattle.ix_plan.specs.declared.design.Plan.{Plan}
use Rattle.ix_ports.specs.Ports.{input_ports}
use Rattle.rv_core.specs.declared.Shape.{Shape}
use Rattle.rv_ports.specs.declared.feeds.Feed.{Feed}
use Rattle.rv_ports.specs.declared.modules.Module.{Module}
use Rattle.rv_ports.specs.Feeds.{AreFeeds}
use Rattle.rv_ports.specs.Driven.{ports_in}

-- there is a feed and an input for each port of the net, whose ports are counted
pub record IsKept (driven : Module) (plan : Plan) (net : Net) (feeds : List Feed) (inputs : List Bits) (count : ℕ) (state : State) : Type 0 where
  pub counted : count ≡ length (ports_in net)
  pub same_net : state.net ≡ net
  pub fed : AreFeeds driven.shape plan feeds
  pub long : length inputs ≡ length feeds
  pub ports : net.inputs ≡ input_ports driven.shape.rd plan.graph.ops plan.times

-- the modules of these behaviours can be driven: each net is valid, and has the ports of its plan
abbrev pub AreFitting : Shape → List Plan → List Net → Type 0
AreFitting shape [] [] = Unit {0}
AreFitting shape (p ∷ plans) (net ∷ nets) = IsValid net × (net.inputs ≡ input_ports shape.rd p.graph.ops p.times) × AreFitting shape plans nets
AreFitting shape [] (net ∷ nets) = ⊥
AreFitting shape (p ∷ plans) [] = ⊥
