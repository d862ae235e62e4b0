-- The inputs of a module, each by what it carries (this project's choice).
use Rattle.std.specs.Prelude.{◌≡◌, ℕ, ◌+◌, ◌-◌, ◌%◌, ◌^◌, List, [], ◌∷◌, ◌++◌, map}
use Rattle.std.specs.List.{range_with_len}
use Rattle.ix_graph.specs.declared.graph.Op.{Op}
use Rattle.ix_graph.specs.declared.role.Role.{Role}
use Rattle.ix_graph.specs.declared.role.Role.TheVariants as role
use Rattle.ix_graph.specs.Roles.{role_of}
use Rattle.ix_net.specs.declared.netlist.Port.{Port}
use Rattle.ix_plan.specs.declared.design.Plan.{Plan}
use Rattle.ix_plan.specs.Service.{result_time}
use Rattle.ix_ports.specs.Ports.{input_ports, last_from}
use Rattle.rv_core.specs.declared.Shape.{Shape}
use Rattle.rv_ports.specs.declared.feeds.Carried.{Carried}
use Rattle.rv_ports.specs.declared.feeds.Carried.TheVariants.{Enable, Read}
use Rattle.rv_ports.specs.declared.feeds.Feed.{Feed}
use Rattle.rv_ports.specs.declared.modules.Module.{Module}
use Rattle.rv_ports.specs.declared.shown.Shown.{Shown}
use Rattle.rv_ports.specs.Inputs.{bit, enable_value, carried, token_at, inputs_by}

-- what an input carries, the time, and its width
abbrev pub Key : Type 0
Key = Carried × ℕ × ℕ

abbrev pub key_of : Feed → Key
key_of f = (f.carried, f.time, f.ty.width)

-- what is carried at this time
abbrev pub fed : Module → Shown → Carried → ℕ → ℕ
fed m w Enable t = bit (enable_value m w t)
fed m w (Read kind) t = carried w kind (token_at m t w.seats)

-- in as many bits as the input has
abbrev pub value_of_key : Module → Shown → Key → ℕ
value_of_key m w key = fed m w key.0 key.1 % 2 ^ key.2

abbrev pub width_of_key : Key → ℕ
width_of_key key = key.2

-- the value and the width of an input
abbrev pub feed_value : Module → Shown → Feed → ℕ
feed_value m w f = value_of_key m w (key_of f)

abbrev pub feed_width : Feed → ℕ
feed_width f = width_of_key (key_of f)

-- the inputs that move a token on
abbrev pub enable_key : ℕ → Key
enable_key t = (Enable, t, 1)

abbrev pub enable_keys : ℕ → ℕ → List Key
enable_keys rd last = map enable_key (range_with_len rd (last - rd))

-- the input of an operation, if it reads
abbrev pub read_key : Shape → List ℕ → ℕ → Op → Role → List Key
read_key shape times k op role.Read = (Read op.kind, result_time shape times k op, op.ty.width) ∷ []
read_key shape times k op role.Compute = []
read_key shape times k op role.Write = []

-- the inputs of the reads among operations of which the first has the number k
abbrev pub read_keys : Shape → List ℕ → ℕ → List Op → List Key
read_keys shape times k [] = []
read_keys shape times k (op ∷ ops) = read_key shape times k op (role_of op.kind) ++ read_keys shape times (k + 1) ops

-- the inputs of the module of a behaviour with this plan, in the order of its ports
abbrev pub keys_of : Shape → Plan → List Key
keys_of shape p = enable_keys shape.rd (last_from shape.rd p.times) ++ read_keys shape p.times 0 p.graph.ops

-- these are the inputs of the module of a behaviour with this plan on a core of this shape: they have its widths, and in whatever row the values that are driven
pub record AreFeeds (shape : Shape) (p : Plan) (feeds : List Feed) : Type 0 where
  pub widths : map feed_width feeds ≡ map (λ (port : Port). port.width) (input_ports shape.rd p.graph.ops p.times)
  pub values : (m : Module) (w : Shown) → m.shape ≡ shape → map (feed_value m w) feeds ≡ inputs_by m p w
