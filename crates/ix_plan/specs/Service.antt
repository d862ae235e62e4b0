-- When a net serves a behaviour (SCAIE-V, what a module of an instruction does in a pipeline; that tokens stall as told by
-- the enables is this project's choice).
use Rattle.std.specs.Prelude.{ℕ, ◌+◌, ◌-◌, ◌≡◌, ◌≢◌, ◌<◌, ◌≤◌, List, length, Some, slice_get, slice_index, slice_index_or, option_map, unwrap_or}
use Rattle.rv_core.specs.declared.Shape.{Shape}
use Rattle.ix_graph.specs.declared.args.Arg.{Arg}
use Rattle.ix_graph.specs.declared.graph.Op.{Op}
use Rattle.ix_graph.specs.declared.graph.Graph.{Graph}
use Rattle.ix_net.specs.declared.netlist.Net.{Net}
use Rattle.ix_net.specs.Signals.{place_of}
use Rattle.ix_net.specs.Valuation.{value_of}
use Rattle.ix_net.specs.Run.{IsRun, cycle_at}
use Rattle.ix_sheet.specs.Behaviours.{latency_of}
use Rattle.ix_ports.specs.declared.letter.Letter.{Letter}
use Rattle.ix_graph.specs.declared.role.Role.TheVariants.{Read}
use Rattle.ix_graph.specs.Roles.{role_of}
use Rattle.ix_mean.specs.GraphValues.{arg_raw, IsMeaning}
use Rattle.ix_ports.specs.Ports.{module_name, enable_name, input_name, output_name, letters_of, input_ports, write_ports}

-- the time at which the result of operation k is there
abbrev pub result_time : Shape → List ℕ → ℕ → Op → ℕ
result_time shape times k op = slice_index times k + latency_of shape op.kind

-- the input `en<t>` in a cycle with these values; 0 where the net has no such input, whatever it has inside
abbrev pub enable_at : Net → List ℕ → ℕ → ℕ
enable_at net values t = unwrap_or (option_map (λ i. slice_index values i) (place_of net.inputs (enable_name t))) 0

-- the token stands at t in a cycle with these values, and at u in the next one
pub record Moves (net : Net) (rd : ℕ) (values : List ℕ) (t u : ℕ) : Type 0 where
  pub goes : enable_at net values t ≡ 1 → u ≡ t + 1
  pub stays : enable_at net values t ≢ 1 → u ≡ t
  -- while it stays, nothing comes behind it
  pub alone : enable_at net values t ≢ 1 → rd < t → enable_at net values (t - 1) ≢ 1

-- a token that comes in the cycle `first`, and then stands at these times in turn
pub record IsLife (net : Net) (rd : ℕ) (cycles : List (List ℕ)) (first : ℕ) (life : List ℕ) : Type 0 where
  pub within : first + length life ≤ length cycles
  pub starts : slice_index_or life 0 rd ≡ rd
  pub moves : (k : ℕ) → k + 1 < length life → Moves net rd (cycle_at cycles (first + k)) (slice_index life k) (slice_index life (k + 1))

-- the inputs of time t carry their terms' values
abbrev pub Carries : Shape → Graph → List ℕ → Net → (ℕ → ℕ) → ℕ → List ℕ → Type 0
Carries shape g times net terms t values =
    (k : ℕ) (op : Op) → slice_get g.ops k ≡ Some op → role_of op.kind ≡ Read → result_time shape times k op ≡ t →
    value_of net values (input_name k) ≡ terms k

-- the outputs of time t show their terms' values
abbrev pub Shows : Graph → List ℕ → Net → (ℕ → ℕ) → ℕ → List ℕ → Type 0
Shows g times net terms t values =
    (k : ℕ) (op : Op) → slice_get g.ops k ≡ Some op → slice_index times k ≡ t →
    (j : ℕ) (letter : Letter) (a : Arg) → slice_get (letters_of op.kind) j ≡ Some letter → slice_get op.args j ≡ Some a →
    value_of net values (output_name k letter) ≡ arg_raw terms a

-- with these values of the terms, in all runs and all lives: where the inputs of the times that the token left were carried in the cycles in which it left
-- them, the outputs of each cycle are right in which the inputs are
abbrev pub ShowsTerms : Shape → Graph → List ℕ → Net → (ℕ → ℕ) → Type 0
ShowsTerms shape g times net terms =
    (cycles : List (List ℕ)) → IsRun net cycles →
    (first : ℕ) (life : List ℕ) → IsLife net shape.rd cycles first life → (k : ℕ) → k < length life →
    ((m : ℕ) → m < k → slice_index life (m + 1) ≢ slice_index life m →
    Carries shape g times net terms (slice_index life m) (cycle_at cycles (first + m))) →
    Carries shape g times net terms (slice_index life k) (cycle_at cycles (first + k)) →
    Shows g times net terms (slice_index life k) (cycle_at cycles (first + k))

-- for all values that the terms may have, whatever the reads give
abbrev pub ShowsAlways : Shape → Graph → List ℕ → Net → Type 0
ShowsAlways shape g times net = (terms : ℕ → ℕ) → IsMeaning g terms → ShowsTerms shape g times net terms

pub record Serves (shape : Shape) (name : List ℕ) (g : Graph) (times : List ℕ) (net : Net) : Type 0 where
  pub named : net.name ≡ module_name name
  pub inputs : net.inputs ≡ input_ports shape.rd g.ops times
  pub outputs : net.outputs ≡ write_ports g.ops 0 g.ops
  pub shows : ShowsAlways shape g times net
