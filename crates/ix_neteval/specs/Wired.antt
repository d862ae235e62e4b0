-- Nets by number, as the simulator runs them. Signal i is the i-th of what the net declares; cell k is signal first + k.
use Rattle.std.specs.Prelude.{ℕ, ◌≡◌, ◌+◌, ◌-◌, ◌<◌, ◌≤◌, ◌^◌, ◌==◌, List, Some, length, map, slice_get, slice_index, if◌then◌else◌, All}
use Rattle.ix_bits.specs.declared.number.Bits.{Bits}
use Rattle.ix_net.specs.declared.gates.Gate.{Gate}
use Rattle.ix_net.specs.declared.gates.Gate.TheVariants.{Hex, Copy, Add, Sub, Mul, And, Or, Xor, Not, Eq, Lt, LtSigned, Join, Range, Choose}
use Rattle.ix_net.specs.declared.wires.Latch.{Latch}
use Rattle.ix_net.specs.Gates.{gate_result}
use Rattle.ix_net.specs.Order.{IsOrder, gate_at}
use Rattle.ix_net.specs.Valid.{IsWidth}

-- signals a and b have one width
abbrev pub Alike : (ℕ → ℕ → Type 0) → ℕ → ℕ → Type 0
Alike has a b = (v : ℕ) × has a v × has b v

-- the widths of the operands agree with the width w of the target, where `has a v` says that signal a has width v
abbrev pub GateFits : (ℕ → ℕ → Type 0) → ℕ → Gate → Type 0
GateFits has w (Hex d) = d < 2 ^ w
GateFits has w (Copy a) = has a w
GateFits has w (Add a b) = has a w × has b w
GateFits has w (Sub a b) = has a w × has b w
GateFits has w (Mul a b) = has a w × has b w
GateFits has w (And a b) = has a w × has b w
GateFits has w (Or a b) = has a w × has b w
GateFits has w (Xor a b) = has a w × has b w
GateFits has w (Not a) = has a w
GateFits has w (Eq a b) = (w ≡ 1) × Alike has a b
GateFits has w (Lt a b) = (w ≡ 1) × Alike has a b
GateFits has w (LtSigned a b v) = (w ≡ 1) × has a v × has b v
GateFits has w (Join a b v) = (u : ℕ) × has a u × has b v × (w ≡ u + v)
GateFits has w (Range a hi lo) = (v : ℕ) × has a v × (lo ≤ hi) × (hi < v) × (w ≡ hi - lo + 1)
GateFits has w (Choose c a b) = has c 1 × has a w × has b w

-- signal i has a pattern of v bits
pub record HasPattern (values : List ℕ) (i v : ℕ) : Type 0 where
  pub within : i < length values
  pub fits : slice_index values i < 2 ^ v
  pub wide : IsWidth v

-- each signal has a pattern of its width
pub record FitWidths (widths values : List ℕ) : Type 0 where
  pub size : length values ≡ length widths
  pub fit : (i w : ℕ) → slice_get widths i ≡ Some w → slice_index values i < 2 ^ w

-- the parts of a wiring agree
pub record AreWired (first : ℕ) (gates : List Gate) (order widths : List ℕ) : Type 0 where
  pub ordered : IsOrder first gates order
  pub room : first + length gates ≤ length widths
  pub wide : (i w : ℕ) → slice_get widths i ≡ Some w → IsWidth w
  pub gates_fit : (k w : ℕ) → k < length gates → slice_get widths (first + k) ≡ Some w → GateFits (λ i v. slice_get widths i ≡ Some v) w (gate_at gates k)

-- cell k has the value of its right side
abbrev pub GateHolds : ℕ → List Gate → List ℕ → List ℕ → ℕ → Type 0
GateHolds first gates widths values k = slice_index values (first + k) ≡ gate_result (slice_index values) (slice_index widths (first + k)) (gate_at gates k)

-- nothing but the cells was written
pub record KeepsOthers (first cells : ℕ) (old new : List ℕ) : Type 0 where
  pub before : (i : ℕ) → i < first → slice_index new i ≡ slice_index old i
  pub behind : (i : ℕ) → first + cells ≤ i → slice_index new i ≡ slice_index old i

-- the widths of patterns
abbrev pub pattern_widths : List Bits → List ℕ
pattern_widths inputs = map (λ (b : Bits). b.width) inputs

-- patterns as numbers
abbrev pub pattern_values : List Bits → List ℕ
pattern_values inputs = map (λ (b : Bits). b.raw) inputs

-- the latches name signals
abbrev pub AreWithin : ℕ → List Latch → Type 0
AreWithin signals latches = All (λ (l : Latch). (l.enable < signals) × (l.source < signals)) latches

-- a bank after an edge: the value of its source where that of its enable is 1, else its own, which stands at `from`
abbrev pub latched : List ℕ → ℕ → Latch → ℕ
latched values own l = if slice_index values l.enable == 1 then slice_index values l.source else slice_index values own
