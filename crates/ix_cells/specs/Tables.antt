-- Several wires at once, and of each two neighbours the one that a bit chooses (this project's choice: a table is a tree of choices).
use Rattle.std.specs.Prelude.{ℕ, ◌+◌, ◌-◌, ◌*◌, ◌/◌, ◌%◌, ◌^◌, ◌≡◌, ◌<◌, ◌==◌, if◌then◌else◌, List, [], ◌∷◌, ◌++◌, length, map, Some, slice_get, slice_index}
use Rattle.std.specs.BTreeMap.{BTreeMap, get}
use Rattle.std.specs.Ordering.{nat_cmp}
use Rattle.ix_bits.specs.declared.number.Bits.{Bits}
use Rattle.ix_net.specs.declared.netlist.Net.{Net}
use Rattle.ix_cells.specs.declared.signal.Signal.{Signal}
use Rattle.ix_cells.specs.declared.signal.Wire.{Wire}
use Rattle.ix_net.specs.Declarations.{Explains}
use Rattle.ix_cells.specs.Growth.{IsWire, AreWires, AreNodes, Extends, Adds, seen}

-- cells were added, and wire j of the list shows f at j
pub record AddsAll (needs : List Wire) (old new : Net) (rs : List Wire) (width : ℕ) (f : (Signal → ℕ) → ℕ → ℕ) : Type 0 where
  pub extends : Extends old new
  pub same_banks : new.banks ≡ old.banks
  pub same_outputs : new.outputs ≡ old.outputs
  pub wide : (j : ℕ) (r : Wire) → slice_get rs j ≡ Some r → r.width ≡ width
  pub nodes : AreNodes old 0 old.cells → AreWires old needs → AreNodes new 0 new.cells
  pub wires : AreNodes old 0 old.cells → AreWires old needs → (j : ℕ) (r : Wire) → slice_get rs j ≡ Some r → IsWire new r
  pub gives :
      (j : ℕ) (r : Wire) → slice_get rs j ≡ Some r → (value wide : List ℕ → ℕ) → AreNodes old 0 old.cells → AreWires old needs → Explains new value wide →
      seen value r.signal ≡ f (seen value) j

-- wire j shows entry j of a table
abbrev pub entries_shown : List Bits → (Signal → ℕ) → ℕ → ℕ
entries_shown es see j = slice_index (map (λ (e : Bits). e.raw) es) j

-- an entry with a pattern stands at the place that the map has for it
abbrev pub ArePlaces : List Bits → BTreeMap ℕ ℕ → Type 0
ArePlaces es places = (pattern place : ℕ) → get nat_cmp places pattern ≡ Some place → (place < length es) × (slice_index (map (λ (e : Bits). e.raw) es) place ≡ pattern)

-- one more wire, which shows the next entry
abbrev pub AddsNext : Net → Net → List Wire → List Bits → ℕ → Wire → Type 0
AddsNext old new ws es width r = (start : Net) → AddsAll [] start old ws width (entries_shown es) → AddsAll [] start new (ws ++ r ∷ []) width (entries_shown es)

-- of two neighbours the one that a bit chooses
abbrev pub halved_by : ((Signal → ℕ) → ℕ) → ((Signal → ℕ) → ℕ → ℕ) → (Signal → ℕ) → ℕ → ℕ
halved_by g f see j = if g see == 0 then f see (2 * j) else f see (2 * j + 1)

-- of each two neighbours the one that the bit chooses
pub record Halves (old new : Net) (ws : List Wire) (bit : Wire) (rs : List Wire) (n : ℕ) : Type 0 where
  pub extends : Extends old new
  pub count : length rs ≡ n
  pub all :
      (needs : List Wire) (start : Net) (w : ℕ) (f : (Signal → ℕ) → ℕ → ℕ) (g : (Signal → ℕ) → ℕ) →
      AddsAll needs start old ws w f → Adds needs start old bit 1 g → AddsAll needs start new rs w (halved_by g f)

-- the same for the bit of an index at a place
pub record Levels (old new : Net) (ws : List Wire) (index : Wire) (p : ℕ) (rs : List Wire) : Type 0 where
  pub count : length rs ≡ length ws / 2
  pub all :
      (start : Net) (w : ℕ) (f : (Signal → ℕ) → ℕ → ℕ) → AddsAll (index ∷ []) start old ws w f →
      AddsAll (index ∷ []) start new rs w (halved_by (λ see. see index.signal / 2 ^ p % 2 ^ (p - p + 1)) f)
