-- The signals of a net as the code gathers them.
use Rattle.std.specs.Prelude.{ℕ, List, ◌∷◌, All, AllPairs, ◌≢◌}
use Rattle.ix_net.specs.declared.netlist.Net.{Net}
use Rattle.ix_net.specs.declared.netlist.Port.{Port}
use Rattle.ix_net.specs.declared.tables.Signal.{Signal}
use Rattle.std.specs.Prelude.{◌≡◌, Some}
use Rattle.std.specs.BTreeMap.{BTreeMap, get_by}
use Rattle.std.specs.Cmp.Lexicographic.{slice_cmp}
use Rattle.std.specs.Ordering.{nat_cmp}
use denote.Ref.{Bor}
use Rattle.ix_net.specs.Signals.{place_of, width_of, signals}
use Rattle.ix_net.specs.Name.{IsName}
use Rattle.ix_net.specs.Valid.{IsWidth, names}

-- a signal as a port
abbrev pub port_of : Signal → Port
port_of s = record { name = s.name.now; width = s.width }

-- the module and what it declares have names by the rule for names, widths of 1 to 128, and no two have one name
pub record IsDeclared (net : Net) : Type 0 where
  pub module_named : IsName net.name
  pub named : All (λ (p : Port). IsName p.name) (signals net)
  pub distinct : AllPairs (λ x y. x ≢ y) (net.name ∷ names (signals net))
  pub widths : All (λ (p : Port). IsWidth p.width) (signals net)

-- no two ports have one name
abbrev pub AreApart : List Port → Type 0
AreApart ports = AllPairs (λ x y. x ≢ y) (names ports)

-- the name has this place and this width
abbrev pub IsAt : List Port → List ℕ → ℕ → ℕ → Type 0
IsAt ports name place width = (place_of ports name ≡ Some place) × (width_of ports name ≡ Some width)

-- both names have this width
abbrev pub HaveWidth : List Port → List ℕ → List ℕ → ℕ → Type 0
HaveWidth ports a b width = (width_of ports a ≡ Some width) × (width_of ports b ≡ Some width)

-- the names have these places and one width
abbrev pub AreAt : List Port → List ℕ → List ℕ → ℕ → ℕ → ℕ → Type 0
AreAt ports a b i j width =
    (place_of ports a ≡ Some i) × (width_of ports a ≡ Some width) × (place_of ports b ≡ Some j) × (width_of ports b ≡ Some width)

-- the map has the place of each port by its name
abbrev pub Holds : List Port → BTreeMap (Bor (List ℕ)) ℕ → Type 0
Holds ports m = (name : List ℕ) → get_by (λ (k : Bor (List ℕ)). slice_cmp nat_cmp name k.now) m ≡ place_of ports name

-- the map of a list of ports with no double name
abbrev pub Numbers : List Port → BTreeMap (Bor (List ℕ)) ℕ → Type 0
Numbers ports m = AreApart ports × Holds ports m

-- the name and the width of a signal are right
abbrev pub IsGood : Signal → Type 0
IsGood s = IsName s.name.now × IsWidth s.width
