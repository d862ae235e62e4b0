-- Widths by name, as the code keeps them.
use Rattle.std.specs.Prelude.{◌≡◌, ◌≢◌, ℕ, ◌↔◌, List, AllPairs, Option, Some}
use Rattle.std.specs.BTreeMap.{BTreeMap, get_by}
use Rattle.std.specs.Cmp.Lexicographic.{slice_cmp}
use Rattle.std.specs.Ordering.{nat_cmp}
use denote.Ref.{Bor}
use Rattle.ix_net.specs.declared.netlist.Port.{Port}
use Rattle.ix_net.specs.Valid.{names}
use Rattle.ix_verilog.specs.Words.{Word}
use Rattle.ix_vnets.specs.Widths.{Has}

-- the map of widths by name
abbrev pub Map : Type 0
Map = BTreeMap (Bor (List ℕ)) ℕ

-- what it has at a name
abbrev pub found : Map → Word → Option ℕ
found m n = get_by (λ (k : Bor (List ℕ)). slice_cmp nat_cmp n k.now) m

-- no two ports have one name
abbrev pub AreApart : List Port → Type 0
AreApart ports = AllPairs (λ x y. x ≢ y) (names ports)

-- it has the widths of these ports and no others
abbrev pub Holds : List Port → Map → Type 0
Holds ports m = (n : Word) (w : ℕ) → (found m n ≡ Some w) ↔ Has ports n w
