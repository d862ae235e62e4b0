-- What is kept of names and targets beside the lists of them, and what takes a declaration or a write back.
use Rattle.std.specs.Prelude.{◌≡◌, ℕ, List, [], ◌∷◌, ◌++◌, Option, Bool, not, String}
use Rattle.std.specs.Ordering.{nat_cmp}
use Rattle.std.specs.BTreeMap.{BTreeMap, get_by_text}
use Rattle.std.specs.BTreeSet.{BTreeSet, contains}
use Rattle.ix_typing.specs.declared.role.Role.{Role}
use Rattle.ix_typing.specs.declared.role.Named.{Named}
use Rattle.ix_typing.specs.declared.targets.Target.{Target}
use Rattle.ix_typing.specs.Names.{role_of, is_among, number_of}

-- what each name stood for before its declaration, where these are declared before all
abbrev pub roles_before : List Named → List Named → List (Option Role)
roles_before front [] = []
roles_before front (x ∷ xs) = role_of front x.name ∷ roles_before (front ++ x ∷ []) xs

pub record IsKept {Y : Type 0} (items : List Named) (before : List (Option Role)) (roles : BTreeMap (String Y) Role) : Type 0 where
  pub found : (n : List ℕ) → get_by_text roles n ≡ role_of items n
  pub undone : before ≡ roles_before [] items

-- whether each target is the first write of it, where these are written before all
abbrev pub first_writes : List Target → List Target → List Bool
first_writes front [] = []
first_writes front (t ∷ ts) = not (is_among front t) ∷ first_writes (front ++ t ∷ []) ts

pub record IsMarked (items : List Target) (first : List Bool) (numbers : BTreeSet ℕ) : Type 0 where
  pub found : (t : Target) → contains nat_cmp numbers (number_of t) ≡ is_among items t
  pub undone : first ≡ first_writes [] items
