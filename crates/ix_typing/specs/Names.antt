-- The roles of names, and which targets are written.
use Rattle.std.specs.Prelude.{ℕ, ◌+◌, List, [], ◌∷◌, Option, Some, None, Bool, true, false, ◌||◌, if◌then◌else◌, nat_eq}
use Rattle.ix_tree.specs.Lexing.{same_bytes}
use Rattle.ix_typing.specs.declared.role.Role.{Role}
use Rattle.ix_typing.specs.declared.role.Named.{Named}
use Rattle.ix_typing.specs.declared.targets.Target.{Target}
use Rattle.ix_typing.specs.declared.targets.Target.TheVariants as T

abbrev pub or_else : Option Role → Option Role → Option Role
or_else None y = y
or_else (Some r) y = Some r

-- the role of a name: that of its last declaration
abbrev pub role_of : List Named → List ℕ → Option Role
role_of [] n = None
role_of (x ∷ xs) n = or_else (role_of xs n) (if same_bytes x.name n then Some x.role else None)

abbrev pub same_target : Target → Target → Bool
same_target T.Memory T.Memory = true
same_target T.Rd T.Rd = true
same_target T.Pc T.Pc = true
same_target (T.Register m) (T.Register n) = nat_eq m n
same_target _ _ = false

-- the target is one of these
abbrev pub is_among : List Target → Target → Bool
is_among [] t = false
is_among (x ∷ xs) t = same_target x t || is_among xs t

-- the name is one of these
abbrev pub is_listed : List (List ℕ) → List ℕ → Bool
is_listed [] n = false
is_listed (x ∷ xs) n = same_bytes x n || is_listed xs n

-- the number of a target, which no other has
abbrev pub number_of : Target → ℕ
number_of T.Memory = 0
number_of T.Rd = 1
number_of T.Pc = 2
number_of (T.Register k) = k + 3
