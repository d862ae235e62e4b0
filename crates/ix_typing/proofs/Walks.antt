-- What is left of a list from an element on.
use Rattle.std.proofs.Common.{◌≡◌, ℕ, ◌+◌, ◌<◌, refl, List, length, get_or, drop, drop-cons, add-one, cond, Option, Some, None, ◌||◌}
use Rattle.ix_tree.specs.Lexing.{same_bytes}
use Rattle.ix_typing.specs.declared.role.Named.{Named}
use Rattle.ix_typing.specs.declared.role.Role.{Role}
use Rattle.ix_typing.specs.declared.targets.Target.{Target}
use Rattle.ix_typing.specs.Names.{role_of, or_else, is_among, same_target}

pub names_rest : (n : List ℕ) (xs : List Named) (k : ℕ) (x : Named) → k < length xs → x ≡ get_or xs k x
    → role_of (drop k xs) n ≡ or_else (role_of (drop (k + 1) xs) n) (cond (same_bytes x.name n) (Some x.role) None)
names_rest n xs k x h e = rw (add-one, drop-cons xs k x, ← e) refl

pub targets_rest : (t : Target) (xs : List Target) (k : ℕ) (x : Target) → k < length xs → x ≡ get_or xs k x
    → is_among (drop k xs) t ≡ (same_target x t || is_among (drop (k + 1) xs) t)
targets_rest t xs k x h e = rw (add-one, drop-cons xs k x, ← e) refl

-- a later declaration of the name counts
pub later_counts : (a old : Option Role) (r : Role) → or_else (or_else a (Some r)) old ≡ or_else a (Some r)
later_counts None old r = refl
later_counts (Some s) old r = refl

-- a declaration of another name does not
pub other_passes : (a old : Option Role) → or_else (or_else a None) old ≡ or_else a old
other_passes None old = refl
other_passes (Some s) old = refl
