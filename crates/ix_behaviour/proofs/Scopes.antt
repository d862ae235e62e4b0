-- Slots that come later stand behind those before, and names that are declared.
use Rattle.std.proofs.Common.{◌≡◌, ◌∙◌, sym, ap, subst, refl, ℕ, ◌<◌, arith, List, [], ◌∷◌, ◌++◌, length, get_or, Option, Some, None, Bool, true, false, cond, nat_eq, append_assoc}
use Rattle.std.proofs.lemmas.Bool.{eqb-true, and_parts}
use Rattle.std.proofs.lemmas.List.{append-nil}
use Rattle.ix_bits.specs.declared.number.Ty.{Ty}
use Rattle.ix_tree.specs.Lexing.{same_bytes}
use Rattle.ix_tree.specs.TypedTrees.{TypedDeclTree, TypedStmtTree, ts_block, ts_empty, ts_locals, ts_assign, ts_if, ts_if_else, ts_spawn, TypedRow, typed_end, typed_more}
use Rattle.ix_typing.specs.declared.role.Role.{Role}
use Rattle.ix_typing.specs.declared.role.Role.TheVariants as R
use Rattle.ix_typing.specs.declared.role.Named.{Named}
use Rattle.ix_typing.specs.Names.{role_of, or_else}
use Rattle.ix_mean.specs.Core.{u1, Expression}
use Rattle.ix_mean.specs.EffectByName.{type_of_text}
use Rattle.ix_mean.specs.ByName.{Names}
use Rattle.ix_mean.specs.Resolving.{Slot, slot_in}
use Rattle.ix_mean.specs.ResolvingStatements.{Scope, declared, initial, declarations, step, step_row, left}
use Rattle.ix_behaviour.proofs.Seeing.{Stands, Sees}

-- ---- names
pub same_equal : (a b : List ℕ) → same_bytes a b ≡ true → a ≡ b
same_equal [] [] e = refl
same_equal [] (y ∷ b) e = cc
same_equal (x ∷ a) [] e = cc
same_equal (x ∷ a) (y ∷ b) e =
    let p = and_parts (nat_eq x y) (same_bytes a b) e in
    ap (λ (z : ℕ). z ∷ a) (eqb-true x y p.0) ∙ ap (λ (z : List ℕ). y ∷ z) (same_equal a b p.1)

or_assoc : (o p q : Option Role) → or_else (or_else o p) q ≡ or_else o (or_else p q)
or_assoc None p q = refl
or_assoc (Some r) p q = refl

abbrev one_role : Named → List ℕ → Option Role
one_role x n = cond (same_bytes x.name n) (Some x.role) None

-- the last declaration counts
pub role_behind : (xs : List Named) (x : Named) (n : List ℕ) → role_of (xs ++ x ∷ []) n ≡ or_else (one_role x n) (role_of xs n)
role_behind [] x n = none_behind (one_role x n)
  where
    none_behind : (o : Option Role) → or_else None o ≡ or_else o None
    none_behind None = refl
    none_behind (Some r) = refl
role_behind (y ∷ xs) x n = ap (λ (z : Option Role). or_else z (one_role y n)) (role_behind xs x n) ∙ or_assoc (one_role x n) (role_of xs n) (one_role y n)

-- ---- slots
-- the second slots begin with the first
pub record Begins (a b : List Ty) : Type 0 where
  pub more : List Ty
  pub is : b ≡ a ++ more

pub begins_same : (a : List Ty) → Begins a a
begins_same a = record { more = []; is = sym (append-nil a) }

pub begins_on : (a b c : List Ty) → Begins a b → Begins b c → Begins a c
begins_on a b c g h = record { more = g.more ++ h.more; is = h.is ∙ ap (λ (z : List Ty). z ++ h.more) g.is ∙ append_assoc a g.more h.more }

begins_declared : (sc : Scope) (n : List ℕ) (ty : Ty) (e : Expression) → Begins sc.slots (declared sc n ty e).scope.slots
begins_declared sc n ty e = record { more = ty ∷ []; is = refl }

pub begins_declarations : (ns : Names) (ty : Ty) (ds : List TypedDeclTree) (sc : Scope) → Begins sc.slots (declarations ns ty ds sc).scope.slots
begins_declarations ns ty [] sc = begins_same sc.slots
begins_declarations ns ty (d ∷ ds) sc =
    let one = (declared sc d.name ty (initial ns sc ty d.value)).scope in
    begins_on sc.slots one.slots (declarations ns ty ds one).scope.slots (begins_declared sc d.name ty (initial ns sc ty d.value)) (begins_declarations ns ty ds one)

mutual
  pub begins : (ns : Names) (x : TypedStmtTree) (sc : Scope) → Begins sc.slots (step ns x sc).scope.slots
  begins ns (ts_block s all) sc = begins_row ns all sc
  begins ns (ts_empty s) sc = begins_same sc.slots
  begins ns (ts_locals s ty ds) sc = begins_declarations ns (type_of_text ty) ds sc
  begins ns (ts_assign s a) sc = begins_same sc.slots
  begins ns (ts_if s c x) sc = begins ns x sc
  begins ns (ts_if_else s c x y) sc =
      let here = left sc (step ns x sc).scope in
      begins_on sc.slots here.slots (step ns y here).scope.slots (begins ns x sc) (begins ns y here)
  begins ns (ts_spawn s x) sc = begins ns x sc

  pub begins_row : (ns : Names) (all : TypedRow) (sc : Scope) → Begins sc.slots (step_row ns all sc).scope.slots
  begins_row ns typed_end sc = begins_same sc.slots
  begins_row ns (typed_more x rest) sc =
      let here = (step ns x sc).scope in
      begins_on sc.slots here.slots (step_row ns rest here).scope.slots (begins ns x sc) (begins_row ns rest here)

-- the slot behind others
get_behind : (a more : List Ty) (ty d : Ty) → get_or ((a ++ ty ∷ []) ++ more) (length a) d ≡ ty
get_behind [] more ty d = refl
get_behind (x ∷ a) more ty d = get_behind a more ty d

long_behind : (a more : List Ty) (ty : Ty) → length a < length ((a ++ ty ∷ []) ++ more)
long_behind [] more ty = omega arith
long_behind (x ∷ a) more ty = let h = long_behind a more ty in omega (arith, h)

pub record HasSlot (slots : List Ty) (k : ℕ) (ty : Ty) : Type 0 where
  pub within : k < length slots
  pub is : get_or slots k u1 ≡ ty

pub has_slot : (a b : List Ty) (ty : Ty) → Begins (a ++ ty ∷ []) b → HasSlot b (length a) ty
has_slot a b ty g = record {
  within = subst (λ (z : List Ty). length a < length z) (sym g.is) (long_behind a g.more ty);
  is = ap (λ (z : List Ty). get_or z (length a) u1) g.is ∙ get_behind a g.more ty u1;
}

-- ---- behind a declaration
pub sees_local : (ns : Names) (slots : List Ty) (names : List Named) (sc : Scope) (n : List ℕ) (ty : Ty) (e : Expression) → Sees ns slots names sc.locals → role_of names n ≡ None
    → HasSlot slots (length sc.slots) ty → Sees ns slots (names ++ record { name = n; role = R.Local ty } ∷ []) (declared sc n ty e).scope.locals
sees_local ns slots names sc n ty e sees none has m =
    let new : Slot = record { name = n; ty = ty; slot = length sc.slots } in
    let x : Named = record { name = n; role = R.Local ty } in
    let P : Option Role → Type 0 = λ o. Stands ns slots (slot_in (new ∷ sc.locals) m) m o in
    subst P (sym (role_behind names x m)) (by (same_bytes n m) refl)
  where
    by : (b : Bool) → same_bytes n m ≡ b
        → Stands ns slots (cond b (Some (record { name = n; ty = ty; slot = length sc.slots })) (slot_in sc.locals m)) m (or_else (cond b (Some (R.Local ty)) None) (role_of names m))
    by true f =
        let same = same_equal n m f in
        let Q : Option Role → Type 0 = λ o. Stands ns slots (slot_in sc.locals m) m o in
        let old = subst Q (ap (role_of names) (sym same) ∙ none) (sees m) in
        (old.2, (record { name = n; ty = ty; slot = length sc.slots }, refl, refl, has.within, has.is))
    by false f = sees m
