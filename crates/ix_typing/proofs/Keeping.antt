-- A map that keeps the roles of names, where one is declared or taken away, and a set of names.
use Rattle.std.proofs.Common.{◌≡◌, ◌∙◌, sym, ap, refl, ℕ, List, [], ◌∷◌, ◌++◌, Option, Some, None, Bool, true, false, cond, ◌||◌, String, BTreeMap, IsSome, append_assoc}
use Rattle.std.specs.BTreeMap.{get_by_text}
use Rattle.std.specs.Map.{update}
use Rattle.std.specs.Cmp.Lexicographic.{bytes_decides}
use Rattle.std.specs.Str.{bytes_eq}
use Rattle.ix_tree.specs.Lexing.{same_bytes}
use Rattle.ix_tree.proofs.Names.{same_is}
use Rattle.ix_typing.specs.declared.role.Named.{Named}
use Rattle.ix_typing.specs.declared.role.Role.{Role}
use Rattle.ix_typing.specs.Kept.{roles_before, IsKept}
use Rattle.ix_typing.specs.Names.{role_of, or_else, is_listed}

or_else_none : (a : Option Role) → a ≡ or_else a None
or_else_none None = refl
or_else_none (Some r) = refl

or_else_assoc : (a b c : Option Role) → or_else (or_else a b) c ≡ or_else a (or_else b c)
or_else_assoc None b c = refl
or_else_assoc (Some r) b c = refl

abbrev at : Named → List ℕ → Option Role
at x n = cond (same_bytes x.name n) (Some x.role) None

-- the role of a name behind one more declaration
role_push : (xs : List Named) (x : Named) (n : List ℕ) → role_of (xs ++ x ∷ []) n ≡ or_else (at x n) (role_of xs n)
role_push [] x n = or_else_none (at x n)
role_push (y ∷ xs) x n = ap (λ (z : Option Role). or_else z (at y n)) (role_push xs x n) ∙ or_else_assoc (at x n) (role_of xs n) (at y n)

picked : (b : Bool) (r : Role) (o : Option Role) → cond b (Some r) o ≡ or_else (cond b (Some r) None) o
picked true r o = refl
picked false r o = refl

role_updated : (xs : List Named) (x : Named) (n : List ℕ) → update bytes_eq (role_of xs) x.name (Some x.role) n ≡ role_of (xs ++ x ∷ []) n
role_updated xs x n =
    ap (λ (b : Bool). cond b (Some x.role) (role_of xs n)) (same_is x.name n) ∙ picked (same_bytes x.name n) x.role (role_of xs n) ∙ sym (role_push xs x n)

before_push : (front xs : List Named) (x : Named) → roles_before front (xs ++ x ∷ []) ≡ roles_before front xs ++ role_of (front ++ xs) x.name ∷ []
before_push front [] x = ap (λ (z : List Named). role_of z x.name ∷ []) (sym (append_nil front))
  where
    append_nil : (ys : List Named) → ys ++ [] ≡ ys
    append_nil [] = refl
    append_nil (y ∷ ys) = ap (λ (z : List Named). y ∷ z) (append_nil ys)
before_push front (y ∷ xs) x =
    ap (λ (z : List (Option Role)). role_of front y.name ∷ z)
    (before_push (front ++ y ∷ []) xs x ∙ ap (λ (z : List Named). roles_before (front ++ y ∷ []) xs ++ role_of z x.name ∷ []) (append_assoc front (y ∷ []) xs))

module _ {Y : Type 0} where
  -- one more declaration
  pub kept_push : (items now : List Named) (before after : List (Option Role)) (roles new : BTreeMap (String Y) Role) (x : Named) (old : Option Role)
      → ((n : List ℕ) → get_by_text new n ≡ update bytes_eq (get_by_text roles) x.name (Some x.role) n) → old ≡ get_by_text roles x.name
      → now ≡ items ++ x ∷ [] → after ≡ before ++ old ∷ [] → IsKept items before roles → IsKept now after new
  kept_push items now before after roles new x old updates was e f kept = record {
    found = λ n. updates n ∙ ap (λ (z : Option Role). cond (bytes_eq x.name n) (Some x.role) z) (kept.found n) ∙ role_updated items x n ∙ ap (λ (z : List Named). role_of z n) (sym e);
    undone =
        f ∙ ap (λ (z : List (Option Role)). z ++ old ∷ []) kept.undone ∙ ap (λ (o : Option Role). roles_before [] items ++ o ∷ []) (was ∙ kept.found x.name)
        ∙ sym (before_push [] items x) ∙ ap (roles_before []) (sym e);
  }

-- lists that end alike
last_is : (bs cs : List (Option Role)) (b c : Option Role) → bs ++ b ∷ [] ≡ cs ++ c ∷ [] → (bs ≡ cs) × (b ≡ c)
last_is [] [] b c e = (refl, cc)
last_is [] (y ∷ []) b c e = cc
last_is [] (y ∷ z ∷ cs) b c e = cc
last_is (x ∷ []) [] b c e = cc
last_is (x ∷ z ∷ bs) [] b c e = cc
last_is (x ∷ bs) (y ∷ cs) b c e =
    let rest : bs ++ b ∷ [] ≡ cs ++ c ∷ [] = cc in
    let h : x ≡ y = cc in
    let more = last_is bs cs b c rest in
    (rw (h, more.0) refl, more.1)

same_self : (n : List ℕ) → same_bytes n n ≡ true
same_self n = sym (same_is n n) ∙ bytes_same n
  where
    bytes_same : (m : List ℕ) → bytes_eq m m ≡ true
    bytes_same m = (bytes_decides m m).1 refl

taken : (items : List Named) (x : Named) (old : Option Role) (n : List ℕ) (b : Bool) → bytes_eq x.name n ≡ b → old ≡ role_of items x.name
    → cond b old (cond b (Some x.role) (role_of items n)) ≡ role_of items n
taken items x old n true e h = h ∙ ap (role_of items) ((bytes_decides x.name n).0 e)
taken items x old n false e h = refl

module _ {Y : Type 0} where
  -- the last declaration is visible
  pub kept_last : (items : List Named) (before : List (Option Role)) (roles : BTreeMap (String Y) Role) (x : Named)
      → IsKept (items ++ x ∷ []) before roles → IsSome (get_by_text roles x.name)
  kept_last items before roles x kept =
      let e : get_by_text roles x.name ≡ Some x.role = kept.found x.name ∙ role_push items x x.name ∙ ap (λ (b : Bool). or_else (cond b (Some x.role) None) (role_of items x.name)) (same_self x.name) in
      rw e refl

  -- the last declaration is taken away
  pub kept_pop : (items : List Named) (before : List (Option Role)) (roles new : BTreeMap (String Y) Role) (x : Named) (old : Option Role)
      → IsKept (items ++ x ∷ []) (before ++ old ∷ []) roles → ((n : List ℕ) → get_by_text new n ≡ update bytes_eq (get_by_text roles) x.name old n) → IsKept items before new
  kept_pop items before roles new x old kept updates =
      let two = last_is before (roles_before [] items) old (role_of items x.name) (kept.undone ∙ before_push [] items x) in
      record {
        found = λ n.
            updates n ∙ ap (λ (z : Option Role). cond (bytes_eq x.name n) old z) (kept.found n ∙ sym (role_updated items x n))
            ∙ taken items x old n (bytes_eq x.name n) refl two.1;
        undone = two.0;
      }

-- ---- names that are listed
or_false : (b : Bool) → b ≡ (b || false)
or_false true = refl
or_false false = refl

or_assoc : (a b c : Bool) → (a || (b || c)) ≡ (b || (a || c))
or_assoc true true c = refl
or_assoc true false c = refl
or_assoc false b c = refl

listed_behind : (xs : List (List ℕ)) (x n : List ℕ) → is_listed (xs ++ x ∷ []) n ≡ (same_bytes x n || is_listed xs n)
listed_behind [] x n = refl
listed_behind (y ∷ xs) x n = ap (λ (b : Bool). same_bytes y n || b) (listed_behind xs x n) ∙ or_assoc (same_bytes y n) (same_bytes x n) (is_listed xs n)

chosen : (b c : Bool) → cond b true c ≡ (b || c)
chosen true c = refl
chosen false c = refl

-- one more name is listed
pub listed_push : (items now : List (List ℕ)) (x : List ℕ) (old new : List ℕ → Bool)
    → ((n : List ℕ) → new n ≡ cond (bytes_eq x n) true (old n)) → now ≡ items ++ x ∷ [] → ((n : List ℕ) → old n ≡ is_listed items n) → (n : List ℕ) → new n ≡ is_listed now n
listed_push items now x old new updates e kept n =
    updates n ∙ ap (λ (b : Bool). cond (bytes_eq x n) true b) (kept n) ∙ chosen (bytes_eq x n) (is_listed items n)
    ∙ ap (λ (b : Bool). b || is_listed items n) (same_is x n) ∙ sym (listed_behind items x n) ∙ ap (λ (z : List (List ℕ)). is_listed z n) (sym e)
