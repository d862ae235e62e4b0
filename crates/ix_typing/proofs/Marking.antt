-- A set that keeps the numbers of the targets that are written, where one is written or taken back.
use Rattle.std.proofs.Common.{◌≡◌, ◌∙◌, sym, ap, refl, arith, ℕ, suc, ◌+◌, ◌≤◌, List, [], ◌∷◌, ◌++◌, Bool, true, false, cond, not, ◌&&◌, ◌||◌, append_assoc}
use Rattle.std.specs.Prelude.{nat_eq, nat_lt}
use Rattle.std.specs.Ordering.{nat_cmp, is_eq}
use Rattle.std.specs.BTreeSet.{BTreeSet, contains}
use Rattle.std.specs.BTreeMap.{is_at}
use Rattle.std.specs.declared.cmp.Ordering.TheVariants.{Less, Equal, Greater}
use Rattle.std.proofs.lemmas.Bool.{eqb-true, eq-eqb, ltb-true, false≢true}
use Rattle.std.specs.Cmp.{both_ways}
use Rattle.ix_typing.specs.declared.targets.Target.{Target}
use Rattle.ix_typing.specs.declared.targets.Target.TheVariants as T
use Rattle.ix_typing.specs.Kept.{first_writes, IsMarked}
use Rattle.ix_typing.specs.Names.{is_among, same_target, number_of}

-- ---- numbers of targets
compared : (a b : ℕ) (l e : Bool) → nat_lt a b ≡ l → nat_eq a b ≡ e → is_eq (cond l Less (cond e Equal Greater)) ≡ e
compared a b true true p q = refl_false (ltb-true a b p) (eqb-true a b q)
  where
    refl_false : suc a ≤ b → a ≡ b → false ≡ true
    refl_false h e = absurd (omega (arith, h, e))
compared a b true false p q = refl
compared a b false true p q = refl
compared a b false false p q = refl

compares : (a b : ℕ) → is_eq (nat_cmp a b) ≡ nat_eq a b
compares a b = compared a b (nat_lt a b) (nat_eq a b) refl refl

three_more : (m n : ℕ) → nat_eq (m + 3) (n + 3) ≡ nat_eq m n
three_more m n = both_ways (nat_eq (m + 3) (n + 3)) (nat_eq m n) (λ h. eq-eqb m n (less m n (eqb-true (m + 3) (n + 3) h))) (λ h. eq-eqb (m + 3) (n + 3) (ap (λ (k : ℕ). k + 3) (eqb-true m n h)))
  where
    less : (a b : ℕ) → a + 3 ≡ b + 3 → a ≡ b
    less a b e = omega (arith, e)

apart : (a b : ℕ) → (a ≡ b → ⊥) → nat_eq a b ≡ false
apart a b h = decided (nat_eq a b) refl
  where
    decided : (c : Bool) → nat_eq a b ≡ c → nat_eq a b ≡ false
    decided true e = absurd (h (eqb-true a b e))
    decided false e = e

same_number : (a b : Target) → nat_eq (number_of a) (number_of b) ≡ same_target a b
same_number T.Memory T.Memory = refl
same_number T.Memory T.Rd = refl
same_number T.Memory T.Pc = refl
same_number T.Memory (T.Register n) = apart 0 (n + 3) (λ e. omega (arith, e))
same_number T.Rd T.Memory = refl
same_number T.Rd T.Rd = refl
same_number T.Rd T.Pc = refl
same_number T.Rd (T.Register n) = apart 1 (n + 3) (λ e. omega (arith, e))
same_number T.Pc T.Memory = refl
same_number T.Pc T.Rd = refl
same_number T.Pc T.Pc = refl
same_number T.Pc (T.Register n) = apart 2 (n + 3) (λ e. omega (arith, e))
same_number (T.Register m) T.Memory = apart (m + 3) 0 (λ e. omega (arith, e))
same_number (T.Register m) T.Rd = apart (m + 3) 1 (λ e. omega (arith, e))
same_number (T.Register m) T.Pc = apart (m + 3) 2 (λ e. omega (arith, e))
same_number (T.Register m) (T.Register n) = three_more m n

one_target : (a b : Target) → same_target a b ≡ true → a ≡ b
one_target T.Memory T.Memory e = refl
one_target T.Rd T.Rd e = refl
one_target T.Pc T.Pc e = refl
one_target (T.Register m) (T.Register n) e = ap T.Register (eqb-true m n e)
one_target T.Memory T.Rd e = absurd (false≢true e)
one_target T.Memory T.Pc e = absurd (false≢true e)
one_target T.Memory (T.Register n) e = absurd (false≢true e)
one_target T.Rd T.Memory e = absurd (false≢true e)
one_target T.Rd T.Pc e = absurd (false≢true e)
one_target T.Rd (T.Register n) e = absurd (false≢true e)
one_target T.Pc T.Memory e = absurd (false≢true e)
one_target T.Pc T.Rd e = absurd (false≢true e)
one_target T.Pc (T.Register n) e = absurd (false≢true e)
one_target (T.Register m) T.Memory e = absurd (false≢true e)
one_target (T.Register m) T.Rd e = absurd (false≢true e)
one_target (T.Register m) T.Pc e = absurd (false≢true e)

asks : (t u : Target) → is_at (nat_cmp (number_of t)) (number_of u) ≡ same_target t u
asks t u = compares (number_of t) (number_of u) ∙ same_number t u

-- ---- one more write
or_switch : (a b c : Bool) → (a || (b || c)) ≡ (b || (a || c))
or_switch true true c = refl
or_switch true false c = refl
or_switch false b c = refl

among_push : (xs : List Target) (t u : Target) → is_among (xs ++ t ∷ []) u ≡ (same_target t u || is_among xs u)
among_push [] t u = refl
among_push (x ∷ xs) t u = ap (λ (b : Bool). same_target x u || b) (among_push xs t u) ∙ or_switch (same_target x u) (same_target t u) (is_among xs u)

chosen : (b c : Bool) → cond b true c ≡ (b || c)
chosen true c = refl
chosen false c = refl

nil_right : (xs : List Target) → xs ++ [] ≡ xs
nil_right [] = refl
nil_right (x ∷ xs) = ap (λ (z : List Target). x ∷ z) (nil_right xs)

first_push : (front xs : List Target) (t : Target) → first_writes front (xs ++ t ∷ []) ≡ first_writes front xs ++ not (is_among (front ++ xs) t) ∷ []
first_push front [] t = ap (λ (z : List Target). not (is_among z t) ∷ []) (sym (nil_right front))
first_push front (x ∷ xs) t =
    ap (λ (z : List Bool). not (is_among front x) ∷ z)
    (first_push (front ++ x ∷ []) xs t ∙ ap (λ (z : List Target). first_writes (front ++ x ∷ []) xs ++ not (is_among z t) ∷ []) (append_assoc front (x ∷ []) xs))

pub marked_push : (items now : List Target) (first after : List Bool) (numbers new : BTreeSet ℕ) (t : Target) (added : Bool)
    → ((q : ℕ) → contains nat_cmp new q ≡ cond (is_at (nat_cmp (number_of t)) q) true (contains nat_cmp numbers q)) → added ≡ not (contains nat_cmp numbers (number_of t))
    → now ≡ items ++ t ∷ [] → after ≡ first ++ added ∷ [] → IsMarked items first numbers → IsMarked now after new
marked_push items now first after numbers new t added updates was e f kept = record {
  found = λ u.
      updates (number_of u) ∙ ap (λ (b : Bool). cond b true (contains nat_cmp numbers (number_of u))) (asks t u)
      ∙ ap (λ (b : Bool). cond (same_target t u) true b) (kept.found u) ∙ chosen (same_target t u) (is_among items u)
      ∙ sym (among_push items t u) ∙ ap (λ (z : List Target). is_among z u) (sym e);
  undone =
      f ∙ ap (λ (z : List Bool). z ++ added ∷ []) kept.undone ∙ ap (λ (b : Bool). first_writes [] items ++ b ∷ []) (was ∙ ap not (kept.found t))
      ∙ sym (first_push [] items t) ∙ ap (first_writes []) (sym e);
}

-- ---- the last write is taken back
last_two : (bs cs : List Bool) (b c : Bool) → bs ++ b ∷ [] ≡ cs ++ c ∷ [] → (bs ≡ cs) × (b ≡ c)
last_two [] [] b c e = (refl, cc)
last_two [] (y ∷ []) b c e = cc
last_two [] (y ∷ z ∷ cs) b c e = cc
last_two (x ∷ []) [] b c e = cc
last_two (x ∷ z ∷ bs) [] b c e = cc
last_two (x ∷ bs) (y ∷ cs) b c e =
    let rest : bs ++ b ∷ [] ≡ cs ++ c ∷ [] = cc in
    let h : x ≡ y = cc in
    let more = last_two bs cs b c rest in
    (rw (h, more.0) refl, more.1)

taken_back : (items : List Target) (t u : Target) (b : Bool) → same_target t u ≡ b → true ≡ not (is_among items t) → cond b false (b || is_among items u) ≡ is_among items u
taken_back items t u true e h =
    let one : t ≡ u = one_target t u e in
    sym (ap (is_among items) (sym one) ∙ off (is_among items t) h)
  where
    off : (c : Bool) → true ≡ not c → c ≡ false
    off true h = h
    off false h = refl
taken_back items t u false e h = refl

kept_there : (items : List Target) (t u : Target) (b : Bool) → same_target t u ≡ b → false ≡ not (is_among items t) → (b || is_among items u) ≡ is_among items u
kept_there items t u true e h =
    let one : t ≡ u = one_target t u e in
    sym (ap (is_among items) (sym one) ∙ on (is_among items t) h)
  where
    on : (c : Bool) → false ≡ not c → c ≡ true
    on true h = refl
    on false h = h
kept_there items t u false e h = refl

-- the last write is taken back, and with the first write of a target its number
pub marked_pop : (items : List Target) (first : List Bool) (numbers new : BTreeSet ℕ) (t : Target) (flag : Bool)
    → IsMarked (items ++ t ∷ []) (first ++ flag ∷ []) numbers
    → ((q : ℕ) → contains nat_cmp new q ≡ cond (flag && is_at (nat_cmp (number_of t)) q) false (contains nat_cmp numbers q)) → IsMarked items first new
marked_pop items first numbers new t true kept updates =
    let two = last_two first (first_writes [] items) true (not (is_among items t)) (kept.undone ∙ first_push [] items t) in
    record {
      found = λ u.
          updates (number_of u) ∙ ap (λ (b : Bool). cond b false (contains nat_cmp numbers (number_of u))) (asks t u)
          ∙ ap (λ (b : Bool). cond (same_target t u) false b) (kept.found u ∙ among_push items t u) ∙ taken_back items t u (same_target t u) refl two.1;
      undone = two.0;
    }
marked_pop items first numbers new t false kept updates =
    let two = last_two first (first_writes [] items) false (not (is_among items t)) (kept.undone ∙ first_push [] items t) in
    record {
      found = λ u. updates (number_of u) ∙ kept.found u ∙ among_push items t u ∙ kept_there items t u (same_target t u) refl two.1;
      undone = two.0;
    }
