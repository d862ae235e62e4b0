-- One byte more of the other text, and the end of it.
use Rattle.std.proofs.Common.{◌≡◌, ◌∙◌, refl, sym, ap, subst, ℕ, suc, ◌+◌, List, [], ◌∷◌, ◌++◌, length, get_or, Bool, true, false, arith, inl, inr}
use Rattle.std.specs.Prelude.{◌==◌, ◌&&◌, nat_lt, if◌then◌else◌}
use Rattle.std.proofs.lemmas.List.{append-nil, append_assoc, append_cancel_left, length-append}
use Rattle.std.proofs.lemmas.Bool.{cases_Bool}
use Rattle.rv_reader.specs.Traces.{feeds}
use Rattle.rv_ending.specs.declared.compare.Compared.{Compared}
use Rattle.rv_ending.specs.Differing.{common, IsDifferingLine, IsCompared, with_next}
use Rattle.rv_ending.proofs.Common.{feeds_join, feeds_one, common_front, common_other, common_end, common_past}

abbrev same_at : ℕ → ℕ → Compared
same_at at line = record { at = at; line = line; is_same = true }

-- what is known of a text that begins with the other one
front_at : (first : ℕ) (text a rest : List ℕ) (c : Compared) → IsCompared first text a c → text ≡ a ++ rest → (c.at ≡ length a) × (c.line ≡ first + feeds a)
front_at first text a rest c is e =
    let p : common text a ≡ a = ap (λ t. common t a) e ∙ common_front a rest in
    (is.at ∙ ap (λ l. length l) p, is.line ∙ ap (λ l. first + feeds l) p)

-- of a text that begins with another one, what is known of the two
front_known : (first : ℕ) (text a rest : List ℕ) (at line : ℕ) → text ≡ a ++ rest → at ≡ length a → line ≡ first + feeds a → IsCompared first text a (same_at at line)
front_known first text a rest at line e p q =
    let r : common text a ≡ a = ap (λ t. common t a) e ∙ common_front a rest in
    record {
      at = p ∙ ap (λ l. length l) (sym r);
      line = q ∙ ap (λ l. first + feeds l) (sym r);
      only = λ s. (rest, e);
      all = λ other f. refl;
    }

-- it goes on otherwise
other_known : (first : ℕ) (text a : List ℕ) (b at line : ℕ) → common text (a ++ b ∷ []) ≡ a → at ≡ length a → line ≡ first + feeds a → ((rest : List ℕ) → text ≡ (a ++ b ∷ []) ++ rest → ⊥)
    → IsCompared first text (a ++ b ∷ []) (record { at = at; line = line; is_same = false })
other_known first text a b at line r p q f = record {
  at = p ∙ ap (λ l. length l) (sym r);
  line = q ∙ ap (λ l. first + feeds l) (sym r);
  only = λ s. cc;
  all = λ rest e. absurd (f rest e);
}

head_same : (x y : ℕ) (l m : List ℕ) → x ∷ l ≡ y ∷ m → x ≡ y
head_same x y l m e = cc

pub next_known : (first : ℕ) (text a : List ℕ) (b : ℕ) (c : Compared) → IsCompared first text a c → IsCompared first text (a ++ b ∷ []) (with_next text b c)
next_known first text a b c is = by c.is_same refl where
  -- already otherwise
  past : c.is_same ≡ false → IsCompared first text (a ++ b ∷ []) c
  past s =
      let no : (rest : List ℕ) → text ≡ a ++ rest → ⊥ = λ rest e. (let x = is.all rest e in cc) in
      let r = common_past text a (b ∷ []) no in
      record {
        at = is.at ∙ ap (λ l. length l) (sym r);
        line = is.line ∙ ap (λ l. first + feeds l) (sym r);
        only = λ t. cc;
        all = λ rest e. absurd (no (b ∷ rest) (e ∙ append_assoc a (b ∷ []) rest));
      }

  ends : (rest : List ℕ) → text ≡ a ++ rest → rest ≡ [] → (nat_lt c.at (length text) && (get_or text c.at 0 == b)) ≡ false
  ends rest e n =
      let p = (front_at first text a rest c is e).0 in
      let l : length text ≡ length a + length rest = ap (λ t. length t) e ∙ length-append a rest in
      let z : length rest ≡ 0 = ap (λ t. length t) n in
      grind (arith, p, l, z)

  going : (rest : List ℕ) → text ≡ a ++ rest → IsCompared first text (a ++ b ∷ []) (if nat_lt c.at (length text) && (get_or text c.at 0 == b) then record { at = c.at + 1; line = if b == 10 then c.line + 1 else c.line; is_same = true } else record { at = c.at; line = c.line; is_same = false })
  going [] e =
      let t : text ≡ a = e ∙ append-nil a in
      let p = front_at first text a [] c is e in
      rw (ends [] e refl)
      (other_known first text a b c.at c.line (ap (λ x. common x (a ++ b ∷ [])) t ∙ common_end a (b ∷ [])) p.0 p.1
      (λ rest f. (let l : length text ≡ length a + 1 + length rest = ap (λ x. length x) f ∙ length-append (a ++ b ∷ []) rest ∙ ap (λ n. n + length rest) (length-append a (b ∷ [])) in
      let m : length text ≡ length a = ap (λ x. length x) t in absurd (omega (arith, l, m)))))
  going (d ∷ rest) e = elim (cases_Bool (d == b)) [
    | inl same ↦ rw (passes same)
        (let db = equal d b same in
        let p = front_at first text a (d ∷ rest) c is e in
        front_known first text (a ++ b ∷ []) rest (c.at + 1) (if b == 10 then c.line + 1 else c.line)
        (e ∙ ap (λ x. a ++ x ∷ rest) db ∙ sym (append_assoc a (b ∷ []) rest))
        (ap (λ n. n + 1) p.0 ∙ sym (length-append a (b ∷ [])))
        (counts p.1))
    | inr other ↦ rw (fails other)
        (let p = front_at first text a (d ∷ rest) c is e in
        other_known first text a b c.at c.line (ap (λ x. common x (a ++ b ∷ [])) e ∙ common_other a rest d b other) p.0 p.1
        (λ more f. (let q = append_cancel_left a (d ∷ rest) (b ∷ more) (sym e ∙ f ∙ append_assoc a (b ∷ []) more) in
        let h = head_same d b rest more q in differs d b other h)))
  ] where
    equal : (m n : ℕ) → (m == n) ≡ true → m ≡ n
    equal m n e = grind arith

    differs : (m n : ℕ) → (m == n) ≡ false → m ≡ n → ⊥
    differs m n e f = grind arith

    within : nat_lt c.at (length text) ≡ true
    within =
        let p = (front_at first text a (d ∷ rest) c is e).0 in
        let l : length text ≡ length a + suc (length rest) = ap (λ t. length t) e ∙ length-append a (d ∷ rest) in
        grind (arith, p, l)

    read : get_or text c.at 0 ≡ d
    read = ap (λ n. get_or text n 0) (front_at first text a (d ∷ rest) c is e).0 ∙ ap (λ t. get_or t (length a) 0) e ∙ at_end a rest d where
      at_end : (l r : List ℕ) (x : ℕ) → get_or (l ++ x ∷ r) (length l) 0 ≡ x
      at_end [] r x = refl
      at_end (y ∷ l) r x = at_end l r x

    passes : (d == b) ≡ true → (nat_lt c.at (length text) && (get_or text c.at 0 == b)) ≡ true
    passes s = rw within (rw read s)

    fails : (d == b) ≡ false → (nat_lt c.at (length text) && (get_or text c.at 0 == b)) ≡ false
    fails s = rw within (rw read s)

    counts : c.line ≡ first + feeds a → (if b == 10 then c.line + 1 else c.line) ≡ first + feeds (a ++ b ∷ [])
    counts q = elim (cases_Bool (b == 10)) [
      | inl x ↦ rw x (let j = feeds_join a (b ∷ []) in let o = feeds_one b ∙ ap (λ (t : Bool). if t then 1 else 0) x in omega (arith, q, j, o))
      | inr x ↦ rw x (let j = feeds_join a (b ∷ []) in let o = feeds_one b ∙ ap (λ (t : Bool). if t then 1 else 0) x in omega (arith, q, j, o))
    ]

  by : (s : Bool) → c.is_same ≡ s → IsCompared first text (a ++ b ∷ []) (with_next text b c)
  by false s = subst (λ (t : Bool). IsCompared first text (a ++ b ∷ []) (if t then (if nat_lt c.at (length text) && (get_or text c.at 0 == b) then record { at = c.at + 1; line = if b == 10 then c.line + 1 else c.line; is_same = true } else record { at = c.at; line = c.line; is_same = false }) else c)) (sym s) (past s)
  by true s =
      let r = is.only s in
      subst (λ (t : Bool). IsCompared first text (a ++ b ∷ []) (if t then (if nat_lt c.at (length text) && (get_or text c.at 0 == b) then record { at = c.at + 1; line = if b == 10 then c.line + 1 else c.line; is_same = true } else record { at = c.at; line = c.line; is_same = false }) else c)) (sym s) (going r.0 r.1)

common_self : (a : List ℕ) → common a a ≡ a
common_self a = ap (λ t. common a t) (sym (append-nil a)) ∙ common_end a []

first_true : (x y : Bool) → (x && y) ≡ true → x ≡ true
first_true true y e = refl
first_true false y e = e

second_true : (x y : Bool) → (x && y) ≡ true → y ≡ true
second_true true y e = e
second_true false y e = cc

same_number : (m n : ℕ) → (m == n) ≡ true → m ≡ n
same_number m n e = grind arith

nothing : (l : List ℕ) → length l ≡ 0 → l ≡ []
nothing [] e = refl
nothing (x ∷ l) e = absurd (omega (arith, e))

-- the whole text was compared
pub ended : (first : ℕ) (text other : List ℕ) (c : Compared) → IsCompared first text other c → (c.is_same && (c.at == length text)) ≡ true → text ≡ other
ended first text other c is e =
    let r = is.only (first_true c.is_same (c.at == length text) e) in
    let p = (front_at first text other r.0 c is r.1).0 in
    let l : length text ≡ length other + length r.0 = ap (λ t. length t) r.1 ∙ length-append other r.0 in
    let q = same_number c.at (length text) (second_true c.is_same (c.at == length text) e) in
    let n : r.0 ≡ [] = nothing r.0 (omega (arith, p, l, q)) in
    r.1 ∙ ap (λ t. other ++ t) n ∙ append-nil other

both_true : (x : Bool) (m n : ℕ) → x ≡ true → m ≡ n → (x && (m == n)) ≡ true
both_true x m n e f = rw e (grind (arith, f))

clash : (x : Bool) → x ≡ true → x ≡ false → ⊥
clash x e f = cc

pub not_ended : (first : ℕ) (text other : List ℕ) (c : Compared) → IsCompared first text other c → (c.is_same && (c.at == length text)) ≡ false → IsDifferingLine first text other c.line
not_ended first text other c is e = record {
  differ = λ f. (
      let s : c.is_same ≡ true = is.all [] (f ∙ sym (append-nil other)) in
      let p : c.at ≡ length text = is.at ∙ ap (λ t. length t) (ap (λ t. common text t) (sym f) ∙ common_self text) in
      clash (c.is_same && (c.at == length text)) (both_true c.is_same c.at (length text) s p) e);
  line_is = is.line;
}
