-- Readers that are put behind those of the cells that they read.
use Rattle.std.proofs.Common.{◌≡◌, ◌≢◌, ◌⊎◌, inl, inr, ⊎_elim, ℕ, ◌+◌, ◌<◌, ◌≤◌, zero, suc, List, [], ◌∷◌, ◌++◌, length, get_or, set, arith, refl, ap, sym, ◌∙◌, subst, Contains}
use Rattle.std.proofs.lemmas.Bool.{cases_eq, cases_lt}
use Rattle.std.proofs.lemmas.List.{length-set, get_or-set_same, get_or-set_other}
use Rattle.std.proofs.lemmas.List.Elements.{Contains-append_left, Contains-append_right, Contains-append_cases, Contains-push, Contains-push_cases}
use Rattle.ix_vread.specs.Graphs.{Edge, AreReaders, AreReadersIn, Puts}
use Rattle.ix_vread.proofs.Marking.{only_one}

pub put_one : (cell reader : ℕ) (old : List (List ℕ)) (row : List ℕ) → cell < length old → row ≡ get_or old cell [] ++ reader ∷ [] → Puts (cell ∷ []) reader old (set old cell row)
put_one cell reader old row l e =
    let here : get_or (set old cell row) cell [] ≡ get_or old cell [] ++ reader ∷ [] = get_or-set_same old cell row [] l ∙ e in
    let there : (a : ℕ) → a ≢ cell → get_or (set old cell row) a [] ≡ get_or old a [] = λ a ne. get_or-set_other old cell a row [] ne in
    record {
      size = length-set old cell row;
      kept = λ a b h. ⊎_elim
          (λ (q : a ≡ cell). subst (λ z. Contains (get_or (set old cell row) z []) b) (sym q) (subst (λ z. Contains z b) (sym here) (Contains-append_left (get_or old cell []) (reader ∷ []) b (subst (λ z. Contains (get_or old z []) b) q h))))
          (λ (ne : a ≢ cell). subst (λ z. Contains z b) (sym (there a ne)) h) (cases_eq a cell);
      put = λ a la h. subst (λ z. Contains (get_or (set old cell row) z []) reader) (sym (only_one cell a h)) (subst (λ z. Contains z reader) (sym here) (Contains-push (get_or old cell []) reader));
      only = λ a b h. ⊎_elim
          (λ (q : a ≡ cell). ⊎_elim
          (λ (t : Contains (get_or old cell []) b). inl (subst (λ z. Contains (get_or old z []) b) (sym q) t))
          (λ (t : reader ≡ b). inr (omega (arith, l, q), subst (Contains (cell ∷ [])) (sym q) (0, omega arith, refl), sym t))
          (Contains-push_cases (get_or old cell []) reader b (subst (λ z. Contains z b) here (subst (λ z. Contains (get_or (set old cell row) z []) b) q h))))
          (λ (ne : a ≢ cell). inl (subst (λ z. Contains z b) (there a ne) h)) (cases_eq a cell);
    }

-- what is no cell has no readers
pub put_none : (cell reader : ℕ) (old : List (List ℕ)) → length old ≤ cell → Puts (cell ∷ []) reader old old
put_none cell reader old l = record {
  size = refl;
  kept = λ a b h. h;
  put = λ a la h. absurd (omega (arith, l, la, only_one cell a h));
  only = λ a b h. inl h;
}

pub puts_none : (reader : ℕ) (old : List (List ℕ)) → Puts [] reader old old
puts_none reader old = record {
  size = refl;
  kept = λ a b h. h;
  put = λ a la h. absurd (omega (arith, h.1));
  only = λ a b h. inl h;
}

pub puts_more : (xs ys : List ℕ) (reader : ℕ) (a b c : List (List ℕ)) → Puts xs reader a b → Puts ys reader b c → Puts (xs ++ ys) reader a c
puts_more xs ys reader a b c p q = record {
  size = q.size ∙ p.size;
  kept = λ k r h. q.kept k r (p.kept k r h);
  put = λ k l h. elim (Contains-append_cases xs ys k h) [
    | inl t ↦ q.kept k reader (p.put k l t)
    | inr t ↦ q.put k (omega (arith, l, p.size)) t
  ];
  only = λ k r h. elim (q.only k r h) [
    | inl t ↦ (elim (p.only k r t) [
      | inl u ↦ inl u
      | inr u ↦ inr (u.0, Contains-append_left xs ys k u.1, u.2)
    ])
    | inr t ↦ inr (omega (arith, t.0, p.size), Contains-append_right xs ys k t.1, t.2)
  ];
}

-- ---- cells one after another
pub readers_more : (graph : List (List ℕ)) (i : ℕ) (old new : List (List ℕ)) (read : List ℕ) → i < length graph → read ≡ get_or graph i [] → AreReadersIn graph i old → Puts read i old new
    → AreReadersIn graph (i + 1) new
readers_more graph i old new read l e r p = record {
  size = p.size ∙ r.size;
  from = λ a b h. elim (p.only a b h) [
    | inl t ↦ r.from a b t
    | inr t ↦ record { source = omega (arith, t.0, r.size); reader = omega (arith, l, t.2); reads = subst (λ z. Contains (get_or graph z []) a) (sym t.2) (subst (λ z. Contains z a) e t.1) }
  ];
  to = λ a b lb d. ⊎_elim
      (λ (q : b ≡ i). subst (Contains (get_or new a [])) (sym q)
      (p.put a (omega (arith, d.source, r.size)) (subst (λ z. Contains z a) (sym e) (subst (λ z. Contains (get_or graph z []) a) q d.reads))))
      (λ (ne : b ≢ i). p.kept a b (r.to a b (omega (arith, lb, ne)) d)) (cases_eq b i);
}

pub readers_all : (graph readers : List (List ℕ)) (i : ℕ) → length graph ≤ i → AreReadersIn graph i readers → AreReaders graph readers
readers_all graph readers i l r = record {
  size = r.size;
  from = r.from;
  to = λ a b d. r.to a b (omega (arith, l, d.reader)) d;
}

-- empty lists
pub empty_push : (xs : List (List ℕ)) → ((a : ℕ) → get_or xs a [] ≡ []) → (a : ℕ) → get_or (xs ++ [] ∷ []) a [] ≡ []
empty_push [] h zero = refl
empty_push [] h (suc a) = refl
empty_push (x ∷ xs) h zero = h 0
empty_push (x ∷ xs) h (suc a) = empty_push xs (λ b. h (suc b)) a

pub readers_none : (graph readers : List (List ℕ)) → length readers ≡ length graph → ((a : ℕ) → get_or readers a [] ≡ []) → AreReadersIn graph 0 readers
readers_none graph readers size none = record {
  size = size;
  from = λ a b h. absurd (let q : Contains [] b = subst (λ z. Contains z b) (none a) h in omega (arith, q.1));
  to = λ a b l. absurd (omega (arith, l));
}
