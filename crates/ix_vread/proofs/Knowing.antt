-- What is known of the cells as an order is gone through from its end.
use Rattle.std.proofs.Common.{◌≡◌, ◌≢◌, ◌⊎◌, inl, inr, ⊎_elim, ℕ, ◌+◌, ◌<◌, ◌≤◌, zero, suc, List, [], ◌∷◌, Option, Some, None, length, get_or, set, take, replicate, arith, refl, ap, sym, ◌∙◌, subst, Contains}
use Rattle.std.specs.Prelude.{MatchOption}
use Rattle.std.proofs.lemmas.Bool.{cases_eq, cases_lt}
use Rattle.std.proofs.lemmas.List.{length-set, length-replicate, get_or-replicate}
use Rattle.ix_net.specs.Chain.{Chain, one, more}
use Rattle.ix_net.proofs.Rank.{chain_join}
use Rattle.ix_vread.specs.declared.mark.Mark.{Mark}
use Rattle.ix_vread.specs.declared.mark.Mark.TheVariants.{New, Free, Looped}
use Rattle.ix_vread.specs.Graphs.{Edge, IsOnLoop, IsFirstOnLoop, HasNoLoop, AreReaders}
use Rattle.ix_vread.specs.Orders.{Follows, AreLeft, IsOrder}
use Rattle.ix_vread.specs.Searches.{Feeds, mark_at, IsNew, IsLooped, FeedsNew, Reaches, AreKnown, AreLoops}
use Rattle.ix_vread.proofs.Marking.{stands, before_place, to_before, longer}
use Rattle.ix_vread.proofs.Looking.{new_looped, new_free, free_looped, looped_from, new_within, set_here, set_there}

-- ---- chains
chain_map : (P Q : ℕ → ℕ → Type 0) → ((a b : ℕ) → P a b → Q a b) → (a b : ℕ) → Chain P a b → Chain Q a b
chain_map P Q h a b (one d) = one (h a b d)
chain_map P Q h a b (more {y = y} c d) = more (chain_map P Q h a y c) (h y b d)

follows_join : (F : ℕ → ℕ → Type 0) (a b c : ℕ) → Follows F a b → Follows F b c → Follows F a c
follows_join F a b c f g = elim f [
  | inl e ↦ subst (λ x. Follows F x c) (sym e) g
  | inr d ↦ (elim g [
    | inl e ↦ inr (subst (Chain F a) e d)
    | inr h ↦ inr (chain_join d h)
  ])
]

-- a step to a cell that is left at this place or before
abbrev Before : (ℕ → ℕ → Type 0) → List ℕ → ℕ → ℕ → ℕ → Type 0
Before F order place a b = F a b × Contains (take (place + 1) order) b

end_of : (F : ℕ → ℕ → Type 0) (order : List ℕ) (place a b : ℕ) → Chain (Before F order place) a b → Contains (take (place + 1) order) b
end_of F order place a b (one d) = d.1
end_of F order place a b (more c d) = d.1

-- What depends on a cell by cells that were left before it, that cell depends on. Said of each cell from there on: it leads to the one at this place.
heads : (F : ℕ → ℕ → Type 0) (n : ℕ) (order : List ℕ) (place r : ℕ) → AreLeft F n order → place < length order → get_or order place 0 ≡ r
    → (x : ℕ) → Chain (Before F order place) r x → (j : ℕ) → j ≤ place → Contains (take (j + 1) order) x → Follows F (get_or order j 0) r
heads F n order place r left lp er x (one d) j lj c =
    let b = before_place order (j + 1) x c in
    let f : F r (get_or order b.0 0) = subst (F r) (sym b.3) d.0 in
    ⊎_elim (λ (q : Contains (take j order) r). absurd (left.once place lp (subst (Contains (take place order)) (sym er) (longer order j place r lj q))))
    (λ (q : Follows F (get_or order j 0) r). q)
    (left.turned b.0 j r (omega (arith, b.1)) (omega (arith, lj, lp)) f)
heads F n order place r left lp er x (more {y = z} ch d) j lj c =
    let b = before_place order (j + 1) x c in
    let f : F z (get_or order b.0 0) = subst (F z) (sym b.3) d.0 in
    let bz = before_place order (place + 1) z (end_of F order place r z ch) in
    let hz : Follows F (get_or order bz.0 0) r = heads F n order place r left lp er z ch bz.0 (omega (arith, bz.1)) (to_before order (bz.0 + 1) bz.0 z (omega arith) bz.2 bz.3) in
    ⊎_elim (λ (q : Contains (take j order) z). heads F n order place r left lp er z ch j lj (longer order j (j + 1) z (omega arith) q))
    (λ (q : Follows F (get_or order j 0) z). follows_join F (get_or order j 0) z r q (subst (λ x. Follows F x r) bz.3 hz))
    (left.turned b.0 j z (omega (arith, b.1)) (omega (arith, lj, lp)) f)

turns_back : (F : ℕ → ℕ → Type 0) (n : ℕ) (order : List ℕ) (place r : ℕ) → AreLeft F n order → place < length order → get_or order place 0 ≡ r
    → (x : ℕ) → Chain (Before F order place) r x → Follows F x r
turns_back F n order place r left lp er x ch =
    let b = before_place order (place + 1) x (end_of F order place r x ch) in
    subst (λ z. Follows F z r) b.3 (heads F n order place r left lp er x ch b.0 (omega (arith, b.1)) (to_before order (b.0 + 1) b.0 x (omega arith) b.2 b.3))

-- ---- one more cell of the order
module _ (readers : List (List ℕ)) (order : List ℕ) (place root : ℕ) (marks marks' : List Mark)
    (o : IsOrder (Feeds readers) (length readers) order) (lp : place < length order) (er : get_or order place 0 ≡ root)
    (k : AreKnown readers order (place + 1) marks) (s : Reaches readers root marks marks') where
  new_before : (x : ℕ) → IsNew marks x → Contains (take (place + 1) order) x
  new_before x n =
      let c = o.whole x (omega (arith, new_within marks x n, k.size)) in
      let at : get_or order c.0 0 ≡ x = stands order x 0 c in
      ⊎_elim (λ (lt : c.0 < place + 1). to_before order (place + 1) c.0 x lt c.1 at)
      (λ (ge : place + 1 ≤ c.0). absurd (k.past c.0 ge c.1 (subst (IsNew marks) (sym at) n)))
      (cases_lt c.0 (place + 1))

  plain : (x : ℕ) → Chain (FeedsNew readers marks) root x → Chain (Feeds readers) root x
  plain x c = chain_map (FeedsNew readers marks) (Feeds readers) (λ a b d. d.0) root x c

  back : (x : ℕ) → Chain (FeedsNew readers marks) root x → Follows (Feeds readers) x root
  back x c = turns_back (Feeds readers) (length readers) order place root o.left lp er x (chain_map (FeedsNew readers marks) (Before (Feeds readers) order place) (λ a b d. (d.0, new_before b d.1)) root x c)

  stays_looped : (x : ℕ) → IsLooped marks x → IsLooped marks' x
  stays_looped x l = elim (s.only x) [
    | inl e ↦ e ∙ l
    | inr e ↦ e.1
  ]

  is_free : (x : ℕ) → mark_at marks' x ≡ Free → mark_at marks x ≡ Free
  is_free x f = elim (s.only x) [
    | inl e ↦ sym e ∙ f
    | inr e ↦ absurd (free_looped (mark_at marks' x) f e.1)
  ]

  from_seen : (x : ℕ) → mark_at marks' x ≢ New → Chain (Feeds readers) x x → IsLooped marks' x
  from_seen x ne c = looped_from (mark_at marks' x) ne (λ f. k.free x (is_free x f) c)

  -- what depends on the root, and the root on it, is marked
  complete : (y : ℕ) → Chain (Feeds readers) root y → Chain (Feeds readers) y root → IsLooped marks' y
  complete y (one d) b = from_seen y (s.closed root y (inl refl) d) (chain_join b (one d))
  complete y (more {y = z} ch d) b =
      let lz : IsLooped marks' z = complete z ch (chain_join (one d) b) in
      elim (s.only z) [
        | inl e ↦ stays_looped y (k.whole z y (sym e ∙ lz) (one d) (chain_join b ch))
        | inr e ↦ from_seen y (s.closed z y (inr (e.0, e.1)) d) (chain_join b (more ch d))
      ]

  -- a cell that was marked depends on the root, and the root on it
  looped : (x : ℕ) → IsLooped marks' x → Chain (Feeds readers) x x
  looped x l = elim (s.only x) [
    | inl e ↦ k.looped x (sym e ∙ l)
    | inr e ↦ (elim (back x e.2) [
      | inl q ↦ subst (λ z. Chain (Feeds readers) z x) (sym q) (plain x e.2)
      | inr q ↦ chain_join q (plain x e.2)
    ])
  ]

  whole : (a b : ℕ) → IsLooped marks' a → Chain (Feeds readers) a b → Chain (Feeds readers) b a → IsLooped marks' b
  whole a b l ab ba = elim (s.only a) [
    | inl e ↦ stays_looped b (k.whole a b (sym e ∙ l) ab ba)
    | inr e ↦ complete b (chain_join (plain a e.2) ab) (elim (back a e.2) [
      | inl q ↦ subst (Chain (Feeds readers) b) q ba
      | inr q ↦ chain_join ba q
    ])
  ]

  past : (i : ℕ) → place + 1 ≤ i → i < length order → mark_at marks' (get_or order i 0) ≢ New
  past i l li n = elim (s.only (get_or order i 0)) [
    | inl e ↦ k.past i l li (sym e ∙ n)
    | inr e ↦ k.past i l li e.0
  ]

  -- the root is marked, too
  pub known_looped : mark_at marks' root ≢ New → AreKnown readers order place marks'
  known_looped ne = record {
    size = s.size ∙ k.size;
    looped = looped;
    free = λ x f c. k.free x (is_free x f) c;
    whole = whole;
    past = λ i l li n. ⊎_elim (λ (e : i ≡ place). ne (subst (IsNew marks') (ap (λ z. get_or order z 0) e ∙ er) n)) (λ (ni : i ≢ place). past i (omega (arith, l, ni)) li n) (cases_eq i place);
  }

  -- the root does not depend on itself
  pub known_free : (last : List Mark) → last ≡ set marks' root Free → IsNew marks' root → AreKnown readers order place last
  known_free last el n =
      let lr : root < length marks' = new_within marks' root n in
      let here : mark_at last root ≡ Free = ap (λ z. mark_at z root) el ∙ set_here marks' root Free lr in
      let there : (x : ℕ) → x ≢ root → mark_at last x ≡ mark_at marks' x = λ x ne. ap (λ z. mark_at z x) el ∙ set_there marks' root x Free ne in
      let other : (x : ℕ) → IsLooped last x → x ≢ root = λ x l e. free_looped (mark_at last x) (subst (λ z. mark_at last z ≡ Free) (sym e) here) l in
      let was : (x : ℕ) → IsLooped last x → IsLooped marks' x = λ x l. sym (there x (other x l)) ∙ l in
      record {
        size = ap length el ∙ length-set marks' root Free ∙ s.size ∙ k.size;
        looped = λ x l. looped x (was x l);
        free = λ x f c. ⊎_elim
            (λ (e : x ≡ root). new_looped (mark_at marks' root) n (complete root (subst (λ z. Chain (Feeds readers) z z) e c) (subst (λ z. Chain (Feeds readers) z z) e c)))
            (λ (ne : x ≢ root). k.free x (is_free x (sym (there x ne) ∙ f)) c) (cases_eq x root);
        whole = λ a b l ab ba.
            (let lb : IsLooped marks' b = whole a b (was a l) ab ba in
            there b (λ e. new_looped (mark_at marks' root) n (subst (IsLooped marks') e lb)) ∙ lb);
        past = λ i l li m. ⊎_elim
            (λ (e : i ≡ place). new_free (mark_at last root) (subst (IsNew last) (ap (λ z. get_or order z 0) e ∙ er) m) here)
            (λ (ni : i ≢ place). ⊎_elim
            (λ (e : get_or order i 0 ≡ root). new_free (mark_at last root) (subst (IsNew last) e m) here)
            (λ (ne : get_or order i 0 ≢ root). past i (omega (arith, l, ni)) li (sym (there (get_or order i 0) ne) ∙ m))
            (cases_eq (get_or order i 0) root)) (cases_eq i place);
      }

-- the cell is known already
pub known_same : (readers : List (List ℕ)) (order : List ℕ) (place root : ℕ) (marks : List Mark) → get_or order place 0 ≡ root → AreKnown readers order (place + 1) marks → mark_at marks root ≢ New
    → AreKnown readers order place marks
known_same readers order place root marks er k ne = record {
  size = k.size;
  looped = k.looped;
  free = k.free;
  whole = k.whole;
  past = λ i l li n. ⊎_elim (λ (e : i ≡ place). ne (subst (IsNew marks) (ap (λ z. get_or order z 0) e ∙ er) n)) (λ (ni : i ≢ place). k.past i (omega (arith, l, ni)) li n) (cases_eq i place);
}

-- ---- the start and the end
fed : (readers : List (List ℕ)) (a b : ℕ) → Chain (Feeds readers) a b → b < length readers
fed readers a b (one d) = d.source
fed readers a b (more c d) = d.source

pub known_none : (readers : List (List ℕ)) (order : List ℕ) (marks : List Mark) → length marks ≡ length readers → ((k : ℕ) → k < length marks → IsNew marks k) → AreKnown readers order (length order) marks
known_none readers order marks size new =
    let never : (k : ℕ) → IsLooped marks k → ⊥ = λ k l. ⊎_elim (λ (lt : k < length marks). new_looped (mark_at marks k) (new k lt) l) (λ (ge : length marks ≤ k). out marks k ge l) (cases_lt k (length marks)) in
    record {
      size = size;
      looped = λ k l. absurd (never k l);
      free = λ k f c. new_free (mark_at marks k) (new k (omega (arith, fed readers k k c, size))) f;
      whole = λ a b l. absurd (never a l);
      past = λ i l li. absurd (omega (arith, l, li));
    }
  where
    out : (ms : List Mark) (k : ℕ) → length ms ≤ k → IsLooped ms k → ⊥
    out [] zero l h = free_looped Free refl h
    out [] (suc k) l h = free_looped Free refl h
    out (m ∷ ms) zero l h = omega (arith, l)
    out (m ∷ ms) (suc k) l h = out ms k (omega (arith, l)) h

pub known_fresh : (readers : List (List ℕ)) (order : List ℕ) (marks : List Mark) → marks ≡ replicate (length readers) New → AreKnown readers order (length order) marks
known_fresh readers order marks e =
    let size : length marks ≡ length readers = ap length e ∙ length-replicate (length readers) New in
    known_none readers order marks size (λ k l. ap (λ z. mark_at z k) e ∙ get_or-replicate (length readers) k New Free (omega (arith, l, size)))

pub known_all : (readers : List (List ℕ)) (order : List ℕ) (marks : List Mark) → IsOrder (Feeds readers) (length readers) order → AreKnown readers order 0 marks → AreLoops readers marks
known_all readers order marks o k = record {
  size = k.size;
  looped = k.looped;
  whole = λ x c.
      (let at = o.whole x (fed readers x x c) in
      looped_from (mark_at marks x) (λ n. k.past at.0 (omega arith) at.1 (subst (IsNew marks) (sym (stands order x 0 at)) n)) (λ f. k.free x f c));
}

-- ---- cells and their readers
to_feeds : (graph readers : List (List ℕ)) → AreReaders graph readers → (a b : ℕ) → Edge graph a b → Feeds readers a b
to_feeds graph readers r a b d = record { source = omega (arith, d.reader, r.size); reader = omega (arith, d.source, r.size); reads = r.to a b d }

from_feeds : (graph readers : List (List ℕ)) → AreReaders graph readers → (a b : ℕ) → Feeds readers a b → Edge graph a b
from_feeds graph readers r a b d = r.from a b d.reads

pub order_same : (graph readers : List (List ℕ)) (order : List ℕ) → AreReaders graph readers → IsOrder (Edge graph) (length graph) order → IsOrder (Feeds readers) (length readers) order
order_same graph readers order r o = record {
  left = record {
    cells = λ i d l. omega (arith, o.left.cells i d l, r.size);
    once = o.left.once;
    turned = λ i k a lik lk d. elim (o.left.turned i k a lik lk (from_feeds graph readers r a (get_or order i 0) d)) [
      | inl q ↦ inl q
      | inr q ↦ inr (elim q [
        | inl e ↦ inl e
        | inr c ↦ inr (chain_map (Edge graph) (Feeds readers) (to_feeds graph readers r) (get_or order k 0) a c)
      ])
    ];
  };
  whole = λ k l. o.whole k (omega (arith, l, r.size));
}

pub no_loop : (graph readers : List (List ℕ)) (marks : List Mark) → AreReaders graph readers → AreLoops readers marks → ((k : ℕ) → IsLooped marks k → ⊥) → HasNoLoop graph
no_loop graph readers marks r s none k l c = none k (s.whole k (chain_map (Edge graph) (Feeds readers) (to_feeds graph readers r) k k c))

pub first_loop : (graph readers : List (List ℕ)) (marks : List Mark) (k : ℕ) → AreReaders graph readers → AreLoops readers marks → IsLooped marks k → ((j : ℕ) → j < k → IsLooped marks j → ⊥) → IsFirstOnLoop graph k
first_loop graph readers marks k r s l before =
    let c = s.looped k l in
    record {
      within = omega (arith, fed readers k k c, r.size);
      loop = chain_map (Feeds readers) (Edge graph) (from_feeds graph readers r) k k c;
      before = λ j lj q. before j lj (s.whole j (chain_map (Edge graph) (Feeds readers) (to_feeds graph readers r) j j q));
    }

pub found_first : (graph readers : List (List ℕ)) (marks : List Mark) (o : Option ℕ) → AreReaders graph readers → AreLoops readers marks
    → MatchOption o ((k : ℕ) → IsLooped marks k → ⊥) (λ k. IsLooped marks k × ((j : ℕ) → j < k → IsLooped marks j → ⊥)) → MatchOption o (HasNoLoop graph) (IsFirstOnLoop graph)
found_first graph readers marks None r s h = no_loop graph readers marks r s h
found_first graph readers marks (Some k) r s h = first_loop graph readers marks k r s h.0 h.1
