-- The second search: what depends on a root by cells that are new.
use Rattle.std.proofs.Common.{◌≡◌, ◌≢◌, ◌⊎◌, inl, inr, ⊎_elim, ℕ, ◌+◌, ◌*◌, ◌<◌, ◌≤◌, zero, suc, List, [], ◌∷◌, ◌++◌, length, get_or, set, arith, refl, ap, sym, ◌∙◌, subst, Contains}
use Rattle.std.proofs.lemmas.Bool.{cases_eq}
use Rattle.std.proofs.lemmas.List.{length-set, get_or-set_same, get_or-set_other, length_push}
use Rattle.std.proofs.lemmas.List.Elements.{Contains-append_left, Contains-append_right, Contains-append_cases, Contains-push, Contains-push_cases}
use Rattle.ix_net.specs.Chain.{Chain, one, more}
use Rattle.ix_vread.specs.declared.mark.Mark.{Mark}
use Rattle.ix_vread.specs.declared.mark.Mark.TheVariants.{New, Free, Looped}
use Rattle.ix_vread.specs.Searches.{Feeds, mark_at, IsNew, IsLooped, new_count, MarksOnly, Visits, FeedsNew, IsReached, Reaches}
use Rattle.ix_vread.proofs.Marking.{only_one}

-- ---- marks
pub new_looped : (m : Mark) → m ≡ New → m ≡ Looped → ⊥
new_looped m a b = let bad : New ≡ Looped = sym a ∙ b in cc

pub new_free : (m : Mark) → m ≡ New → m ≡ Free → ⊥
new_free m a b = let bad : New ≡ Free = sym a ∙ b in cc

pub free_looped : (m : Mark) → m ≡ Free → m ≡ Looped → ⊥
free_looped m a b = let bad : Free ≡ Looped = sym a ∙ b in cc

pub looped_from : (m : Mark) → m ≢ New → m ≢ Free → m ≡ Looped
looped_from New a b = absurd (a refl)
looped_from Free a b = absurd (b refl)
looped_from Looped a b = refl

pub new_within : (marks : List Mark) (k : ℕ) → IsNew marks k → k < length marks
new_within [] zero h = absurd (new_free Free h refl)
new_within [] (suc k) h = absurd (new_free Free h refl)
new_within (m ∷ ms) zero h = omega arith
new_within (m ∷ ms) (suc k) h = omega (arith, new_within ms k h)

pub set_here : (marks : List Mark) (c : ℕ) (m : Mark) → c < length marks → mark_at (set marks c m) c ≡ m
set_here marks c m l = get_or-set_same marks c m Free l

pub set_there : (marks : List Mark) (c k : ℕ) (m : Mark) → k ≢ c → mark_at (set marks c m) k ≡ mark_at marks k
set_there marks c k m ne = get_or-set_other marks c k m Free ne

pub set_less : (marks : List Mark) (c : ℕ) → IsNew marks c → new_count (set marks c Looped) + 1 ≡ new_count marks
set_less [] zero h = absurd (new_free Free h refl)
set_less [] (suc c) h = absurd (new_free Free h refl)
set_less (New ∷ ms) zero h = refl
set_less (Free ∷ ms) zero h = absurd (new_free Free h refl)
set_less (Looped ∷ ms) zero h = absurd (new_looped Looped h refl)
set_less (New ∷ ms) (suc c) h = omega (arith, set_less ms c h)
set_less (Free ∷ ms) (suc c) h = set_less ms c h
set_less (Looped ∷ ms) (suc c) h = set_less ms c h

-- ---- one cell
pub visit_new : (c : ℕ) (marks : List Mark) (left left' : List ℕ) → IsNew marks c → left' ≡ left ++ c ∷ [] → Visits (c ∷ []) marks left (set marks c Looped) left'
visit_new c marks left left' h e =
    let l : c < length marks = new_within marks c h in
    let long : length left' ≡ length left + 1 = ap length e ∙ length_push left c in
    let here : IsLooped (set marks c Looped) c = set_here marks c Looped l in
    let last : Contains left' c = subst (λ z. Contains z c) (sym e) (Contains-push left c) in
    record {
      size = length-set marks c Looped;
      only = λ k. ⊎_elim
          (λ (q : k ≡ c). inr (subst (IsNew marks) (sym q) h, subst (IsLooped (set marks c Looped)) (sym q) here, subst (Contains (c ∷ [])) (sym q) (0, omega arith, refl)))
          (λ (ne : k ≢ c). inl (set_there marks c k Looped ne)) (cases_eq k c);
      seen = λ k m n. new_looped (mark_at (set marks c Looped) k) n (subst (IsLooped (set marks c Looped)) (sym (only_one c k m)) here);
      listed = λ k n m. ⊎_elim (λ (q : k ≡ c). subst (Contains left') (sym q) last)
          (λ (ne : k ≢ c). absurd (new_looped (mark_at marks k) n (sym (set_there marks c k Looped ne) ∙ m))) (cases_eq k c);
      stays = λ k m. subst (λ z. Contains z k) (sym e) (Contains-append_left left (c ∷ []) k m);
      from = λ k m. ⊎_elim (λ (q : Contains left k). inl q)
          (λ (q : c ≡ k). inr (subst (IsNew marks) q h, subst (IsLooped (set marks c Looped)) q here))
          (Contains-push_cases left c k (subst (λ z. Contains z k) e m));
      less = omega (arith, set_less marks c h, long);
    }

-- a cell that is not new, or none
pub visit_old : (c : ℕ) (marks : List Mark) (left : List ℕ) → (IsNew marks c → ⊥) → Visits (c ∷ []) marks left marks left
visit_old c marks left h = record {
  size = refl;
  only = λ k. inl refl;
  seen = λ k m n. h (subst (IsNew marks) (only_one c k m) n);
  listed = λ k n m. absurd (new_looped (mark_at marks k) n m);
  stays = λ k m. m;
  from = λ k m. inl m;
  less = omega arith;
}

-- ---- cells one after another
pub visits_none : (marks : List Mark) (left : List ℕ) → Visits [] marks left marks left
visits_none marks left = record {
  size = refl;
  only = λ k. inl refl;
  seen = λ k m. absurd (omega (arith, m.1));
  listed = λ k n m. absurd (new_looped (mark_at marks k) n m);
  stays = λ k m. m;
  from = λ k m. inl m;
  less = omega arith;
}

pub visits_more : (xs ys : List ℕ) (m n o : List Mark) (a b c : List ℕ) → Visits xs m a n b → Visits ys n b o c → Visits (xs ++ ys) m a o c
visits_more xs ys m n o a b c v w = record {
  size = w.size ∙ v.size;
  only = λ k. elim (w.only k) [
    | inl e ↦ (elim (v.only k) [
      | inl f ↦ inl (e ∙ f)
      | inr f ↦ inr (f.0, e ∙ f.1, Contains-append_left xs ys k f.2)
    ])
    | inr e ↦ (elim (v.only k) [
      | inl f ↦ inr (sym f ∙ e.0, e.1, Contains-append_right xs ys k e.2)
      | inr f ↦ absurd (new_looped (mark_at n k) e.0 f.1)
    ])
  ];
  seen = λ k h q. elim (w.only k) [
    | inl e ↦ (elim (Contains-append_cases xs ys k h) [
      | inl f ↦ v.seen k f (sym e ∙ q)
      | inr f ↦ w.seen k f q
    ])
    | inr e ↦ new_looped (mark_at o k) q e.1
  ];
  listed = λ k h q. elim (w.only k) [
    | inl e ↦ w.stays k (v.listed k h (sym e ∙ q))
    | inr e ↦ w.listed k e.0 q
  ];
  stays = λ k h. w.stays k (v.stays k h);
  from = λ k h. elim (w.from k h) [
    | inl q ↦ (elim (v.from k q) [
      | inl r ↦ inl r
      | inr r ↦ inr (
        r.0,
        elim (w.only k) [
          | inl e ↦ e ∙ r.1
          | inr e ↦ e.1
        ],
      )
    ])
    | inr q ↦ inr (
      elim (v.only k) [
        | inl f ↦ sym f ∙ q.0
        | inr f ↦ f.0
      ],
      q.1,
    )
  ];
  less = omega (arith, v.less, w.less);
}

-- ---- the search from a root
pub record IsSearching (readers : List (List ℕ)) (root : ℕ) (first marks : List Mark) (left : List ℕ) : Type 0 where
  pub size : length marks ≡ length first
  pub whole : length first ≡ length readers
  pub within : (k : ℕ) → Contains left k → k < length readers
  pub only : MarksOnly (Chain (FeedsNew readers first) root) first marks
  pub reached : (k : ℕ) → Contains left k → IsReached first marks root k
  pub closed : (a : ℕ) → IsReached first marks root a → Contains left a ⊎ ((b : ℕ) → Feeds readers a b → mark_at marks b ≢ New)

pub search_first : (readers : List (List ℕ)) (root : ℕ) (marks : List Mark) (left : List ℕ) → root < length readers → length marks ≡ length readers → left ≡ root ∷ [] → IsSearching readers root marks marks left
search_first readers root marks left l s e = record {
  size = refl;
  whole = s;
  within = λ k m. omega (arith, l, only_one root k (subst (λ z. Contains z k) e m));
  only = λ k. inl refl;
  reached = λ k m. inl (only_one root k (subst (λ z. Contains z k) e m));
  closed = λ a r. elim r [
    | inl q ↦ inl (subst (Contains left) (sym q) (subst (λ z. Contains z root) (sym e) (0, omega arith, refl)))
    | inr q ↦ absurd (new_looped (mark_at marks a) q.0 q.1)
  ];
}

pub search_more : (readers : List (List ℕ)) (root cell : ℕ) (first marks marks' : List Mark) (left rest left' reads : List ℕ) → left ≡ rest ++ cell ∷ [] → reads ≡ get_or readers cell []
    → IsSearching readers root first marks left → Visits reads marks rest marks' left' → IsSearching readers root first marks' left'
search_more readers root cell first marks marks' left rest left' reads e r s v =
    let last : Contains left cell = subst (λ z. Contains z cell) (sym e) (Contains-push rest cell) in
    let lc : cell < length readers = s.within cell last in
    let rest_in : (k : ℕ) → Contains rest k → Contains left k = λ k m. subst (λ z. Contains z k) (sym e) (Contains-append_left rest (cell ∷ []) k m) in
    let short : (k : ℕ) → IsNew marks k → k < length readers = λ k n. omega (arith, new_within marks k n, s.size, s.whole) in
    let edge : (k : ℕ) → k < length readers → Contains reads k → Feeds readers cell k = λ k l m. record { source = l; reader = lc; reads = subst (λ z. Contains z k) r m } in
    -- what was new is new still, or marked since
    let was_new : (k : ℕ) → IsNew marks k → IsNew first k = λ k n. elim (s.only k) [
      | inl f ↦ sym f ∙ n
      | inr f ↦ f.0
    ] in
    let chain : (k : ℕ) → Feeds readers cell k → IsNew first k → Chain (FeedsNew readers first) root k = λ k d n. elim (s.reached cell last) [
      | inl q ↦ subst (λ x. Chain (FeedsNew readers first) x k) q (one (d, n))
      | inr q ↦ (elim (s.only cell) [
        | inl f ↦ absurd (new_looped (mark_at marks cell) (f ∙ q.0) q.1)
        | inr f ↦ more f.2 (d, n)
      ])
    ] in
    let old_closed : (a : ℕ) → IsReached first marks root a → Contains left' a ⊎ ((b : ℕ) → Feeds readers a b → mark_at marks' b ≢ New) = λ a h. elim (s.closed a h) [
      | inl q ↦ (elim (Contains-push_cases rest cell a (subst (λ z. Contains z a) e q)) [
        | inl t ↦ inl (v.stays a t)
        | inr t ↦ inr (λ b d. v.seen b (subst (λ z. Contains z b) (sym r) (subst (λ x. Contains (get_or readers x []) b) (sym t) d.reads)))
      ])
      | inr q ↦ inr (λ b d n. q b d (elim (v.only b) [
        | inl f ↦ sym f ∙ n
        | inr f ↦ f.0
      ]))
    ] in
    record {
      size = v.size ∙ s.size;
      whole = s.whole;
      within = λ k m. elim (v.from k m) [
        | inl q ↦ s.within k (rest_in k q)
        | inr q ↦ short k q.0
      ];
      only = λ k. elim (v.only k) [
        | inl f ↦ (elim (s.only k) [
          | inl g ↦ inl (f ∙ g)
          | inr g ↦ inr (g.0, f ∙ g.1, g.2)
        ])
        | inr f ↦ inr (was_new k f.0, f.1, chain k (edge k (short k f.0) f.2) (was_new k f.0))
      ];
      reached = λ k m. elim (v.from k m) [
        | inl q ↦ (elim (s.reached k (rest_in k q)) [
          | inl t ↦ inl t
          | inr t ↦ inr (
            t.0,
            elim (v.only k) [
              | inl f ↦ f ∙ t.1
              | inr f ↦ f.1
            ],
          )
        ])
        | inr q ↦ inr (was_new k q.0, q.1)
      ];
      closed = λ a h. elim h [
        | inl q ↦ old_closed a (inl q)
        | inr q ↦ (elim (v.only a) [
          | inl f ↦ old_closed a (inr (q.0, sym f ∙ q.1))
          | inr f ↦ inl (v.listed a f.0 f.1)
        ])
      ];
    }

pub search_end : (readers : List (List ℕ)) (root : ℕ) (first marks : List Mark) (left : List ℕ) → left ≡ [] → IsSearching readers root first marks left → Reaches readers root first marks
search_end readers root first marks left e s =
    let none : (k : ℕ) → Contains left k → ⊥ = λ k m. (let q : Contains [] k = subst (λ z. Contains z k) e m in omega (arith, q.1)) in
    record {
      size = s.size;
      only = s.only;
      closed = λ a b h d. elim (s.closed a h) [
        | inl q ↦ absurd (none a q)
        | inr q ↦ q b d
      ];
    }
