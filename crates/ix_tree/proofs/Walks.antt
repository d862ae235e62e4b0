-- The machine goes from one state to another over tokens, each with its nesting.
use Rattle.std.proofs.Common.{◌≡◌, ℕ, List, [], ◌∷◌, ◌++◌, length, refl, ap, sym, ◌∙◌, subst, arith}
use Rattle.ix_tree.specs.declared.token.Token.{Token}
use Rattle.ix_tree.specs.Trees.{TextTree}
use Rattle.ix_tree.specs.Machine.{State, ended, Next, stop, go, step, Outcome, accept, stuck, then_at, finish, run, marked}
use Rattle.ix_tree.proofs.Steps.{one, take_one}

pub data Walks : State → List Token → List ℕ → State → Type 0 where
  stands : {s : State} → Walks s [] [] s
  goes : {s y z : State} {ts : List Token} {ms : List ℕ} (t : Token) (m : ℕ) → step s t ≡ go m y → Walks y ts ms z → Walks s (t ∷ ts) (m ∷ ms) z

pub at_stop : (s : State) (t : Token) (ts : List Token) → step s t ≡ stop → run s (t ∷ ts) ≡ stuck (t ∷ ts)
unfolding run
at_stop s t ts e = ap (λ (n : Next). elim n as (λ _. Outcome) [ stop ↦ stuck (t ∷ ts) | go m z ↦ then_at m (run z ts) ]) e

pub at_end : (s : State) → run s [] ≡ finish s
unfolding run
at_end s = refl

pub no_mark : (s : State) (m : ℕ) (o : Outcome) → finish s ≡ then_at m o → ⊥
no_mark (ended x) m o e = cc
no_mark _ m o e = cc

-- a walk shows in the run, whatever follows
pub walked : {s z : State} {ts : List Token} {ms : List ℕ} → Walks s ts ms z → (us : List Token) → run s (ts ++ us) ≡ marked ms (run z us)
walked stands us = refl
walked (goes {s = s} {y = y} {ts = ts} t m e w) us = take_one s t (ts ++ us) m y e (walked w us)

-- and the run shows a walk over as many tokens as were given a nesting
pub record Walking (s : State) (ts : List Token) (ms : List ℕ) (us : List Token) (o : Outcome) : Type 0 where
  pub state : State
  pub walks : Walks s ts ms state
  pub left : run state us ≡ o

further : (t : Token) (ts us : List Token) (m : ℕ) (ms : List ℕ) (s : State) (o : Outcome) → ((y : State) → run y (ts ++ us) ≡ marked ms o → Walking y ts ms us o)
    → (n : Next) → step s t ≡ n → run s (t ∷ (ts ++ us)) ≡ then_at m (marked ms o)
    → Walking s (t ∷ ts) (m ∷ ms) us o
further t ts us m ms s o ih stop h e = absurd (let q : stuck (t ∷ (ts ++ us)) ≡ then_at m (marked ms o) = sym (at_stop s t (ts ++ us) h) ∙ e in cc)
further t ts us m ms s o ih (go n y) h e =
    let q : then_at n (run y (ts ++ us)) ≡ then_at m (marked ms o) = sym (one s t (ts ++ us) n y h) ∙ e in
    let a : n ≡ m = cc in
    let w = ih y cc in
    record { state = w.state; walks = goes t m (h ∙ ap (λ (k : ℕ). go k y) a) w.walks; left = w.left }

pub walks_front : (ts us : List Token) (ms : List ℕ) (s : State) (o : Outcome) → run s (ts ++ us) ≡ marked ms o → length ms ≡ length ts → Walking s ts ms us o
walks_front [] us [] s o e l = record { state = s; walks = stands; left = e }
walks_front [] us (m ∷ ms) s o e l = absurd (omega arith)
walks_front (t ∷ ts) us [] s o e l = absurd (omega arith)
walks_front (t ∷ ts) us (m ∷ ms) s o e l = further t ts us m ms s o (λ y h. walks_front ts us ms y o h (omega arith)) (step s t) refl e

-- a run that accepts walks over all
pub record WalksAll (s : State) (ts : List Token) (ms : List ℕ) (x : TextTree) : Type 0 where
  pub state : State
  pub walks : Walks s ts ms state
  pub left : finish state ≡ accept x

all_further : (t : Token) (ts : List Token) (ms : List ℕ) (s : State) (x : TextTree) → ((ns : List ℕ) (y : State) → run y ts ≡ marked ns (accept x) → WalksAll y ts ns x)
    → (n : Next) → step s t ≡ n → run s (t ∷ ts) ≡ marked ms (accept x)
    → WalksAll s (t ∷ ts) ms x
all_further t ts [] s x ih stop h e = absurd (let q : stuck (t ∷ ts) ≡ accept x = sym (at_stop s t ts h) ∙ e in cc)
all_further t ts (m ∷ ms) s x ih stop h e = absurd (let q : stuck (t ∷ ts) ≡ then_at m (marked ms (accept x)) = sym (at_stop s t ts h) ∙ e in cc)
all_further t ts [] s x ih (go n y) h e = absurd (let q : then_at n (run y ts) ≡ accept x = sym (one s t ts n y h) ∙ e in cc)
all_further t ts (m ∷ ms) s x ih (go n y) h e =
    let q : then_at n (run y ts) ≡ then_at m (marked ms (accept x)) = sym (one s t ts n y h) ∙ e in
    let a : n ≡ m = cc in
    let w = ih ms y cc in
    record { state = w.state; walks = goes t m (h ∙ ap (λ (k : ℕ). go k y) a) w.walks; left = w.left }

pub walks_all : (ts : List Token) (ms : List ℕ) (s : State) (x : TextTree) → run s ts ≡ marked ms (accept x) → WalksAll s ts ms x
walks_all [] [] s x e = record { state = s; walks = stands; left = sym (at_end s) ∙ e }
walks_all [] (m ∷ ms) s x e = absurd (no_mark s m (marked ms (accept x)) (sym (at_end s) ∙ e))
walks_all (t ∷ ts) ms s x e = all_further t ts ms s x (λ ns y h. walks_all ts ns y x h) (step s t) refl e

-- a walk over a front and what follows
pub record Through (s : State) (ts us : List Token) (ms : List ℕ) (z : State) : Type 0 where
  pub state : State
  pub nestings : List ℕ
  pub others : List ℕ
  pub is : ms ≡ nestings ++ others
  pub walks : Walks s ts nestings state
  pub onward : Walks state us others z

pub through : (ts us : List Token) {s z : State} {ms : List ℕ} → Walks s (ts ++ us) ms z → Through s ts us ms z
through [] us {s} {ms = ms} w = record { state = s; nestings = []; others = ms; is = refl; walks = stands; onward = w }
through (u ∷ ts) us (goes t m e w) =
    let h = through ts us w in
    record { state = h.state; nestings = m ∷ h.nestings; others = h.others; is = ap (λ (l : List ℕ). m ∷ l) h.is; walks = goes u m e h.walks; onward = h.onward }

-- there is one walk over given tokens
same_goes : (s : State) (t : Token) (m n : ℕ) (y z : State) → step s t ≡ go m y → step s t ≡ go n z → (m ≡ n) × (y ≡ z)
same_goes s t m n y z e f = let q : go m y ≡ go n z = sym e ∙ f in (cc, cc)

pub same_walks : {s y z : State} {ts us : List Token} {ms ns : List ℕ} → Walks s ts ms y → Walks s us ns z → ts ≡ us → (ms ≡ ns) × (y ≡ z)
same_walks stands stands e = (refl, refl)
same_walks stands (goes u n h w) e = cc
same_walks (goes t m g v) stands e = cc
same_walks {s} (goes {y = y} {ms = ms} t m g v) (goes {y = x} {z = z} {ts = us} {ms = ns} u n h w) e =
    let a : t ≡ u = cc in
    let q = same_goes s t m n y x g (ap (step s) a ∙ h) in
    let r = same_walks v (subst (λ (k : State). Walks k us ns z) (sym q.1) w) cc in
    (ap (λ (k : ℕ). k ∷ ms) q.0 ∙ ap (λ (l : List ℕ). n ∷ l) r.0, r.1)

-- each token has its nesting
pub same_count : {s z : State} {ts : List Token} {ms : List ℕ} → Walks s ts ms z → length ms ≡ length ts
same_count stands = refl
same_count (goes t m e w) = let l = same_count w in omega arith
