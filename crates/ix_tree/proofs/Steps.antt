-- How the machine moves: one token, a token that ends productions, and a list of marks.
use Rattle.std.proofs.Common.{◌≡◌, ℕ, ◌+◌, ◌<◌, ◌≤◌, List, [], ◌∷◌, ◌++◌, false, refl, ap, ◌∙◌, arith, le-leb, nat_eq, nat_le}
use Rattle.std.proofs.lemmas.Bool.Decides.{nat_tests}
use Rattle.ix_tree.specs.declared.token.Token.{Token}
use Rattle.ix_tree.specs.declared.token.TokenKind.{TokenKind}
use Rattle.ix_tree.specs.Trees.{Part, power, before}
use Rattle.ix_tree.specs.Productions.{Done}
use Rattle.ix_tree.specs.Grammar.{IsOperator}
use Rattle.ix_tree.specs.Machine.{Frame, f_binary, Stack, State, want, have, done, Next, stop, go, hold, grip, level, made, settle, hold_stmt, made_stmt, settle_stmt, power_stmt, close, after, act, step, Outcome, stuck, then_at, run, marked}

-- ---- one token
pub one : (s : State) (t : Token) (ts : List Token) (m : ℕ) (z : State) → step s t ≡ go m z → run s (t ∷ ts) ≡ then_at m (run z ts)
unfolding run
one s t ts m z e = ap (λ (n : Next). elim n as (λ _. Outcome) [ stop ↦ stuck (t ∷ ts) | go m z ↦ then_at m (run z ts) ]) e

pub same : (s z : State) (t : Token) (ts : List Token) → step s t ≡ step z t → run s (t ∷ ts) ≡ run z (t ∷ ts)
unfolding run
same s z t ts e = ap (λ (n : Next). elim n as (λ _. Outcome) [ stop ↦ stuck (t ∷ ts) | go m z ↦ then_at m (run z ts) ]) e

pub marked-append : (xs ys : List ℕ) (o : Outcome) → marked (xs ++ ys) o ≡ marked xs (marked ys o)
marked-append [] ys o = refl
marked-append (x ∷ xs) ys o = ap (then_at x) (marked-append xs ys o)

-- ---- what follows an expression of level n
abbrev pub Follows : ℕ → ℕ → Type 0
Follows n p = (p ≤ n) × (p ≡ 2 → 3 ≤ n) × (p ≡ 25 → ⊥)

abbrev pub Ends : ℕ → List Token → Type 0
Ends n [] = Unit {0}
Ends n (t ∷ ts) = Follows n (power t.kind)

pub weaken : (m n : ℕ) (rest : List Token) → ((p : ℕ) → Follows n p → Follows m p) → Ends n rest → Ends m rest
weaken m n [] h e = tt
weaken m n (t ∷ ts) h e = h (power t.kind) e

pub settle_stop : (p d : ℕ) (v : Part) (k : Stack) → grip k < p → settle p d v k ≡ have d v k
unfolding settle
settle_stop p d v [] h = refl
settle_stop p d v (f ∷ k) h = let e : nat_le p (hold f) ≡ false = grind (arith, nat_tests) in rw e refl

pub settle_pop : (p d : ℕ) (v : Part) (f : Frame) (k : Stack) → p ≤ hold f → settle p d v (f ∷ k) ≡ settle p (level d f) (made v f) k
unfolding settle
settle_pop p d v f k h = rw (le-leb p (hold f) h) refl

pub popped : (n d : ℕ) (v : Part) (f : Frame) (k : Stack) (rest : List Token) → ((p : ℕ) → Follows n p → p ≤ hold f) → Ends n rest
    → run (have d v (f ∷ k)) rest ≡ run (have (level d f) (made v f) k) rest
unfolding run step
popped n d v f k [] h e = refl
popped n d v f k (t ∷ ts) h e =
    same (have d v (f ∷ k)) (have (level d f) (made v f) k) t ts (ap (act t) (settle_pop (power t.kind) d v f k (h (power t.kind) e)))

pub power_is : (t : Token) (k : TokenKind) → t.kind ≡ k → power t.kind ≡ power k
power_is t k e = ap power e

pub ends : (n : ℕ) (t : Token) (ts : List Token) (k : TokenKind) → t.kind ≡ k → Follows n (power k) → Ends n (t ∷ ts)
ends n t ts k e f = rw e f

pub operator_follows : (k : TokenKind) → IsOperator k → Follows (power k) (power k)
operator_follows k o = (omega arith, λ e. omega (arith, o.low), λ e. omega (arith, o.high))

pub step_binary : (d : ℕ) (x : Part) (t : Token) (k : Stack) → IsOperator t.kind → grip k < power t.kind
    → step (have d x k) t ≡ go (d + before (power t.kind) x) (want (d + (before (power t.kind) x + 1)) (f_binary d x t ∷ k))
unfolding step after
step_binary d x t k o g =
    let a : nat_eq (power t.kind) 1 ≡ false = grind (arith, nat_tests, o.low) in
    let b : nat_eq (power t.kind) 2 ≡ false = grind (arith, nat_tests, o.low) in
    let c : nat_eq (power t.kind) 26 ≡ false = grind (arith, nat_tests, o.high) in
    rw (settle_stop (power t.kind) d x k g) (rw (a, b, c) refl)

-- a token of power p at a production that it does not end
pub step_after : (d p : ℕ) (v : Part) (t : Token) (k : Stack) → power t.kind ≡ p → grip k < p → step (have d v k) t ≡ after p d v k t
unfolding step
step_after d p v t k e g = ap (act t) (ap (λ (q : ℕ). settle q d v k) e ∙ settle_stop p d v k g) ∙ ap (λ (q : ℕ). after q d v k t) e

-- a closing token, at a production that it closes
pub step_close : (d : ℕ) (v : Part) (t : Token) (k : Stack) (m : ℕ) (z : State) → power t.kind ≡ 1 → grip k < 1 → close d v k t ≡ go m z → step (have d v k) t ≡ go m z
unfolding after
step_close d v t k m z e g h = step_after d 1 v t k e g ∙ h

-- ---- what follows a statement of level n
abbrev pub EndsStmt : ℕ → List Token → Type 0
EndsStmt n [] = Unit {0}
EndsStmt n (t ∷ ts) = power_stmt t.kind ≤ n

pub weaken_stmt : (m n : ℕ) (rest : List Token) → n ≤ m → EndsStmt n rest → EndsStmt m rest
weaken_stmt m n [] l e = tt
weaken_stmt m n (t ∷ ts) l e = omega arith

pub settle_stmt_pop : (p : ℕ) (s : Done) (f : Frame) (k : Stack) → p ≤ hold_stmt f → settle_stmt p s (f ∷ k) ≡ settle_stmt p (made_stmt s f) k
unfolding settle_stmt
settle_stmt_pop p s f k h = rw (le-leb p (hold_stmt f) h) refl

pub settle_stmt_stop : (p : ℕ) (s : Done) (f : Frame) (k : Stack) → hold_stmt f < p → settle_stmt p s (f ∷ k) ≡ done s (f ∷ k)
unfolding settle_stmt
settle_stmt_stop p s f k h = let e : nat_le p (hold_stmt f) ≡ false = grind (arith, nat_tests) in rw e refl

pub popped_stmt : (s : Done) (f : Frame) (k : Stack) (rest : List Token) → EndsStmt (hold_stmt f) rest → run (done s (f ∷ k)) rest ≡ run (done (made_stmt s f) k) rest
unfolding run step
popped_stmt s f k [] h = refl
popped_stmt s f k (t ∷ ts) h = same (done s (f ∷ k)) (done (made_stmt s f) k) t ts (ap (act t) (settle_stmt_pop (power_stmt t.kind) s f k h))

-- ---- joining what was read
pub take_one : (s : State) (t : Token) (ts : List Token) (m : ℕ) (z : State) {o : Outcome} → step s t ≡ go m z → run z ts ≡ o → run s (t ∷ ts) ≡ then_at m o
take_one s t ts m z e f = one s t ts m z e ∙ ap (then_at m) f

pub join : (ms : List ℕ) {o p q : Outcome} → o ≡ marked ms p → p ≡ q → o ≡ marked ms q
join ms e f = e ∙ ap (marked ms) f
