-- A pass that changes one stage's token changes one slot.
use Rattle.std.proofs.Common.{◌≡◌, ◌∙◌, sym, ap, refl, ℕ, zero, suc, ◌+◌, ◌<◌, List, [], ◌∷◌, drop, length, get_or, Option, Some, None, true, false, arith}
use Rattle.std.specs.Prelude.{slice_set, option_map, IfSome, Bool, if◌then◌else◌, ◌==◌}
use Rattle.std.proofs.Common.{take, ◌-◌, length-drop}
use Rattle.std.proofs.lemmas.Bool.Decides.{nat_tests}
use Rattle.std.proofs.lemmas.List.{take_all}
use Rattle.ix_bits.specs.declared.number.Bits.{Bits}
use Rattle.ix_extension.specs.Extensions.{ExtensionTree}
use Rattle.rv_core.specs.declared.Shape.{Shape}
use Rattle.rv_holds.specs.declared.token.Token.{Token}
use Rattle.ix_plan.specs.declared.design.Design.{Design}
use Rattle.rv_holds.specs.Tokens.{Slots}
use Rattle.rv_engine.specs.Rows.{with_guess, guess_first, tried_with, seeing, is_ripe, with_trial, trying, with_load, loading}

unequal : (a b : ℕ) → b < a → (a == b) ≡ false
unequal a b h = grind (arith, nat_tests)

unequal_below : (a b : ℕ) → a < b → (a == b) ≡ false
unequal_below a b h = grind (arith, nat_tests)

-- a slot of another stage stays
trial_elsewhere : (x : ExtensionTree) (k : Shape) (future : List Bits) (memory : List ℕ) (stage : ℕ) (s : Option Token) (older : Slots) → (stage == k.ex) ≡ false → with_trial x k future memory stage s older ≡ s
trial_elsewhere x k future memory stage None older e = refl
trial_elsewhere x k future memory stage (Some t) older e = rw e refl

past_ex : (x : ExtensionTree) (k : Shape) (future : List Bits) (memory : List ℕ) (stage : ℕ) (slots : Slots) → k.ex < stage → trying x k future memory stage slots ≡ slots
past_ex x k future memory stage [] lt = refl
past_ex x k future memory stage (s ∷ older) lt =
    let e : trying x k future memory (suc stage) older ≡ older = past_ex x k future memory (suc stage) older (omega (arith, lt)) in
    let f : with_trial x k future memory stage s older ≡ s = trial_elsewhere x k future memory stage s older (unequal stage k.ex lt) in
    ap (λ (u : Option Token). u ∷ trying x k future memory (suc stage) older) f ∙ ap (λ (us : Slots). s ∷ us) e

at_ex : (x : ExtensionTree) (k : Shape) (future : List Bits) (memory : List ℕ) (stage n : ℕ) (slots : Slots) (s : Option Token) → stage + n ≡ k.ex → n < length slots → s ≡ get_or slots n s
    → trying x k future memory stage slots ≡ slice_set slots n (with_trial x k future memory k.ex s (drop (suc n) slots))
at_ex x k future memory stage n [] s e lt h = absurd (omega (arith, lt))
at_ex x k future memory stage zero (first ∷ older) s e lt h =
    let here : stage ≡ k.ex = omega (arith, e) in
    let p : trying x k future memory (suc stage) older ≡ older = past_ex x k future memory (suc stage) older (omega (arith, here)) in
    ap (λ (u : Option Token). with_trial x k future memory stage u older ∷ trying x k future memory (suc stage) older) (sym h)
    ∙ ap (λ (n : ℕ). with_trial x k future memory n s older ∷ trying x k future memory (suc stage) older) here
    ∙ ap (λ (us : Slots). with_trial x k future memory k.ex s older ∷ us) p
at_ex x k future memory stage (suc n) (first ∷ older) s e lt h =
    let f : with_trial x k future memory stage first older ≡ first = trial_elsewhere x k future memory stage first older (unequal_below stage k.ex (omega (arith, e))) in
    ap (λ (u : Option Token). u ∷ trying x k future memory (suc stage) older) f
    ∙ ap (λ (us : Slots). first ∷ us) (at_ex x k future memory (suc stage) n older s (omega (arith, e)) (omega (arith, lt)) h)

pub placed_ex : (x : ExtensionTree) (k : Shape) (future : List Bits) (memory : List ℕ) (slots : Slots) (n : ℕ) (s r : Option Token) → n ≡ k.ex → k.ex < length slots → s ≡ get_or slots n s
    → r ≡ with_trial x k future memory k.ex s (take (length slots - (n + 1)) (drop (n + 1) slots)) → slice_set slots n r ≡ trying x k future memory 0 slots
placed_ex x k future memory slots n s r e lt h g =
    let d : n + 1 ≡ suc n = omega arith in
    let whole : take (length slots - (n + 1)) (drop (n + 1) slots) ≡ drop (n + 1) slots = take_all (length slots - (n + 1)) (drop (n + 1) slots) (omega (arith, length-drop (n + 1) slots)) in
    let older : take (length slots - (n + 1)) (drop (n + 1) slots) ≡ drop (suc n) slots = whole ∙ ap (λ (m : ℕ). drop m slots) d in
    ap (λ (u : Option Token). slice_set slots n u) (g ∙ ap (λ (us : Slots). with_trial x k future memory k.ex s us) older)
    ∙ sym (at_ex x k future memory 0 n slots s (omega (arith, e)) (omega (arith, e, lt)) h)

-- a slot whose token was tried if it is to be
tried_token : (x : ExtensionTree) (k : Shape) (future : List Bits) (memory : List ℕ) (s : Option Token) (ripe : Bool) (older : Slots) → IfSome s (λ t. ripe ≡ is_ripe k k.ex t older)
    → option_map (λ t. if ripe then tried_with x memory (seeing future t.inputs) t else t) s ≡ with_trial x k future memory k.ex s older
tried_token x k future memory None ripe older i = refl
tried_token x k future memory (Some t) ripe older i = ap (λ (b : Bool). Some (if b then tried_with x memory (seeing future t.inputs) t else t)) i ∙ by_case (is_ripe k k.ex t older) where
  by_case : (b : Bool) → ◌≡◌ {A = Option Token} (Some (if b then tried_with x memory (seeing future t.inputs) t else t)) (if b then Some (tried_with x memory (seeing future t.inputs) t) else Some t)
  by_case true = refl
  by_case false = refl

pub tried_here : (x : ExtensionTree) (k : Shape) (future : List Bits) (memory : List ℕ) (s u r : Option Token) (ripe : Bool) (older : Slots) → u ≡ s → IfSome s (λ t. ripe ≡ is_ripe k k.ex t older)
    → r ≡ option_map (λ t. if ripe then tried_with x memory (seeing future t.inputs) t else t) u → r ≡ with_trial x k future memory k.ex s older
tried_here x k future memory s u r ripe older same i e =
    e ∙ ap (λ (v : Option Token). option_map (λ t. if ripe then tried_with x memory (seeing future t.inputs) t else t) v) same ∙ tried_token x k future memory s ripe older i

load_elsewhere : (x : ExtensionTree) (k : Shape) (memory : List ℕ) (stage : ℕ) (s : Option Token) → (stage == k.mem) ≡ false → with_load x k memory stage s ≡ s
load_elsewhere x k memory stage None e = refl
load_elsewhere x k memory stage (Some t) e = rw e refl

past_mem : (x : ExtensionTree) (k : Shape) (memory : List ℕ) (stage : ℕ) (slots : Slots) → k.mem < stage → loading x k memory stage slots ≡ slots
past_mem x k memory stage [] lt = refl
past_mem x k memory stage (s ∷ older) lt =
    let e : loading x k memory (suc stage) older ≡ older = past_mem x k memory (suc stage) older (omega (arith, lt)) in
    let f : with_load x k memory stage s ≡ s = load_elsewhere x k memory stage s (unequal stage k.mem lt) in
    ap (λ (u : Option Token). u ∷ loading x k memory (suc stage) older) f ∙ ap (λ (us : Slots). s ∷ us) e

at_mem : (x : ExtensionTree) (k : Shape) (memory : List ℕ) (stage n : ℕ) (slots : Slots) (s : Option Token) → stage + n ≡ k.mem → n < length slots → s ≡ get_or slots n s
    → loading x k memory stage slots ≡ slice_set slots n (with_load x k memory k.mem s)
at_mem x k memory stage n [] s e lt h = absurd (omega (arith, lt))
at_mem x k memory stage zero (first ∷ older) s e lt h =
    let here : stage ≡ k.mem = omega (arith, e) in
    let p : loading x k memory (suc stage) older ≡ older = past_mem x k memory (suc stage) older (omega (arith, here)) in
    ap (λ (u : Option Token). with_load x k memory stage u ∷ loading x k memory (suc stage) older) (sym h)
    ∙ ap (λ (n : ℕ). with_load x k memory n s ∷ loading x k memory (suc stage) older) here
    ∙ ap (λ (us : Slots). with_load x k memory k.mem s ∷ us) p
at_mem x k memory stage (suc n) (first ∷ older) s e lt h =
    let f : with_load x k memory stage first ≡ first = load_elsewhere x k memory stage first (unequal_below stage k.mem (omega (arith, e))) in
    ap (λ (u : Option Token). u ∷ loading x k memory (suc stage) older) f
    ∙ ap (λ (us : Slots). first ∷ us) (at_mem x k memory (suc stage) n older s (omega (arith, e)) (omega (arith, lt)) h)

pub placed_mem : (x : ExtensionTree) (k : Shape) (memory : List ℕ) (slots : Slots) (n : ℕ) (s r : Option Token) → n ≡ k.mem → k.mem < length slots → s ≡ get_or slots n s
    → r ≡ with_load x k memory k.mem (get_or slots n s) → slice_set slots n r ≡ loading x k memory 0 slots
placed_mem x k memory slots n s r e lt h g =
    ap (λ (u : Option Token). slice_set slots n u) (g ∙ ap (λ (u : Option Token). with_load x k memory k.mem u) (sym h)) ∙ sym (at_mem x k memory 0 n slots s (omega (arith, e)) (omega (arith, e, lt)) h)

-- the token of stage 0 has its guess
pub guess_here : (d : Design) (future : List Bits) (memory : List ℕ) (slots : Slots) (u r : Option Token) → 0 < length slots → r ≡ option_map (with_guess d future memory) (get_or slots 0 u) → slice_set slots 0 r ≡ guess_first d future memory slots
guess_here d future memory [] u r lt e = absurd (omega (arith, lt))
guess_here d future memory (s ∷ older) u r lt e = ap (λ (z : Option Token). z ∷ older) e
