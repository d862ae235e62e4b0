-- What follows digits, byte by byte.
use Rattle.std.proofs.Common.{◌≡◌, ℕ, ◌+◌, ◌*◌, ◌^◌, ◌<◌, ◌≤◌, List, [], ◌∷◌, length, drop, get_or, Bool, true, false, Some, None, refl, ap, sym, ◌∙◌, subst, arith, drop-cons, length-drop, add-one}
use Rattle.ix_tree.specs.Lexing.{digit_value, IsRun, run_end, run_digit, run_gap}
use Rattle.ix_tree.proofs.Lexemes.{no_gap}
use Rattle.ix_lex.specs.Numbers.{IsTail, tail_run, tail_gap, Continues, NoTail, NoRun}

-- ---- one byte
pub after_gap : (base a : ℕ) → Continues base false a 95 true a
after_gap base a = record { to = λ cs v t. to cs v t refl; from = λ cs v t. from cs v t refl refl }
  where
    to : (cs : List ℕ) (v : ℕ) {g : Bool} → IsTail base g a cs v → g ≡ true → IsTail base false a (95 ∷ cs) v
    to cs v (tail_run r) e = cc
    to cs v (tail_gap c x f r) e = tail_run (run_gap c x f r)

    run : (cs ds : List ℕ) (v : ℕ) → IsRun base a ds v → ds ≡ 95 ∷ cs → IsTail base true a cs v
    run cs ds v run_end e = cc
    run cs ds v (run_digit c x f r) e = let k : c ≡ 95 = cc in absurd (no_gap base x (rw k at f))
    run cs ds v (run_gap {cs = es} c x f r) e = let k : c ∷ es ≡ cs = cc in subst (λ (z : List ℕ). IsTail base true a z v) k (tail_gap c x f r)

    from : (cs : List ℕ) (v : ℕ) {g : Bool} {ds : List ℕ} → IsTail base g a ds v → g ≡ false → ds ≡ 95 ∷ cs → IsTail base true a cs v
    from cs v (tail_run {cs = ds} r) e f = run cs ds v r f
    from cs v (tail_gap c x g r) e f = cc

value_at : (base c d x : ℕ) → c ≡ d → digit_value base c ≡ Some x → digit_value base d ≡ Some x
value_at base c d x e f = rw (sym e) f

plain_run : {base a v : ℕ} {g : Bool} {cs : List ℕ} → IsTail base g a cs v → g ≡ false → IsRun base a cs v
plain_run (tail_run r) e = r
plain_run (tail_gap c x f r) e = cc

-- a digit leads on, behind `_` too
pub tail_digit : (base a c x : ℕ) (gap : Bool) (cs : List ℕ) (v : ℕ) → digit_value base c ≡ Some x → IsTail base false (a * base + x) cs v → IsTail base gap a (c ∷ cs) v
tail_digit base a c x gap cs v e t = go gap (plain_run t refl)
  where
    go : (gap : Bool) → IsRun base (a * base + x) cs v → IsTail base gap a (c ∷ cs) v
    go true r = tail_gap c x e r
    go false r = tail_run (run_digit c x e r)

-- what follows, if its first byte is a digit or none
pub record Led (base a c : ℕ) (cs : List ℕ) (v : ℕ) : Type 0 where
  pub x : ℕ
  pub value : digit_value base c ≡ Some x
  pub run : IsRun base (a * base + x) cs v

run_led : {base a v : ℕ} {ds : List ℕ} → IsRun base a ds v → (c : ℕ) (cs : List ℕ) → (c ≡ 95 → ⊥) → ds ≡ c ∷ cs → Led base a c cs v
run_led run_end c cs n e = cc
run_led {base} {a} {v} (run_digit {cs = ds} d x f r) c cs n e =
    let k : d ≡ c = cc in
    let m : ds ≡ cs = cc in
    record { x = x; value = value_at base d c x k f; run = subst (λ (z : List ℕ). IsRun base (a * base + x) z v) m r }
run_led (run_gap d x f r) c cs n e = absurd (n cc)

tail_led : {base a v : ℕ} {g : Bool} {ds : List ℕ} → IsTail base g a ds v → (c : ℕ) (cs : List ℕ) → (c ≡ 95 → ⊥) → ds ≡ c ∷ cs → Led base a c cs v
tail_led (tail_run r) c cs n e = run_led r c cs n e
tail_led {base} {a} {v} (tail_gap {cs = ds} d x f r) c cs n e =
    let k : d ≡ c = cc in
    let m : ds ≡ cs = cc in
    record { x = x; value = value_at base d c x k f; run = subst (λ (z : List ℕ). IsRun base (a * base + x) z v) m r }

pub led : (base a v c : ℕ) (g : Bool) (cs : List ℕ) → (c ≡ 95 → ⊥) → IsTail base g a (c ∷ cs) v → Led base a c cs v
led base a v c g cs n t = tail_led t c cs n refl

pub by_digit : (base a c x b : ℕ) (gap : Bool) → (c ≡ 95 → ⊥) → digit_value base c ≡ Some x → b ≡ a * base + x → Continues base gap a c false b
by_digit base a c x b gap n e f = record {
  to = λ cs v t. tail_digit base a c x gap cs v e (rw (sym f) t);
  from = λ cs v t. from cs v (led base a v c gap cs n t);
}
  where
    from : (cs : List ℕ) (v : ℕ) → Led base a c cs v → IsTail base false b cs v
    from cs v l =
        let k : Some l.x ≡ Some x = sym l.value ∙ e in
        let m : l.x ≡ x = cc in
        tail_run (subst (λ (z : ℕ). IsRun base z cs v) (ap (λ (z : ℕ). a * base + z) m ∙ sym f) l.run)

-- ---- values grow
pub run_grows : {base a v : ℕ} {cs : List ℕ} → IsRun base a cs v → 1 ≤ base → a ≤ v
run_grows run_end p = omega arith
run_grows {base} {a} (run_digit c x e r) p = let h = run_grows r p in let k = times a base p in omega arith
  where
    times : (a base : ℕ) → 1 ≤ base → a ≤ a * base
    times a base p = grind arith
run_grows {base} {a} (run_gap c x e r) p = let h = run_grows r p in let k = times a base p in omega arith
  where
    times : (a base : ℕ) → 1 ≤ base → a ≤ a * base
    times a base p = grind arith

pub none_here : (base a c : ℕ) (gap : Bool) → (c ≡ 95 → ⊥) → digit_value base c ≡ None → NoTail base gap a c
none_here base a c gap n e cs v h t =
    let l = led base a v c gap cs n t in
    let k : None ≡ Some l.x = sym e ∙ l.value in
    cc

pub too_large : (base a c x : ℕ) (gap : Bool) → 2 ≤ base → (c ≡ 95 → ⊥) → digit_value base c ≡ Some x → 2 ^ 128 ≤ a * base + x → NoTail base gap a c
too_large base a c x gap p n e f cs v h t =
    let l = led base a v c gap cs n t in
    let k : Some l.x ≡ Some x = sym l.value ∙ e in
    let m : l.x ≡ x = cc in
    let g : a * base + l.x ≤ v = run_grows l.run (omega arith) in
    let g' : a * base + x ≤ v = rw m at g in
    absurd (less (a * base + x) v (2 ^ 128) f g' h)
  where
    less : (n v m : ℕ) → m ≤ n → n ≤ v → v < m → ⊥
    less n v m a b c = omega arith

pub no_two_gaps : (base a : ℕ) → NoTail base true a 95
no_two_gaps base a cs v h t = go t refl refl
  where
    go : {g : Bool} {ds : List ℕ} → IsTail base g a ds v → g ≡ true → ds ≡ 95 ∷ cs → ⊥
    go (tail_run r) e f = cc
    go (tail_gap c x g r) e f = let k : c ≡ 95 = cc in no_gap base x (rw k at g)

-- ---- a whole run
pub record Reached (base first : ℕ) (text : List ℕ) (gap : Bool) (a : ℕ) (rest : List ℕ) : Type 0 where
  pub to : (v : ℕ) → IsTail base gap a rest v → IsRun base first text v
  pub from : (v : ℕ) → IsRun base first text v → IsTail base gap a rest v

pub reached_none : (base first : ℕ) (text : List ℕ) → Reached base first text false first text
reached_none base first text = record { to = λ v t. plain_run t refl; from = λ v r. tail_run r }

pub reached_more : (base first : ℕ) (text : List ℕ) (gap gap' : Bool) (a b i : ℕ) → i < length text → Reached base first text gap a (drop i text) → Continues base gap a (get_or text i 0) gap' b → Reached base first text gap' b (drop (i + 1) text)
reached_more base first text gap gap' a b i h r c =
    let e : drop i text ≡ get_or text i 0 ∷ drop (i + 1) text = rw add-one (drop-cons text i 0 h) in
    let s : Reached base first text gap a (get_or text i 0 ∷ drop (i + 1) text) = subst (λ (z : List ℕ). Reached base first text gap a z) e r in
    record { to = λ v t. s.to v (c.to (drop (i + 1) text) v t); from = λ v t. c.from (drop (i + 1) text) v (s.from v t) }

pub reached_stop : (base first : ℕ) (text : List ℕ) (gap : Bool) (a i : ℕ) → i < length text → Reached base first text gap a (drop i text) → NoTail base gap a (get_or text i 0) → NoRun base first text
reached_stop base first text gap a i h r n v l t =
    let e : drop i text ≡ get_or text i 0 ∷ drop (i + 1) text = rw add-one (drop-cons text i 0 h) in
    let s : IsTail base gap a (get_or text i 0 ∷ drop (i + 1) text) v = subst (λ (z : List ℕ). IsTail base gap a z v) e (r.from v t) in
    n (drop (i + 1) text) v l s

drop_past : (n : ℕ) (xs : List ℕ) → length xs ≤ n → drop n xs ≡ []
drop_past n xs h = nothing (drop n xs) (omega (arith, length-drop n xs))
  where
    nothing : (xs : List ℕ) → length xs ≤ 0 → xs ≡ []
    nothing [] h = refl
    nothing (x ∷ xs) h = absurd (omega arith)

pub reached_end : (base first : ℕ) (text : List ℕ) (a : ℕ) (gap : Bool) (i : ℕ) → gap ≡ false → length text ≤ i → Reached base first text gap a (drop i text) → IsRun base first text a
reached_end base first text a gap i e h r =
    let t : IsTail base false a [] a = tail_run run_end in
    r.to a (subst (λ (g : Bool). IsTail base g a (drop i text) a) (sym e) (subst (λ (z : List ℕ). IsTail base false a z a) (sym (drop_past i text h)) t))

pub reached_gap : (base first : ℕ) (text : List ℕ) (a : ℕ) (gap : Bool) (i : ℕ) → gap ≡ true → length text ≤ i → Reached base first text gap a (drop i text) → NoRun base first text
reached_gap base first text a gap i e h r v l t = go (r.from v t) e (drop_past i text h)
  where
    go : {g : Bool} {ds : List ℕ} → IsTail base g a ds v → g ≡ true → ds ≡ [] → ⊥
    go (tail_run r) e f = cc
    go (tail_gap c x g r) e f = cc

pub gap_here : (base a c : ℕ) (gap : Bool) → gap ≡ false → c ≡ 95 → Continues base gap a c true a
gap_here base a c gap e f = rw (e, f) (after_gap base a)
