-- One token at most settles its successor in a row; where it stands next, or all younger ones are flushed, the tokens stand in their places again.
use Rattle.std.proofs.Common.{◌≡◌, ℕ, zero, suc, ◌+◌, ◌-◌, ◌<◌, ◌≤◌, [], ◌∷◌, drop, length, Some, None, Bool, true, false, refl, sym, ap, ◌∙◌, subst, arith, add-zero}
use Rattle.std.specs.Prelude.{◌&&◌, ◌||◌, not, if◌then◌else◌, ◌==◌, is_some}
use Rattle.rv_seq.specs.declared.answer.StepAnswer.{StepAnswer}
use Rattle.rv_seq.specs.declared.answer.StepAnswer.TheVariants.{Done, Stopped}
use Rattle.rv_seq.specs.declared.commit.Commit.{Commit}
use Rattle.rv_seq.specs.Steps.{word_at}
use Rattle.rv_asks.specs.declared.asks.Asks.{Asks}
use Rattle.rv_lawful.specs.Sight.{IsEarly}
use Rattle.rv_holds.specs.declared.token.Token.{Token}
use Rattle.rv_holds.specs.Tokens.{Slots, stop_in, commit_in, tried_commit}
use Rattle.rv_holds.specs.Holds.{oldest, is_late, stops_now}
use Rattle.rv_holds.specs.Flushing.{next_in, next_of, settles_at, settles, settled}
use Rattle.rv_engine.specs.Settings.{Setting, shape_of}
use Rattle.rv_machine.specs.Placed.{run, count, settling_stage, expected, IsPlaced, IsReady, is_entry, NonePast}
use Rattle.rv_machine.specs.Told.{Decided}
use Rattle.rv_machine.proofs.Deciding.{or_else_none, or_else_none_b, if_none, test_eq, same_test, own_none, no_waiting, waits_late, expected_run}
use Rattle.rv_machine.proofs.Runs.{answer, goes_on}
use Rattle.rv_machine.proofs.Trying.{late_clear}
use Rattle.rv_machine.proofs.Loading.{early_stop}
use Rattle.rv_machine.proofs.Going.{AreSeen, seen_tail, going_one}

-- ---- what settles

-- its parts: its stage, no hold, no stop
pub record Settles (k : Setting) (stage : ℕ) (t : Token) (older : Slots) : Type 0 where
  pub at : stage ≡ settling_stage k t
  pub free : is_some t.cell.hold ≡ false
  pub runs : stops_now (shape_of k) stage t older ≡ false

settling_at : (stage stages ex : ℕ) (late : Bool) → 0 < stages → (if late then suc stage == stages else stage == ex) ≡ true → stage ≡ (if late then stages - 1 else ex)
settling_at stage stages ex true lt h = let e = test_eq (suc stage) stages h in omega (arith, e, lt)
settling_at stage stages ex false lt h = test_eq stage ex h

at_settling : (stage stages ex : ℕ) (late : Bool) → 0 < stages → stage ≡ (if late then stages - 1 else ex) → (if late then suc stage == stages else stage == ex) ≡ true
at_settling stage stages ex true lt h = same_test (suc stage) stages (omega (arith, h, lt))
at_settling stage stages ex false lt h = same_test stage ex h

pub some_stages : (k : Setting) (ready : IsReady k) → 0 < (shape_of k).stages
some_stages k ready = let a = ready.ex_last in omega (arith, a)

pub settles_parts : (k : Setting) (ready : IsReady k) (stage : ℕ) (t : Token) (older : Slots) → settles (shape_of k) stage t older ≡ true → Settles k stage t older
settles_parts k ready stage t older h = by_case (settles_at (shape_of k) stage t) (is_some t.cell.hold) (stops_now (shape_of k) stage t older) refl refl refl h where
  by_case : (a b c : Bool) → settles_at (shape_of k) stage t ≡ a → is_some t.cell.hold ≡ b → stops_now (shape_of k) stage t older ≡ c → (a && not (b || c)) ≡ true → Settles k stage t older
  by_case true false false ea eb ec q = record { at = settling_at stage (shape_of k).stages (shape_of k).ex t.asks.late (some_stages k ready) ea; free = eb; runs = ec }
  by_case true false true ea eb ec q = cc
  by_case true true c ea eb ec q = cc
  by_case false b c ea eb ec q = cc

pub parts_settle : (k : Setting) (ready : IsReady k) (stage : ℕ) (t : Token) (older : Slots) → Settles k stage t older → settles (shape_of k) stage t older ≡ true
parts_settle k ready stage t older h =
    all_three (settles_at (shape_of k) stage t) (is_some t.cell.hold) (stops_now (shape_of k) stage t older) (at_settling stage (shape_of k).stages (shape_of k).ex t.asks.late (some_stages k ready) h.at) h.free h.runs where
      all_three : (a b c : Bool) → a ≡ true → b ≡ false → c ≡ false → (a && not (b || c)) ≡ true
      all_three a b c ea eb ec = rw (ea, eb, ec) refl

-- what asks for nothing stands nowhere in these
pub silent_at : (f : Token → Bool) (n : ℕ) (l older : Slots) (t : Token) → oldest f l ≡ None → drop n l ≡ Some t ∷ older → f t ≡ false
silent_at f zero [] older t h e = cc
silent_at f zero (s ∷ l) older t h e = if_none (f t) t.cell.serial (or_else_none_b (oldest f older) _ (sym (ap (λ (m : Slots). oldest f m) e) ∙ h))
silent_at f (suc n) [] older t h e = cc
silent_at f (suc n) (None ∷ l) older t h e = silent_at f n l older t h e
silent_at f (suc n) (Some u ∷ l) older t h e = silent_at f n l older t (or_else_none (oldest f l) _ h) e

-- one that settles at EX has no older one that is late
settled_free : (k : Setting) (stage : ℕ) (t : Token) (older : Slots) → Decided k stage (Some t ∷ older) → is_some t.cell.hold ≡ false → stops_now (shape_of k) stage t older ≡ false → stage ≡ (shape_of k).ex → oldest is_late older ≡ None
settled_free k stage t older d free runs e =
    late_clear older (waits_late (shape_of k) stage t older (no_waiting (shape_of k) stage t older (own_none (shape_of k) stage t older t.cell.hold d.0 free runs)) e)

-- no two settle
pub only_one : (k : Setting) (ready : IsReady k) (base n : ℕ) (u t : Token) (rest older : Slots) → Decided k base (Some u ∷ rest) → Settles k base u rest → drop n rest ≡ Some t ∷ older → suc base + n < (shape_of k).stages → suc base + n ≡ settling_stage k t → ⊥
only_one k ready base n u t rest older d s e lt at = by_case u.asks.late t.asks.late refl s.at at where
  by_case : (a b : Bool) → t.asks.late ≡ b → base ≡ (if a then (shape_of k).stages - 1 else (shape_of k).ex) → suc base + n ≡ (if b then (shape_of k).stages - 1 else (shape_of k).ex) → ⊥
  by_case true b q here there = absurd (omega (arith, here, lt))
  by_case false false q here there = absurd (omega (arith, here, there))
  by_case false true q here there = cc (silent_at is_late n rest older t (settled_free k base u rest d s.free s.runs here) e, q)

-- so the one that settles is the one that is found
pub settled_is : (k : Setting) (ready : IsReady k) (base n : ℕ) (slots older : Slots) (t : Token) → base + length slots ≡ (shape_of k).stages → Decided k base slots → drop n slots ≡ Some t ∷ older → Settles k (base + n) t older
    → settled (shape_of k) base slots ≡ Some (record { stage = base + n; address = next_of t })
settled_is k ready base zero [] older t len d e s = cc
settled_is k ready base zero (None ∷ l) older t len d e s = cc
settled_is k ready base zero (Some u ∷ l) older t len d e s =
    let token : u ≡ t = cc in
    let rest : l ≡ older = cc in
    let yes = parts_settle k ready (base + 0) t older s in
    let here : settles (shape_of k) base u l ≡ true =
    subst (λ (v : Token). settles (shape_of k) base v l ≡ true) (sym token) (subst (λ (m : Slots). settles (shape_of k) base t m ≡ true) (sym rest) (subst (λ b. settles (shape_of k) b t older ≡ true) (add-zero base) yes)) in
    ap (λ (b : Bool). if b then Some (record { stage = base; address = next_of u }) else settled (shape_of k) (suc base) l) here
    ∙ ap (λ (v : Token). Some (record { stage = base; address = next_of v })) token
    ∙ ap (λ b. Some (record { stage = b; address = next_of t })) (sym (add-zero base))
settled_is k ready base (suc n) [] older t len d e s = cc
settled_is k ready base (suc n) (None ∷ l) older t len d e s =
    let z : suc base + n ≡ base + suc n = omega arith in
    settled_is k ready (suc base) n l older t (omega (arith, len)) d e (subst (λ b. Settles k b t older) (sym z) s)
    ∙ ap (λ b. Some (record { stage = b; address = next_of t })) z
settled_is k ready base (suc n) (Some u ∷ l) older t len d e s =
    let z : suc base + n ≡ base + suc n = omega arith in
    let s' : Settles k (suc base + n) t older = subst (λ b. Settles k b t older) (sym z) s in
    ap (λ (b : Bool). if b then Some (record { stage = base; address = next_of u }) else settled (shape_of k) (suc base) l) (not_here (settles (shape_of k) base u l) refl s')
    ∙ settled_is k ready (suc base) n l older t (omega (arith, len)) d.1 e s'
    ∙ ap (λ b. Some (record { stage = b; address = next_of t })) z where
      within : (n : ℕ) (l older : Slots) (t : Token) → drop n l ≡ Some t ∷ older → n < length l
      within zero [] older t e = cc
      within zero (s ∷ l) older t e = omega arith
      within (suc n) [] older t e = cc
      within (suc n) (s ∷ l) older t e = let x = within n l older t e in omega (arith, x)

      not_here : (b : Bool) → settles (shape_of k) base u l ≡ b → Settles k (suc base + n) t older → b ≡ false
      not_here false q s = refl
      not_here true q s =
          let lt = within n l older t e in
          absurd (only_one k ready base n u t l older d (settles_parts k ready base u l q) e (omega (arith, lt, len)) s.at)

-- ---- the address that it settles is the run's

done_of : (a : StepAnswer) → stop_in a ≡ None → (c : Commit) × (a ≡ Done c)
done_of (Done c) h = (c, refl)
done_of (Stopped stop) h = cc

early_next : (a : Asks) (x y : StepAnswer) (c d : Commit) → x ≡ Done c → y ≡ Done d → IsEarly a x y → a.late ≡ false → c.next ≡ d.next
early_next a x y c d ex ey h n = (subst (λ z. IsEarly a (Done c) z) ey (subst (λ z. IsEarly a z y) ex h)).next n

same_done : (c d : Commit) → ◌≡◌ {A = StepAnswer} (Done c) (Done d) → c ≡ d
same_done c d e = cc

-- a token past EX that writes the pc in time, or past MEM
pub next_is : (k : Setting) (ready : IsReady k) (p address stage : ℕ) (older : Slots) (t : Token) → is_entry k (suc p) ≡ false → (shape_of k).ex < stage → IsPlaced k p address stage older t → word_at k.image (run k p).pc ≡ Some t.cell.word → (t.asks.late ≡ true → (shape_of k).mem < stage) → next_of t ≡ (run k (suc p)).pc
next_is k ready p address stage older t plain lt i w past =
    let g = i.gone lt in
    let early = (i.tried g.0 g.1).early in
    let c = done_of g.0.answer g.2 in
    let d = done_of (answer k p) (sym (early_stop t.asks g.0.answer (answer k p) early) ∙ g.2) in
    ap (λ o. next_in t (tried_commit o)) g.1
    ∙ ap (λ a. next_in t (commit_in a)) c.1
    ∙ by_case t.asks.late refl c.0 d.0 g.0.answer (λ l. (i.exact g.0 g.1 l).answer) c.1 d.1 early
    ∙ sym (goes_on k ready p t.cell.word d.0 plain w d.1).pc where
      by_case : (b : Bool) → t.asks.late ≡ b → (c d : Commit) (x : StepAnswer) → ((t.asks.loads ≡ true → (shape_of k).mem < stage) → x ≡ answer k p) → x ≡ Done c → answer k p ≡ Done d → IsEarly t.asks x (answer k p) → c.next ≡ d.next
      by_case false e c d x exact ex ey h = early_next t.asks x (answer k p) c d ex ey h e
      by_case true e c d x exact ex ey h = ap (λ (z : Commit). z.next) (same_done c d (sym ex ∙ exact (λ l. past e) ∙ ey))

pub seen_rest : (k : Setting) (r base n : ℕ) (slots rest : Slots) → AreSeen k r base slots → drop n slots ≡ rest → AreSeen k r (base + n) rest
seen_rest k r base zero slots rest h e = subst (λ b. AreSeen k r b rest) (sym (add-zero base)) (subst (λ l. AreSeen k r base l) e h)
seen_rest k r base (suc n) [] rest h e = subst (λ l. AreSeen k r (base + suc n) l) e (record { placed = tt; read = tt; decided = tt; stops = tt; loaded = tt; ripe = tt })
seen_rest k r base (suc n) (s ∷ l) rest h e =
    let z : suc base + n ≡ base + suc n = omega arith in
    subst (λ b. AreSeen k r b rest) z (seen_rest k r (suc base) n l rest (seen_tail k r base s l h) e)

module _ (k : Setting) (ready : IsReady k) (r stage : ℕ) (t : Token) (older : Slots) (none : NonePast k r) (h : AreSeen k r stage (Some t ∷ older)) (s : Settles k stage t older) where
  from_ex : (shape_of k).ex ≤ stage
  from_ex = by_case t.asks.late s.at where
    by_case : (b : Bool) → stage ≡ (if b then (shape_of k).stages - 1 else (shape_of k).ex) → (shape_of k).ex ≤ stage
    by_case true e = let a = ready.ex_last in omega (arith, a, e)
    by_case false e = omega (arith, e)

  further : IsPlaced k (r + count older) (expected k r (suc stage) older) (suc stage) older t
  further = going_one k ready r stage t older h s.free

  path_word : word_at k.image (run k (r + count older)).pc ≡ Some t.cell.word
  path_word =
      let g = further.gone (omega (arith, from_ex)) in
      let pc = further.at ∙ expected_run k r (suc stage) older (omega (arith, from_ex)) (further.settled g.0 g.1) in
      ap (λ a. word_at k.image a) (sym pc) ∙ further.word

  past_mem : t.asks.late ≡ true → (shape_of k).mem < suc stage
  past_mem e =
      let at = s.at ∙ ap (λ (b : Bool). if b then (shape_of k).stages - 1 else (shape_of k).ex) e in
      let a = ready.mem_last in
      omega (arith, at, a)

  -- the successor that is settled is the run's
  pub settled_next : next_of t ≡ (run k (suc (r + count older))).pc
  settled_next = next_is k ready (r + count older) (expected k r (suc stage) older) (suc stage) older t (none (suc (r + count older)) (omega arith)) (omega (arith, from_ex)) further path_word past_mem
