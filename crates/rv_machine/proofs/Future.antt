-- The future file through a row: what goes out writes its late registers into it, and what leaves EX the others, with what the blocks write.
use Rattle.std.proofs.Common.{◌≡◌, ℕ, suc, ◌+◌, ◌<◌, List, [], ◌∷◌, ◌++◌, length, get_or, Option, Some, None, Bool, true, false, refl, sym, ap, ◌∙◌, arith, add-zero}
use Rattle.std.specs.Prelude.{if◌then◌else◌, ◌||◌, ◌&&◌, is_some}
use Rattle.std.specs.List.{list_any}
use Rattle.ix_bits.specs.declared.number.Bits.{Bits}
use Rattle.ix_eval.specs.Evaluated.{type_of_custom}
use Rattle.ix_eval.proofs.Tables.{table_length, table_at}
use Rattle.rv_seq.specs.WordEffects.{AreWide}
use Rattle.rv_seq.specs.declared.answer.StepAnswer.{StepAnswer}
use Rattle.rv_seq.specs.declared.answer.StepAnswer.TheVariants.{Done, Stopped}
use Rattle.rv_seq.specs.declared.commit.Commit.{Commit}
use Rattle.rv_seq.specs.declared.commit.Slot.{Slot}
use Rattle.rv_seq.specs.declared.commit.Slot.TheVariants.{Absent}
use Rattle.rv_seq.specs.Commits.{slot_of, with_slot}
use Rattle.rv_seq.specs.Sound.{IsNowWide}
use Rattle.rv_seq.specs.States.{zero_bit}
use Rattle.rv_seq.specs.Steps.{word_at}
use Rattle.rv_asks.specs.declared.asks.Asks.{Asks}
use Rattle.rv_tried.specs.declared.trial.Trial.{Trial}
use Rattle.rv_tried.specs.Whole.{IsWhole}
use Rattle.rv_holds.specs.declared.token.Token.{Token}
use Rattle.rv_holds.specs.Tokens.{Slots, or_else, stop_in}
use Rattle.rv_holds.specs.Holds.{oldest}
use Rattle.rv_engine.specs.Settings.{Setting, shape_of, tree_of}
use Rattle.rv_engine.specs.Rows.{waited, going, kept, advanced, leaving, first_slot, trial_early, trial_late, file_early, file_late}
use Rattle.rv_lawful.specs.Future.{is_pending, early_write, late_write, with_writes, early_after, late_after}
use Rattle.rv_lawful.specs.Sight.{asked, IsEarly}
use Rattle.rv_machine.specs.Owing.{judged}
use Rattle.rv_machine.specs.Placed.{run, one_more, count, expected, pending_in_answer, owed_write, paid_late, IsFuture, IsPlaced, IsPlacedSlot, IsReady}
use Rattle.rv_machine.specs.Told.{Decided, NoStops}
use Rattle.rv_machine.proofs.Deciding.{decided_tail, no_stops_tail, expected_run}
use Rattle.rv_machine.proofs.Asking.{used_late}
use Rattle.rv_machine.proofs.Runs.{answer, kept_word, run_custom, run_done_custom, whole_word, blocks_word}
use Rattle.rv_machine.proofs.Loading.{early_stop}
use Rattle.rv_machine.proofs.Going.{Free, free_ahead}
use Rattle.rv_machine.proofs.Trying.{not_pending, pends, spawns_custom, none_pends}
use Rattle.rv_machine.proofs.WideFuture.{wide_at, wide_of, slot_wide, now_wide}
use Rattle.ix_plan.specs.declared.design.Target.TheVariants.{Custom}

-- ---- what is asked of the tokens, the youngest first

abbrev of_slot : Option Token → List Asks
of_slot None = []
of_slot (Some t) = t.asks ∷ []

abbrev all_asks : Slots → List Asks
all_asks [] = []
all_asks (s ∷ older) = of_slot s ++ all_asks older

abbrev pend_at : ℕ → Asks → Bool
pend_at reg a = is_pending a reg

abbrev use_at : ℕ → Asks → Bool
use_at reg a = get_or a.customs reg false

abbrev pend_in : ℕ → List Asks → Bool
pend_in reg xs = list_any (pend_at reg) xs

-- a custom register with what these owe it, of which the oldest stands at the place r
abbrev paid_in : Setting → ℕ → ℕ → List Asks → Bits → Bits
paid_in k r reg [] v = v
paid_in k r reg (a ∷ xs) v = with_slot (paid_in k r reg xs v) (owed_write k a (r + length xs) reg)

asks_count : (l : Slots) → count l ≡ length (all_asks l)
asks_count [] = refl
asks_count (None ∷ l) = asks_count l
asks_count (Some t ∷ l) = ap suc (asks_count l)

some_or : (o : Option ℕ) (b : Bool) (n : ℕ) → is_some (or_else o (if b then Some n else None)) ≡ (b || is_some o)
some_or None true n = refl
some_or None false n = refl
some_or (Some m) true n = refl
some_or (Some m) false n = refl

asks_pend : (reg : ℕ) (l : Slots) → is_some (oldest (pends reg) l) ≡ pend_in reg (all_asks l)
asks_pend reg [] = refl
asks_pend reg (None ∷ l) = asks_pend reg l
asks_pend reg (Some t ∷ l) = some_or (oldest (pends reg) l) (pend_at reg t.asks) t.cell.serial ∙ ap (λ b. pend_at reg t.asks || b) (asks_pend reg l)

paid_asks : (k : Setting) (r reg : ℕ) (l : Slots) (v : Bits) → paid_late k r reg l v ≡ paid_in k r reg (all_asks l) v
paid_asks k r reg [] v = refl
paid_asks k r reg (None ∷ l) v = paid_asks k r reg l v
paid_asks k r reg (Some t ∷ l) v =
    ap (λ w. with_slot w (owed_write k t.asks (r + count l) reg)) (paid_asks k r reg l v)
    ∙ ap (λ n. with_slot (paid_in k r reg (all_asks l) v) (owed_write k t.asks (r + n) reg)) (asks_count l)

neither : (p q : Bool) → (p || q) ≡ false → (p ≡ false) × (q ≡ false)
neither false q e = (refl, e)
neither true q e = cc

none_owed : (k : Setting) (r reg : ℕ) (xs : List Asks) (v : Bits) → pend_in reg xs ≡ false → paid_in k r reg xs v ≡ v
none_owed k r reg [] v h = refl
none_owed k r reg (a ∷ xs) v h =
    let e = neither (pend_at reg a) (pend_in reg xs) h in
    ap (λ s. with_slot (paid_in k r reg xs v) s) (not_pending a ((judged k).course.own (r + length xs)) reg (answer k (r + length xs)) e.0)
    ∙ none_owed k r reg xs v e.1

-- ---- the moves leave what is asked, but for what goes out

kept_asks : (come s : Option Token) (rest : List Asks) → Free come s → of_slot (kept come s) ++ (of_slot (going s) ++ rest) ≡ of_slot come ++ (of_slot s ++ rest)
kept_asks come None rest f = refl
kept_asks come (Some t) rest f = by_case (is_some t.cell.hold) come f where
  by_case : (b : Bool) (come : Option Token) → (b ≡ true → come ≡ None) → of_slot (if b then Some (waited t) else come) ++ (of_slot (if b then None else Some t) ++ rest) ≡ of_slot come ++ (t.asks ∷ rest)
  by_case true None f = refl
  by_case true (Some u) f = cc (f refl)
  by_case false come f = refl

joined : (a b c : List Asks) → (a ++ b) ++ c ≡ a ++ (b ++ c)
joined [] b c = refl
joined (x ∷ a) b c = ap (λ l. x ∷ l) (joined a b c)

moved_asks : (k : Setting) (stage : ℕ) (come : Option Token) (l : Slots) → Decided k stage l → NoStops k stage l → Free come (first_slot l) → all_asks (advanced come l) ++ of_slot (leaving come l) ≡ of_slot come ++ all_asks l
moved_asks k stage None [] d n f = refl
moved_asks k stage (Some t) [] d n f = refl
moved_asks k stage come (s ∷ older) d n f =
    joined (of_slot (kept come s)) (all_asks (advanced (going s) older)) (of_slot (leaving (going s) older))
    ∙ ap (λ l. of_slot (kept come s) ++ l) (moved_asks k (suc stage) (going s) older (decided_tail k stage s older d) (no_stops_tail k stage s older n) (free_ahead k 0 stage s older d n))
    ∙ kept_asks come s (all_asks older) f

-- what comes stands in front
front_asks : (come : Option Token) (l : Slots) → 0 < length l → Free come (first_slot l) → all_asks (advanced come l) ≡ of_slot come ++ all_asks (advanced None l)
front_asks come [] lt f = absurd (omega (arith, lt))
front_asks come (None ∷ older) lt f = refl
front_asks come (Some t ∷ older) lt f = by_case (is_some t.cell.hold) come f where
  by_case : (b : Bool) (come : Option Token) → (b ≡ true → come ≡ None) → of_slot (if b then Some (waited t) else come) ++ all_asks (advanced (going (Some t)) older) ≡ of_slot come ++ (of_slot (if b then Some (waited t) else None) ++ all_asks (advanced (going (Some t)) older))
  by_case true None f = refl
  by_case true (Some u) f = cc (f refl)
  by_case false None f = refl
  by_case false (Some u) f = refl

pub leaving_any : (come : Option Token) (l : Slots) → 0 < length l → leaving come l ≡ leaving None l
leaving_any come [] lt = absurd (omega (arith, lt))
leaving_any come (s ∷ older) lt = refl

-- ---- the last of a list

last_length : (ys : List Asks) (u : Asks) → length (ys ++ (u ∷ [])) ≡ suc (length ys)
last_length [] u = refl
last_length (a ∷ ys) u = ap suc (last_length ys u)

-- what the oldest owes is paid first
paid_last : (k : Setting) (r reg : ℕ) (ys : List Asks) (u : Asks) (v : Bits) → paid_in k r reg (ys ++ (u ∷ [])) v ≡ paid_in k (r + 1) reg ys (with_slot v (owed_write k u r reg))
paid_last k r reg [] u v = ap (λ n. with_slot v (owed_write k u n reg)) (add-zero r)
paid_last k r reg (a ∷ ys) u v =
    let n = last_length ys u in
    let place : r + length (ys ++ (u ∷ [])) ≡ r + 1 + length ys = omega (arith, n) in
    ap (λ w. with_slot w (owed_write k a (r + length (ys ++ (u ∷ []))) reg)) (paid_last k r reg ys u v)
    ∙ ap (λ m. with_slot (paid_in k (r + 1) reg ys (with_slot v (owed_write k u r reg))) (owed_write k a m reg)) place

pend_more : (reg : ℕ) (ys zs : List Asks) → pend_in reg (ys ++ zs) ≡ false → pend_in reg ys ≡ false
pend_more reg [] zs h = refl
pend_more reg (a ∷ ys) zs h = by_case (pend_at reg a) (pend_more reg ys zs) h where
  by_case : (b : Bool) → (pend_in reg (ys ++ zs) ≡ false → pend_in reg ys ≡ false) → (b || pend_in reg (ys ++ zs)) ≡ false → (b || pend_in reg ys) ≡ false
  by_case true i q = cc
  by_case false i q = i q

-- ---- registers along the run

abbrev value : Setting → ℕ → ℕ → Bits
value k reg p = get_or (run k p).custom reg zero_bit

none_is : (o : Option ℕ) → o ≡ None → is_some o ≡ false
none_is o h = ap (λ q. is_some q) h

-- ---- what is written

-- what a step with this answer, which itself writes these custom registers, writes late to one of them; a stop writes nothing
abbrev pub late_in_answer : Asks → List Bool → ℕ → StepAnswer → Slot Bits
late_in_answer a own reg (Done c) = late_write a own c reg
late_in_answer a own reg (Stopped stop) = Absent

abbrev pub late_of : Setting → Asks → ℕ → ℕ → Slot Bits
late_of k a p reg = late_in_answer a ((judged k).course.own p) reg (answer k p)

-- a register after some writes
put_at : (f : ℕ → Slot Bits) (file : List Bits) (reg : ℕ) → reg < 16 → get_or (with_writes f file) reg zero_bit ≡ with_slot (get_or file reg zero_bit) (f reg)
put_at f file reg lt = table_at (λ r. with_slot (get_or file r zero_bit) (f r)) 16 reg zero_bit lt

-- what a step with this answer writes as its token leaves EX
abbrev pub early_in_answer : Asks → List (Option Bits) → ℕ → StepAnswer → Slot Bits
early_in_answer a blocks reg (Done c) = early_write a blocks c reg
early_in_answer a blocks reg (Stopped stop) = Absent

early_at : (a : Asks) (blocks : List (Option Bits)) (y : StepAnswer) (file : List Bits) (reg : ℕ) → reg < 16
    → get_or (early_after a blocks y file) reg zero_bit ≡ with_slot (get_or file reg zero_bit) (early_in_answer a blocks reg y)
early_at a blocks (Done c) file reg lt = put_at (early_write a blocks c) file reg lt
early_at a blocks (Stopped stop) file reg lt = refl

late_after_at : (a : Asks) (own : List Bool) (y : StepAnswer) (file : List Bits) (reg : ℕ) → reg < 16
    → get_or (late_after a own y file) reg zero_bit ≡ with_slot (get_or file reg zero_bit) (late_in_answer a own reg y)
late_after_at a own (Done c) file reg lt = put_at (late_write a own c) file reg lt
late_after_at a own (Stopped stop) file reg lt = refl

-- and the file keeps its sixteen
early_length : (s : Option Token) (file : List Bits) → length file ≡ 16 → length (file_early s file) ≡ 16
early_length None file h = h
early_length (Some t) file h = by_trial t.trial where
  by_answer : (blocks : List (Option Bits)) (y : StepAnswer) → length (early_after t.asks blocks y file) ≡ 16
  by_answer blocks (Done c) = table_length (λ r. with_slot (get_or file r zero_bit) (early_write t.asks blocks c r)) 16
  by_answer blocks (Stopped stop) = h

  by_trial : (o : Option Trial) → length (trial_early t.asks o file) ≡ 16
  by_trial None = h
  by_trial (Some trial) = by_answer trial.blocks trial.answer

late_length : (s : Option Token) (file : List Bits) → length file ≡ 16 → length (file_late s file) ≡ 16
late_length None file h = h
late_length (Some t) file h = by_trial t.trial where
  by_answer : (own : List Bool) (y : StepAnswer) → length (late_after t.asks own y file) ≡ 16
  by_answer own (Done c) = table_length (λ r. with_slot (get_or file r zero_bit) (late_write t.asks own c r)) 16
  by_answer own (Stopped stop) = h

  by_trial : (o : Option Trial) → length (trial_late t.asks o file) ≡ 16
  by_trial None = h
  by_trial (Some trial) = by_answer trial.own trial.answer

-- a token that comes to a record of the run's step
done_of : (a : StepAnswer) → stop_in a ≡ None → (c : Commit) × (a ≡ Done c)
done_of (Done c) h = (c, refl)
done_of (Stopped stop) h = cc

-- what is known by EX writes the same as the step
pub early_same : (a : Asks) (blocks : List (Option Bits)) (reg : ℕ) (x y : StepAnswer) → IsEarly a x y → early_in_answer a blocks reg x ≡ early_in_answer a blocks reg y
early_same a blocks reg (Done c) (Done d) h = by_case (get_or a.late_customs reg false) (get_or a.spawned_customs reg false) refl refl where
  by_case : (p q : Bool) → get_or a.late_customs reg false ≡ p → get_or a.spawned_customs reg false ≡ q
      → (if p || q then slot_of (get_or blocks reg None) else get_or c.custom reg Absent) ≡ (if p || q then slot_of (get_or blocks reg None) else get_or d.custom reg Absent)
  by_case true q e f = refl
  by_case false true e f = refl
  by_case false false e f = h.customs reg e f
early_same a blocks reg (Stopped s) (Stopped u) h = refl
early_same a blocks reg (Done c) (Stopped s) h = absurd h
early_same a blocks reg (Stopped s) (Done c) h = absurd h

-- the blocks' write, and over it the instruction's own, are the whole of a record
whole_of : (own : List Bool) (blocks : List (Option Bits)) (c : Commit) (reg : ℕ) (v : Bits) → IsWhole own blocks c reg
    → with_slot (with_slot v (slot_of (get_or blocks reg None))) (if get_or own reg false then get_or c.custom reg Absent else Absent) ≡ with_slot v (get_or c.custom reg Absent)
whole_of own blocks c reg v w = by_case (get_or own reg false) refl where
  by_case : (b : Bool) → get_or own reg false ≡ b → with_slot (with_slot v (slot_of (get_or blocks reg None))) (if b then get_or c.custom reg Absent else Absent) ≡ with_slot v (get_or c.custom reg Absent)
  by_case false e = ap (λ s. with_slot v s) (sym (w.others e))
  by_case true e =
      let x = w.itself e in
      ap (λ s. with_slot (with_slot v (slot_of (get_or blocks reg None))) s) x.1 ∙ ap (λ s. with_slot v s) (sym x.1)

-- an instruction writes behind EX only what it uses
pub unused_pend : (k : Setting) (ready : IsReady k) (reg : ℕ) (a : Asks) (word : ℕ) → a ≡ asked k.design word → use_at reg a ≡ false → (get_or a.late_customs reg false ≡ false) × (get_or a.spawned_customs reg false ≡ false)
unused_pend k ready reg a word is e = by_flags (get_or a.late_customs reg false) refl (get_or a.spawned_customs reg false) refl where
  asks_is : (f : Asks → Bool) → f a ≡ f (asked k.design word)
  asks_is f = ap f is

  by_flags : (b : Bool) → get_or a.late_customs reg false ≡ b → (c : Bool) → get_or a.spawned_customs reg false ≡ c → (b ≡ false) × (c ≡ false)
  by_flags true f c g = cc (sym e ∙ asks_is (use_at reg) ∙ used_late k.design word reg (sym (asks_is (λ a. get_or a.late_customs reg false)) ∙ f))
  by_flags false f true g = cc (sym e ∙ asks_is (use_at reg) ∙ ready.in_units.touching word (Custom reg) (sym (asks_is (λ a. get_or a.spawned_customs reg false)) ∙ g))
  by_flags false f false g = (refl, refl)

pub late_none : (k : Setting) (ready : IsReady k) (p reg : ℕ) (a : Asks) (word : ℕ) → a ≡ asked k.design word → use_at reg a ≡ false → late_of k a p reg ≡ Absent
late_none k ready p reg a word is e = by_answer (answer k p) where
  by_answer : (y : StepAnswer) → late_in_answer a ((judged k).course.own p) reg y ≡ Absent
  by_answer (Done c) = ap (λ (b : Bool). if b && get_or ((judged k).course.own p) reg false then get_or c.custom reg Absent else Absent) (unused_pend k ready reg a word is e).0
  by_answer (Stopped stop) = refl

pub early_none : (k : Setting) (ready : IsReady k) (p reg : ℕ) (t : Token) → t.asks ≡ asked k.design t.cell.word → word_at k.image (run k p).pc ≡ Some t.cell.word → use_at reg t.asks ≡ false → early_in_answer t.asks ((judged k).course.blocks p) reg (answer k p) ≡ Absent
early_none k ready p reg t is w e = by_answer (answer k p) refl where
  by_answer : (y : StepAnswer) → answer k p ≡ y → early_in_answer t.asks ((judged k).course.blocks p) reg y ≡ Absent
  by_answer (Done d) done =
      let n = unused_pend k ready reg t.asks t.cell.word is e in
      rw (n.0, n.1) ((kept_word k ready p t.cell.word d w done).customs reg (sym (ap (λ a. use_at reg a) is) ∙ e))
  by_answer (Stopped stop) done = refl

module _ (k : Setting) (ready : IsReady k) (r reg : ℕ) (lt : reg < 16) where
  -- what goes out writes what it writes late
  pub retire_late : (t : Token) (address : ℕ) (file : List Bits) → IsPlaced k r address (shape_of k).stages [] t → get_or (file_late (Some t) file) reg zero_bit ≡ with_slot (get_or file reg zero_bit) (late_of k t.asks r reg)
  retire_late t address file here =
      let past = ready.mem_last in
      let past_ex = ready.ex_last in
      let g = here.gone (omega (arith, past_ex)) in
      let exact = here.exact g.0 g.1 (λ l. past) in
      ap (λ o. get_or (trial_late t.asks o file) reg zero_bit) g.1
      ∙ late_after_at t.asks g.0.own g.0.answer file reg lt
      ∙ ap (λ l. with_slot (get_or file reg zero_bit) (late_in_answer t.asks l reg g.0.answer)) exact.own
      ∙ ap (λ y. with_slot (get_or file reg zero_bit) (late_in_answer t.asks ((judged k).course.own r) reg y)) exact.answer

  -- what leaves EX writes what the step of its place does by then
  pub leave_early : (t : Token) (p address : ℕ) (older : Slots) (file : List Bits) → IsPlaced k p address (suc (shape_of k).ex) older t
      → get_or (file_early (Some t) file) reg zero_bit ≡ with_slot (get_or file reg zero_bit) (early_in_answer t.asks ((judged k).course.blocks p) reg (answer k p))
  leave_early t p address older file here =
      let g = here.gone (omega arith) in
      let i = here.tried g.0 g.1 in
      ap (λ o. get_or (trial_early t.asks o file) reg zero_bit) g.1
      ∙ early_at t.asks g.0.blocks g.0.answer file reg lt
      ∙ ap (λ l. with_slot (get_or file reg zero_bit) (early_in_answer t.asks l reg g.0.answer)) i.blocks
      ∙ ap (λ s. with_slot (get_or file reg zero_bit) s) (early_same t.asks ((judged k).course.blocks p) reg g.0.answer (answer k p) i.early)

  abbrev by_then : Asks → ℕ → StepAnswer → Slot Bits
  by_then a p y = early_in_answer a ((judged k).course.blocks p) reg y

  abbrev owed : Asks → ℕ → StepAnswer → Slot Bits
  owed a p y = pending_in_answer a ((judged k).course.own p) reg y

  -- what leaves EX, with what is owed, is behind its step
  execute : (t : Token) (p : ℕ) (d : Commit) (base next : Bits) (q : ℕ) (ys : List Asks) → t.asks ≡ asked k.design t.cell.word → answer k p ≡ Done d → word_at k.image (run k p).pc ≡ Some t.cell.word → p ≡ q + length ys
      → (use_at reg t.asks ≡ true → pend_in reg ys ≡ false) → next ≡ with_slot base (early_in_answer t.asks ((judged k).course.blocks p) reg (answer k p)) → paid_in k q reg ys base ≡ value k reg (q + length ys)
      → paid_in k q reg (t.asks ∷ ys) next ≡ value k reg (q + suc (length ys))
  execute t p d base next q ys is done w place clear next_is h =
      let up : suc (q + length ys) ≡ q + suc (length ys) = omega arith in
      ap (λ v. paid_in k q reg (t.asks ∷ ys) v) next_is
      ∙ ap (λ n. with_slot (paid_in k q reg ys (with_slot base (early_in_answer t.asks ((judged k).course.blocks p) reg (answer k p)))) (owed_write k t.asks n reg)) (sym place)
      ∙ by_use (use_at reg t.asks) refl
      ∙ ap (λ n. value k reg (suc n)) place
      ∙ ap (λ n. value k reg n) up where
        asks_is : (f : Asks → Bool) → f t.asks ≡ f (asked k.design t.cell.word)
        asks_is f = ap f is

        -- the register is the run's before the step
        run_is : paid_in k q reg ys base ≡ value k reg p
        run_is = h ∙ ap (λ n. value k reg n) (sym place)

        no_pend : use_at reg t.asks ≡ false → pend_at reg t.asks ≡ false
        no_pend e = let n = unused_pend k ready reg t.asks t.cell.word is e in rw (n.0, n.1) refl

        -- a register that the instruction does not use stays
        unused : use_at reg t.asks ≡ false → with_slot (paid_in k q reg ys (with_slot base (by_then t.asks p (answer k p)))) (owed t.asks p (answer k p)) ≡ value k reg (suc p)
        unused e =
            ap (λ s. with_slot (paid_in k q reg ys (with_slot base (by_then t.asks p (answer k p)))) s) (not_pending t.asks ((judged k).course.own p) reg (answer k p) (no_pend e))
            ∙ ap (λ s. paid_in k q reg ys (with_slot base s)) (early_none k ready p reg t is w e)
            ∙ run_is
            ∙ sym (run_custom k ready p t.cell.word reg w (sym (asks_is (use_at reg)) ∙ e))

        -- one that it uses has no older token that writes it behind EX
        used : use_at reg t.asks ≡ true → with_slot (paid_in k q reg ys (with_slot base (by_then t.asks p (answer k p)))) (owed t.asks p (answer k p)) ≡ value k reg (suc p)
        used e =
            let none = clear e in
            let old : base ≡ value k reg p = sym (none_owed k q reg ys base none) ∙ run_is in
            ap (λ v. with_slot v (owed t.asks p (answer k p))) (none_owed k q reg ys (with_slot base (by_then t.asks p (answer k p))) none)
            ∙ ap (λ y. with_slot (with_slot base (by_then t.asks p y)) (owed t.asks p y)) done
            ∙ ap (λ v. with_slot (with_slot v (by_then t.asks p (Done d))) (owed t.asks p (Done d))) old
            ∙ by_pend (pend_at reg t.asks)
            ∙ sym (run_done_custom k p d reg done lt) where
              by_pend : (b : Bool)
                  → with_slot (with_slot (value k reg p) (if b then slot_of (get_or ((judged k).course.blocks p) reg None) else get_or d.custom reg Absent)) (if b && get_or ((judged k).course.own p) reg false then get_or d.custom reg Absent else Absent)
                  ≡ with_slot (value k reg p) (get_or d.custom reg Absent)
              by_pend false = refl
              by_pend true = whole_of ((judged k).course.own p) ((judged k).course.blocks p) d reg (value k reg p) (whole_word k ready p t.cell.word d reg w done lt)

        by_use : (b : Bool) → use_at reg t.asks ≡ b → with_slot (paid_in k q reg ys (with_slot base (by_then t.asks p (answer k p)))) (owed t.asks p (answer k p)) ≡ value k reg (suc p)
        by_use true e = used e
        by_use false e = unused e

-- ---- widths of what steps write

abbrev width_of : Setting → ℕ → ℕ
width_of k reg = (type_of_custom (tree_of k) reg).width

module _ (k : Setting) (ready : IsReady k) (p reg : ℕ) (lt : reg < 16) where
  pub step_wide : (c : Commit) → answer k p ≡ Done c → IsNowWide (width_of k reg) (get_or c.custom reg Absent)
  step_wide c done =
      now_wide (value k reg p) (value k reg (suc p)) (get_or c.custom reg Absent) (width_of k reg) (run_done_custom k p c reg done lt)
      (wide_at (tree_of k) (run k (suc p)).custom reg (ready.wide (suc p)) lt)

  late_wide : (a : Asks) → IsNowWide (width_of k reg) (late_of k a p reg)
  late_wide a = by_answer (answer k p) refl where
    by_answer : (y : StepAnswer) → answer k p ≡ y → IsNowWide (width_of k reg) (late_in_answer a ((judged k).course.own p) reg y)
    by_answer (Done c) e = by_case (get_or a.late_customs reg false && get_or ((judged k).course.own p) reg false) where
      by_case : (b : Bool) → IsNowWide (width_of k reg) (if b then get_or c.custom reg Absent else Absent)
      by_case true = step_wide c e
      by_case false = tt
    by_answer (Stopped stop) e = tt

  early_wide : (a : Asks) (blocks : List (Option Bits)) → IsNowWide (width_of k reg) (slot_of (get_or blocks reg None)) → IsNowWide (width_of k reg) (early_in_answer a blocks reg (answer k p))
  early_wide a blocks w = by_answer (answer k p) refl where
    by_answer : (y : StepAnswer) → answer k p ≡ y → IsNowWide (width_of k reg) (early_in_answer a blocks reg y)
    by_answer (Done c) e = by_case (is_pending a reg) where
      by_case : (b : Bool) → IsNowWide (width_of k reg) (if b then slot_of (get_or blocks reg None) else get_or c.custom reg Absent)
      by_case true = w
      by_case false = step_wide c e
    by_answer (Stopped stop) e = tt

-- ---- the row

-- what a file has after one has gone out, where another had this before: what it owed is paid
abbrev pub Retires : Setting → ℕ → ℕ → Option Token → Bits → Bits → Type 0
Retires k r reg None before after = after ≡ before
Retires k r reg (Some t) before after = after ≡ with_slot before (owed_write k t.asks r reg)

-- and after one has left EX
abbrev pub Executes : Setting → ℕ → ℕ → Option Token → Bits → Bits → Type 0
Executes k p reg None before after = after ≡ before
Executes k p reg (Some t) before after = after ≡ with_slot before (early_in_answer t.asks ((judged k).course.blocks p) reg (answer k p))

-- no older token spawns what the token uses
abbrev pub Unspawned : Slots → Option Token → Type 0
Unspawned gone None = Unit {0}
Unspawned gone (Some t) = (reg : ℕ) → reg < 16 → get_or t.asks.customs reg false ≡ true → oldest (spawns_custom reg) gone ≡ None

-- the word at the place of what leaves EX
pub word_there : (k : Setting) (r : ℕ) (gone : Slots) (t : Token) → IsPlaced k (r + count gone) (expected k r (suc (shape_of k).ex) gone) (suc (shape_of k).ex) gone t → word_at k.image (run k (r + count gone)).pc ≡ Some t.cell.word
word_there k r gone t h =
    let g = h.gone (omega arith) in
    let pc = h.at ∙ expected_run k r (suc (shape_of k).ex) gone (omega arith) (h.settled g.0 g.1) in
    ap (λ a. word_at k.image a) (sym pc) ∙ h.word

-- its step comes to a record
pub executed_done : (k : Setting) (p address : ℕ) (older : Slots) (t : Token) → IsPlaced k p address (suc (shape_of k).ex) older t → (d : Commit) × (answer k p ≡ Done d)
executed_done k p address older t h =
    let g = h.gone (omega arith) in
    done_of (answer k p) (sym (early_stop t.asks g.0.answer (answer k p) (h.tried g.0 g.1).early) ∙ g.2)

module _ (k : Setting) (ready : IsReady k) (r : ℕ) (come : Option Token) (gone : Slots) (some : 0 < length gone)
    (decided : Decided k (suc (shape_of k).ex) gone) (stops : NoStops k (suc (shape_of k).ex) gone) (free : Free come (first_slot gone))
    (comes : IsPlacedSlot k (r + count gone) (expected k r (suc (shape_of k).ex) gone) (suc (shape_of k).ex) gone come) (before between after : List Bits)
    (retires : (reg : ℕ) → reg < 16 → Retires k r reg (leaving come gone) (get_or before reg zero_bit) (get_or between reg zero_bit))
    (executes : (reg : ℕ) → reg < 16 → Executes k (r + count gone) reg come (get_or between reg zero_bit) (get_or after reg zero_bit)) (unspawned : Unspawned gone come) (file : IsFuture k r before gone) where
  parted : all_asks (advanced None gone) ++ of_slot (leaving come gone) ≡ all_asks gone
  parted =
      ap (λ s. all_asks (advanced None gone) ++ of_slot s) (leaving_any come gone some)
      ∙ moved_asks k (suc (shape_of k).ex) None gone decided stops (λ h. refl)

  joined_none : (l : List Asks) → l ++ [] ≡ l
  joined_none [] = refl
  joined_none (a ∷ l) = ap (λ m. a ∷ m) (joined_none l)

  -- the place of what leaves EX
  place_of : (s : Option Token) → all_asks (advanced None gone) ++ of_slot s ≡ all_asks gone → r + count gone ≡ r + one_more s 0 + length (all_asks (advanced None gone))
  place_of s e =
      let n = asks_count gone ∙ ap length (sym e) in
      omega (arith, n, by_slot s) where
        by_slot : (s : Option Token) → length (all_asks (advanced None gone) ++ of_slot s) ≡ length (all_asks (advanced None gone)) + one_more s 0
        by_slot None = lengths (all_asks (advanced None gone)) where
          lengths : (l : List Asks) → length (l ++ []) ≡ length l + 0
          lengths [] = refl
          lengths (a ∷ l) = let x = lengths l in omega (arith, x)
        by_slot (Some t) = let u = last_length (all_asks (advanced None gone)) t.asks in omega (arith, u)

  -- after what goes out has paid
  retired : (reg : ℕ) → reg < 16 → (s : Option Token) → Retires k r reg s (get_or before reg zero_bit) (get_or between reg zero_bit) → all_asks (advanced None gone) ++ of_slot s ≡ all_asks gone
      → paid_in k (r + one_more s 0) reg (all_asks (advanced None gone)) (get_or between reg zero_bit) ≡ value k reg (r + one_more s 0 + length (all_asks (advanced None gone)))
  retired reg lt s h e = by_slot s h e ∙ ap (λ n. value k reg n) (place_of s e) where
    by_slot : (s : Option Token) → Retires k r reg s (get_or before reg zero_bit) (get_or between reg zero_bit) → all_asks (advanced None gone) ++ of_slot s ≡ all_asks gone
        → paid_in k (r + one_more s 0) reg (all_asks (advanced None gone)) (get_or between reg zero_bit) ≡ value k reg (r + count gone)
    by_slot None h e =
        ap (λ n. paid_in k n reg (all_asks (advanced None gone)) (get_or between reg zero_bit)) (add-zero r)
        ∙ ap (λ v. paid_in k r reg (all_asks (advanced None gone)) v) h
        ∙ ap (λ l. paid_in k r reg l (get_or before reg zero_bit)) (sym (joined_none (all_asks (advanced None gone))) ∙ e)
        ∙ sym (paid_asks k r reg gone (get_or before reg zero_bit))
        ∙ file reg lt
    by_slot (Some t) h e =
        ap (λ v. paid_in k (r + 1) reg (all_asks (advanced None gone)) v) h
        ∙ sym (paid_last k r reg (all_asks (advanced None gone)) t.asks (get_or before reg zero_bit))
        ∙ ap (λ l. paid_in k r reg l (get_or before reg zero_bit)) e
        ∙ sym (paid_asks k r reg gone (get_or before reg zero_bit))
        ∙ file reg lt

  executed : (reg : ℕ) → reg < 16 → (s c : Option Token) → IsPlacedSlot k (r + count gone) (expected k r (suc (shape_of k).ex) gone) (suc (shape_of k).ex) gone c → Unspawned gone c
      → Executes k (r + count gone) reg c (get_or between reg zero_bit) (get_or after reg zero_bit) → all_asks (advanced None gone) ++ of_slot s ≡ all_asks gone
      → paid_in k (r + one_more s 0) reg (all_asks (advanced None gone)) (get_or between reg zero_bit) ≡ value k reg (r + one_more s 0 + length (all_asks (advanced None gone)))
      → paid_in k (r + one_more s 0) reg (of_slot c ++ all_asks (advanced None gone)) (get_or after reg zero_bit) ≡ value k reg (r + one_more s 0 + length (of_slot c ++ all_asks (advanced None gone)))
  executed reg lt s None h u x e q = ap (λ v. paid_in k (r + one_more s 0) reg (all_asks (advanced None gone)) v) x ∙ q
  executed reg lt s (Some t) h u x e q =
      let g = h.gone (omega arith) in
      let d = executed_done k (r + count gone) (expected k r (suc (shape_of k).ex) gone) gone t h in
      execute k ready r reg lt t (r + count gone) d.0 (get_or between reg zero_bit) (get_or after reg zero_bit) (r + one_more s 0) (all_asks (advanced None gone)) h.asks d.1 (word_there k r gone t h) (place_of s e)
      (λ used. pend_more reg (all_asks (advanced None gone)) (of_slot s)
      (ap (λ l. pend_in reg l) e ∙ sym (asks_pend reg gone) ∙ none_is (oldest (pends reg) gone) (none_pends reg gone (h.clear g.0 g.1 reg used) (u reg lt used)))) x q

  pub future_advanced : IsFuture k (r + one_more (leaving come gone) 0) after (advanced come gone)
  future_advanced reg lt =
      let n = r + one_more (leaving come gone) 0 in
      let v = get_or after reg zero_bit in
      let front = front_asks come gone some free in
      paid_asks k n reg (advanced come gone) v
      ∙ ap (λ l. paid_in k n reg l v) front
      ∙ executed reg lt (leaving come gone) come comes unspawned (executes reg lt) parted (retired reg lt (leaving come gone) (retires reg lt) parted)
      ∙ ap (λ l. value k reg (n + length l)) (sym front)
      ∙ ap (λ m. value k reg (n + m)) (sym (asks_count (advanced come gone)))

-- widths are kept
module _ (k : Setting) (ready : IsReady k) (r : ℕ) (come : Option Token) (gone : Slots) (future : List Bits) (wide : AreWide (tree_of k) future)
    (comes : IsPlacedSlot k (r + count gone) (expected k r (suc (shape_of k).ex) gone) (suc (shape_of k).ex) gone come) (leaves : IsPlacedSlot k r (run k r).pc (shape_of k).stages [] (leaving come gone)) where
  retired_wide : (reg : ℕ) → reg < 16 → (s : Option Token) → IsPlacedSlot k r (run k r).pc (shape_of k).stages [] s → (get_or (file_late s future) reg zero_bit).width ≡ width_of k reg
  retired_wide reg lt None h = wide_at (tree_of k) future reg wide lt
  retired_wide reg lt (Some t) h =
      ap (λ (b : Bits). b.width) (retire_late k ready r reg lt t (run k r).pc future h)
      ∙ slot_wide (get_or future reg zero_bit) (late_of k t.asks r reg) (width_of k reg) (wide_at (tree_of k) future reg wide lt) (late_wide k ready r reg lt t.asks)

  executed_wide : (reg : ℕ) → reg < 16 → (c : Option Token) (file : List Bits) → IsPlacedSlot k (r + count gone) (expected k r (suc (shape_of k).ex) gone) (suc (shape_of k).ex) gone c
      → (get_or file reg zero_bit).width ≡ width_of k reg → (get_or (file_early c file) reg zero_bit).width ≡ width_of k reg
  executed_wide reg lt None file h q = q
  executed_wide reg lt (Some t) file h q =
      let p = r + count gone in
      let blocks = blocks_word k ready p t.cell.word (word_there k r gone t h) in
      ap (λ (b : Bits). b.width) (leave_early k ready r reg lt t p (expected k r (suc (shape_of k).ex) gone) gone file h)
      ∙ slot_wide (get_or file reg zero_bit) (early_in_answer t.asks ((judged k).course.blocks p) reg (answer k p)) (width_of k reg) q
      (early_wide k ready p reg lt t.asks ((judged k).course.blocks p) (blocks reg))

  pub wide_advanced : AreWide (tree_of k) (file_early come (file_late (leaving come gone) future))
  wide_advanced =
      wide_of (tree_of k) (file_early come (file_late (leaving come gone) future)) (early_length come (file_late (leaving come gone) future) (late_length (leaving come gone) future wide.count))
      (λ reg lt. executed_wide reg lt come (file_late (leaving come gone) future) comes (retired_wide reg lt (leaving come gone) leaves))
