-- What goes out of the last stage retires the next record of the run; and what is told of a row that the machine makes.
use Rattle.rv_engine.specs.Owing.{beside_of}
use Rattle.rv_machine.proofs.Entered.{interrupted_is}
use Rattle.std.proofs.Common.{◌≡◌, ◌≢◌, ℕ, zero, suc, ◌+◌, ◌-◌, ◌<◌, ◌≤◌, List, [], ◌∷◌, drop, length, Option, Some, None, Bool, true, false, refl, sym, ap, ◌∙◌, subst, arith, add-zero, ◌⊎◌, inl, inr}
use Rattle.std.specs.Prelude.{◌||◌, if◌then◌else◌, ◌==◌, is_some, nat_lt}
use Rattle.std.proofs.lemmas.Bool.Decides.{nat_tests}
use Rattle.rv_seq.specs.declared.answer.StepAnswer.{StepAnswer}
use Rattle.rv_seq.specs.declared.answer.StepAnswer.TheVariants.{Done, Stopped}
use Rattle.rv_seq.specs.declared.commit.Commit.{Commit}
use Rattle.rv_seq.specs.Commits.{applied}
use Rattle.rv_seq.specs.Interrupts.{is_return, resumed}
use Rattle.rv_seq.specs.Steps.{word_at}
use Rattle.rv_trace.specs.declared.row.Row.{Row}
use Rattle.rv_trace.specs.Trace.{place, is_flushed, is_retired, retirements}
use Rattle.rv_holds.specs.declared.token.Token.{Token}
use Rattle.rv_holds.specs.Tokens.{Slots, stop_in, commit_in, tried_commit, commit_of}
use Rattle.rv_holds.specs.Flushing.{next_of, settles, struck, cleared}
use Rattle.rv_engine.specs.Settings.{Setting, Machine, shape_of, tree_of, outstanding_in, interrupted_by}
use Rattle.rv_engine.specs.Rows.{going, leaving, with_serial, retired_of, owed_by, turn_by, seen_by, left_by, IsRowOf, native_of, arch_retired, arch_paid, written_of, paid_by, native_in, native_tried, entering_of, machine_after, into_unit, owed_tried, owed_in, taken_by, written_by}
use Rattle.rv_lawful.specs.Outstanding.{architecture, after_retired, after_written, after_entry}
use Rattle.rv_machine.specs.Owing.{judged}
use Rattle.rv_machine.specs.Placed.{run, one_more, count, settling_stage, Serials, IsPlaced, IsPlacedSlot, IsReady, Inv}
use Rattle.rv_machine.specs.Told.{NoStops, out_of, Told, IsBeside}
use Rattle.rv_machine.proofs.Places.{serials_drop, one_place}
use Rattle.rv_machine.proofs.Moving.{last_slot, out_going}
use Rattle.rv_machine.proofs.Runs.{answer, kept_word}
use Rattle.rv_machine.proofs.Reading.{cleared_read}
use Rattle.rv_machine.proofs.Ripe.{cleared_ripe}
use Rattle.rv_machine.proofs.Going.{AreSeen}
use Rattle.rv_machine.proofs.Moves.{leaving_placed, past_ex}
use Rattle.rv_machine.proofs.Clearing.{cleared_drop, cleared_placed, cleared_decided, cleared_loaded}
use Rattle.rv_machine.proofs.Settling.{settles_parts, settled_next, seen_rest}
use Rattle.rv_machine.proofs.Meeting.{seen_meets, meets_at}
use Rattle.rv_machine.proofs.Before as B
use Rattle.rv_machine.proofs.Flushing as F
use Rattle.rv_machine.proofs.Telling as T
use Rattle.rv_tried.specs.Parts.{shown, native, spawned}
use Rattle.rv_tried.specs.declared.trial.Trial.{Trial}
use Rattle.rv_lawful.specs.Sight.{asked}
use Rattle.rv_engine.specs.declared.owing.Owed.{Owed}
use Rattle.rv_asks.specs.declared.asks.Asks.{Asks}
use Rattle.rv_seq.specs.declared.arch.Arch.{Arch}
use Rattle.rv_machine.proofs.Recorded.{native_word, shown_word, native_shown}

cleared_stops : (k : Setting) (stage n : ℕ) (slots : Slots) → n ≤ length slots → NoStops k (stage + n) (drop n slots) → NoStops k stage (cleared n slots)
cleared_stops k stage zero slots le h = subst (λ b. NoStops k b slots) (add-zero stage) h
cleared_stops k stage (suc n) [] le h = absurd (omega arith)
cleared_stops k stage (suc n) (s ∷ older) le h =
    let z : stage + suc n ≡ suc stage + n = omega arith in
    cleared_stops k (suc stage) n older (omega (arith, le)) (subst (λ b. NoStops k b (drop n older)) z h)

within : (n : ℕ) (l older : Slots) (s : Option Token) → drop n l ≡ s ∷ older → n < length l
within zero [] older s e = cc
within zero (x ∷ l) older s e = omega arith
within (suc n) [] older s e = cc
within (suc n) (x ∷ l) older s e = let h = within n l older s e in omega (arith, h)

leaving_past : (n : ℕ) (come : Option Token) (l : Slots) → n < length l → leaving come l ≡ leaving None (drop n l)
leaving_past n come [] lt = absurd (omega (arith, lt))
leaving_past zero come (s ∷ l) lt = refl
leaving_past (suc n) come (s ∷ l) lt = leaving_past n (going s) l (omega (arith, lt))

drop_length : (n : ℕ) (l : Slots) → n ≤ length l → n + length (drop n l) ≡ length l
drop_length zero l le = omega arith
drop_length (suc n) [] le = absurd (omega arith)
drop_length (suc n) (s ∷ l) le = let x = drop_length n l (omega (arith, le)) in omega (arith, x)

done_of : (a : StepAnswer) → stop_in a ≡ None → (c : Commit) × (a ≡ Done c)
done_of (Done c) h = (c, refl)
done_of (Stopped stop) h = cc

module _ (k : Setting) (ready : IsReady k) (earlier : List Row) (m : Machine) (row : Row) (inv : Inv k earlier m) (is : IsRowOf k m row) where
  abbrev r : ℕ
  r = retirements earlier

  pub seen_length : length (seen_by k m) ≡ (shape_of k).stages
  seen_length = B.seen_length k ready earlier m inv

  -- what is known of the slots from a stage on, where none of these stops the run
  pub seen_at : (n : ℕ) → n ≤ length (seen_by k m) → NoStops k (0 + n) (drop n (seen_by k m)) → AreSeen k r (0 + n) (drop n (seen_by k m))
  seen_at n le stops =
      let l = seen_by k m in
      seen_rest k r 0 n (cleared n l) (drop n l)
      (record {
        placed = cleared_placed k r 0 n l le (B.seen_placed k ready earlier m inv);
        read = cleared_read k r 0 n l le (B.seen_read k ready earlier m inv);
        decided = cleared_decided k 0 n l le (B.seen_decided k ready earlier m inv);
        stops = cleared_stops k 0 n l le stops;
        loaded = cleared_loaded k r 0 n l le (B.seen_loaded k ready earlier m inv);
        ripe = cleared_ripe k 0 n l le (B.seen_ripe k ready earlier m inv);
      }) (cleared_drop n n l (omega arith) le)

  -- a token that settles its successor names the pc of the run behind it
  pub names_pc : (stage : ℕ) (t : Token) (older : Slots) → drop stage (seen_by k m) ≡ Some t ∷ older → settles (shape_of k) stage t older ≡ true → next_of t ≡ (run k (suc (r + count older))).pc
  names_pc stage t older e h =
      let s = settles_parts k ready stage t older h in
      let lt = within stage (seen_by k m) older (Some t) e in
      let from = settles_from stage t s.at in
      let z : 0 + stage ≡ stage = omega arith in
      let stops : NoStops k stage (Some t ∷ older) = (s.runs, past_ex k (suc stage) older (omega (arith, from))) in
      let stops' = subst (λ b. NoStops k b (drop stage (seen_by k m))) (sym z) (subst (λ l. NoStops k stage l) (sym e) stops) in
      let seen = subst (λ b. AreSeen k r b (Some t ∷ older)) z (subst (λ l. AreSeen k r (0 + stage) l) e (seen_at stage (omega (arith, lt)) stops')) in
      settled_next k ready r stage t older inv.past seen s where
        settles_from : (stage : ℕ) (t : Token) → stage ≡ settling_stage k t → (shape_of k).ex ≤ stage
        settles_from stage t e = by_case t.asks.late e where
          by_case : (b : Bool) → stage ≡ (if b then (shape_of k).stages - 1 else (shape_of k).ex) → (shape_of k).ex ≤ stage
          by_case true q = let a = ready.ex_last in omega (arith, a, q)
          by_case false q = omega (arith, q)

  -- what goes out has the place of the next retirement, also in the row of a stop
  pub left_placed : IsPlacedSlot k r (run k r).pc (shape_of k).stages [] (left_by k m)
  left_placed =
      let l = seen_by k m in
      let n = suc (shape_of k).ex in
      let a = ready.ex_last in
      let lt : suc (shape_of k).ex < length (seen_by k m) = omega (arith, a, seen_length) in
      let seen = seen_at n (omega (arith, lt)) (past_ex k (0 + n) (drop n l) (omega arith)) in
      let long = drop_length n l (omega (arith, lt)) in
      let e : 0 + n + length (drop n l) ≡ (shape_of k).stages = omega (arith, long, seen_length) in
      subst (λ o. IsPlacedSlot k r (run k r).pc (shape_of k).stages [] o) (sym (leaving_past n None l lt))
      (subst (λ j. IsPlacedSlot k r (run k r).pc j [] (leaving None (drop n l))) e (leaving_placed k ready r (0 + n) None (drop n l) seen tt))

  -- ---- the last stage

  pub left_out : one_more (left_by k m) 0 ≡ out_of (seen_by k m)
  left_out =
      let a = ready.ex_last in
      let e : suc ((shape_of k).stages - 1) ≡ length (seen_by k m) = omega (arith, seen_length, a) in
      let l = last_slot ((shape_of k).stages - 1) (seen_by k m) e in
      ap (λ s. one_more s 0) (l.leaving_is None) ∙ out_going l.slot ∙ sym l.out

  -- the token that goes out is the oldest
  pub left_serial : (t : Token) → left_by k m ≡ Some t → (place (row ∷ earlier) t.cell.serial ≡ r) × (is_flushed (row ∷ earlier) t.cell.serial ≡ false)
  left_serial t e =
      let a = ready.ex_last in
      let len : suc ((shape_of k).stages - 1) ≡ length (seen_by k m) = omega (arith, seen_length, a) in
      let l = last_slot ((shape_of k).stages - 1) (seen_by k m) len in
      let s = subst (λ z. Serials (row ∷ earlier) r z) l.rest (serials_drop (row ∷ earlier) r ((shape_of k).stages - 1) (seen_by k m) (F.seen_serials k ready earlier m row inv is)) in
      by_slot l.slot s (sym (l.leaving_is None) ∙ e) where
        by_slot : (s : Option Token) → Serials (row ∷ earlier) r (s ∷ []) → going s ≡ Some t → (place (row ∷ earlier) t.cell.serial ≡ r) × (is_flushed (row ∷ earlier) t.cell.serial ≡ false)
        by_slot None s g = cc
        by_slot (Some u) s g = by_case (is_some u.cell.hold) g where
          by_case : (b : Bool) → (if b then None else Some u) ≡ Some t → (place (row ∷ earlier) t.cell.serial ≡ r) × (is_flushed (row ∷ earlier) t.cell.serial ≡ false)
          by_case true q = cc
          by_case false q =
              let same : u ≡ t = cc in
              let serial = ap (λ (v : Token). v.cell.serial) same in
              (ap (λ n. place (row ∷ earlier) n) (sym serial) ∙ s.0.0 ∙ add-zero r, ap (λ n. is_flushed (row ∷ earlier) n) (sym serial) ∙ s.0.1)

  pub left_is : (t : Token) → left_by k m ≡ Some t → IsPlaced k r (run k r).pc (shape_of k).stages [] t
  left_is t e = subst (λ o. IsPlacedSlot k r (run k r).pc (shape_of k).stages [] o) e left_placed

  -- the token has the word of its step
  pub step_word_is : (t : Token) (c : Commit) → IsPlaced k r (run k r).pc (shape_of k).stages [] t → answer k r ≡ Done c → c.word ≡ t.cell.word
  step_word_is t c h done = (kept_word k ready r t.cell.word c (ap (λ a. word_at k.image a) (sym h.at) ∙ h.word) done).word

  -- what a step owes that a unit writes later
  abbrev pub owed_at : ℕ → ℕ → Commit → Owed
  owed_at s word c = record { serial = s; asks = asked k.design word; writes = spawned (asked k.design word) ((judged k).course.own r) c }

  -- what is retired, where something goes out
  pub record Retirement (o : Option Token) (p : Option (ℕ × Commit)) : Type 0 where
    pub token : Token
    pub is_left : o ≡ Some token
    pub commit : Commit
    pub comes_to : commit_of token ≡ Some commit
    pub asks : token.asks ≡ asked k.design token.cell.word
    pub word : commit.word ≡ token.cell.word
    pub is_retired : p ≡ Some (token.cell.serial, shown (asked k.design token.cell.word) commit)
    pub recorded : answer k (retirements earlier) ≡ Done commit
    pub writes : native_of o ≡ Some (native (asked k.design token.cell.word) ((judged k).course.blocks r) commit)
    pub enters : entering_of o ≡ into_unit (asked k.design token.cell.word).unit (Some (owed_at token.cell.serial token.cell.word commit))

  -- what a token of these writes and owes that was tried to its step
  tried_native : (a b : Asks) (o : Option Trial) (trial : Trial) (c : Commit) → a ≡ b → o ≡ Some trial → trial.answer ≡ Done c → trial.blocks ≡ (judged k).course.blocks r → native_tried a o ≡ Some (native b ((judged k).course.blocks r) c)
  tried_native a b o trial c same e done blocks =
      ap (λ x. native_tried x o) same ∙ ap (λ x. native_tried b x) e ∙ ap (λ y. native_in b trial.blocks y) done ∙ ap (λ l. Some (native b l c)) blocks

  tried_owed : (s word : ℕ) (a : Asks) (o : Option Trial) (trial : Trial) (c : Commit) → a ≡ asked k.design word → o ≡ Some trial → trial.answer ≡ Done c → trial.own ≡ (judged k).course.own r
      → into_unit a.unit (owed_tried s a o) ≡ into_unit (asked k.design word).unit (Some (owed_at s word c))
  tried_owed s word a o trial c same e done own =
      ap (λ (x : Asks). into_unit x.unit (owed_tried s x o)) same
      ∙ ap (λ x. into_unit (asked k.design word).unit (owed_tried s (asked k.design word) x)) e
      ∙ ap (λ y. into_unit (asked k.design word).unit (owed_in s (asked k.design word) trial.own y)) done
      ∙ ap (λ l. into_unit (asked k.design word).unit (Some (record { serial = s; asks = asked k.design word; writes = spawned (asked k.design word) l c }))) own

  retirement : (t : Token) → IsPlaced k r (run k r).pc (shape_of k).stages [] t → Retirement (Some t) (retired_of (Some t))
  retirement t h =
      let a = ready.ex_last in
      let past = ready.mem_last in
      let g = h.gone (omega (arith, a)) in
      let exact = h.exact g.0 g.1 (λ l. past) in
      let c = done_of g.0.answer g.2 in
      let e : commit_of t ≡ Some c.0 = ap (λ o. tried_commit o) g.1 ∙ ap (λ x. commit_in x) c.1 in
      let done : answer k r ≡ Done c.0 = sym exact.answer ∙ c.1 in
      record {
        token = t;
        is_left = refl;
        commit = c.0;
        comes_to = e;
        asks = h.asks;
        word = step_word_is t c.0 h done;
        is_retired = ap (λ o. with_serial t.cell.serial t.asks o) e ∙ ap (λ x. Some (t.cell.serial, shown x c.0)) h.asks;
        recorded = done;
        writes = tried_native t.asks (asked k.design t.cell.word) t.trial g.0 c.0 h.asks g.1 c.1 (h.tried g.0 g.1).blocks;
        enters = tried_owed t.cell.serial t.cell.word t.asks t.trial g.0 c.0 h.asks g.1 c.1 exact.own;
      }

  -- either nothing goes out, or a token that retires
  pub goes_out : ((left_by k m ≡ None) × (row.retired ≡ None) × (out_of (seen_by k m) ≡ 0)) ⊎ (Retirement (left_by k m) row.retired × (out_of (seen_by k m) ≡ 1))
  goes_out = by_case (left_by k m) refl left_placed where
    by_case : (o : Option Token) → left_by k m ≡ o → IsPlacedSlot k r (run k r).pc (shape_of k).stages [] o → ((left_by k m ≡ None) × (row.retired ≡ None) × (out_of (seen_by k m) ≡ 0)) ⊎ (Retirement (left_by k m) row.retired × (out_of (seen_by k m) ≡ 1))
    by_case None e h = inl (e, is.retired ∙ ap retired_of e, sym left_out ∙ ap (λ s. one_more s 0) e)
    by_case (Some t) e h =
        let x = retirement t h in
        inr (
          record {
            token = x.token;
            is_left = e ∙ x.is_left;
            commit = x.commit;
            comes_to = x.comes_to;
            asks = x.asks;
            word = x.word;
            is_retired = is.retired ∙ ap retired_of e ∙ x.is_retired;
            recorded = x.recorded;
            writes = ap native_of e ∙ x.writes;
            enters = ap entering_of e ∙ x.enters;
          },
          sym left_out ∙ ap (λ s. one_more s 0) e,
        )

  pub retired_now : retirements (row ∷ earlier) ≡ retirements earlier + out_of (seen_by k m)
  unfolding retirements
  retired_now = elim goes_out [
    | inl n ↦ rw (n.1, n.2) (omega arith)
    | inr y ↦ rw (y.0.is_retired, y.1) (omega arith)
  ]

  -- those before the oldest place are retired, and the one that goes out
  retired_then : (s n place_s place_n : ℕ) → (n ≡ s → place_s ≡ place_n) → (place_s ≡ place_n → n ≡ s) → ((n == s) || nat_lt place_s place_n) ≡ nat_lt place_s (place_n + 1)
  retired_then s n p q f g = by_case (n == s) refl where
    by_case : (b : Bool) → (n == s) ≡ b → (b || nat_lt p q) ≡ nat_lt p (q + 1)
    by_case true e = let same = f (eq_of n s e) in less p q same where
      eq_of : (a b : ℕ) → (a == b) ≡ true → a ≡ b
      eq_of a b e = grind (arith, nat_tests)

      less : (a b : ℕ) → a ≡ b → true ≡ nat_lt a (b + 1)
      less a b e = grind (arith, nat_tests)
    by_case false e = other p q (λ same. ne_of n s e (g same)) where
      ne_of : (a b : ℕ) → (a == b) ≡ false → a ≢ b
      ne_of a b e = λ x. absurd_of a b e x where
        absurd_of : (a b : ℕ) → (a == b) ≡ false → a ≡ b → ⊥
        absurd_of a b e x = grind (arith, nat_tests)

      other : (a b : ℕ) → a ≢ b → nat_lt a b ≡ nat_lt a (b + 1)
      other a b ne = grind (arith, nat_tests)

  pub told_retired : (s : ℕ) → is_flushed (row ∷ earlier) s ≡ false → is_retired (row ∷ earlier) s ≡ nat_lt (place (row ∷ earlier) s) (retirements earlier + out_of (seen_by k m))
  unfolding is_retired place is_flushed
  told_retired s alive = elim goes_out [
    | inl n ↦ rw (n.1, n.2, add-zero) (F.before_retired k ready earlier m row inv is s alive)
    | inr y ↦
        let x = left_serial y.0.token y.0.is_left in
        let same : y.0.token.cell.serial ≡ s → place (row ∷ earlier) s ≡ retirements earlier = λ e. ap (λ n. place (row ∷ earlier) n) (sym e) ∙ x.0 in
        let other : place (row ∷ earlier) s ≡ retirements earlier → y.0.token.cell.serial ≡ s = λ e. one_place (row ∷ earlier) y.0.token.cell.serial s x.1 alive (x.0 ∙ sym e) in
        rw (y.0.is_retired, y.1, F.before_retired k ready earlier m row inv is s alive) (retired_then s y.0.token.cell.serial (place (row ∷ earlier) s) (retirements earlier) same other)
  ]

  -- ---- what is told

  beside_told : IsBeside k earlier row (seen_by k m) (outstanding_in k m)
  beside_told =
      record {
        is = record { stages = refl; lasts = refl };
        owing = inv.owing;
        worded = inv.worded;
        units = inv.units;
        timed = inv.timed;
        distinct = inv.distinct;
        written = is.written;
        paid = inv.paid;
        alive = F.kept_alive k ready earlier m row inv is;
        meets = λ stage t older e.
            meets_at (shape_of k) (interrupted_by k m) (outstanding_in k m) stage (seen_by k m) older t (seen_meets k m (B.struck_inside k ready earlier m inv)) e
            ∙ ap (λ b. beside_of (shape_of k) b (outstanding_in k m) stage t.asks) (interrupted_is k earlier m inv);
      }

  pub told : Told k earlier row (seen_by k m)
  told =
      record {
        flushed = struck (turn_by k m);
        left = λ stage t e. (F.left_from k ready earlier m row inv is stage t e).0;
        cells = F.stands_at k ready earlier m row inv is;
        gone = F.stands_flushed k ready earlier m row inv is;
        placed = B.seen_placed k ready earlier m inv;
        tried = T.tried_told k ready earlier m row inv is;
        owed = owed_by k m;
        awaits = T.awaits_told k ready earlier m row inv is;
        memory = T.memory_told k ready earlier m row inv is;
        modules = T.modules_told k ready earlier m row inv is;
        outstanding = outstanding_in k m;
        beside = beside_told;
        decided = B.seen_decided k ready earlier m inv;
        serials = F.seen_serials k ready earlier m row inv is;
        words = F.words_now k ready earlier m row inv is;
        before = F.before_retired k ready earlier m row inv is;
        now = told_retired;
      }

  pub told_struck : told.flushed ≡ struck (turn_by k m)
  unfolding told
  told_struck = refl

  -- ---- the state after the row

  -- what a row retires is written as it shows
  retired_shown : (s : Arch) → after_retired (tree_of k) (judged k) r row.retired s ≡ arch_retired (tree_of k) (native_of (left_by k m)) s
  retired_shown s = elim goes_out [
    | inl n ↦ ap (λ o. after_retired (tree_of k) (judged k) r o s) n.1 ∙ ap (λ o. arch_retired (tree_of k) (native_of o) s) (sym n.0)
    | inr y ↦
        let a = asked k.design y.0.token.cell.word in
        let c = y.0.commit in
        let blocks = (judged k).course.blocks r in
        let returns = is_return (tree_of k) (shown a c).word in
        ap (λ o. after_retired (tree_of k) (judged k) r o s) y.0.is_retired
        ∙ ap (λ w. resumed returns (applied (native (asked k.design w) blocks (shown a c)) s)) (shown_word a c ∙ y.0.word)
        ∙ ap (λ d. resumed returns (applied d s)) (native_shown a blocks c)
        ∙ ap (λ w. resumed (is_return (tree_of k) w) (applied (native a blocks c) s)) (shown_word a c ∙ sym (native_word a blocks c))
        ∙ ap (λ o. arch_retired (tree_of k) o s) (sym y.0.writes)
  ]

  written_shown : (o : Option Owed) (s : Arch) → after_written (written_of o) s ≡ arch_paid o s
  written_shown None s = refl
  written_shown (Some o) s = refl

  pub architecture_now : architecture (tree_of k) (judged k) (row ∷ earlier) ≡ (machine_after k m).arch
  unfolding architecture
  architecture_now =
      ap (λ o. after_entry (shape_of k).trap o (after_written row.written (after_retired (tree_of k) (judged k) r row.retired (architecture (tree_of k) (judged k) earlier)))) is.taken
      ∙ ap (λ s. after_entry (shape_of k).trap (taken_by k m) s)
      (ap (λ w. after_written w (after_retired (tree_of k) (judged k) r row.retired (architecture (tree_of k) (judged k) earlier))) is.written
      ∙ written_shown (paid_by k m) (after_retired (tree_of k) (judged k) r row.retired (architecture (tree_of k) (judged k) earlier))
      ∙ ap (λ s. arch_paid (paid_by k m) (after_retired (tree_of k) (judged k) r row.retired s)) inv.state
      ∙ ap (λ s. arch_paid (paid_by k m) s) (retired_shown m.arch))
