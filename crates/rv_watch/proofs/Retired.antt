-- What a row retires and writes that shows the run: its step, and that it is sound.
use Rattle.std.proofs.Common.{◌≡◌, ◌∙◌, refl, sym, ap, subst, ℕ, zero, suc, ◌≤◌, List, [], ◌∷◌, length, get_or, Option, Some, None, Bool, true, false, arith, inl, inr}
use Rattle.std.specs.Prelude.{◌&&◌, if◌then◌else◌, is_some}
use Rattle.std.proofs.lemmas.Bool.{cases_lt}
use Rattle.std.proofs.lemmas.Option.{same_Some}
use Rattle.ix_bits.specs.declared.number.Bits.{Bits}
use Rattle.ix_eval.specs.Evaluated.{type_of_custom}
use Rattle.ix_eval.specs.Tables.{table}
use Rattle.ix_eval.proofs.Tables.{table_length, table_at}
use Rattle.ix_extension.specs.Extensions.{ExtensionTree}
use Rattle.rv_asks.specs.declared.asks.Asks.{Asks}
use Rattle.rv_seq.specs.declared.commit.Commit.{Commit}
use Rattle.rv_seq.specs.declared.commit.Slot.{Slot}
use Rattle.rv_seq.specs.declared.commit.Slot.TheVariants.{Absent}
use Rattle.rv_seq.specs.declared.answer.StepAnswer.{StepAnswer}
use Rattle.rv_seq.specs.declared.answer.StepAnswer.TheVariants.{Done, Stopped}
use Rattle.rv_seq.specs.Commits.{IsStoredInside}
use Rattle.rv_seq.specs.Sound.{IsNowWide, IsSound}
use Rattle.rv_past.specs.declared.step.Step.{Step}
use Rattle.rv_past.specs.Steps.{step_at}
use Rattle.rv_tried.specs.declared.parts.Spawned.{Spawned}
use Rattle.rv_tried.specs.Parts.{shown, spawned}
use Rattle.rv_tried.specs.Whole.{AreBlocksWide}
use Rattle.rv_trace.specs.declared.row.Row.{Row}
use Rattle.rv_trace.specs.Trace.{place, retirements}
use Rattle.rv_lawful.specs.Settings.{Setting}
use Rattle.rv_lawful.specs.Outstanding.{Written, in_unit, entering}
use Rattle.rv_lawful.specs.LawfulTrace.{serial_in}
use Rattle.rv_lawful.specs.Headline.{IsRecord, IsSpawnWrite}
use Rattle.rv_rows.specs.Made.{record_of, retired_made}
use Rattle.rv_rows.specs.Recorded.{IsRecorded}
use Rattle.rv_past.specs.declared.due.Due.{Due}
use Rattle.rv_past.specs.Due.{IsDue}
use Rattle.rv_past.specs.Making.{IsStored, IsWrittenWide}
use Rattle.rv_owing.specs.Kept.{unit_entering}
use Rattle.rv_owing.specs.Owing.{into_unit, entering_of}
use Rattle.rv_past.specs.Past.{IsRetiredStep}
use Rattle.rv_watch.specs.Watched.{asks_by, AsksOfRetired}
use Rattle.rv_watch.specs.Parts.{entering_by}

shown_word : (a : Asks) (c : Commit) → (shown a c).word ≡ c.word
unfolding shown
shown_word a c = refl

shown_store : (a : Asks) (c : Commit) → (shown a c).store ≡ c.store
unfolding shown
shown_store a c = refl

-- the record of a step has the word of which is asked
record_asks : (k : Setting) (y : StepAnswer) → asks_by k y ≡ k.asks (record_of k y).word
record_asks k (Done d) = ap k.asks (sym (shown_word (k.asks d.word) d))
record_asks k (Stopped stop) = refl

pub made_asks : (k : Setting) (earlier : List Row) (row : Row) (due : Due) (retired : Option ℕ) → IsDue k (retirements earlier) due → due.asks ≡ asks_by k due.step.answer → row.retired ≡ retired_made k earlier retired → AsksOfRetired k row due
made_asks k earlier row due None is asks e s c f = absurd (unlike s c (sym e ∙ f)) where
  unlike : (s : ℕ) (c : Commit) → ◌≡◌ {A = Option (ℕ × Commit)} None (Some (s, c)) → ⊥
  unlike s c q = cc
made_asks k earlier row due (Some t) is asks e s c f =
    let same : record_of k (k.course.answer (retirements earlier)) ≡ c = ap (λ (p : ℕ × Commit). p.1) (same_Some (t, record_of k (k.course.answer (retirements earlier))) (s, c) (sym e ∙ f)) in
    asks ∙ ap (λ (o : Step). asks_by k o.answer) is.step ∙ record_asks k (k.course.answer (retirements earlier)) ∙ ap (λ (d : Commit). k.asks d.word) same

-- ---- what enters

pub enters : (k : Setting) (earlier : List Row) (row : Row) (due : Due) (retired : ℕ) → AsksOfRetired k row due → retired ≡ retirements earlier → entering_by due retired row.retired ≡ entering_of k earlier row.retired
enters k earlier row due retired asks same = by_case row.retired refl where
  by_case : (o : Option (ℕ × Commit)) → row.retired ≡ o → entering_by due retired o ≡ entering_of k earlier o
  by_case None e = refl
  by_case (Some (s, c)) e = ap (λ n. into_unit s n due.asks due.asks.unit) same ∙ ap (λ (a : Asks). into_unit s (retirements earlier) a a.unit) (asks s c e)

pub enters_serial : (k : Setting) (row : Row) (due : Due) (retired : ℕ) → AsksOfRetired k row due → serial_in (unit_entering (entering_by due retired row.retired)) ≡ serial_in (entering k row.retired)
enters_serial k row due retired asks = by_case row.retired refl where
  by_unit : (s : ℕ) (a : Asks) (u : Option ℕ) → serial_in (unit_entering (into_unit s retired a u)) ≡ serial_in (in_unit s u)
  by_unit s a None = refl
  by_unit s a (Some u) = refl

  by_case : (o : Option (ℕ × Commit)) → row.retired ≡ o → serial_in (unit_entering (entering_by due retired o)) ≡ serial_in (entering k o)
  by_case None e = refl
  by_case (Some (s, c)) e = by_unit s due.asks due.asks.unit ∙ ap (λ (a : Asks). serial_in (in_unit s a.unit)) (asks s c e)

-- ---- what is recorded

past_list : (l : List (Slot Bits)) (r : ℕ) → length l ≤ r → get_or l r Absent ≡ Absent
past_list [] r le = refl
past_list (v ∷ l) zero le = absurd (omega (arith, le))
past_list (v ∷ l) (suc r) le = past_list l r (omega (arith, le))

either_wide : (width : ℕ) (b : Bool) (s : Slot Bits) → IsNowWide width s → IsNowWide width (if b then s else Absent)
either_wide width true s h = h
either_wide width false s h = tt

spawned_wide : (x : ExtensionTree) (a : Asks) (own : List Bool) (c : Commit) → IsSound x (Done c) → (r : ℕ) → IsNowWide (type_of_custom x r).width (get_or (spawned a own c).custom r Absent)
unfolding spawned
spawned_wide x a own c h r = elim (cases_lt r 16) [
  | inl lt ↦
      subst (λ slot. IsNowWide (type_of_custom x r).width slot) (sym (table_at f 16 r Absent lt))
      (either_wide (type_of_custom x r).width (get_or a.spawned_customs r false && get_or own r false) (get_or c.custom r Absent) (h.wide r))
  | inr le ↦ subst (λ slot. IsNowWide (type_of_custom x r).width slot) (sym (past_list (table f 16) r (let e = table_length f 16 in omega (arith, le, e)))) tt
] where
  f : ℕ → Slot Bits
  f n = if get_or a.spawned_customs n false && get_or own n false then get_or c.custom n Absent else Absent

module _ (x : ExtensionTree) (k : Setting) (earlier : List Row) (row : Row) (sound : (p : ℕ) → IsSound x (k.course.answer p)) (shows : IsRecorded k earlier row) where
  pub row_stored : IsStored row.retired
  row_stored = by_case row.retired refl where
    by_case : (o : Option (ℕ × Commit)) → row.retired ≡ o → IsStored o
    by_case None e = tt
    by_case (Some (s, c)) e =
        let r = shows.retired s c e in
        let same : r.0.store ≡ c.store = sym (shown_store (k.asks r.0.word) r.0) ∙ ap (λ (d : Commit). d.store) (sym r.2) in
        let of_run : IsSound x (Done r.0) = subst (λ y. IsSound x y) r.1 (sound (retirements earlier)) in
        subst (λ y. IsStoredInside y) same of_run.inside

  pub row_wide : IsWrittenWide x row.written
  row_wide = by_case row.written refl where
    by_case : (o : Option Written) → row.written ≡ o → IsWrittenWide x o
    by_case None e = tt
    by_case (Some w) e = λ r.
        let h = shows.written w e in
        subst (λ (y : Spawned). IsNowWide (type_of_custom x r).width (get_or y.custom r Absent)) (sym h.values)
        (spawned_wide x (k.asks h.commit.word) (k.course.own (place earlier w.0)) h.commit (subst (λ y. IsSound x y) h.step (sound (place earlier w.0))) r)

  pub retired_is : (due : Due) → ((p : ℕ) → AreBlocksWide x (k.course.blocks p)) → IsDue k (retirements earlier) due → IsRetiredStep x k earlier row due
  retired_is due wide is s c e =
      let r = shows.retired s c e in
      let answer = ap (λ (o : Step). o.answer) is.step in
      let same : r.0.word ≡ c.word = sym (shown_word (k.asks r.0.word) r.0) ∙ ap (λ (d : Commit). d.word) (sym r.2) in
      record {
        step = is;
        asks = is.asks r.0 (answer ∙ r.1) ∙ ap k.asks same;
        sound = subst (λ (o : Step). IsSound x o.answer) (sym is.step) (sound (retirements earlier));
        wide = subst (λ (o : Step). AreBlocksWide x o.blocks) (sym is.step) (wide (retirements earlier));
      }

  -- so this is asked of what it retires
  pub retired_asks : (due : Due) → IsDue k (retirements earlier) due → AsksOfRetired k row due
  retired_asks due is s c e =
      let r = shows.retired s c e in
      let answer = ap (λ (o : Step). o.answer) is.step in
      let same : r.0.word ≡ c.word = sym (shown_word (k.asks r.0.word) r.0) ∙ ap (λ (d : Commit). d.word) (sym r.2) in
      is.asks r.0 (answer ∙ r.1) ∙ ap k.asks same
