-- What a row of a text retires and writes is the run's, where the steps do not stop.
use Rattle.std.proofs.Common.{◌≡◌, ◌∙◌, refl, sym, ap, subst, ℕ, List, Option, Some, None, Bool, true, false, arith}
use Rattle.std.specs.Prelude.{◌==◌, if◌then◌else◌}
use Rattle.std.proofs.lemmas.Option.{same_Some, some_pair_parts}
use Rattle.std.proofs.lemmas.Bool.Decides.{nat_tests}
use Rattle.ix_plan.specs.Units.{unit_written}
use Rattle.rv_seq.specs.declared.answer.StepAnswer.{StepAnswer}
use Rattle.rv_seq.specs.declared.answer.StepAnswer.TheVariants.{Done, Stopped}
use Rattle.rv_seq.specs.declared.commit.Commit.{Commit}
use Rattle.rv_trace.specs.declared.row.Row.{Row}
use Rattle.rv_trace.specs.Trace.{place, retirements, is_retired}
use Rattle.rv_trace.specs.TraceText.{retired_text, written_text}
use Rattle.rv_lawful.specs.Settings.{Setting}
use Rattle.rv_lawful.specs.Outstanding.{Written, is_serial, serial_written, units_after, is_written}
use Rattle.rv_lawful.specs.Headline.{IsRecord, IsSpawnWrite}
use Rattle.rv_lawful.specs.LawfulTrace.{serial_in, WritesUnit}
use Rattle.rv_shown.specs.Shown.{Shown}
use Rattle.rv_past.specs.declared.step.Step.{Step}
use Rattle.rv_rows.specs.Kinds.{RetiresRightly, WritesRightly}
use Rattle.rv_rows.specs.Made.{record_of, retired_made, written_of, written_made, no_writes, row_of}
use Rattle.rv_rows.specs.Known.{IsOwing}
use Rattle.rv_past.specs.declared.due.Due.{Due}
use Rattle.rv_past.specs.Due.{IsDue}
use Rattle.rv_past.specs.Making.{IsWriting}
use Rattle.rv_owing.specs.Owing.{GrantedLaw}
use Rattle.rv_audit.specs.Judged.{is_done, is_step_done, retires_step, writes_step}

two_ways : (b : Bool) → b ≡ true → b ≡ false → ⊥
two_ways b e f = cc

same_serial : (t : ℕ) → (t == t) ≡ true
same_serial t = grind (arith, nat_tests)

module _ (k : Setting) (earlier : List Row) where
  -- ---- what is retired
  record_here : (a : StepAnswer) → k.course.answer (retirements earlier) ≡ a → is_done a ≡ true → (c : Commit) → record_of k (k.course.answer (retirements earlier)) ≡ c → IsRecord k (retirements earlier) c
  record_here (Done d) e done c r = (d, e, sym r ∙ ap (record_of k) e)
  record_here (Stopped stop) e done c r = absurd (two_ways false done refl)

  stopped_here : (a : StepAnswer) → k.course.answer (retirements earlier) ≡ a → is_done a ≡ false → (c : Commit) → IsRecord k (retirements earlier) c → ⊥
  stopped_here (Done d) e done c r = two_ways true refl done
  stopped_here (Stopped stop) e done c r = (let bad : ◌≡◌ {A = StepAnswer} (Stopped stop) (Done r.0) = sym e ∙ r.1 in cc)

  records : (next : Due) → IsDue k (retirements earlier) next → (o : Option ℕ) → retires_step next (retired_made k earlier o) ≡ true → (serial : ℕ) (c : Commit) → retired_made k earlier o ≡ Some (serial, c) → IsRecord k (retirements earlier) c
  records next due None step serial c e = absurd cc
  records next due (Some t) step serial c e =
      record_here next.step.answer (sym (ap (λ (o : Step). o.answer) due.step)) step c (some_pair_parts t serial (record_of k (k.course.answer (retirements earlier))) c e).1

  pub retires_right : (s : Shown) (next : Due) → IsDue k (retirements earlier) next → retires_step next (row_of k earlier s).retired ≡ true → s.retired_line ≡ retired_text (row_of k earlier s).retired → RetiresRightly k earlier s
  retires_right s next due step line = record { record_is = λ serial c e. records next due s.retired step serial c e; line = line }

  no_record : (next : Due) → IsDue k (retirements earlier) next → (o : Option ℕ) → retires_step next (retired_made k earlier o) ≡ false → ((serial : ℕ) (c : Commit) → retired_made k earlier o ≡ Some (serial, c) → IsRecord k (retirements earlier) c) → ⊥
  no_record next due None step r = two_ways true refl step
  no_record next due (Some t) step r =
      let c = record_of k (k.course.answer (retirements earlier)) in
      stopped_here next.step.answer (sym (ap (λ (o : Step). o.answer) due.step)) step c (r t c refl)

  pub retires_wrong : (s : Shown) (next : Due) → IsDue k (retirements earlier) next → retires_step next (row_of k earlier s).retired ≡ false → RetiresRightly k earlier s → ⊥
  retires_wrong s next due step r = no_record next due s.retired step r.record_is

  -- ---- what is written
  abbrev granted : Option ℕ
  granted = serial_in (unit_written (units_after k earlier))

  -- what is made for a serial
  abbrev made : ℕ → Bool → StepAnswer → Written
  made t due a = if due then written_of k (k.course.own (place earlier t)) t a else no_writes t

  made_serial : (t : ℕ) (due : Bool) (a : StepAnswer) → (made t due a).0 ≡ t
  made_serial t true (Done c) = refl
  made_serial t true (Stopped stop) = refl
  made_serial t false a = refl

  -- it is the serial that is due
  is_due : (t : ℕ) → granted ≡ Some t → is_serial granted t ≡ true
  is_due t e = ap (λ o. is_serial o t) e ∙ same_serial t

  due_serial : (t : ℕ) → serial_written (written_made k earlier (Some t)) ≡ granted → granted ≡ Some t
  due_serial t e = sym e ∙ ap (λ n. Some n) (made_serial t (is_serial granted t) (k.course.answer (place earlier t)))

  -- the step of it
  step_of : (writing : Option (ℕ × Due)) → IsWriting k earlier writing → is_step_done writing ≡ true → (t : ℕ) → granted ≡ Some t → is_done (k.course.answer (place earlier t)) ≡ true
  step_of None w done t e = absurd (two_ways false done refl)
  step_of (Some d) w done t e =
      let same : d.0 ≡ t = same_Some d.0 t (sym w.0 ∙ e) in
      sym (ap (λ (o : Step). is_done o.answer) w.1.step ∙ ap (λ n. is_done (k.course.answer (place earlier n))) same) ∙ done

  no_step_of : (writing : Option (ℕ × Due)) → IsWriting k earlier writing → is_step_done writing ≡ false → (t : ℕ) → granted ≡ Some t → is_done (k.course.answer (place earlier t)) ≡ false
  no_step_of None w done t e = (let bad : None ≡ Some t = sym w ∙ e in absurd cc)
  no_step_of (Some d) w done t e =
      let same : d.0 ≡ t = same_Some d.0 t (sym w.0 ∙ e) in
      sym (ap (λ (o : Step). is_done o.answer) w.1.step ∙ ap (λ n. is_done (k.course.answer (place earlier n))) same) ∙ done

  -- with its step the write is that of a `spawn` body
  spawn_of : (t : ℕ) (c : Commit) → k.course.answer (place earlier t) ≡ Done c → is_retired earlier t ≡ true → is_written earlier t ≡ false → IsSpawnWrite k earlier (written_of k (k.course.own (place earlier t)) t (Done c))
  spawn_of t c e gone unwritten = record { commit = c; step = e; values = refl; retired = gone; once = unwritten }

  written_here : (a : StepAnswer) (t : ℕ) → k.course.answer (place earlier t) ≡ a → is_done a ≡ true → is_retired earlier t ≡ true → is_written earlier t ≡ false
      → IsSpawnWrite k earlier (written_of k (k.course.own (place earlier t)) t (k.course.answer (place earlier t)))
  written_here (Done c) t e done gone unwritten = subst (λ a. IsSpawnWrite k earlier (written_of k (k.course.own (place earlier t)) t a)) (sym e) (spawn_of t c e gone unwritten)
  written_here (Stopped stop) t e done gone unwritten = absurd (two_ways false done refl)

  spawns : GrantedLaw k earlier → IsOwing k earlier → (writing : Option (ℕ × Due)) → IsWriting k earlier writing → (o : Option ℕ) → serial_written (written_made k earlier o) ≡ granted → writes_step writing (written_made k earlier o) ≡ true
      → (w : Written) → written_made k earlier o ≡ Some w → IsSpawnWrite k earlier w
  spawns law owing writing is None unit step w e = absurd cc
  spawns law owing writing is (Some t) unit step w e =
      let a = k.course.answer (place earlier t) in
      let due = due_serial t unit in
      let here = law t due in
      let of_body = written_here a t refl (step_of writing is step t due) (owing.retired t here.0 here.1) (owing.unwritten t here.0 here.1) in
      subst (λ v. IsSpawnWrite k earlier v) (ap (λ b. made t b a) (sym (is_due t due)) ∙ same_Some (made t (is_serial granted t) a) w e) of_body

  pub writes_right : GrantedLaw k earlier → IsOwing k earlier → (s : Shown) (writing : Option (ℕ × Due)) → IsWriting k earlier writing → WritesUnit k earlier (row_of k earlier s) → writes_step writing (row_of k earlier s).written ≡ true
      → s.written_line ≡ written_text (row_of k earlier s).written → WritesRightly k earlier s
  writes_right law owing s writing is unit step line = record { write_is = λ w e. spawns law owing writing is s.written unit step w e; line = line }

  done_at : (t : ℕ) (w : Written) → w.0 ≡ t → IsSpawnWrite k earlier w → is_done (k.course.answer (place earlier t)) ≡ true
  done_at t w e q = ap (λ n. is_done (k.course.answer (place earlier n))) (sym e) ∙ ap is_done q.step

  no_write : (writing : Option (ℕ × Due)) → IsWriting k earlier writing → (o : Option ℕ) → serial_written (written_made k earlier o) ≡ granted → writes_step writing (written_made k earlier o) ≡ false
      → ((w : Written) → written_made k earlier o ≡ Some w → IsSpawnWrite k earlier w) → ⊥
  no_write writing is None unit step q = two_ways true refl step
  no_write writing is (Some t) unit step q =
      let a = k.course.answer (place earlier t) in
      let due = is_serial granted t in
      two_ways (is_done a) (done_at t (made t due a) (made_serial t due a) (q (made t due a) refl)) (no_step_of writing is step t (due_serial t unit))

  pub writes_wrong : (s : Shown) (writing : Option (ℕ × Due)) → IsWriting k earlier writing → WritesUnit k earlier (row_of k earlier s) → writes_step writing (row_of k earlier s).written ≡ false → WritesRightly k earlier s → ⊥
  writes_wrong s writing is unit step q = no_write writing is s.written unit step q.write_is
