-- The holds of a cell at EX: a custom register and the pc that an older one writes late, and a stop behind older ones.
use Rattle.std.proofs.Common.{◌≡◌, ℕ, ◌+◌, ◌<◌, ◌≤◌, List, ◌∷◌, get_or, Option, Some, None, Bool, true, false, refl, sym, ap, ◌∙◌, subst, arith, ◌⊎◌, inl, inr}
use Rattle.std.specs.Prelude.{◌&&◌, ◌||◌, not, if◌then◌else◌, ◌==◌, is_some}
use Rattle.std.specs.Option.{option_or}
use Rattle.rv_asks.specs.declared.asks.Asks.{Asks}
use Rattle.rv_seq.specs.declared.commit.Stop.{Stop}
use Rattle.rv_seq.specs.declared.answer.StepAnswer.{StepAnswer}
use Rattle.rv_seq.specs.declared.answer.StepAnswer.TheVariants.{Done, Stopped}
use Rattle.rv_trace.specs.declared.row.Cell.{Cell}
use Rattle.rv_trace.specs.declared.row.Hold.{Hold}
use Rattle.rv_trace.specs.declared.row.Hold.TheVariants.{Custom, Late, Drain}
use Rattle.rv_trace.specs.declared.row.Row.{Row}
use Rattle.rv_trace.specs.Trace.{has_serial, retires, is_flushed, is_retired, place, retirements}
use Rattle.rv_trace.specs.RowParts.{ComesFirst}
use Rattle.rv_lawful.specs.Settings.{Setting, Stands}
use Rattle.rv_lawful.specs.Entering.{is_interrupted, is_line_pending}
use Rattle.rv_lawful.specs.Outstanding.{is_serial, serial_written, is_written}
use Rattle.rv_lawful.specs.LawfulTrace.{IsWordOf, IsDueToStop, IsUnwritten, WaitsForCustom, WaitsForJump, WaitsToDrain}
use Rattle.rv_rows.specs.Kinds.{upper, OwnMarked}
use Rattle.rv_rows.proofs.Upper.{flushed_up, retired_up, written_up, place_up}
use Rattle.rv_rows.specs.declared.known.Known.{Known}
use Rattle.rv_rows.specs.declared.known.Owed.{Owed}
use Rattle.rv_rows.specs.Known.{stop_in, owed_of}
use Rattle.rv_holdings.specs.declared.want.Want.TheVariants as want
use Rattle.rv_holdings.specs.Expected.{Older, instructions_above, is_left, oldest, first_owed, first_from, custom, custom_at, custom_hold, custom_count, late, late_hold, drain, drain_hold}
use Rattle.rv_holdings.proofs.Above.{Meets, OldestIs, oldest_is, both, and_both}
use Rattle.rv_holdings.proofs.Past.{unflushed_both, retired_both, unretired_more}
use Rattle.rv_holdings.proofs.Beside.{Owes, FirstOwes, first_owes}
use Rattle.rv_holdings.proofs.FirstFrom.{customs}
use Rattle.rv_holdings.proofs.Least.{OneIs, FirstIs, first_is}
use Rattle.rv_holdings.proofs.Ordering.{custom_kind, late_kind, trap_kind, drain_kind, FirstIn, one_kind}
use Rattle.rv_holdings.proofs.Judged.{IsJudged, word_before, ascending, of_owed, to_owed, falls, older_of, unretired_of, word_of, IsThere, there, one_word, there_listed, from_word, owed_older, owed_first}
use Rattle.rv_holdings.proofs.Tests.{same_number, differs, differ, not_true, not_false, true_not, or_false, false_or}

written_more : (row : Row) (rows : List Row) (j : ℕ) → is_written (row ∷ rows) j ≡ (is_serial (serial_written row.written) j || is_written rows j)
unfolding is_written
written_more row rows j = refl

is_stop : (x : StepAnswer) → is_some (stop_in x) ≡ true → (stop : Stop) × (x ≡ Stopped stop)
is_stop (Done c) e = cc
is_stop (Stopped stop) e = (stop, refl)

stop_is : (x : StepAnswer) (stop : Stop) → x ≡ Stopped stop → is_some (stop_in x) ≡ true
stop_is x stop e = ap (λ y. is_some (stop_in y)) e

-- what is not retired, or has a unit and is not written, is left
left_parts : (r u w : Bool) → (not r || (u && not w)) ≡ true → (r ≡ false) ⊎ ((u ≡ true) × (w ≡ false))
left_parts false u w e = inl refl
left_parts true true false e = inr (refl, refl)
left_parts true true true e = cc
left_parts true false w e = cc

unretired_left : (r u w : Bool) → r ≡ false → (not r || (u && not w)) ≡ true
unretired_left false u w e = refl
unretired_left true u w e = cc

unwritten_left : (r u w : Bool) → u ≡ true → w ≡ false → (not r || (u && not w)) ≡ true
unwritten_left false u w e f = refl
unwritten_left true true false e f = refl
unwritten_left true true true e f = cc
unwritten_left true false w e f = cc

module _ (k : Setting) (earlier : List Row) (row : Row) (known : Known) (owed : List Owed) (is : IsJudged k earlier row known owed) (stage : ℕ) (c : Cell) (stands : Stands k row stage c) where
  abbrev older : Older
  older = instructions_above k.shape row known stage

  abbrev a : Asks
  a = k.asks c.word

  abbrev Own : Hold → Type 0
  Own h = OwnMarked k earlier row stage c h

  above_ex : stage ≡ k.shape.ex → 0 < stage
  above_ex at = let p = is.plain.rd_pos in let q = is.plain.rd_ex in omega (arith, p, q, at)

  -- Custom registers

  abbrev Waits : ℕ → ℕ → Type 0
  Waits r j = WaitsForCustom k earlier (upper row) stage c r j

  abbrev made : ℕ → ℕ → Hold
  made r j = Custom r j

  from_custom : (up : 0 < stage) → (r j : ℕ) → Waits r j → Meets k.shape row (want.Custom r) 0 older j
  from_custom up r j w = from_word k earlier row known owed is stage c up stands (λ b. get_or b.late_customs r false) j w.older w.unretired w.writes.0 w.writes.1 w.writes.2

  to_custom : (up : 0 < stage) → (r j : ℕ) → stage ≡ k.shape.ex → get_or a.customs r false ≡ true → Meets k.shape row (want.Custom r) 0 older j → Waits r j
  to_custom up r j at uses m =
      subst (λ s. Waits r s) m.3
      (record {
        executing = at;
        uses = uses;
        older = older_of k earlier row known owed is stage c up stands m.0 m.1 m.2;
        unretired = unretired_of k earlier row known owed is stage c up stands m.0 m.1 m.2;
        writes = word_of k earlier row known owed is stage c up stands (λ b. get_or b.late_customs r false) m.0 m.1 m.2 m.4;
      })

  one_custom : (up : 0 < stage) → stage ≡ k.shape.ex → (r : ℕ) → OneIs Waits made r (custom_at k.shape row a older r)
  one_custom up at r =
      by_case (get_or a.customs r false) refl (oldest k.shape row (want.Custom r) 0 older) (oldest_is k.shape row (want.Custom r) 0 older (falls k earlier row known owed is stage c up stands)) where
        by_case : (b : Bool) → get_or a.customs r false ≡ b → (o : Option ℕ) → OldestIs k.shape row (want.Custom r) 0 older o → OneIs Waits made r (if b then custom r o else None)
        by_case true e None f = λ j w. f j (from_custom up r j w)
        by_case true e (Some i) f = (i, refl, to_custom up r i at e f.0, λ j w. f.1 j (from_custom up r j w))
        by_case false e o f = λ j w. differ (get_or a.customs r false) w.uses e

  few : (r j : ℕ) → Waits r j → r < 0 + 16
  few r j w = let lt = is.names.customs c.word r w.uses in omega (arith, lt)

  custom_of : (o : Option Hold) → FirstIs Waits made 0 16 o → FirstIn Own 2 3 o
  custom_of None u = λ h l m own. let x = custom_kind h (one_kind 2 _ l m) in let w = subst (λ y. Own y) x.2 own in u x.0 x.1 (omega arith) (few x.0 x.1 w) w
  custom_of (Some h) u =
      subst (λ y. FirstIn Own 2 3 (Some y)) (sym u.2) (
        omega arith,
        omega arith,
        u.3,
        λ g l m own.
            let x = custom_kind g (one_kind 2 _ l m) in
            let w = subst (λ y. Own y) x.2 own in
            subst (λ y. ComesFirst (Custom u.0 u.1) y) (sym x.2) (inr (refl, u.5 x.0 x.1 (omega arith) (few x.0 x.1 w) w)),
      )

  pub custom_where : FirstIn Own 2 3 (custom_hold k.shape row stage a older)
  custom_where = by_case (stage == k.shape.ex) refl where
    by_case : (b : Bool) → (stage == k.shape.ex) ≡ b → FirstIn Own 2 3 (if b then first_from (custom_at k.shape row a older) 0 custom_count else None)
    by_case true e =
        let at = same_number stage k.shape.ex e in
        subst (λ n. FirstIn Own 2 3 (first_from (custom_at k.shape row a older) 0 n)) (sym customs)
        (custom_of (first_from (custom_at k.shape row a older) 0 16) (first_is Waits made (custom_at k.shape row a older) (one_custom (above_ex at) at) 0 16))
    by_case false e = λ h l m own. let x = custom_kind h (one_kind 2 _ l m) in let w = subst (λ y. Own y) x.2 own in differs stage k.shape.ex e w.executing

  -- Late writes of the pc

  from_jump : (up : 0 < stage) → (j : ℕ) → WaitsForJump k earlier (upper row) stage c j → Meets k.shape row want.Late 0 older j
  from_jump up j w = from_word k earlier row known owed is stage c up stands (λ b. b.late) j w.older w.unretired w.jumps.0 w.jumps.1 w.jumps.2

  to_jump : (up : 0 < stage) → (j : ℕ) → stage ≡ k.shape.ex → Meets k.shape row want.Late 0 older j → WaitsForJump k earlier (upper row) stage c j
  to_jump up j at m =
      subst (λ s. WaitsForJump k earlier (upper row) stage c s) m.3
      (record {
        executing = at;
        older = older_of k earlier row known owed is stage c up stands m.0 m.1 m.2;
        unretired = unretired_of k earlier row known owed is stage c up stands m.0 m.1 m.2;
        jumps = word_of k earlier row known owed is stage c up stands (λ b. b.late) m.0 m.1 m.2 m.4;
      })

  late_of : (up : 0 < stage) → stage ≡ k.shape.ex → (o : Option ℕ) → OldestIs k.shape row want.Late 0 older o → FirstIn Own 3 4 (late o)
  late_of up at None f = λ h l m own. let x = late_kind h (one_kind 3 _ l m) in f x.0 (from_jump up x.0 (subst (λ y. Own y) x.1 own))
  late_of up at (Some i) f = (
    omega arith,
    omega arith,
    to_jump up i at f.0,
    λ g l m own.
        let x = late_kind g (one_kind 3 _ l m) in
        subst (λ y. ComesFirst (Late i) y) (sym x.1) (inr (refl, inr (refl, f.1 x.0 (from_jump up x.0 (subst (λ y. Own y) x.1 own))))),
  )

  pub late_where : FirstIn Own 3 4 (late_hold k.shape row stage older)
  late_where = by_case (stage == k.shape.ex) refl where
    by_case : (b : Bool) → (stage == k.shape.ex) ≡ b → FirstIn Own 3 4 (if b then late (oldest k.shape row want.Late 0 older) else None)
    by_case true e =
        let at = same_number stage k.shape.ex e in
        let up = above_ex at in
        late_of up at (oldest k.shape row want.Late 0 older) (oldest_is k.shape row want.Late 0 older (falls k earlier row known owed is stage c up stands))
    by_case false e = λ h l m own. let x = late_kind h (one_kind 3 _ l m) in let w = subst (λ y. Own y) x.1 own in differs stage k.shape.ex e w.executing

  -- Interrupts: there is no line

  uninterrupted : is_interrupted k earlier ≡ false
  uninterrupted = ap (λ l. is_line_pending l earlier && k.course.enabled (retirements earlier)) is.plain.no_line

  pub trap_where : FirstIn Own 4 5 None
  trap_where = λ h l m own. let w = subst (λ y. Own y) (trap_kind h (one_kind 4 _ l m)) own in differ (is_interrupted k earlier) w.interrupted uninterrupted

  -- Stops

  abbrev Drains : ℕ → Type 0
  Drains j = WaitsToDrain k earlier (upper row) stage c j

  abbrev IsLeft : ℕ → Type 0
  IsLeft j = Owes row None owed j ⊎ Meets k.shape row want.Drain 0 older j

  written_both : (j : ℕ) → is_written (upper row ∷ earlier) j ≡ false → (is_serial (serial_written row.written) j ≡ false) × (is_written earlier j ≡ false)
  written_both j e = or_false (is_serial (serial_written row.written) j) (is_written earlier j) (sym (written_more row earlier j) ∙ sym (written_up row earlier j) ∙ e)

  unwritten_more : (j : ℕ) → is_serial (serial_written row.written) j ≡ false → is_written earlier j ≡ false → is_written (upper row ∷ earlier) j ≡ false
  unwritten_more j e f = written_up row earlier j ∙ written_more row earlier j ∙ false_or (is_serial (serial_written row.written) j) (is_written earlier j) e f

  from_drain : (up : 0 < stage) → (j : ℕ) → Drains j → IsLeft j
  from_drain up j w = by_case (is_retired earlier j) refl where
    fl : (has_serial row.flushed j ≡ false) × (is_flushed earlier j ≡ false)
    fl = unflushed_both row earlier j (sym (flushed_up row earlier j) ∙ w.older.unflushed)

    before : is_retired earlier j ≡ true → IsUnwritten k (upper row ∷ earlier) j → IsLeft j
    before e u =
        let v = u.decoupled.0 in
        let p = written_both j u.unwritten in
        let there = is.owing.owed j v e fl.1 (word_before k earlier row known owed is j v e u.decoupled.1) u.decoupled.2 p.1 in
        inl (owed_of k (j, v), to_owed k earlier row known owed is (j, v) there, refl, and_both (not (has_serial row.flushed j)) (not (is_serial (serial_written row.written) j)) (not_false (has_serial row.flushed j) fl.0) (not_false (is_serial (serial_written row.written) j) p.0))

    here : (x : IsThere k earlier row known owed is stage c up stands j) → is_left row (record { serial = x.cell.serial; asks = k.asks x.cell.word }) ≡ true → IsLeft j
    here x q = inr (x.at, record { serial = x.cell.serial; asks = k.asks x.cell.word }, there_listed k earlier row known owed is stage c up stands j x, x.serial, q)

    by_case : (b : Bool) → is_retired earlier j ≡ b → IsLeft j
    by_case true e = elim w.left [
      | inl u ↦ absurd (differ (is_retired earlier j) e (retired_both row earlier j (sym (retired_up row earlier j) ∙ u)).1)
      | inr u ↦ before e u
    ]
    by_case false e =
        let x = there k earlier row known owed is stage c up stands j w.older e in
        let unit = is_some (k.asks x.cell.word).unit in
        here x (elim w.left [
          | inl u ↦
              let r = (retired_both row earlier j (sym (retired_up row earlier j) ∙ u)).0 in
              unretired_left (retires row.retired x.cell.serial) unit (is_serial (serial_written row.written) x.cell.serial) (subst (λ s. retires row.retired s ≡ false) (sym x.serial) r)
          | inr u ↦
              let p = (written_both j u.unwritten).0 in
              let same = one_word k earlier row known owed is stage c up stands j u.decoupled.0 x u.decoupled.1 in
              unwritten_left (retires row.retired x.cell.serial) unit (is_serial (serial_written row.written) x.cell.serial) (subst (λ v. is_some (k.asks v).unit ≡ true) same u.decoupled.2) (subst (λ s. is_serial (serial_written row.written) s ≡ false) (sym x.serial) p)
        ])

  due_of : stage ≡ k.shape.ex → is_some known.stop ≡ true → (stop : Stop) × IsDueToStop k (upper row ∷ earlier) c stop
  due_of at e =
      let q = is.knowing.stop c (subst (λ n. Stands k row n c) at stands) in
      let x = is_stop (k.course.answer (place (row ∷ earlier) c.serial)) (ap (λ (o : Option Stop). is_some o) (sym q) ∙ e) in
      (x.0, ap (λ p. k.course.answer p) (place_up row earlier c.serial) ∙ x.1)

  of_due : stage ≡ k.shape.ex → (stop : Stop) → IsDueToStop k (upper row ∷ earlier) c stop → is_some known.stop ≡ true
  of_due at stop e =
      let q = is.knowing.stop c (subst (λ n. Stands k row n c) at stands) in
      ap (λ (o : Option Stop). is_some o) q ∙ stop_is (k.course.answer (place (row ∷ earlier) c.serial)) stop (ap (λ p. k.course.answer p) (sym (place_up row earlier c.serial)) ∙ e)

  to_drain : (up : 0 < stage) → (j : ℕ) → stage ≡ k.shape.ex → is_some known.stop ≡ true → IsLeft j → Drains j
  to_drain up j at stop (inl x) =
      let o = x.0 in
      let p = both (not (has_serial row.flushed o.serial)) (not (is_serial (serial_written row.written) o.serial)) x.3 in
      let d = of_owed k earlier row known owed is o x.1 in
      let s : d.0.0 ≡ o.serial = ap (λ (q : Owed). q.serial) d.2 in
      subst (λ i. Drains i) x.2
      (record {
        executing = at;
        due = due_of at stop;
        older = owed_older k earlier row known owed is stage c up stands o x.1 (true_not (has_serial row.flushed o.serial) p.0);
        left = inr (record {
          decoupled = (d.0.1, inr (subst (λ i. IsWordOf k earlier i d.0.1) s (is.owing.worded d.0.0 d.0.1 d.1)), is.owing.decoupled d.0.0 d.0.1 d.1);
          unwritten = unwritten_more o.serial (true_not (is_serial (serial_written row.written) o.serial) p.1) (subst (λ i. is_written earlier i ≡ false) s (is.owing.unwritten d.0.0 d.0.1 d.1));
        });
      })
  to_drain up j at stop (inr m) = subst (λ i. Drains i) m.3 (record { executing = at; due = due_of at stop; older = older_of k earlier row known owed is stage c up stands m.0 m.1 m.2; left = left_is }) where
    o : Owed
    o = m.1

    stays : is_retired earlier o.serial ≡ false
    stays = unretired_of k earlier row known owed is stage c up stands m.0 m.1 m.2

    left_is : (is_retired (upper row ∷ earlier) o.serial ≡ false) ⊎ IsUnwritten k (upper row ∷ earlier) o.serial
    left_is = elim (left_parts (retires row.retired o.serial) (is_some o.asks.unit) (is_serial (serial_written row.written) o.serial) m.4) [
      | inl r ↦ inl (retired_up row earlier o.serial ∙ unretired_more row earlier o.serial r stays)
      | inr p ↦ inr (record {
        decoupled = word_of k earlier row known owed is stage c up stands (λ b. is_some b.unit) m.0 m.1 m.2 p.0;
        unwritten = unwritten_more o.serial p.1 (not_true (is_written earlier o.serial) (λ e. differ (is_retired earlier o.serial) (is.owing.written o.serial e) stays));
      })
    ]

  owed_before : (up : 0 < stage) → (i j : ℕ) → Owes row None owed i → Meets k.shape row want.Drain 0 older j → i ≤ j
  owed_before up i j x m =
      let lt = owed_first k earlier row known owed is stage c up stands x.0 m.1 m.0 x.1 m.2 in
      let u = x.2 in
      let v = m.3 in
      omega (arith, lt, u, v)

  abbrev LeftIs : Option ℕ → Type 0
  LeftIs None = (j : ℕ) → IsLeft j → ⊥
  LeftIs (Some i) = IsLeft i × ((j : ℕ) → IsLeft j → i ≤ j)

  left_is : (up : 0 < stage) → LeftIs (option_or (first_owed row None owed) (oldest k.shape row want.Drain 0 older))
  left_is up =
      by_case (first_owed row None owed) (oldest k.shape row want.Drain 0 older) (first_owes row None owed (ascending k earlier row known owed is))
      (oldest_is k.shape row want.Drain 0 older (falls k earlier row known owed is stage c up stands)) where
        by_case : (o p : Option ℕ) → FirstOwes row None owed o → OldestIs k.shape row want.Drain 0 older p → LeftIs (option_or o p)
        by_case None None f g = λ j s. elim s [ inl x ↦ f j x | inr x ↦ g j x ]
        by_case None (Some i) f g = (inr g.0, λ j s. elim s [ inl x ↦ absurd (f j x) | inr x ↦ g.1 j x ])
        by_case (Some i) p f g = (inl f.0, λ j s. elim s [ inl x ↦ f.1 j x | inr x ↦ owed_before up i j f.0 x ])

  drain_of : (up : 0 < stage) → stage ≡ k.shape.ex → is_some known.stop ≡ true → (o : Option ℕ) → LeftIs o → FirstIn Own 5 6 (drain o)
  drain_of up at stop None f = λ h l m own. let x = drain_kind h (one_kind 5 _ l m) in f x.0 (from_drain up x.0 (subst (λ y. Own y) x.1 own))
  drain_of up at stop (Some i) f = (
    omega arith,
    omega arith,
    to_drain up i at stop f.0,
    λ g l m own.
        let x = drain_kind g (one_kind 5 _ l m) in
        subst (λ y. ComesFirst (Drain i) y) (sym x.1) (inr (refl, inr (refl, f.1 x.0 (from_drain up x.0 (subst (λ y. Own y) x.1 own))))),
  )

  pub drain_where : FirstIn Own 5 6 (drain_hold k.shape row known owed stage older)
  drain_where = by_case (stage == k.shape.ex) (is_some known.stop) refl refl where
    none : ((j : ℕ) → Drains j → ⊥) → FirstIn Own 5 6 None
    none f = λ h l m own. let x = drain_kind h (one_kind 5 _ l m) in f x.0 (subst (λ y. Own y) x.1 own)

    by_case : (b d : Bool) → (stage == k.shape.ex) ≡ b → is_some known.stop ≡ d
        → FirstIn Own 5 6 (if b && d then drain (option_or (first_owed row None owed) (oldest k.shape row want.Drain 0 older)) else None)
    by_case true true e f =
        let at = same_number stage k.shape.ex e in
        let up = above_ex at in
        drain_of up at f (option_or (first_owed row None owed) (oldest k.shape row want.Drain 0 older)) (left_is up)
    by_case true false e f = none (λ j w. differ (is_some known.stop) (of_due (same_number stage k.shape.ex e) w.due.0 w.due.1) f)
    by_case false d e f = none (λ j w. differs stage k.shape.ex e w.executing)
