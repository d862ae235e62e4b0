-- Holds of a cell's own by the marks of a row, and by the rows alone.
use Rattle.std.proofs.Common.{◌≡◌, ◌∙◌, refl, sym, ap, subst, ℕ, zero, suc, ◌+◌, ◌<◌, List, [], ◌∷◌, Option, Some, None, true, arith, inl, inr}
use Rattle.std.specs.Prelude.{◌==◌, if◌then◌else◌}
use Rattle.std.proofs.lemmas.Bool.Decides.{nat_tests}
use Rattle.ix_plan.specs.Units.{Slots, finished, with_unit, written_from, unit_written, frozen_with}
use Rattle.rv_trace.specs.declared.row.Cell.{Cell}
use Rattle.rv_trace.specs.declared.row.Row.{Row}
use Rattle.rv_trace.specs.declared.row.Hold.{Hold}
use Rattle.rv_trace.specs.declared.row.Hold.TheVariants.{Operand, Board, Custom, Late, Trap, Drain, Wait, StoreAhead, Tail, UnitFull, Port, Behind}
use Rattle.rv_lawful.specs.Settings.{Setting, Stands, accesses_before, stood}
use Rattle.rv_waits.specs.Waits.{wait_at}
use Rattle.rv_lawful.specs.Outstanding.{is_serial, serial_written, units_after}
use Rattle.rv_lawful.specs.LawfulTrace.{serial_in, IsWordOf, OwnHold, WritesUnit, IsUnwritten}
use Rattle.rv_trace.specs.Trace.{is_retired}
use Rattle.rv_rows.specs.Facts.{IsPlain, FirstFacts}
use Rattle.rv_rows.specs.Kinds.{upper, unit_from, unit_marked, OwnMarked}
use Rattle.rv_rows.specs.Laws.{AreEmptyUnits}
use Rattle.rv_rows.proofs.Upper.{stands_up, stands_down, retired_up, written_up, place_up, older_up, older_down, word_up, word_down}
use Rattle.rv_rows.proofs.InUnits.{written_retired}

-- the unit that a row marks is the one that is written, where the right serial is written

pub is_own : (s : ℕ) → (s == s) ≡ true
is_own s = grind (arith, nat_tests)

unit_found : (u : ℕ) (units : List Slots) (entry : ℕ × ℕ) → written_from u units ≡ Some entry → unit_from u units entry.1 ≡ Some entry
unit_found u [] entry e = cc
unit_found u (unit ∷ units) entry e = by_case (finished unit) e (λ q. unit_found (u + 1) units entry q) where
  inside : (p q : ℕ × ℕ) → ◌≡◌ {A = Option (ℕ × ℕ)} (Some p) (Some q) → p ≡ q
  inside p q e = cc

  here : (s : ℕ) (found : ℕ × ℕ) (rest : Option (ℕ × ℕ)) → ◌≡◌ {A = Option (ℕ × ℕ)} (Some (u, s)) (Some found) → (if s == found.1 then Some (u, found.1) else rest) ≡ Some found
  here s found rest q =
      let second : s ≡ found.1 = ap (λ (p : ℕ × ℕ). p.1) (inside (u, s) found q) in
      ap (λ b. if b then Some (u, found.1) else rest) (subst (λ n. (n == found.1) ≡ true) (sym second) (is_own found.1))
      ∙ ap (λ n. Some (u, n)) (sym second)
      ∙ q

  by_case : (o : Option ℕ) → with_unit u o (written_from (u + 1) units) ≡ Some entry → (written_from (u + 1) units ≡ Some entry → unit_from (u + 1) units entry.1 ≡ Some entry)
      → (if is_serial o entry.1 then Some (u, entry.1) else unit_from (u + 1) units entry.1) ≡ Some entry
  by_case None q rest = rest q
  by_case (Some s) q rest = here s entry (unit_from (u + 1) units entry.1) q

pub unit_same : (k : Setting) (earlier : List Row) (row : Row) → WritesUnit k earlier row → unit_marked (units_after k earlier) (serial_written row.written) ≡ unit_written (units_after k earlier)
unit_same k earlier row h = ap (λ s. unit_marked (units_after k earlier) s) h ∙ by_case (unit_written (units_after k earlier)) refl where
  by_case : (o : Option (ℕ × ℕ)) → unit_written (units_after k earlier) ≡ o → unit_marked (units_after k earlier) (serial_in o) ≡ o
  by_case None q = refl
  by_case (Some entry) q = unit_found 0 (units_after k earlier) entry q

-- a hold of its own is that of a cell above stage 0

pub own_above : (k : Setting) (earlier : List Row) (row : Row) (stage : ℕ) (c : Cell) (h : Hold) → IsPlain k → OwnHold k earlier row stage c h → 0 < stage
own_above k earlier row stage c (Operand r j) p o = let e = o.reading in let a = p.rd_pos in omega (arith, e, a)
own_above k earlier row stage c (Board t j) p o = let e = o.reading in let a = p.rd_pos in omega (arith, e, a)
own_above k earlier row stage c (Custom r j) p o = let e = o.executing in let a = p.rd_pos in let b = p.rd_ex in omega (arith, e, a, b)
own_above k earlier row stage c (Late j) p o = let e = o.executing in let a = p.rd_pos in let b = p.rd_ex in omega (arith, e, a, b)
own_above k earlier row stage c Trap p o = let e = o.executing in let a = p.rd_pos in let b = p.rd_ex in omega (arith, e, a, b)
own_above k earlier row stage c (Drain j) p o = let e = o.executing in let a = p.rd_pos in let b = p.rd_ex in omega (arith, e, a, b)
own_above k earlier row stage c (Wait left) p o = let e = o.waiting in let a = p.rd_pos in let b = p.rd_ex in let d = p.ex_mem in omega (arith, e, a, b, d)
own_above k earlier row stage c (StoreAhead j) p o = let e = o.loading in let a = p.rd_pos in let b = p.rd_ex in let d = p.ex_mem in omega (arith, e, a, b, d)
own_above k earlier row stage c (Tail left) p o = let e = o.last in let a = p.mem_last in let b = p.ex_mem in omega (arith, e, a, b)
own_above k earlier row stage c (UnitFull u) p o = let e = o.last in let a = p.mem_last in let b = p.ex_mem in omega (arith, e, a, b)
own_above k earlier row stage c (Port j) p o = let e = o.last in let a = p.mem_last in let b = p.ex_mem in omega (arith, e, a, b)
own_above k earlier row stage c Behind p o = absurd o

module _ (k : Setting) (earlier : List Row) (row : Row) (plain : IsPlain k) (empty : AreEmptyUnits k.units) (first : FirstFacts k earlier row) (units : WritesUnit k earlier row) where
  -- what stands in stage 0 is younger than a cell above, and is not written

  younger : (stage : ℕ) (c : Cell) (j : ℕ) → 0 < stage → Stands k row stage c → j < c.serial → (d : Cell) → Stands k row 0 d → d.serial ≡ j → ⊥
  younger stage c j lt s low d t e = let o = first.ordered stage d c lt t s in omega (arith, o, low, e)

  unwritten : (j : ℕ) → serial_written row.written ≡ Some j → (d : Cell) → Stands k row 0 d → d.serial ≡ j → ⊥
  unwritten j e d t q =
      let gone = written_retired k earlier j empty (sym units ∙ e) in
      let here = (first.in_place d t).unretired in
      let same : is_retired earlier d.serial ≡ true = subst (λ n. is_retired earlier n ≡ true) (sym q) gone in
      cc

  word_is : (stage : ℕ) (c : Cell) (j word : ℕ) → 0 < stage → Stands k row stage c → j < c.serial → IsWordOf k (row ∷ earlier) j word → IsWordOf k (upper row ∷ earlier) j word
  word_is stage c j word lt s low w = word_up k row earlier j word (λ d t e. younger stage c j lt s low d t e) w

  unwritten_up : (j : ℕ) (stage : ℕ) (c : Cell) → 0 < stage → Stands k row stage c → j < c.serial → IsUnwritten k (row ∷ earlier) j → IsUnwritten k (upper row ∷ earlier) j
  unwritten_up j stage c lt s low u =
      record { decoupled = (u.decoupled.0, word_is stage c j u.decoupled.0 lt s low u.decoupled.1, u.decoupled.2); unwritten = written_up row earlier j ∙ u.unwritten }

  unwritten_down : (j : ℕ) → IsUnwritten k (upper row ∷ earlier) j → IsUnwritten k (row ∷ earlier) j
  unwritten_down j u =
      record { decoupled = (u.decoupled.0, word_down k row earlier j u.decoupled.0 u.decoupled.1, u.decoupled.2); unwritten = sym (written_up row earlier j) ∙ u.unwritten }

  pub own_up : (stage : ℕ) (c : Cell) (h : Hold) → 0 < stage → Stands k row stage c → OwnHold k earlier row stage c h → OwnMarked k earlier row stage c h
  own_up stage c (Operand r j) lt s o =
      record {
        reading = o.reading;
        reads = o.reads;
        older = older_up row earlier c.serial j o.older;
        unretired = o.unretired;
        writes = (o.writes.0, word_is stage c j o.writes.0 lt s o.older.lower o.writes.1, o.writes.2);
        withheld = λ f. let w = o.withheld f in (w.0, w.1, stands_up k row w.0 w.1 (above w.0 w.1 w.2 w.3) w.2, w.3, w.4);
      } where
        above : (at : ℕ) (d : Cell) → Stands k row at d → d.serial ≡ j → 0 < at
        above zero d t e = absurd (younger stage c j lt s o.older.lower d t e)
        above (suc at) d t e = omega arith
  own_up stage c (Board t j) lt s o =
      record {
        reading = o.reading;
        touches = o.touches;
        older = older_up row earlier c.serial j o.older;
        unwritten = o.unwritten;
        spawns = (o.spawns.0, word_is stage c j o.spawns.0 lt s o.older.lower o.spawns.1, o.spawns.2);
      }
  own_up stage c (Custom r j) lt s o =
      record {
        executing = o.executing;
        uses = o.uses;
        older = older_up row earlier c.serial j o.older;
        unretired = o.unretired;
        writes = (o.writes.0, word_is stage c j o.writes.0 lt s o.older.lower o.writes.1, o.writes.2);
      }
  own_up stage c (Late j) lt s o =
      record {
        executing = o.executing;
        older = older_up row earlier c.serial j o.older;
        unretired = o.unretired;
        jumps = (o.jumps.0, word_is stage c j o.jumps.0 lt s o.older.lower o.jumps.1, o.jumps.2);
      }
  own_up stage c Trap lt s o = o
  own_up stage c (Drain j) lt s o =
      record {
        executing = o.executing;
        due = (o.due.0, ap (λ p. k.course.answer p) (place_up row earlier c.serial) ∙ o.due.1);
        older = older_up row earlier c.serial j o.older;
        left = elim o.left [ inl x ↦ inl (retired_up row earlier j ∙ x) | inr y ↦ inr (unwritten_up j stage c lt s o.older.lower y) ];
      }
  own_up stage c (Wait left) lt s o =
      record {
        waiting = o.waiting;
        accesses = ap (λ p. k.course.accesses p) (place_up row earlier c.serial) ∙ o.accesses;
        still = subst (λ p. left + stood k earlier c.serial ≡ wait_at k.waits (accesses_before k.course p)) (sym (place_up row earlier c.serial)) o.still;
        some = o.some;
      }
  own_up stage c (StoreAhead j) lt s o =
      record {
        loading = o.loading;
        loads = o.loads;
        older = older_up row earlier c.serial j o.older;
        stands = (let w = o.stands in let more = w.2 in (w.0, w.1, w.2, stands_up k row w.0 w.1 (omega (arith, more, lt)) w.3, w.4, w.5));
      }
  own_up stage c (Tail left) lt s o = record { last = o.last; still = o.still; some = o.some }
  own_up stage c (UnitFull u) lt s o =
      record {
        last = o.last;
        enters = o.enters;
        frozen = (o.frozen.0, o.frozen.1, ap (λ w. frozen_with u o.frozen.0 w) (unit_same k earlier row units) ∙ o.frozen.2);
      }
  own_up stage c (Port j) lt s o =
      record {
        last = o.last;
        writes = o.writes;
        taken = o.taken;
        spawns = (o.spawns.0, word_up k row earlier j o.spawns.0 (λ d t e. unwritten j o.taken d t e) o.spawns.1, o.spawns.2);
      }
  own_up stage c Behind lt s o = absurd o

  pub own_down : (stage : ℕ) (c : Cell) (h : Hold) → OwnMarked k earlier row stage c h → OwnHold k earlier row stage c h
  own_down stage c (Operand r j) o =
      record {
        reading = o.reading;
        reads = o.reads;
        older = older_down row earlier c.serial j o.older;
        unretired = o.unretired;
        writes = (o.writes.0, word_down k row earlier j o.writes.0 o.writes.1, o.writes.2);
        withheld = λ f. let w = o.withheld f in (w.0, w.1, (stands_down k row w.0 w.1 w.2).1, w.3, w.4);
      }
  own_down stage c (Board t j) o =
      record {
        reading = o.reading;
        touches = o.touches;
        older = older_down row earlier c.serial j o.older;
        unwritten = o.unwritten;
        spawns = (o.spawns.0, word_down k row earlier j o.spawns.0 o.spawns.1, o.spawns.2);
      }
  own_down stage c (Custom r j) o =
      record {
        executing = o.executing;
        uses = o.uses;
        older = older_down row earlier c.serial j o.older;
        unretired = o.unretired;
        writes = (o.writes.0, word_down k row earlier j o.writes.0 o.writes.1, o.writes.2);
      }
  own_down stage c (Late j) o =
      record {
        executing = o.executing;
        older = older_down row earlier c.serial j o.older;
        unretired = o.unretired;
        jumps = (o.jumps.0, word_down k row earlier j o.jumps.0 o.jumps.1, o.jumps.2);
      }
  own_down stage c Trap o = o
  own_down stage c (Drain j) o =
      record {
        executing = o.executing;
        due = (o.due.0, ap (λ p. k.course.answer p) (sym (place_up row earlier c.serial)) ∙ o.due.1);
        older = older_down row earlier c.serial j o.older;
        left = elim o.left [ inl x ↦ inl (sym (retired_up row earlier j) ∙ x) | inr y ↦ inr (unwritten_down j y) ];
      }
  own_down stage c (Wait left) o =
      record {
        waiting = o.waiting;
        accesses = ap (λ p. k.course.accesses p) (sym (place_up row earlier c.serial)) ∙ o.accesses;
        still = subst (λ p. left + stood k earlier c.serial ≡ wait_at k.waits (accesses_before k.course p)) (place_up row earlier c.serial) o.still;
        some = o.some;
      }
  own_down stage c (StoreAhead j) o =
      record {
        loading = o.loading;
        loads = o.loads;
        older = older_down row earlier c.serial j o.older;
        stands = (let w = o.stands in (w.0, w.1, w.2, (stands_down k row w.0 w.1 w.3).1, w.4, w.5));
      }
  own_down stage c (Tail left) o = record { last = o.last; still = o.still; some = o.some }
  own_down stage c (UnitFull u) o =
      record {
        last = o.last;
        enters = o.enters;
        frozen = (o.frozen.0, o.frozen.1, ap (λ w. frozen_with u o.frozen.0 w) (sym (unit_same k earlier row units)) ∙ o.frozen.2);
      }
  own_down stage c (Port j) o =
      record {
        last = o.last;
        writes = o.writes;
        taken = o.taken;
        spawns = (o.spawns.0, word_down k row earlier j o.spawns.0 o.spawns.1, o.spawns.2);
      }
  own_down stage c Behind o = absurd o

  -- a marked hold of its own is that of a cell above stage 0
  pub marked_above : (stage : ℕ) (c : Cell) (h : Hold) → OwnMarked k earlier row stage c h → 0 < stage
  marked_above stage c h o = own_above k earlier row stage c h plain (own_down stage c h o)
