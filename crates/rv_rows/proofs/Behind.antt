-- A row behind a stop: what stands there, and what has retired. The cell that stopped the run stays in EX or is gone.
use Rattle.std.proofs.Common.{◌≡◌, ◌≢◌, ◌∙◌, refl, sym, ap, subst, ℕ, zero, suc, ◌<◌, ◌≤◌, List, [], ◌∷◌, take, Option, Some, None, Bool, true, false, arith, inl, inr, ◌⊎◌}
use Rattle.std.specs.Prelude.{◌||◌, is_some, slice_get}
use Rattle.std.proofs.lemmas.Bool.{cases_lt}
use Rattle.rv_seq.specs.declared.commit.Commit.{Commit}
use Rattle.rv_seq.specs.declared.commit.Stop.{Stop}
use Rattle.rv_seq.specs.declared.commit.Stop.TheVariants.{Ecall, Ebreak, Illegal, Fetch, Misaligned, DataRange, Target as target_stop}
use Rattle.rv_seq.specs.declared.answer.StepAnswer.TheVariants.{Stopped}
use Rattle.rv_seq.specs.Steps.{word_at}
use Rattle.rv_trace.specs.declared.row.Cell.{Cell}
use Rattle.rv_trace.specs.declared.row.Row.{Row}
use Rattle.rv_trace.specs.declared.row.Hold.{Hold}
use Rattle.rv_trace.specs.declared.row.Hold.TheVariants.{Drain, Behind}
use Rattle.rv_trace.specs.Trace.{has_serial, is_flushed, retires, is_retired, place, newest}
use Rattle.rv_trace.specs.RowParts.{Name, name_of, names_of, stays, leaves, front, InStage, MovesInto}
use Rattle.rv_lawful.specs.Settings.{Setting, stages_of, Stands}
use Rattle.rv_lawful.specs.Outstanding.{is_written, outstanding}
use Rattle.rv_lawful.specs.LawfulTrace.{new_cell, fetch_address, IsWordOf, StopsRun, IsEmptyAfter, Lawful}
use Rattle.rv_rows.specs.Facts.{IsPlain, AreGoingOn, AboveFacts, FirstFacts, RowFacts, MoveAbove, above}
use Rattle.rv_rows.proofs.Tests.{not_true, same_number, or_true}
use Rattle.rv_rows.proofs.Coming.{Before, held, moved, new, IsHeld, stood_above, leaves_free, stays_held, same_serial, same_word, one_cell, front_there, front_is, is_fetched}
use Rattle.rv_rows.proofs.Ordered.{IsOrdered, ordered, one_in_row, one_word}
use Rattle.rv_rows.proofs.Places.{unflushed_both, unflushed_more, lower_place}
use Rattle.rv_rows.proofs.Flushed.{flushed_by}
use Rattle.rv_rows.proofs.KnownRows.{IsPast, retired_step}
use Rattle.rv_rows.proofs.Knowing.{history}
use Rattle.rv_rows.specs.Kinds.{is_of_cell, with_cell, kept_back, with_execute, upper, GoesOnAs, MovesRightly, FetchesRightly}
use Rattle.rv_rows.proofs.Moving.{above_of}
use Rattle.rv_rows.proofs.Upper.{stands_down}
use Rattle.rv_rows.proofs.Fetching.{Flusher, none_flushed, not_fetch}

-- ---- what is known

-- behind a stop that this cell made
pub record IsBehindCell (k : Setting) (rows : List Row) (row : Row) (c : Cell) : Type 0 where
  pub stands : Stands k (newest rows) k.shape.ex c
  pub due : (stop : Stop) × (k.course.answer (place rows c.serial) ≡ Stopped stop)
  pub unflushed : is_flushed rows c.serial ≡ false
  pub unretired : is_retired rows c.serial ≡ false
  pub word : IsWordOf k rows c.serial c.word
  pub one_word : (word : ℕ) → IsWordOf k (upper row ∷ rows) c.serial word → word ≡ c.word
  -- what is older has retired and is written
  pub retired : (j : ℕ) → j < c.serial → is_flushed rows j ≡ false → is_retired rows j ≡ true
  pub written : (j word : ℕ) → j < c.serial → is_flushed rows j ≡ false → IsWordOf k rows j word → is_some (k.asks word).unit ≡ true → is_written rows j ≡ true
  pub lower : (j : ℕ) → is_retired rows j ≡ true → j < c.serial
  -- nothing stands above EX, and there nothing but this cell
  pub none_above : (n : ℕ) (d : Cell) → k.shape.ex < n → Stands k row n d → ⊥
  pub at_ex : (d : Cell) → Stands k row k.shape.ex d → name_of (Some d) ≡ name_of (Some c)
  -- what stands below is younger, and at RD nothing else is older than it that has not retired
  pub younger : (n : ℕ) (d : Cell) → 0 < n → n < k.shape.ex → Stands k row n d → c.serial < d.serial
  pub first_younger : FetchesRightly k rows row → (d : Cell) → Stands k row 0 d → c.serial < d.serial
  pub older : (n : ℕ) (d : Cell) (j : ℕ) → n ≡ k.shape.rd → n < k.shape.ex → Stands k row n d → j < d.serial → is_flushed rows j ≡ false → is_retired rows j ≡ false → j ≡ c.serial

-- behind a fetch without a word
pub record IsBehindFetch (k : Setting) (rows : List Row) (row : Row) : Type 0 where
  pub none_above : (n : ℕ) (d : Cell) → 0 < n → Stands k row n d → ⊥
  pub none_first : FetchesRightly k rows row → (d : Cell) → Stands k row 0 d → ⊥

abbrev pub IsBehind : Setting → List Row → Row → Type 0
IsBehind k rows row = ((c : Cell) × (is_of_cell (newest rows).stop ≡ true) × IsBehindCell k rows row c) ⊎ ((is_of_cell (newest rows).stop ≡ false) × IsBehindFetch k rows row)

-- ---- lists

other_cell : (m n e : ℕ) (x : Option Cell) (l : List (Option Cell)) → n ≢ e → slice_get (take m (with_cell e x l)) n ≡ slice_get (take m l) n
other_cell m n e x [] ne = refl
other_cell zero n zero x (a ∷ l) ne = refl
other_cell zero n (suc e) x (a ∷ l) ne = refl
other_cell (suc m) zero zero x (a ∷ l) ne = absurd (ne refl)
other_cell (suc m) (suc n) zero x (a ∷ l) ne = refl
other_cell (suc m) zero (suc e) x (a ∷ l) ne = refl
other_cell (suc m) (suc n) (suc e) x (a ∷ l) ne = other_cell m n e x l (λ q. ne (ap suc q))

this_cell : (m e : ℕ) (x : Option Cell) (l : List (Option Cell)) (d : Cell) → slice_get (take m (with_cell e x l)) e ≡ Some (Some d) → x ≡ Some d
this_cell zero e x [] d q = cc
this_cell (suc m) e x [] d q = cc
this_cell zero zero x (a ∷ l) d q = cc
this_cell zero (suc e) x (a ∷ l) d q = cc
this_cell (suc m) zero x (a ∷ l) d q = cc
this_cell (suc m) (suc e) x (a ∷ l) d q = this_cell m e x l d q

within : (m n : ℕ) (l : List (Option Cell)) (d : Cell) → slice_get (take m l) n ≡ Some (Some d) → n < m
within zero n [] d e = cc
within zero n (a ∷ l) d e = cc
within (suc m) n [] d e = cc
within (suc m) zero (a ∷ l) d e = omega arith
within (suc m) (suc n) (a ∷ l) d e = let lt = within m n l d e in omega (arith, lt)

-- what stays stands there in the next row
stays_into : (row : Row) (came : Option Name) (was : List (Option Cell)) (now : List (Option Name)) → MovesInto row came was now → (n : ℕ) (e : Cell) (x : Name) → slice_get was n ≡ Some (Some e) → stays row (Some e) ≡ Some x
    → slice_get now n ≡ Some (Some x)
stays_into row came [] now m n e x g s = cc
stays_into row came (a ∷ was) [] m n e x g s = absurd m
stays_into row came (a ∷ was) (b ∷ now) m (suc n) e x g s = stays_into row (leaves row a) was now m.1 n e x g s
stays_into row came (a ∷ was) (b ∷ now) m zero e x g s = ap (λ o. Some o) (by_came came (subst (λ o. InStage o came b) (ap (stays row) (inside a (Some e) g) ∙ s) m.0)) where
  inside : (p q : Option Cell) → ◌≡◌ {A = Option (Option Cell)} (Some p) (Some q) → p ≡ q
  inside p q r = cc

  by_came : (came : Option Name) → InStage (Some x) came b → b ≡ Some x
  by_came None h = h
  by_came (Some y) h = absurd h

stays_above : (row : Row) (was : List (Option Cell)) (now : List (Option Name)) → MoveAbove row was now → (n : ℕ) (e : Cell) (x : Name) → 0 < n → slice_get was n ≡ Some (Some e) → stays row (Some e) ≡ Some x
    → slice_get now n ≡ Some (Some x)
stays_above row [] now m n e x lt g s = cc
stays_above row (a ∷ was) [] m n e x lt g s = absurd m
stays_above row (a ∷ was) (b ∷ now) m zero e x lt g s = absurd (omega (arith, lt))
stays_above row (a ∷ was) (b ∷ now) m (suc n) e x lt g s = stays_into row (leaves row a) was now m n e x g s

named_here : (l : List (Option Cell)) (n : ℕ) (d : Cell) (x : Name) → slice_get l n ≡ Some (Some d) → slice_get (names_of l) n ≡ Some (Some x) → name_of (Some d) ≡ Some x
named_here [] n d x e f = cc
named_here (a ∷ l) zero d x e f = inside (name_of (Some d)) (Some x) (sym (ap (λ o. Some o) (ap name_of (whole a (Some d) e))) ∙ f) where
  whole : (p q : Option Cell) → ◌≡◌ {A = Option (Option Cell)} (Some p) (Some q) → p ≡ q
  whole p q r = cc

  inside : (p q : Option Name) → ◌≡◌ {A = Option (Option Name)} (Some p) (Some q) → p ≡ q
  inside p q r = cc
named_here (a ∷ l) (suc n) d x e f = named_here l n d x e f

named_serial : (d : Cell) (x : Name) → name_of (Some d) ≡ Some x → d.serial ≡ x.0
named_serial d x e = ap (λ (y : Name). y.0) (inside (d.serial, d.at, d.word) x e) where
  inside : (p q : Name) → ◌≡◌ {A = Option Name} (Some p) (Some q) → p ≡ q
  inside p q r = cc

true_or_right : (a b : Bool) → b ≡ true → (a || b) ≡ true
true_or_right true b e = refl
true_or_right false b e = e

differ : (b : Bool) → b ≡ true → b ≡ false → ⊥
differ b e f = cc

some_hold : (h : Hold) (o : Option Hold) → o ≡ Some h → is_some o ≡ true
some_hold h o e = ap (λ x. is_some x) e

stays_of : (row : Row) (d : Cell) → is_some d.hold ≡ true → has_serial row.flushed d.serial ≡ false → stays row (Some d) ≡ name_of (Some d)
stays_of row d e f = by_case (is_some d.hold) (has_serial row.flushed d.serial) e f refl refl where
  by_case : (a b : Bool) → a ≡ true → b ≡ false → is_some d.hold ≡ a → has_serial row.flushed d.serial ≡ b → stays row (Some d) ≡ name_of (Some d)
  by_case a b p q u v = rw (u, v, p, q)

last_of : (n : ℕ) → 0 < n → (m : ℕ) × (suc m ≡ n)
last_of zero lt = absurd (omega (arith, lt))
last_of (suc m) lt = (m, refl)

-- ---- the row with the stop

module _ (k : Setting) (was : Row) (earlier : List Row) (plain : IsPlain k) (facts : RowFacts) (lawful : Lawful (λ places. k) (was ∷ earlier)) where
  going : AreGoingOn k earlier
  going = record { lawful = lawful.2; going = lawful.1 }

  placed : AboveFacts k earlier was
  placed = facts.above k earlier was plain going (above_of (newest earlier) (new_cell k earlier) (stages_of k (newest earlier)) (stages_of k was) lawful.0.moves)

  first : FirstFacts k earlier was
  first = facts.first k earlier was plain going lawful.0.moves

  order : IsOrdered k (was ∷ earlier)
  order = ordered k (was ∷ earlier) lawful

  past : IsPast earlier
  past = (history k earlier plain lawful.2).known.past

  flushers : (s : ℕ) → has_serial was.flushed s ≡ true → Flusher k earlier was
  flushers s h =
      let x = flushed_by k earlier was plain lawful.0 s h in
      record { stage = x.0; cell = x.1; stands = x.4.stands; settling = x.4.settles.settling; leaving = x.4.settles.leaves; runs = λ e stop r. x.4.settles.runs stop r }

  ex_pos : 0 < k.shape.ex
  ex_pos = let a = plain.rd_pos in let b = plain.rd_ex in omega (arith, a, b)

  -- what retires in the row stands in the last stage
  record IsLeaver (j : ℕ) : Type 0 where
    stage : ℕ
    cell : Cell
    last : suc stage ≡ k.shape.stages
    there : Stands k was stage cell
    leaving : leaves was (Some cell) ≡ name_of (Some cell)
    serial : cell.serial ≡ j

  leaver : (j : ℕ) → retires was.retired j ≡ true → IsLeaver j
  leaver j e = by_case was.retired refl e where
    same : (t : ℕ) (commit : Commit) → retires (Some (t, commit)) j ≡ true → t ≡ j
    same t commit q = same_number t j q

    by_case : (o : Option (ℕ × Commit)) → was.retired ≡ o → retires o j ≡ true → IsLeaver j
    by_case None q r = cc
    by_case (Some (t, commit)) q r =
        let m = last_of k.shape.stages (let a = plain.mem_last in omega (arith, a)) in
        let x = (lawful.0.retires m.0 m.1).leaver t commit q in
        record { stage = m.0; cell = x.0; last = m.1; there = x.1; leaving = x.2; serial = x.3 ∙ same t commit r }

  -- ---- that a cell made
  module _ (c : Cell) (stop : Stop) (stands : Stands k was k.shape.ex c) (runs : StopsRun k earlier was k.shape.ex c stop) where
    none : (s : ℕ) → has_serial was.flushed s ≡ false
    none s = none_flushed k earlier was plain placed flushers k.shape.ex c stop stands runs s

    unflushed_now : (j : ℕ) → is_flushed earlier j ≡ false → is_flushed (was ∷ earlier) j ≡ false
    unflushed_now j e = unflushed_more was earlier j (none j) e

    unflushed_was : (j : ℕ) → is_flushed (was ∷ earlier) j ≡ false → is_flushed earlier j ≡ false
    unflushed_was j e = (unflushed_both was earlier j e).1

    is_due : k.course.answer (place (was ∷ earlier) c.serial) ≡ Stopped stop
    is_due = runs.due

    retired_now : (j : ℕ) → j < c.serial → is_flushed (was ∷ earlier) j ≡ false → is_retired (was ∷ earlier) j ≡ true
    retired_now j lt alive = by_case (is_retired (was ∷ earlier) j) refl where
      by_case : (b : Bool) → is_retired (was ∷ earlier) j ≡ b → is_retired (was ∷ earlier) j ≡ true
      by_case true q = q
      by_case false q = absurd (runs.free (Drain j) (record { executing = refl; due = (stop, is_due); older = record { lower = lt; unflushed = alive }; left = inl q }))

    written_now : (j word : ℕ) → j < c.serial → is_flushed (was ∷ earlier) j ≡ false → IsWordOf k (was ∷ earlier) j word → is_some (k.asks word).unit ≡ true → is_written (was ∷ earlier) j ≡ true
    written_now j word lt alive w u = by_case (is_written (was ∷ earlier) j) refl where
      by_case : (b : Bool) → is_written (was ∷ earlier) j ≡ b → is_written (was ∷ earlier) j ≡ true
      by_case true q = q
      by_case false q = absurd (runs.free (Drain j) (record {
        executing = refl;
        due = (stop, is_due);
        older = record { lower = lt; unflushed = alive };
        left = inr (record { decoupled = (word, w, u); unwritten = q });
      }))

    here : IsOrdered k (was ∷ earlier)
    here = order

    -- what stands above EX leaves the last stage
    above_leaves : (n : ℕ) (d : Cell) → k.shape.ex < n → Stands k was n d → (suc n ≡ k.shape.stages) × (leaves was (Some d) ≡ name_of (Some d))
    above_leaves n d lt t = by_leaver (leaver d.serial now) where
      pos : 0 < n
      pos = omega (arith, lt)

      now : retires was.retired d.serial ≡ true
      now =
          let i = placed.in_place n d pos t in
          elim (or_true (retires was.retired d.serial) (is_retired earlier d.serial)
          (sym (retired_step was earlier d.serial) ∙ retired_now d.serial (order.falls k.shape.ex n c d lt stands t) (unflushed_now d.serial i.unflushed))) [
            | inl x ↦ x
            | inr y ↦ absurd (differ (is_retired earlier d.serial) y i.unretired)
          ]

      by_leaver : IsLeaver d.serial → (suc n ≡ k.shape.stages) × (leaves was (Some d) ≡ name_of (Some d))
      by_leaver x =
          let at = one_in_row k (was ∷ earlier) order x.stage n x.cell d x.there t x.serial in
          let same = one_cell k was x.stage n x.cell d at x.there t in
          (sym (ap suc at) ∙ x.last, subst (λ (e : Cell). leaves was (Some e) ≡ name_of (Some e)) same x.leaving)

    -- what stands right below EX is held
    below_held : (n : ℕ) (d : Cell) → suc n ≡ k.shape.ex → Stands k was n d → is_some d.hold ≡ true
    below_held n d e t = by_case d.hold refl where
      by_case : (o : Option Hold) → d.hold ≡ o → is_some d.hold ≡ true
      by_case (Some h) q = some_hold h d.hold q
      by_case None q =
          let under : (e : Cell) × Stands k was (suc n) e × ((is_some e.hold ≡ true) ⊎ ((t : Stop) × StopsRun k earlier was (suc n) e t)) = (c, subst (λ m. Stands k was m c) (sym e) stands, inr (stop, subst (λ m. StopsRun k earlier was m c stop) (sym e) runs)) in
          absurd ((lawful.0.holds n d t).free q (none d.serial) (λ other r. (let z = r.executing in omega (arith, z, e))) Behind (inr (refl, under)))

    retired_lower : (j : ℕ) → is_retired (was ∷ earlier) j ≡ true → j < c.serial
    retired_lower j e = elim (or_true (retires was.retired j) (is_retired earlier j) (sym (retired_step was earlier j) ∙ e)) [
      | inl x ↦ of_leaver (leaver j x)
      | inr y ↦
          let p = (past.retired j y).1 in
          let q = (placed.in_place k.shape.ex c ex_pos stands).placed in
          lower_place earlier j c.serial (omega (arith, p, q))
    ] where
      of_leaver : IsLeaver j → j < c.serial
      of_leaver x =
          let l = x.last in
          let a = plain.ex_mem in
          let b = plain.mem_last in
          let lt = order.falls k.shape.ex x.stage c x.cell (omega (arith, l, a, b)) stands x.there in
          let s = x.serial in
          omega (arith, lt, s)

    unretired : is_retired (was ∷ earlier) c.serial ≡ false
    unretired = not_true (is_retired (was ∷ earlier) c.serial) (λ e. let lt = retired_lower c.serial e in omega (arith, lt))

    unflushed : is_flushed (was ∷ earlier) c.serial ≡ false
    unflushed = unflushed_now c.serial (placed.in_place k.shape.ex c ex_pos stands).unflushed

    word : IsWordOf k (was ∷ earlier) c.serial c.word
    word = inl (k.shape.ex, c, stands, refl, refl)

    -- ---- the row behind it
    module _ (row : Row) (x : Option Cell) (x_is : (d : Cell) → x ≡ Some d → (name_of (Some d) ≡ name_of (Some c)) × (is_some d.hold ≡ true))
        (moves : MoveAbove (with_execute k x was) (stages_of k (with_execute k x was)) (names_of (stages_of k row)))
        (kept : (n : Name) → stays was (front (stages_of k was)) ≡ Some n → name_of (front (stages_of k row)) ≡ Some n) where
      abbrev like : Row
      like = with_execute k x was

      like_other : (n : ℕ) (d : Cell) → n ≢ k.shape.ex → Stands k like n d → Stands k was n d
      like_other n d ne e = sym (other_cell k.shape.stages n k.shape.ex x was.cells ne) ∙ e

      to_like : (n : ℕ) (d : Cell) → n ≢ k.shape.ex → Stands k was n d → Stands k like n d
      to_like n d ne e = other_cell k.shape.stages n k.shape.ex x was.cells ne ∙ e

      like_ex : (n : ℕ) (d : Cell) → n ≡ k.shape.ex → Stands k like n d → (name_of (Some d) ≡ name_of (Some c)) × (is_some d.hold ≡ true)
      like_ex n d e s = x_is d (this_cell k.shape.stages k.shape.ex x was.cells d (subst (λ m. Stands k like m d) e s))

      before : (n : ℕ) (d : Cell) → 0 < n → Stands k row n d → Before k (like ∷ earlier) n d
      before n d lt s = stood_above k (like ∷ earlier) row moves n d lt s

      -- nothing leaves EX, or the stage below it
      none_from : (i : ℕ) (b : Cell) → Stands k like i b → (i ≡ k.shape.ex) ⊎ (suc i ≡ k.shape.ex) → leaves like (Some b) ≡ name_of (Some b) → ⊥
      none_from i b s (inl e) l = differ (is_some b.hold) (like_ex i b e s).1 (leaves_free like b (b.serial, b.at, b.word) l).0
      none_from i b s (inr e) l = differ (is_some b.hold) (below_held i b e (like_other i b (λ q. omega (arith, q, e)) s)) (leaves_free like b (b.serial, b.at, b.word) l).0

      none_above : (n : ℕ) (d : Cell) → k.shape.ex < n → Stands k row n d → ⊥
      none_above n d lt s = by_before (before n d (omega (arith, lt)) s) where
        by_before : Before k (like ∷ earlier) n d → ⊥
        by_before (held b g q h) =
            let l = (above_leaves n b lt (like_other n b (λ e. omega (arith, e, lt)) g)).1 in
            differ (is_some b.hold) h.held (leaves_free was b (b.serial, b.at, b.word) l).0
        by_before (moved i z b g q l) = elim (cases_lt k.shape.ex i) [
          | inl less ↦
              let top = (above_leaves i b less (like_other i b (λ e. omega (arith, e, less)) g)).0 in
              let m = within k.shape.stages n row.cells d s in
              omega (arith, top, z, m)
          | inr more ↦ none_from i b g (inl (omega (arith, more, z, lt))) l
        ]
        by_before (new z h q) = omega (arith, z, lt)

      at_ex : (d : Cell) → Stands k row k.shape.ex d → name_of (Some d) ≡ name_of (Some c)
      at_ex d s = by_before (before k.shape.ex d ex_pos s) where
        by_before : Before k (like ∷ earlier) k.shape.ex d → name_of (Some d) ≡ name_of (Some c)
        by_before (held b g q h) = sym q ∙ (like_ex k.shape.ex b refl g).0
        by_before (moved i z b g q l) = absurd (none_from i b g (inr z) l)
        by_before (new z h q) = let p = ex_pos in absurd (omega (arith, z, p))

      -- a cell below EX stood below it
      record StoodBelow (n : ℕ) (d : Cell) : Type 0 where
        from : ℕ
        cell : Cell
        low : from ≤ n
        high : n ≤ suc from
        there : Stands k was from cell
        serial : cell.serial ≡ d.serial

      stood_below : (n : ℕ) (d : Cell) → 0 < n → n < k.shape.ex → Stands k row n d → StoodBelow n d
      stood_below n d lt low s = by_before (before n d lt s) where
        by_before : Before k (like ∷ earlier) n d → StoodBelow n d
        by_before (held b g q h) = record { from = n; cell = b; low = omega arith; high = omega arith; there = like_other n b (λ e. omega (arith, e, low)) g; serial = same_serial b d q }
        by_before (moved i z b g q l) = record { from = i; cell = b; low = omega (arith, z); high = omega (arith, z); there = like_other i b (λ e. omega (arith, e, low, z)) g; serial = same_serial b d q }
        by_before (new z h q) = absurd (omega (arith, z, lt))

      younger : (n : ℕ) (d : Cell) → 0 < n → n < k.shape.ex → Stands k row n d → c.serial < d.serial
      younger n d lt low s =
          let b = stood_below n d lt low s in
          let le = b.low in
          let f = order.falls b.from k.shape.ex b.cell c (omega (arith, le, low)) b.there stands in
          let q = b.serial in
          omega (arith, f, q)

      first_younger : FetchesRightly k (was ∷ earlier) row → (d : Cell) → Stands k row 0 d → c.serial < d.serial
      first_younger fetches d s = by_kept (stays was (front (stages_of k was))) refl where
        front_is_d : name_of (front (stages_of k row)) ≡ name_of (Some d)
        front_is_d = ap name_of (front_is (stages_of k row) (Some d) s)

        of_front : (o : Option Cell) → front (stages_of k was) ≡ o → (y : Name) → stays was o ≡ Some y → name_of (Some d) ≡ Some y → c.serial < d.serial
        of_front None q y e f = cc
        of_front (Some b) q y e f =
            let lt = order.falls 0 k.shape.ex b c ex_pos (front_there (stages_of k was) b q) stands in
            let p = named_serial d y f in
            let r = named_serial b y (stays_name b y e) in
            omega (arith, lt, p, r) where
              stays_name : (b : Cell) (y : Name) → stays was (Some b) ≡ Some y → name_of (Some b) ≡ Some y
              stays_name b y e = (stays_held was b y e).1

        by_kept : (o : Option Name) → stays was (front (stages_of k was)) ≡ o → c.serial < d.serial
        by_kept (Some y) q = of_front (front (stages_of k was)) refl y q (sym front_is_d ∙ kept y q)
        by_kept None q =
            let f = is_fetched k (was ∷ earlier) (d.serial, d.at, d.word) (sym (fetches q) ∙ front_is_d) in
            let lt = order.below k.shape.ex c stands in
            let p = f.serial in
            omega (arith, lt, p)

      older : (n : ℕ) (d : Cell) (j : ℕ) → n ≡ k.shape.rd → n < k.shape.ex → Stands k row n d → j < d.serial → is_flushed (was ∷ earlier) j ≡ false → is_retired (was ∷ earlier) j ≡ false → j ≡ c.serial
      older n d j at low s lt alive left = by_place (above_it b.from b.there) where
        near : suc n ≡ k.shape.ex
        near = let a = plain.ex_near in omega (arith, a, at, low)

        pos : 0 < n
        pos = let a = plain.rd_pos in omega (arith, a, at)

        b : StoodBelow n d
        b = stood_below n d pos low s

        left_was : is_retired earlier j ≡ false
        left_was = not_true (is_retired earlier j) (λ e. differ (is_retired (was ∷ earlier) j) (retired_step was earlier j ∙ true_or_right (retires was.retired j) (is_retired earlier j) e) left)

        lower : j < b.cell.serial
        lower = let q = b.serial in omega (arith, lt, q)

        above_it : (i : ℕ) → Stands k was i b.cell → (later : ℕ) × (e : Cell) × (i < later) × Stands k was later e × (e.serial ≡ j)
        above_it zero t = first.older b.cell j t lower (unflushed_was j alive) left_was
        above_it (suc i) t = placed.older (suc i) b.cell j (omega arith) t lower (unflushed_was j alive) left_was

        -- one that is held right below EX stays there
        not_there : (later : ℕ) (e : Cell) → suc later ≡ k.shape.ex → later ≡ n → Stands k was later e → e.serial ≡ j → ⊥
        not_there later e z same t q =
            let h = below_held later e z t in
            let there = subst (λ m. slice_get (names_of (stages_of k row)) m ≡ Some (Some (e.serial, e.at, e.word))) same
            (stays_above like (stages_of k like) (names_of (stages_of k row)) moves later e (e.serial, e.at, e.word) (let p = pos in omega (arith, p, same)) (to_like later e (λ w. omega (arith, w, z)) t) (stays_of like e h (none e.serial))) in
            let name = named_here (stages_of k row) n d (e.serial, e.at, e.word) s there in
            let p = named_serial d (e.serial, e.at, e.word) name in
            omega (arith, p, q, lt)

        by_place : (later : ℕ) × (e : Cell) × (b.from < later) × Stands k was later e × (e.serial ≡ j) → j ≡ c.serial
        by_place y = elim (cases_lt k.shape.ex y.0) [
          | inl high ↦
              let f = order.falls k.shape.ex y.0 c y.1 high stands y.3 in
              let q = y.4 in
              absurd (differ (is_retired (was ∷ earlier) j) (retired_now j (omega (arith, f, q)) alive) left)
          | inr le ↦ elim (cases_lt y.0 k.shape.ex) [
            | inl less ↦
                let r = near in
                let f = y.2 in
                let g = b.high in
                absurd (not_there y.0 y.1 (omega (arith, r, f, g, less)) (omega (arith, r, f, g, less)) y.3 y.4)
            | inr more ↦
                let same = one_cell k was y.0 k.shape.ex y.1 c (omega (arith, le, more)) y.3 stands in
                sym y.4 ∙ ap (λ (e : Cell). e.serial) same
          ]
        ]

      upper_word : (w : ℕ) → IsWordOf k (upper row ∷ was ∷ earlier) c.serial w → w ≡ c.word
      upper_word w (inr y) = one_word k (was ∷ earlier) lawful c.serial w c.word y word
      upper_word w (inl y) = by_stage (stands_down k row y.0 y.1 y.2) where
        by_stage : (0 < y.0) × Stands k row y.0 y.1 → w ≡ c.word
        by_stage t = elim (cases_lt k.shape.ex y.0) [
          | inl high ↦ absurd (none_above y.0 y.1 high t.1)
          | inr le ↦ elim (cases_lt y.0 k.shape.ex) [
            | inl less ↦ let f = younger y.0 y.1 t.0 less t.1 in let q = y.3 in absurd (omega (arith, f, q))
            | inr more ↦
                let at : y.0 ≡ k.shape.ex = omega (arith, le, more) in
                sym y.4 ∙ same_word y.1 c (at_ex y.1 (subst (λ m. Stands k row m y.1) at t.1))
          ]
        ]

      behind_cell : IsBehindCell k (was ∷ earlier) row c
      behind_cell = record {
        stands = stands;
        due = (stop, is_due);
        unflushed = unflushed;
        unretired = unretired;
        word = word;
        one_word = upper_word;
        retired = retired_now;
        written = written_now;
        lower = retired_lower;
        none_above = none_above;
        at_ex = at_ex;
        younger = younger;
        first_younger = first_younger;
        older = older;
      }

    -- the cell is gone, or stays
    of_moves : (row : Row) → is_of_cell was.stop ≡ true → MovesRightly k (was ∷ earlier) row → IsBehindCell k (was ∷ earlier) row c
    of_moves row cell m = by_like m.above.0 m.above.1 m.above.2 where
      by_like : (r : Row) → GoesOnAs k was r → MoveAbove r (stages_of k r) (names_of (stages_of k row)) → IsBehindCell k (was ∷ earlier) row c
      by_like r (inl y) moves = absurd (differ (is_of_cell was.stop) cell y.0)
      by_like r (inr (y, inl e)) moves =
          behind_cell row None (λ d q. cc) (subst (λ (r : Row). MoveAbove r (stages_of k r) (names_of (stages_of k row))) e moves) m.kept
      by_like r (inr (y, inr e)) moves =
          behind_cell row (kept_back (slice_get (stages_of k was) k.shape.ex)) (λ d q. kept_is d (sym (ap (λ o. kept_back o) stands) ∙ q))
          (subst (λ (r : Row). MoveAbove r (stages_of k r) (names_of (stages_of k row))) e moves) m.kept where
            kept_is : (d : Cell) → kept_back (Some (Some c)) ≡ Some d → (name_of (Some d) ≡ name_of (Some c)) × (is_some d.hold ≡ true)
            kept_is d q = (sym (ap name_of q), sym (ap held_of q)) where
              held_of : Option Cell → Bool
              held_of None = true
              held_of (Some e) = is_some e.hold

  -- ---- that a fetch without a word made
  module _ (row : Row) (fetch : is_of_cell was.stop ≡ false) (empty : IsEmptyAfter k was) (nothing : word_at k.image (fetch_address k (was ∷ earlier)) ≡ None) (m : MovesRightly k (was ∷ earlier) row) where
    held_gone : (n : ℕ) (b : Cell) → Stands k was n b → IsHeld was b → ⊥
    held_gone n b g h = elim (empty n b g) [
      | inl f ↦ differ (has_serial was.flushed b.serial) f h.kept
      | inr y ↦ differ (is_some b.hold) h.held (ap (λ o. is_some o) y.1)
    ]

    no_cell_above : (n : ℕ) (d : Cell) → 0 < n → Stands k row n d → ⊥
    no_cell_above n d lt s = by_like m.above.0 m.above.1 m.above.2 where
      by_before : Before k (was ∷ earlier) n d → ⊥
      by_before (held b g q h) = held_gone n b g h
      by_before (moved i z b g q l) = elim (empty i b g) [
        | inl f ↦ differ (has_serial was.flushed b.serial) f (leaves_free was b (b.serial, b.at, b.word) l).1
        | inr y ↦ let w = within k.shape.stages n row.cells d s in let top = y.0 in omega (arith, w, top, z)
      ]
      by_before (new z h q) = omega (arith, z, lt)

      by_like : (r : Row) → GoesOnAs k was r → MoveAbove r (stages_of k r) (names_of (stages_of k row)) → ⊥
      by_like r (inl y) moves = by_before (stood_above k (was ∷ earlier) row (subst (λ (r : Row). MoveAbove r (stages_of k r) (names_of (stages_of k row))) y.1 moves) n d lt s)
      by_like r (inr y) moves = differ (is_of_cell was.stop) y.0 fetch

    no_first : FetchesRightly k (was ∷ earlier) row → (d : Cell) → Stands k row 0 d → ⊥
    no_first fetches d s = by_kept (stays was (front (stages_of k was))) refl where
      of_front : (o : Option Cell) → front (stages_of k was) ≡ o → (y : Name) → stays was o ≡ Some y → ⊥
      of_front None q y e = cc
      of_front (Some b) q y e = held_gone 0 b (front_there (stages_of k was) b q) (stays_held was b y e).0

      by_kept : (o : Option Name) → stays was (front (stages_of k was)) ≡ o → ⊥
      by_kept (Some y) q = of_front (front (stages_of k was)) refl y q
      by_kept None q =
          let f = is_fetched k (was ∷ earlier) (d.serial, d.at, d.word) (sym (fetches q) ∙ ap name_of (front_is (stages_of k row) (Some d) s)) in
          no_word (word_at k.image (fetch_address k (was ∷ earlier))) nothing (ap (λ a. word_at k.image a) (sym f.address) ∙ f.word) where
            no_word : (o : Option ℕ) → o ≡ None → o ≡ Some d.word → ⊥
            no_word o a e = cc

    behind_fetch : IsBehindFetch k (was ∷ earlier) row
    behind_fetch = record { none_above = no_cell_above; none_first = no_first }

  -- ---- one of both
  only_fetch : (stop : Stop) → is_of_cell (Some stop) ≡ false → stop ≡ Fetch
  only_fetch Ecall e = cc
  only_fetch Ebreak e = cc
  only_fetch Illegal e = cc
  only_fetch Fetch e = refl
  only_fetch Misaligned e = cc
  only_fetch DataRange e = cc
  only_fetch target_stop e = cc

  of_fetch_not : (stop : Stop) → stop ≡ Fetch → is_of_cell (Some stop) ≡ true → ⊥
  of_fetch_not stop e f = differ (is_of_cell (Some stop)) f (ap (λ t. is_of_cell (Some t)) e)

  behind_row : (row : Row) (stop : Stop) → was.stop ≡ Some stop → MovesRightly k (was ∷ earlier) row → IsBehind k (was ∷ earlier) row
  behind_row row stop e m = by_cause (is_of_cell was.stop) refl (lawful.0.stops.cause stop e) where
    stop_is : is_of_cell was.stop ≡ is_of_cell (Some stop)
    stop_is = ap (λ o. is_of_cell o) e

    by_cause : (b : Bool) → is_of_cell was.stop ≡ b
        → ((stage : ℕ) × (c : Cell) × Stands k was stage c × StopsRun k earlier was stage c stop)
        ⊎ ((stop ≡ Fetch) × IsEmptyAfter k was × (outstanding k (was ∷ earlier) ≡ []) × (word_at k.image (fetch_address k (was ∷ earlier)) ≡ None)) → IsBehind k (was ∷ earlier) row
    by_cause true q (inl y) =
        let s = subst (λ n. Stands k was n y.1) y.3.executing y.2 in
        let r = subst (λ n. StopsRun k earlier was n y.1 stop) y.3.executing y.3 in
        inl (y.1, q, of_moves y.1 stop s r row q m)
    by_cause true q (inr y) = absurd (of_fetch_not stop y.0 (sym stop_is ∙ q))
    by_cause false q (inl y) = absurd (not_fetch k earlier was plain placed flushers y.0 y.1 stop y.2 y.3 (only_fetch stop (sym stop_is ∙ q)))
    by_cause false q (inr y) = inr (q, behind_fetch row q y.1 y.3 m)

some_stop : (o : Option Stop) → is_some o ≡ true → (stop : Stop) × (o ≡ Some stop)
some_stop None e = cc
some_stop (Some stop) e = (stop, refl)

-- a row that moves rightly behind a stop
pub behind : RowFacts → (k : Setting) (rows : List Row) (row : Row) → IsPlain k → Lawful (λ places. k) rows → is_some (newest rows).stop ≡ true → MovesRightly k rows row → IsBehind k rows row
behind facts k [] row plain lawful stop m = cc
behind facts k (was ∷ earlier) row plain lawful stop m = let s = some_stop was.stop stop in behind_row k was earlier plain facts lawful row s.0 s.1 m
