-- What the tests of successors tell.
use Rattle.std.proofs.Common.{◌≡◌, ◌∙◌, refl, sym, ap, subst, ℕ, suc, ◌-◌, ◌<◌, List, [], ◌∷◌, Option, Some, None, Bool, true, false, arith, inl, inr}
use Rattle.std.specs.Prelude.{Decides, ◌&&◌, ◌||◌, not, ◌==◌, if◌then◌else◌, is_some, is_none, slice_get, ◌⊎◌}
use Rattle.std.proofs.lemmas.Bool.Decides.{Decides-and, Decides-or, Decides-not, Decides-like, Decides-eqb}
use Rattle.rv_seq.specs.declared.answer.StepAnswer.{StepAnswer}
use Rattle.rv_seq.specs.declared.answer.StepAnswer.TheVariants.{Done, Stopped}
use Rattle.rv_seq.specs.declared.commit.Stop.{Stop}
use Rattle.rv_trace.specs.declared.row.Cell.{Cell}
use Rattle.rv_trace.specs.declared.row.Row.{Row}
use Rattle.rv_trace.specs.Trace.{has_serial, place}
use Rattle.rv_trace.specs.RowParts.{Name, name_of, leaves}
use Rattle.rv_lawful.specs.Settings.{Setting, stages_of, Stands}
use Rattle.rv_lawful.specs.LawfulTrace.{IsDueToStop, IsSettlingStage, successor, IsNextYounger, HasNoYounger}
use Rattle.rv_rows.specs.Facts.{IsPlain}
use Rattle.rv_rows.specs.Kinds.{is_of_cell, SettlesMarked, IsMarkedMismatch, SucceedsRightly}
use Rattle.rv_rows.proofs.Stopping.{same_cell}
use Rattle.rv_rows.specs.declared.known.Known.{Known}
use Rattle.rv_rows.specs.Known.{stop_in, IsKnown}
use Rattle.rv_marks.specs.declared.succeeding.Turn.{Turn}
use Rattle.rv_marks.specs.Marks.{cell_of, cell_at, lacks, same_serial}
use Rattle.rv_marks.specs.Turns.{late_in, in_execute, in_last, turn_if, nearest_from, all_flushed, settled_right, turn_right, is_turned, struck, flushed_by, is_open, names_it, named_by, execute_turn, last_turn, succeeds_as}
use Rattle.rv_marks.proofs.Cells.{none_some, some_inside, true_false, at_stage, left, is_itself}
use Rattle.rv_marks.proofs.Fetched.{same_serial_tells}
use Rattle.rv_marks.proofs.Younger.{get_take, within, all_tells, has_tells, HasOne, younger, none_younger, next_younger, one_younger}

is_false : (b : Bool) → (b ≡ true → ⊥) → b ≡ false
is_false true f = absurd (f refl)
is_false false f = refl

not_true : (b : Bool) → not b ≡ true → b ≡ false
not_true true e = absurd (true_false false e refl)
not_true false e = refl

-- a cell that leaves
goes : (row : Row) (o : Option Cell) → is_some (leaves row o) ≡ true → (c : Cell) × (o ≡ Some c) × (leaves row (Some c) ≡ name_of (Some c))
goes row o e = by_case (leaves row o) refl e where
  by_case : (n : Option Name) → leaves row o ≡ n → is_some n ≡ true → (c : Cell) × (o ≡ Some c) × (leaves row (Some c) ≡ name_of (Some c))
  by_case None q e = absurd (true_false false e refl)
  by_case (Some m) q e = let y = left row o m q in (y.0, y.1, y.2)

module _ (k : Setting) (earlier : List Row) (row : Row) where
  abbrev next_of : Cell → ℕ
  next_of c = successor k (row ∷ earlier) c

  abbrev Settled : ℕ → Type 0
  Settled stage = (c : Cell) × Stands k row stage c × SettlesMarked k earlier row stage c

  -- this is the turn of a stage's cell, where that settles its successor
  record IsTurn (o : Option Turn) (stage : ℕ) : Type 0 where
    settles : (t : Turn) → o ≡ Some t → (c : Cell) × Stands k row stage c × SettlesMarked k earlier row stage c × (t.stage ≡ stage) × (t.next ≡ next_of c)
    none : o ≡ None → (c : Cell) → Stands k row stage c → SettlesMarked k earlier row stage c → ⊥

  turn_is : (b : Bool) (stage next : ℕ) → Decides b (Settled stage) → ((c : Cell) → Stands k row stage c → next ≡ next_of c) → IsTurn (turn_if b stage next) stage
  turn_is true stage next d n = record {
    settles = λ t e. (
        let x = d.0 refl in
        let same = some_inside (record { stage = stage; next = next }) t e in
        (x.0, x.1, x.2, ap (λ (u : Turn). u.stage) (sym same), ap (λ (u : Turn). u.next) (sym same) ∙ n x.0 x.1)
        );
    none = λ e. absurd (none_some (record { stage = stage; next = next }) (sym e));
  }
  turn_is false stage next d n = record { settles = λ t e. absurd (none_some t e); none = λ e c s m. true_false false (d.1 (c, s, m)) refl }

  same : (stage : ℕ) (c d : Cell) → Stands k row stage c → Stands k row stage d → c ≡ d
  same stage c d s t = same_cell k row stage stage c d refl s t

  -- what one turn asks for

  abbrev TurnRight : ℕ → ℕ → Type 0
  TurnRight plain stage =
      ((c : Cell) → IsMarkedMismatch k earlier row stage c → (below : ℕ) (d : Cell) → below < stage → Stands k row below d → has_serial row.flushed d.serial ≡ true)
      × ((c : Cell) → IsMarkedMismatch k earlier row stage c → row.redirect ≡ Some (next_of c))
      × ((c : Cell) → Stands k row stage c → SettlesMarked k earlier row stage c → HasNoYounger k row stage → row.redirect ≡ (if next_of c == plain then None else Some (next_of c)))

  abbrev StruckAt : ℕ → ℕ → Type 0
  StruckAt stage s = (c : Cell) × (below : ℕ) × (d : Cell) × IsMarkedMismatch k earlier row stage c × (below < stage) × Stands k row below d × (d.serial ≡ s)

  abbrev NamesAt : ℕ → ℕ → Type 0
  NamesAt stage a = (c : Cell) × Stands k row stage c × SettlesMarked k earlier row stage c × (next_of c ≡ a) × (IsMarkedMismatch k earlier row stage c ⊎ HasNoYounger k row stage)

  -- a cell that settles its successor
  module _ (stage next : ℕ) (c : Cell) (stands : Stands k row stage c) (settles : SettlesMarked k earlier row stage c) (is : next ≡ next_of c) where
    abbrev below_it : List (Option Cell)
    below_it = younger k row stage

    abbrev nearest : Option Cell
    nearest = nearest_from None below_it

    abbrev turn : Turn
    turn = record { stage = stage; next = next }

    next_is : (d : Cell) → Stands k row stage d → next ≡ next_of d
    next_is d s = is ∙ ap next_of (same stage c d stands s)

    mismatch : (d : Cell) (below : ℕ) → IsNextYounger k row stage below d → (d.at ≡ next → ⊥) → IsMarkedMismatch k earlier row stage c
    mismatch d below y f = record { stands = stands; settles = settles; differs = (below, d, y, λ e. f (e ∙ sym is)) }

    no_mismatch : (d b : Cell) (below : ℕ) → IsNextYounger k row stage below d → IsMarkedMismatch k earlier row stage b → d.at ≡ next → ⊥
    no_mismatch d b below y m e =
        let x = m.differs in
        x.3 (ap (λ (z : Cell). z.at) (one_younger k row stage x.0 below x.1 d x.2 y) ∙ e ∙ next_is b m.stands)

    none_mismatch : (b : Cell) → HasNoYounger k row stage → IsMarkedMismatch k earlier row stage b → ⊥
    none_mismatch b barren m = let x = m.differs in barren x.0 x.1 x.2.lower x.2.stands

    right_tells : (plain : ℕ) → Decides (settled_right turn plain row below_it nearest) (TurnRight plain stage)
    right_tells plain = by_case nearest refl where
      alone : nearest ≡ None → row.redirect ≡ (if next == plain then None else Some next) → TurnRight plain stage
      alone q e =
          let barren = none_younger k row stage q in (
            λ b m. absurd (none_mismatch b barren m),
            λ b m. absurd (none_mismatch b barren m),
            λ b s t h. subst (λ n. row.redirect ≡ (if n == plain then None else Some n)) (next_is b s) e,
          )

      of_alone : nearest ≡ None → TurnRight plain stage → row.redirect ≡ (if next == plain then None else Some next)
      of_alone q h = subst (λ n. row.redirect ≡ (if n == plain then None else Some n)) (sym is) (h.2 c stands settles (none_younger k row stage q))

      first : (d : Cell) (below : ℕ) → IsNextYounger k row stage below d → d.at ≡ next → TurnRight plain stage
      first d below y e = (
        λ b m. absurd (no_mismatch d b below y m e),
        λ b m. absurd (no_mismatch d b below y m e),
        λ b s t h. absurd (h below d y.lower y.stands),
      )

      second : (d : Cell) (below : ℕ) → IsNextYounger k row stage below d → ((n : ℕ) (e : Cell) → slice_get below_it n ≡ Some (Some e) → has_serial row.flushed e.serial ≡ true) → row.redirect ≡ Some next → TurnRight plain stage
      second d below y all e = (
        λ b m n x lt s. all n x (get_take stage n (stages_of k row) lt ∙ s),
        λ b m. e ∙ ap (λ n. Some n) (next_is b m.stands),
        λ b s t h. absurd (h below d y.lower y.stands),
      )

      split : (d : Cell) (below : ℕ) → IsNextYounger k row stage below d → TurnRight plain stage → (b : Bool) → (d.at == next) ≡ b
          → (d.at ≡ next) ⊎ (((n : ℕ) (e : Cell) → slice_get below_it n ≡ Some (Some e) → has_serial row.flushed e.serial ≡ true) × (row.redirect ≡ Some next))
      split d below y h true q = inl ((Decides-eqb d.at next).0 q)
      split d below y h false q =
          let m = mismatch d below y (λ e. true_false (d.at == next) ((Decides-eqb d.at next).1 e) q) in
          inr (λ n e s. (let w = within stage n (stages_of k row) e s in h.0 c m n e w.0 w.1), h.1 c m ∙ ap (λ n. Some n) (sym is))

      by_case : (o : Option Cell) → nearest ≡ o → Decides (settled_right turn plain row below_it o) (TurnRight plain stage)
      by_case None q = Decides-like (same_serial row.redirect (if next == plain then None else Some next)) (alone q) (of_alone q) (same_serial_tells row.redirect (if next == plain then None else Some next))
      by_case (Some d) q =
          let y = next_younger k row stage d q in
          Decides-like ((d.at == next) || (all_flushed row below_it && same_serial row.redirect (Some next)))
          (λ x. elim x [ inl e ↦ first d y.0 y.1 e | inr z ↦ second d y.0 y.1 z.0 z.1 ])
          (λ h. split d y.0 y.1 h (d.at == next) refl)
          (Decides-or (d.at == next) (all_flushed row below_it && same_serial row.redirect (Some next)) (Decides-eqb d.at next)
          (Decides-and (all_flushed row below_it) (same_serial row.redirect (Some next)) (all_tells row below_it) (same_serial_tells row.redirect (Some next))))

    turned_tells : Decides (is_turned nearest next) ((b : Cell) × IsMarkedMismatch k earlier row stage b)
    turned_tells = by_case nearest refl where
      by_case : (o : Option Cell) → nearest ≡ o → Decides (is_turned o next) ((b : Cell) × IsMarkedMismatch k earlier row stage b)
      by_case None q = (λ e. absurd (true_false false e refl), λ m. absurd (none_mismatch m.0 (none_younger k row stage q) m.1))
      by_case (Some d) q =
          let y = next_younger k row stage d q in
          Decides-like (not (d.at == next)) (λ f. (c, mismatch d y.0 y.1 f)) (λ m e. no_mismatch d m.0 y.0 y.1 m.1 e) (Decides-not (d.at == next) (Decides-eqb d.at next))

    struck_tells : (s : ℕ) → Decides (is_turned nearest next && not (lacks s below_it)) (StruckAt stage s)
    struck_tells s =
        Decides-like (is_turned nearest next && not (lacks s below_it)) to from
        (Decides-and (is_turned nearest next) (not (lacks s below_it)) turned_tells (has_tells s below_it)) where
          to : ((b : Cell) × IsMarkedMismatch k earlier row stage b) × HasOne s below_it → StruckAt stage s
          to h =
              let m = h.0 in
              let x = h.1 in
              let w = within stage x.0 (stages_of k row) x.1 x.2 in
              (m.0, x.0, x.1, m.1, w.0, w.1, x.3)

          from : StruckAt stage s → ((b : Cell) × IsMarkedMismatch k earlier row stage b) × HasOne s below_it
          from h = ((h.0, h.3), (h.1, h.2, get_take stage h.1 (stages_of k row) h.4 ∙ h.5, h.6))

    open_tells : Decides (is_open nearest next) (IsMarkedMismatch k earlier row stage c ⊎ HasNoYounger k row stage)
    open_tells = by_case nearest refl where
      by_case : (o : Option Cell) → nearest ≡ o → Decides (is_open o next) (IsMarkedMismatch k earlier row stage c ⊎ HasNoYounger k row stage)
      by_case None q = (λ x. inr (none_younger k row stage q), λ x. refl)
      by_case (Some d) q =
          let y = next_younger k row stage d q in
          Decides-like (not (d.at == next)) (λ f. inl (mismatch d y.0 y.1 f))
          (λ h e. elim h [ inl m ↦ no_mismatch d c y.0 y.1 m e | inr barren ↦ barren y.0 d y.1.lower y.1.stands ])
          (Decides-not (d.at == next) (Decides-eqb d.at next))

    names_tells : (a : ℕ) → Decides ((next == a) && is_open nearest next) (NamesAt stage a)
    names_tells a =
        Decides-like ((next == a) && is_open nearest next) (λ h. (c, stands, settles, sym is ∙ h.0, h.1)) from
        (Decides-and (next == a) (is_open nearest next) (Decides-eqb next a) open_tells) where
          from : NamesAt stage a → (next ≡ a) × (IsMarkedMismatch k earlier row stage c ⊎ HasNoYounger k row stage)
          from h = (next_is h.0 h.1 ∙ h.3, elim h.4 [ inl m ↦ inl (subst (λ b. IsMarkedMismatch k earlier row stage b) (same stage h.0 c h.1 stands) m) | inr barren ↦ inr barren ])

  -- a turn that may not be there

  module _ (stage : ℕ) where
    turn_tells : (o : Option Turn) → IsTurn o stage → (plain : ℕ) → Decides (turn_right o plain row (stages_of k row)) (TurnRight plain stage)
    turn_tells None i plain = (λ x. (λ c m. absurd (i.none refl c m.stands m.settles), λ c m. absurd (i.none refl c m.stands m.settles), λ c s t. absurd (i.none refl c s t)), λ x. refl)
    turn_tells (Some t) i plain =
        let x = i.settles t refl in
        subst (λ n. Decides (turn_right (Some t) plain row (stages_of k row)) (TurnRight plain n)) x.3
        (right_tells t.stage t.next x.0 (subst (λ n. Stands k row n x.0) (sym x.3) x.1) (subst (λ n. SettlesMarked k earlier row n x.0) (sym x.3) x.2) x.4 plain)

    turn_strikes : (o : Option Turn) → IsTurn o stage → (s : ℕ) → Decides (struck o (stages_of k row) s) (StruckAt stage s)
    turn_strikes None i s = (λ e. absurd (true_false false e refl), λ h. absurd (i.none refl h.0 h.3.stands h.3.settles))
    turn_strikes (Some t) i s =
        let x = i.settles t refl in
        subst (λ n. Decides (struck (Some t) (stages_of k row) s) (StruckAt n s)) x.3
        (struck_tells t.stage t.next x.0 (subst (λ n. Stands k row n x.0) (sym x.3) x.1) (subst (λ n. SettlesMarked k earlier row n x.0) (sym x.3) x.2) x.4 s)

    turn_names : (o : Option Turn) → IsTurn o stage → (a : ℕ) → Decides (names_it o (stages_of k row) a) (NamesAt stage a)
    turn_names None i a = (λ e. absurd (true_false false e refl), λ h. absurd (i.none refl h.0 h.1 h.2))
    turn_names (Some t) i a =
        let x = i.settles t refl in
        subst (λ n. Decides (names_it (Some t) (stages_of k row) a) (NamesAt n a)) x.3
        (names_tells t.stage t.next x.0 (subst (λ n. Stands k row n x.0) (sym x.3) x.1) (subst (λ n. SettlesMarked k earlier row n x.0) (sym x.3) x.2) x.4 a)

  -- each flushed serial

  each_flushed : (e l : Option Turn) (at later : ℕ) → IsTurn e at → IsTurn l later → (serials : List (Option ℕ))
      → Decides (flushed_by e l (stages_of k row) serials) ((s : ℕ) → has_serial serials s ≡ true → StruckAt at s ⊎ StruckAt later s)
  each_flushed e l at later i j [] = (λ x s h. absurd (true_false false h refl), λ x. refl)
  each_flushed e l at later i j (None ∷ rest) = each_flushed e l at later i j rest
  each_flushed e l at later i j (Some u ∷ rest) =
      Decides-like ((struck e (stages_of k row) u || struck l (stages_of k row) u) && flushed_by e l (stages_of k row) rest) to from
      (Decides-and (struck e (stages_of k row) u || struck l (stages_of k row) u) (flushed_by e l (stages_of k row) rest)
      (Decides-or (struck e (stages_of k row) u) (struck l (stages_of k row) u) (turn_strikes at e i u) (turn_strikes later l j u)) (each_flushed e l at later i j rest)) where
        to : (StruckAt at u ⊎ StruckAt later u) × ((s : ℕ) → has_serial rest s ≡ true → StruckAt at s ⊎ StruckAt later s) → (s : ℕ) → has_serial (Some u ∷ rest) s ≡ true → StruckAt at s ⊎ StruckAt later s
        to h s q = by_case (u == s) refl q where
          by_case : (b : Bool) → (u == s) ≡ b → (b || has_serial rest s) ≡ true → StruckAt at s ⊎ StruckAt later s
          by_case true r q = subst (λ n. StruckAt at n ⊎ StruckAt later n) ((Decides-eqb u s).0 r) h.0
          by_case false r q = h.1 s q

        or_right : (a b : Bool) → b ≡ true → (a || b) ≡ true
        or_right true b q = refl
        or_right false b q = q

        or_left : (a b : Bool) → a ≡ true → (a || b) ≡ true
        or_left true b q = refl
        or_left false b q = absurd (true_false false q refl)

        from : ((s : ℕ) → has_serial (Some u ∷ rest) s ≡ true → StruckAt at s ⊎ StruckAt later s) → (StruckAt at u ⊎ StruckAt later u) × ((s : ℕ) → has_serial rest s ≡ true → StruckAt at s ⊎ StruckAt later s)
        from f = (f u (or_left (u == u) (has_serial rest u) ((Decides-eqb u u).1 refl)), λ s q. f s (or_right (u == s) (has_serial rest s) q))

  each_named : (e l : Option Turn) (at later : ℕ) → IsTurn e at → IsTurn l later → (o : Option ℕ) → Decides (named_by e l (stages_of k row) o) ((a : ℕ) → o ≡ Some a → NamesAt at a ⊎ NamesAt later a)
  each_named e l at later i j None = (λ x a q. absurd (none_some a q), λ x. refl)
  each_named e l at later i j (Some b) =
      Decides-like (names_it e (stages_of k row) b || names_it l (stages_of k row) b) (λ h a q. subst (λ n. NamesAt at n ⊎ NamesAt later n) (some_inside b a q) h) (λ f. f b refl)
      (Decides-or (names_it e (stages_of k row) b) (names_it l (stages_of k row) b) (turn_names at e i b) (turn_names later l j b))

-- the turns of a row

module _ (k : Setting) (earlier : List Row) (row : Row) (known : Known) (plain : IsPlain k) (is : IsKnown k earlier row known) where
  abbrev ex : ℕ
  ex = k.shape.ex

  abbrev last : ℕ
  last = k.shape.stages - 1

  last_is : suc last ≡ k.shape.stages
  last_is = let a = plain.mem_last in omega (arith, a)

  ex_low : suc ex < k.shape.stages
  ex_low = let a = plain.mem_last in let b = plain.ex_mem in omega (arith, a, b)

  late_is : (stage : ℕ) (c : Cell) → Stands k row stage c → late_in (slice_get known.asks stage) ≡ (k.asks c.word).late
  late_is stage c s = ap late_in (is.asks stage c s)

  settling_ex : (b : Bool) → b ≡ false → IsSettlingStage k b ex
  settling_ex true e = absurd (true_false true refl e)
  settling_ex false e = refl

  ex_settling : (b : Bool) → IsSettlingStage k b ex → b ≡ false
  ex_settling true e = let a = ex_low in absurd (omega (arith, a, e))
  ex_settling false e = refl

  settling_last : (b : Bool) → b ≡ true → IsSettlingStage k b last
  settling_last true e = last_is
  settling_last false e = absurd (true_false false e refl)

  last_settling : (b : Bool) → IsSettlingStage k b last → b ≡ true
  last_settling true e = refl
  last_settling false e = let a = ex_low in let b = last_is in absurd (omega (arith, a, b, e))

  one_of : (b : Bool) (stage : ℕ) → IsSettlingStage k b stage → (stage ≡ ex) ⊎ (stage ≡ last)
  one_of true stage e = let a = last_is in inr (omega (arith, a, e))
  one_of false stage e = inl e

  stop_is : (c : Cell) → Stands k row ex c → is_none known.stop ≡ true → (stop : Stop) → IsDueToStop k (row ∷ earlier) c stop → ⊥
  stop_is c s e stop due = bad known.stop e (is.stop c s ∙ ap stop_in due) where
    bad : (o : Option Stop) → is_none o ≡ true → o ≡ Some stop → ⊥
    bad None e q = none_some stop q
    bad (Some t) e q = true_false false e refl

  no_stop : (c : Cell) → Stands k row ex c → ((stop : Stop) → IsDueToStop k (row ∷ earlier) c stop → ⊥) → is_none known.stop ≡ true
  no_stop c s f = ap is_none (is.stop c s) ∙ by_case (k.course.answer (place (row ∷ earlier) c.serial)) refl where
    by_case : (a : StepAnswer) → k.course.answer (place (row ∷ earlier) c.serial) ≡ a → is_none (stop_in a) ≡ true
    by_case (Done commit) q = refl
    by_case (Stopped stop) q = absurd (f stop q)

  leaves_is : (o : Option Cell) (c : Cell) → o ≡ Some c → leaves row (Some c) ≡ name_of (Some c) → is_some (leaves row o) ≡ true
  leaves_is o c e q = ap (λ x. is_some (leaves row x)) e ∙ ap is_some q

  abbrev goes_test : Bool
  goes_test = is_some (leaves row (cell_at k.shape row ex))

  abbrev late_test : Bool
  late_test = late_in (slice_get known.asks ex)

  execute_tells : Decides (in_execute k.shape known row) (Settled k earlier row ex)
  execute_tells =
      Decides-like (((goes_test && not late_test) && not (is_of_cell row.stop)) && is_none known.stop) to from
      (Decides-and ((goes_test && not late_test) && not (is_of_cell row.stop)) (is_none known.stop)
      (Decides-and (goes_test && not late_test) (not (is_of_cell row.stop)) (Decides-and goes_test (not late_test) (is_itself goes_test) (is_itself (not late_test))) (is_itself (not (is_of_cell row.stop))))
      (is_itself (is_none known.stop))) where
        to : (((goes_test ≡ true) × (not late_test ≡ true)) × (not (is_of_cell row.stop) ≡ true)) × (is_none known.stop ≡ true) → Settled k earlier row ex
        to h =
            let three = h.0 in
            let two = three.0 in
            let x = goes row (cell_at k.shape row ex) two.0 in
            let s = at_stage (slice_get (stages_of k row) ex) x.0 x.1 in (
              x.0,
              s,
              record {
                settling = settling_ex (k.asks x.0.word).late (sym (late_is ex x.0 s) ∙ not_true late_test two.1);
                leaves = x.2;
                unstopped = λ m. true_false (is_of_cell row.stop) m.1 (not_true (is_of_cell row.stop) three.1);
                runs = λ e stop due. stop_is x.0 s h.1 stop due;
              },
            )

        from : Settled k earlier row ex → (((goes_test ≡ true) × (not late_test ≡ true)) × (not (is_of_cell row.stop) ≡ true)) × (is_none known.stop ≡ true)
        from x =
            let m = x.2 in (
              (
                (leaves_is (cell_at k.shape row ex) x.0 (ap cell_of x.1) m.leaves, ap not (late_is ex x.0 x.1 ∙ ex_settling (k.asks x.0.word).late m.settling)),
                ap not (is_false (is_of_cell row.stop) (λ e. m.unstopped (refl, e))),
              ),
              no_stop x.0 x.1 (λ stop due. m.runs refl stop due),
            )

  abbrev last_goes : Bool
  last_goes = is_some (leaves row (cell_at k.shape row last))

  abbrev last_late : Bool
  last_late = late_in (slice_get known.asks last)

  last_tells : Decides (in_last k.shape known row) (Settled k earlier row last)
  last_tells = Decides-like (last_goes && last_late) to from (Decides-and last_goes last_late (is_itself last_goes) (is_itself last_late)) where
    to : (last_goes ≡ true) × (last_late ≡ true) → Settled k earlier row last
    to h =
        let x = goes row (cell_at k.shape row last) h.0 in
        let s = at_stage (slice_get (stages_of k row) last) x.0 x.1 in (
          x.0,
          s,
          record {
            settling = settling_last (k.asks x.0.word).late (sym (late_is last x.0 s) ∙ h.1);
            leaves = x.2;
            unstopped = λ m. (let e = m.0 in let a = ex_low in let b = last_is in omega (arith, e, a, b));
            runs = λ e stop due. (let a = ex_low in let b = last_is in absurd (omega (arith, e, a, b)));
          },
        )

    from : Settled k earlier row last → (last_goes ≡ true) × (last_late ≡ true)
    from x = let m = x.2 in (leaves_is (cell_at k.shape row last) x.0 (ap cell_of x.1) m.leaves, late_is last x.0 x.1 ∙ last_settling (k.asks x.0.word).late m.settling)

  abbrev e : Option Turn
  e = execute_turn k.shape known row

  abbrev l : Option Turn
  l = last_turn k.shape known row

  e_is : IsTurn k earlier row e ex
  e_is = turn_is k earlier row (in_execute k.shape known row) ex known.behind_execute execute_tells is.behind_execute

  l_is : IsTurn k earlier row l last
  l_is = turn_is k earlier row (in_last k.shape known row) last known.behind_last last_tells (λ c s. is.behind_last last c last_is s)

  abbrev Right : ℕ → Type 0
  Right stage = TurnRight k earlier row known.plain stage

  abbrev Only : Type 0
  Only = (s : ℕ) → has_serial row.flushed s ≡ true → StruckAt k earlier row ex s ⊎ StruckAt k earlier row last s

  abbrev Named : Type 0
  Named = (a : ℕ) → row.redirect ≡ Some a → NamesAt k earlier row ex a ⊎ NamesAt k earlier row last a

  at_stages : (P : ℕ → Type 0) → P ex → P last → (stage : ℕ) (c : Cell) → SettlesMarked k earlier row stage c → P stage
  at_stages P p q stage c m = elim (one_of (k.asks c.word).late stage m.settling) [ inl x ↦ subst P (sym x) p | inr y ↦ subst P (sym y) q ]

  to_all : ((Right ex × Right last) × Only) × Named → SucceedsRightly k earlier row
  to_all h =
      let three = h.0 in
      let two = three.0 in
      let right : (stage : ℕ) (c : Cell) → SettlesMarked k earlier row stage c → Right stage = at_stages Right two.0 two.1 in
      record {
        flushes = λ stage c m. (right stage c m.settles).0 c m;
        named = λ stage c m. (right stage c m.settles).1 c m;
        alone = λ stage c s t n. (right stage c t).2 c s t n ∙ ap (λ p. if successor k (row ∷ earlier) c == p then None else Some (successor k (row ∷ earlier) c)) is.plain;
        flushed_only = λ s q. elim (three.1 s q) [ inl x ↦ (ex, x.0, x.1, x.2, x.3, x.4, x.5, x.6) | inr x ↦ (last, x.0, x.1, x.2, x.3, x.4, x.5, x.6) ];
        named_only = λ a q. elim (h.1 a q) [ inl x ↦ (ex, x.0, x.1, x.2, x.3, x.4) | inr x ↦ (last, x.0, x.1, x.2, x.3, x.4) ];
      }

  of_all : SucceedsRightly k earlier row → ((Right ex × Right last) × Only) × Named
  of_all m = (((right ex, right last), only), named) where
    right : (stage : ℕ) → Right stage
    right stage = (
      m.flushes stage,
      m.named stage,
      λ c s t n. m.alone stage c s t n ∙ ap (λ p. if successor k (row ∷ earlier) c == p then None else Some (successor k (row ∷ earlier) c)) (sym is.plain),
    )

    only : Only
    only s q =
        let x = m.flushed_only s q in
        elim (one_of (k.asks x.1.word).late x.0 x.4.settles.settling) [
          | inl y ↦ inl (subst (λ n. StruckAt k earlier row n s) y (x.1, x.2, x.3, x.4, x.5, x.6, x.7))
          | inr y ↦ inr (subst (λ n. StruckAt k earlier row n s) y (x.1, x.2, x.3, x.4, x.5, x.6, x.7))
        ]

    named : Named
    named a q =
        let x = m.named_only a q in
        elim (one_of (k.asks x.1.word).late x.0 x.3.settling) [
          | inl y ↦ inl (subst (λ n. NamesAt k earlier row n a) y (x.1, x.2, x.3, x.4, x.5))
          | inr y ↦ inr (subst (λ n. NamesAt k earlier row n a) y (x.1, x.2, x.3, x.4, x.5))
        ]

  abbrev e_test : Bool
  e_test = turn_right e known.plain row (stages_of k row)

  abbrev l_test : Bool
  l_test = turn_right l known.plain row (stages_of k row)

  abbrev flushed_test : Bool
  flushed_test = flushed_by e l (stages_of k row) row.flushed

  abbrev named_test : Bool
  named_test = named_by e l (stages_of k row) row.redirect

  pub succeeds_tell : Decides (succeeds_as k.shape known row) (SucceedsRightly k earlier row)
  succeeds_tell =
      Decides-like (succeeds_as k.shape known row) to_all of_all
      (Decides-and ((e_test && l_test) && flushed_test) named_test
      (Decides-and (e_test && l_test) flushed_test
      (Decides-and e_test l_test (turn_tells k earlier row ex e e_is known.plain) (turn_tells k earlier row last l l_is known.plain))
      (each_flushed k earlier row e l ex last e_is l_is row.flushed))
      (each_named k earlier row e l ex last e_is l_is row.redirect))
