-- What the tests of moves tell.
use Rattle.std.proofs.Common.{◌≡◌, ◌∙◌, refl, sym, ap, subst, ℕ, zero, suc, ◌-◌, ◌<◌, List, [], ◌∷◌, take, Option, Some, None, Bool, true, false, arith, inl, inr}
use Rattle.std.specs.Prelude.{Decides, ◌&&◌, ◌||◌, not, ◌==◌, if◌then◌else◌, is_some, is_none, slice_get, ◌⊎◌}
use Rattle.std.proofs.lemmas.Bool.Decides.{Decides-and, Decides-or, Decides-like, Decides-eqb}
use Rattle.rv_seq.specs.declared.commit.Commit.{Commit}
use Rattle.rv_trace.specs.declared.row.Cell.{Cell}
use Rattle.rv_trace.specs.declared.row.Row.{Row}
use Rattle.rv_trace.specs.declared.row.Hold.{Hold}
use Rattle.rv_trace.specs.Trace.{has_serial, newest}
use Rattle.rv_trace.specs.RowParts.{Name, name_of, names_of, stays, leaves, front, InStage, MovesInto}
use Rattle.rv_lawful.specs.Settings.{Setting, stages_of, Stands}
use Rattle.rv_lawful.specs.LawfulTrace.{Retires}
use Rattle.rv_rows.specs.Facts.{IsPlain, MoveAbove}
use Rattle.rv_rows.specs.Kinds.{is_of_cell, IsStopped, with_cell, kept_back, with_execute, GoesOnAs, DoesOne, MovesRightly}
use Rattle.rv_marks.specs.Marks.{same_name, cell_of, cells_in, cell_at, in_stage, moved_into, moved_above, moved_with, moved_on, has_kept, lacks, lacks_moved, is_new, flushed_free, is_bare, stops_bare, retired_as, moves_as}
use Rattle.rv_marks.proofs.Cells.{none_some, some_inside, true_false, at_stage, in_front, front_is, same_name_tells, same_stays, same_leaves, left, implied, is_itself, lacks_tells}

-- above stage 0

in_stage_tells : (s c n : Option Name) → Decides (in_stage s c n) (InStage s c n)
in_stage_tells None c n = same_name_tells n c
in_stage_tells (Some s) None n = same_name_tells n (Some s)
in_stage_tells (Some s) (Some m) n = (λ e. true_false false e refl, λ x. absurd x)

into_tells : (row like : Row) → like.flushed ≡ row.flushed → (came : Option Name) (was now : List (Option Cell)) → Decides (moved_into row came was now) (MovesInto like came was (names_of now))
into_tells row like e came [] [] = (λ x. tt, λ x. refl)
into_tells row like e came [] (n ∷ now) = (λ x. true_false false x refl, λ x. absurd x)
into_tells row like e came (w ∷ was) [] = (λ x. true_false false x refl, λ x. absurd x)
into_tells row like e came (w ∷ was) (n ∷ now) =
    Decides-and (in_stage (stays row w) came (name_of n)) (moved_into row (leaves row w) was now)
    (subst (λ s. Decides (in_stage (stays row w) came (name_of n)) (InStage s came (name_of n))) (sym (same_stays row like e w)) (in_stage_tells (stays row w) came (name_of n)))
    (subst (λ s. Decides (moved_into row (leaves row w) was now) (MovesInto like s was (names_of now))) (sym (same_leaves row like e w)) (into_tells row like e (leaves row w) was now))

move_tells : (row like : Row) → like.flushed ≡ row.flushed → (was now : List (Option Cell)) → Decides (moved_above row was now) (MoveAbove like was (names_of now))
move_tells row like e [] [] = (λ x. tt, λ x. refl)
move_tells row like e [] (n ∷ now) = (λ x. true_false false x refl, λ x. absurd x)
move_tells row like e (w ∷ was) [] = (λ x. true_false false x refl, λ x. absurd x)
move_tells row like e (w ∷ was) (n ∷ now) =
    subst (λ s. Decides (moved_into row (leaves row w) was now) (MovesInto like s was (names_of now))) (sym (same_leaves row like e w)) (into_tells row like e (leaves row w) was now)

kept_same : (o : Option (Option Cell)) → kept_back (Some (cell_of o)) ≡ kept_back o
kept_same None = refl
kept_same (Some c) = refl

module _ (k : Setting) (before row : Row) where
  abbrev Above : Row → Type 0
  Above like = MoveAbove like (stages_of k like) (names_of (stages_of k row))

  abbrev kept : Option Cell
  kept = kept_back (slice_get (stages_of k before) k.shape.ex)

  with_tells : (c : Option Cell) → Decides (moved_with k.shape c before row) (Above (with_execute k c before))
  with_tells c = move_tells before (with_execute k c before) refl (take k.shape.stages (with_cell k.shape.ex c before.cells)) (stages_of k row)

  kept_tells : Decides (moved_with k.shape (kept_back (Some (cell_at k.shape before k.shape.ex))) before row) (Above (with_execute k kept before))
  kept_tells = subst (λ c. Decides (moved_with k.shape c before row) (Above (with_execute k kept before))) (sym (kept_same (slice_get (stages_of k before) k.shape.ex))) (with_tells kept)

  pub above_tells : Decides (moved_on k.shape before row) ((like : Row) × GoesOnAs k before like × Above like)
  above_tells = by_case (is_of_cell before.stop) refl where
    plain : is_of_cell before.stop ≡ false → (like : Row) → GoesOnAs k before like → Above like → Above before
    plain q like (inl x) m = subst Above x.1 m
    plain q like (inr y) m = absurd (true_false (is_of_cell before.stop) y.0 q)

    behind : is_of_cell before.stop ≡ true → (like : Row) → GoesOnAs k before like → Above like → Above (with_execute k None before) ⊎ Above (with_execute k kept before)
    behind q like (inl x) m = absurd (true_false (is_of_cell before.stop) q x.0)
    behind q like (inr y) m = elim y.1 [ inl e ↦ inl (subst Above e m) | inr e ↦ inr (subst Above e m) ]

    either : is_of_cell before.stop ≡ true → Above (with_execute k None before) ⊎ Above (with_execute k kept before) → (like : Row) × GoesOnAs k before like × Above like
    either q (inl m) = (with_execute k None before, inr (q, inl refl), m)
    either q (inr m) = (with_execute k kept before, inr (q, inr refl), m)

    by_case : (b : Bool) → is_of_cell before.stop ≡ b
        → Decides (if b then moved_with k.shape None before row || moved_with k.shape (kept_back (Some (cell_at k.shape before k.shape.ex))) before row else moved_above before (cells_in k.shape before) (cells_in k.shape row))
        ((like : Row) × GoesOnAs k before like × Above like)
    by_case true q =
        Decides-like (moved_with k.shape None before row || moved_with k.shape (kept_back (Some (cell_at k.shape before k.shape.ex))) before row) (either q) (λ x. behind q x.0 x.1 x.2)
        (Decides-or (moved_with k.shape None before row) (moved_with k.shape (kept_back (Some (cell_at k.shape before k.shape.ex))) before row) (with_tells None) kept_tells)
    by_case false q =
        Decides-like (moved_above before (cells_in k.shape before) (cells_in k.shape row)) (λ m. (before, inl (q, refl), m)) (λ x. plain q x.0 x.1 x.2)
        (move_tells before before refl (cells_in k.shape before) (cells_in k.shape row))

-- stage 0

has_kept_tells : (o now : Option Name) → Decides (has_kept o now) ((n : Name) → o ≡ Some n → now ≡ Some n)
has_kept_tells None now = (λ x n e. absurd (none_some n e), λ x. refl)
has_kept_tells (Some n) now = Decides-like (same_name now (Some n)) (λ e m q. e ∙ q) (λ f. f n refl) (same_name_tells now (Some n))

abbrev StaysFirst : Row → ℕ → List (Option Cell) → Type 0
StaysFirst row s was = (stage : ℕ) (d : Cell) → slice_get was stage ≡ Some (Some d) → d.serial ≡ s → (stage ≡ 0) × (is_some (stays row (Some d)) ≡ true)

abbrev Lacks : ℕ → List (Option Cell) → Type 0
Lacks s cells = (stage : ℕ) (d : Cell) → slice_get cells stage ≡ Some (Some d) → d.serial ≡ s → ⊥

moved_tells : (row : Row) (s : ℕ) (was : List (Option Cell)) → Decides (lacks_moved row s was) (StaysFirst row s was)
moved_tells row s [] = (λ x stage d e q. absurd (none_some (Some d) e), λ x. refl)
moved_tells row s (w ∷ rest) =
    Decides-like ((is_some (stays row w) || lacks s (w ∷ [])) && lacks s rest) more fewer
    (Decides-and (is_some (stays row w) || lacks s (w ∷ [])) (lacks s rest) (Decides-or (is_some (stays row w)) (lacks s (w ∷ [])) (is_itself (is_some (stays row w))) (lacks_tells s (w ∷ []))) (lacks_tells s rest)) where
      more : ((is_some (stays row w) ≡ true) ⊎ Lacks s (w ∷ [])) × Lacks s rest → StaysFirst row s (w ∷ rest)
      more h zero d e q = elim h.0 [ inl x ↦ (refl, subst (λ o. is_some (stays row o) ≡ true) (some_inside w (Some d) e) x) | inr y ↦ absurd (y 0 d e q) ]
      more h (suc stage) d e q = absurd (h.1 stage d e q)

      alone : StaysFirst row s (w ∷ rest) → is_some (stays row w) ≡ false → Lacks s (w ∷ [])
      alone f b zero d e q = true_false (is_some (stays row w)) (subst (λ o. is_some (stays row o) ≡ true) (sym (some_inside w (Some d) e)) (f 0 d e q).1) b
      alone f b (suc stage) d e q = none_some (Some d) e

      first : StaysFirst row s (w ∷ rest) → (b : Bool) → is_some (stays row w) ≡ b → (is_some (stays row w) ≡ true) ⊎ Lacks s (w ∷ [])
      first f true b = inl b
      first f false b = inr (alone f b)

      fewer : StaysFirst row s (w ∷ rest) → ((is_some (stays row w) ≡ true) ⊎ Lacks s (w ∷ [])) × Lacks s rest
      fewer f = (first f (is_some (stays row w)) refl, λ stage d e q. (let x = (f (suc stage) d e q).0 in omega (arith, x)))

abbrev ComesNew : Row → Option Cell → List (Option Cell) → Type 0
ComesNew row first was = (stage : ℕ) (c d : Cell) → first ≡ Some c → slice_get was stage ≡ Some (Some d) → d.serial ≡ c.serial → (stage ≡ 0) × (is_some (stays row (Some d)) ≡ true)

new_tells : (row : Row) (first : Option Cell) (was : List (Option Cell)) → Decides (is_new row first was) (ComesNew row first was)
new_tells row None was = (λ x stage c d e. absurd (none_some c e), λ x. refl)
new_tells row (Some c) was =
    Decides-like (lacks_moved row c.serial was) (λ f stage b d e s q. f stage d s (q ∙ sym (ap (λ (x : Cell). x.serial) (some_inside c b e)))) (λ f stage d s q. f stage c d refl s q) (moved_tells row c.serial was)

-- one thing

cell_free : (h : Option Hold) (b : Bool) → Decides (is_none h || not b) (b ≡ true → h ≡ None)
cell_free None b = (λ x y. refl, λ x. refl)
cell_free (Some h) true = (λ e. absurd (true_false false e refl), λ f. absurd (none_some h (sym (f refl))))
cell_free (Some h) false = (λ e x. absurd (true_false false x refl), λ x. refl)

abbrev FlushedFree : Row → List (Option Cell) → Type 0
FlushedFree row cells = (stage : ℕ) (c : Cell) → slice_get cells stage ≡ Some (Some c) → has_serial row.flushed c.serial ≡ true → c.hold ≡ None

flushed_tells : (row : Row) (cells : List (Option Cell)) → Decides (flushed_free row cells) (FlushedFree row cells)
flushed_tells row [] = (λ x stage c e. absurd (none_some (Some c) e), λ x. refl)
flushed_tells row (None ∷ rest) = Decides-like (flushed_free row rest) more (λ f stage c e. f (suc stage) c e) (flushed_tells row rest) where
  more : FlushedFree row rest → FlushedFree row (None ∷ rest)
  more f zero c e = absurd (none_some c (some_inside None (Some c) e))
  more f (suc stage) c e = f stage c e
flushed_tells row (Some d ∷ rest) =
    Decides-like ((is_none d.hold || not (has_serial row.flushed d.serial)) && flushed_free row rest) more (λ f. (f 0 d refl, λ stage c e. f (suc stage) c e))
    (Decides-and (is_none d.hold || not (has_serial row.flushed d.serial)) (flushed_free row rest) (cell_free d.hold (has_serial row.flushed d.serial)) (flushed_tells row rest)) where
      more : (has_serial row.flushed d.serial ≡ true → d.hold ≡ None) × FlushedFree row rest → FlushedFree row (Some d ∷ rest)
      more h zero c e = subst (λ (x : Cell). has_serial row.flushed x.serial ≡ true → x.hold ≡ None) (some_inside d c (some_inside (Some d) (Some c) e)) h.0
      more h (suc stage) c e = h.1 stage c e

none_tells : (h : Option Hold) → Decides (is_none h) (h ≡ None)
none_tells None = (λ x. refl, λ x. refl)
none_tells (Some h) = (λ e. absurd (true_false false e refl), λ e. absurd (none_some h (sym e)))

not_tells : (b : Bool) → Decides (not b) (b ≡ false)
not_tells true = (λ e. absurd (true_false false e refl), λ e. absurd (true_false true refl e))
not_tells false = (λ x. refl, λ x. refl)

abbrev Bare : Row → Cell → Type 0
Bare row d = (d.hold ≡ None) × (has_serial row.flushed d.serial ≡ false)

bare_tells : (row : Row) (o : Option Cell) → Decides (is_bare row o) ((d : Cell) → o ≡ Some d → Bare row d)
bare_tells row None = (λ x d e. absurd (none_some d e), λ x. refl)
bare_tells row (Some c) =
    Decides-like (is_none c.hold && not (has_serial row.flushed c.serial)) (λ h d e. subst (Bare row) (some_inside c d e) h) (λ f. f c refl)
    (Decides-and (is_none c.hold) (not (has_serial row.flushed c.serial)) (none_tells c.hold) (not_tells (has_serial row.flushed c.serial)))

stops_tells : (row : Row) (o : Option Cell) → Decides (stops_bare row o) (is_of_cell row.stop ≡ true → (d : Cell) → o ≡ Some d → Bare row d)
stops_tells row o = implied (is_of_cell row.stop) (is_bare row o) (bare_tells row o)

-- the last stage

abbrev RetiredAs : Option (ℕ × Commit) → Option Name → Type 0
RetiredAs r n = ((s : ℕ) (commit : Commit) → r ≡ Some (s, commit) → (m : Name) × (n ≡ Some m) × (m.0 ≡ s)) × ((m : Name) → n ≡ Some m → (commit : Commit) × (r ≡ Some (m.0, commit)))

retired_tells : (r : Option (ℕ × Commit)) (n : Option Name) → Decides (retired_as r n) (RetiredAs r n)
retired_tells None None = (λ x. (λ s c e. absurd (none_some (s, c) e), λ m e. absurd (none_some m e)), λ x. refl)
retired_tells None (Some n) = (λ e. absurd (true_false false e refl), λ h. (let x = h.1 n refl in absurd (none_some (n.0, x.0) x.1)))
retired_tells (Some r) None = (λ e. absurd (true_false false e refl), λ h. (let x = h.0 r.0 r.1 refl in absurd (none_some x.0 x.1)))
retired_tells (Some r) (Some n) = Decides-like (n.0 == r.0) to from (Decides-eqb n.0 r.0) where
  to : n.0 ≡ r.0 → RetiredAs (Some r) (Some n)
  to q = (
    λ s c e. (n, refl, q ∙ ap (λ (x : ℕ × Commit). x.0) (some_inside r (s, c) e)),
    λ m e. (r.1, ap (λ x. Some (x, r.1)) (sym q ∙ ap (λ (x : Name). x.0) (some_inside n m e))),
  )

  from : RetiredAs (Some r) (Some n) → n.0 ≡ r.0
  from h = let x = h.0 r.0 r.1 refl in ap (λ (y : Name). y.0) (some_inside n x.0 x.1) ∙ x.2

module _ (k : Setting) (row : Row) (plain : IsPlain k) where
  abbrev last : ℕ
  last = k.shape.stages - 1

  some_stage : 0 < k.shape.stages
  some_stage = let a = plain.mem_last in omega (arith, a)

  retires_of : RetiredAs row.retired (leaves row (cell_at k.shape row last)) → (stage : ℕ) → suc stage ≡ k.shape.stages → Retires k row stage
  retires_of h stage e = let same : last ≡ stage = omega (arith, e) in subst (λ n. Retires k row n) same (record {
    leaver = λ s commit q.
        let x = h.0 s commit q in
        let y = left row (cell_at k.shape row last) x.0 x.1 in
        (y.0, at_stage (slice_get (stages_of k row) last) y.0 y.1, y.2, y.3 ∙ x.2);
    retired = λ c s q. h.1 (c.serial, c.at, c.word) (ap (λ o. leaves row (cell_of o)) s ∙ q);
  })

  of_retires : ((stage : ℕ) → suc stage ≡ k.shape.stages → Retires k row stage) → RetiredAs row.retired (leaves row (cell_at k.shape row last))
  of_retires f =
      let r = f last (let a = some_stage in omega (arith, a)) in (
        λ s commit q. (
            let x = r.leaver s commit q in
            ((x.0.serial, x.0.at, x.0.word), ap (λ o. leaves row (cell_of o)) x.1 ∙ x.2, x.3)
            ),
        λ m e. (
            let y = left row (cell_at k.shape row last) m e in
            let x = r.retired y.0 (at_stage (slice_get (stages_of k row) last) y.0 y.1) y.2 in
            (x.0, x.1 ∙ ap (λ n. Some (n, x.0)) y.3)
            ),
      )

  retires_tells : Decides (retired_as row.retired (leaves row (cell_at k.shape row last))) ((stage : ℕ) → suc stage ≡ k.shape.stages → Retires k row stage)
  retires_tells = Decides-like (retired_as row.retired (leaves row (cell_at k.shape row last))) retires_of of_retires (retired_tells row.retired (leaves row (cell_at k.shape row last)))

  -- all of it

  module _ (before : Row) where
    abbrev Parts : Type 0
    Parts =
        (((((like : Row) × GoesOnAs k before like × Above k before row like)
        × ((n : Name) → stays before (front (stages_of k before)) ≡ Some n → name_of (front (stages_of k row)) ≡ Some n))
        × ComesNew before (front (stages_of k row)) (stages_of k before))
        × FlushedFree row (stages_of k row))
        × (is_of_cell row.stop ≡ true → (d : Cell) → cell_at k.shape row k.shape.ex ≡ Some d → Bare row d)

    abbrev above_test : Bool
    above_test = moved_on k.shape before row

    abbrev kept_test : Bool
    kept_test = has_kept (stays before (front (stages_of k before))) (name_of (front (stages_of k row)))

    abbrev new_test : Bool
    new_test = is_new before (front (stages_of k row)) (stages_of k before)

    abbrev flushed_test : Bool
    flushed_test = flushed_free row (stages_of k row)

    abbrev stops_test : Bool
    stops_test = stops_bare row (cell_at k.shape row k.shape.ex)

    abbrev retires_test : Bool
    retires_test = retired_as row.retired (leaves row (cell_at k.shape row last))

    parts_tell : Decides ((((above_test && kept_test) && new_test) && flushed_test) && stops_test) Parts
    parts_tell =
        Decides-and (((above_test && kept_test) && new_test) && flushed_test) stops_test
        (Decides-and ((above_test && kept_test) && new_test) flushed_test
        (Decides-and (above_test && kept_test) new_test
        (Decides-and above_test kept_test (above_tells k before row) (has_kept_tells (stays before (front (stages_of k before))) (name_of (front (stages_of k row)))))
        (new_tells before (front (stages_of k row)) (stages_of k before)))
        (flushed_tells row (stages_of k row)))
        (stops_tells row (cell_at k.shape row k.shape.ex))

    one_of : FlushedFree row (stages_of k row) → (is_of_cell row.stop ≡ true → (d : Cell) → cell_at k.shape row k.shape.ex ≡ Some d → Bare row d) → (stage : ℕ) (c : Cell) → Stands k row stage c → DoesOne k row stage c
    one_of f g stage c s = record {
      flushed = f stage c s;
      stopped = λ m. (bare m).0;
      apart = λ e m. true_false (has_serial row.flushed c.serial) e (bare m).1;
    } where
      bare : IsStopped k row stage → Bare row c
      bare m = g m.1 c (ap cell_of (subst (λ n. Stands k row n c) m.0 s))

    of_one : ((stage : ℕ) (c : Cell) → Stands k row stage c → DoesOne k row stage c) → is_of_cell row.stop ≡ true → (d : Cell) → cell_at k.shape row k.shape.ex ≡ Some d → Bare row d
    of_one f e d q =
        let one = f k.shape.ex d (at_stage (slice_get (stages_of k row) k.shape.ex) d q) in
        (one.stopped (refl, e), unflushed (has_serial row.flushed d.serial) refl) where
          unflushed : (b : Bool) → has_serial row.flushed d.serial ≡ b → has_serial row.flushed d.serial ≡ false
          unflushed true b = absurd ((f k.shape.ex d (at_stage (slice_get (stages_of k row) k.shape.ex) d q)).apart b (refl, e))
          unflushed false b = b

  module _ (earlier : List Row) where
    abbrev before : Row
    before = newest earlier

    to_moves : Parts before × ((stage : ℕ) → suc stage ≡ k.shape.stages → Retires k row stage) → MovesRightly k earlier row
    to_moves h =
        let four = h.0 in
        let three = four.0 in
        let two = three.0 in
        let one = two.0 in
        record {
          above = one.0;
          kept = one.1;
          new = λ stage c d s t q. two.1 stage c d (in_front (stages_of k row) c s) t q;
          one = one_of before three.1 four.1;
          retires = h.1;
        }

    of_moves : MovesRightly k earlier row → Parts before × ((stage : ℕ) → suc stage ≡ k.shape.stages → Retires k row stage)
    of_moves m = (
      ((((m.above, m.kept), λ stage c d e t q. m.new stage c d (front_is (stages_of k row) c e) t q), λ stage c s f. (m.one stage c s).flushed f), of_one before m.one),
      m.retires,
    )

    pub moves_tell : Decides (moves_as k.shape (newest earlier) row) (MovesRightly k earlier row)
    moves_tell =
        Decides-like (moves_as k.shape (newest earlier) row) to_moves of_moves
        (Decides-and ((((above_test before && kept_test before) && new_test before) && flushed_test before) && stops_test before) (retires_test before) (parts_tell before) retires_tells)
