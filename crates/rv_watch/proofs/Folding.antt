-- Rows one behind the other, and what is shown of them.
use Rattle.std.proofs.Common.{◌≡◌, ◌∙◌, refl, sym, ap, subst, ℕ, suc, List, [], ◌∷◌, ◌++◌, map, reverse, None}
use Rattle.std.proofs.lemmas.List.{append-nil, append_assoc, map-append, reverse-append}
use Rattle.rv_trace.specs.declared.row.Row.{Row}
use Rattle.rv_trace.specs.TraceText.{row_text, trace_text, retired_text, written_text}
use Rattle.rv_lawful.specs.Settings.{Setting}
use Rattle.rv_lawful.specs.LawfulTrace.{LawfulRow, Lawful}
use Rattle.rv_rows.specs.Facts.{IsPlain, AreGoingOn}
use Rattle.rv_rows.specs.Recorded.{IsRecorded, AreRecorded}
use Rattle.rv_shown.specs.Shown.{Shown, shown_of, shown_text, shown_texts, TextLaw}
use Rattle.rv_reader.specs.Forms.{IsRow}
use Rattle.rv_reader.specs.Traces.{AreRows}
use Rattle.rv_rows.specs.Kinds.{Kind, of_moves, of_hold, of_fetch, of_successor, of_unit, of_stop, of_commit, of_write, RowKinds, IsRight, IsAllRight}
use Rattle.rv_rows.specs.Laws.{AreEmptyUnits, KindsLaw}
use Rattle.rv_rows.specs.Made.{row_of}
use Rattle.rv_watch.specs.Faults.{rows_behind, AreAllRight}
use Rattle.rv_watch.proofs.Making.{in_form, shows}

-- Steps of the definitions

behind_one : (k : Setting) (earlier : List Row) (s : Shown) (rest : List Shown) → rows_behind k earlier (s ∷ rest) ≡ rows_behind k (row_of k earlier s ∷ earlier) rest
unfolding rows_behind
behind_one k earlier s rest = refl

pub behind_none : (k : Setting) (earlier : List Row) → rows_behind k earlier [] ≡ earlier
unfolding rows_behind
behind_none k earlier = refl

right_one : (k : Setting) (earlier : List Row) (s : Shown) (rest : List Shown) → AreAllRight k earlier (s ∷ rest) → IsAllRight k earlier s × AreAllRight k (row_of k earlier s ∷ earlier) rest
unfolding AreAllRight
right_one k earlier s rest r = r

one_right : (k : Setting) (earlier : List Row) (s : Shown) (rest : List Shown) → IsAllRight k earlier s → AreAllRight k (row_of k earlier s ∷ earlier) rest → AreAllRight k earlier (s ∷ rest)
unfolding AreAllRight
one_right k earlier s rest r q = (r, q)

pub none_right : (k : Setting) (earlier : List Row) → AreAllRight k earlier []
unfolding AreAllRight
none_right k earlier = tt

-- one more at the end
pub behind_last : (k : Setting) (earlier : List Row) (rows : List Shown) (s : Shown) → rows_behind k earlier (rows ++ s ∷ []) ≡ row_of k (rows_behind k earlier rows) s ∷ rows_behind k earlier rows
behind_last k earlier [] s = behind_one k earlier s [] ∙ behind_none k (row_of k earlier s ∷ earlier) ∙ ap (λ l. row_of k l s ∷ l) (sym (behind_none k earlier))
behind_last k earlier (t ∷ rows) s = behind_one k earlier t (rows ++ s ∷ []) ∙ behind_last k (row_of k earlier t ∷ earlier) rows s ∙ ap (λ l. row_of k l s ∷ l) (sym (behind_one k earlier t rows))

pub right_last : (k : Setting) (earlier : List Row) (rows : List Shown) (s : Shown) → AreAllRight k earlier rows → IsAllRight k (rows_behind k earlier rows) s → AreAllRight k earlier (rows ++ s ∷ [])
right_last k earlier [] s r q = one_right k earlier s [] (subst (λ l. IsAllRight k l s) (behind_none k earlier) q) (none_right k (row_of k earlier s ∷ earlier))
right_last k earlier (t ∷ rows) s r q =
    let p = right_one k earlier t rows r in
    one_right k earlier t (rows ++ s ∷ []) p.0 (right_last k (row_of k earlier t ∷ earlier) rows s p.1 (subst (λ l. IsAllRight k l s) (behind_one k earlier t rows) q))

-- Texts

text_none : (stages number : ℕ) → trace_text stages number [] ≡ []
unfolding trace_text
text_none stages number = refl

text_one : (stages number : ℕ) (row : Row) (rest : List Row) → trace_text stages number (row ∷ rest) ≡ row_text stages number row ++ trace_text stages (suc number) rest
unfolding trace_text
text_one stages number row rest = refl

shown_none : (number : ℕ) → shown_texts number [] ≡ []
unfolding shown_texts
shown_none number = refl

shown_one : (number : ℕ) (s : Shown) (rest : List Shown) → shown_texts number (s ∷ rest) ≡ shown_text number s ++ shown_texts (suc number) rest
unfolding shown_texts
shown_one number s rest = refl

-- no row takes an interrupt
abbrev pub AreUntaken : List Row → Type 0
AreUntaken [] = Unit {0}
AreUntaken (row ∷ rows) = (row.taken ≡ None) × AreUntaken rows

pub untaken_last : (rows : List Row) (row : Row) → AreUntaken rows → row.taken ≡ None → AreUntaken (rows ++ row ∷ [])
untaken_last [] row u e = (e, tt)
untaken_last (r ∷ rows) row u e = (u.0, untaken_last rows row u.1 e)

pub texts_same : TextLaw → (stages number : ℕ) (rows : List Row) → AreUntaken rows → trace_text stages number rows ≡ shown_texts number (map (shown_of stages) rows)
texts_same law stages number [] u = text_none stages number ∙ sym (shown_none number)
texts_same law stages number (row ∷ rows) u =
    text_one stages number row rows
    ∙ ap (λ t. t ++ trace_text stages (suc number) rows) (law stages number row u.0)
    ∙ ap (λ t. shown_text number (shown_of stages row) ++ t) (texts_same law stages (suc number) rows u.1)
    ∙ sym (shown_one number (shown_of stages row) (map (shown_of stages) rows))

-- From what is shown to rows

-- rows that are lawful and recorded, none of which takes an interrupt, and of which this is shown
pub record IsRun (k : Setting) (rows : List Row) (shown : List Shown) : Type 0 where
  pub lawful : Lawful (λ places. k) rows
  pub recorded : AreRecorded k rows
  pub untaken : AreUntaken (reverse rows)
  pub shows_it : map (shown_of k.shape.stages) (reverse rows) ≡ shown

turned : (row : Row) (rows : List Row) → reverse (row ∷ rows) ≡ reverse rows ++ row ∷ []
turned row rows = reverse-append (row ∷ []) rows

module _ (k : Setting) (widths : List ℕ) (plain : IsPlain k) (empty : AreEmptyUnits k.units) (law : KindsLaw) where
  kinds_of : (earlier : List Row) (s : Shown) → IsAllRight k earlier s → RowKinds k earlier (row_of k earlier s)
  kinds_of earlier s r = record {
    moves = r of_moves;
    holds = r of_hold;
    fetches = r of_fetch;
    succeeds = r of_successor;
    units = r of_unit;
    stops = r of_stop;
  }

  going_of : (earlier : List Row) (s : Shown) → Lawful (λ places. k) earlier → IsAllRight k earlier s → AreGoingOn k earlier
  going_of earlier s l r = record { lawful = l; going = (kinds_of earlier s r).stops.going }

  one_row : (earlier : List Row) (s : Shown) → Lawful (λ places. k) earlier → IsRow widths k.shape.stages s → IsAllRight k earlier s → LawfulRow k earlier (row_of k earlier s)
  one_row earlier s l f r =
      law.lawful k earlier (row_of k earlier s) plain empty (going_of earlier s l r) (in_form k earlier s f.line.stages_are f.line.flushed) refl (kinds_of earlier s r)

  run_last : (earlier : List Row) (before : List Shown) (s : Shown) → IsRun k earlier before → IsRow widths k.shape.stages s → IsAllRight k earlier s → IsRun k (row_of k earlier s ∷ earlier) (before ++ s ∷ [])
  run_last earlier before s is f r = record {
    lawful = (one_row earlier s is.lawful f r, (kinds_of earlier s r).stops.going, is.lawful);
    recorded = (record { retired = λ n c e. (r of_commit).record_is n c e; written = λ w e. (r of_write).write_is w e }, is.recorded);
    untaken = subst (λ l. AreUntaken l) (sym (turned (row_of k earlier s) earlier)) (untaken_last (reverse earlier) (row_of k earlier s) is.untaken refl);
    shows_it =
        ap (λ l. map (shown_of k.shape.stages) l) (turned (row_of k earlier s) earlier)
        ∙ map-append (shown_of k.shape.stages) (reverse earlier) (row_of k earlier s ∷ [])
        ∙ ap (λ l. l ++ shown_of k.shape.stages (row_of k earlier s) ∷ []) is.shows_it
        ∙ ap (λ x. before ++ x ∷ []) (shows k earlier s f.line.stages_are f.line.flushed (r of_moves) (r of_commit) (r of_write));
  }

  pub run_of : (earlier : List Row) (before rows : List Shown) → IsRun k earlier before → AreRows widths k.shape.stages rows → AreAllRight k earlier rows → IsRun k (rows_behind k earlier rows) (before ++ rows)
  run_of earlier before [] is f r = subst (λ l. IsRun k l (before ++ [])) (sym (behind_none k earlier)) (subst (λ l. IsRun k earlier l) (sym (append-nil before)) is)
  run_of earlier before (s ∷ rows) is f r =
      let p = right_one k earlier s rows r in
      subst (λ l. IsRun k l (before ++ s ∷ rows)) (sym (behind_one k earlier s rows))
      (subst (λ l. IsRun k (rows_behind k (row_of k earlier s ∷ earlier) rows) l) (append_assoc before (s ∷ []) rows)
      (run_of (row_of k earlier s ∷ earlier) (before ++ s ∷ []) rows (run_last earlier before s is f.0 p.0) f.1 p.1))

  -- From rows to what is shown

  all_right : (earlier : List Row) (row : Row) → RowKinds k earlier row → IsRecorded k earlier row → row ≡ row_of k earlier (shown_of k.shape.stages row) → IsAllRight k earlier (shown_of k.shape.stages row)
  all_right earlier row kinds recorded made = λ kind. by kind (subst (λ r. RowKinds k earlier r) made kinds) (subst (λ r. IsRecorded k earlier r) made recorded) where
    by : (kind : Kind) → RowKinds k earlier (row_of k earlier (shown_of k.shape.stages row)) → IsRecorded k earlier (row_of k earlier (shown_of k.shape.stages row)) → IsRight k earlier (shown_of k.shape.stages row) kind
    by of_moves q w = q.moves
    by of_hold q w = q.holds
    by of_fetch q w = q.fetches
    by of_successor q w = q.succeeds
    by of_unit q w = q.units
    by of_stop q w = q.stops
    by of_commit q w = record { record_is = w.retired; line = ap (λ (r : Row). retired_text r.retired) made }
    by of_write q w = record { write_is = w.written; line = ap (λ (r : Row). written_text r.written) made }

  pub shown_run : (rows : List Row) → Lawful (λ places. k) rows → AreRecorded k rows
      → (rows_behind k [] (map (shown_of k.shape.stages) (reverse rows)) ≡ rows) × AreAllRight k [] (map (shown_of k.shape.stages) (reverse rows))
  shown_run [] l r = (behind_none k [], none_right k [])
  shown_run (row ∷ earlier) l r =
      let before = shown_run earlier l.2 r.1 in
      let going : AreGoingOn k earlier = record { lawful = l.2; going = l.1 } in
      let made = law.made k earlier row plain going l.0 r.0.retired r.0.written in
      let right = all_right earlier row (law.kinds k earlier row plain empty going l.0) r.0 made in
      let s = shown_of k.shape.stages row in
      let shown = map (shown_of k.shape.stages) (reverse earlier) in
      let back : map (shown_of k.shape.stages) (reverse (row ∷ earlier)) ≡ shown ++ s ∷ [] = ap (λ l. map (shown_of k.shape.stages) l) (turned row earlier) ∙ map-append (shown_of k.shape.stages) (reverse earlier) (row ∷ []) in (
        ap (λ l. rows_behind k [] l) back ∙ behind_last k [] shown s ∙ ap (λ l. row_of k l s ∷ l) before.0 ∙ ap (λ r. r ∷ earlier) (sym made),
        subst (λ l. AreAllRight k [] l) (sym back) (right_last k [] shown s before.1 (subst (λ l. IsAllRight k l s) (sym before.0) right)),
      )
