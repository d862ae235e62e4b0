-- The text of a run, as it is written row by row.
use Rattle.std.proofs.Common.{◌≡◌, ◌∙◌, refl, sym, ap, subst, ℕ, zero, suc, ◌+◌, ◌-◌, ◌<◌, List, [], ◌∷◌, ◌++◌, append_assoc, length, take, drop, replicate, Option, Some, None, Bool, true, false, arith}
use Rattle.std.specs.Prelude.{reverse, is_some, if◌then◌else◌}
use Rattle.std.proofs.lemmas.List.{append-nil, reverse-append, length-reverse, take-append-drop}
use Rattle.std.proofs.Math.Seq.{take-append_seam, drop-append_seam}
use Rattle.ix_extension.specs.Extensions.{ExtensionTree}
use Rattle.ix_plan.specs.declared.design.Target.{Target}
use Rattle.rv_seq.specs.declared.arch.Arch.{Arch}
use Rattle.rv_trace.specs.declared.row.Row.{Row}
use Rattle.rv_trace.specs.declared.row.Cell.{Cell}
use Rattle.rv_trace.specs.Trace.{newest}
use Rattle.rv_trace.specs.TraceText.{row_text, trace_text}
use Rattle.rv_text.specs.RunText.{state_text}
use Rattle.rv_seq.specs.declared.commit.Stop.{Stop}
use Rattle.rv_holds.specs.Tokens.{cells_of}
use Rattle.rv_holds.specs.Flushing.{struck, unheld}
use Rattle.rv_engine.specs.Settings.{Setting, Machine, shape_of, tree_of, first_machine}
use Rattle.rv_engine.specs.Rows.{IsRowOf, loaded_by, turn_by, stop_after, machine_after}
use Rattle.rv_machine.specs.Running.{AreRows, machine_at}
use Rattle.rv_machine.specs.DesignText.{most_targets, IsDesignText}
use Rattle.rv_machine.specs.Owing.{targets_owed}
use Rattle.rv_pipe.specs.Texts.{row_of, end_text, text_from}
use Rattle.rv_pipe.proofs.Lengths.{cells_length, next_length, first_length}

-- ---- the one row that a machine makes

pub is_row : (k : Setting) (m : Machine) → length m.slots ≡ (shape_of k).stages → IsRowOf k m (row_of k m)
is_row k m e =
    let shown : List (Option Cell) = cells_of (unheld (struck (turn_by k m)) (loaded_by k m)) in
    let long : length shown ≡ (shape_of k).stages = cells_length k m ∙ e in
    record {
      cells = ap (λ n. take n (shown ++ drop (shape_of k).stages (replicate 5 None))) (sym long) ∙ take-append_seam shown (drop (shape_of k).stages (replicate 5 None));
      behind = ap (λ n. drop n (shown ++ drop (shape_of k).stages (replicate 5 None))) (sym long) ∙ drop-append_seam shown (drop (shape_of k).stages (replicate 5 None));
      retired = refl;
      written = refl;
      flushed = refl;
      redirect = refl;
      taken = refl;
      stop = refl;
    }

pub one_row : (k : Setting) (m : Machine) (row : Row) → IsRowOf k m row → row ≡ row_of k m
one_row k m row is =
    let end : Row = row_of k m in
    let cells : row.cells ≡ end.cells =
    sym (take-append-drop (shape_of k).stages row.cells)
    ∙ ap (λ l. l ++ drop (shape_of k).stages row.cells) is.cells
    ∙ ap (λ l. cells_of (unheld (struck (turn_by k m)) (loaded_by k m)) ++ l) is.behind in
    ap (λ l. record { cells = l; retired = row.retired; written = row.written; flushed = row.flushed; redirect = row.redirect; taken = row.taken; stop = row.stop }) cells
    ∙ ap (λ o. record { cells = end.cells; retired = o; written = row.written; flushed = row.flushed; redirect = row.redirect; taken = row.taken; stop = row.stop }) is.retired
    ∙ ap (λ o. record { cells = end.cells; retired = end.retired; written = o; flushed = row.flushed; redirect = row.redirect; taken = row.taken; stop = row.stop }) is.written
    ∙ ap (λ l. record { cells = end.cells; retired = end.retired; written = end.written; flushed = l; redirect = row.redirect; taken = row.taken; stop = row.stop }) is.flushed
    ∙ ap (λ o. record { cells = end.cells; retired = end.retired; written = end.written; flushed = end.flushed; redirect = o; taken = row.taken; stop = row.stop }) is.redirect
    ∙ ap (λ o. record { cells = end.cells; retired = end.retired; written = end.written; flushed = end.flushed; redirect = end.redirect; taken = o; stop = row.stop }) is.taken
    ∙ ap (λ o. record { cells = end.cells; retired = end.retired; written = end.written; flushed = end.flushed; redirect = end.redirect; taken = end.taken; stop = o }) is.stop

-- ---- its line, and what comes then

no_rows : (stages n : ℕ) → trace_text stages n [] ≡ []
unfolding trace_text
no_rows stages n = refl

more_rows : (stages n : ℕ) (row : Row) (rows : List Row) → trace_text stages n (row ∷ rows) ≡ row_text stages n row ++ trace_text stages (suc n) rows
unfolding trace_text
more_rows stages n row rows = refl

-- rows behind others
last_row : (stages n : ℕ) (rows : List Row) (row : Row) → trace_text stages n (rows ++ row ∷ []) ≡ trace_text stages n rows ++ row_text stages (n + length rows) row
last_row stages n [] row =
    let z : n + 0 ≡ n = omega arith in
    more_rows stages n row []
    ∙ ap (λ l. row_text stages n row ++ l) (no_rows stages (suc n))
    ∙ append-nil (row_text stages n row)
    ∙ ap (λ i. row_text stages i row) (sym z)
    ∙ ap (λ l. l ++ row_text stages (n + 0) row) (sym (no_rows stages n))
last_row stages n (first ∷ rows) row =
    let z : suc n + length rows ≡ n + suc (length rows) = omega arith in
    more_rows stages n first (rows ++ row ∷ [])
    ∙ ap (λ l. row_text stages n first ++ l) (last_row stages (suc n) rows row)
    ∙ ap (λ i. row_text stages n first ++ (trace_text stages (suc n) rows ++ row_text stages i row)) z
    ∙ sym (append_assoc (row_text stages n first) (trace_text stages (suc n) rows) (row_text stages (n + suc (length rows)) row))
    ∙ ap (λ l. l ++ row_text stages (n + suc (length rows)) row) (sym (more_rows stages n first rows))

pub none_left : (k : Setting) (left : ℕ) (m : Machine) → left ≡ 0 → text_from k left m ≡ end_text k m
unfolding text_from
none_left k zero m e = refl
none_left k (suc left) m e = absurd (omega (arith, e))

stopping : (k : Setting) (left : ℕ) (m : Machine) → is_some (stop_after k m) ≡ true → text_from k (suc left) m ≡ row_text (shape_of k).stages m.rows (row_of k m) ++ end_text k (machine_after k m)
unfolding text_from
stopping k left m e = ap (λ b. row_text (shape_of k).stages m.rows (row_of k m) ++ (if b then end_text k (machine_after k m) else text_from k left (machine_after k m))) e

running : (k : Setting) (left : ℕ) (m : Machine) → is_some (stop_after k m) ≡ false → text_from k (suc left) m ≡ row_text (shape_of k).stages m.rows (row_of k m) ++ text_from k left (machine_after k m)
unfolding text_from
running k left m e = ap (λ b. row_text (shape_of k).stages m.rows (row_of k m) ++ (if b then end_text k (machine_after k m) else text_from k left (machine_after k m))) e

-- where one more row may be made, the text goes on with it: to the state, if it has a stop, or else to the next one
module _ (k : Setting) (cycles n stages : ℕ) (m m' : Machine) (row : Row) (out out' : List ℕ) (lt : n < cycles) (number : m.rows ≡ n) (at : stages ≡ (shape_of k).stages) (is : IsRowOf k m row) (after : m' ≡ machine_after k m) (put : out' ≡ out ++ row_text stages n row) where
  same_line : row_text (shape_of k).stages m.rows (row_of k m) ≡ row_text stages n row
  same_line = ap (λ r. row_text (shape_of k).stages m.rows r) (sym (one_row k m row is)) ∙ ap (λ i. row_text (shape_of k).stages i row) number ∙ ap (λ s. row_text s n row) (sym at)

  more : cycles - n ≡ suc (cycles - (n + 1))
  more = omega (arith, lt)

  placed : (l : List ℕ) → out ++ (row_text (shape_of k).stages m.rows (row_of k m) ++ l) ≡ out' ++ l
  placed l = ap (λ t. out ++ (t ++ l)) same_line ∙ sym (append_assoc out (row_text stages n row) l) ∙ ap (λ t. t ++ l) (sym put)

  pub row_stops : is_some row.stop ≡ true → out ++ text_from k (cycles - n) m ≡ out' ++ end_text k m'
  row_stops e =
      ap (λ i. out ++ text_from k i m) more
      ∙ ap (λ l. out ++ l) (stopping k (cycles - (n + 1)) m (ap (λ s. is_some s) (sym is.stop) ∙ e))
      ∙ placed (end_text k (machine_after k m))
      ∙ ap (λ s. out' ++ end_text k s) (sym after)

  pub row_goes_on : is_some row.stop ≡ false → out ++ text_from k (cycles - n) m ≡ out' ++ text_from k (cycles - (n + 1)) m'
  row_goes_on e =
      ap (λ i. out ++ text_from k i m) more
      ∙ ap (λ l. out ++ l) (running k (cycles - (n + 1)) m (ap (λ s. is_some s) (sym is.stop) ∙ e))
      ∙ placed (text_from k (cycles - (n + 1)) (machine_after k m))
      ∙ ap (λ s. out' ++ text_from k (cycles - (n + 1)) s) (sym after)

-- the text of the state, by its parts
pub end_there : (k : Setting) (m : Machine) (x : ExtensionTree) (listed : List (ℕ × Target)) (s : Arch) → x ≡ tree_of k → listed ≡ take most_targets (targets_owed m.owed) → s ≡ m.arch → end_text k m ≡ state_text x listed s
end_there k m x listed s tree list arch =
    ap (λ y. state_text y (take most_targets (targets_owed m.owed)) m.arch) (sym tree) ∙ ap (λ l. state_text x l m.arch) (sym list) ∙ ap (λ y. state_text x listed y) (sym arch)

-- ---- the whole is the text of rows and of the state behind them

by_stop : (o : Option Stop) → is_some o ≡ false → o ≡ None
by_stop None e = refl
by_stop (Some s) e = cc

no_stop : (o : Option Stop) (A : Type 0) → is_some o ≡ true → o ≡ None → A
no_stop None A e h = cc
no_stop (Some s) A e h = cc

module _ (k : Setting) where
  -- the lines of rows, the newest first
  abbrev lines : List Row → List ℕ
  lines rows = trace_text (shape_of k).stages 0 (reverse rows)

  one_line : (rows : List Row) (row : Row) → lines (row ∷ rows) ≡ lines rows ++ row_text (shape_of k).stages (length rows) row
  one_line rows row =
      let same = length-reverse rows in
      let z : 0 + length (reverse rows) ≡ length rows = omega (arith, same) in
      ap (λ l. trace_text (shape_of k).stages 0 l) (reverse-append (row ∷ []) rows)
      ∙ last_row (shape_of k).stages 0 (reverse rows) row
      ∙ ap (λ i. lines rows ++ row_text (shape_of k).stages i row) z

  after_row : (rows : List Row) (row : Row) → machine_at k (row ∷ rows) ≡ machine_after k (machine_at k rows)
  unfolding machine_at
  after_row rows row = refl

  -- with one more row
  module _ (left : ℕ) (rows : List Row) (are : AreRows k rows) (going : (newest rows).stop ≡ None) (long : length (machine_at k rows).slots ≡ (shape_of k).stages) (count : (machine_at k rows).rows ≡ length rows) where
    abbrev m : Machine
    m = machine_at k rows

    abbrev row : Row
    row = row_of k m

    are_more : AreRows k (row ∷ rows)
    are_more = (is_row k m long, going, are)

    next_is : machine_at k (row ∷ rows) ≡ machine_after k m
    next_is = after_row rows row

    next_long : length (machine_at k (row ∷ rows)).slots ≡ (shape_of k).stages
    next_long = ap (λ (s : Machine). length s.slots) next_is ∙ next_length k m long

    next_count : (machine_at k (row ∷ rows)).rows ≡ suc (length rows)
    next_count = ap (λ (s : Machine). s.rows) next_is ∙ ap suc count

    told : (rest : List ℕ) → lines rows ++ (row_text (shape_of k).stages m.rows row ++ rest) ≡ lines (row ∷ rows) ++ rest
    told rest =
        sym (append_assoc (lines rows) (row_text (shape_of k).stages m.rows row) rest)
        ∙ ap (λ i. (lines rows ++ row_text (shape_of k).stages i row) ++ rest) count
        ∙ ap (λ t. t ++ rest) (sym (one_line rows row))

    -- that has a stop
    last_made : is_some (stop_after k m) ≡ true → IsDesignText k (length rows + suc left) (lines rows ++ text_from k (suc left) m)
    last_made e = record {
      rows = row ∷ rows;
      are_rows = are_more;
      few = omega arith;
      whole = λ h. no_stop (stop_after k m) (suc (length rows) ≡ length rows + suc left) e h;
      text_is = ap (λ t. lines rows ++ t) (stopping k left m e) ∙ told (end_text k (machine_after k m)) ∙ ap (λ s. lines (row ∷ rows) ++ end_text k s) (sym next_is);
    }

    -- or is followed
    one_made : is_some (stop_after k m) ≡ false → IsDesignText k (suc (length rows) + left) (lines (row ∷ rows) ++ text_from k left (machine_at k (row ∷ rows))) → IsDesignText k (length rows + suc left) (lines rows ++ text_from k (suc left) m)
    one_made e next =
        let z : suc (length rows) + left ≡ length rows + suc left = omega arith in
        let t : lines (row ∷ rows) ++ text_from k left (machine_at k (row ∷ rows)) ≡ lines rows ++ text_from k (suc left) m =
        ap (λ s. lines (row ∷ rows) ++ text_from k left s) next_is ∙ sym (told (text_from k left (machine_after k m))) ∙ ap (λ l. lines rows ++ l) (sym (running k left m e)) in
        subst (λ l. IsDesignText k (length rows + suc left) l) t (subst (λ i. IsDesignText k i (lines (row ∷ rows) ++ text_from k left (machine_at k (row ∷ rows)))) z next)

  whole_from : (left : ℕ) (rows : List Row) → AreRows k rows → (newest rows).stop ≡ None → length (machine_at k rows).slots ≡ (shape_of k).stages → (machine_at k rows).rows ≡ length rows
      → IsDesignText k (length rows + left) (lines rows ++ text_from k left (machine_at k rows))
  whole_from zero rows are going long count =
      let z : length rows + 0 ≡ length rows = omega arith in
      record {
        rows = rows;
        are_rows = are;
        few = omega arith;
        whole = λ h. sym z;
        text_is = ap (λ t. lines rows ++ t) (none_left k 0 (machine_at k rows) refl);
      }
  whole_from (suc left) rows are going long count =
      by_end (is_some (stop_after k (machine_at k rows))) refl (λ e.
      whole_from left (row_of k (machine_at k rows) ∷ rows) (are_more left rows are going long count) (by_stop (stop_after k (machine_at k rows)) e) (next_long left rows are going long count) (next_count left rows are going long count)) where
        by_end : (b : Bool) → is_some (stop_after k (machine_at k rows)) ≡ b
            → (is_some (stop_after k (machine_at k rows)) ≡ false → IsDesignText k (suc (length rows) + left) (lines (row_of k (machine_at k rows) ∷ rows) ++ text_from k left (machine_at k (row_of k (machine_at k rows) ∷ rows))))
            → IsDesignText k (length rows + suc left) (lines rows ++ text_from k (suc left) (machine_at k rows))
        by_end true e next = last_made left rows are going long count e
        by_end false e next = one_made left rows are going long count e (next e)

-- so from the first row on
first_of : (k : Setting) → machine_at k [] ≡ first_machine k
unfolding machine_at
first_of k = refl

pub whole_text : (k : Setting) (cycles : ℕ) → IsDesignText k cycles (text_from k cycles (first_machine k))
whole_text k cycles =
    let start = first_of k in
    let whole = whole_from k cycles [] tt refl (ap (λ (s : Machine). length s.slots) start ∙ first_length k) (ap (λ (s : Machine). s.rows) start) in
    let t : trace_text (shape_of k).stages 0 [] ++ text_from k cycles (machine_at k []) ≡ text_from k cycles (first_machine k) = ap (λ l. l ++ text_from k cycles (machine_at k [])) (no_rows (shape_of k).stages 0) ∙ ap (λ s. text_from k cycles s) start in
    let z : 0 + cycles ≡ cycles = omega arith in
    subst (λ l. IsDesignText k cycles l) t (subst (λ i. IsDesignText k i (trace_text (shape_of k).stages 0 [] ++ text_from k cycles (machine_at k []))) z whole)
