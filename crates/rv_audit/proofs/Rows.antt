-- One row more: what is right so far goes on, or the text is refused for it.
use Rattle.std.proofs.Common.{◌≡◌, ◌∙◌, sym, ap, subst, ℕ, suc, ◌+◌, ◌≤◌, List, [], ◌∷◌, ◌++◌, length, map, take, Some, Bool, true, false, arith}
use Rattle.std.specs.Prelude.{slice_get, if◌then◌else◌, is_some}
use Rattle.ix_plan.specs.declared.design.Design.{Design}
use Rattle.rv_trace.specs.declared.row.Row.{Row}
use Rattle.rv_lawful.specs.Settings.{Setting}
use Rattle.rv_shown.specs.declared.shown.ShownRow.{ShownRow}
use Rattle.rv_shown.specs.Shown.{Shown, shown_in, shown_texts}
use Rattle.rv_reader.specs.Traces.{feeds, bit}
use Rattle.rv_reader.proofs.Passing.{map_push, map_long}
use Rattle.rv_rows.specs.Kinds.{IsAllRight}
use Rattle.rv_rows.specs.Made.{row_of}
use Rattle.rv_watch.specs.Fit.{plain_setting}
use Rattle.rv_watch.specs.Faults.{rows_behind, AreAllRight, lines_below, IsReadAs, IsRowFault}
use Rattle.rv_watch.proofs.Folding.{behind_none, none_right, behind_last, right_last}
use Rattle.rv_watch.specs.declared.against.Against.{Against}
use Rattle.rv_watch.specs.declared.watch.Watch.{Watch}
use Rattle.rv_watch.specs.Watched.{setting_of, IsWatched}
use Rattle.rv_audit.specs.declared.judging.Fault.{Fault}
use Rattle.rv_audit.specs.declared.judging.Fault.TheVariants as fault
use Rattle.rv_audit.specs.Judged.{kind_of, IsFirstWrong}
use Rattle.rv_audit.specs.Refused.{IsFault, refused_for, rows_shown, AreRightTo}
use Rattle.rv_audit.proofs.Numbers.{take_one, take_count}

-- as many rows are made as are shown
pub rows_count : (k : Setting) (earlier : List Row) (rows : List Shown) → length (rows_behind k earlier rows) ≡ length earlier + length rows
unfolding rows_behind
rows_count k earlier [] = omega arith
rows_count k earlier (s ∷ rows) = let h = rows_count k (row_of k earlier s ∷ earlier) rows in omega (arith, h)

-- ---- so far
pub none_so_far : (a : Against) (text : List ℕ) (rows : List ShownRow) (w : Watch) → IsWatched a [] w → AreRightTo a text rows 0 w
none_so_far a text rows w watched = record {
  right = none_right (setting_of a) [];
  watched = subst (λ l. IsWatched a l w) (sym (behind_none (setting_of a) [])) watched;
}

pub one_more : (a : Against) (text : List ℕ) (rows : List ShownRow) (n : ℕ) (row : ShownRow) (was w : Watch) → slice_get rows n ≡ Some row → AreRightTo a text rows n was
    → IsAllRight (setting_of a) (rows_behind (setting_of a) [] (rows_shown a.design.now text (take n rows))) (shown_in a.design.now.sheet.shape.stages text row)
    → IsWatched a (row_of (setting_of a) (rows_behind (setting_of a) [] (rows_shown a.design.now text (take n rows))) (shown_in a.design.now.sheet.shape.stages text row) ∷ rows_behind (setting_of a) [] (rows_shown a.design.now text (take n rows))) w
    → AreRightTo a text rows (n + 1) w
one_more a text rows n row was w at so_far right watched =
    let k = setting_of a in
    let f = shown_in a.design.now.sheet.shape.stages text in
    let next : n + 1 ≡ suc n = omega arith in
    let shown : rows_shown a.design.now text (take (suc n) rows) ≡ rows_shown a.design.now text (take n rows) ++ f row ∷ [] = ap (map f) (take_one n rows row at) ∙ map_push f (take n rows) row in
    subst (λ m. AreRightTo a text rows m w) (sym next) (record {
      right = subst (λ l. AreAllRight k [] l) (sym shown) (right_last k [] (rows_shown a.design.now text (take n rows)) (f row) so_far.right right);
      watched = subst (λ l. IsWatched a l w) (sym (behind_last k [] (rows_shown a.design.now text (take n rows)) (f row)) ∙ ap (λ l. rows_behind k [] l) (sym shown)) watched;
    })

pub so_many : (a : Against) (text : List ℕ) (rows : List ShownRow) (n : ℕ) → n ≤ length rows → length (rows_behind (setting_of a) [] (rows_shown a.design.now text (take n rows))) ≡ n
so_many a text rows n le =
    let f = shown_in a.design.now.sheet.shape.stages text in
    let b = rows_count (setting_of a) [] (map f (take n rows)) in
    let c = map_long f (take n rows) in
    let e = take_count n rows le in
    omega (arith, b, c, e)

-- ---- a fault
module _ (d : Design) (image waits text : List ℕ) where
  last_line : (b : Bool) (line : ℕ) → (if b then line + 2 else line + 1) ≡ line + (1 + bit b)
  last_line true line = omega arith
  last_line false line = omega arith

  -- what is told of a fault in a row is a fault of that kind in its line
  told : (f : Fault) (line : ℕ) (s : Shown) → ((n : ℕ) → n ≡ line + lines_below s (kind_of f) → IsRowFault d image waits text (kind_of f) n) → IsFault d image waits text (refused_for f line s.retired)
  told fault.Moves line s is = is line (omega arith)
  told fault.Hold line s is = is line (omega arith)
  told fault.Fetch line s is = is line (omega arith)
  told fault.Successor line s is = is line (omega arith)
  told fault.Unit line s is = is line (omega arith)
  told fault.Stop line s is = is line (omega arith)
  told fault.Commit line s is = is (line + 1) (omega arith)
  told fault.Write line s is = is (if is_some s.retired then line + 2 else line + 1) (last_line (is_some s.retired) line)

  pub row_refused : (before : List Shown) (s : Shown) (rest : List Shown) (state : List ℕ) (f : Fault) (line : ℕ) → IsReadAs d text (before ++ s ∷ rest) state → AreAllRight (plain_setting d image waits) [] before
      → IsFirstWrong (plain_setting d image waits) (rows_behind (plain_setting d image waits) [] before) s (kind_of f) → line ≡ suc (feeds (shown_texts 0 before)) → IsFault d image waits text (refused_for f line s.retired)
  row_refused before s rest state f line read right first line_here =
      told f line s (λ n e. record {
        before = before;
        s = s;
        rest = rest;
        state = state;
        read = read;
        right = right;
        so_far = first.so_far;
        wrong = first.wrong;
        line_is = e ∙ ap (λ l. l + lines_below s (kind_of f)) line_here;
      })
