use Rattle.std.proofs.Common.{◌≤◌, List, ℕ, subst, sym, lit≤}
use Rattle.std.proofs.lemmas.List.Elements.{All-replicate}
use Rattle.ix_sheet.specs.Sheets.{native_windows_of, window_at, IsInside}
use Rattle.library_tests.proofs.Windows.{native_inside}
use Rattle.library_tests.proofs.machines.sheet_of.Goals as goal

pub returns : goal.returns
returns c =
    let shape = c.args.shape in
    record {
      some_period = lit≤ tt;
      most_period = lit≤ tt;
      delays = All-replicate (λ delay. delay ≤ 1000000) 34 1 (lit≤ tt);
      windows =
          λ k lt. subst (λ (ws : List (ℕ × ℕ)). IsInside (window_at (native_windows_of shape) k) (window_at ws k)) (sym c.native_windows.ensures)
          (native_inside shape k lt);
    }
