use Rattle.std.proofs.Common.{◌≡◌, ◌+◌, ◌∷◌, [], ◌++◌, get_or, take, sym, subst, List, ℕ}
use Rattle.std.proofs.lemmas.List.{take_more}
use Rattle.ix_vread.specs.Searches.{Visits}
use Rattle.ix_vread.proofs.Looking.{visits_more}
use Rattle.ix_vread.proofs.search.visit_all.Goals as goal

pub loop-cell-preserved : goal.loop-cell-preserved
loop-cell-preserved c =
    let i = c.loop-cell.cell-index in
    let xs : List ℕ = c.args.cells.now in
    let more : take (i + 1) xs ≡ take i xs ++ get_or xs i 0 ∷ [] = take_more xs i 0 c.loop-cell-test.true in
    subst (λ z. Visits z c.args.marks.now c.args.left.now.items c.visit.new.marks c.visit.new.left.items) (sym more)
    (visits_more (take i xs) (get_or xs i 0 ∷ []) c.args.marks.now c.loop-cell.marks c.visit.new.marks c.args.left.now.items c.loop-cell.left.items c.visit.new.left.items c.loop-cell.invariant c.in_ok-visit.ensures)
