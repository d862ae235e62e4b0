use Rattle.std.proofs.Common.{◌≡◌, ◌+◌, ◌∷◌, [], ◌++◌, get_or, take, sym, subst, List, ℕ}
use Rattle.std.proofs.lemmas.List.{take_more}
use Rattle.ix_vread.specs.Graphs.{Puts}
use Rattle.ix_vread.proofs.Putting.{puts_more}
use Rattle.ix_vread.proofs.readers.put_readers.Goals as goal

pub loop-cell-preserved : goal.loop-cell-preserved
loop-cell-preserved c =
    let i = c.loop-cell.cell-index in
    let xs : List ℕ = c.args.read.now in
    let more : take (i + 1) xs ≡ take i xs ++ get_or xs i 0 ∷ [] = take_more xs i 0 c.loop-cell-test.true in
    subst (λ z. Puts z c.args.reader c.args.readers.now c.put_reader.new.readers) (sym more)
    (puts_more (take i xs) (get_or xs i 0 ∷ []) c.args.reader c.args.readers.now c.loop-cell.readers c.put_reader.new.readers c.loop-cell.invariant c.in_ok-put_reader.ensures)
