use Rattle.std.proofs.Common.{◌≡◌, ◌∙◌, ◌+◌, ◌-◌, ◌<◌, ◌++◌, ◌∷◌, sym, ap, arith, [], Some, length, take}
use Rattle.std.proofs.Math.ListN.{set}
use Rattle.std.proofs.lemmas.List.{length-set, take_more_set}
use Rattle.rv_reader.specs.Words.{from}
use Rattle.rv_reader.specs.Rows.{cell_in, cells_from}
use Rattle.rv_reader.proofs.Looping.{one_less, none_less, cells_bad, cells_other, cells_more, cells_end}
use Rattle.rv_reader.proofs.row.cells.Goals as goal

pub returns-in_default : goal.returns-in_default
returns-in_default c =
    let less = one_less c.args.stages c.loop-k.k (omega (arith, c.loop-k-test.true, c.loop-k.auto.k-end)) in
    c.loop-k.invariant.rest
    ∙ ap (λ n. cells_from c.args.count n (take c.loop-k.k c.loop-k.cells) c.loop-k.left.now) less
    ∙ cells_bad c.args.count (c.args.stages - (c.loop-k.k + 1)) (take c.loop-k.k c.loop-k.cells) c.loop-k.left.now c.in_default.ensures

pub returns-in_default-cell : goal.returns-in_default-cell
returns-in_default-cell c =
    let less = one_less c.args.stages c.loop-k.k (omega (arith, c.loop-k-test.true, c.loop-k.auto.k-end)) in
    let read = ap (λ w. cell_in c.args.count w) (sym c.split.ensures.before) ∙ sym c.cell.ensures ∙ c.in_default-cell.is in
    c.loop-k.invariant.rest
    ∙ ap (λ n. cells_from c.args.count n (take c.loop-k.k c.loop-k.cells) c.loop-k.left.now) less
    ∙ cells_other c.args.count (c.args.stages - (c.loop-k.k + 1)) (take c.loop-k.k c.loop-k.cells) c.loop-k.left.now c.in-Some.rest.now c.in-Some.ensures read

pub loop-k-preserved : goal.loop-k-preserved
loop-k-preserved c =
    let below : c.loop-k.k < length c.loop-k.cells = omega (arith, c.loop-k-test.true, c.loop-k.auto.k-end, c.requires, c.loop-k.invariant.five) in
    let less = one_less c.args.stages c.loop-k.k (omega (arith, c.loop-k-test.true, c.loop-k.auto.k-end)) in
    let read = ap (λ w. cell_in c.args.count w) (sym c.split.ensures.before) ∙ sym c.cell.ensures ∙ c.in-Some-cell.is in
    let more : take c.loop-k.k c.loop-k.cells ++ c.in-Some-cell.found ∷ [] ≡ take (c.loop-k.k + 1) (set c.loop-k.cells c.loop-k.k c.in-Some-cell.found) = sym (take_more_set c.loop-k.cells c.loop-k.k c.in-Some-cell.found below) in
    record {
      rest = c.loop-k.invariant.rest
          ∙ ap (λ n. cells_from c.args.count n (take c.loop-k.k c.loop-k.cells) c.loop-k.left.now) less
          ∙ cells_more c.args.count (c.args.stages - (c.loop-k.k + 1)) (take c.loop-k.k c.loop-k.cells) c.loop-k.left.now c.in-Some.rest.now c.in-Some-cell.found c.in-Some.ensures read
          ∙ ap (λ t. cells_from c.args.count (c.args.stages - (c.loop-k.k + 1)) t (from 32 c.in-Some.rest.now)) more
          ∙ ap (λ t. cells_from c.args.count (c.args.stages - (c.loop-k.k + 1)) (take (c.loop-k.k + 1) (set c.loop-k.cells c.loop-k.k c.in-Some-cell.found)) t) (sym c.split.ensures.rest);
      five = length-set c.loop-k.cells c.loop-k.k c.in-Some-cell.found ∙ c.loop-k.invariant.five;
    }

pub returns : goal.returns
returns c =
    let none = none_less c.args.stages c.loop-k.k (omega (arith, c.loop-k-test.false, c.loop-k.auto.k-end)) in
    let same : c.loop-k.k ≡ c.args.stages = omega (arith, c.loop-k-test.false, c.loop-k.auto.k-end) in
    c.loop-k.invariant.rest ∙ ap (λ n. cells_from c.args.count n (take c.loop-k.k c.loop-k.cells) c.loop-k.left.now) none ∙ cells_end c.args.count (take c.loop-k.k c.loop-k.cells) c.loop-k.left.now ∙ ap (λ k. Some (take k c.loop-k.cells, c.loop-k.left.now)) same
