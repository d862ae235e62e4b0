use Rattle.std.proofs.Common.{ℕ, ◌+◌, List, Bool, take, set, get_or, not, ◌==◌, ◌||◌, subst, sym, ◌∙◌}
use Rattle.ix_net.specs.declared.gates.Gate.{Gate}
use Rattle.ix_neteval.specs.Marked.{is_marked, IsMarked}
use Rattle.ix_neteval.proofs.RunLemmas.{IsRunning, cell_within, gate_ready, running_step, running_all}
use Rattle.ix_neteval.proofs.Marking.{kept_value, marked_step}
use Rattle.ix_neteval.proofs.running.run_gates.Goals as goal

pub next_value-value-requires-clause-fits : goal.next_value-value-requires-clause-fits
next_value-value-requires-clause-fits c =
    gate_ready c.args.first c.args.gates.now c.args.order.now c.args.widths.now c.loop-cell.values c.requires.wired c.loop-cell.invariant.running.fit
    (get_or c.args.order.now c.loop-cell.cell-index 0)
    (cell_within c.args.first c.args.gates.now c.args.order.now c.args.widths.now c.requires.wired c.loop-cell.cell-index c.loop-cell-test.true)

pub next_value-value-requires-clause-kept : goal.next_value-value-requires-clause-kept
next_value-value-requires-clause-kept c = λ old unmarked.
    kept_value c.args.first c.args.gates.now c.args.order.now c.args.widths.now c.args.values.now c.loop-cell.values c.loop-cell.cell-index c.loop-cell.marks
    c.requires.wired c.loop-cell-test.true c.loop-cell.invariant.running (c.loop-cell.invariant.marked old) unmarked

pub loop-cell-preserved : goal.loop-cell-preserved
loop-cell-preserved c =
    let first = c.args.first in
    let gates : List Gate = c.args.gates.now in
    let order : List ℕ = c.args.order.now in
    let widths : List ℕ = c.args.widths.now in
    let at = c.loop-cell.cell-index in
    let R : List ℕ → Type 0 = λ vs. IsRunning first gates order widths c.args.values.now vs (at + 1) in
    let M : List Bool → Type 0 = λ ms. IsMarked first gates widths (take (at + 1) order) ms c.put.new.values in
    let N : List ℕ → Type 0 = λ vs. IsMarked first gates widths (take (at + 1) order) (set c.loop-cell.marks (first + get_or order at 0) (is_marked c.loop-cell.marks (first + get_or order at 0) || not (get_or c.loop-cell.values (first + get_or order at 0) 0 == c.next_value-value.result))) vs in
    record {
      running =
          subst R (sym c.put.ensures.values)
          (running_step first gates order widths c.args.values.now c.loop-cell.values at c.next_value-value.result c.requires.wired c.loop-cell-test.true c.next_value-value.ensures c.loop-cell.invariant.running);
      sizes = c.put.auto.marks ∙ c.loop-cell.invariant.sizes ∙ sym c.put.auto.values;
      marked = λ old.
          subst M (sym c.put.ensures.marks)
          (subst N (sym c.put.ensures.values)
          (marked_step first gates order widths c.args.values.now c.loop-cell.values at c.loop-cell.marks c.requires.wired c.loop-cell-test.true c.loop-cell.invariant.running c.next_value-value.result c.loop-cell.invariant.sizes (c.loop-cell.invariant.marked old)));
    }

pub returns-clause-hold : goal.returns-clause-hold
returns-clause-hold c =
    running_all c.args.first c.args.gates.now c.args.order.now c.args.widths.now c.args.values.now c.loop-cell.values c.loop-cell.cell-index
    c.requires.wired c.loop-cell-test.false c.loop-cell.invariant.running
