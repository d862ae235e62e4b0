use Rattle.std.proofs.Common.{◌≡◌, ◌<◌, ◌∷◌, ◌++◌, [], length, ap, sym, ◌∙◌, subst, get_or, arith, Contains}
use Rattle.std.proofs.lemmas.List.{nil_from_length, get_or_default}
use Rattle.ix_vread.specs.Graphs.{Edge}
use Rattle.ix_vread.proofs.Leaving.{walking_first, walking_on, walking_back, walking_end, last_within}
use Rattle.ix_vread.proofs.Marking.{set_less}
use Rattle.ix_vread.proofs.order.leave.Goals as goal

pub loop-cell-init : goal.loop-cell-init
loop-cell-init c =
    walking_first c.args.graph.now c.args.marks.now c.push.new.self.items c.args.order.now.items c.args.root c.requires.cell c.requires.unmarked c.requires.resting
    (c.in_ok-push.ensures.items ∙ ap (λ xs. xs ++ c.args.root ∷ []) c.new-path.ensures.items)

pub loop-cell-preserved-in-Continue-branch-2 : goal.loop-cell-preserved-in-Continue-branch-2
loop-cell-preserved-in-Continue-branch-2 c =
    let s = c.loop-cell.invariant in
    let l : c.in-Some.cell < length c.args.graph.now = last_within (length c.args.graph.now) c.loop-cell.path.items c.pop.new.self.items c.in-Some.cell c.in-Some.ensures.items s.cells in
    let row : c.as_slice.result.now ≡ get_or c.args.graph.now c.in-Some.cell [] = c.as_slice.ensures ∙ c.index-graph-cell.is ∙ get_or_default c.args.graph.now c.in-Some.cell c.index-graph-cell.result [] l in
    walking_back c.args.graph.now c.args.marks.now c.loop-cell.marks c.loop-cell.path.items c.pop.new.self.items c.loop-cell.order.items c.push-in-None.new.self.items c.args.root c.in-Some.cell
    c.in-Some.ensures.items c.in_ok-push-in-None.ensures.items s
    (λ a d. c.in-None.ensures a (omega (arith, d.source, s.size)) (subst (λ z. Contains z a) (sym row) d.reads))

pub loop-cell-preserved : goal.loop-cell-preserved
loop-cell-preserved c =
    let s = c.loop-cell.invariant in
    let l : c.in-Some.cell < length c.args.graph.now = last_within (length c.args.graph.now) c.loop-cell.path.items c.pop.new.self.items c.in-Some.cell c.in-Some.ensures.items s.cells in
    let row : c.as_slice.result.now ≡ get_or c.args.graph.now c.in-Some.cell [] = c.as_slice.ensures ∙ c.index-graph-cell.is ∙ get_or_default c.args.graph.now c.in-Some.cell c.index-graph-cell.result [] l in
    let w = c.in-Some-first_unmarked.ensures in
    let d : Edge c.args.graph.now c.in-Some-first_unmarked.next c.in-Some.cell = record { source = omega (arith, w.0, s.size); reader = l; reads = subst (λ z. Contains z c.in-Some-first_unmarked.next) row w.1 } in
    walking_on c.args.graph.now c.args.marks.now c.loop-cell.marks c.loop-cell.path.items c.pop.new.self.items c.push-in-Some-first_unmarked-2.new.self.items c.loop-cell.order.items c.args.root c.in-Some.cell c.in-Some-first_unmarked.next
    c.in-Some.ensures.items
    (c.in_ok-push-in-Some-first_unmarked-2.ensures.items ∙ ap (λ xs. xs ++ c.in-Some-first_unmarked.next ∷ []) (c.in_ok-push-in-Some-first_unmarked.ensures.items ∙ sym c.in-Some.ensures.items))
    s w.2 d

pub loop-cell-smaller : goal.loop-cell-smaller
loop-cell-smaller c =
    let w = c.in-Some-first_unmarked.ensures in
    omega (arith, set_less c.loop-cell.marks c.in-Some-first_unmarked.next w.0 w.2, c.in-Some.ensures.len, c.in_ok-push-in-Some-first_unmarked.ensures.len, c.in_ok-push-in-Some-first_unmarked-2.ensures.len)

pub returns : goal.returns
returns c =
    walking_end c.args.graph.now c.args.marks.now c.loop-cell.marks c.loop-cell.path.items c.loop-cell.order.items c.args.root
    (nil_from_length c.loop-cell.path.items (omega (arith, c.loop-cell.path.ok.0, c.in_default.ensures.cases.0))) c.loop-cell.invariant
