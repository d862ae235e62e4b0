use Rattle.std.proofs.Common.{◌<◌, [], ◌∷◌, ◌++◌, sym, ap, ◌∙◌, subst, length, Contains, arith}
use Rattle.std.proofs.lemmas.List.{nil_from_length, get_or_default}
use Rattle.std.proofs.lemmas.List.Elements.{Contains-push}
use Rattle.ix_vread.proofs.Looking.{search_first, search_more, search_end}
use Rattle.ix_vread.proofs.search.search.Goals as goal

pub loop-cell-init : goal.loop-cell-init
loop-cell-init c =
    search_first c.args.readers.now c.args.root c.args.marks.now c.push.new.self.items c.requires.cell c.requires.size (c.in_ok-push.ensures.items ∙ ap (λ xs. xs ++ c.args.root ∷ []) c.requires.nothing_left)

pub prove-unreachable-requires : goal.prove-unreachable-requires
prove-unreachable-requires c =
    let l : c.in-Some.cell < length c.args.readers.now = c.loop-cell.invariant.within c.in-Some.cell (subst (λ z. Contains z c.in-Some.cell) (sym c.in-Some.ensures.items) (Contains-push c.pop.new.self.items c.in-Some.cell)) in
    omega (arith, l, c.if-prove.true)

pub loop-cell-preserved : goal.loop-cell-preserved
loop-cell-preserved c =
    search_more c.args.readers.now c.args.root c.in-Some.cell c.args.marks.now c.loop-cell.marks c.visit_all.new.marks c.loop-cell.left.items c.pop.new.self.items c.visit_all.new.left.items c.as_slice.result.now c.in-Some.ensures.items (c.as_slice.ensures ∙ c.index-readers-cell.is ∙ get_or_default c.args.readers.now c.in-Some.cell c.index-readers-cell.result [] (c.loop-cell.invariant.within c.in-Some.cell (subst (λ z. Contains z c.in-Some.cell) (sym c.in-Some.ensures.items) (Contains-push c.pop.new.self.items c.in-Some.cell))))
    c.loop-cell.invariant c.in_ok-visit_all.ensures

pub returns : goal.returns
returns c =
    search_end c.args.readers.now c.args.root c.args.marks.now c.loop-cell.marks c.loop-cell.left.items (nil_from_length c.loop-cell.left.items (omega (arith, c.loop-cell.left.ok.0, c.in_default.ensures.cases.0))) c.loop-cell.invariant
