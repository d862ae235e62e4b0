use Rattle.std.proofs.Common.{ap, List, ◌≡◌, subst, IfOk}
use Rattle.ix_verilog.specs.declared.source.Assign.{Assign}
use Rattle.ix_verilog.specs.Subset.{with_line}
use Rattle.ix_verilog.specs.Lines.{assign}
use Rattle.ix_vform.proofs.Keeping.{both, driven_more}
use Rattle.ix_vform.proofs.opened.Opened.with_assign.Goals as goal

pub rebuilt-requires : goal.rebuilt-requires
rebuilt-requires c =
    let s = c.self.inside.source in
    let m = c.self.inside.marks in
    both c.mark-told.result c.push-put.result c.mark-told.ensures c.push-put.ensures.ok
    (λ d e. record {
      found = c.self.invariant.found;
      driven = driven_more m.assigned c.mark-told.new.names s.assigns c.push-put.new.self c.args.assigned c.as_str.result.now c.as_str.ensures.text e d c.self.invariant.driven;
      changed = c.self.invariant.changed;
    })

pub returns : goal.returns
returns c =
    let s = c.self.inside.source in
    subst (λ z. IfOk c.rebuilt.result (λ o. o ≡ with_line z (assign c.args.assigned))) c.self.view_is
    (c.rebuilt.ensures (with_line s (assign c.args.assigned)) (both c.mark-told.result c.push-put.result c.mark-told.ensures c.push-put.ensures.ok (λ d e. ap (λ (z : List Assign). record s { assigns = z }) e)))
