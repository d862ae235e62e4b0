use Rattle.std.proofs.Common.{ap, List, ◌≡◌, subst, IfOk}
use Rattle.ix_verilog.specs.declared.source.Update.{Update}
use Rattle.ix_verilog.specs.Subset.{with_line}
use Rattle.ix_verilog.specs.Lines.{update}
use Rattle.ix_vform.proofs.Keeping.{both, changed_more}
use Rattle.ix_vform.proofs.opened.Opened.with_update.Goals as goal

pub rebuilt-requires : goal.rebuilt-requires
rebuilt-requires c =
    let s = c.self.inside.source in
    let m = c.self.inside.marks in
    both c.mark-told.result c.push-put.result c.mark-told.ensures c.push-put.ensures.ok
    (λ d e. record {
      found = c.self.invariant.found;
      driven = c.self.invariant.driven;
      changed = changed_more m.updated c.mark-told.new.names s.updates c.push-put.new.self c.args.updated c.as_str.result.now c.as_str.ensures.text e d c.self.invariant.changed;
    })

pub returns : goal.returns
returns c =
    let s = c.self.inside.source in
    subst (λ z. IfOk c.rebuilt.result (λ o. o ≡ with_line z (update c.args.updated))) c.self.view_is
    (c.rebuilt.ensures (with_line s (update c.args.updated)) (both c.mark-told.result c.push-put.result c.mark-told.ensures c.push-put.ensures.ok (λ d e. ap (λ (z : List Update). record s { updates = z }) e)))
