use Rattle.std.proofs.Common.{sym, subst, ap, List, ◌≡◌, IfOk}
use Rattle.ix_net.specs.declared.netlist.Port.{Port}
use Rattle.ix_verilog.specs.Subset.{with_line}
use Rattle.ix_verilog.specs.Lines.{register}
use Rattle.ix_vform.specs.declared.role.Role.TheVariants.{Register}
use Rattle.ix_vform.specs.Kept.{IsKept}
use Rattle.ix_vform.proofs.Keeping.{both, found_more, role_register}
use Rattle.ix_vform.proofs.opened.Opened.with_register.Goals as goal

pub rebuilt-requires : goal.rebuilt-requires
rebuilt-requires c =
    let s = c.self.inside.source in
    let p = c.args.declared in
    let m = c.self.inside.marks in
    let P : List Port → Type 0 = λ z. IsKept (record s { registers = z }) c.declare-told.new.roles m.assigned m.updated in
    both c.declare-told.result c.push-put.result c.declare-told.ensures c.push-put.ensures.ok
    (λ d e. subst P (sym e) (record {
      found = found_more s (with_line s (register p)) m.roles c.declare-told.new.roles p Register c.as_str.result.now c.as_str.ensures.text d c.self.invariant.found (role_register s p);
      driven = c.self.invariant.driven;
      changed = c.self.invariant.changed;
    }))

pub returns : goal.returns
returns c =
    let s = c.self.inside.source in
    subst (λ z. IfOk c.rebuilt.result (λ o. o ≡ with_line z (register c.args.declared))) c.self.view_is
    (c.rebuilt.ensures (with_line s (register c.args.declared)) (both c.declare-told.result c.push-put.result c.declare-told.ensures c.push-put.ensures.ok (λ d e. ap (λ (z : List Port). record s { registers = z }) e)))
