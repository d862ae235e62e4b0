use Rattle.std.proofs.Common.{◌≡◌, ◌+◌, List, [], length, ap, arith, sym, ◌∙◌, subst}
use Rattle.std.proofs.lemmas.List.{length_push}
use Rattle.ix_cells.specs.declared.signal.Wire.{Wire}
use Rattle.ix_cells.specs.Tables.{AddsAll, AddsNext, entries_shown}
use Rattle.ix_cells.proofs.WireLists.{all_none}
use Rattle.ix_cells.proofs.lookups.constants.Goals as goal

pub loop-alloc-init : goal.loop-alloc-init
loop-alloc-init c =
    let A : List Wire → Type 0 = λ ws. AddsAll [] c.args.net.now c.args.net.now ws c.args.width (entries_shown c.args.entries.now) in
    let none : length c.new-wires.result.items ≡ 0 = ap length c.new-wires.ensures.items in
    record {
      count = omega (arith, none);
      all = subst A (sym c.new-wires.ensures.items) (all_none [] c.args.net.now c.args.width (entries_shown c.args.entries.now));
    }

pub loop-alloc-preserved : goal.loop-alloc-preserved
loop-alloc-preserved c =
    let es = c.args.entries.now in
    let ws = c.loop-alloc.wires.items in
    let A : List Wire → Type 0 = λ xs. AddsAll [] c.args.net.now c.leaf.new.net xs c.args.width (entries_shown es) in
    let N : List Wire → Type 0 = λ xs. AddsNext c.loop-alloc.net c.leaf.new.net xs es c.args.width c.in_ok-wire.wire in
    let n : N ws = subst N c.deref.ensures.value (c.in_ok-wire.ensures c.args.width c.requires) in
    let size : length c.push.new.self.items ≡ length ws + 1 = ap length c.in_ok-push.ensures.items ∙ length_push ws c.in_ok-wire.wire in
    record {
      count = omega (arith, size);
      all = subst A (sym c.in_ok-push.ensures.items) (n c.args.net.now c.loop-alloc.invariant.all);
    }
