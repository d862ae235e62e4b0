use Rattle.std.proofs.Common.{◌∙◌, sym, ap, subst, arith, ◌+◌, length}
use Rattle.rv_reader.specs.Writes.{is_in_group}
use Rattle.rv_reader.specs.Traces.{AreGroupsTo}
use Rattle.rv_reader.proofs.Lining.{not_both}
use Rattle.rv_reader.proofs.States.{groups_none, groups_bad, groups_next, group_in}
use Rattle.rv_reader.proofs.read.read_groups.Goals as goal

pub returns-in_default-clause-refused : goal.returns-in_default-clause-refused
returns-in_default-clause-refused c = groups_none c.args.widths.now c.args.text.now c.args.start c.args.first c.loop-at.at c.loop-at.line c.loop-at.low c.loop-at.invariant.groups (omega (arith, c.loop-at-test.true)) c.in_default.ensures

pub returns-then-not-is_in_group-clause-refused : goal.returns-then-not-is_in_group-clause-refused
returns-then-not-is_in_group-clause-refused c =
    groups_bad c.args.widths.now c.args.text.now c.args.start c.args.first c.loop-at.at c.loop-at.line c.loop-at.low c.in-Some.own.now c.loop-at.invariant.groups (omega (arith, c.loop-at-test.true)) c.in-Some.ensures
    (λ l i. not_both c.is_in_group.result (c.is_in_group.ensures ∙ group_in c.args.widths.now c.in-Some.own.now c.group_of-group.result c.group_of-group.ensures i) c.if-not-is_in_group.true)

pub loop-at-preserved : goal.loop-at-preserved
loop-at-preserved c = record {
  within = let h = c.in-Some.ensures in h.within;
  small = omega (arith, c.loop-at.invariant.small);
  groups = subst (λ g. AreGroupsTo c.args.widths.now c.args.text.now c.args.start c.args.first (c.loop-at.at + length c.in-Some.own.now + 1) (c.loop-at.line + 1) g) (sym c.group_of-group.ensures)
      (groups_next c.args.widths.now c.args.text.now c.args.start c.args.first c.loop-at.at c.loop-at.line c.loop-at.low c.in-Some.own.now c.loop-at.invariant.groups c.in-Some.ensures (omega (arith, c.if-group-low.false, c.group_of-group.ensures))
      (ap (λ g. is_in_group c.args.widths.now g c.in-Some.own.now) (sym c.group_of-group.ensures) ∙ sym c.is_in_group.ensures ∙ c.if-not-is_in_group.false));
}
