use Rattle.std.proofs.Common.{ap, ◌∙◌}
use Rattle.ix_verilog.specs.declared.right.RightSide.TheVariants as side
use Rattle.ix_vnets.proofs.right.joined.Goals as goal

pub returns : goal.returns
returns c = record {
  is = ap (λ z. side.Joined z c.in_ok-second.second) c.in_ok-first.ensures ∙ ap (λ z. side.Joined c.args.a.now z) c.in_ok-second.ensures;
  within = tt;
}
