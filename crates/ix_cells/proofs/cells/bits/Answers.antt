use Rattle.std.proofs.Common.{refl, ◌+◌, ◌/◌, ◌-◌, ◌%◌, ◌^◌, [], ◌∷◌}
use Rattle.ix_net.specs.declared.netlist.Form.TheVariants.{Range}
use Rattle.ix_cells.specs.Growth.{IsPushed, Adds}
use Rattle.ix_cells.proofs.Forms.{if_ok, range_adds}
use Rattle.ix_cells.proofs.cells.bits.Goals as goal

pub returns : goal.returns
returns c =
    if_ok c.push.result (λ r. IsPushed c.args.net.now c.push.new.net r (c.args.hi - c.args.lo + 1) (Range c.in_ok-source.source c.args.hi c.args.lo))
    (λ r. Adds (c.args.a ∷ []) c.args.net.now c.push.new.net r (c.args.hi - c.args.lo + 1) (λ see. see c.args.a.signal / 2 ^ c.args.lo % 2 ^ (c.args.hi - c.args.lo + 1)))
    (λ r p. range_adds c.args.net.now c.push.new.net r c.args.a c.in_ok-source.source c.args.hi c.args.lo (c.args.hi - c.args.lo + 1) c.in_ok-source.ensures c.requires.order c.requires.within refl p) c.push.ensures
