use Rattle.std.proofs.Common.{eqb, cond, [], ◌∷◌}
use Rattle.ix_net.specs.declared.netlist.Form.TheVariants.{Choose}
use Rattle.ix_cells.specs.Growth.{IsPushed, Adds}
use Rattle.ix_cells.proofs.Forms.{if_ok, choose_adds}
use Rattle.ix_cells.proofs.cells.chosen.Goals as goal

pub returns : goal.returns
returns c =
    if_ok c.push.result (λ r. IsPushed c.args.net.now c.push.new.net r c.args.a.width (Choose c.in_ok-condition.condition c.in_ok-left.left c.in_ok-right.right))
    (λ r. Adds (c.args.test ∷ c.args.a ∷ c.args.b ∷ []) c.args.net.now c.push.new.net r c.args.a.width (λ see. cond (eqb (see c.args.test.signal) 0) (see c.args.b.signal) (see c.args.a.signal)))
    (λ r p. choose_adds c.args.net.now c.push.new.net r c.args.test c.args.a c.args.b c.in_ok-condition.condition c.in_ok-left.left c.in_ok-right.right
    c.in_ok-condition.ensures c.in_ok-left.ensures c.in_ok-right.ensures c.requires.bit c.requires.alike p) c.push.ensures
