use Rattle.std.proofs.Common.{ℕ, [], ◌∷◌, arith, subst}
use Rattle.ix_cells.specs.Growth.{Adds}
use Rattle.ix_cells.specs.Moves.{moved}
use Rattle.ix_cells.proofs.Forms.{if_ok}
use Rattle.ix_cells.proofs.Shifted.{stage_adds}
use Rattle.ix_cells.proofs.shifting.stage.Goals as goal

pub returns : goal.returns
returns c =
    if_ok c.chosen.result _ _
    (λ r q. stage_adds c.args.way c.args.place (omega (arith, c.requires.below)) c.in_ok-bit.ensures
    (subst (λ (n : ℕ). Adds (c.args.current ∷ []) c.bits.new.net c.moved_by.new.net c.in_ok-other.other c.args.current.width (λ see. moved c.args.way c.args.current.width (see c.args.current.signal) n)) c.power-by.ensures.value c.in_ok-other.ensures) q)
    c.chosen.ensures
