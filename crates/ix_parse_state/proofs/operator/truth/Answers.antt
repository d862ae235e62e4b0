use Rattle.std.proofs.Common.{◌≡◌, ◌∙◌, Bool, true, false, refl, if◌then◌else◌}
use Rattle.ix_tree.specs.Productions.{one_bit, zero_bit}
use Rattle.ix_parse_state.proofs.Expressions.{literal_is}
use Rattle.ix_parse_state.proofs.operator.truth.Goals as goal
use mir.Val.{bool_byte}

raws : (b : Bool) → bool_byte b ≡ (if b then one_bit else zero_bit).raw
raws true = refl
raws false = refl

widths : (b : Bool) → 1 ≡ (if b then one_bit else zero_bit).width
widths true = refl
widths false = refl

pub returns : goal.returns
returns c = literal_is _ _ _ _ _ refl refl (c.from.ensures ∙ raws c.args.value) (widths c.args.value)
