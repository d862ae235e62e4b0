use Rattle.std.proofs.Common.{◌≡◌, ◌∙◌, ap, subst, ℕ, ◌+◌, ◌-◌, Option, option_map, IfOk}
use Rattle.ix_mean.specs.Core.{Expression}
use Rattle.ix_mean.specs.Resolving.{with_zeros}
use Rattle.ix_mean.specs.View.{view_expression}
use Rattle.ix_slots.specs.Made.{put_behind}
use Rattle.ix_slots.proofs.field.with_part.Goals as goal

pub returns : goal.returns
returns c = λ tables.
    let front = option_map (view_expression tables) c.args.front in
    let gap : c.saturating_sub-gap.result ≡ c.args.below - (c.args.part.hi + 1) = c.saturating_sub-gap.ensures ∙ ap (λ (n : ℕ). c.args.below - n) c.past.ensures in
    let zeros = c.in_ok-front.ensures tables ∙ ap (with_zeros front) gap in
    let P : Option Expression → Type 0 = λ d. IfOk c.put_behind.result (λ r. view_expression tables r ≡ put_behind d (view_expression tables c.in_ok-part.part)) in
    let Q : Expression → Type 0 = λ e. IfOk c.put_behind.result (λ r. view_expression tables r ≡ put_behind (with_zeros front (c.args.below - (c.args.part.hi + 1))) e) in
    subst Q (c.in_ok-part.ensures tables) (subst P zeros (c.put_behind.ensures tables))
