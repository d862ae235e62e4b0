use Rattle.std.proofs.Common.{◌∙◌, ap, sym, ℕ, List, Option, None, option_map}
use Rattle.ix_bits.specs.declared.number.Ty.{Ty}
use Rattle.ix_mean.specs.Core.{u1, Expression, x_const}
use Rattle.ix_mean.specs.Resolving.{some_or}
use Rattle.ix_mean.specs.View.{view_expression}
use Rattle.ix_slots.specs.declared.field.Part.{Part}
use Rattle.ix_slots.specs.Made.{top_of_parts, made_from}
use Rattle.ix_slots.proofs.field.field.Goals as goal

pub returns-in-None : goal.returns-in-None
returns-in-None c = λ tables.
    let parts = c.as_slice-parts.ensures.value ∙ c.in_ok-parts.ensures in
    let some =
    c.in_ok-with_parts.ensures tables ∙ ap (λ (n : ℕ). made_from None n c.as_slice-parts.result.now) c.top_of.ensures
    ∙ ap (λ (qs : List Part). made_from None (top_of_parts qs) qs) parts in
    ap (λ (ty : Ty). x_const ty c.zeros.result.raw) c.type_near-ty.ensures
    ∙ ap (x_const u1) c.zeros.ensures
    ∙ ap (λ (d : Option Expression). some_or d (x_const u1 0)) (ap (option_map (view_expression tables)) (sym c.in-None.is) ∙ some)

pub returns : goal.returns
returns c = λ tables.
    let parts = c.as_slice-parts.ensures.value ∙ c.in_ok-parts.ensures in
    let some =
    c.in_ok-with_parts.ensures tables ∙ ap (λ (n : ℕ). made_from None n c.as_slice-parts.result.now) c.top_of.ensures
    ∙ ap (λ (qs : List Part). made_from None (top_of_parts qs) qs) parts in
    ap (λ (d : Option Expression). some_or d (x_const u1 0)) (ap (option_map (view_expression tables)) (sym c.in-Some.is) ∙ some)
