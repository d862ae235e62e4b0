use Rattle.std.proofs.Common.{◌≡◌, ◌∙◌, ap, sym, subst, ℕ, List, Option, Some, option_map, IfOk}
use Rattle.std.proofs.lemmas.List.{nil_from_length}
use Rattle.ix_mean.specs.Core.{Expression}
use Rattle.ix_mean.specs.View.{view_expression}
use Rattle.ix_slots.specs.declared.field.Part.{Part}
use Rattle.ix_slots.specs.Made.{with_part, made_from}
use Rattle.ix_slots.proofs.field.+with_parts.Goals as goal

pub returns-in-None : goal.returns-in-None
returns-in-None t c = λ tables.
    let front = option_map (view_expression tables) c.args.front in
    let e = nil_from_length c.args.parts.now c.in-None.ensures.cases in
    let P : List Part → Type 0 = λ ps. IfOk c.with_zeros.result (λ r. option_map (view_expression tables) r ≡ made_from front c.args.below ps) in
    subst P (sym e) (c.with_zeros.ensures tables)

pub returns-in_ok-front-in-Some : goal.returns-in_ok-front-in-Some
returns-in_ok-front-in-Some t c = λ tables.
    let front = option_map (view_expression tables) c.args.front in
    let below = c.args.below in
    let part = c.in-Some.part.now in
    let rest = c.in-Some.rest.now in
    let P : Option Expression → Type 0 = λ d. IfOk c.with_parts.result (λ r. option_map (view_expression tables) r ≡ d) in
    let e =
    ap (λ (e : Expression). made_from (Some e) c.from.result rest) (c.in_ok-front-in-Some.ensures tables)
    ∙ ap (λ (n : ℕ). made_from (Some (with_part front below part)) n rest) c.from.ensures
    ∙ ap (made_from front below) (sym c.in-Some.ensures.cases.0) in
    subst P e (c.with_parts.ensures tables)
