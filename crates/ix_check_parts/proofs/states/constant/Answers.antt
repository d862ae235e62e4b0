use Rattle.std.proofs.Common.{subst, Ok, false}
use Rattle.ix_tree.specs.declared.token.Span.{Span}
use Rattle.ix_tree.specs.View.{view}
use Rattle.ix_typing.specs.Refusals.{and_then}
use Rattle.ix_typing.specs.Expressions.{judged}
use Rattle.ix_typing.specs.Assignments.{fits_into}
use Rattle.ix_typing.specs.Texts.{constant_setting}
use Rattle.ix_check_parts.specs.StateTelling.{TellsConstant}
use Rattle.ix_check_parts.proofs.states.constant.Goals as goal

pub returns : goal.returns
returns c =
    let st = c.args.state.now in
    let r = judged constant_setting st (view c.args.value.now) false in
    let P : Span → Type 0 = λ s. TellsConstant c.embedded.result st (and_then r (λ v. and_then (fits_into s c.args.ty v.ty) (λ t. Ok (record { item = v.tree; after = st })))) in
    subst P c.span_of.ensures (c.embedded.ensures st r c.expression-judged.ensures)
