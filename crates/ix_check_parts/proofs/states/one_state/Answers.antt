use Rattle.std.proofs.Common.{◌≡◌, ◌+◌, ◌∙◌, sym, ap, subst, ℕ, true, cond, Option, Result, Ok}
use Rattle.std.proofs.lemmas.Bool.{cond-true}
use Rattle.ix_bits.specs.declared.number.Ty.{Ty}
use Rattle.ix_tree.specs.TypedTrees.{TypedStateTree}
use Rattle.ix_tree.specs.View.{view_state_kind}
use Rattle.ix_typing.specs.declared.role.Role.{Role}
use Rattle.ix_typing.specs.Names.{role_of}
use Rattle.ix_typing.specs.Refusals.{Refusal, twice, refuse, and_then, Step}
use Rattle.ix_typing.specs.Expressions.{written}
use Rattle.ix_typing.specs.Texts.{is_numbered, state_kind}
use Rattle.ix_check_parts.specs.StateTelling.{TellsState}
use Rattle.ix_check_parts.proofs.Passing.{goes_on}
use Rattle.ix_check_parts.proofs.states.one_state.Goals as goal

pub returns-then-is_numbered : goal.returns-then-is_numbered
returns-then-is_numbered c =
    let st = c.args.state.now in
    let x = c.args.text in
    let k = c.args.k in
    let test = is_numbered (role_of st.names x.name) k in
    let role = c.find.ensures ∙ ap (role_of st.names) c.as_str.ensures.text in
    let t : test ≡ true = sym (c.is_numbered.ensures ∙ ap (λ (o : Option Role). is_numbered o k) role) ∙ c.if-is_numbered.true in
    let W : Ty → Result (Step ℕ TypedStateTree) Refusal = λ u. and_then (state_kind st x.span u (view_state_kind x.kind)) (λ t. Ok (record { item = record { span = x.span; name = x.name; ty = x.ty; kind = t }; after = k + 1 })) in
    let E : Result (Step ℕ TypedStateTree) Refusal = refuse twice x.span in
    let f = λ (u : Ty). cond test (W u) E in
    let P : Result (Step ℕ TypedStateTree) Refusal → Type 0 = λ z. TellsState c.with_kind.result (k + 1) z in
    subst P (sym (goes_on (written x.ty.span x.ty.kind) c.in-Ok.ty f c.in-Ok.ensures ∙ cond-true test (W c.in-Ok.ty) E t)) (c.with_kind.ensures k (state_kind st x.span c.in-Ok.ty (view_state_kind x.kind)) c.state_kind-kind.ensures)
