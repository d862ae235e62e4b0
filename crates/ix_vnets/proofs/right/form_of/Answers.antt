use Rattle.std.proofs.Common.{ap, sym, ◌∙◌, subst}
use Rattle.std.specs.Prelude.{IfOk, MatchOption}
use Rattle.ix_verilog.specs.declared.right.RightSide.{RightSide}
use Rattle.ix_verilog.specs.declared.right.RightSide.TheVariants as side
use Rattle.ix_vnets.specs.Forms.{IsFormOf, IsNoForm}
use Rattle.ix_vnets.proofs.right.form_of.Goals as goal

pub returns-in-Copy : goal.returns-in-Copy
returns-in-Copy c = subst (λ (r : RightSide). IfOk c.copied.result (λ o. MatchOption o (IsNoForm r) (IsFormOf r))) (sym c.in-Copy.is) c.copied.ensures

pub returns-in-Both : goal.returns-in-Both
returns-in-Both c = subst (λ (r : RightSide). IfOk c.both.result (λ o. MatchOption o (IsNoForm r) (IsFormOf r))) (sym c.in-Both.is) c.both.ensures

pub returns-in-Turned : goal.returns-in-Turned
returns-in-Turned c = subst (λ (r : RightSide). IfOk c.turned.result (λ o. MatchOption o (IsNoForm r) (IsFormOf r))) (sym c.in-Turned.is) c.turned.ensures

pub returns-in-Signed : goal.returns-in-Signed
returns-in-Signed c = subst (λ (r : RightSide). IfOk c.signed.result (λ o. MatchOption o (IsNoForm r) (IsFormOf r))) (sym c.in-Signed.is) c.signed.ensures

pub returns-in-Joined : goal.returns-in-Joined
returns-in-Joined c = subst (λ (r : RightSide). IfOk c.joined.result (λ o. MatchOption o (IsNoForm r) (IsFormOf r))) (sym c.in-Joined.is) c.joined.ensures

pub returns-in-Range : goal.returns-in-Range
returns-in-Range c =
    subst (λ (r : RightSide). IfOk c.range.result (λ o. MatchOption o (IsNoForm r) (IsFormOf r)))
    (ap (λ z. side.Range c.in-Range.source z c.as_slice-in-Range-2.result.now) c.as_slice-in-Range.ensures ∙ ap (λ z. side.Range c.in-Range.source c.in-Range.high z) c.as_slice-in-Range-2.ensures ∙ sym c.in-Range.is)
    c.range.ensures

pub returns-in-Choice : goal.returns-in-Choice
returns-in-Choice c = subst (λ (r : RightSide). IfOk c.choice.result (λ o. MatchOption o (IsNoForm r) (IsFormOf r))) (sym c.in-Choice.is) c.choice.ensures
