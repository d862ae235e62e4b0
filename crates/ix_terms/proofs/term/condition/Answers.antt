use Rattle.std.proofs.Common.{sym, ap, ◌∙◌}
use Rattle.ix_bits.specs.declared.number.Ty.{Ty}
use Rattle.ix_mean.specs.Core.{u1}
use Rattle.ix_mean.specs.Terms.{same_ty}
use Rattle.ix_terms.specs.Stores.{stock_of}
use Rattle.ix_terms.proofs.Makes.{ok_as}
use Rattle.ix_terms.proofs.Placing.{condition_made}
use Rattle.ix_terms.proofs.term.condition.Goals as goal

pub returns : goal.returns
returns c =
    let d = ap (λ (t : Ty). same_ty t u1) (sym c.type_at.ensures) ∙ ap (same_ty c.type_at.result) (sym c.u1.ensures) ∙ sym c.same_ty.ensures ∙ c.if-same_ty.false in
    ok_as c.make_two.result _ _ (λ k h. condition_made (stock_of c.args.store.now) (stock_of c.put_bit.new.store) (stock_of c.make_two.new.store) c.u1-2.result c.args.a c.in_ok-zero.zero k c.in_ok-zero.ensures c.requires.within
    c.u1-2.ensures d h) c.make_two.ensures
