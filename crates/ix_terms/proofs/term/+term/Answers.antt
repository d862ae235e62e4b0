use Rattle.std.proofs.Common.{◌≡◌, refl, rules, map}
use Rattle.ix_mean.specs.Core.{x_const, x_slot, x_read, x_load, x_one, x_cast, x_entry, x_two, x_choose}
use Rattle.ix_mean.specs.Terms.{make_one, make_two, make_mux, cast_to, condition, kind_of}
use Rattle.ix_mean.specs.View.{view_expression, patterns_of}
use Rattle.ix_terms.specs.Stores.{at, stock_of}
use Rattle.ix_terms.proofs.Makes.{term_grown, grows_on}
use Rattle.ix_terms.proofs.Placing.{told_ok, told_as, from_one, from_two, from_three, from_load, from_entry, told_slot}
use Rattle.ix_terms.proofs.Loading.{on_from, nothing_at, none_told, one_told, two_told, three_told, load_told}
use Rattle.ix_terms.proofs.term.+term.Goals as goal

pub returns-in-Const-clause-term : goal.returns-in-Const-clause-term
returns-in-Const-clause-term t c =
    let e : view_expression c.args.source.now.tables c.args.e.now ≡ x_const c.in-Const.ty c.in-Const.bits.raw = search rules in
    told_ok c.args.source.now (stock_of c.args.store.now) _ c.args.slots.now c.args.p (view_expression c.args.source.now.tables c.args.e.now) _ c.put.result _ c.requires.placed c.requires.typed e (λ k h. h) c.put.ensures

pub returns-in_ok-a-in-One-clause-term : goal.returns-in_ok-a-in-One-clause-term
returns-in_ok-a-in-One-clause-term t c =
    let e : view_expression c.args.source.now.tables c.args.e.now ≡ x_one c.in-One.kind c.in-One.ty (view_expression c.args.source.now.tables c.deref-in-One.result.now) = search rules in
    told_ok c.args.source.now (stock_of c.args.store.now) _ c.args.slots.now c.args.p (view_expression c.args.source.now.tables c.args.e.now) _ c.make_one.result _ c.requires.placed c.requires.typed e
    (λ k h. from_one (make_one c.in-One.kind c.in-One.ty) _ _ _ _ _ _ _ _ k c.in_ok-a-in-One.ensures.term h) c.make_one.ensures

pub returns-in-Read-clause-term : goal.returns-in-Read-clause-term
returns-in-Read-clause-term t c =
    let e : view_expression c.args.source.now.tables c.args.e.now ≡ x_read c.in-Read.kind c.in-Read.ty = search rules in
    told_ok c.args.source.now (stock_of c.args.store.now) _ c.args.slots.now c.args.p (view_expression c.args.source.now.tables c.args.e.now) _ c.put-in-Read.result _ c.requires.placed c.requires.typed e (λ k h. h) c.put-in-Read.ensures

pub returns-in-Slot-clause-term : goal.returns-in-Slot-clause-term
returns-in-Slot-clause-term t c =
    let e : view_expression c.args.source.now.tables c.args.e.now ≡ x_slot c.in-Slot.k c.in-Slot.field-1 = search rules in
    told_slot c.args.source.now (stock_of c.args.store.now) c.args.slots.now c.args.p c.in-Slot.k c.in-Slot.field-1 (view_expression c.args.source.now.tables c.args.e.now) c.requires.placed c.requires.typed e

pub returns-in_ok-push-in-Load-clause-term : goal.returns-in_ok-push-in-Load-clause-term
returns-in_ok-push-in-Load-clause-term t c =
    let e : view_expression c.args.source.now.tables c.args.e.now ≡ x_load c.in-Load.ty (view_expression c.args.source.now.tables c.deref.result.now) = search rules in
    told_as c.args.source.now (stock_of c.args.store.now) _ c.args.slots.now c.args.p (view_expression c.args.source.now.tables c.args.e.now) _ c.in_ok-k-in-Load.k c.requires.placed c.requires.typed e
    (from_load c.in-Load.ty _ _ _ _ _ _ _ _ c.in_ok-k-in-Load.k c.requires.placed c.in_ok-a-in-Load.ensures.term c.in_ok-k-in-Load.ensures)

pub returns-in_ok-a-in-Cast-clause-term : goal.returns-in_ok-a-in-Cast-clause-term
returns-in_ok-a-in-Cast-clause-term t c =
    let e : view_expression c.args.source.now.tables c.args.e.now ≡ x_cast c.in-Cast.ty (view_expression c.args.source.now.tables c.deref-in-Cast.result.now) = search rules in
    told_ok c.args.source.now (stock_of c.args.store.now) _ c.args.slots.now c.args.p (view_expression c.args.source.now.tables c.args.e.now) _ c.cast_to.result _ c.requires.placed c.requires.typed e
    (λ k h. from_one (cast_to c.in-Cast.ty) _ _ _ _ _ _ _ _ k c.in_ok-a-in-Cast.ensures.term h) c.cast_to.ensures

pub returns-in_ok-b-in-Two-clause-term : goal.returns-in_ok-b-in-Two-clause-term
returns-in_ok-b-in-Two-clause-term t c =
    let e : view_expression c.args.source.now.tables c.args.e.now ≡ x_two c.in-Two.op c.in-Two.ty (view_expression c.args.source.now.tables c.deref-in-Two.result.now) (view_expression c.args.source.now.tables c.deref-in-Two-2.result.now) = search rules in
    told_ok c.args.source.now (stock_of c.args.store.now) _ c.args.slots.now c.args.p (view_expression c.args.source.now.tables c.args.e.now) _ c.make_two.result _ c.requires.placed c.requires.typed e
    (λ k h. from_two (make_two (kind_of c.in-Two.op) c.in-Two.ty) _ _ _ _ _ _ _ _ _ _ _ k c.requires.placed c.in_ok-a-in-Two.ensures.term c.in_ok-b-in-Two.ensures.term h) c.make_two.ensures

pub choose-requires-clause-condition : goal.choose-requires-clause-condition
choose-requires-clause-condition t c =
    term_grown _ _ _ (grows_on _ _ _ c.in_ok-a-in-Choose.ensures.term.has.grows c.in_ok-b-in-Choose.ensures.term.has.grows) c.in_ok-c-in-Choose.ensures.term.made.term

pub choose-requires-clause-first : goal.choose-requires-clause-first
choose-requires-clause-first t c = term_grown _ _ _ c.in_ok-b-in-Choose.ensures.term.has.grows c.in_ok-a-in-Choose.ensures.term.made.term

pub returns-in_ok-b-in-Choose-clause-term : goal.returns-in_ok-b-in-Choose-clause-term
returns-in_ok-b-in-Choose-clause-term t c =
    let e : view_expression c.args.source.now.tables c.args.e.now ≡ x_choose c.in-Choose.ty (view_expression c.args.source.now.tables c.deref-in-Choose.result.now) (view_expression c.args.source.now.tables c.deref-in-Choose-2.result.now) (view_expression c.args.source.now.tables c.deref-in-Choose-3.result.now) = search rules in
    told_ok c.args.source.now (stock_of c.args.store.now) _ c.args.slots.now c.args.p (view_expression c.args.source.now.tables c.args.e.now) _ c.choose.result _ c.requires.placed c.requires.typed e
    (λ k h. from_three (λ u v w. make_mux c.in-Choose.ty (condition u) v w) _ _ _ _ _ _ _ _ _ _ _ _ _ _ k c.requires.placed c.in_ok-c-in-Choose.ensures.term c.in_ok-a-in-Choose.ensures.term c.in_ok-b-in-Choose.ensures.term h) c.choose.ensures

pub returns-in_ok-a-in-Entry-clause-term : goal.returns-in_ok-a-in-Entry-clause-term
returns-in_ok-a-in-Entry-clause-term t c =
    let e : view_expression c.args.source.now.tables c.args.e.now ≡ x_entry c.in-Entry.table (patterns_of c.args.source.now.tables c.in-Entry.table) c.in-Entry.ty (view_expression c.args.source.now.tables c.deref-in-Entry.result.now) = search rules in
    told_ok c.args.source.now (stock_of c.args.store.now) _ c.args.slots.now c.args.p (view_expression c.args.source.now.tables c.args.e.now) _ c.make_entry.result _ c.requires.placed c.requires.typed e
    (λ k h. from_entry c.in-Entry.table c.in-Entry.ty _ _ _ _ _ _ _ _ k c.requires.placed c.in_ok-a-in-Entry.ensures.term h) c.make_entry.ensures

-- ---- loads
pub returns-in-Const-clause-loads : goal.returns-in-Const-clause-loads
returns-in-Const-clause-loads t c =
    let e : view_expression c.args.source.now.tables c.args.e.now ≡ x_const c.in-Const.ty c.in-Const.bits.raw = search rules in
    none_told _ _ (map (at (stock_of c.args.store.now)) c.args.slots.now) (at (stock_of c.args.store.now) c.args.p) (view_expression c.args.source.now.tables c.args.e.now) _ c.put.result e refl

pub returns-in-Read-clause-loads : goal.returns-in-Read-clause-loads
returns-in-Read-clause-loads t c =
    let e : view_expression c.args.source.now.tables c.args.e.now ≡ x_read c.in-Read.kind c.in-Read.ty = search rules in
    none_told _ _ (map (at (stock_of c.args.store.now)) c.args.slots.now) (at (stock_of c.args.store.now) c.args.p) (view_expression c.args.source.now.tables c.args.e.now) _ c.put-in-Read.result e refl

pub returns-in-Slot-clause-loads : goal.returns-in-Slot-clause-loads
returns-in-Slot-clause-loads t c =
    let e : view_expression c.args.source.now.tables c.args.e.now ≡ x_slot c.in-Slot.k c.in-Slot.field-1 = search rules in
    nothing_at _ _ (map (at (stock_of c.args.store.now)) c.args.slots.now) (at (stock_of c.args.store.now) c.args.p) (view_expression c.args.source.now.tables c.args.e.now) _ e refl

pub returns-in_ok-push-in-Load-clause-loads : goal.returns-in_ok-push-in-Load-clause-loads
returns-in_ok-push-in-Load-clause-loads t c =
    let e : view_expression c.args.source.now.tables c.args.e.now ≡ x_load c.in-Load.ty (view_expression c.args.source.now.tables c.deref.result.now) = search rules in
    load_told c.in-Load.ty c.args.source.now (stock_of c.args.store.now) _ _ _ _ _ c.args.slots.now c.args.p (view_expression c.args.source.now.tables c.args.e.now) _ _ _ e c.requires.placed c.in_ok-a-in-Load.ensures.term c.in_ok-k-in-Load.ensures c.in_ok-a-in-Load.ensures.loads c.in_ok-push-in-Load.ensures.items

pub returns-in_ok-a-in-One-clause-loads : goal.returns-in_ok-a-in-One-clause-loads
returns-in_ok-a-in-One-clause-loads t c =
    let e : view_expression c.args.source.now.tables c.args.e.now ≡ x_one c.in-One.kind c.in-One.ty (view_expression c.args.source.now.tables c.deref-in-One.result.now) = search rules in
    on_from c.make_one.result _ _ (λ k h. one_told _ _ _ _ (map (at (stock_of c.args.store.now)) c.args.slots.now) (at (stock_of c.args.store.now) c.args.p) (view_expression c.args.source.now.tables c.args.e.now) (x_one c.in-One.kind c.in-One.ty (view_expression c.args.source.now.tables c.deref-in-One.result.now)) (view_expression c.args.source.now.tables c.deref-in-One.result.now) e refl h.grows c.in_ok-a-in-One.ensures.loads) c.make_one.ensures

pub returns-in_ok-a-in-Cast-clause-loads : goal.returns-in_ok-a-in-Cast-clause-loads
returns-in_ok-a-in-Cast-clause-loads t c =
    let e : view_expression c.args.source.now.tables c.args.e.now ≡ x_cast c.in-Cast.ty (view_expression c.args.source.now.tables c.deref-in-Cast.result.now) = search rules in
    on_from c.cast_to.result _ _ (λ k h. one_told _ _ _ _ (map (at (stock_of c.args.store.now)) c.args.slots.now) (at (stock_of c.args.store.now) c.args.p) (view_expression c.args.source.now.tables c.args.e.now) (x_cast c.in-Cast.ty (view_expression c.args.source.now.tables c.deref-in-Cast.result.now)) (view_expression c.args.source.now.tables c.deref-in-Cast.result.now) e refl h.grows c.in_ok-a-in-Cast.ensures.loads) c.cast_to.ensures

pub returns-in_ok-a-in-Entry-clause-loads : goal.returns-in_ok-a-in-Entry-clause-loads
returns-in_ok-a-in-Entry-clause-loads t c =
    let e : view_expression c.args.source.now.tables c.args.e.now ≡ x_entry c.in-Entry.table (patterns_of c.args.source.now.tables c.in-Entry.table) c.in-Entry.ty (view_expression c.args.source.now.tables c.deref-in-Entry.result.now) = search rules in
    on_from c.make_entry.result _ _ (λ k h. one_told _ _ _ _ (map (at (stock_of c.args.store.now)) c.args.slots.now) (at (stock_of c.args.store.now) c.args.p) (view_expression c.args.source.now.tables c.args.e.now) (x_entry c.in-Entry.table (patterns_of c.args.source.now.tables c.in-Entry.table) c.in-Entry.ty (view_expression c.args.source.now.tables c.deref-in-Entry.result.now)) (view_expression c.args.source.now.tables c.deref-in-Entry.result.now) e refl h.grows c.in_ok-a-in-Entry.ensures.loads) c.make_entry.ensures

pub returns-in_ok-b-in-Two-clause-loads : goal.returns-in_ok-b-in-Two-clause-loads
returns-in_ok-b-in-Two-clause-loads t c =
    let e : view_expression c.args.source.now.tables c.args.e.now ≡ x_two c.in-Two.op c.in-Two.ty (view_expression c.args.source.now.tables c.deref-in-Two.result.now) (view_expression c.args.source.now.tables c.deref-in-Two-2.result.now) = search rules in
    on_from c.make_two.result _ _
    (λ k h. two_told c.args.source.now (stock_of c.args.store.now) _ _ _ _ _ _ c.args.slots.now c.args.p (view_expression c.args.source.now.tables c.args.e.now) (x_two c.in-Two.op c.in-Two.ty (view_expression c.args.source.now.tables c.deref-in-Two.result.now) (view_expression c.args.source.now.tables c.deref-in-Two-2.result.now)) (view_expression c.args.source.now.tables c.deref-in-Two.result.now) (view_expression c.args.source.now.tables c.deref-in-Two-2.result.now) e refl c.requires.placed c.in_ok-a-in-Two.ensures.term.has.grows c.in_ok-b-in-Two.ensures.term.has.grows h.grows
    c.in_ok-a-in-Two.ensures.loads c.in_ok-b-in-Two.ensures.loads) c.make_two.ensures

pub returns-in_ok-b-in-Choose-clause-loads : goal.returns-in_ok-b-in-Choose-clause-loads
returns-in_ok-b-in-Choose-clause-loads t c =
    let e : view_expression c.args.source.now.tables c.args.e.now ≡ x_choose c.in-Choose.ty (view_expression c.args.source.now.tables c.deref-in-Choose.result.now) (view_expression c.args.source.now.tables c.deref-in-Choose-2.result.now) (view_expression c.args.source.now.tables c.deref-in-Choose-3.result.now) = search rules in
    on_from c.choose.result _ _
    (λ k h. three_told c.args.source.now (stock_of c.args.store.now) _ _ _ _ _ _ _ _ c.args.slots.now c.args.p (view_expression c.args.source.now.tables c.args.e.now) (x_choose c.in-Choose.ty (view_expression c.args.source.now.tables c.deref-in-Choose.result.now) (view_expression c.args.source.now.tables c.deref-in-Choose-2.result.now) (view_expression c.args.source.now.tables c.deref-in-Choose-3.result.now)) (view_expression c.args.source.now.tables c.deref-in-Choose.result.now) (view_expression c.args.source.now.tables c.deref-in-Choose-2.result.now) (view_expression c.args.source.now.tables c.deref-in-Choose-3.result.now) e refl c.requires.placed c.in_ok-c-in-Choose.ensures.term.has.grows c.in_ok-a-in-Choose.ensures.term.has.grows
    c.in_ok-b-in-Choose.ensures.term.has.grows h.grows c.in_ok-c-in-Choose.ensures.loads c.in_ok-a-in-Choose.ensures.loads c.in_ok-b-in-Choose.ensures.loads) c.choose.ensures
