use Rattle.std.proofs.Common.{◌∙◌, ap, sym, subst, refl, length}
use Rattle.ix_mean.specs.Meaning.{run}
use Rattle.ix_mean.specs.Core.{Statement}
use Rattle.ix_mean.specs.Given.{inputs_of, numbers_of, IsTypedStatementAt}
use Rattle.ix_mean.proofs.Executing.{block_view, all_done, set_typed, set_types, set_numbers, put_numbers}
use Rattle.ix_mean.proofs.evaluate.+statements.Goals as goal

pub execute-returns-in-Set-clause-types : goal.execute-returns-in-Set-clause-types
execute-returns-in-Set-clause-types g t c =
    let h = set_typed c.args.tables.now _ c.args.x.now c.in-Set.k c.in-Set.ty c.in-Set.e c.in-Set.is c.requires.typed.typed in
    set_types c.args.slots.now c.in-Set.k c.embedded-value.result (h ∙ sym c.embedded-value.ensures.ty)

pub execute-returns-in-Set-clause-effect : goal.execute-returns-in-Set-clause-effect
execute-returns-in-Set-clause-effect g t c = λ m h.
    rw c.in-Set.is (set_numbers c.args.slots.now c.args.targets.now c.in-Set.k c.embedded-value.result _ (c.embedded-value.ensures.number ∙ c.number.ensures.number m h))

pub execute-returns-in-Write-clause-effect : goal.execute-returns-in-Write-clause-effect
execute-returns-in-Write-clause-effect g t c = λ m h.
    rw c.in-Write.is (put_numbers c.args.slots.now c.args.targets.now c.in-Write.w.target _ _ _
    (c.embedded-value-in-Write.ensures.number ∙ c.number-in-Write.ensures.number m h)
    (c.embedded-address.ensures.number ∙ c.number-in-Write-2.ensures.number m h))

pub execute_all-loop-x-init : goal.execute_all-loop-x-init
execute_all-loop-x-init g t c = record {
  typed = subst (IsTypedStatementAt c.args.state.now c.args.slots.now (length c.args.targets.now)) (block_view c.args.tables.now c.args.all.now) c.requires.typed;
  types = refl;
  effect = λ m h. refl;
}

pub execute_all-returns-clause-effect : goal.execute_all-returns-clause-effect
execute_all-returns-clause-effect g t c = λ m h.
    let i = inputs_of c.args.state.now m in
    all_done c.args.tables.now i c.args.all.now c.loop-x.x-index (numbers_of c.loop-x.slots c.loop-x.targets) c.loop-x-test.false
    ∙ c.loop-x.invariant.effect m h
    ∙ ap (λ (x : Statement). run i x (numbers_of c.args.slots.now c.args.targets.now)) (sym (block_view c.args.tables.now c.args.all.now))
