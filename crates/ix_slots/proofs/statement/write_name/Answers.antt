use Rattle.std.proofs.Common.{◌≡◌, ◌∙◌, ap, sym, subst, Option, option_map, IfOk}
use Rattle.ix_mean.specs.Core.{Statement}
use Rattle.ix_mean.specs.View.{view_expression, view_statement}
use Rattle.ix_mean.specs.ByName.{Numbered, register_in}
use Rattle.ix_mean.specs.Resolving.{Slot, slot_in}
use Rattle.ix_mean.specs.ResolvingStatements.{register_written, name_written}
use Rattle.ix_slots.specs.declared.names.Custom.{Custom}
use Rattle.ix_slots.specs.Found.{numbered}
use Rattle.ix_slots.proofs.Resolves.{no_slot, custom_back}
use Rattle.ix_slots.proofs.statement.write_name.Goals as goal

pub returns-in-None-clause-body : goal.returns-in-None-clause-body
returns-in-None-clause-body c = λ tables.
    let n = c.args.name.now in
    let ns = c.args.names.now in
    let e = view_expression tables c.args.e in
    let P : Statement → Type 0 = λ s. IfOk c.write_custom.result (λ r. view_statement tables r ≡ s) in
    let found = ap (λ (o : Option Custom). option_map numbered o) c.custom.ensures ∙ custom_back (register_in 0 ns.registers n) in
    let none = no_slot (slot_in c.args.locals.now.locals n) (sym c.in-None.is ∙ c.find.ensures) in
    subst P (ap (λ (o : Option Numbered). register_written c.args.op e o) found ∙ ap (λ (o : Option Slot). name_written ns c.args.op n e o) (sym none)) (c.write_custom.ensures.body tables)
