use Rattle.std.proofs.Common.{◌≡◌, sym, subst, ℕ, length, Result, OnOk, arith}
use Rattle.ix_bits.specs.declared.memory.Memory.{Memory}
use Rattle.ix_slots.specs.Kept.{scope_of, with_local}
use Rattle.ix_slots.proofs.Keeping.{scope_push}
use Rattle.ix_slots.proofs.locals.Locals.add.Goals as goal
use Rattle.ix_slots.proofs.locals.Locals.add.Goals.{in-Ok-push, in-Err-push}

pub returns-after-push-clause-scope : goal.returns-after-push-clause-scope
returns-after-push-clause-scope c =
    let items = c.self.inside.items.items in
    let now = c.put.new.items.items in
    let slots = c.self.inside.slots.items in
    let new = c.push.new.self.items in
    let next : c.len-slot.result ≡ length slots = omega arith in
    let P : Result ℕ Memory → Type 0 = λ r. OnOk r (scope_of now new ≡ with_local c.args.self.now c.args.name c.args.ty) in
    elim c.match-push.branch [
      | in-Ok-push w ↦ subst P (sym w.result-is)
          (scope_push items now slots new c.args.self.now c.args.name c.args.ty c.len-slot.result c.in-Ok.ensures.items w.in-Ok-push.ensures.items next c.self.view_is)
      | in-Err-push w ↦ subst P (sym w.result-is) tt
    ]
