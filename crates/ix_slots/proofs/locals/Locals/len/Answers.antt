use Rattle.std.proofs.Common.{◌≡◌, ◌∙◌, ap, sym, length, arith}
use Rattle.ix_mean.specs.ResolvingStatements.{Scope}
use Rattle.ix_slots.proofs.Keeping.{newest_length}
use Rattle.ix_slots.proofs.locals.Locals.len.Goals as goal

pub returns : goal.returns
returns c =
    let e : c.len.result ≡ length c.self.inside.items.items = omega arith in
    e ∙ sym (newest_length c.self.inside.items.items) ∙ ap (λ (s : Scope). length s.locals) c.self.view_is
