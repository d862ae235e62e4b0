use Rattle.std.proofs.Common.{◌∙◌, ◌<◌, ap, sym, subst, length, Option, ℕ}
use Rattle.std.specs.Prelude.{IfSome}
use Rattle.rv_engine.specs.Owing.{oldest_serial}
use Rattle.rv_engine.specs.Places.{without_place}
use Rattle.rv_engine.proofs.Owings.{oldest_inner, below_last}
use Rattle.rv_engine.proofs.owing.oldest_but.Goals as goal

pub returns-else-at-owed : goal.returns-else-at-owed
returns-else-at-owed c =
    let l = c.args.owed.now in
    let at = c.in-Some.at in
    let below = subst (λ (o : Option ℕ). IfSome o (λ n. n < length l)) c.in-Some.is c.requires in
    c.last_serial-else-at-owed.ensures
    ∙ oldest_inner l at (below_last at (length l) below c.if-at-owed.false)
    ∙ ap (λ (o : Option ℕ). oldest_serial (without_place o l)) (sym c.in-Some.is)
