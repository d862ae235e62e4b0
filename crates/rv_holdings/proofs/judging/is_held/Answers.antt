use Rattle.std.specs.Prelude.{Bool, is_some, get_or, None}
use Rattle.std.proofs.Common.{sym, ap, subst, ◌∙◌}
use Rattle.rv_rows.specs.Known.{IsHeld}
use Rattle.rv_holdings.specs.Expected.{own_at}
use Rattle.rv_holdings.proofs.Whole.{judged, held}
use Rattle.rv_holdings.proofs.judging.is_held.Goals as goal

pub returns : goal.returns
returns c = λ k earlier e names plain going moves knows owes owing.
    let row = c.args.row.now in
    let known = c.args.known.now in
    let owed = c.args.owed.now in
    let same = c.has_own.ensures ∙ ap (λ s. is_some (own_at c.args.shape row known owed s (get_or known.asks s None))) c.from.ensures in
    subst (λ (b : Bool). IsHeld k earlier row b) (sym same)
    (held k earlier row known owed c.args.shape e (judged k earlier row known owed c.row_facts.ensures names plain going moves knows owes owing))
