use Rattle.std.proofs.Common.{sym, ◌∙◌}
use Rattle.std.proofs.lemmas.Bool.{false≢true}
use Rattle.std.proofs.lemmas.Option.{MatchOption-at_some}
use Rattle.ix_vnets.specs.Forms.{IsFormOf, IsNoForm}
use Rattle.ix_vnets.proofs.Bridging.{no_cell}
use Rattle.ix_vnets.proofs.lines.cell_of.Goals as goal

pub returns-then-not-fits : goal.returns-then-not-fits
returns-then-not-fits c =
    let r = c.args.assign.now.right in
    let f : IsFormOf r c.in-Some-2.form = MatchOption-at_some (IsNoForm r) (IsFormOf r) c.in-Some-2.form c.in-Some-2.is c.in_ok-form.ensures in
    no_cell c.args.widths.now c.args.assign.now c.in-Some.width c.in-Some-2.form (sym c.width_of.ensures ∙ c.in-Some.is) f (λ h. false≢true (sym c.if-not-fits.true ∙ c.fits.ensures.1 h))
