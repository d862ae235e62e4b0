use Rattle.std.proofs.Common.{◌∙◌, sym, ap, subst, ℕ, ◌≤◌, List, [], length, All, arith}
use Rattle.std.proofs.lemmas.List.{length-map}
use Rattle.ix_extension.specs.Extensions.{view_extension}
use Rattle.rv_watch.specs.Printed.{width_of}
use Rattle.rv_audit.proofs.Ending.{narrow}
use Rattle.rv_audit.proofs.auditing.read_text.Goals as goal

pub read_trace-requires-clause-stages : goal.read_trace-requires-clause-stages
read_trace-requires-clause-stages c =
    let most = (c.settings_fit.ensures c.args.design.now [] [] c.requires.stands).plain.most in
    let same = c.from-stages.ensures in
    omega (arith, most, same)

pub read_trace-requires-clause-few : goal.read_trace-requires-clause-few
read_trace-requires-clause-few c =
    let x = view_extension c.args.design.now.extension in
    let well = c.requires.stands.well_formed in
    let few = (c.behaviour_laws.ensures.few well.0 x well.1).registers in
    let same = ap (λ (l : List ℕ). length l) (c.as_slice.ensures ∙ c.in-Ok.ensures) in
    let count = length-map x.registers width_of in
    omega (arith, few, same, count)

pub read_trace-requires-clause-narrow : goal.read_trace-requires-clause-narrow
read_trace-requires-clause-narrow c =
    subst (λ l. All (λ w. w ≤ 128) l) (sym (c.as_slice.ensures ∙ c.in-Ok.ensures)) (λ n d lt. narrow (view_extension c.args.design.now.extension).registers n d lt)
