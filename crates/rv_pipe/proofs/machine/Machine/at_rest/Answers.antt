use Rattle.std.proofs.Common.{◌<◌, ◌^◌, ◌≡◌, ◌∙◌, sym, List, ap, subst, length, arith}
use Rattle.std.specs.Prelude.{reverse}
use Rattle.rv_trace.specs.declared.row.Row.{Row}
use Rattle.rv_engine.specs.Settings.{Setting, first_machine}
use Rattle.rv_nets.specs.Modules.{drivers_of}
use Rattle.rv_pipe.proofs.FewUnits.{few_units, few_plans}
use Rattle.rv_pipe.proofs.Fitting.{fitting, as_many}
use Rattle.rv_pipe.proofs.Sound.{sound_first}
use Rattle.rv_pipe.proofs.machine.Machine.at_rest.Goals as goal

pub invariant_of-result : goal.invariant_of-result
invariant_of-result c =
    let few = c.ranges.cycles.fits in
    let fits : c.args.cycles < 2 ^ 32 = omega (arith, few) in
    let p = c.in_ok-pipeline.pipeline in
    let same = c.in_ok-pipeline.ensures.setting in
    rw (ap (λ (l : List Row). reverse l) c.in_ok-trace.ensures.rows, c.in_ok-trace.ensures.spare)
    (sound_first p.setting p.machine c.args.cycles c.in_ok-modules.modules fits (ap (λ (k : Setting). k.places) same) (c.in_ok-pipeline.ensures.machine ∙ ap (λ k. first_machine k) (sym same))
    (subst (λ (k : Setting). length k.design.plans ≡ length k.design.nets) (sym same) (as_many c.args.design.now c.requires.stands)) (c.in_ok-modules.ensures ∙ ap (λ (k : Setting). drivers_of k.design) (sym same)))

pub new-requires-3-clause-few : goal.new-requires-3-clause-few
new-requires-3-clause-few c = few_plans c.args.design.now c.behaviour_laws.ensures.few c.requires.stands

pub new-requires-3-clause-units : goal.new-requires-3-clause-units
new-requires-3-clause-units c = few_units c.args.design.now c.behaviour_laws.ensures.few c.requires.stands

pub new-requires-3-clause-fitting : goal.new-requires-3-clause-fitting
new-requires-3-clause-fitting c = fitting c.args.design.now c.requires.stands
