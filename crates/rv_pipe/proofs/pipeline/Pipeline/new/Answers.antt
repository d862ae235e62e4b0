use Rattle.std.proofs.Common.{◌≡◌, ◌∙◌, refl, ℕ, List, Bor, Option, None, Some}
use Rattle.std.specs.Option.{option_copied}
use Rattle.std.specs.Prelude.{is_some}
use Rattle.rv_engine.specs.Settings.{setting}
use Rattle.rv_pipe.proofs.FewUnits.{few_units}
use Rattle.rv_pipe.proofs.Sound.{steady_first}
use Rattle.rv_pipe.proofs.pipeline.Pipeline.new.Goals as goal

line_or : (o : Option (Bor (List ℕ))) → is_some o ≡ is_some (option_copied o)
line_or None = refl
line_or (Some l) = refl

pub invariant_of-result : goal.invariant_of-result
invariant_of-result c =
    rw (c.as_slice.ensures.words)
    (steady_first (setting c.args.design.now c.args.image.now c.args.waits.now (option_copied c.args.lines)) c.in_ok-asking.asking c.in_ok-scratch.scratch c.in_ok-kept.kept c.requires.stands.well_formed c.requires.stands.sheet c.in_ok-asking.ensures.asking
    c.in_ok-scratch.ensures (c.in_ok-kept.ensures.machine c.args.image.now c.args.waits.now (option_copied c.args.lines) (c.is_some.ensures ∙ line_or c.args.lines)) (c.in_ok-kept.ensures.fit c.args.image.now c.args.waits.now (option_copied c.args.lines)) c.in_ok-kept.ensures.units)

pub returns-clause-machine : goal.returns-clause-machine
returns-clause-machine c = c.in_ok-kept.ensures.machine c.args.image.now c.args.waits.now (option_copied c.args.lines) (c.is_some.ensures ∙ line_or c.args.lines)

pub asking_of-requires : goal.asking_of-requires
asking_of-requires c = record { few = few_units c.args.design.now c.behaviour_laws.ensures.few c.requires.stands }

pub first_kept-requires-clause-units : goal.first_kept-requires-clause-units
first_kept-requires-clause-units c = (c.sight_laws.ensures.units c.args.design.now c.requires.stands).units
