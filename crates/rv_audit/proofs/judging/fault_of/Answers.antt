use Rattle.std.proofs.Common.{sym, refl, ◌∙◌}
use Rattle.rv_watch.specs.Watched.{setting_of}
use Rattle.rv_audit.proofs.Told.{never, fit_of, on_of, owing_of}
use Rattle.rv_audit.proofs.judging.fault_of.Goals as goal

pub returns-then-not-fetches_rightly : goal.returns-then-not-fetches_rightly
returns-then-not-fetches_rightly c = λ rows watched going moves knows.
    let a = c.args.against.now in
    let k = setting_of a in
    let w = c.args.watch.now in
    let fit = fit_of a c.settings_fit.ensures c.requires.fits in
    let owed = c.as_slice-owed.ensures.value ∙ watched.owing.owed in (
      c.if-not-holds_rightly.ensures.only k rows refl fit.registers fit.plain (on_of a rows w watched going) moves knows owed (owing_of a rows w watched c.owing_facts.ensures fit) refl,
      λ fetches. never ((c.if-not-fetches_rightly.ensures k rows refl refl (sym watched.before) knows.ready).1 fetches),
    )

pub returns-then-not-succeeds_rightly : goal.returns-then-not-succeeds_rightly
returns-then-not-succeeds_rightly c = λ rows watched going moves knows.
    let a = c.args.against.now in
    let k = setting_of a in
    let w = c.args.watch.now in
    let fit = fit_of a c.settings_fit.ensures c.requires.fits in
    let owed = c.as_slice-owed.ensures.value ∙ watched.owing.owed in (
      c.if-not-holds_rightly.ensures.only k rows refl fit.registers fit.plain (on_of a rows w watched going) moves knows owed (owing_of a rows w watched c.owing_facts.ensures fit) refl,
      (c.if-not-fetches_rightly.ensures k rows refl refl (sym watched.before) knows.ready).0 refl,
      λ succeeds. never ((c.if-not-succeeds_rightly.ensures k rows refl fit.plain knows).1 succeeds),
    )

pub returns-then-not-unit_rightly : goal.returns-then-not-unit_rightly
returns-then-not-unit_rightly c = λ rows watched going moves knows.
    let a = c.args.against.now in
    let k = setting_of a in
    let w = c.args.watch.now in
    let fit = fit_of a c.settings_fit.ensures c.requires.fits in
    let owed = c.as_slice-owed.ensures.value ∙ watched.owing.owed in (
      c.if-not-holds_rightly.ensures.only k rows refl fit.registers fit.plain (on_of a rows w watched going) moves knows owed (owing_of a rows w watched c.owing_facts.ensures fit) refl,
      (c.if-not-fetches_rightly.ensures k rows refl refl (sym watched.before) knows.ready).0 refl,
      (c.if-not-succeeds_rightly.ensures k rows refl fit.plain knows).0 refl,
      λ units. never ((c.if-not-unit_rightly.ensures k rows knows.ready).1 units),
    )

pub returns-then-not-stops_rightly : goal.returns-then-not-stops_rightly
returns-then-not-stops_rightly c = λ rows watched going moves knows.
    let a = c.args.against.now in
    let k = setting_of a in
    let w = c.args.watch.now in
    let fit = fit_of a c.settings_fit.ensures c.requires.fits in
    let on = on_of a rows w watched going in
    let owing = owing_of a rows w watched c.owing_facts.ensures fit in
    let owed = c.as_slice-owed.ensures.value ∙ watched.owing.owed in
    let fetches = (c.if-not-fetches_rightly.ensures k rows refl refl (sym watched.before) knows.ready).0 refl in
    let succeeds = (c.if-not-succeeds_rightly.ensures k rows refl fit.plain knows).0 refl in
    let units = (c.if-not-unit_rightly.ensures k rows knows.ready).0 refl in
    let held = c.is_held-held.ensures k rows refl fit.registers fit.plain on moves knows owed owing in (
      c.if-not-holds_rightly.ensures.only k rows refl fit.registers fit.plain on moves knows owed owing refl,
      fetches,
      succeeds,
      units,
      λ stops. never ((c.if-not-stops_rightly.ensures k rows refl refl fit.plain fit.units.empty watched.lawful (sym watched.before) knows moves fetches (λ e. succeeds) units (λ e. held)).1 stops),
    )

pub returns : goal.returns
returns c = λ rows watched going moves knows.
    let a = c.args.against.now in
    let k = setting_of a in
    let w = c.args.watch.now in
    let fit = fit_of a c.settings_fit.ensures c.requires.fits in
    let on = on_of a rows w watched going in
    let owing = owing_of a rows w watched c.owing_facts.ensures fit in
    let owed = c.as_slice-owed.ensures.value ∙ watched.owing.owed in
    let fetches = (c.if-not-fetches_rightly.ensures k rows refl refl (sym watched.before) knows.ready).0 refl in
    let succeeds = (c.if-not-succeeds_rightly.ensures k rows refl fit.plain knows).0 refl in
    let units = (c.if-not-unit_rightly.ensures k rows knows.ready).0 refl in
    let held = c.is_held-held.ensures k rows refl fit.registers fit.plain on moves knows owed owing in (
      c.if-not-holds_rightly.ensures.only k rows refl fit.registers fit.plain on moves knows owed owing refl,
      fetches,
      succeeds,
      units,
      (c.if-not-stops_rightly.ensures k rows refl refl fit.plain fit.units.empty watched.lawful (sym watched.before) knows moves fetches (λ e. succeeds) units (λ e. held)).0 refl,
    )
