use Rattle.std.proofs.Common.{sym, refl}
use Rattle.rv_watch.specs.Watched.{setting_of}
use Rattle.rv_audit.proofs.Told.{never, fit_of, owing_of}
use Rattle.rv_audit.proofs.judging.behind_stop.Goals as goal

pub returns-then-not-holds_behind : goal.returns-then-not-holds_behind
returns-then-not-holds_behind c = λ rows watched stop moves.
    let a = c.args.against.now in
    let k = setting_of a in
    let w = c.args.watch.now in
    let fit = fit_of a c.settings_fit.ensures c.requires.fits in
    let asked = c.asked_at_read-asks.ensures in
    let stopper = c.stopper-stopped.ensures rows (sym watched.before) in
    let owing = owing_of a rows w watched c.owing_facts.ensures fit in
    let ready = c.ready-known.ensures a rows watched in
    λ holds. never (c.if-not-holds_behind.ensures.all k rows refl fit.registers fit.plain watched.lawful stop moves asked stopper owing holds)

pub returns-then-not-fetches_rightly : goal.returns-then-not-fetches_rightly
returns-then-not-fetches_rightly c = λ rows watched stop moves.
    let a = c.args.against.now in
    let k = setting_of a in
    let w = c.args.watch.now in
    let fit = fit_of a c.settings_fit.ensures c.requires.fits in
    let asked = c.asked_at_read-asks.ensures in
    let stopper = c.stopper-stopped.ensures rows (sym watched.before) in
    let owing = owing_of a rows w watched c.owing_facts.ensures fit in
    let ready = c.ready-known.ensures a rows watched in
    (c.if-not-holds_behind.ensures.only k rows refl fit.registers fit.plain watched.lawful stop moves asked stopper owing refl, λ fetches. never ((c.if-not-fetches_rightly.ensures k rows refl refl (sym watched.before) ready).1 fetches))

pub returns-then-not-succeeds_behind : goal.returns-then-not-succeeds_behind
returns-then-not-succeeds_behind c = λ rows watched stop moves.
    let a = c.args.against.now in
    let k = setting_of a in
    let w = c.args.watch.now in
    let fit = fit_of a c.settings_fit.ensures c.requires.fits in
    let asked = c.asked_at_read-asks.ensures in
    let stopper = c.stopper-stopped.ensures rows (sym watched.before) in
    let owing = owing_of a rows w watched c.owing_facts.ensures fit in
    let ready = c.ready-known.ensures a rows watched in
    let fetches = (c.if-not-fetches_rightly.ensures k rows refl refl (sym watched.before) ready).0 refl in
    (c.if-not-holds_behind.ensures.only k rows refl fit.registers fit.plain watched.lawful stop moves asked stopper owing refl, fetches, λ succeeds. never ((c.if-not-succeeds_behind.ensures k rows fit.plain watched.lawful stop moves fetches).1 succeeds))

pub returns-then-not-unit_rightly : goal.returns-then-not-unit_rightly
returns-then-not-unit_rightly c = λ rows watched stop moves.
    let a = c.args.against.now in
    let k = setting_of a in
    let w = c.args.watch.now in
    let fit = fit_of a c.settings_fit.ensures c.requires.fits in
    let asked = c.asked_at_read-asks.ensures in
    let stopper = c.stopper-stopped.ensures rows (sym watched.before) in
    let owing = owing_of a rows w watched c.owing_facts.ensures fit in
    let ready = c.ready-known.ensures a rows watched in
    let fetches = (c.if-not-fetches_rightly.ensures k rows refl refl (sym watched.before) ready).0 refl in
    (c.if-not-holds_behind.ensures.only k rows refl fit.registers fit.plain watched.lawful stop moves asked stopper owing refl, fetches, (c.if-not-succeeds_behind.ensures k rows fit.plain watched.lawful stop moves fetches).0 refl, λ units. never ((c.if-not-unit_rightly.ensures k rows ready).1 units))

pub returns : goal.returns
returns c = λ rows watched stop moves.
    let a = c.args.against.now in
    let k = setting_of a in
    let w = c.args.watch.now in
    let fit = fit_of a c.settings_fit.ensures c.requires.fits in
    let asked = c.asked_at_read-asks.ensures in
    let stopper = c.stopper-stopped.ensures rows (sym watched.before) in
    let owing = owing_of a rows w watched c.owing_facts.ensures fit in
    let ready = c.ready-known.ensures a rows watched in
    let fetches = (c.if-not-fetches_rightly.ensures k rows refl refl (sym watched.before) ready).0 refl in
    (c.if-not-holds_behind.ensures.only k rows refl fit.registers fit.plain watched.lawful stop moves asked stopper owing refl, fetches, (c.if-not-succeeds_behind.ensures k rows fit.plain watched.lawful stop moves fetches).0 refl, (c.if-not-unit_rightly.ensures k rows ready).0 refl)
