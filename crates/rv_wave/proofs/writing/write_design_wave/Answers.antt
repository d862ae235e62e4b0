use Rattle.std.proofs.Common.{◌∙◌, sym, subst, [], None}
use Rattle.rv_engine.specs.Settings.{setting}
use Rattle.rv_nets.specs.Modules.{drivers_of}
use Rattle.rv_wave.specs.Sent.{IsSent, IsEnded}
use Rattle.rv_wave.proofs.Lawful.{all_sent, not_all_sent, on_ok}
use Rattle.rv_wave.proofs.writing.write_design_wave.Goals as goal

pub returns-clause-whole : goal.returns-clause-whole
returns-clause-whole g c =
    let d = c.args.design.now in
    let k = setting d c.args.image.now c.args.waits.now None in
    let first = g.S.Sink.written c.args.sink.now in
    let faults = g.S.Sink.faults c.args.sink.now in
    let headed = c.begin-headed in
    let made = c.in-Ok-new in
    let before = c.deref_mut.result.now in
    let went = c.write_rows-going in
    let after = went.new.machine in
    let begun : IsSent headed.result k [] (drivers_of d) before first (g.S.Sink.written headed.new.sink) headed.new.out faults (g.S.Sink.faults headed.new.sink) = headed.ensures k before (sym c.as_slice-2.ensures) in
    let ready : IsSent headed.result made.machine.setting [] made.machine.modules before first (g.S.Sink.written headed.new.sink) headed.new.out faults (g.S.Sink.faults headed.new.sink) =
    subst (λ s. IsSent headed.result s [] made.machine.modules before first (g.S.Sink.written headed.new.sink) headed.new.out faults (g.S.Sink.faults headed.new.sink)) (sym made.ensures.setting)
    (subst (λ m. IsSent headed.result k [] m before first (g.S.Sink.written headed.new.sink) headed.new.out faults (g.S.Sink.faults headed.new.sink)) (sym made.ensures.modules) begun) in
    let ended : IsEnded c.end.result after.setting after.rows after.modules first (g.S.Sink.written c.end.new.sink) faults (g.S.Sink.faults c.end.new.sink) =
    c.end.ensures after.setting after.rows after.modules went.new.before first faults (went.ensures.sent first faults ready) in
    on_ok c.told.result c.told.ensures.whole
    (all_sent c.nets_law.ensures.each d c.args.image.now c.args.waits.now after.setting c.args.cycles after.rows after.modules first (g.S.Sink.written c.end.new.sink) faults (g.S.Sink.faults c.end.new.sink) (went.ensures.setting ∙ made.ensures.setting) c.requires.stands went.ensures.are_rows
    went.ensures.few went.ensures.whole c.end.result ended)

pub returns-clause-fault : goal.returns-clause-fault
returns-clause-fault g c =
    let d = c.args.design.now in
    let k = setting d c.args.image.now c.args.waits.now None in
    let first = g.S.Sink.written c.args.sink.now in
    let faults = g.S.Sink.faults c.args.sink.now in
    let headed = c.begin-headed in
    let made = c.in-Ok-new in
    let before = c.deref_mut.result.now in
    let went = c.write_rows-going in
    let after = went.new.machine in
    let begun : IsSent headed.result k [] (drivers_of d) before first (g.S.Sink.written headed.new.sink) headed.new.out faults (g.S.Sink.faults headed.new.sink) = headed.ensures k before (sym c.as_slice-2.ensures) in
    let ready : IsSent headed.result made.machine.setting [] made.machine.modules before first (g.S.Sink.written headed.new.sink) headed.new.out faults (g.S.Sink.faults headed.new.sink) =
    subst (λ s. IsSent headed.result s [] made.machine.modules before first (g.S.Sink.written headed.new.sink) headed.new.out faults (g.S.Sink.faults headed.new.sink)) (sym made.ensures.setting)
    (subst (λ m. IsSent headed.result k [] m before first (g.S.Sink.written headed.new.sink) headed.new.out faults (g.S.Sink.faults headed.new.sink)) (sym made.ensures.modules) begun) in
    let ended : IsEnded c.end.result after.setting after.rows after.modules first (g.S.Sink.written c.end.new.sink) faults (g.S.Sink.faults c.end.new.sink) =
    c.end.ensures after.setting after.rows after.modules went.new.before first faults (went.ensures.sent first faults ready) in
    λ e. not_all_sent c.nets_law.ensures.each d c.args.image.now c.args.waits.now after.setting c.args.cycles after.rows after.modules first (g.S.Sink.written c.end.new.sink) faults (g.S.Sink.faults c.end.new.sink) (went.ensures.setting ∙ made.ensures.setting) c.requires.stands went.ensures.are_rows
    went.ensures.few went.ensures.whole c.end.result ended (c.told.ensures.fault e)
