use Rattle.std.proofs.Common.{◌∙◌, sym, subst}
use Rattle.rv_wave.specs.Sent.{HasPassed}
use Rattle.rv_wave.proofs.Sending.{was_passed, was_broken, stays_broken, passes_on, breaks_here}
use Rattle.rv_wave.proofs.writing.show_row.Goals as goal

pub returns-then-not-going-clause-sent : goal.returns-then-not-going-clause-sent
returns-then-not-going-clause-sent g c = λ row earlier modules first faults are step sent.
    let k = c.args.machine.now.setting in
    let told = g.S.Sink.written c.args.sink.now in
    let count = g.S.Sink.faults c.args.sink.now in
    stays_broken k row earlier c.args.machine.now.rows modules c.args.machine.now.modules are step first told faults count
    (was_broken k earlier modules c.args.before.now first told c.args.out.now faults count c.args.going c.if-not-going.true sent)

pub returns-in-Ok-clause-sent : goal.returns-in-Ok-clause-sent
returns-in-Ok-clause-sent g c = λ row earlier modules first faults are step sent.
    let k = c.args.machine.now.setting in
    let told = g.S.Sink.written c.args.sink.now in
    let count = g.S.Sink.faults c.args.sink.now in
    let told_now = g.S.Sink.written c.write_row.new.sink in
    let count_now = g.S.Sink.faults c.write_row.new.sink in
    subst (λ values. HasPassed k c.args.machine.now.rows c.args.machine.now.modules values first told_now c.write_row.new.out faults count_now) (sym c.copy_from_slice.ensures.after)
    (passes_on k row earlier c.args.machine.now.rows modules c.args.machine.now.modules are step c.args.number c.requires.number c.requires.as_many c.args.before.now c.read_ports.new.now
    (c.read_ports.ensures.long ∙ c.requires.now) c.read_ports.ensures.values c.read_ports.ensures.widths first told told_now c.args.out.now faults count count_now
    (was_passed k earlier modules c.args.before.now first told c.args.out.now faults count c.args.going c.if-not-going.false sent) c.write_row.new.out c.in-Ok.ensures.whole c.write_row.ensures.never_fell)

pub returns-in-Err-clause-sent : goal.returns-in-Err-clause-sent
returns-in-Err-clause-sent g c = λ row earlier modules first faults are step sent.
    let k = c.args.machine.now.setting in
    let told = g.S.Sink.written c.args.sink.now in
    let count = g.S.Sink.faults c.args.sink.now in
    let told_now = g.S.Sink.written c.write_row.new.sink in
    let count_now = g.S.Sink.faults c.write_row.new.sink in
    breaks_here k row earlier c.args.machine.now.rows modules c.args.machine.now.modules are step c.args.number c.requires.number c.requires.as_many c.args.before.now c.read_ports.new.now
    (c.read_ports.ensures.long ∙ c.requires.now) c.read_ports.ensures.values c.read_ports.ensures.widths first told told_now c.args.out.now faults count count_now
    (was_passed k earlier modules c.args.before.now first told c.args.out.now faults count c.args.going c.if-not-going.false sent) c.in-Err.ensures.front c.in-Err.ensures.fault
