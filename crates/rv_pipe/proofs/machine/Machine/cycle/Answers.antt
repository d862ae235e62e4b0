use Rattle.std.proofs.Common.{◌≡◌, ◌∙◌, refl, ap, subst, arith}
use Rattle.std.specs.Prelude.{reverse, None}
use Rattle.rv_trace.specs.Trace.{newest}
use Rattle.rv_engine.specs.Settings.{Setting}
use Rattle.rv_engine.specs.Showing.{shown_of}
use Rattle.rv_machine.specs.Running.{AreRows, machine_at}
use Rattle.rv_nets.specs.Modules.{AllStep}
use Rattle.rv_pipe.specs.Machines.{Running}
use Rattle.rv_pipe.proofs.Sound.{rows_after, sound_after, stepped_after, reverse_push, plainly}
use Rattle.rv_pipe.proofs.machine.Machine.cycle.Goals as goal

pub cycle-requires : goal.cycle-requires
cycle-requires c =
    let spare = ap (λ (v : Running). v.spare) c.self.view_is in
    let count = c.self.invariant.count in
    let room = c.self.invariant.room in
    let more = c.requires.spare in
    omega (arith, spare, count, room, more)

pub invariant_of-self : goal.invariant_of-self
invariant_of-self c =
    let p = c.self.inside.pipeline in
    let going : (newest (reverse c.self.inside.trace.rows)).stop ≡ None = rw (ap (λ (v : Running). v.rows) c.self.view_is) c.requires.going in
    rw (c.cycle.ensures.setting, reverse_push c.self.inside.trace.rows c.cycle.new.row c.push.new.self.rows c.push.ensures.rows)
    (sound_after p.setting p.machine c.cycle.new.self.machine (reverse c.self.inside.trace.rows) c.cycle.new.row c.self.inside.trace.spare c.push.new.self.spare c.self.inside.modules c.step.new.self c.push.ensures.spare
    c.self.invariant going c.cycle.ensures.row c.cycle.ensures.after (subst (λ w. AllStep w c.self.inside.modules c.step.new.self) (c.cycle.ensures.shown refl) c.step.ensures))

pub returns-clause-are_rows : goal.returns-clause-are_rows
returns-clause-are_rows c =
    let p = c.self.inside.pipeline in
    let going : (newest (reverse c.self.inside.trace.rows)).stop ≡ None = rw (ap (λ (v : Running). v.rows) c.self.view_is) c.requires.going in
    rw (c.cycle.ensures.setting, reverse_push c.self.inside.trace.rows c.cycle.new.row c.push.new.self.rows c.push.ensures.rows)
    (rows_after p.setting p.machine c.cycle.new.self.machine (reverse c.self.inside.trace.rows) c.cycle.new.row c.self.inside.trace.spare c.push.new.self.spare c.self.inside.modules c.step.new.self c.push.ensures.spare
    c.self.invariant going c.cycle.ensures.row c.cycle.ensures.after (subst (λ w. AllStep w c.self.inside.modules c.step.new.self) (c.cycle.ensures.shown refl) c.step.ensures))

pub returns-clause-headline : goal.returns-clause-headline
returns-clause-headline c =
    let k = c.cycle.new.self.setting in
    let plain = ap (λ (s : Setting). s.places) c.cycle.ensures.setting ∙ c.self.invariant.plain in
    λ promised. c.rows_laws.ensures.rows k.design k.image k.waits k.lines (reverse c.push.new.self.rows) promised (subst (λ s. AreRows s (reverse c.push.new.self.rows)) (plainly k plain) (returns-clause-are_rows c))

pub returns-clause-modules : goal.returns-clause-modules
returns-clause-modules c =
    let p = c.self.inside.pipeline in
    let going : (newest (reverse c.self.inside.trace.rows)).stop ≡ None = rw (ap (λ (v : Running). v.rows) c.self.view_is) c.requires.going in
    subst (λ (v : Running). AllStep (shown_of v.setting (machine_at v.setting v.rows)) v.modules c.step.new.self) c.self.view_is
    (stepped_after p.setting p.machine c.cycle.new.self.machine (reverse c.self.inside.trace.rows) c.cycle.new.row c.self.inside.trace.spare c.push.new.self.spare c.self.inside.modules c.step.new.self c.push.ensures.spare
    c.self.invariant going c.cycle.ensures.row c.cycle.ensures.after (subst (λ w. AllStep w c.self.inside.modules c.step.new.self) (c.cycle.ensures.shown refl) c.step.ensures))
