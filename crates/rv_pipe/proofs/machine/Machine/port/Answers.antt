use Rattle.std.proofs.Common.{◌≡◌, ◌∙◌, ◌<◌, ap, sym, subst, ℕ, List, ◌∷◌, length, Some}
use Rattle.std.specs.Prelude.{reverse, slice_get}
use Rattle.rv_machine.specs.Promises.{IsRunnable}
use Rattle.rv_ports.specs.Driven.{AreDriven, ports_of, port_values}
use Rattle.rv_ports.specs.Drives.{drives_of}
use Rattle.rv_machine.specs.Promise.{AllPromised}
use Rattle.rv_trace.specs.declared.row.Row.{Row}
use Rattle.rv_pipe.specs.Machines.{Running, shown_over}
use Rattle.rv_pipe.proofs.Reaching.{ports_same, driven_port}
use Rattle.rv_pipe.proofs.Stated.{rows_there, shown_there}
use Rattle.rv_pipe.proofs.machine.Machine.port.Goals as goal

pub port-requires : goal.port-requires
port-requires c =
    let k = c.self.inside.pipeline.setting in
    let same = ports_same k.design (shown_over k (reverse c.self.inside.trace.rows)) c.self.inside.modules c.self.invariant.nets c.self.invariant.reached in
    let view = ap (λ (v : Running). ports_of v.setting.design.nets) c.self.view_is in
    subst (λ l. c.args.k < length l) (sym (same ∙ view)) c.requires.inside

pub returns-clause-width : goal.returns-clause-width
returns-clause-width c = λ p e.
    let k = c.self.inside.pipeline.setting in
    let same = ports_same k.design (shown_over k (reverse c.self.inside.trace.rows)) c.self.inside.modules c.self.invariant.nets c.self.invariant.reached in
    let view = ap (λ (v : Running). ports_of v.setting.design.nets) c.self.view_is in
    c.port.ensures.width p (ap (λ l. slice_get l c.args.k) (same ∙ view) ∙ e)

-- what is promised of this port, of a machine as its callers see it
abbrev IsShown : ℕ → ℕ → Running → Type 0
IsShown k value v =
    (row : Row) (earlier : List Row) → v.rows ≡ row ∷ earlier → IsRunnable v.setting.design v.setting.image →
    (runs : List (List (List ℕ))) × AreDriven (drives_of v.setting.design v.setting.image v.setting.waits v.setting.lines) v.setting.design.plans v.setting.design.nets v.rows runs
    × AllPromised (drives_of v.setting.design v.setting.image v.setting.waits v.setting.lines) v.setting.design.plans v.setting.design.nets v.rows runs × (slice_get (port_values v.setting.design.nets runs (length earlier)) k ≡ Some value)

pub returns-clause-driven : goal.returns-clause-driven
returns-clause-driven c =
    let p = c.self.inside.pipeline in
    let rows = reverse c.self.inside.trace.rows in
    subst (IsShown c.args.k c.port.result.raw) c.self.view_is (λ row earlier e can.
    driven_port p.setting.design p.setting.image p.setting.waits p.setting.lines rows earlier row c.self.inside.modules c.args.k c.port.result.raw e can
    c.rows_laws.ensures.shown c.nets_law.ensures.newest c.promise_law.ensures c.self.invariant.nets (rows_there p.setting p.machine rows c.self.inside.trace.spare c.self.inside.modules c.self.invariant) (shown_there p.setting p.machine rows c.self.inside.trace.spare c.self.inside.modules c.self.invariant) c.port.ensures.value)
