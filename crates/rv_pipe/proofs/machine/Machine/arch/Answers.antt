use Rattle.std.proofs.Common.{◌≡◌, ◌∙◌, ap, subst}
use Rattle.std.specs.Prelude.{reverse}
use Rattle.ix_extension.specs.Extensions.{view_extension}
use Rattle.rv_seq.specs.Runs.{run_with}
use Rattle.rv_trace.specs.Trace.{retirements}
use Rattle.rv_engine.specs.Settings.{Machine}
use Rattle.rv_lawful.specs.Settings.{entries_at, setting as lawful_setting}
use Rattle.rv_lawful.specs.Entering.{places}
use Rattle.rv_lawful.specs.Outstanding.{architecture, applied_state}
use Rattle.rv_machine.specs.Promises.{IsRunnable}
use Rattle.rv_pipe.specs.Machines.{Running}
use Rattle.rv_pipe.proofs.Stated.{kept_there, rows_there}
use Rattle.rv_pipe.proofs.machine.Machine.arch.Goals as goal

pub returns-clause-state : goal.returns-clause-state
returns-clause-state c =
    let p = c.self.inside.pipeline in
    let k = p.setting in
    let rows = reverse c.self.inside.trace.rows in
    subst (λ (v : Running). IsRunnable v.setting.design v.setting.image → c.arch.result.now ≡ architecture (view_extension v.setting.design.extension) (lawful_setting v.setting.design v.setting.image v.setting.waits v.setting.lines (places v.rows)) v.rows) c.self.view_is (λ can.
    c.arch.ensures ∙ ap (λ (m : Machine). m.arch) (kept_there k p.machine rows c.self.inside.trace.spare c.self.inside.modules c.self.invariant)
    ∙ (c.rows_laws.ensures.state k.design k.image k.waits k.lines rows can (rows_there k p.machine rows c.self.inside.trace.spare c.self.inside.modules c.self.invariant)).state)

pub returns-clause-applied : goal.returns-clause-applied
returns-clause-applied c =
    let p = c.self.inside.pipeline in
    let k = p.setting in
    let rows = reverse c.self.inside.trace.rows in
    subst (λ (v : Running). IsRunnable v.setting.design v.setting.image → applied_state (view_extension v.setting.design.extension) (lawful_setting v.setting.design v.setting.image v.setting.waits v.setting.lines (places v.rows)) v.rows
    ≡ run_with (view_extension v.setting.design.extension) v.setting.image (entries_at v.setting.design.sheet.shape.trap v.setting.lines (places v.rows)) (retirements v.rows)) c.self.view_is (λ can.
    (c.rows_laws.ensures.state k.design k.image k.waits k.lines rows can (rows_there k p.machine rows c.self.inside.trace.spare c.self.inside.modules c.self.invariant)).applied)
