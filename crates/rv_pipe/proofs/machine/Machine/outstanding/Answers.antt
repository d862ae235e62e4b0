use Rattle.std.proofs.Common.{◌≡◌, ◌∙◌, ap, subst}
use Rattle.std.specs.Prelude.{reverse, slice_get}
use Rattle.rv_engine.specs.Settings.{Machine}
use Rattle.rv_lawful.specs.Settings.{setting as lawful_setting}
use Rattle.rv_lawful.specs.Entering.{places}
use Rattle.rv_lawful.specs.Outstanding.{outstanding_targets}
use Rattle.rv_machine.specs.Owing.{targets_owed}
use Rattle.rv_machine.specs.Promises.{IsRunnable}
use Rattle.rv_pipe.specs.Machines.{Running}
use Rattle.rv_pipe.proofs.Stated.{kept_there, rows_there}
use Rattle.rv_pipe.proofs.machine.Machine.outstanding.Goals as goal

pub returns-clause-listed : goal.returns-clause-listed
returns-clause-listed c =
    let p = c.self.inside.pipeline in
    let k = p.setting in
    let rows = reverse c.self.inside.trace.rows in
    subst (λ (v : Running). IsRunnable v.setting.design v.setting.image → c.outstanding.result ≡ slice_get (outstanding_targets (lawful_setting v.setting.design v.setting.image v.setting.waits v.setting.lines (places v.rows)) v.rows) c.args.k) c.self.view_is (λ can.
    c.outstanding.ensures ∙ ap (λ (m : Machine). slice_get (targets_owed m.owed) c.args.k) (kept_there k p.machine rows c.self.inside.trace.spare c.self.inside.modules c.self.invariant)
    ∙ ap (λ l. slice_get l c.args.k) (c.rows_laws.ensures.state k.design k.image k.waits k.lines rows can (rows_there k p.machine rows c.self.inside.trace.spare c.self.inside.modules c.self.invariant)).targets)
