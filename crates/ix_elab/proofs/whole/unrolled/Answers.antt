use Rattle.std.proofs.Common.{◌≡◌, sym, subst}
use Rattle.ix_tree.specs.View.{view_tree}
use Rattle.ix_elab.specs.declared.error.FrontErr.{FrontErr}
use Rattle.ix_elab.specs.Refusing.{IsCause}
use Rattle.ix_elab.proofs.Causes.{unroll_cause}
use Rattle.ix_elab.proofs.whole.unrolled.Goals as goal

pub returns-in-Err-unroll : goal.returns-in-Err-unroll
returns-in-Err-unroll c =
    let bytes = c.args.bytes.now in
    let e = c.unroll.ensures in
    let P : FrontErr → Type 0 = λ z. IsCause bytes z in
    record {
      tree = tt;
      cause = subst P (sym c.looped.ensures) (unroll_cause bytes (view_tree c.in-Ok.tree) c.unroll.result c.in-Err-unroll.error c.in-Ok.ensures.tree c.in-Err-unroll.is e.bound e.turns e.assigned e.size);
    }
