use Rattle.std.proofs.Common.{◌≡◌, sym, subst}
use Rattle.ix_tree.specs.View.{view_tree}
use Rattle.ix_elab.specs.declared.error.FrontErr.{FrontErr}
use Rattle.ix_elab.specs.Refusing.{IsCause}
use Rattle.ix_elab.proofs.Causes.{check_cause}
use Rattle.ix_elab.proofs.whole.typed.Goals as goal

pub returns-in-Err-check : goal.returns-in-Err-check
returns-in-Err-check c =
    let bytes = c.args.bytes.now in
    let e = c.check.ensures in
    let P : FrontErr → Type 0 = λ z. IsCause bytes z in
    record {
      types = tt;
      cause =
          subst P (sym c.untyped.ensures)
          (check_cause bytes (view_tree c.in-Ok.tree) c.check.result c.in-Err-check.error c.in-Ok.ensures.tree c.in-Err-check.is
          e.unknown e.twice e.narrow e.too_wide e.mixed e.range e.index e.read_after_write e.double_write e.second_access e.in_spawn e.rom);
    }
