use Rattle.std.proofs.Common.{sym, subst}
use Rattle.std.specs.Prelude.{All}
use Rattle.ix_extension.specs.Extensions.{view_extension}
use Rattle.ix_net.specs.Valid.{IsValid}
use Rattle.ix_verilog.specs.Subset.{AreNamedApart, Denotes}
use Rattle.ix_modules.proofs.Apart.{all_valid, named_apart}
use Rattle.ix_modules.proofs.printing.modules_text.Goals as goal

pub print-requires-clause-valid : goal.print-requires-clause-valid
print-requires-clause-valid c =
    subst (λ nets. All IsValid nets) (sym c.as_slice.ensures) (all_valid (view_extension c.args.ext.now) c.args.sheet.now c.in-Ok.built.plans c.in-Ok.built.nets c.in-Ok.ensures.built)

pub print-requires-clause-apart : goal.print-requires-clause-apart
print-requires-clause-apart c =
    let x = view_extension c.args.ext.now in
    subst (λ nets. AreNamedApart nets) (sym c.as_slice.ensures)
    (named_apart x c.args.sheet.now c.in-Ok.built.plans c.in-Ok.built.nets (c.modules_laws.ensures.apart c.requires.well_formed.0 x c.requires.well_formed.1) c.in-Ok.ensures.built)

pub returns-in_ok-print-in-Ok-clause-text : goal.returns-in_ok-print-in-Ok-clause-text
returns-in_ok-print-in-Ok-clause-text c =
    let x = view_extension c.args.ext.now in
    let built = c.in-Ok.ensures.built in
    record {
      valid = c.requires.sheet;
      plans = c.in-Ok.built.plans;
      nets = c.in-Ok.built.nets;
      built = built;
      shows = c.served.ensures.built c.requires.well_formed.0 x c.args.sheet.now c.in-Ok.built.plans c.in-Ok.built.nets c.requires.well_formed.1 built;
      denotes = subst (λ nets. Denotes c.in_ok-print-in-Ok.field-0 nets) c.as_slice.ensures c.in_ok-print-in-Ok.ensures.denotes;
    }
