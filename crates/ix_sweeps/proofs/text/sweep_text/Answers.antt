use Rattle.std.proofs.Common.{◌∙◌, ◌++◌, sym, ap, subst}
use Rattle.std.specs.List.{flat_map}
use Rattle.ix_extension.specs.Extensions.{view_extension}
use Rattle.ix_schedules.specs.Scheduling.{behaviours_of}
use Rattle.ix_sweeps.specs.SweepText.{swept_text, AreInForm}
use Rattle.ix_sweeps.proofs.Printed.{all_in_form, text_is}
use Rattle.ix_sweeps.proofs.text.sweep_text.Goals as goal

pub put_sweeps-requires : goal.put_sweeps-requires
put_sweeps-requires c =
    let x = view_extension c.args.ext.now in
    subst AreInForm (sym c.as_slice.ensures) (all_in_form x c.args.sheet.now (behaviours_of x) c.in-Ok.sweeps c.requires.sheet c.in-Ok.ensures.swept)

pub returns-in_ok-put_sweeps-in-Ok-clause-text : goal.returns-in_ok-put_sweeps-in-Ok-clause-text
returns-in_ok-put_sweeps-in-Ok-clause-text c =
    text_is (view_extension c.args.ext.now) c.args.sheet.now c.in-Ok.sweeps c.from_vec.result c.requires.sheet c.in-Ok.ensures.swept
    (c.from_vec.ensures ∙ c.in_ok-put_sweeps-in-Ok.ensures ∙ ap (λ l. l ++ flat_map swept_text c.as_slice.result.now) c.new-out.ensures.items ∙ ap (λ l. flat_map swept_text l) c.as_slice.ensures)
