use Rattle.std.proofs.Common.{refl}
use Rattle.ix_tree.specs.View.{view_tree}
use Rattle.ix_typing.specs.Refusals.{unknown, twice, narrow, too_wide, mixed, range, index, read_after_write, double_write, second_access, in_spawn, rom}
use Rattle.ix_typing.specs.Texts.{judged_text}
use Rattle.ix_check_parts.specs.declared.error.CheckErr.TheVariants as C
use Rattle.ix_check.proofs.Answers.{comes, typed_is, only_memory}
use Rattle.ix_check.proofs.text.check.Goals as goal

pub returns-clause-typed : goal.returns-clause-typed
returns-clause-typed c = typed_is c.checked.result (judged_text (view_tree c.args.tree)) c.checked.ensures

pub returns-clause-only : goal.returns-clause-only
returns-clause-only c = λ u h. only_memory c.checked.result (judged_text (view_tree c.args.tree)) u c.checked.ensures h

pub returns-clause-unknown : goal.returns-clause-unknown
returns-clause-unknown c = λ s. comes c.checked.result (judged_text (view_tree c.args.tree)) (C.Unknown s) (record { rule = unknown; at = s }) refl c.checked.ensures

pub returns-clause-twice : goal.returns-clause-twice
returns-clause-twice c = λ s. comes c.checked.result (judged_text (view_tree c.args.tree)) (C.Twice s) (record { rule = twice; at = s }) refl c.checked.ensures

pub returns-clause-narrow : goal.returns-clause-narrow
returns-clause-narrow c = λ s. comes c.checked.result (judged_text (view_tree c.args.tree)) (C.Narrow s) (record { rule = narrow; at = s }) refl c.checked.ensures

pub returns-clause-too_wide : goal.returns-clause-too_wide
returns-clause-too_wide c = λ s. comes c.checked.result (judged_text (view_tree c.args.tree)) (C.TooWide s) (record { rule = too_wide; at = s }) refl c.checked.ensures

pub returns-clause-mixed : goal.returns-clause-mixed
returns-clause-mixed c = λ s. comes c.checked.result (judged_text (view_tree c.args.tree)) (C.Mixed s) (record { rule = mixed; at = s }) refl c.checked.ensures

pub returns-clause-range : goal.returns-clause-range
returns-clause-range c = λ s. comes c.checked.result (judged_text (view_tree c.args.tree)) (C.Range s) (record { rule = range; at = s }) refl c.checked.ensures

pub returns-clause-index : goal.returns-clause-index
returns-clause-index c = λ s. comes c.checked.result (judged_text (view_tree c.args.tree)) (C.Index s) (record { rule = index; at = s }) refl c.checked.ensures

pub returns-clause-read_after_write : goal.returns-clause-read_after_write
returns-clause-read_after_write c = λ s. comes c.checked.result (judged_text (view_tree c.args.tree)) (C.ReadAfterWrite s) (record { rule = read_after_write; at = s }) refl c.checked.ensures

pub returns-clause-double_write : goal.returns-clause-double_write
returns-clause-double_write c = λ s. comes c.checked.result (judged_text (view_tree c.args.tree)) (C.DoubleWrite s) (record { rule = double_write; at = s }) refl c.checked.ensures

pub returns-clause-second_access : goal.returns-clause-second_access
returns-clause-second_access c = λ s. comes c.checked.result (judged_text (view_tree c.args.tree)) (C.SecondAccess s) (record { rule = second_access; at = s }) refl c.checked.ensures

pub returns-clause-in_spawn : goal.returns-clause-in_spawn
returns-clause-in_spawn c = λ s. comes c.checked.result (judged_text (view_tree c.args.tree)) (C.InSpawn s) (record { rule = in_spawn; at = s }) refl c.checked.ensures

pub returns-clause-rom : goal.returns-clause-rom
returns-clause-rom c = λ s. comes c.checked.result (judged_text (view_tree c.args.tree)) (C.Rom s) (record { rule = rom; at = s }) refl c.checked.ensures
