use Rattle.std.proofs.Common.{sym, ap, subst, ℕ, List, [], length, drop, arith, inl}
use Rattle.std.specs.List.{flat_map}
use Rattle.rv_text.specs.RunText.{state_text}
use Rattle.rv_ending.specs.Differing.{TellsDiffering}
use Rattle.rv_ending.specs.Owed.{owed_pairs}
use Rattle.std.proofs.lemmas.List.{length-drop}
use Rattle.ix_extension.specs.Extensions.{view_extension}
use Rattle.rv_watch.specs.Printed.{widths_of}
use Rattle.rv_watch.specs.Faults.{rows_behind}
use Rattle.rv_watch.specs.Watched.{setting_of, tree_of}
use Rattle.rv_audit.specs.Refused.{rows_shown}
use Rattle.rv_audit.proofs.Numbers.{state_small}
use Rattle.rv_audit.proofs.Ending.{state_within}
use Rattle.rv_audit.proofs.Ended.{watched, owed_sixteen, ended_right, ended_wrong}
use Rattle.rv_audit.proofs.auditing.ending.Goals as goal

pub rest-state-requires : goal.rest-state-requires
rest-state-requires c =
    let d = c.args.against.now.design.now in
    state_within (widths_of (view_extension d.extension)) c.args.text.now c.args.read.now.state c.requires.read.trace.state_is

pub differing_line-requires-clause-few : goal.differing_line-requires-clause-few
differing_line-requires-clause-few c =
    let d = c.args.against.now.design.now in
    let well = c.requires.fits.stands.well_formed in
    let few = (c.behaviour_laws.ensures.few well.0 (view_extension d.extension) well.1).registers in
    let count = c.len-registers.ensures in
    omega (arith, few, count)

pub differing_line-requires-clause-lines : goal.differing_line-requires-clause-lines
differing_line-requires-clause-lines c =
    let d = c.args.against.now.design.now in
    let text = c.args.text.now in
    let read = c.args.read.now in
    let short = c.requires.short in
    let line = c.requires.read.state_line in
    let small = state_small (widths_of (view_extension d.extension)) d.sheet.shape.stages text read.rows (drop read.state text) c.requires.read.trace short in
    let long = ap (λ (l : List ℕ). length l) c.rest-state.ensures in
    let rest = length-drop read.state text in
    omega (arith, short, line, small, long, rest)

pub returns-in-Ok-None-clause-right : goal.returns-in-Ok-None-clause-right
returns-in-Ok-None-clause-right c =
    let a = c.args.against.now in
    let d = a.design.now in
    let text = c.args.text.now in
    let read = c.args.read.now in
    let w = c.args.watch.now in
    let owes = c.as_slice-owed.ensures.value in
    let kept = watched a text read c.requires.read w c.requires.right in
    let told = subst (λ o. TellsDiffering read.state_line c.rest-state.result.now (state_text (tree_of a) (flat_map owed_pairs c.as_slice-owed.result.now) w.past.arch) o) c.in-Ok-None.field-0-is
    (c.in-Ok-None.ensures.line (tree_of a) (sym c.len-registers.ensures) (owed_sixteen a (rows_behind (setting_of a) [] (rows_shown d text read.rows)) w c.as_slice-owed.result.now kept owes)) in
    ended_right a text read c.requires.read w c.requires.right c.rest-state.result.now c.as_slice-owed.result.now c.rest-state.ensures owes told

pub returns-in-Ok-Some-clause-refused : goal.returns-in-Ok-Some-clause-refused
returns-in-Ok-Some-clause-refused c =
    let a = c.args.against.now in
    let d = a.design.now in
    let text = c.args.text.now in
    let read = c.args.read.now in
    let w = c.args.watch.now in
    let owes = c.as_slice-owed.ensures.value in
    let kept = watched a text read c.requires.read w c.requires.right in
    let told = subst (λ o. TellsDiffering read.state_line c.rest-state.result.now (state_text (tree_of a) (flat_map owed_pairs c.as_slice-owed.result.now) w.past.arch) o) c.in-Ok-Some.field-0-is
    (c.in-Ok-Some.ensures.line (tree_of a) (sym c.len-registers.ensures) (owed_sixteen a (rows_behind (setting_of a) [] (rows_shown d text read.rows)) w c.as_slice-owed.result.now kept owes)) in
    inl (ended_wrong a text read c.requires.read w c.requires.right c.rest-state.result.now c.as_slice-owed.result.now c.in-Ok-Some.line c.requires.short c.rest-state.ensures owes told)
