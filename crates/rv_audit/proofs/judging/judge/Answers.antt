use Rattle.std.proofs.Common.{sym, ap, subst, refl}
use Rattle.rv_trace.specs.declared.row.Row.{Row}
use Rattle.rv_trace.specs.Trace.{newest}
use Rattle.rv_lawful.specs.LawfulTrace.{IsInForm}
use Rattle.rv_rows.specs.Kinds.{MovesRightly}
use Rattle.rv_shown.specs.Shown.{shown_in}
use Rattle.rv_watch.specs.Seen.{AreSeen}
use Rattle.rv_watch.specs.Watched.{setting_of}
use Rattle.rv_audit.proofs.Told.{never, no_stop, some_stop, is_stop, fit_of, on_of}
use Rattle.rv_audit.proofs.Forms.{form_of, moves_above}
use Rattle.rv_audit.proofs.Wrong.{moves_wrong, judged_behind, judged_row, units_right, judged_line, lawful_row, recorded_row, judged_right}
use Rattle.rv_audit.proofs.judging.judge.Goals as goal

pub returns-then-not-moves_rightly-clause-judged : goal.returns-then-not-moves_rightly-clause-judged
returns-then-not-moves_rightly-clause-judged c = λ rows watched few.
    let a = c.args.against.now in
    let k = setting_of a in
    let fit = fit_of a c.settings_fit.ensures c.requires.fits in
    let s = shown_in a.design.now.sheet.shape.stages c.args.text.now c.args.shown.now in
    let is = c.made-row.ensures.row k rows c.args.text.now refl refl (c.next_due-next.ensures.due rows watched) (c.writing-writing.ensures a rows c.requires.fits watched) in
    moves_wrong k rows s (λ moves. never ((c.if-not-moves_rightly.ensures k rows refl fit.plain (sym watched.before)).1 (subst (λ r. MovesRightly k rows r) (sym is) moves)))

pub returns-then-is_some-clause-judged : goal.returns-then-is_some-clause-judged
returns-then-is_some-clause-judged c = λ rows watched few.
    let a = c.args.against.now in
    let k = setting_of a in
    let fit = fit_of a c.settings_fit.ensures c.requires.fits in
    let s = shown_in a.design.now.sheet.shape.stages c.args.text.now c.args.shown.now in
    let is = c.made-row.ensures.row k rows c.args.text.now refl refl (c.next_due-next.ensures.due rows watched) (c.writing-writing.ensures a rows c.requires.fits watched) in
    let moves = (c.if-not-moves_rightly.ensures k rows refl fit.plain (sym watched.before)).0 refl in
    judged_behind a rows s c.made-row.result is moves c.args.watch.now (some_stop (newest rows) c.args.watch.now.before (sym watched.before) (sym c.if-is_some.ensures)) c.behind_stop.result
    (c.behind_stop.ensures rows watched (is_stop (newest rows) c.args.watch.now.before (sym watched.before) (sym c.if-is_some.ensures)) moves)

pub returns-then-is_some-2-clause-judged : goal.returns-then-is_some-2-clause-judged
returns-then-is_some-2-clause-judged c = λ rows watched few.
    let a = c.args.against.now in
    let k = setting_of a in
    let w = c.args.watch.now in
    let fit = fit_of a c.settings_fit.ensures c.requires.fits in
    let row = c.made-row.result in
    let s = shown_in a.design.now.sheet.shape.stages c.args.text.now c.args.shown.now in
    let due = c.next_due-next.ensures.due rows watched in
    let writing = c.writing-writing.ensures a rows c.requires.fits watched in
    let is = c.made-row.ensures.row k rows c.args.text.now refl refl due writing in
    let moves = (c.if-not-moves_rightly.ensures k rows refl fit.plain (sym watched.before)).0 refl in
    let going = no_stop (newest rows) w.before (sym watched.before) (sym c.if-is_some.ensures) in
    let on = on_of a rows w watched going in
    let form = subst (λ r. IsInForm k r) (sym is) (form_of c.requires.form.0 k rows s c.requires.form.1) in
    let seen = subst (λ l. AreSeen k rows l) (sym c.as_slice-seen.ensures.value) watched.seen in
    let placed = c.places-at.ensures k rows refl fit.plain on (moves_above k rows row on moves) form watched.kept.retired seen in
    let asked = c.next_due-next.ensures.asks rows row s.retired watched (ap (λ (r : Row). r.retired) is) in
    let knows = c.known-known.ensures.known rows watched going moves form due asked placed in
    let tells = c.fault_of-told.ensures rows watched going moves knows in
    judged_row a rows s row is moves going c.args.watch.now c.fault_of-told.result (sym c.if-is_some-2.ensures) tells

pub returns-then-is_some-3-clause-judged : goal.returns-then-is_some-3-clause-judged
returns-then-is_some-3-clause-judged c = λ rows watched few.
    let a = c.args.against.now in
    let k = setting_of a in
    let w = c.args.watch.now in
    let fit = fit_of a c.settings_fit.ensures c.requires.fits in
    let row = c.made-row.result in
    let s = shown_in a.design.now.sheet.shape.stages c.args.text.now c.args.shown.now in
    let due = c.next_due-next.ensures.due rows watched in
    let writing = c.writing-writing.ensures a rows c.requires.fits watched in
    let is = c.made-row.ensures.row k rows c.args.text.now refl refl due writing in
    let moves = (c.if-not-moves_rightly.ensures k rows refl fit.plain (sym watched.before)).0 refl in
    let going = no_stop (newest rows) w.before (sym watched.before) (sym c.if-is_some.ensures) in
    let on = on_of a rows w watched going in
    let form = subst (λ r. IsInForm k r) (sym is) (form_of c.requires.form.0 k rows s c.requires.form.1) in
    let seen = subst (λ l. AreSeen k rows l) (sym c.as_slice-seen.ensures.value) watched.seen in
    let placed = c.places-at.ensures k rows refl fit.plain on (moves_above k rows row on moves) form watched.kept.retired seen in
    let asked = c.next_due-next.ensures.asks rows row s.retired watched (ap (λ (r : Row). r.retired) is) in
    let knows = c.known-known.ensures.known rows watched going moves form due asked placed in
    let tells = c.fault_of-told.ensures rows watched going moves knows in
    let none = sym c.if-is_some-2.ensures in
    let units = units_right a rows s row is moves going c.fault_of-told.result none tells in
    let lines = c.in_ok-line.ensures rows watched due writing is units in
    judged_line a rows s row is moves going c.fault_of-told.result none tells c.args.watch.now c.in_ok-line.line (sym c.if-is_some-3.ensures) lines

pub go_on-requires-clause-watched : goal.go_on-requires-clause-watched
go_on-requires-clause-watched c =
    let rows = c.requires.watched.0 in
    let watched = c.requires.watched.1 in
    let a = c.args.against.now in
    let k = setting_of a in
    let w = c.args.watch.now in
    let fit = fit_of a c.settings_fit.ensures c.requires.fits in
    let row = c.made-row.result in
    let s = shown_in a.design.now.sheet.shape.stages c.args.text.now c.args.shown.now in
    let due = c.next_due-next.ensures.due rows watched in
    let writing = c.writing-writing.ensures a rows c.requires.fits watched in
    let is = c.made-row.ensures.row k rows c.args.text.now refl refl due writing in
    let moves = (c.if-not-moves_rightly.ensures k rows refl fit.plain (sym watched.before)).0 refl in
    let going = no_stop (newest rows) w.before (sym watched.before) (sym c.if-is_some.ensures) in
    let on = on_of a rows w watched going in
    let form = subst (λ r. IsInForm k r) (sym is) (form_of c.requires.form.0 k rows s c.requires.form.1) in
    let seen = subst (λ l. AreSeen k rows l) (sym c.as_slice-seen.ensures.value) watched.seen in
    let placed = c.places-at.ensures k rows refl fit.plain on (moves_above k rows row on moves) form watched.kept.retired seen in
    let asked = c.next_due-next.ensures.asks rows row s.retired watched (ap (λ (r : Row). r.retired) is) in
    let knows = c.known-known.ensures.known rows watched going moves form due asked placed in
    let tells = c.fault_of-told.ensures rows watched going moves knows in
    let none = sym c.if-is_some-2.ensures in
    let units = units_right a rows s row is moves going c.fault_of-told.result none tells in
    let lines = c.in_ok-line.ensures rows watched due writing is units in
    let right = sym c.if-is_some-3.ensures in (
      rows,
      watched,
      c.requires.watched.2,
      lawful_row a rows s row is moves going c.fault_of-told.result none tells c.kinds_are_lawful.ensures fit.plain fit.units.empty on form c.made-row.ensures.taken,
      recorded_row a rows s row is moves going c.fault_of-told.result none tells c.in_ok-line.line right lines,
      knows,
    )

pub returns-clause-judged : goal.returns-clause-judged
returns-clause-judged c = λ rows watched few.
    let a = c.args.against.now in
    let k = setting_of a in
    let w = c.args.watch.now in
    let fit = fit_of a c.settings_fit.ensures c.requires.fits in
    let row = c.made-row.result in
    let s = shown_in a.design.now.sheet.shape.stages c.args.text.now c.args.shown.now in
    let due = c.next_due-next.ensures.due rows watched in
    let writing = c.writing-writing.ensures a rows c.requires.fits watched in
    let is = c.made-row.ensures.row k rows c.args.text.now refl refl due writing in
    let moves = (c.if-not-moves_rightly.ensures k rows refl fit.plain (sym watched.before)).0 refl in
    let going = no_stop (newest rows) w.before (sym watched.before) (sym c.if-is_some.ensures) in
    let on = on_of a rows w watched going in
    let form = subst (λ r. IsInForm k r) (sym is) (form_of c.requires.form.0 k rows s c.requires.form.1) in
    let seen = subst (λ l. AreSeen k rows l) (sym c.as_slice-seen.ensures.value) watched.seen in
    let placed = c.places-at.ensures k rows refl fit.plain on (moves_above k rows row on moves) form watched.kept.retired seen in
    let asked = c.next_due-next.ensures.asks rows row s.retired watched (ap (λ (r : Row). r.retired) is) in
    let knows = c.known-known.ensures.known rows watched going moves form due asked placed in
    let tells = c.fault_of-told.ensures rows watched going moves knows in
    let none = sym c.if-is_some-2.ensures in
    let units = units_right a rows s row is moves going c.fault_of-told.result none tells in
    let lines = c.in_ok-line.ensures rows watched due writing is units in
    let right = sym c.if-is_some-3.ensures in
    let lawful = lawful_row a rows s row is moves going c.fault_of-told.result none tells c.kinds_are_lawful.ensures fit.plain fit.units.empty on form c.made-row.ensures.taken in
    let shows = recorded_row a rows s row is moves going c.fault_of-told.result none tells c.in_ok-line.line right lines in
    judged_right a rows s row is moves going c.fault_of-told.result none tells c.in_ok-line.line right lines _
    (c.in_ok-go_on.ensures.watched rows watched few lawful shows going knows due placed)
