use Rattle.std.proofs.Common.{◌≡◌, ◌∙◌, sym, ap, subst, true, false}
use Rattle.rv_trace.specs.declared.row.Row.{Row}
use Rattle.rv_trace.specs.TraceText.{retired_text, written_text}
use Rattle.rv_lawful.specs.LawfulTrace.{WritesUnit}
use Rattle.rv_shown.specs.Shown.{shown_in}
use Rattle.rv_rows.specs.Made.{row_of}
use Rattle.rv_watch.specs.Watched.{setting_of}
use Rattle.rv_audit.specs.Judged.{retires_step, writes_step}
use Rattle.rv_audit.proofs.Told.{never, fit_of, owing_of, granted_of}
use Rattle.rv_audit.proofs.Writes.{retires_right, writes_right, writes_wrong}
use Rattle.rv_audit.proofs.judging.line_fault.Goals as goal

pub returns-then-not-writes_step : goal.returns-then-not-writes_step
returns-then-not-writes_step c = λ rows watched due writing is units.
    let a = c.args.against.now in
    let k = setting_of a in
    let s = shown_in a.design.now.sheet.shape.stages c.args.text.now c.args.shown.now in
    let step : retires_step c.args.next.now (row_of k rows s).retired ≡ true = ap (λ (r : Row). retires_step c.args.next.now r.retired) (sym is) ∙ sym c.if-not-retires_step.ensures in
    let writes : writes_step c.args.writing.now (row_of k rows s).written ≡ false = ap (λ (r : Row). writes_step c.args.writing.now r.written) (sym is) ∙ sym c.if-not-writes_step.ensures in
    let unit : WritesUnit k rows (row_of k rows s) = subst (λ r. WritesUnit k rows r) is units in
    let line = c.in_ok-retires.ensures.to c.if-not-retires.false ∙ ap (λ (r : Row). retired_text r.retired) is in
    (retires_right k rows s c.args.next.now due step line, writes_wrong k rows s c.args.writing.now writing unit writes)

pub returns-then-not-writes : goal.returns-then-not-writes
returns-then-not-writes c = λ rows watched due writing is units.
    let a = c.args.against.now in
    let k = setting_of a in
    let s = shown_in a.design.now.sheet.shape.stages c.args.text.now c.args.shown.now in
    let step : retires_step c.args.next.now (row_of k rows s).retired ≡ true = ap (λ (r : Row). retires_step c.args.next.now r.retired) (sym is) ∙ sym c.if-not-retires_step.ensures in
    let line = c.in_ok-retires.ensures.to c.if-not-retires.false ∙ ap (λ (r : Row). retired_text r.retired) is in
    (retires_right k rows s c.args.next.now due step line, λ right. never (sym c.if-not-writes.true ∙ c.in_ok-writes.ensures.from (right.line ∙ ap (λ (r : Row). written_text r.written) (sym is))))

pub returns : goal.returns
returns c = λ rows watched due writing is units.
    let a = c.args.against.now in
    let k = setting_of a in
    let w = c.args.watch.now in
    let fit = fit_of a c.settings_fit.ensures c.requires.fits in
    let s = shown_in a.design.now.sheet.shape.stages c.args.text.now c.args.shown.now in
    let step : retires_step c.args.next.now (row_of k rows s).retired ≡ true = ap (λ (r : Row). retires_step c.args.next.now r.retired) (sym is) ∙ sym c.if-not-retires_step.ensures in
    let writes : writes_step c.args.writing.now (row_of k rows s).written ≡ true = ap (λ (r : Row). writes_step c.args.writing.now r.written) (sym is) ∙ sym c.if-not-writes_step.ensures in
    let unit : WritesUnit k rows (row_of k rows s) = subst (λ r. WritesUnit k rows r) is units in
    let retired = c.in_ok-retires.ensures.to c.if-not-retires.false ∙ ap (λ (r : Row). retired_text r.retired) is in
    let written = c.in_ok-writes.ensures.to c.if-not-writes.false ∙ ap (λ (r : Row). written_text r.written) is in (
      retires_right k rows s c.args.next.now due step retired,
      writes_right k rows (granted_of a rows w watched c.owing_facts.ensures fit) (owing_of a rows w watched c.owing_facts.ensures fit) s c.args.writing.now writing unit writes written,
    )
