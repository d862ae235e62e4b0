use Rattle.std.proofs.Common.{◌≤◌, ◌^◌, sym, ap, ◌∙◌, subst, inl, inr, Ok, Err}
use Rattle.ix_lines.specs.Readings.{texts}
use Rattle.ix_cert.specs.Refusals.{bytes_in}
use Rattle.ix_cert.specs.Layout.{behind_refusal, without_last_empty, first_line}
use Rattle.ix_cert.proofs.Outcomes.{text_bytes, same_report, is_text, not_both, told_line, err_only, err_refused, err_refuses}
use Rattle.ix_cert.proofs.read.read_text.Goals as goal

pub read_lines-requires-clause-fits : goal.read_lines-requires-clause-fits
read_lines-requires-clause-fits c =
    let lines = c.behind_refusal-first.ensures.behind ∙ ap behind_refusal (c.without_last_empty.ensures ∙ ap without_last_empty (ap texts c.as_slice.ensures.value ∙ c.in-Ok.ensures)) in
    subst (λ l. bytes_in l ≤ 2 ^ 32) (sym lines) (text_bytes c.args.bytes.now c.requires)

pub returns-in-Ok-read_lines-clause-only : goal.returns-in-Ok-read_lines-clause-only
returns-in-Ok-read_lines-clause-only c = λ report is.
    let cut = c.without_last_empty.ensures ∙ ap without_last_empty (ap texts c.as_slice.ensures.value ∙ c.in-Ok.ensures) in
    let lines = c.behind_refusal-first.ensures.behind ∙ ap behind_refusal cut in
    let first = c.behind_refusal-first.ensures.first ∙ ap first_line cut in
    let same = same_report c.args.bytes.now (texts c.behind_refusal-first.result.0.now) c.in-Ok-read_lines.report report lines c.in-Ok-read_lines.ensures.form c.in-Ok-read_lines.ensures.read is in
    inl (ap (λ r. Ok (r, c.behind_refusal-first.result.1)) same ∙ ap (λ k. Ok (report, k)) first)

pub returns-in-Ok-read_lines-clause-refuses : goal.returns-in-Ok-read_lines-clause-refuses
returns-in-Ok-read_lines-clause-refuses c = λ n bad.
    let lines = c.behind_refusal-first.ensures.behind ∙ ap behind_refusal (c.without_last_empty.ensures ∙ ap without_last_empty (ap texts c.as_slice.ensures.value ∙ c.in-Ok.ensures)) in
    absurd (not_both c.args.bytes.now c.in-Ok-read_lines.report n (is_text c.args.bytes.now (texts c.behind_refusal-first.result.0.now) c.in-Ok-read_lines.report lines c.in-Ok-read_lines.ensures.form c.in-Ok-read_lines.ensures.read) bad)

pub returns-clause-only : goal.returns-clause-only
returns-clause-only c = λ report is.
    let cut = c.without_last_empty.ensures ∙ ap without_last_empty (ap texts c.as_slice.ensures.value ∙ c.in-Ok.ensures) in
    let told = told_line c.args.bytes.now (texts c.behind_refusal-first.result.0.now) c.behind_refusal-first.result.1 c.in-Err.error (c.behind_refusal-first.ensures.behind ∙ ap behind_refusal cut) (c.behind_refusal-first.ensures.first ∙ ap first_line cut) c.in-Err.ensures.refused in
    inr (ap (λ e. Err e) (err_only c.args.bytes.now c.in-Err.error told report is))

pub returns-clause-refused : goal.returns-clause-refused
returns-clause-refused c =
    let cut = c.without_last_empty.ensures ∙ ap without_last_empty (ap texts c.as_slice.ensures.value ∙ c.in-Ok.ensures) in
    let told = told_line c.args.bytes.now (texts c.behind_refusal-first.result.0.now) c.behind_refusal-first.result.1 c.in-Err.error (c.behind_refusal-first.ensures.behind ∙ ap behind_refusal cut) (c.behind_refusal-first.ensures.first ∙ ap first_line cut) c.in-Err.ensures.refused in
    err_refused c.args.bytes.now c.in-Err.error told

pub returns-clause-refuses : goal.returns-clause-refuses
returns-clause-refuses c = λ n bad.
    let cut = c.without_last_empty.ensures ∙ ap without_last_empty (ap texts c.as_slice.ensures.value ∙ c.in-Ok.ensures) in
    let told = told_line c.args.bytes.now (texts c.behind_refusal-first.result.0.now) c.behind_refusal-first.result.1 c.in-Err.error (c.behind_refusal-first.ensures.behind ∙ ap behind_refusal cut) (c.behind_refusal-first.ensures.first ∙ ap first_line cut) c.in-Err.ensures.refused in
    elim (err_refuses c.args.bytes.now c.in-Err.error told n bad) [ inl h ↦ inl (ap (λ e. Err e) h) | inr h ↦ inr (ap (λ e. Err e) h) ]
