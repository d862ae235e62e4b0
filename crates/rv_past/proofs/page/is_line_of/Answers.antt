use Rattle.std.proofs.Common.{◌∙◌, sym, ap, List, length, ℕ}
use Rattle.rv_past.proofs.Lines.{line_is, behind}
use Rattle.rv_past.proofs.page.is_line_of.Goals as goal

pub is_on_page-requires-clause-from : goal.is_on_page-requires-clause-from
is_on_page-requires-clause-from c =
    behind
    c.args.writes.now c.args.out.now c.text.new.self c.put_number.new.out c.text-2.new.self c.put_retired.new.out c.bytes.result.now (length c.bytes-start.result.now) (length c.bytes-named.result.now) (length c.bytes-printed.result.now) c.retiring.result
    c.text.ensures c.put_number.ensures.text c.text-2.ensures c.retiring.ensures c.put_retired.ensures.text (ap (λ (l : List ℕ). length l) c.bytes-start.ensures) (ap (λ (l : List ℕ). length l) c.bytes-named.ensures) (ap (λ (l : List ℕ). length l) c.bytes-printed.ensures) c.bytes.ensures

pub returns : goal.returns
returns c =
    let e =
    line_is
    c.args.writes.now c.args.out.now c.text.new.self c.put_number.new.out c.text-2.new.self c.put_retired.new.out c.bytes.result.now (length c.bytes-start.result.now) (length c.bytes-named.result.now) (length c.bytes-printed.result.now) c.retiring.result
    c.text.ensures c.put_number.ensures.text c.text-2.ensures c.retiring.ensures c.put_retired.ensures.text (ap (λ (l : List ℕ). length l) c.bytes-start.ensures) (ap (λ (l : List ℕ). length l) c.bytes-named.ensures) (ap (λ (l : List ℕ). length l) c.bytes-printed.ensures) c.bytes.ensures in
    record { to = λ h. c.is_on_page.ensures.to h ∙ e; from = λ h. c.is_on_page.ensures.from (h ∙ sym e) }
