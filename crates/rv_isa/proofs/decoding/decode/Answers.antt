use Rattle.std.proofs.Common.{◌≡◌, ◌∙◌, refl, sym, ap, Some, arith}
use Rattle.std.proofs.lemmas.Bool.{true≢false}
use Rattle.rv_isa.specs.Table.{format_of}
use Rattle.rv_isa.specs.Fields.{fields_of}
use Rattle.rv_isa.proofs.RowLemmas.{row_of-Some, row_of-None, IsInRange-fields_of, row-fields_of, decoded_from_row, decoded_from_None}
use Rattle.rv_isa.proofs.RoundLemmas.{encoded-decoded}
use Rattle.rv_isa.proofs.decoding.decode.Goals as goal

pub returns-in_err-row-clause-value : goal.returns-in_err-row-clause-value
returns-in_err-row-clause-value c =
    rw c.from_residual.ensures (sym (decoded_from_None c.args.word (sym c.in_err-row.ensures.value)))

pub returns-in_err-row-clause-illegal : goal.returns-in_err-row-clause-illegal
returns-in_err-row-clause-illegal c =
    rw c.from_residual.ensures (λ _. row_of-None c.args.word (sym c.in_err-row.ensures.value), λ _. refl)

pub returns-clause-value : goal.returns-clause-value
returns-clause-value c =
    let same : c.fields.result ≡ fields_of (format_of c.in_ok-row.field-0) c.in_ok-row.field-0 c.args.word =
    rw (← c.base_format.ensures) c.fields.ensures
    in
    ap Some same ∙ sym (decoded_from_row c.args.word c.in_ok-row.field-0 (sym c.in_ok-row.ensures.value))

pub returns-clause-illegal : goal.returns-clause-illegal
returns-clause-illegal c = (
  λ e. absurd (true≢false e),
  λ none. absurd (none c.in_ok-row.field-0 c.in_ok-row.ensures.below
      (row_of-Some c.args.word c.in_ok-row.field-0 (sym c.in_ok-row.ensures.value)).1),
)

pub returns-clause-row : goal.returns-clause-row
returns-clause-row c =
    rw (c.fields.ensures, row-fields_of c.base_format.result c.in_ok-row.field-0 c.args.word)
    (row_of-Some c.args.word c.in_ok-row.field-0 (sym c.in_ok-row.ensures.value)).1

pub returns-clause-in_range : goal.returns-clause-in_range
returns-clause-in_range c =
    rw c.fields.ensures
    (IsInRange-fields_of c.base_format.result c.in_ok-row.field-0 c.args.word (sym c.base_format.ensures) c.in_ok-row.ensures.below)

pub returns-clause-word : goal.returns-clause-word
returns-clause-word c =
    encoded-decoded c.args.word c.fields.result (omega arith)
    (decoded_from_row c.args.word c.in_ok-row.field-0 (sym c.in_ok-row.ensures.value) ∙ ap Some (sym (rw (← c.base_format.ensures) c.fields.ensures)))
