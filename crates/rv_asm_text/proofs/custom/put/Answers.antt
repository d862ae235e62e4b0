use Rattle.std.proofs.Common.{◌∙◌, Some}
use Rattle.std.proofs.lemmas.Map.Text.{btree_map_updates_str}
use Rattle.rv_asm_text.specs.declared.custom.CustomForm.{CustomForm}
use Rattle.rv_asm_text.proofs.Customs.{one_more}
use Rattle.rv_asm_text.proofs.custom.put.Goals as goal

pub returns : goal.returns
returns c =
    let form : CustomForm = record { place = c.args.place; operands = c.in_ok-operands.operands } in
    one_more c.args.forms.now c.insert.new.self c.as_bytes-name.result.now form c.args.instruction.now
    (btree_map_updates_str c.as_bytes-name.result.now c.args.forms.now c.insert.new.self (Some form) c.in_ok-insert.ensures.updates)
    (c.as_bytes-name.ensures.value ∙ c.as_str.ensures.text) c.in_ok-operands.ensures
