use Rattle.std.proofs.Common.{◌∙◌, ◌++◌, ap}
use Rattle.std.specs.Prelude.{codes, string_bytes}
use Rattle.std.specs.List.{flat_map}
use Rattle.std.proofs.lemmas.Result.{on_ok_weaker}
use Rattle.ix_extension.specs.Extensions.{view_behaviour, view_instruction, view_extension}
use Rattle.ix_listing.specs.Listing.{named_line, registers_text, table_line, instruction_text, block_line}
use Rattle.ix_listing.proofs.Texts.{mapped, five}
use Rattle.ix_listing.proofs.listed.put_extension.Goals as goal

pub returns : goal.returns
returns c =
    let x = view_extension c.args.extension.now in
    on_ok_weaker c.put_blocks.result
    (λ e. five (string_bytes c.args.out.now) (named_line (codes "set") x.name) (registers_text 0 x.registers) (flat_map table_line x.tables) (flat_map instruction_text x.instructions) (flat_map block_line x.blocks)
    (string_bytes c.put_named.new.out) (string_bytes c.put_registers.new.out) (string_bytes c.put_tables.new.out) (string_bytes c.put_instructions.new.out) (string_bytes c.put_blocks.new.out)
    (c.in_ok-put_named.ensures ∙ ap (λ z. string_bytes c.args.out.now ++ named_line (codes "set") z) c.as_str.ensures.text)
    (c.in_ok-put_registers.ensures ∙ ap (λ z. string_bytes c.put_named.new.out ++ registers_text 0 z) c.as_slice.ensures)
    (c.in_ok-put_tables.ensures ∙ ap (λ z. string_bytes c.put_registers.new.out ++ flat_map table_line z) c.as_slice-2.ensures)
    (c.in_ok-put_instructions.ensures ∙ ap (λ z. string_bytes c.put_tables.new.out ++ flat_map (λ i. instruction_text (view_instruction i)) z) c.as_slice-3.ensures ∙ ap (λ z. string_bytes c.put_tables.new.out ++ z) (mapped instruction_text view_instruction c.args.extension.now.instructions))
    (e ∙ ap (λ z. string_bytes c.put_instructions.new.out ++ flat_map (λ b. block_line (view_behaviour b)) z) c.as_slice-4.ensures ∙ ap (λ z. string_bytes c.put_instructions.new.out ++ z) (mapped block_line view_behaviour c.args.extension.now.blocks)))
    c.put_blocks.ensures
