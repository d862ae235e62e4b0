use Rattle.std.proofs.Common.{map}
use Rattle.ix_tree.specs.TypedView.{typed_tree, typed_instr, typed_section}
use Rattle.ix_extension.specs.Extensions.{all_instrs}
use Rattle.ix_extension.specs.Faults.{twice_fault}
use Rattle.ix_extension.proofs.InWord.{text_in_word}
use Rattle.ix_encode.proofs.Wholes.{instrs_in_word, instrs_whole}
use Rattle.ix_encode.proofs.whole.encode.Goals as goal

pub check_encodings-requires : goal.check_encodings-requires
check_encodings-requires c =
    instrs_in_word c.in-Ok.parts.instructions.items (all_instrs (map typed_section c.args.typed.sections)) c.in-Ok.ensures.instructions (text_in_word (typed_tree c.args.typed) c.requires)

pub checked-requires : goal.checked-requires
checked-requires c =
    let xs = c.in-Ok.parts.instructions.items in
    instrs_whole xs (twice_fault (map typed_instr xs))
    (instrs_in_word xs (all_instrs (map typed_section c.args.typed.sections)) c.in-Ok.ensures.instructions (text_in_word (typed_tree c.args.typed) c.requires))
    c.in-Ok-check_encodings.ensures
