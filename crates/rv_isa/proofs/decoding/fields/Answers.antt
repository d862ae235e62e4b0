use Rattle.std.proofs.Common.{refl, rules, ap, pos, ◌∙◌, FitsSigned, w32}
use Rattle.rv_isa.specs.Fields.{fields_of}
use Rattle.rv_isa.proofs.FieldLemmas.{same_base, passed_twice}
use Rattle.rv_isa.proofs.decoding.fields.Goals as goal
use Rattle.rv_isa.proofs.decoding.fields.Goals.{in-Register, in-Immediate, in-Shift, in-Store, in-Branch, in-Upper, in-Jump, in-Fixed}

-- each arm gives the fields of its format
pub returns : goal.returns
unfolding fields_of
returns c =
    let rd = c.bits-rd.ensures in
    let rs1 = c.bits-rs1.ensures in
    let rs2 = c.bits-rs2.ensures in
    elim c.match-format.branch [
      | in-Register w ↦ rw (w.rd-is, w.in-Register.is) (same_base rd rs1 rs2 refl)
      | in-Immediate w ↦
          let fits : FitsSigned w32 w.immediate.result = search rules in
          rw (w.rd-is, w.in-Immediate.is) (same_base rd rs1 refl (passed_twice _ _ fits w.immediate.ensures))
      | in-Shift w ↦
          let fits : FitsSigned w32 w.from.result = search rules in
          rw (w.rd-is, w.in-Shift.is) (same_base rd rs1 refl (passed_twice _ _ fits (w.from.ensures ∙ ap pos rs2)))
      | in-Store w ↦
          let fits : FitsSigned w32 w.store_offset.result = search rules in
          rw (w.rd-is, w.in-Store.is) (same_base refl rs1 rs2 (passed_twice _ _ fits w.store_offset.ensures))
      | in-Branch w ↦
          let fits : FitsSigned w32 w.branch_offset.result = search rules in
          rw (w.rd-is, w.in-Branch.is) (same_base refl rs1 rs2 (passed_twice _ _ fits w.branch_offset.ensures))
      | in-Upper w ↦
          let fits : FitsSigned w32 w.upper.result = search rules in
          rw (w.rd-is, w.in-Upper.is) (same_base rd refl refl (passed_twice _ _ fits w.upper.ensures))
      | in-Jump w ↦
          let fits : FitsSigned w32 w.jump_offset.result = search rules in
          rw (w.rd-is, w.in-Jump.is) (same_base rd refl refl (passed_twice _ _ fits w.jump_offset.ensures))
      | in-Fixed w ↦ rw (w.rd-is, w.in-Fixed.is) refl
    ]
