-- Fields of an instruction.
use Rattle.std.proofs.Common.{ℕ, ◌≡◌, ◌∙◌, ap, ℤ, FitsSigned, w32, to_z, of_z}
use Rattle.std.proofs.lemmas.Int.{to_z-of_z}
use Rattle.rv_isa.specs.declared.base.Base.{Base}

-- two instructions of a row are the same where their fields are
pub same_base : {r d d' s s' t t' : ℕ} {i i' : ℤ} → d ≡ d' → s ≡ s' → t ≡ t' → i ≡ i' →
    ◌≡◌ {A = Base} record { row = r; rd = d; rs1 = s; rs2 = t; imm = i } record { row = r; rd = d'; rs1 = s'; rs2 = t'; imm = i' }
same_base p q u v = cc

-- an instruction has these fields
pub is_base : (b : Base) {d s t : ℕ} {i : ℤ} → d ≡ b.rd → s ≡ b.rs1 → t ≡ b.rs2 → i ≡ b.imm →
    ◌≡◌ {A = Base} record { row = b.row; rd = d; rs1 = s; rs2 = t; imm = i } b
is_base b p q u v = same_base p q u v

-- a signed number that is passed on twice
pub passed_twice : (z v : ℤ) → FitsSigned w32 z → z ≡ v → to_z w32 (of_z w32 (to_z w32 (of_z w32 z))) ≡ v
passed_twice z v fits e =
    let once : to_z w32 (of_z w32 z) ≡ z = to_z-of_z w32 z fits in
    ap (λ x. to_z w32 (of_z w32 x)) once ∙ once ∙ e
