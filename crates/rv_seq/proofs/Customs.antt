-- Widths of custom registers.
use Rattle.std.proofs.Common.{◌≡◌, ◌∙◌, ℕ, suc, ◌+◌, List, ◌∷◌, get_or, ap, subst, arith}
use Rattle.std.specs.Prelude.{slice_get, IfSome, map}
use Rattle.ix_bits.specs.declared.number.Ty.{Ty}
use Rattle.ix_bits.specs.declared.number.Bits.{Bits}
use Rattle.ix_extension.specs.Extensions.{ExtensionTree}
use Rattle.ix_mean.specs.Core.{u1, u32}
use Rattle.ix_mean.specs.Given.{HasWidths}
use Rattle.ix_behaviour.specs.declared.which.Which.{Which}
use Rattle.ix_behaviour.specs.Behaviours.{targets_at, type_of_register, stored_type, statement_at}
use Rattle.ix_eval.specs.Evaluated.{type_of_custom}
use Rattle.rv_seq.specs.WordEffects.{AreWide}

-- behind memory, rd and the pc
behind_three : (a b c : Ty) (ts : List Ty) (r : ℕ) → get_or ts r u1 ≡ get_or (a ∷ b ∷ c ∷ ts) (3 + r) u1
behind_three a b c ts r =
    let e : suc (suc (suc r)) ≡ 3 + r = omega arith in ap (λ (k : ℕ). get_or (a ∷ b ∷ c ∷ ts) k u1) e

-- the widths are those of the targets of each behaviour
pub wide_targets : (x : ExtensionTree) (w : Which) (custom : List Bits) → AreWide x custom → HasWidths (targets_at x w) custom
wide_targets x w custom h =
    record {
      widths =
          λ r.
          subst (λ (ty : Ty). IfSome (slice_get custom r) (λ b. b.width ≡ ty.width))
          (behind_three (stored_type (statement_at x w)) u32 u32 (map type_of_register x.registers) r) (h.widths r);
    }
