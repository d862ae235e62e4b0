-- The type of the common signedness and width is the smallest that holds both.
use Rattle.std.proofs.Common.{◌≡◌, ℕ, ◌∙◌, Bool, Result, Ok, Err}
use Rattle.std.specs.Prelude.{IfOk}
use Rattle.ix_bits.specs.declared.number.Ty.{Ty}
use Rattle.ix_bits.specs.ResultTypes.{common_signed, common_width}
use Rattle.ix_bits.proofs.Embeddings.{embeds_where, common_fits_left, common_fits_right, common_least}
use Rattle.ix_types.specs.declared.result_type.TypeErr.{TypeErr}
use Rattle.ix_types.specs.Results.{IsCommon, IsSized}

is_common : (a b ty : Ty) → ty.signed ≡ common_signed a b → ty.width ≡ common_width a b → IsCommon a b ty
is_common a b ty e f = record {
  signed = e;
  width = f;
  first = embeds_where a ty (rw (e, f) (common_fits_left a b));
  second = embeds_where b ty (rw (e, f) (common_fits_right a b));
  least = λ t p q. rw f (common_least a b t p q);
}

pub smallest : (a b : Ty) (s : Bool) (w : ℕ) (r : Result Ty TypeErr) → s ≡ common_signed a b → w ≡ common_width a b
    → IfOk r (λ ty. IsSized s w ty) → IfOk r (λ ty. IsCommon a b ty)
smallest a b s w (Ok ty) e f h = is_common a b ty (h.sign ∙ e) (h.width ∙ f)
smallest a b s w (Err error) e f h = h
