-- The last frame of the code's stack is the innermost.
use Rattle.std.proofs.Common.{◌≡◌, ℕ, ◌-◌, List, [], ◌∷◌, Some, None, length, slice_get, refl, ap, subst, arith}
use Rattle.ix_tree.specs.Machine.{Stack}
use Rattle.ix_parse_state.specs.declared.frame.Frame.{Frame}
use Rattle.ix_parse_state.specs.Views.{frame_of, stack_on, stack_of}

one_less : (f : Frame) (fs : List Frame) → length (f ∷ fs) - 1 ≡ length fs
one_less f fs = omega arith

same : (x y : Frame) → Some y ≡ Some x → x ≡ y
same x y p = cc

last_on : (k : Stack) (g : Frame) (fs : List Frame) (f : Frame) → Some f ≡ slice_get (g ∷ fs) (length fs) → (j : Stack) × (stack_on k (g ∷ fs) ≡ frame_of f ∷ j)
last_on k g [] f e = (k, ap (λ (x : Frame). frame_of x ∷ k) (same g f e))
last_on k g (h ∷ fs) f e = last_on (frame_of g ∷ k) h fs f e

-- the innermost production is that of the last frame
pub last_open : (fs : List Frame) (f : Frame) → Some f ≡ slice_get fs (length fs - 1) → (j : Stack) × (stack_of fs ≡ frame_of f ∷ j)
unfolding stack_of
last_open [] f e = cc
last_open (g ∷ fs) f e = last_on [] g fs f (subst (λ (n : ℕ). Some f ≡ slice_get (g ∷ fs) n) (one_less g fs) e)

some_last : (f : Frame) (fs : List Frame) → None ≡ slice_get (f ∷ fs) (length fs) → ⊥
some_last f [] e = cc
some_last f (g ∷ fs) e = some_last g fs e

-- without a last frame nothing is open
pub no_last : (fs : List Frame) → None ≡ slice_get fs (length fs - 1) → stack_of fs ≡ []
unfolding stack_of
no_last [] e = refl
no_last (f ∷ fs) e = absurd (some_last f fs (subst (λ (n : ℕ). None ≡ slice_get (f ∷ fs) n) (one_less f fs) e))
