-- The stack of the code and that of the grammar's machine.
use Rattle.std.proofs.Common.{◌≡◌, List, [], ◌∷◌, ◌++◌, refl}
use Rattle.ix_tree.specs.Machine.{Stack}
use Rattle.ix_parse_state.specs.declared.frame.Frame.{Frame}
use Rattle.ix_parse_state.specs.Views.{frame_of, stack_on, stack_of}

on_one : (k : Stack) (fs : List Frame) (f : Frame) → stack_on k (fs ++ f ∷ []) ≡ frame_of f ∷ stack_on k fs
on_one k [] f = refl
on_one k (g ∷ fs) f = on_one (frame_of g ∷ k) fs f

-- one more frame
pub pushed : (fs : List Frame) (f : Frame) → stack_of (fs ++ f ∷ []) ≡ frame_of f ∷ stack_of fs
unfolding stack_of
pushed fs f = on_one [] fs f

pub none_open : stack_of [] ≡ []
unfolding stack_of
none_open = refl
