-- What was found, or nothing.
use Rattle.std.proofs.Common.{◌≡◌, subst, Option, Some, None}
use Rattle.std.specs.Prelude.{MatchOption}

pub at_none : {X : Type 0} (P : Type 0) (Q : X → Type 0) (o : Option X) → o ≡ None → MatchOption o P Q → P
at_none P Q None e h = h
at_none P Q (Some x) e h = absurd cc

pub at_some : {X : Type 0} (P : Type 0) (Q : X → Type 0) (o : Option X) (x : X) → o ≡ Some x → MatchOption o P Q → Q x
at_some P Q None x e h = absurd cc
at_some P Q (Some y) x e h = let same : y ≡ x = cc in subst Q same h
