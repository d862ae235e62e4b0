-- What is known of a result whose variant is not.
use Rattle.std.proofs.Common.{Option, Some, None}
use Rattle.std.specs.Prelude.{IfNone}

pub none_from : {A : Type 0} (o : Option A) {P : Type 0} → P → IfNone o P
none_from None p = p
none_from (Some x) p = tt

pub none_then : {A : Type 0} (o : Option A) {P Q : Type 0} → IfNone o P → (P → Q) → IfNone o Q
none_then None p f = f p
none_then (Some x) p f = tt
