-- What is judged of parts, and what follows from what was judged.
use Rattle.std.proofs.Common.{◌≡◌, sym, ap, subst, refl, Bool, true, false, cond, Result, Ok, Err}
use Rattle.ix_typing.specs.Refusals.{Refusal, and_then}

-- a part is judged, and then the rest
pub go : {A B : Type 0} (r : Result A Refusal) (a : A) (f : A → Result B Refusal) (y : Result B Refusal) → r ≡ Ok a → f a ≡ y → and_then r f ≡ y
go {A = A} r a f y h k =
    let P : Result A Refusal → Type 0 = λ z. and_then z f ≡ y in
    subst P (sym h) k

-- a test does not refuse, and then the rest
pub past : {B : Type 0} (t : Bool) (x r y : Result B Refusal) → t ≡ false → r ≡ y → cond t x r ≡ y
past {B = B} t x r y h k =
    let P : Bool → Type 0 = λ z. cond z x r ≡ y in
    subst P (sym h) k

-- a goal that follows where a test did not refuse
pub on_test : {B : Type 0} (t : Bool) (x : Refusal) (r : Result B Refusal) (b : B) (G : Type 0) → (t ≡ false → r ≡ Ok b → G) → cond t (Err x) r ≡ Ok b → G
on_test true x r b G h e = cc
on_test false x r b G h e = h refl e

-- the same where the test has to hold
pub on_hold : {B : Type 0} (t : Bool) (x : Refusal) (r : Result B Refusal) (b : B) (G : Type 0) → (t ≡ true → r ≡ Ok b → G) → cond t r (Err x) ≡ Ok b → G
on_hold true x r b G h e = h refl e
on_hold false x r b G h e = cc

-- what holds of an answer holds of that answer
abbrev pub answer : {A : Type 0} → A → Result A Refusal
answer x = Ok x

pub got : {A : Type 0} (P : A → Type 0) (i j : A) → answer i ≡ Ok j → P i → P j
got {A = A} P i j e p = subst P (ap (value_in i) e) p
  where
    value_in : A → Result A Refusal → A
    value_in d (Ok x) = x
    value_in d (Err x) = d
