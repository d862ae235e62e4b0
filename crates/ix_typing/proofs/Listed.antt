-- Judging the items of a list one behind the other, as a loop does.
use Rattle.std.proofs.Common.{◌≡◌, ◌∙◌, sym, ap, subst, ℕ, ◌+◌, ◌<◌, ◌≤◌, refl, List, [], ◌∷◌, ◌++◌, length, get_or, map, drop, drop-cons, add-one, Result, Ok, Err, append_assoc}
use Rattle.std.proofs.Math.Seq.{drop-length}
use Rattle.std.proofs.Math.ListN.{drop_of_length-le}
use Rattle.std.proofs.lemmas.List.{append-nil, map-append}
use Rattle.ix_typing.specs.Refusals.{Refusal, and_then, Step, each}

-- the items that were judged stand before the others
abbrev pub behind : {S B : Type 0} → List B → Result (Step S (List B)) Refusal → Result (Step S (List B)) Refusal
behind out r = and_then r (λ m. Ok (record { item = out ++ m.item; after = m.after }))

-- what is left of a list from an element on
pub mapped_rest : {A B : Type 0} (v : A → B) (xs : List A) (k : ℕ) (x : A) → k < length xs → x ≡ get_or xs k x → map v (drop k xs) ≡ v x ∷ map v (drop (k + 1) xs)
mapped_rest v xs k x h e = rw (add-one, drop-cons xs k x, ← e) refl

pub mapped_end : {A B : Type 0} (v : A → B) (xs : List A) → map v (drop (length xs) xs) ≡ []
mapped_end v xs = ap (map v) (drop-length xs)

pub mapped_push : {A B : Type 0} (v : A → B) (xs ys : List A) (x : A) → ys ≡ xs ++ x ∷ [] → map v ys ≡ map v xs ++ v x ∷ []
mapped_push v xs ys x e = ap (map v) e ∙ map-append v xs (x ∷ [])

pub each_start : {S B : Type 0} (r : Result (Step S (List B)) Refusal) → r ≡ behind [] r
each_start (Ok m) = refl
each_start (Err e) = refl

pub each_end : {S A B : Type 0} (f : A → S → Result (Step S B) Refusal) (r : Result (Step S (List B)) Refusal) (out : List B) (s : S)
    → r ≡ behind out (each f [] s) → r ≡ Ok (record { item = out; after = s })
each_end {S = S} {B = B} f r out s e = e ∙ ap (λ (o : List B). let x : Step S (List B) = record { item = o; after = s } in Ok x) (append-nil out)

step_in : {S A B : Type 0} (f : A → S → Result (Step S B) Refusal) (xs : List A) (out : List B) (b : B) (s' : S) (x : A) (s : S)
    → f x s ≡ Ok (record { item = b; after = s' }) → behind out (each f (x ∷ xs) s) ≡ behind (out ++ b ∷ []) (each f xs s')
step_in {S = S} {B = B} f xs out b s' x s h =
    let k : Step S B = record { item = b; after = s' } in
    let rest = λ (k : Step S B). and_then (each f xs k.after) (λ m. let y : Step S (List B) = record { item = k.item ∷ m.item; after = m.after } in Ok y) in
    let P : Result (Step S B) Refusal → Type 0 = λ z. behind out (and_then z rest) ≡ behind (out ++ b ∷ []) (each f xs s') in
    subst P (sym h) (moved (each f xs s'))
  where
    moved : (r : Result (Step S (List B)) Refusal)
        → behind out (and_then r (λ m. let y : Step S (List B) = record { item = b ∷ m.item; after = m.after } in Ok y)) ≡ behind (out ++ b ∷ []) r
    moved (Ok m) = ap (λ (o : List B). let y : Step S (List B) = record { item = o; after = m.after } in Ok y) (sym (append_assoc out (b ∷ []) m.item))
    moved (Err e) = refl

-- an item is judged
pub each_step : {S A B : Type 0} (f : A → S → Result (Step S B) Refusal) (r : Result (Step S (List B)) Refusal) (all rest : List A) (out out' : List B) (b : B) (s s' : S) (x : A)
    → r ≡ behind out (each f all s) → all ≡ x ∷ rest → f x s ≡ Ok (record { item = b; after = s' }) → out' ≡ out ++ b ∷ [] → r ≡ behind out' (each f rest s')
each_step {B = B} f r all rest out out' b s s' x e split h g =
    e ∙ ap (λ z. behind out (each f z s)) split ∙ step_in f rest out b s' x s h ∙ ap (λ (o : List B). behind o (each f rest s')) (sym g)

-- an item is refused
pub each_refused : {S A B : Type 0} (f : A → S → Result (Step S B) Refusal) (r : Result (Step S (List B)) Refusal) (all rest : List A) (out : List B) (s : S) (x : A) (e : Refusal)
    → r ≡ behind out (each f all s) → all ≡ x ∷ rest → f x s ≡ Err e → r ≡ Err e
each_refused {S = S} {B = B} f r all rest out s x e h split g =
    let go = λ (k : Step S B). and_then (each f rest k.after) (λ m. let y : Step S (List B) = record { item = k.item ∷ m.item; after = m.after } in Ok y) in
    let P : Result (Step S B) Refusal → Type 0 = λ z. behind out (and_then z go) ≡ Err e in
    h ∙ ap (λ z. behind out (each f z s)) split ∙ subst P (sym g) refl

pub mapped_past : {A B : Type 0} (v : A → B) (xs : List A) (i : ℕ) → length xs ≤ i → map v (drop i xs) ≡ []
mapped_past v xs i h = ap (map v) (drop_of_length-le xs h)
