-- Lists whose elements go together, and the first that has not a property.
use Rattle.std.proofs.Common.{◌≡◌, ℕ, zero, suc, ◌+◌, ◌<◌, ◌≤◌, List, [], ◌∷◌, ◌++◌, length, take, drop, get_or, map, refl, ap, sym, ◌∙◌, subst, arith, append_assoc}
use Rattle.std.specs.Prelude.{Contains}
use Rattle.std.specs.List.{AllZip, AllByRecursion}
use Rattle.std.proofs.lemmas.List.{map-append, length-map, length-append}
use Rattle.ix_vnets.specs.Drives.{IsFirstNot}

pub zip_push : {X Y : Type 0} (R : X → Y → Type 0) (xs : List X) (ys : List Y) (x : X) (y : Y) → AllZip R xs ys → R x y → AllZip R (xs ++ x ∷ []) (ys ++ y ∷ [])
zip_push R [] [] x y h r = (r, tt)
zip_push R [] (z ∷ ys) x y h r = absurd h
zip_push R (z ∷ xs) [] x y h r = absurd h
zip_push R (z ∷ xs) (w ∷ ys) x y h r = (h.0, zip_push R xs ys x y h.1 r)

pub item_at : {X : Type 0} (xs : List X) (i : ℕ) (x : X) → x ≡ get_or xs i x → i < length xs → (xs ≡ take i xs ++ x ∷ drop (suc i) xs) × (take (i + 1) xs ≡ take i xs ++ x ∷ [])
item_at [] i x e l = absurd (omega (arith, l))
item_at (y ∷ xs) zero x e l = (ap (λ z. z ∷ xs) (sym e), ap (λ z. z ∷ []) (sym e))
item_at (y ∷ xs) (suc i) x e l =
    let r = item_at xs i x e (omega (arith, l)) in
    let k : suc i + 1 ≡ suc (i + 1) = omega arith in
    (ap (λ z. y ∷ z) r.0, ap (λ j. take j (y ∷ xs)) k ∙ ap (λ z. y ∷ z) r.1)

pub taken : {X : Type 0} (xs : List X) (i : ℕ) → i ≤ length xs → length (take i xs) ≡ i
taken [] zero l = refl
taken [] (suc i) l = absurd (omega (arith, l))
taken (x ∷ xs) zero l = refl
taken (x ∷ xs) (suc i) l = ap suc (taken xs i (omega (arith, l)))

-- one more pair
pub zip_more : {X Y : Type 0} (R : X → Y → Type 0) (xs : List X) (ys new : List Y) (i : ℕ) (x : X) (y : Y) → x ≡ get_or xs i x → i < length xs → AllZip R (take i xs) ys → new ≡ ys ++ y ∷ [] → R x y → AllZip R (take (i + 1) xs) new
zip_more R xs ys new i x y e l h n r = (let t = item_at xs i x e l in subst (λ z. AllZip R z new) (sym t.1) (subst (AllZip R (take i xs ++ x ∷ [])) (sym n) (zip_push R (take i xs) ys x y h r)))

-- what goes together with something
pub zip_some : {X Y : Type 0} (R : X → Y → Type 0) (xs : List X) (ys : List Y) → AllZip R xs ys → AllByRecursion (λ x. (y : Y) × R x y) xs
zip_some R [] [] h = tt
zip_some R [] (y ∷ ys) h = absurd h
zip_some R (x ∷ xs) [] h = absurd h
zip_some R (x ∷ xs) (y ∷ ys) h = ((y, h.0), zip_some R xs ys h.1)

pub zip_to : {X Y : Type 0} (R S : X → Y → Type 0) (xs : List X) (ys : List Y) → ((x : X) → Contains xs x → (y : Y) → R x y → S x y) → AllZip R xs ys → AllZip S xs ys
zip_to R S [] [] f h = tt
zip_to R S [] (y ∷ ys) f h = absurd h
zip_to R S (x ∷ xs) [] f h = absurd h
zip_to R S (x ∷ xs) (y ∷ ys) f h = (f x (0, omega arith, refl) y h.0, zip_to R S xs ys (λ z c w r. f z (suc c.0, omega (arith, c.1), c.2) w r) h.1)

pub each_to : {X : Type 0} (P Q : X → Type 0) (xs : List X) → ((x : X) → Contains xs x → P x → Q x) → AllByRecursion P xs → AllByRecursion Q xs
each_to P Q [] f h = tt
each_to P Q (x ∷ xs) f h = (f x (0, omega arith, refl) h.0, each_to P Q xs (λ y c p. f y (suc c.0, omega (arith, c.1), c.2) p) h.1)

pub each_map : {X Y : Type 0} (g : X → Y) (Q : Y → Type 0) (xs : List X) → AllByRecursion (λ x. Q (g x)) xs → AllByRecursion Q (map g xs)
each_map g Q [] h = tt
each_map g Q (x ∷ xs) h = (h.0, each_map g Q xs h.1)

pub each_both : {X : Type 0} (P : X → Type 0) (xs ys : List X) → AllByRecursion P xs → AllByRecursion P ys → AllByRecursion P (xs ++ ys)
each_both P [] ys h k = k
each_both P (x ∷ xs) ys h k = (h.0, each_both P xs ys h.1 k)

-- ---- the first that has not a property
pub first_at : {X : Type 0} (P : X → Type 0) (xs : List X) (i : ℕ) (x : X) → x ≡ get_or xs i x → i < length xs → AllByRecursion P (take i xs) → (P x → ⊥) → IsFirstNot P xs i
first_at P xs i x e l before breaks =
    let t = item_at xs i x e l in
    record { front = take i xs; item = x; rest = drop (suc i) xs; are = t.0; number = sym (taken xs i (omega (arith, l))); before = before; breaks = breaks }

-- the same of mapped elements before others
pub first_mapped : {X Y : Type 0} (g : X → Y) (P : X → Type 0) (Q : Y → Type 0) (xs : List X) (ys : List Y) (k : ℕ) → ((x : X) → Contains xs x → P x → Q (g x)) → ((x : X) → Contains xs x → Q (g x) → P x) → IsFirstNot P xs k → IsFirstNot Q (map g xs ++ ys) k
first_mapped g P Q xs ys k to from f =
    let all : map g xs ++ ys ≡ map g f.front ++ g f.item ∷ (map g f.rest ++ ys) =
    ap (λ z. map g z ++ ys) f.are ∙ ap (λ z. z ++ ys) (map-append g f.front (f.item ∷ f.rest)) ∙ append_assoc (map g f.front) (g f.item ∷ map g f.rest) ys in
    let here : Contains xs f.item = subst (λ z. Contains z f.item) (sym f.are) (behind f.front f.item f.rest) in
    record {
      front = map g f.front;
      item = g f.item;
      rest = map g f.rest ++ ys;
      are = all;
      number = f.number ∙ sym (length-map f.front g);
      before = each_map g Q f.front (each_to P (λ x. Q (g x)) f.front (λ x c p. to x (subst (λ z. Contains z x) (sym f.are) (ahead f.front (f.item ∷ f.rest) x c)) p) f.before);
      breaks = λ q. f.breaks (from f.item here q);
    }
  where
    ahead : {Z : Type 0} (us bs : List Z) (z : Z) → Contains us z → Contains (us ++ bs) z
    ahead us bs z c = in_front us bs c.0 z c.1 c.2
      where
        in_front : {W : Type 0} (ts vs : List W) (i : ℕ) (w : W) → i < length ts → get_or ts i w ≡ w → Contains (ts ++ vs) w
        in_front [] vs i w l e = absurd (omega (arith, l))
        in_front (u ∷ ts) vs zero w l e = (0, omega arith, e)
        in_front (u ∷ ts) vs (suc i) w l e = (let r = in_front ts vs i w (omega (arith, l)) e in (suc r.0, omega (arith, r.1), r.2))

    behind : {Z : Type 0} (us : List Z) (z : Z) (bs : List Z) → Contains (us ++ z ∷ bs) z
    behind [] z bs = (0, omega arith, refl)
    behind (a ∷ us) z bs = (let r = behind us z bs in (suc r.0, omega (arith, r.1), r.2))

-- behind others that all have it
pub first_behind : {X : Type 0} (P : X → Type 0) (xs ys : List X) (k n : ℕ) → AllByRecursion P xs → n ≡ length xs + k → IsFirstNot P ys k → IsFirstNot P (xs ++ ys) n
first_behind P xs ys k n h e f = record {
  front = xs ++ f.front;
  item = f.item;
  rest = f.rest;
  are = ap (λ z. xs ++ z) f.are ∙ sym (append_assoc xs f.front (f.item ∷ f.rest));
  number = omega (arith, e, f.number, length-append xs f.front);
  before = each_both P xs f.front h f.before;
  breaks = f.breaks;
}

pub first_within : {X : Type 0} (P : X → Type 0) (xs : List X) (k : ℕ) → IsFirstNot P xs k → k < length xs
first_within P xs k f = omega (arith, f.number, ap length f.are, length-append f.front (f.item ∷ f.rest))

-- before others
pub first_before : {X : Type 0} (P : X → Type 0) (xs ys : List X) (k : ℕ) → IsFirstNot P xs k → IsFirstNot P (xs ++ ys) k
first_before P xs ys k f = record {
  front = f.front;
  item = f.item;
  rest = f.rest ++ ys;
  are = ap (λ z. z ++ ys) f.are ∙ append_assoc f.front (f.item ∷ f.rest) ys;
  number = f.number;
  before = f.before;
  breaks = f.breaks;
}
