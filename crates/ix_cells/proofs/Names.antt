-- Names tell their signals.
use Rattle.std.proofs.Common.{◌≡◌, ◌≢◌, get_or, ℕ, ◌+◌, ◌<◌, ◌≤◌, ◌^◌, ◌%◌, List, [], ◌∷◌, ◌++◌, length, arith, refl, ap}
use Rattle.std.specs.Fmt.{decimal}
use Rattle.std.proofs.lemmas.Fmt.{decimal_by_steps, decimal_injective, length-decimal-le}
use Rattle.ix_ports.specs.declared.letter.Letter.{Letter}
use Rattle.ix_ports.specs.declared.letter.Letter.TheVariants.{Address, Value, Condition}
use Rattle.ix_ports.specs.Ports.{byte_of, output_name}
use Rattle.std.proofs.lemmas.List.{length-append}
use Rattle.ix_cells.specs.declared.signal.Signal.{Signal}
use Rattle.ix_cells.specs.declared.signal.Signal.TheVariants.{Enable, Input, Node, Output, Register}
use Rattle.ix_cells.specs.Naming.{name_of, IsBounded, register_name}

abbrev pub AreDigits : List ℕ → Type 0
AreDigits [] = Unit {0}
AreDigits (x ∷ xs) = (48 ≤ x) × (x ≤ 57) × AreDigits xs

digits_push : (ds : List ℕ) (d : ℕ) → d < 10 → AreDigits ds → AreDigits (ds ++ (48 + d) ∷ [])
digits_push [] d l h = (omega arith, omega arith, tt)
digits_push (x ∷ xs) d l h = (h.0, h.1, digits_push xs d l h.2)

pub decimal_short : (n : ℕ) → n < 2 ^ 64 → length (decimal n) ≤ 20
decimal_short n h = length-decimal-le 20 n (omega arith) (omega arith) h

pub output_short : (k : ℕ) (l : Letter) → k < 2 ^ 64 → length (output_name k l) ≤ 80
output_short k l h = let d = decimal_short k h in let e = length-append (decimal k) (95 ∷ byte_of l ∷ []) in omega (arith, d, e)

pub digits_of_decimal : (n : ℕ) → n < 2 ^ 64 → AreDigits (decimal n)
digits_of_decimal n l =
    decimal_by_steps (λ m ds. AreDigits ds) (λ m small. (omega arith, omega arith, tt))
    (λ m ds big h. digits_push ds (m % 10) (omega arith) h) n l

-- a text of digits ends at the first `_`
pub split_same : (xs zs ys ws : List ℕ) → AreDigits xs → AreDigits zs → xs ++ 95 ∷ ys ≡ zs ++ 95 ∷ ws → (xs ≡ zs) × (ys ≡ ws)
split_same [] [] ys ws h g e = (refl, cc)
split_same [] (z ∷ zs) ys ws h g e = absurd (let at : 95 ≡ z = cc in omega (arith, g.1))
split_same (x ∷ xs) [] ys ws h g e = absurd (let at : x ≡ 95 = cc in omega (arith, h.1))
split_same (x ∷ xs) (z ∷ zs) ys ws h g e =
    let at : x ≡ z = cc in
    let rest : xs ++ 95 ∷ ys ≡ zs ++ 95 ∷ ws = cc in
    let r = split_same xs zs ys ws h.2 g.2 rest in
    let same : xs ≡ zs = r.0 in
    (cc, r.1)

pub register_same : (k t k' t' : ℕ) → k < 2 ^ 64 → t < 2 ^ 64 → k' < 2 ^ 64 → t' < 2 ^ 64 → register_name k t ≡ register_name k' t' → (k ≡ k') × (t ≡ t')
register_same k t k' t' a b a' b' e =
    let rest : decimal k ++ 95 ∷ decimal t ≡ decimal k' ++ 95 ∷ decimal t' = cc in
    let r = split_same (decimal k) (decimal k') (decimal t) (decimal t') (digits_of_decimal k a) (digits_of_decimal k' a') rest in
    (decimal_injective k k' a a' r.0, decimal_injective t t' b b' r.1)

byte_same : (l m : Letter) → byte_of l ≡ byte_of m → l ≡ m
byte_same Address Address e = refl
byte_same Address Value e = absurd (omega arith)
byte_same Address Condition e = absurd (omega arith)
byte_same Value Address e = absurd (omega arith)
byte_same Value Value e = refl
byte_same Value Condition e = absurd (omega arith)
byte_same Condition Address e = absurd (omega arith)
byte_same Condition Value e = absurd (omega arith)
byte_same Condition Condition e = refl

output_same : (k : ℕ) (l : Letter) (k' : ℕ) (l' : Letter) → k < 2 ^ 64 → k' < 2 ^ 64 → name_of (Output k l) ≡ name_of (Output k' l') → (k ≡ k') × (l ≡ l')
unfolding name_of
output_same k l k' l' a a' e =
    let rest : decimal k ++ 95 ∷ byte_of l ∷ [] ≡ decimal k' ++ 95 ∷ byte_of l' ∷ [] = cc in
    let r = split_same (decimal k) (decimal k') (byte_of l ∷ []) (byte_of l' ∷ []) (digits_of_decimal k a) (digits_of_decimal k' a') rest in
    (decimal_injective k k' a a' r.0, byte_same l l' (ap (λ xs. get_or xs 0 0) r.1))

-- texts with different first letters
heads_apart : {xs ys : List ℕ} {a b : ℕ} → a ≢ b → a ∷ xs ≡ b ∷ ys → ⊥
heads_apart {xs} {ys} {a} {b} n e = n (ap (λ l. get_or l 0 a) e)

pub name_injective : (s s' : Signal) → IsBounded s → IsBounded s' → name_of s ≡ name_of s' → s ≡ s'
unfolding name_of
name_injective (Enable t) (Enable u) a b e = (let r : decimal t ≡ decimal u = cc in ap Enable (decimal_injective t u a b r))
name_injective (Enable t) (Input k) a b e = absurd (heads_apart (λ (x : 101 ≡ 105). omega arith) e)
name_injective (Enable t) (Node k) a b e = absurd (heads_apart (λ (x : 101 ≡ 110). omega arith) e)
name_injective (Enable t) (Output k l) a b e = absurd (heads_apart (λ (x : 101 ≡ 111). omega arith) e)
name_injective (Enable t) (Register k u) a b e = absurd (heads_apart (λ (x : 101 ≡ 114). omega arith) e)
name_injective (Input k) (Enable t) a b e = absurd (heads_apart (λ (x : 105 ≡ 101). omega arith) e)
name_injective (Input k) (Input j) a b e = (let r : decimal k ≡ decimal j = cc in ap Input (decimal_injective k j a b r))
name_injective (Input k) (Node j) a b e = absurd (heads_apart (λ (x : 105 ≡ 110). omega arith) e)
name_injective (Input k) (Output j l) a b e = absurd (heads_apart (λ (x : 105 ≡ 111). omega arith) e)
name_injective (Input k) (Register j u) a b e = absurd (heads_apart (λ (x : 105 ≡ 114). omega arith) e)
name_injective (Node k) (Enable t) a b e = absurd (heads_apart (λ (x : 110 ≡ 101). omega arith) e)
name_injective (Node k) (Input j) a b e = absurd (heads_apart (λ (x : 110 ≡ 105). omega arith) e)
name_injective (Node k) (Node j) a b e = (let r : decimal k ≡ decimal j = cc in ap Node (decimal_injective k j a b r))
name_injective (Node k) (Output j l) a b e = absurd (heads_apart (λ (x : 110 ≡ 111). omega arith) e)
name_injective (Node k) (Register j u) a b e = absurd (heads_apart (λ (x : 110 ≡ 114). omega arith) e)
name_injective (Output k l) (Enable t) a b e = absurd (heads_apart (λ (x : 111 ≡ 101). omega arith) e)
name_injective (Output k l) (Input j) a b e = absurd (heads_apart (λ (x : 111 ≡ 105). omega arith) e)
name_injective (Output k l) (Node j) a b e = absurd (heads_apart (λ (x : 111 ≡ 110). omega arith) e)
name_injective (Output k l) (Output j m) a b e = (let r = output_same k l j m a b e in let p : k ≡ j = r.0 in let q : l ≡ m = r.1 in cc)
name_injective (Output k l) (Register j u) a b e = absurd (heads_apart (λ (x : 111 ≡ 114). omega arith) e)
name_injective (Register k t) (Enable u) a b e = absurd (heads_apart (λ (x : 114 ≡ 101). omega arith) e)
name_injective (Register k t) (Input j) a b e = absurd (heads_apart (λ (x : 114 ≡ 105). omega arith) e)
name_injective (Register k t) (Node j) a b e = absurd (heads_apart (λ (x : 114 ≡ 110). omega arith) e)
name_injective (Register k t) (Output j l) a b e = absurd (heads_apart (λ (x : 114 ≡ 111). omega arith) e)
name_injective (Register k t) (Register j u) a b e = (let r = register_same k t j u a.0 a.1 b.0 b.1 e in let p : k ≡ j = r.0 in let q : t ≡ u = r.1 in cc)
