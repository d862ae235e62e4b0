-- A module is that of one net.
use Rattle.std.proofs.Common.{◌≡◌, ◌≢◌, ℕ, zero, suc, ◌+◌, ◌*◌, ◌/◌, ◌%◌, ◌<◌, ◌≤◌, ◌^◌, List, [], ◌∷◌, ◌++◌, Bool, true, false, map, get_or, refl, ap, sym, ◌∙◌, subst, arith, inl, inr, Some}
use Rattle.std.specs.Prelude.{codes, decimal, All, AllPairs, Contains, if◌then◌else◌, nat_eq, nat_lt, nat_le, ◌&&◌, ◌||◌}
use Rattle.std.specs.Str.{bytes_eq}
use Rattle.std.specs.List.{list_all, AllByRecursion, AllZip}
use Rattle.std.proofs.lemmas.Bool.{cases_lt, lt-ltb, le-ltb, and_from, and_parts, or_cases, leb-true, eqb-true, false_from_ne_true}
use Rattle.std.proofs.lemmas.List.{append_cancel_left}
use Rattle.std.proofs.lemmas.Fmt.{decimal_injective}
use Rattle.std.proofs.lemmas.Option.{same_Some}
use Rattle.std.proofs.lemmas.List.Elements.{All-head, All-tail, All-contains, Contains-append_left, Contains-append_right, Contains-get_or}
use Rattle.std.proofs.Math.Nat.{pow-suc, pow-le-pow_right}
use Rattle.ix_bits.specs.declared.number.Bits.{Bits}
use Rattle.ix_bits.proofs.Same.{bits_are}
use Rattle.ix_net.specs.declared.netlist.Net.{Net}
use Rattle.ix_net.specs.declared.netlist.Port.{Port}
use Rattle.ix_net.specs.declared.netlist.Cell.{Cell}
use Rattle.ix_net.specs.declared.netlist.Bank.{Bank}
use Rattle.ix_net.specs.declared.netlist.Form.{Form}
use Rattle.ix_net.specs.declared.netlist.Form.TheVariants.{Hex, Copy, Add, Sub, Mul, And, Or, Xor, Not, Eq, Lt, LtSigned, Join, Range, Choose}
use Rattle.std.proofs.lemmas.Slice.Eq.{bytes_eq-Decides}
use Rattle.ix_net.specs.Name.{IsName, is_letter}
use Rattle.ix_net.specs.Forms.{operands, Fits}
use Rattle.ix_net.specs.Valid.{IsValid, IsWidth, names}
use Rattle.ix_net.specs.Signals.{signals, width_of, cell_port, bank_port}
use Rattle.ix_net.proofs.NetLemmas.{fits_operands, HasWidth, placed_from_width}
use Rattle.ix_net.proofs.TableLemmas.{place_within, name_at_place, width_at_place}
use Rattle.ix_verilog.specs.declared.source.Source.{Source}
use Rattle.ix_verilog.specs.declared.source.Update.{Update}
use Rattle.ix_verilog.specs.Subset.{IsNetOf, Denotes, LeavesAt, declared, assigned}
use Rattle.ix_verilog.proofs.OneReading.{written_once, written_stays}
use Rattle.ix_verilog.proofs.Pairs.{contains_mapped, all_of, pairs_head, pairs_tail, head_case}
use Rattle.ix_verilog.specs.Words.{Word, is_digit}
use Rattle.ix_verilog.specs.Lines.{form_words, right_words, right_of, hex, hex_upto, hex_digit, is_hex_digit, AreDigits, IsNumber}
use Rattle.ix_verilog.proofs.Digits.{decimal_is_number, hex_are_digits}
use Rattle.ix_verilog.proofs.Fronts.{fronts}
use Rattle.ix_verilog.proofs.HexLemmas.{hex_small, hex_large}
use Rattle.ix_verilog.proofs.OneLine.{apart, shape_of}

-- ---- hexadecimal digits
snoc : {X : Type 0} (xs ys : List X) (a b : X) → xs ++ a ∷ [] ≡ ys ++ b ∷ [] → (xs ≡ ys) × (a ≡ b)
snoc [] [] a b e = (refl, (let k : a ≡ b = cc in k))
snoc [] (y ∷ []) a b e = absurd (short e)
  where
    short : a ∷ [] ≡ y ∷ b ∷ [] → ⊥
    short f = cc
snoc [] (y ∷ z ∷ ys) a b e = absurd (short e)
  where
    short : a ∷ [] ≡ y ∷ z ∷ (ys ++ b ∷ []) → ⊥
    short f = cc
snoc (x ∷ []) [] a b e = absurd (short e)
  where
    short : x ∷ a ∷ [] ≡ b ∷ [] → ⊥
    short f = cc
snoc (x ∷ z ∷ xs) [] a b e = absurd (short e)
  where
    short : x ∷ z ∷ (xs ++ a ∷ []) ≡ b ∷ [] → ⊥
    short f = cc
snoc (x ∷ xs) (y ∷ ys) a b e =
    let h : x ≡ y = cc in
    let t : xs ++ a ∷ [] ≡ ys ++ b ∷ [] = cc in
    let r = snoc xs ys a b t in
    (ap (λ z. z ∷ xs) h ∙ ap (λ z. y ∷ z) r.0, r.1)

low_digit : (x : ℕ) → x < 10 → hex_digit x ≡ 48 + x
low_digit x h = (let t : nat_lt x 10 ≡ true = lt-ltb x 10 h in rw t refl)

high_digit : (x : ℕ) → 10 ≤ x → hex_digit x ≡ 87 + x
high_digit x h = (let t : nat_lt x 10 ≡ false = le-ltb x 10 h in rw t refl)

digit_same : (x y : ℕ) → hex_digit x ≡ hex_digit y → x < 16 → y < 16 → x ≡ y
digit_same x y e h k = elim (cases_lt x 10) [
  | inl a ↦ elim (cases_lt y 10) [
    | inl b ↦ omega (arith, e, low_digit x a, low_digit y b)
    | inr b ↦ omega (arith, e, low_digit x a, high_digit y b)
  ]
  | inr a ↦ elim (cases_lt y 10) [
    | inl b ↦ omega (arith, e, high_digit x a, low_digit y b)
    | inr b ↦ omega (arith, e, high_digit x a, high_digit y b)
  ]
]

some_digit : (n x : ℕ) (r : List ℕ) → x < 16 ^ suc n → hex_upto (suc n) x ≡ [] → ⊥
some_digit n x r h e = subst (AreDigits is_hex_digit) e (hex_are_digits n x h)

-- a number of one digit and one of more
mixed : (n x y : ℕ) → x < 16 → 16 ≤ y → y < 16 ^ suc n → hex_upto (suc n) x ≡ hex_upto (suc n) y → ⊥
mixed zero x y h k l e = omega arith
mixed (suc n) x y h k l e =
    let p : 16 ^ suc (suc n) ≡ 16 ^ suc n * 16 = pow-suc 16 (suc n) in
    let d : y / 16 < 16 ^ suc n = omega arith in
    let f : [] ++ hex_digit x ∷ [] ≡ hex_upto (suc n) (y / 16) ++ hex_digit (y % 16) ∷ [] = sym (hex_small (suc n) x h) ∙ e ∙ hex_large (suc n) y k in
    some_digit n (y / 16) [] d (sym (snoc [] (hex_upto (suc n) (y / 16)) (hex_digit x) (hex_digit (y % 16)) f).0)

hex_same : (n x y : ℕ) → x < 16 ^ suc n → y < 16 ^ suc n → hex_upto (suc n) x ≡ hex_upto (suc n) y → x ≡ y
hex_same zero x y h k e =
    let f : [] ++ hex_digit x ∷ [] ≡ [] ++ hex_digit y ∷ [] = sym (hex_small 0 x (omega arith)) ∙ e ∙ hex_small 0 y (omega arith) in
    digit_same x y (snoc [] [] (hex_digit x) (hex_digit y) f).1 (omega arith) (omega arith)
hex_same (suc n) x y h k e =
    let p : 16 ^ suc (suc n) ≡ 16 ^ suc n * 16 = pow-suc 16 (suc n) in
    elim (cases_lt x 16) [
      | inl a ↦ elim (cases_lt y 16) [
        | inl b ↦ (let f : [] ++ hex_digit x ∷ [] ≡ [] ++ hex_digit y ∷ [] = sym (hex_small (suc n) x a) ∙ e ∙ hex_small (suc n) y b in
            digit_same x y (snoc [] [] (hex_digit x) (hex_digit y) f).1 a b)
        | inr b ↦ absurd (mixed (suc n) x y a b k e)
      ]
      | inr a ↦ elim (cases_lt y 16) [
        | inl b ↦ absurd (mixed (suc n) y x b a h (sym e))
        | inr b ↦ (let f : hex_upto (suc n) (x / 16) ++ hex_digit (x % 16) ∷ [] ≡ hex_upto (suc n) (y / 16) ++ hex_digit (y % 16) ∷ [] = sym (hex_large (suc n) x a) ∙ e ∙ hex_large (suc n) y b in
            let s = snoc (hex_upto (suc n) (x / 16)) (hex_upto (suc n) (y / 16)) (hex_digit (x % 16)) (hex_digit (y % 16)) f in
            let q : x / 16 ≡ y / 16 = hex_same n (x / 16) (y / 16) (omega arith) (omega arith) s.0 in
            let r : x % 16 ≡ y % 16 = digit_same (x % 16) (y % 16) s.1 (omega arith) (omega arith) in
            omega (arith, q, r))
      ]
    ]

pub raw_small : (d : Bits) → d.raw < 16 ^ 32
raw_small d =
    let two : 0 < 2 = omega arith in
    let p : 2 ^ d.width ≤ 2 ^ 128 = pow-le-pow_right {n = 2} two d.most_width in
    omega (arith, p, d.in_width)

digits_all : (w : Word) → IsNumber w → list_all is_digit w ≡ true
digits_all [] h = absurd h
digits_all (b ∷ w) h = and_from (is_digit b) (list_all is_digit w) h.0 h.1

literal_same : (d e : Bits) → decimal d.width ++ (codes "'h" ++ hex d.raw) ≡ decimal e.width ++ (codes "'h" ++ hex e.raw) → d ≡ e
literal_same d e h =
    let a = decimal_is_number d.width (omega (arith, d.most_width)) in
    let b = decimal_is_number e.width (omega (arith, e.most_width)) in
    let f : decimal d.width ≡ decimal e.width = fronts is_digit (decimal d.width) (codes "'h" ++ hex d.raw) (decimal e.width) (codes "'h" ++ hex e.raw) (digits_all (decimal d.width) a) refl (digits_all (decimal e.width) b) refl h in
    let w : d.width ≡ e.width = decimal_injective d.width e.width (omega (arith, d.most_width)) (omega (arith, e.most_width)) f in
    let r : codes "'h" ++ hex d.raw ≡ codes "'h" ++ hex e.raw = append_cancel_left (decimal d.width) (codes "'h" ++ hex d.raw) (codes "'h" ++ hex e.raw) (h ∙ ap (λ z. z ++ (codes "'h" ++ hex e.raw)) (sym f)) in
    let x : hex d.raw ≡ hex e.raw = append_cancel_left (codes "'h") (hex d.raw) (hex e.raw) r in
    bits_are d e (hex_same 31 d.raw e.raw (raw_small d) (raw_small e) x) w

-- ---- right sides
abbrev form_shape : Form → ℕ
form_shape (Hex d) = 0
form_shape (Copy a) = 1
form_shape (Add a b) = 2
form_shape (Sub a b) = 3
form_shape (Mul a b) = 4
form_shape (And a b) = 5
form_shape (Or a b) = 6
form_shape (Xor a b) = 7
form_shape (Not a) = 8
form_shape (Eq a b) = 9
form_shape (Lt a b) = 10
form_shape (LtSigned a b) = 11
form_shape (Join a b) = 12
form_shape (Range a hi lo) = 13
form_shape (Choose c a b) = 14

shape_is : (f : Form) → shape_of (right_of f) ≡ form_shape f
shape_is (Hex d) = refl
shape_is (Copy a) = refl
shape_is (Add a b) = refl
shape_is (Sub a b) = refl
shape_is (Mul a b) = refl
shape_is (And a b) = refl
shape_is (Or a b) = refl
shape_is (Xor a b) = refl
shape_is (Not a) = refl
shape_is (Eq a b) = refl
shape_is (Lt a b) = refl
shape_is (LtSigned a b) = refl
shape_is (Join a b) = refl
shape_is (Range a hi lo) = refl
shape_is (Choose c a b) = refl

-- the numbers of a range are small
abbrev pub IsSmall : Form → Type 0
IsSmall (Range a hi lo) = (hi < 2 ^ 64) × (lo < 2 ^ 64)
IsSmall form = Unit {0}

pair_same : (F : Word → Word → Form) (a b c d o p : Word) → a ∷ o ∷ b ∷ [] ≡ c ∷ p ∷ d ∷ [] → F a b ≡ F c d
pair_same F a b c d o p e =
    let f : a ≡ c = cc in
    let g : b ≡ d = cc in
    ap (λ z. F z b) f ∙ ap (λ z. F c z) g

not_same : (a b x y : Word) → x ∷ a ∷ [] ≡ y ∷ b ∷ [] → Not a ≡ Not b
not_same a b x y e = (let f : a ≡ b = cc in ap Not f)

copy_same : (a b : Word) → a ∷ [] ≡ b ∷ [] → Copy a ≡ Copy b
copy_same a b e = (let f : a ≡ b = cc in ap Copy f)

signed_same : (a b c d : Word) → form_words (LtSigned a b) ≡ form_words (LtSigned c d) → LtSigned a b ≡ LtSigned c d
signed_same a b c d e =
    let f : a ≡ c = cc in
    let g : b ≡ d = cc in
    ap (λ z. LtSigned z b) f ∙ ap (λ z. LtSigned c z) g

join_same : (a b c d : Word) → form_words (Join a b) ≡ form_words (Join c d) → Join a b ≡ Join c d
join_same a b c d e =
    let f : a ≡ c = cc in
    let g : b ≡ d = cc in
    ap (λ z. Join z b) f ∙ ap (λ z. Join c z) g

range_same : (a b : Word) (h l i m : ℕ) → IsSmall (Range a h l) → IsSmall (Range b i m) → form_words (Range a h l) ≡ form_words (Range b i m) → Range a h l ≡ Range b i m
range_same a b h l i m s t e =
    let f : a ≡ b = cc in
    let g : decimal h ≡ decimal i = cc in
    let k : decimal l ≡ decimal m = cc in
    let x : h ≡ i = decimal_injective h i s.0 t.0 g in
    let y : l ≡ m = decimal_injective l m s.1 t.1 k in
    ap (λ z. Range z h l) f ∙ ap (λ z. Range b z l) x ∙ ap (λ z. Range b i z) y

choice_same : (a b c d e f : Word) → form_words (Choose a b c) ≡ form_words (Choose d e f) → Choose a b c ≡ Choose d e f
choice_same a b c d e f h =
    let x : a ≡ d = cc in
    let y : b ≡ e = cc in
    let z : c ≡ f = cc in
    ap (λ q. Choose q b c) x ∙ ap (λ q. Choose d q c) y ∙ ap (λ q. Choose d e q) z

hex_form_same : (d e : Bits) → form_words (Hex d) ≡ form_words (Hex e) → Hex d ≡ Hex e
hex_form_same d e h = (let w : decimal d.width ++ (codes "'h" ++ hex d.raw) ≡ decimal e.width ++ (codes "'h" ++ hex e.raw) = one_word (decimal d.width ++ (codes "'h" ++ hex d.raw)) (decimal e.width ++ (codes "'h" ++ hex e.raw)) h in ap Hex (literal_same d e w))
  where
    one_word : (x y : Word) → x ∷ [] ≡ y ∷ [] → x ≡ y
    one_word x y f = cc

same_form : (f g : Form) → IsSmall f → IsSmall g → form_shape f ≡ form_shape g → form_words f ≡ form_words g → f ≡ g
same_form (Hex d) (Hex e) s t o h = hex_form_same d e h
same_form (Copy a) (Copy b) s t o h = copy_same a b h
same_form (Add a b) (Add c d) s t o h = pair_same Add a b c d (codes "+") (codes "+") h
same_form (Sub a b) (Sub c d) s t o h = pair_same Sub a b c d (codes "-") (codes "-") h
same_form (Mul a b) (Mul c d) s t o h = pair_same Mul a b c d (codes "*") (codes "*") h
same_form (And a b) (And c d) s t o h = pair_same And a b c d (codes "&") (codes "&") h
same_form (Or a b) (Or c d) s t o h = pair_same Or a b c d (codes "|") (codes "|") h
same_form (Xor a b) (Xor c d) s t o h = pair_same Xor a b c d (codes "^") (codes "^") h
same_form (Not a) (Not b) s t o h = not_same a b (codes "~") (codes "~") h
same_form (Eq a b) (Eq c d) s t o h = pair_same Eq a b c d (codes "==") (codes "==") h
same_form (Lt a b) (Lt c d) s t o h = pair_same Lt a b c d (codes "<") (codes "<") h
same_form (LtSigned a b) (LtSigned c d) s t o h = signed_same a b c d h
same_form (Join a b) (Join c d) s t o h = join_same a b c d h
same_form (Range a h l) (Range b i m) s t o e = range_same a b h l i m s t e
same_form (Choose a b c) (Choose d e f) s t o h = choice_same a b c d e f h
same_form f g s t o h = absurd (apart (form_shape f) (form_shape g) refl o)

-- a right side is written for one operation
pub one_form : (f g : Form) → IsSmall f → IsSmall g → right_of f ≡ right_of g → f ≡ g
one_form f g s t e = same_form f g s t (sym (shape_is f) ∙ ap shape_of e ∙ shape_is g) (ap right_words e)

-- ---- names and numbers of a valid net
port_of : (net : Net) → (n : Word) (w : ℕ) → width_of (signals net) n ≡ Some w → (p : Port) × Contains (signals net) p × (p.name ≡ n) × (w ≡ p.width)
port_of net n w e =
    let k = placed_from_width (signals net) n w e in
    let d : Port = record { name = n; width = w } in
    let same : w ≡ (get_or (signals net) k.0 d).width = same_Some w (get_or (signals net) k.0 d).width (sym e ∙ width_at_place (signals net) n k.0 d k.1) in
    (get_or (signals net) k.0 d, Contains-get_or (signals net) k.0 d (place_within (signals net) n k.0 k.1), name_at_place (signals net) n k.0 d k.1, same)

most_width : (net : Net) → IsValid net → (n : Word) (w : ℕ) → width_of (signals net) n ≡ Some w → w ≤ 128
most_width net v n w e = (let p = port_of net n w e in let f : IsWidth p.0.width = All-contains (λ (q : Port). IsWidth q.width) (signals net) p.0 v.widths p.1 in omega (arith, f.most, p.3))

pub small_form : (net : Net) → IsValid net → (f : Form) (w : ℕ) → Fits (width_of (signals net)) w f → IsSmall f
small_form net v (Hex d) w h = tt
small_form net v (Copy a) w h = tt
small_form net v (Add a b) w h = tt
small_form net v (Sub a b) w h = tt
small_form net v (Mul a b) w h = tt
small_form net v (And a b) w h = tt
small_form net v (Or a b) w h = tt
small_form net v (Xor a b) w h = tt
small_form net v (Not a) w h = tt
small_form net v (Eq a b) w h = tt
small_form net v (Lt a b) w h = tt
small_form net v (LtSigned a b) w h = tt
small_form net v (Join a b) w h = tt
small_form net v (Range a hi lo) w h = (let k = most_width net v a h.0 h.1 in (omega (arith, k, h.3), omega (arith, k, h.2, h.3)))
small_form net v (Choose c a b) w h = tt

-- ---- cells and registers
port_once : (ps : List Port) → AllPairs (λ x y. x ≢ y) (names ps) → (p q : Port) → Contains ps p → Contains ps q → p.name ≡ q.name → p ≡ q
port_once [] h p q c d e = absurd (omega (arith, c.1))
port_once (r ∷ ps) h p q c d e = elim (head_case r ps p c) [
  | inl a ↦ elim (head_case r ps q d) [
    | inl b ↦ sym a ∙ b
    | inr b ↦ absurd (pairs_head (λ x y. x ≢ y) r.name (names ps) h q.name (contains_mapped (λ (z : Port). z.name) ps q b) (ap (λ (z : Port). z.name) a ∙ e))
  ]
  | inr a ↦ elim (head_case r ps q d) [
    | inl b ↦ absurd (pairs_head (λ x y. x ≢ y) r.name (names ps) h p.name (contains_mapped (λ (z : Port). z.name) ps p a) (ap (λ (z : Port). z.name) b ∙ sym e))
    | inr b ↦ port_once ps (pairs_tail (λ x y. x ≢ y) r.name (names ps) h) p q a b e
  ]
]

record IsFine (ports : List Port) (c : Cell) : Type 0 where
  pub declared_so : Contains ports (cell_port c)
  pub small : IsSmall c.form

cell_same : (c d : Cell) → c.target ≡ d.target → c.width ≡ d.width → c.form ≡ d.form → c ≡ d
cell_same c d t w f =
    ap (λ x. let r : Cell = record { target = x; width = c.width; form = c.form } in r) t ∙ ap (λ x. let r : Cell = record { target = d.target; width = x; form = c.form } in r) w
    ∙ ap (λ x. let r : Cell = record { target = d.target; width = d.width; form = x } in r) f

heads : {X : Type 0} (x y : X) (xs ys : List X) → x ∷ xs ≡ y ∷ ys → x ≡ y
heads x y xs ys e = cc

tails : {X : Type 0} (x y : X) (xs ys : List X) → x ∷ xs ≡ y ∷ ys → xs ≡ ys
tails x y xs ys e = cc

no_cons : {X : Type 0} (x : X) (xs : List X) → x ∷ xs ≡ [] → ⊥
no_cons x xs e = cc

cells_same : (ports : List Port) → AllPairs (λ x y. x ≢ y) (names ports) → (cs ds : List Cell) → All (IsFine ports) cs → All (IsFine ports) ds
    → map (λ (c : Cell). c.target) cs ≡ map (λ (c : Cell). c.target) ds → map (λ (c : Cell). right_of c.form) cs ≡ map (λ (c : Cell). right_of c.form) ds → cs ≡ ds
cells_same ports h [] [] f g e i = refl
cells_same ports h [] (d ∷ ds) f g e i = absurd (no_cons d.target (map (λ (c : Cell). c.target) ds) (sym e))
cells_same ports h (c ∷ cs) [] f g e i = absurd (no_cons c.target (map (λ (x : Cell). x.target) cs) e)
cells_same ports h (c ∷ cs) (d ∷ ds) f g e i =
    let a : IsFine ports c = All-head (IsFine ports) c cs f in
    let b : IsFine ports d = All-head (IsFine ports) d ds g in
    let t : c.target ≡ d.target = heads c.target d.target (map (λ (x : Cell). x.target) cs) (map (λ (x : Cell). x.target) ds) e in
    let w : right_of c.form ≡ right_of d.form = heads (right_of c.form) (right_of d.form) (map (λ (x : Cell). right_of x.form) cs) (map (λ (x : Cell). right_of x.form) ds) i in
    let p : cell_port c ≡ cell_port d = port_once ports h (cell_port c) (cell_port d) a.declared_so b.declared_so t in
    let s : c ≡ d = cell_same c d t (ap (λ (z : Port). z.width) p) (one_form c.form d.form a.small b.small w) in
    let r = cells_same ports h cs ds (All-tail (IsFine ports) c cs f) (All-tail (IsFine ports) d ds g)
    (tails c.target d.target (map (λ (x : Cell). x.target) cs) (map (λ (x : Cell). x.target) ds) e)
    (tails (right_of c.form) (right_of d.form) (map (λ (x : Cell). right_of x.form) cs) (map (λ (x : Cell). right_of x.form) ds) i) in
    ap (λ z. z ∷ cs) s ∙ ap (λ z. d ∷ z) r

abbrev to_update : Bank → Update
to_update b = record { enable = b.enable; target = b.target; source = b.source }

bank_same : (b d : Bank) → to_update b ≡ to_update d → b.width ≡ d.width → b ≡ d
bank_same b d u w =
    ap (λ (x : Update). let r : Bank = record { target = x.target; width = b.width; enable = x.enable; source = x.source } in r) u
    ∙ ap (λ x. let r : Bank = record { target = d.target; width = x; enable = d.enable; source = d.source } in r) w

banks_same : (ports : List Port) → AllPairs (λ x y. x ≢ y) (names ports) → (bs ds : List Bank) → All (λ (b : Bank). Contains ports (bank_port b)) bs → All (λ (b : Bank). Contains ports (bank_port b)) ds
    → map to_update bs ≡ map to_update ds → bs ≡ ds
banks_same ports h [] [] f g e = refl
banks_same ports h [] (d ∷ ds) f g e = absurd (no_cons (to_update d) (map to_update ds) (sym e))
banks_same ports h (b ∷ bs) [] f g e = absurd (no_cons (to_update b) (map to_update bs) e)
banks_same ports h (b ∷ bs) (d ∷ ds) f g e =
    let u : to_update b ≡ to_update d = heads (to_update b) (to_update d) (map to_update bs) (map to_update ds) e in
    let p : bank_port b ≡ bank_port d = port_once ports h (bank_port b) (bank_port d) (All-head (λ (x : Bank). Contains ports (bank_port x)) b bs f) (All-head (λ (x : Bank). Contains ports (bank_port x)) d ds g) (ap (λ (x : Update). x.target) u) in
    let r = banks_same ports h bs ds (All-tail (λ (x : Bank). Contains ports (bank_port x)) b bs f) (All-tail (λ (x : Bank). Contains ports (bank_port x)) d ds g) (tails (to_update b) (to_update d) (map to_update bs) (map to_update ds) e) in
    ap (λ z. z ∷ bs) (bank_same b d u (ap (λ (z : Port). z.width) p)) ∙ ap (λ z. d ∷ z) r

-- ---- nets
cells_fine : (s : Source) (net : Net) → IsNetOf s net → All (IsFine (declared s)) net.cells
cells_fine s net n =
    all_of (IsFine (declared s)) net.cells
    (λ c h. (let f : Fits (width_of (signals net)) c.width c.form = All-contains (λ (d : Cell). Fits (width_of (signals net)) d.width d.form) net.cells c n.valid.cells_fit h in
    let a : Contains (assigned s) (cell_port c) = All-contains (λ (d : Cell). Contains (assigned s) (cell_port d)) net.cells c n.cell_widths h in
    record {
      declared_so = Contains-append_left (s.inputs ++ assigned s) s.registers (cell_port c) (Contains-append_right s.inputs (assigned s) (cell_port c) a);
      small = small_form net n.valid c.form c.width f;
    }))

banks_fine : (s : Source) (net : Net) → IsNetOf s net → All (λ (b : Bank). Contains (declared s) (bank_port b)) net.banks
banks_fine s net n =
    all_of (λ (b : Bank). Contains (declared s) (bank_port b)) net.banks
    (λ b h. Contains-append_right (s.inputs ++ assigned s) s.registers (bank_port b) (All-contains (λ (d : Bank). Contains s.registers (bank_port d)) net.banks b n.bank_widths h))

net_same : (n m : Net) → n.name ≡ m.name → n.inputs ≡ m.inputs → n.cells ≡ m.cells → n.banks ≡ m.banks → n.outputs ≡ m.outputs → n ≡ m
net_same n m a b c d e =
    ap (λ x. let r : Net = record { name = x; inputs = n.inputs; cells = n.cells; banks = n.banks; outputs = n.outputs } in r) a
    ∙ ap (λ x. let r : Net = record { name = m.name; inputs = x; cells = n.cells; banks = n.banks; outputs = n.outputs } in r) b
    ∙ ap (λ x. let r : Net = record { name = m.name; inputs = m.inputs; cells = x; banks = n.banks; outputs = n.outputs } in r) c
    ∙ ap (λ x. let r : Net = record { name = m.name; inputs = m.inputs; cells = m.cells; banks = x; outputs = n.outputs } in r) d
    ∙ ap (λ x. let r : Net = record { name = m.name; inputs = m.inputs; cells = m.cells; banks = m.banks; outputs = x } in r) e

pub one_net : (s : Source) (n m : Net) → IsNetOf s n → IsNetOf s m → n ≡ m
one_net s n m a b =
    let apart_names : AllPairs (λ x y. x ≢ y) (names (declared s)) = pairs_tail (λ x y. x ≢ y) s.name (names (declared s)) a.once in
    net_same n m (a.named ∙ sym b.named) (a.inputs ∙ sym b.inputs)
    (cells_same (declared s) apart_names n.cells m.cells (cells_fine s n a) (cells_fine s m b) (a.targets ∙ sym b.targets) (a.rights ∙ sym b.rights))
    (banks_same (declared s) apart_names n.banks m.banks (banks_fine s n a) (banks_fine s m b) (a.updates ∙ sym b.updates)) (a.outputs ∙ sym b.outputs)

one_nets : (ss : List Source) (ns ms : List Net) → AllZip IsNetOf ss ns → AllZip IsNetOf ss ms → ns ≡ ms
one_nets [] [] [] a b = refl
one_nets [] [] (m ∷ ms) a b = absurd b
one_nets [] (n ∷ ns) ms a b = absurd a
one_nets (s ∷ ss) [] ms a b = absurd a
one_nets (s ∷ ss) (n ∷ ns) [] a b = absurd b
one_nets (s ∷ ss) (n ∷ ns) (m ∷ ms) a b = ap (λ z. z ∷ ns) (one_net s n m a.0 b.0) ∙ ap (λ z. m ∷ z) (one_nets ss ns ms a.1 b.1)

-- a text denotes one list of nets
pub one_denotation : (text : List ℕ) (ns ms : List Net) → Denotes text ns → Denotes text ms → ns ≡ ms
one_denotation text ns ms a b =
    let e : a.modules ≡ b.modules = written_once text a.modules b.modules a.written b.written in
    one_nets b.modules ns ms (subst (λ (z : List Source). AllZip IsNetOf z ns) e a.nets_of) b.nets_of

pub denoted_stays : (text : List ℕ) (ns : List Net) (byte : ℕ) → Denotes text ns → LeavesAt text byte → ⊥
denoted_stays text ns byte a l = written_stays text a.modules byte a.written l
