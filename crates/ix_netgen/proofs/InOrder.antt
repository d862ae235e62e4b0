-- Names in order are names by the rule, and no two are one.
use Rattle.std.proofs.Common.{◌≡◌, ◌≢◌, ◌||◌, ◌&&◌, ℕ, ◌+◌, ◌<◌, ◌≤◌, zero, suc, List, [], ◌∷◌, ◌++◌, Bool, true, false, length, get_or, arith, refl, ap, sym, ◌∙◌, All, AllPairs, Any, Contains, IsTrue, eqb, leb}
use Rattle.std.specs.List.{list_any}
use Rattle.std.specs.Fmt.{decimal}
use Rattle.std.proofs.lemmas.Fmt.{decimal_nonempty}
use Rattle.std.proofs.lemmas.Bool.{false≢true, le-leb}
use Rattle.std.proofs.lemmas.List.Folds.{list_any-from_Any}
use Rattle.std.proofs.lemmas.List.Elements.{All-from_recursion, recursion_from_All}
use Rattle.ix_net.specs.Name.{IsName, is_letter, is_mark, keywords}
use Rattle.ix_ports.specs.declared.letter.Letter.{Letter}
use Rattle.ix_ports.specs.declared.letter.Letter.TheVariants.{Address, Value, Condition}
use Rattle.ix_ports.specs.Ports.{module_name, byte_of}
use Rattle.ix_cells.specs.declared.signal.Signal.{Signal}
use Rattle.ix_cells.specs.declared.signal.Signal.TheVariants.{Enable, Input, Node, Output, Register}
use Rattle.ix_cells.specs.Naming.{name_of, code, IsBounded, Ascends}
use Rattle.ix_cells.proofs.Names.{AreDigits, digits_of_decimal, name_injective}

pub ascends_low : (lo low hi : ℕ) (xs : List (List ℕ)) → low ≤ lo → Ascends lo hi xs → Ascends low hi xs
ascends_low lo low hi [] l h = omega (arith, h)
ascends_low lo low hi (x ∷ xs) l h = (h.0, h.1, h.2, omega (arith, h.3), h.4)

pub ascends_append : (lo mid at hi : ℕ) (xs ys : List (List ℕ)) → mid ≤ at → Ascends lo mid xs → Ascends at hi ys → Ascends lo hi (xs ++ ys)
ascends_append lo mid at hi [] ys l h g = ascends_low at lo hi ys (omega (arith, h)) g
ascends_append lo mid at hi (x ∷ xs) ys l h g = (h.0, h.1, h.2, h.3, ascends_append (code h.0 + 1) mid at hi xs ys l h.4 g)

-- the signal at a place
pub record IsSignal (lo : ℕ) (name : List ℕ) : Type 0 where
  pub signal : Signal
  pub named : name ≡ name_of signal
  pub bounded : IsBounded signal
  pub from : lo ≤ code signal

pub signal_at : (lo hi : ℕ) (xs : List (List ℕ)) → Ascends lo hi xs → (k : ℕ) (d : List ℕ) → k < length xs → IsSignal lo (get_or xs k d)
signal_at lo hi [] h k d l = absurd (omega arith)
signal_at lo hi (x ∷ xs) h zero d l = record { signal = h.0; named = h.1; bounded = h.2; from = h.3 }
signal_at lo hi (x ∷ xs) h (suc k) d l =
    let r = signal_at (code h.0 + 1) hi xs h.4 k d (omega arith) in
    record { signal = r.signal; named = r.named; bounded = r.bounded; from = omega (arith, r.from, h.3) }

pub ascends_apart : (lo hi : ℕ) (xs : List (List ℕ)) → Ascends lo hi xs → AllPairs (λ x y. x ≢ y) xs
ascends_apart lo hi [] h i j d l m e = omega arith
ascends_apart lo hi (x ∷ xs) h zero zero d l m e = omega arith
ascends_apart lo hi (x ∷ xs) h (suc i) zero d l m e = omega arith
ascends_apart lo hi (x ∷ xs) h (suc i) (suc j) d l m e = ascends_apart (code h.0 + 1) hi xs h.4 i j d (omega arith) (omega arith) e
ascends_apart lo hi (x ∷ xs) h zero (suc j) d l m e =
    let r = signal_at (code h.0 + 1) hi xs h.4 j d (omega arith) in
    let same : h.0 ≡ r.signal = name_injective h.0 r.signal h.2 r.bounded (sym h.1 ∙ e ∙ r.named) in
    let codes : code h.0 ≡ code r.signal = ap code same in
    omega (arith, r.from)

-- ---- the rule for names
-- no keyword starts so: with e, i or o, or with a digit in second place
abbrev is_free : List ℕ → Bool
is_free x = eqb (get_or x 0 0) 101 || (eqb (get_or x 0 0) 105 || (eqb (get_or x 0 0) 111 || (leb 48 (get_or x 1 0) && leb (get_or x 1 0) 57)))

no_keyword_free : list_any is_free keywords ≡ false
no_keyword_free = refl

free_from : (x : List ℕ) → is_free x ≡ true → Contains keywords x → ⊥
free_from x h c = false≢true (sym no_keyword_free ∙ list_any-from_Any is_free keywords (c.0, x, c.1, c.2, h))

-- a test of each byte
abbrev AreFit : List ℕ → Type 0
AreFit [] = Unit {0}
AreFit (b ∷ bs) = IsTrue (is_letter b || is_mark b) × AreFit bs

fit_all : (xs : List ℕ) → AreFit xs → All (λ b. IsTrue (is_letter b || is_mark b)) xs
fit_all xs h = All-from_recursion (λ b. IsTrue (is_letter b || is_mark b)) xs (go xs h)
  where
    go : (ys : List ℕ) → AreFit ys → Rattle.std.specs.List.AllByRecursion (λ b. IsTrue (is_letter b || is_mark b)) ys
    go [] g = tt
    go (y ∷ ys) g = (g.0, go ys g.1)

fit_append : (xs ys : List ℕ) → AreFit xs → AreFit ys → AreFit (xs ++ ys)
fit_append [] ys h g = g
fit_append (x ∷ xs) ys h g = (h.0, fit_append xs ys h.1 g)

or_right : (a b : Bool) → b ≡ true → (a || b) ≡ true
or_right true b h = refl
or_right false b h = h

digit_test : (d : ℕ) → 48 ≤ d → d ≤ 57 → (leb 48 d && leb d 57) ≡ true
digit_test d l h = (let a = le-leb 48 d l in let b = le-leb d 57 h in rw (a, b) refl)

digit_mark : (d : ℕ) → 48 ≤ d → d ≤ 57 → is_mark d ≡ true
digit_mark d l h = (let e = digit_test d l h in rw e refl)

digits_fit : (xs : List ℕ) → AreDigits xs → AreFit xs
digits_fit [] h = tt
digits_fit (x ∷ xs) h = (or_right (is_letter x) (is_mark x) (digit_mark x h.0 h.1), digits_fit xs h.2)

head_digit : (xs : List ℕ) → AreDigits xs → 0 < length xs → (leb 48 (get_or xs 0 0) && leb (get_or xs 0 0) 57) ≡ true
head_digit [] h l = absurd (omega arith)
head_digit (x ∷ xs) h l = digit_test x h.0 h.1

abbrev HasMark : List ℕ → Type 0
HasMark xs = Any (λ b. IsTrue (is_mark b)) xs

mark_cons : (x : ℕ) (xs : List ℕ) → HasMark xs → HasMark (x ∷ xs)
mark_cons x xs h = (suc h.0, h.1, omega (arith, h.2), h.3, h.4)

mark_digits : (xs ys : List ℕ) → AreDigits xs → 0 < length xs → HasMark (xs ++ ys)
mark_digits [] ys h l = absurd (omega arith)
mark_digits (x ∷ xs) ys h l = (0, x, omega arith, refl, digit_mark x h.0 h.1)

mark_only : (xs : List ℕ) → AreDigits xs → 0 < length xs → HasMark xs
mark_only [] h l = absurd (omega arith)
mark_only (x ∷ xs) h l = (0, x, omega arith, refl, digit_mark x h.0 h.1)

letter_fit : (l : Letter) → IsTrue (is_letter (byte_of l) || is_mark (byte_of l))
letter_fit Address = refl
letter_fit Value = refl
letter_fit Condition = refl

pub signal_named : (s : Signal) → IsBounded s → IsName (name_of s)
unfolding name_of
signal_named (Enable t) b =
    let d = digits_of_decimal t b in let n = decimal_nonempty t b in
    record {
      starts = refl;
      plain = fit_all (101 ∷ 110 ∷ decimal t) (refl, (refl, digits_fit (decimal t) d));
      marked = mark_cons 101 (110 ∷ decimal t) (mark_cons 110 (decimal t) (mark_only (decimal t) d n));
      free = free_from (101 ∷ 110 ∷ decimal t) refl;
    }
signal_named (Input k) b =
    let d = digits_of_decimal k b in let n = decimal_nonempty k b in
    record {
      starts = refl;
      plain = fit_all (105 ∷ 110 ∷ decimal k) (refl, (refl, digits_fit (decimal k) d));
      marked = mark_cons 105 (110 ∷ decimal k) (mark_cons 110 (decimal k) (mark_only (decimal k) d n));
      free = free_from (105 ∷ 110 ∷ decimal k) refl;
    }
signal_named (Node k) b =
    let d = digits_of_decimal k b in let n = decimal_nonempty k b in
    record {
      starts = refl;
      plain = fit_all (110 ∷ decimal k) (refl, digits_fit (decimal k) d);
      marked = mark_cons 110 (decimal k) (mark_only (decimal k) d n);
      free = free_from (110 ∷ decimal k) (head_digit (decimal k) d n);
    }
signal_named (Output k l) b =
    let d = digits_of_decimal k b in let n = decimal_nonempty k b in
    let rest : List ℕ = decimal k ++ 95 ∷ byte_of l ∷ [] in
    record {
      starts = refl;
      plain = fit_all (111 ∷ 117 ∷ 116 ∷ rest) (refl, (refl, (refl, fit_append (decimal k) (95 ∷ byte_of l ∷ []) (digits_fit (decimal k) d) (refl, (letter_fit l, tt)))));
      marked = mark_cons 111 (117 ∷ 116 ∷ rest) (mark_cons 117 (116 ∷ rest) (mark_cons 116 rest (mark_digits (decimal k) (95 ∷ byte_of l ∷ []) d n)));
      free = free_from (111 ∷ 117 ∷ 116 ∷ rest) refl;
    }
signal_named (Register k t) b =
    let d = digits_of_decimal k b.0 in let n = decimal_nonempty k b.0 in
    let e = digits_of_decimal t b.1 in
    record {
      starts = refl;
      plain = fit_all (114 ∷ (decimal k ++ 95 ∷ decimal t)) (refl, fit_append (decimal k) (95 ∷ decimal t) (digits_fit (decimal k) d) (refl, digits_fit (decimal t) e));
      marked = mark_cons 114 (decimal k ++ 95 ∷ decimal t) (mark_digits (decimal k) (95 ∷ decimal t) d n);
      free = free_from (114 ∷ (decimal k ++ 95 ∷ decimal t)) (head_front (decimal k) (95 ∷ decimal t) d n);
    }
  where
    head_front : (xs ys : List ℕ) → AreDigits xs → 0 < length xs → (leb 48 (get_or (xs ++ ys) 0 0) && leb (get_or (xs ++ ys) 0 0) 57) ≡ true
    head_front [] ys h l = absurd (omega arith)
    head_front (x ∷ xs) ys h l = digit_test x h.0 h.1

-- the name of a behaviour's module
pub module_named : (name : List ℕ) → All (λ b. IsTrue (is_letter b || is_mark b)) name → IsName (module_name name)
module_named name h = record {
  starts = refl;
  plain = fit_all (105 ∷ 120 ∷ 116 ∷ 95 ∷ name) (refl, (refl, (refl, (refl, of_all name h))));
  marked = (3, 95, omega arith, refl, refl);
  free = free_from (105 ∷ 120 ∷ 116 ∷ 95 ∷ name) refl;
}
  where
    go : (ys : List ℕ) → Rattle.std.specs.List.AllByRecursion (λ b. IsTrue (is_letter b || is_mark b)) ys → AreFit ys
    go [] g = tt
    go (y ∷ ys) g = (g.0, go ys g.1)

    of_all : (xs : List ℕ) → All (λ b. IsTrue (is_letter b || is_mark b)) xs → AreFit xs
    of_all xs g = go xs (recursion_from_All (λ b. IsTrue (is_letter b || is_mark b)) xs g)

pub module_apart : (name : List ℕ) (s : Signal) → module_name name ≢ name_of s
unfolding name_of
module_apart name (Enable t) e = (let h : ◌≡◌ {A = ℕ} 105 101 = ap (λ (l : List ℕ). get_or l 0 0) e in omega arith)
module_apart name (Input k) e = (let h : ◌≡◌ {A = ℕ} 120 110 = ap (λ (l : List ℕ). get_or l 1 0) e in omega arith)
module_apart name (Node k) e = (let h : ◌≡◌ {A = ℕ} 105 110 = ap (λ (l : List ℕ). get_or l 0 0) e in omega arith)
module_apart name (Output k l) e = (let h : ◌≡◌ {A = ℕ} 105 111 = ap (λ (l : List ℕ). get_or l 0 0) e in omega arith)
module_apart name (Register k t) e = (let h : ◌≡◌ {A = ℕ} 105 114 = ap (λ (l : List ℕ). get_or l 0 0) e in omega arith)

-- the module's name and the names of its signals
pub all_apart : (name : List ℕ) (hi : ℕ) (xs : List (List ℕ)) → Ascends 0 hi xs → AllPairs (λ x y. x ≢ y) (module_name name ∷ xs)
all_apart name hi xs h zero zero d l m e = omega arith
all_apart name hi xs h (suc i) zero d l m e = omega arith
all_apart name hi xs h (suc i) (suc j) d l m e = ascends_apart 0 hi xs h i j d (omega arith) (omega arith) e
all_apart name hi xs h zero (suc j) d l m e = (let r = signal_at 0 hi xs h j d (omega arith) in module_apart name r.signal (e ∙ r.named))
