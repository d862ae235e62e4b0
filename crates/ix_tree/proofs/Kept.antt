-- What a step owes: the state that it goes to is reached by the tokens before it and that token.
use Rattle.std.proofs.Common.{◌≡◌, ℕ, zero, suc, ◌+◌, ◌≤◌, ◌⊎◌, ⊎_elim, List, [], ◌∷◌, ◌++◌, Bool, true, false, refl, ap, sym, ◌∙◌, subst, append_assoc, append-nil, eqb-true, arith, Option, Some, None, nat_eq, nat_le, add-zero, zero-add}
use Rattle.std.specs.Prelude.{if◌then◌else◌, slice_index_or, ◌&&◌, ◌||◌}
use Rattle.std.proofs.lemmas.Bool.{and_parts, false≢true}
use Rattle.std.proofs.lemmas.Bool.Decides.{nat_tests}
use Rattle.ix_tree.specs.declared.token.Token.{Token}
use Rattle.ix_tree.specs.declared.token.TokenKind.{TokenKind}
use Rattle.ix_tree.specs.declared.token.TokenKind.TheVariants.{Name, Text, Unsized, Sized, Word, Symbol}
use Rattle.ix_tree.specs.Tokens.{equals, plus_plus, minus_minus, minus, tilde, bang, open_square, question}
use Rattle.ix_tree.specs.Trees.{power, powers, Part}
use Rattle.ix_tree.specs.Grammar.{IsOperator, IsUnary, unary_minus, unary_tilde, unary_bang, IsAssignOp, assign_plain, assign_add, assign_sub, assign_mul, assign_and, assign_or, assign_xor, assign_shl, assign_shr, IsStep, step_up, step_down, IsPrimary, primary_unsized, primary_sized, primary_true, primary_false, primary_name, primary_pc, primary_x, primary_mem, IsExpr, is_primary, is_unary, is_cast, is_cast_signed, is_cast_unsigned, is_binary, is_round, is_index, is_range, is_choose, AreMany, no_more, one_more}
use Rattle.ix_tree.specs.Machine.{Open, State, Next, stop, go, only, is, primary, word_primary, unary_of, step_of, assign_of, power_stmt}
use Rattle.ix_tree.proofs.Steps.{Follows}
use Rattle.ix_tree.proofs.Reached.{InSection, in_section, Reached}

-- ---- the state behind a token
pub data Keeps : List Token → List ℕ → Token → Next → Type 0 where
  halts : {p : List Token} {ms : List ℕ} {t : Token} → Keeps p ms t stop
  keeps : {p : List Token} {ms : List ℕ} {t : Token} {m : ℕ} {z : State} → Reached z (p ++ t ∷ []) (ms ++ m ∷ []) → Keeps p ms t (go m z)

pub recast : (Is : List Token → List ℕ → Type 0) {p q : List Token} {ms ns : List ℕ} → Is q ns → p ≡ q → ms ≡ ns → Is p ms
recast Is {p} {q} {ms} {ns} r e f = subst (λ (l : List Token). Is l ms) (sym e) (subst (λ (l : List ℕ). Is q l) (sym f) r)

pub moved : {z : State} {p q : List Token} {ms ns : List ℕ} → Reached z q ns → p ≡ q → ms ≡ ns → Reached z p ms
moved {z} r e f = recast (Reached z) r e f

pub goes_to : {p q : List Token} {ms ns : List ℕ} {t : Token} {m : ℕ} {z : State} → Reached z q ns → p ++ t ∷ [] ≡ q → ms ++ m ∷ [] ≡ ns → Keeps p ms t (go m z)
goes_to r e f = keeps (moved r e f)

pub along : {p q : List Token} {ms ns : List ℕ} {t : Token} {x : Next} → Keeps q ns t x → p ≡ q → ms ≡ ns → Keeps p ms t x
along {t = t} {x = x} r e f = recast (λ (p : List Token) (ms : List ℕ). Keeps p ms t x) r e f

pub keep_same : {p : List Token} {ms : List ℕ} {t : Token} {x y : Next} → x ≡ y → Keeps p ms t y → Keeps p ms t x
keep_same {p} {ms} {t} e r = subst (λ (n : Next). Keeps p ms t n) (sym e) r

pub keep_if : {p : List Token} {ms : List ℕ} {t : Token} (b : Bool) (x y : Next) → (b ≡ true → Keeps p ms t x) → (b ≡ false → Keeps p ms t y)
    → Keeps p ms t (if b then x else y)
keep_if true x y f g = f refl
keep_if false x y f g = g refl

pub keep_only : {p : List Token} {ms : List ℕ} {t : Token} (b : Bool) (m : ℕ) (z : State) → (b ≡ true → Keeps p ms t (go m z)) → Keeps p ms t (only b m z)
keep_only true m z f = f refl
keep_only false m z f = halts

-- ---- tests on kinds
pub same_kind : (a b : TokenKind) → is a b ≡ true → a ≡ b
same_kind (Word m) (Word n) e = ap Word (eqb-true m n e)
same_kind (Symbol m) (Symbol n) e = ap Symbol (eqb-true m n e)
same_kind _ _ e = absurd (false≢true e)

-- what is true of a value, if there is one
pub data OfSome {X : Type 0} (P : X → Type 0) : Option X → Type 0 where
  of_none : OfSome P None
  of_some : {x : X} → P x → OfSome P (Some x)

some_if : {X : Type 0} {P : X → Type 0} (b : Bool) (x : X) (y : Option X) → (b ≡ true → P x) → OfSome P y → OfSome P (if b then Some x else y)
some_if true x y f g = of_some (f refl)
some_if false x y f g = g

word_primary_is : (t : Token) (n : ℕ) → t.kind ≡ Word n → OfSome (λ v. IsPrimary t v) (word_primary t.span n)
word_primary_is t n e =
    some_if (nat_eq n 19) _ _ (λ h. primary_pc t (e ∙ ap Word (eqb-true n 19 h)))
    (some_if (nat_eq n 20) _ _ (λ h. primary_x t (e ∙ ap Word (eqb-true n 20 h)))
    (some_if (nat_eq n 21) _ _ (λ h. primary_mem t (e ∙ ap Word (eqb-true n 21 h)))
    (some_if (nat_eq n 22) _ _ (λ h. primary_true t (e ∙ ap Word (eqb-true n 22 h)))
    (some_if (nat_eq n 23) _ _ (λ h. primary_false t (e ∙ ap Word (eqb-true n 23 h)))
    of_none))))

primary_of : (t : Token) (kind : TokenKind) → t.kind ≡ kind → OfSome (λ v. IsPrimary t v) (primary t.span kind)
primary_of t (Name n) e = of_some (primary_name t n e)
primary_of t (Unsized ty b) e = of_some (primary_unsized t ty b e)
primary_of t (Sized ty b) e = of_some (primary_sized t ty b e)
primary_of t (Word n) e = word_primary_is t n e
primary_of t Text e = of_none
primary_of t (Symbol n) e = of_none

pub primary_is : (t : Token) → OfSome (λ v. IsPrimary t v) (primary t.span t.kind)
primary_is t = primary_of t t.kind refl

pub unary_is : (k : TokenKind) → OfSome (λ op. IsUnary k op) (unary_of k)
unary_is k =
    some_if (is k minus) _ _ (λ h. rw (same_kind k minus h) unary_minus)
    (some_if (is k tilde) _ _ (λ h. rw (same_kind k tilde h) unary_tilde)
    (some_if (is k bang) _ _ (λ h. rw (same_kind k bang h) unary_bang)
    of_none))

pub step_is : (k : TokenKind) → OfSome (λ op. IsStep k op) (step_of k)
step_is k =
    some_if (is k plus_plus) _ _ (λ h. rw (same_kind k plus_plus h) step_up)
    (some_if (is k minus_minus) _ _ (λ h. rw (same_kind k minus_minus h) step_down)
    of_none)

pub assign_is : (k : TokenKind) → OfSome (λ op. IsAssignOp k op) (assign_of k)
assign_is k =
    some_if (is k equals) _ _ (λ h. rw (same_kind k equals h) assign_plain)
    (some_if (is k (Symbol 11)) _ _ (λ h. rw (same_kind k (Symbol 11) h) assign_add)
    (some_if (is k (Symbol 12)) _ _ (λ h. rw (same_kind k (Symbol 12) h) assign_sub)
    (some_if (is k (Symbol 13)) _ _ (λ h. rw (same_kind k (Symbol 13) h) assign_mul)
    (some_if (is k (Symbol 14)) _ _ (λ h. rw (same_kind k (Symbol 14) h) assign_and)
    (some_if (is k (Symbol 15)) _ _ (λ h. rw (same_kind k (Symbol 15) h) assign_or)
    (some_if (is k (Symbol 16)) _ _ (λ h. rw (same_kind k (Symbol 16) h) assign_xor)
    (some_if (is k (Symbol 17)) _ _ (λ h. rw (same_kind k (Symbol 17) h) assign_shl)
    (some_if (is k (Symbol 18)) _ _ (λ h. rw (same_kind k (Symbol 18) h) assign_shr)
    of_none))))))))

-- ---- what the power of a token says of it
abbrev power_fits : ℕ → ℕ → Bool
power_fits n p = nat_eq p 1 || nat_eq n 21 && nat_eq p 2 || nat_eq n 2 && nat_eq p 26 || nat_le 3 p && nat_le p 23

abbrev all_fit : ℕ → List ℕ → Bool
all_fit n [] = true
all_fit n (p ∷ ps) = power_fits n p && all_fit (n + 1) ps

fits_at : (ps : List ℕ) (i n : ℕ) → all_fit i ps ≡ true → power_fits (i + n) (slice_index_or ps n 1) ≡ true
fits_at [] i n e = refl
fits_at (p ∷ ps) i zero e = rw (add-zero i) (and_parts (power_fits i p) (all_fit (i + 1) ps) e).0
fits_at (p ∷ ps) i (suc n) e =
    let h = fits_at ps (i + 1) n (and_parts (power_fits i p) (all_fit (i + 1) ps) e).1 in
    let f : i + 1 + n ≡ i + suc n = omega arith in
    subst (λ (m : ℕ). power_fits m (slice_index_or ps n 1) ≡ true) f h

pub data PowerOf (k : TokenKind) : Type 0 where
  power_other : power k ≡ 1 → PowerOf k
  power_question : k ≡ question → power k ≡ 2 → PowerOf k
  power_square : k ≡ open_square → power k ≡ 26 → PowerOf k
  power_operator : IsOperator k → PowerOf k

fitted : (n p : ℕ) → power_fits n p ≡ true → (p ≡ 1) ⊎ (((n ≡ 21) × (p ≡ 2)) ⊎ (((n ≡ 2) × (p ≡ 26)) ⊎ ((3 ≤ p) × (p ≤ 23))))
fitted n p e = grind (arith, nat_tests)

symbol_power : (n : ℕ) → power (Symbol n) ≡ slice_index_or powers n 1
unfolding power
symbol_power n = refl

all_fitted : all_fit 0 powers ≡ true
all_fitted = refl

pub power_of : (k : TokenKind) → PowerOf k
unfolding power
power_of (Symbol n) =
    let h : power_fits n (slice_index_or powers n 1) ≡ true = subst (λ (m : ℕ). power_fits m (slice_index_or powers n 1) ≡ true) (zero-add n) (fits_at powers 0 n all_fitted) in
    ⊎_elim (λ a. power_other a)
    (⊎_elim (λ a. power_question (ap Symbol a.0) a.1)
    (⊎_elim (λ a. power_square (ap Symbol a.0) a.1)
    (λ a. power_operator (record { low = a.0; high = a.1 })))) (fitted n (slice_index_or powers n 1) h)
power_of _ = power_other refl

follows_of : {k : TokenKind} → PowerOf k → Follows 26 (power k)
follows_of (power_other e) = (omega arith, λ h. omega arith, λ h. omega arith)
follows_of (power_question a e) = (omega arith, λ h. omega arith, λ h. omega arith)
follows_of (power_square a e) = (omega arith, λ h. omega arith, λ h. omega arith)
follows_of (power_operator o) = (omega (arith, o.high), λ h. omega arith, λ h. omega (arith, o.high))

pub follows_all : (k : TokenKind) → Follows 26 (power k)
follows_all k = follows_of (power_of k)

some_of : {k : TokenKind} → PowerOf k → 1 ≤ power k
some_of (power_other e) = omega arith
some_of (power_question a e) = omega arith
some_of (power_square a e) = omega arith
some_of (power_operator o) = omega (arith, o.low)

pub some_power : (k : TokenKind) → 1 ≤ power k
some_power k = some_of (power_of k)

pub some_power_stmt : (k : TokenKind) → 1 ≤ power_stmt k
some_power_stmt k = grind (arith, nat_tests)

pub most_power_stmt : (k : TokenKind) → power_stmt k ≤ 2
most_power_stmt k = grind (arith, nat_tests)

-- ---- levels
pub lower : {m n d : ℕ} {ts : List Token} {ms : List ℕ} {v : Part} → m ≤ n → IsExpr n d ts ms v → IsExpr m d ts ms v
lower l (is_primary t h) = is_primary t h
lower l (is_unary t m u e) = is_unary t (omega arith) u e
lower l (is_cast o c m a b y e) = is_cast o c (omega arith) a b y e
lower l (is_cast_signed o s c m a b f e) = is_cast_signed o s c (omega arith) a b f e
lower l (is_cast_unsigned o s c m a b f e) = is_cast_unsigned o s c (omega arith) a b f e
lower l (is_binary t m o e f) = is_binary t (omega arith) o e f
lower l (is_round o c a b e) = is_round o c a b e
lower l (is_index o c m a b e f) = is_index o c (omega arith) a b e f
lower l (is_range o r c m a b q e f g) = is_range o r c (omega arith) a b q e f g
lower l (is_choose q r m a b e f g) = is_choose q r (omega arith) a b e f g

pub least : {n d : ℕ} {ts : List Token} {ms : List ℕ} {v : Part} → IsExpr n d ts ms v → IsExpr 2 d ts ms v
least (is_primary t h) = is_primary t h
least (is_unary t m u e) = is_unary t (omega arith) u e
least (is_cast o c m a b y e) = is_cast o c (omega arith) a b y e
least (is_cast_signed o s c m a b f e) = is_cast_signed o s c (omega arith) a b f e
least (is_cast_unsigned o s c m a b f e) = is_cast_unsigned o s c (omega arith) a b f e
least (is_binary t m o e f) = is_binary t (omega (arith, o.low)) o e f
least (is_round o c a b e) = is_round o c a b e
least (is_index o c m a b e f) = is_index o c (omega arith) a b e f
least (is_range o r c m a b q e f g) = is_range o r c (omega arith) a b q e f g
least (is_choose q r m a b e f g) = is_choose q r (omega arith) a b e f g

-- ---- one part more
pub many_more : {X : Type 0} {Is : List Token → List ℕ → X → Type 0} {ts us : List Token} {ms ns : List ℕ} {x : X} {xs : List X} → AreMany Is ts ms xs → Is us ns x
    → AreMany Is (ts ++ us) (ms ++ ns) (xs ++ x ∷ [])
many_more {Is = Is} {us = us} {ns = ns} {x = x} no_more h =
    recast (λ (l : List Token) (m : List ℕ). AreMany Is l m (x ∷ [])) (one_more h no_more) (sym (append-nil us)) (sym (append-nil ns))
many_more {Is = Is} {us = us} {ns = ns} {x = x} (one_more {ts = a} {us = b} {ms = m} {ns = n} {x = y} {xs = ys} p q) h =
    recast (λ (l : List Token) (m : List ℕ). AreMany Is l m (y ∷ (ys ++ x ∷ []))) (one_more p (many_more q h)) (append_assoc a b us) (append_assoc m n ns)

pub section_more : {X : Type 0} {word : TokenKind} {Is : List Token → List ℕ → X → Type 0} {w : Open} {xs : List X} {p us : List Token} {ms ks : List ℕ} {x : X}
    → InSection word Is w xs p ms → Is us ks x
    → InSection word Is w (xs ++ x ∷ []) (p ++ us) (ms ++ ks)
section_more {word = word} {Is = Is} {w = w} {xs = xs} {us = us} {ks = ks} {x = x} (in_section {p = p} {ts = ts} {ms = ms} {ns = ns} o a b i m) h =
    recast (InSection word Is w (xs ++ x ∷ [])) (in_section o a b i (many_more m h)) (append_assoc p (w.word ∷ o ∷ ts) us) (append_assoc ms (0 ∷ 0 ∷ ns) ks)
