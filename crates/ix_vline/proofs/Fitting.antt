-- Slots and the words that they take.
use Rattle.std.proofs.Common.{◌≡◌, ℕ, zero, suc, ◌<◌, ◌≤◌, List, [], ◌∷◌, ◌++◌, length, take, refl, ap, sym, ◌∙◌, subst, arith, Option}
use Rattle.ix_verilog.specs.declared.source.Source.{Source}
use Rattle.ix_verilog.specs.Words.{Word}
use Rattle.ix_vline.specs.declared.kind.Slot.{Slot}
use Rattle.ix_vline.specs.Slots.{Takes}
use Rattle.ix_vline.specs.Reached.{Fits, Reaches}

pub heads : (a b : Word) (x y : List Word) → a ∷ x ≡ b ∷ y → a ≡ b
heads a b x y e = cc

pub tails : (a b : Word) (x y : List Word) → a ∷ x ≡ b ∷ y → x ≡ y
tails a b x y e = cc

pub join : {a b : Word} {x y : List Word} → a ≡ b → x ≡ y → a ∷ x ≡ b ∷ y
join {a = a} {b = b} {x = x} {y = y} e f = ap (λ (w : Word). w ∷ x) e ∙ ap (λ (r : List Word). b ∷ r) f

-- the words that fit, one by one
abbrev pub picks : (o : Option Source) (xs : List Slot) (ws : List Word) → Fits o xs ws → List Word
picks o [] ws f = []
picks o (x ∷ xs) ws f = f.0 ∷ picks o xs f.1 f.4

pub picks_are : (o : Option Source) (xs : List Slot) (ws : List Word) (f : Fits o xs ws) → ws ≡ picks o xs ws f
picks_are o [] ws f = f
picks_are o (x ∷ xs) ws f = f.2 ∙ ap (λ (r : List Word). f.0 ∷ r) (picks_are o xs f.1 f.4)

pub fits_length : (o : Option Source) (xs : List Slot) (ws : List Word) → Fits o xs ws → length ws ≡ length xs
fits_length o [] ws f = ap length f
fits_length o (x ∷ xs) ws f = ap length f.2 ∙ ap suc (fits_length o xs f.1 f.4)

-- all slots take words
pub fits_taken : (o : Option Source) (xs : List Slot) (ws : List Word) → Reaches o xs ws (length xs) → Fits o xs (take (length xs) ws)
fits_taken o [] ws h = refl
fits_taken o (x ∷ xs) [] h = absurd (omega (arith, h))
fits_taken o (x ∷ xs) (w ∷ ws) h = (w, take (length xs) ws, refl, h.0, fits_taken o xs ws h.1)

-- words with which a line begins that fits go on where its slots do
pub no_line : (o : Option Source) (xs : List Slot) (ws fs t z : List Word) (n b : ℕ) → Reaches o xs ws n → n < length xs → n ≤ b → b < length ws → Fits o xs fs → fs ++ t ≡ take (suc b) ws ++ z → ⊥
no_line o [] ws fs t z n b h l m k f e = omega (arith, l)
no_line o (x ∷ xs) [] fs t z n b h l m k f e = omega (arith, k)
no_line o (x ∷ xs) (w ∷ ws) fs t z zero b h l m k f e =
    let g : f.0 ∷ (f.1 ++ t) ≡ w ∷ (take b ws ++ z) = ap (λ (q : List Word). q ++ t) (sym f.2) ∙ e in
    h (subst (Takes o x) (heads f.0 w (f.1 ++ t) (take b ws ++ z) g) f.3)
no_line o (x ∷ xs) (w ∷ ws) fs t z (suc n) zero h l m k f e = omega (arith, m)
no_line o (x ∷ xs) (w ∷ ws) fs t z (suc n) (suc b) h l m k f e =
    let g : f.0 ∷ (f.1 ++ t) ≡ w ∷ (take (suc b) ws ++ z) = ap (λ (q : List Word). q ++ t) (sym f.2) ∙ e in
    no_line o xs ws f.1 t z n b h.1 (omega (arith, l)) (omega (arith, m)) (omega (arith, k)) f.4 (tails f.0 w (f.1 ++ t) (take (suc b) ws ++ z) g)

-- a line that fits and with which the words begin is reached to its end
pub whole_line : (o : Option Source) (xs : List Slot) (ws fs t : List Word) (n : ℕ) → Reaches o xs ws n → Fits o xs fs → fs ++ t ≡ ws → n ≡ length xs
whole_line o [] ws fs t n h f e = h
whole_line o (x ∷ xs) [] fs t n h f e = absurd (none f.0 (f.1 ++ t) (ap (λ (q : List Word). q ++ t) (sym f.2) ∙ e))
  where
    none : (a : Word) (r : List Word) → a ∷ r ≡ [] → ⊥
    none a r g = cc
whole_line o (x ∷ xs) (w ∷ ws) fs t zero h f e =
    let g : f.0 ∷ (f.1 ++ t) ≡ w ∷ ws = ap (λ (q : List Word). q ++ t) (sym f.2) ∙ e in
    absurd (h (subst (Takes o x) (heads f.0 w (f.1 ++ t) ws g) f.3))
whole_line o (x ∷ xs) (w ∷ ws) fs t (suc n) h f e =
    let g : f.0 ∷ (f.1 ++ t) ≡ w ∷ ws = ap (λ (q : List Word). q ++ t) (sym f.2) ∙ e in
    ap suc (whole_line o xs ws f.1 t n h.1 f.4 (tails f.0 w (f.1 ++ t) ws g))

-- each slot takes some word
abbrev pub AllHave : Option Source → List Slot → Type 0
AllHave o [] = Unit {0}
AllHave o (x ∷ xs) = ((w : Word) × Takes o x w) × AllHave o xs

filled : (o : Option Source) (xs : List Slot) → AllHave o xs → (fs : List Word) × Fits o xs fs
filled o [] a = ([], refl)
filled o (x ∷ xs) a = (let r = filled o xs a.1 in (a.0.0 ∷ r.0, (a.0.0, r.0, refl, a.0.1, r.1)))

-- the words so far and more that fit
pub completed : (o : Option Source) (xs : List Slot) (ws : List Word) (n : ℕ) → Reaches o xs ws n → AllHave o xs → (more : List Word) × Fits o xs (take n ws ++ more)
completed o [] ws n h a = ([], subst (λ (k : ℕ). take k ws ++ [] ≡ []) (sym h) refl)
completed o (x ∷ xs) [] n h a = (let r = filled o (x ∷ xs) a in (r.0, subst (λ (k : ℕ). Fits o (x ∷ xs) (take k [] ++ r.0)) (sym h) r.1))
completed o (x ∷ xs) (w ∷ ws) zero h a = filled o (x ∷ xs) a
completed o (x ∷ xs) (w ∷ ws) (suc n) h a = (let r = completed o xs ws n h.1 a.1 in (r.0, (w, take n ws ++ r.0, refl, h.0, r.1)))
