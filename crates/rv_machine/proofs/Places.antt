-- Places: the count of lower serials that are not flushed. They tell the order of tokens.
use Rattle.std.proofs.Common.{◌≡◌, ℕ, zero, suc, ◌+◌, ◌<◌, ◌≤◌, List, [], ◌∷◌, drop, length, Option, Some, None, Bool, true, false, refl, sym, ap, ◌∙◌, subst, arith, inl, inr}
use Rattle.std.specs.Prelude.{if◌then◌else◌, ◌||◌, is_some, slice_get}
use Rattle.std.proofs.lemmas.Bool.{cases_lt}
use Rattle.rv_trace.specs.declared.row.Row.{Row}
use Rattle.rv_core.specs.declared.Shape.{Shape}
use Rattle.rv_trace.specs.Trace.{has_serial, is_flushed, place}
use Rattle.rv_trace.specs.RowParts.{Name, name_of, names_of, serial_after}
use Rattle.rv_holds.specs.declared.token.Token.{Token}
use Rattle.rv_holds.specs.Tokens.{Slots, cell_of, cells_of}
use Rattle.rv_holds.specs.Holds.{decided}
use Rattle.rv_engine.specs.Rows.{first_slot, fill_first, next_after, waited, advanced}
use Rattle.rv_machine.specs.Placed.{count, Serials}

-- Places and serials

pub place_suc : (rows : List Row) (s : ℕ) → is_flushed rows s ≡ false → place rows (suc s) ≡ suc (place rows s)
unfolding place
place_suc rows s h = rw h

place_step : (rows : List Row) (s : ℕ) → place rows s ≤ place rows (suc s)
unfolding place
place_step rows s = by_case (is_flushed rows s) where
  by_case : (b : Bool) → place rows s ≤ (if b then place rows s else suc (place rows s))
  by_case true = omega arith
  by_case false = omega arith

pub place_le : (rows : List Row) (a b : ℕ) → a ≤ b → place rows a ≤ place rows b
place_le rows a zero le = let e : a ≡ 0 = omega (arith, le) in subst (λ n. place rows n ≤ place rows 0) (sym e) (omega arith)
place_le rows a (suc b) le = elim (cases_lt b a) [
  | inl less ↦ let e : a ≡ suc b = omega (arith, le, less) in subst (λ n. place rows n ≤ place rows (suc b)) (sym e) (omega arith)
  | inr more ↦ let ih = place_le rows a b more in let s = place_step rows b in omega (arith, ih, s)
]

-- a serial that is not flushed has a lower place than each higher one
pub place_lt : (rows : List Row) (a b : ℕ) → is_flushed rows a ≡ false → a < b → place rows a < place rows b
place_lt rows a b alive lt =
    let le = place_le rows (suc a) b (omega (arith, lt)) in
    let e = place_suc rows a alive in
    omega (arith, le, e)

-- so places tell the order
pub lower_place : (rows : List Row) (a b : ℕ) → place rows a < place rows b → a < b
lower_place rows a b lt = elim (cases_lt a b) [ inl less ↦ less | inr more ↦ let le = place_le rows b a more in absurd (omega (arith, lt, le)) ]

pub place_order : (rows : List Row) (a b : ℕ) → is_flushed rows b ≡ false → place rows a ≤ place rows b → a ≤ b
place_order rows a b alive le = elim (cases_lt b a) [ inl less ↦ let lt = place_lt rows b a alive less in absurd (omega (arith, lt, le)) | inr more ↦ more ]

pub one_place : (rows : List Row) (a b : ℕ) → is_flushed rows a ≡ false → is_flushed rows b ≡ false → place rows a ≡ place rows b → a ≡ b
one_place rows a b x y e =
    let p = place_order rows a b y (omega (arith, e)) in
    let q = place_order rows b a x (omega (arith, e)) in
    omega (arith, p, q)

flushed_step : (row : Row) (rows : List Row) (s : ℕ) → has_serial row.flushed s ≡ false → is_flushed (row ∷ rows) s ≡ is_flushed rows s
unfolding is_flushed
flushed_step row rows s h = rw h

-- a row that flushes no lower serial leaves the place as it was
pub place_same : (row : Row) (rows : List Row) (s : ℕ) → ((j : ℕ) → j < s → has_serial row.flushed j ≡ false) → place (row ∷ rows) s ≡ place rows s
unfolding place
place_same row rows zero h = refl
place_same row rows (suc s) h = rw (flushed_step row rows s (h s (omega arith)), place_same row rows s (λ j lt. h j (omega arith)))

pub flushed_same : (row : Row) (rows : List Row) (s : ℕ) → has_serial row.flushed s ≡ false → is_flushed (row ∷ rows) s ≡ is_flushed rows s
flushed_same row rows s h = flushed_step row rows s h

-- a serial that is flushed in the row, or was before, is flushed
pub flushed_now : (row : Row) (rows : List Row) (s : ℕ) → has_serial row.flushed s ≡ true → is_flushed (row ∷ rows) s ≡ true
unfolding is_flushed
flushed_now row rows s h = rw h

pub flushed_before : (row : Row) (rows : List Row) (s : ℕ) → is_flushed rows s ≡ true → is_flushed (row ∷ rows) s ≡ true
unfolding is_flushed
flushed_before row rows s h = by_case (has_serial row.flushed s) where
  by_case : (b : Bool) → (b || is_flushed rows s) ≡ true
  by_case true = refl
  by_case false = h

pub unflushed_before : (row : Row) (rows : List Row) (s : ℕ) → is_flushed (row ∷ rows) s ≡ false → is_flushed rows s ≡ false
unflushed_before row rows s h = by_case (is_flushed rows s) refl where
  by_case : (b : Bool) → is_flushed rows s ≡ b → is_flushed rows s ≡ false
  by_case true e = cc (flushed_before row rows s e, h)
  by_case false e = e

-- where all serials between two are flushed, they have one place
pub place_over : (rows : List Row) (a gap : ℕ) → ((j : ℕ) → a ≤ j → j < a + gap → is_flushed rows j ≡ true) → place rows (a + gap) ≡ place rows a
unfolding place
place_over rows a zero f = let z : a + 0 ≡ a = omega arith in ap (λ n. place rows n) z
place_over rows a (suc gap) f =
    let z : a + suc gap ≡ suc (a + gap) = omega arith in
    let h : is_flushed rows (a + gap) ≡ true = f (a + gap) (omega arith) (omega arith) in
    ap (λ n. place rows n) z ∙ rw h (place_over rows a gap (λ j le lt. f j le (omega (arith, lt))))

-- Tokens

same_token : (t u : Token) → ◌≡◌ {A = Option (Option Token)} (Some (Some t)) (Some (Some u)) → t ≡ u
same_token t u e = cc

-- the place of a token
pub record Stood (rows : List Row) (r n : ℕ) (u : Token) : Type 0 where
  pub low : r ≤ place rows u.cell.serial
  pub high : place rows u.cell.serial < r + n
  pub alive : is_flushed rows u.cell.serial ≡ false

pub stood : (rows : List Row) (r n : ℕ) (seen : Slots) (u : Token) → Serials rows r seen → slice_get seen n ≡ Some (Some u) → Stood rows r (count seen) u
stood rows r n [] u h e = cc
stood rows r zero (None ∷ older) u h e = cc
stood rows r zero (Some t ∷ older) u h e =
    let p = h.0.0 in
    subst (λ v. Stood rows r (suc (count older)) v) (same_token t u e) (record { low = omega (arith, p); high = omega (arith, p); alive = h.0.1 })
stood rows r (suc n) (None ∷ older) u h e = stood rows r n older u h e
stood rows r (suc n) (Some t ∷ older) u h e =
    let s = stood rows r n older u h.1 e in
    let hi = s.high in
    record { low = s.low; high = omega (arith, hi); alive = s.alive }

-- older tokens have lower serials
pub older_lower : (rows : List Row) (r n : ℕ) (t u : Token) (older : Slots) → Serials rows r (Some t ∷ older) → slice_get older n ≡ Some (Some u) → u.cell.serial < t.cell.serial
older_lower rows r n t u older h e =
    let s = stood rows r n older u h.1 e in
    let hi = s.high in
    let p = h.0.0 in
    lower_place rows u.cell.serial t.cell.serial (omega (arith, hi, p))

-- the token of a place
pub token_of : (rows : List Row) (r j : ℕ) (older : Slots) → Serials rows r older → is_flushed rows j ≡ false → r ≤ place rows j → place rows j < r + count older → (n : ℕ) × (u : Token) × (slice_get older n ≡ Some (Some u)) × (u.cell.serial ≡ j)
token_of rows r j [] h alive le lt = absurd (omega (arith, le, lt))
token_of rows r j (None ∷ older) h alive le lt = let t = token_of rows r j older h alive le lt in (suc t.0, t.1, t.2, t.3)
token_of rows r j (Some t ∷ older) h alive le lt =
    elim (cases_lt (place rows j) (r + count older)) [
      | inl less ↦ let u = token_of rows r j older h.1 alive le less in (suc u.0, u.1, u.2, u.3)
      | inr more ↦ let p = h.0.0 in (0, t, refl, one_place rows t.cell.serial j h.0.1 alive (omega (arith, p, lt, more)))
    ]

-- a serial has one token
pub one_token : (rows : List Row) (r n m : ℕ) (seen : Slots) (u v : Token) → Serials rows r seen → slice_get seen n ≡ Some (Some u) → slice_get seen m ≡ Some (Some v) → u.cell.serial ≡ v.cell.serial → u ≡ v
one_token rows r n m [] u v h a b e = cc
one_token rows r zero zero (s ∷ older) u v h a b e = same_token u v (sym a ∙ b)
one_token rows r zero (suc m) (None ∷ older) u v h a b e = cc
one_token rows r zero (suc m) (Some t ∷ older) u v h a b e =
    let same = ap (λ (w : Token). w.cell.serial) (same_token t u a) in
    let lt = older_lower rows r m t v older h b in
    absurd (omega (arith, same, lt, e))
one_token rows r (suc n) zero (None ∷ older) u v h a b e = cc
one_token rows r (suc n) zero (Some t ∷ older) u v h a b e =
    let same = ap (λ (w : Token). w.cell.serial) (same_token t v b) in
    let lt = older_lower rows r n t u older h a in
    absurd (omega (arith, same, lt, e))
one_token rows r (suc n) (suc m) (None ∷ older) u v h a b e = one_token rows r n m older u v h a b e
one_token rows r (suc n) (suc m) (Some t ∷ older) u v h a b e = one_token rows r n m older u v h.1 a b e

-- so a serial stands once
pub lone_stage : (rows : List Row) (r : ℕ) (seen : Slots) (n m : ℕ) (u v : Token) → Serials rows r seen → slice_get seen n ≡ Some (Some u) → slice_get seen m ≡ Some (Some v) → u.cell.serial ≡ v.cell.serial → n ≡ m
lone_stage rows r [] n m u v h a b e = cc
lone_stage rows r (s ∷ older) zero zero u v h a b e = refl
lone_stage rows r (None ∷ older) zero (suc m) u v h a b e = cc
lone_stage rows r (Some t ∷ older) zero (suc m) u v h a b e =
    let same : t ≡ u = cc in
    let lt = older_lower rows r m t v older h b in
    let serial = ap (λ (w : Token). w.cell.serial) same in
    absurd (omega (arith, lt, serial, e))
lone_stage rows r (None ∷ older) (suc n) zero u v h a b e = cc
lone_stage rows r (Some t ∷ older) (suc n) zero u v h a b e =
    let same : t ≡ v = cc in
    let lt = older_lower rows r n t u older h a in
    let serial = ap (λ (w : Token). w.cell.serial) same in
    absurd (omega (arith, lt, serial, e))
lone_stage rows r (None ∷ older) (suc n) (suc m) u v h a b e = ap suc (lone_stage rows r older n m u v h a b e)
lone_stage rows r (Some t ∷ older) (suc n) (suc m) u v h a b e = ap suc (lone_stage rows r older n m u v h.1 a b e)

pub serials_drop : (rows : List Row) (r n : ℕ) (seen : Slots) → Serials rows r seen → Serials rows r (drop n seen)
serials_drop rows r zero seen h = h
serials_drop rows r (suc n) [] h = tt
serials_drop rows r (suc n) (None ∷ seen) h = serials_drop rows r n seen h
serials_drop rows r (suc n) (Some t ∷ seen) h = serials_drop rows r n seen h.1

-- What a row does to them

-- of two tokens the one of the later stage has the lower serial
pub token_order : (rows : List Row) (r n m : ℕ) (seen : Slots) (u t : Token) → Serials rows r seen → n < m → slice_get seen n ≡ Some (Some u) → slice_get seen m ≡ Some (Some t) → t.cell.serial < u.cell.serial
token_order rows r n m [] u t h lt a b = cc
token_order rows r zero zero (s ∷ older) u t h lt a b = absurd (omega (arith, lt))
token_order rows r zero (suc m) (None ∷ older) u t h lt a b = cc
token_order rows r zero (suc m) (Some v ∷ older) u t h lt a b =
    let same = ap (λ (w : Token). w.cell.serial) (same_token v u a) in
    let lower = older_lower rows r m v t older h b in
    omega (arith, same, lower)
token_order rows r (suc n) zero (s ∷ older) u t h lt a b = absurd (omega (arith, lt))
token_order rows r (suc n) (suc m) (None ∷ older) u t h lt a b = token_order rows r n m older u t h (omega (arith, lt)) a b
token_order rows r (suc n) (suc m) (Some v ∷ older) u t h lt a b = token_order rows r n m older u t h.1 (omega (arith, lt)) a b

-- the row flushes no serial up to that of each token
abbrev pub Unflushed : Row → Slots → Type 0
Unflushed row slots = (n : ℕ) (t : Token) → slice_get slots n ≡ Some (Some t) → (j : ℕ) → j ≤ t.cell.serial → has_serial row.flushed j ≡ false

pub serials_more : (row : Row) (rows : List Row) (r : ℕ) (slots : Slots) → Unflushed row slots → Serials rows r slots → Serials (row ∷ rows) r slots
serials_more row rows r [] f h = tt
serials_more row rows r (None ∷ older) f h = serials_more row rows r older (λ n t e. f (suc n) t e) h
serials_more row rows r (Some t ∷ older) f h = (
  (place_same row rows t.cell.serial (λ j lt. f 0 t refl j (omega arith)) ∙ h.0.0, flushed_same row rows t.cell.serial (f 0 t refl t.cell.serial (omega arith)) ∙ h.0.1),
  serials_more row rows r older (λ n u e. f (suc n) u e) h.1,
)

counted : (k : Shape) (stage : ℕ) (slots : Slots) → count (decided k stage slots) ≡ count slots
counted k stage [] = refl
counted k stage (None ∷ older) = counted k (suc stage) older
counted k stage (Some t ∷ older) = ap suc (counted k (suc stage) older)

pub serials_decided : (k : Shape) (rows : List Row) (r stage : ℕ) (slots : Slots) → Serials rows r slots → Serials rows r (decided k stage slots)
serials_decided k rows r stage [] h = tt
serials_decided k rows r stage (None ∷ older) h = serials_decided k rows r (suc stage) older h
serials_decided k rows r stage (Some t ∷ older) h = ((h.0.0 ∙ ap (λ n. r + n) (sym (counted k (suc stage) older)), h.0.1), serials_decided k rows r (suc stage) older h.1)

-- the new token, where there is one, has this serial
abbrev pub HasSerial : ℕ → Option Token → Type 0
HasSerial serial None = Unit {0}
HasSerial serial (Some t) = t.cell.serial ≡ serial

pub serials_filled : (rows : List Row) (r serial : ℕ) (new : Option Token) (slots : Slots) → Serials rows r slots → place rows serial ≡ r + count slots → is_flushed rows serial ≡ false → HasSerial serial new → Serials rows r (fill_first new slots)
serials_filled rows r serial new [] h p a e = tt
serials_filled rows r serial new (Some t ∷ older) h p a e = h
serials_filled rows r serial None (None ∷ older) h p a e = h
serials_filled rows r serial (Some t) (None ∷ older) h p a e = ((ap (λ n. place rows n) e ∙ p, ap (λ n. is_flushed rows n) e ∙ a), h)

-- the place of the next serial after the fetch
pub next_placed : (rows : List Row) (r serial : ℕ) (new : Option Token) (slots : Slots) → 0 < length slots → place rows serial ≡ r + count slots → is_flushed rows serial ≡ false → place rows (next_after serial slots new) ≡ r + count (fill_first new slots)
next_placed rows r serial new [] lt p a = absurd (omega arith)
next_placed rows r serial new (Some t ∷ older) lt p a = p
next_placed rows r serial None (None ∷ older) lt p a = p
next_placed rows r serial (Some t) (None ∷ older) lt p a = let s = place_suc rows serial a in omega (arith, s, p)

-- what stands in stage 0 is the last that was fetched
pub first_fetched : (serial : ℕ) (new : Option Token) (slots : Slots) → 0 < length slots → serial_after serial (cell_of (first_slot slots)) ≡ serial → HasSerial serial new → serial_after (next_after serial slots new) (cell_of (first_slot (fill_first new slots))) ≡ next_after serial slots new
first_fetched serial new [] lt e h = absurd (omega arith)
first_fetched serial new (Some t ∷ older) lt e h = e
first_fetched serial None (None ∷ older) lt e h = refl
first_fetched serial (Some t) (None ∷ older) lt e h = ap suc h

abbrev serial_in : Option Name → ℕ
serial_in None = 0
serial_in (Some n) = n.0

-- the names of the slots tell it
pub first_named : (next : ℕ) (a b : Slots) → names_of (cells_of a) ≡ names_of (cells_of b) → serial_after next (cell_of (first_slot a)) ≡ serial_after next (cell_of (first_slot b))
first_named next [] [] e = refl
first_named next [] (s ∷ b) e = cc
first_named next (s ∷ a) [] e = cc
first_named next (None ∷ a) (None ∷ b) e = refl
first_named next (None ∷ a) (Some u ∷ b) e = cc
first_named next (Some t ∷ a) (None ∷ b) e = cc
first_named next (Some t ∷ a) (Some u ∷ b) e = ap suc (same_serial t u (first_of e)) where
  first_of : names_of (cells_of (Some t ∷ a)) ≡ names_of (cells_of (Some u ∷ b)) → name_of (Some t.cell) ≡ name_of (Some u.cell)
  first_of q = cc

  same_serial : (t u : Token) → name_of (Some t.cell) ≡ name_of (Some u.cell) → t.cell.serial ≡ u.cell.serial
  same_serial t u q = ap (λ o. serial_in o) q

pub first_kept : (next : ℕ) (seen : Slots) → serial_after next (cell_of (first_slot seen)) ≡ next → serial_after next (cell_of (first_slot (advanced None seen))) ≡ next
first_kept next [] e = e
first_kept next (None ∷ older) e = refl
first_kept next (Some t ∷ older) e = by_case (is_some t.cell.hold) where
  by_case : (b : Bool) → serial_after next (cell_of (if b then Some (waited t) else None)) ≡ next
  by_case true = e
  by_case false = refl
