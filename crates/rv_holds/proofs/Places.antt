-- Slots from a place on, and what loops over the stages make of them step by step.
use Rattle.std.proofs.Common.{◌≡◌, ℕ, zero, suc, ◌+◌, ◌-◌, ◌<◌, ◌≤◌, [], ◌∷◌, drop, take, length, get_or, Option, Some, None, Bool, true, false, refl, sym, ap, ◌∙◌, arith}
use Rattle.std.specs.Prelude.{if◌then◌else◌, is_some, option_map, IfSome}
use Rattle.std.proofs.Math.ListN.{set}
use Rattle.std.proofs.lemmas.List.{at_drop_more, take_all, length-drop, drop-set, take-set, get_or-take}
use Rattle.rv_core.specs.declared.Shape.{Shape}
use Rattle.rv_trace.specs.declared.row.Hold.{Hold}
use Rattle.rv_trace.specs.declared.row.Hold.TheVariants.{Behind}
use Rattle.rv_seq.specs.declared.commit.Stop.{Stop}
use Rattle.rv_holds.specs.declared.token.Token.{Token}
use Rattle.rv_holds.specs.Tokens.{Slots, or_else, stop_of}
use Rattle.rv_holds.specs.Holds.{first_from, own_hold, is_blocked, stops_now, shown, held, with_hold, decided}
use Rattle.rv_holds.specs.Flushing.{next_of, settles, settled, slot_stop}

up : (n : ℕ) → suc n ≡ n + 1
up n = omega arith

-- the first element from a place on
pub at_place : (xs : Slots) (n : ℕ) (x : Option Token) → n < length xs → x ≡ get_or xs n x → drop n xs ≡ x ∷ drop (n + 1) xs
at_place xs n x h e = at_drop_more (λ l. l) xs n x h ∙ ap (λ y. y ∷ drop (n + 1) xs) (sym e)

-- all that is left
pub rest_is : (xs : Slots) (n : ℕ) → take (length xs - n) (drop n xs) ≡ drop n xs
rest_is xs n = take_all (length xs - n) (drop n xs) (omega (arith, length-drop n xs))

-- the first of two, where the first is none, or is one
none_first : (a b : Option Hold) → false ≡ is_some a → or_else a b ≡ b
none_first None b h = refl
none_first (Some x) b h = cc

some_first : (a b : Option Hold) → true ≡ is_some a → or_else a b ≡ a
some_first None b h = cc
some_first (Some x) b h = refl

-- one of the first sixteen
one_more : (f : ℕ → Option Hold) (r : ℕ) → r < 16 → first_from f r (16 - r) ≡ or_else (f r) (first_from f (r + 1) (16 - (r + 1)))
one_more f r h = let e : 16 - r ≡ suc (16 - (r + 1)) = omega (arith, h) in ap (λ n. first_from f r n) e ∙ ap (λ j. or_else (f r) (first_from f j (16 - (r + 1)))) (up r)

pub found_here : (f : ℕ → Option Hold) (r : ℕ) (h : Option Hold) → r < 16 → h ≡ f r → true ≡ is_some h → first_from f r (16 - r) ≡ h
found_here f r h lt e some = one_more f r lt ∙ ap (λ x. or_else x (first_from f (r + 1) (16 - (r + 1)))) (sym e) ∙ some_first h (first_from f (r + 1) (16 - (r + 1))) some

pub found_later : (f : ℕ → Option Hold) (r : ℕ) (h : Option Hold) → r < 16 → h ≡ f r → false ≡ is_some h → first_from f r (16 - r) ≡ first_from f (r + 1) (16 - (r + 1))
found_later f r h lt e none = one_more f r lt ∙ ap (λ x. or_else x (first_from f (r + 1) (16 - (r + 1)))) (sym e) ∙ none_first h (first_from f (r + 1) (16 - (r + 1))) none

pub found_none : (f : ℕ → Option Hold) (r : ℕ) → 16 ≤ r → first_from f r (16 - r) ≡ None
found_none f r le = let e : 16 - r ≡ 0 = omega (arith, le) in ap (λ n. first_from f r n) e

-- the one that settles
pub settled_here : (k : Shape) (n : ℕ) (xs older : Slots) (t : Token) (address : ℕ) → drop n xs ≡ Some t ∷ drop (n + 1) xs → older ≡ drop (n + 1) xs → true ≡ settles k n t older → address ≡ next_of t → settled k n (drop n xs) ≡ Some (record { stage = n; address = address })
settled_here k n xs older t address e o h a =
    ap (λ l. settled k n l) e
    ∙ ap (λ l. if settles k n t l then Some (record { stage = n; address = next_of t }) else settled k (suc n) (drop (n + 1) xs)) (sym o)
    ∙ ap (λ b. if b then Some (record { stage = n; address = next_of t }) else settled k (suc n) (drop (n + 1) xs)) (sym h)
    ∙ ap (λ (m : ℕ). Some (record { stage = n; address = m })) (sym a)

pub settled_later : (k : Shape) (n : ℕ) (xs older : Slots) (t : Token) → drop n xs ≡ Some t ∷ drop (n + 1) xs → older ≡ drop (n + 1) xs → false ≡ settles k n t older → settled k n (drop n xs) ≡ settled k (n + 1) (drop (n + 1) xs)
settled_later k n xs older t e o h =
    ap (λ l. settled k n l) e
    ∙ ap (λ l. if settles k n t l then Some (record { stage = n; address = next_of t }) else settled k (suc n) (drop (n + 1) xs)) (sym o)
    ∙ ap (λ b. if b then Some (record { stage = n; address = next_of t }) else settled k (suc n) (drop (n + 1) xs)) (sym h)
    ∙ ap (λ j. settled k j (drop (n + 1) xs)) (up n)

pub settled_past : (k : Shape) (n : ℕ) (xs : Slots) → drop n xs ≡ None ∷ drop (n + 1) xs → settled k n (drop n xs) ≡ settled k (n + 1) (drop (n + 1) xs)
settled_past k n xs e = ap (λ l. settled k n l) e ∙ ap (λ j. settled k j (drop (n + 1) xs)) (up n)

-- the one that stops the run
pub stop_here : (k : Shape) (n : ℕ) (xs older : Slots) (t : Token) (s : Option Stop) → drop n xs ≡ Some t ∷ drop (n + 1) xs → older ≡ drop (n + 1) xs → true ≡ stops_now k n t older → s ≡ stop_of t → slot_stop k n (drop n xs) ≡ s
stop_here k n xs older t s e o h a =
    ap (λ l. slot_stop k n l) e
    ∙ ap (λ l. if stops_now k n t l then stop_of t else slot_stop k (suc n) (drop (n + 1) xs)) (sym o)
    ∙ ap (λ b. if b then stop_of t else slot_stop k (suc n) (drop (n + 1) xs)) (sym h)
    ∙ sym a

pub stop_later : (k : Shape) (n : ℕ) (xs older : Slots) (t : Token) → drop n xs ≡ Some t ∷ drop (n + 1) xs → older ≡ drop (n + 1) xs → false ≡ stops_now k n t older → slot_stop k n (drop n xs) ≡ slot_stop k (n + 1) (drop (n + 1) xs)
stop_later k n xs older t e o h =
    ap (λ l. slot_stop k n l) e
    ∙ ap (λ l. if stops_now k n t l then stop_of t else slot_stop k (suc n) (drop (n + 1) xs)) (sym o)
    ∙ ap (λ b. if b then stop_of t else slot_stop k (suc n) (drop (n + 1) xs)) (sym h)
    ∙ ap (λ j. slot_stop k j (drop (n + 1) xs)) (up n)

pub stop_past : (k : Shape) (n : ℕ) (xs : Slots) → drop n xs ≡ None ∷ drop (n + 1) xs → slot_stop k n (drop n xs) ≡ slot_stop k (n + 1) (drop (n + 1) xs)
stop_past k n xs e = ap (λ l. slot_stop k n l) e ∙ ap (λ j. slot_stop k j (drop (n + 1) xs)) (up n)

-- the first of the first
take_less : (n m : ℕ) (xs : Slots) → n ≤ m → take n (take m xs) ≡ take n xs
take_less zero m xs le = refl
take_less (suc n) zero xs le = absurd (omega (arith, le))
take_less (suc n) (suc m) [] le = refl
take_less (suc n) (suc m) (x ∷ xs) le = ap (λ l. x ∷ l) (take_less n m xs (omega (arith, le)))

-- lists that agree in their first elements agree in fewer
fewer : (n : ℕ) (xs ys : Slots) → take (n + 1) xs ≡ take (n + 1) ys → take n xs ≡ take n ys
fewer n xs ys e = sym (take_less n (n + 1) xs (omega arith)) ∙ ap (λ l. take n l) e ∙ take_less n (n + 1) ys (omega arith)

-- a slot whose token was given the hold that it shows
pub held_here : (k : Shape) (n : ℕ) (s r : Option Token) (h : Option Hold) (older : Slots) → IfSome s (λ t. h ≡ shown k n t older) → r ≡ option_map (held h) s → r ≡ with_hold k n s older
held_here k n None r h older i e = e
held_here k n (Some t) r h older i e = e ∙ ap (λ (g : Option Hold). Some (held g t)) i

-- what is left of a loop from the oldest down, with one more of them decided
pub decided_more : (k : Shape) (n : ℕ) (now old older : Slots) (s r : Option Token) → n < length old → length now ≡ length old → take (n + 1) now ≡ take (n + 1) old → drop (n + 1) now ≡ decided k (n + 1) (drop (n + 1) old)
    → s ≡ get_or now n s → older ≡ drop (n + 1) now → r ≡ with_hold k n s older → drop n (set now n r) ≡ decided k n (drop n old)
decided_more k n now old older s r lt long front back e o h =
    let there : s ≡ get_or old n s =
    e ∙ sym (get_or-take (n + 1) now n s (omega arith)) ∙ ap (λ l. get_or l n s) front ∙ get_or-take (n + 1) old n s (omega arith)
    in
    drop-set now n r (omega (arith, lt, long))
    ∙ ap (λ l. r ∷ l) back
    ∙ ap (λ y. y ∷ decided k (n + 1) (drop (n + 1) old)) (h ∙ ap (λ l. with_hold k n s l) (o ∙ back))
    ∙ sym (ap (λ l. decided k n l) (at_place old n s lt there) ∙ ap (λ j. with_hold k n s (decided k j (drop (n + 1) old)) ∷ decided k j (drop (n + 1) old)) (up n))

pub front_kept : (n : ℕ) (now old : Slots) (r : Option Token) → take (n + 1) now ≡ take (n + 1) old → take n (set now n r) ≡ take n old
front_kept n now old r e = take-set now n r ∙ fewer n now old e

-- what neither stops the run nor has a hold of its own shows that it stands behind a cell that blocks it
pub shown_behind : (k : Shape) (n : ℕ) (t : Token) (older : Slots) (o : Option Hold) → false ≡ stops_now k n t older → o ≡ own_hold k n t older → o ≡ None → true ≡ is_blocked k (n + 1) older → Some Behind ≡ shown k n t older
shown_behind k n t older o s e none b =
    sym (ap (λ (z : Bool). if z then None else or_else (own_hold k n t older) (if is_blocked k (suc n) older then Some Behind else None)) (sym s)
    ∙ ap (λ h. or_else h (if is_blocked k (suc n) older then Some Behind else None)) (sym e ∙ none)
    ∙ ap (λ j. if is_blocked k j older then Some Behind else None) (up n)
    ∙ ap (λ (z : Bool). if z then Some Behind else None) (sym b))

-- and nothing, where no cell blocks it
pub shown_free : (k : Shape) (n : ℕ) (t : Token) (older : Slots) (o : Option Hold) → false ≡ stops_now k n t older → o ≡ own_hold k n t older → o ≡ None → false ≡ is_blocked k (n + 1) older → ◌≡◌ {A = Option Hold} None (shown k n t older)
shown_free k n t older o s e none b =
    sym (ap (λ (z : Bool). if z then None else or_else (own_hold k n t older) (if is_blocked k (suc n) older then Some Behind else None)) (sym s)
    ∙ ap (λ h. or_else h (if is_blocked k (suc n) older then Some Behind else None)) (sym e ∙ none)
    ∙ ap (λ j. if is_blocked k j older then Some Behind else None) (up n)
    ∙ ap (λ (z : Bool). if z then Some Behind else None) (sym b))
