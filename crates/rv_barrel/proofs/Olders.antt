-- What is found among older ones, slot by slot.
use Rattle.std.proofs.Common.{◌≡◌, ◌∙◌, refl, sym, ap, subst, ℕ, suc, ◌+◌, ◌-◌, ◌≤◌, List, [], ◌∷◌, ◌++◌, length, take, drop, get_or, Option, Some, None, Bool, true, false, arith}
use Rattle.std.specs.Prelude.{reverse, is_none, if◌then◌else◌, ◌==◌, ◌&&◌}
use Rattle.std.specs.Option.{option_or}
use Rattle.std.proofs.lemmas.List.{take_all}
use Rattle.rv_harts.specs.Events.{standing, undone, is_done}
use Rattle.rv_harts.specs.Harts.{Fetched}
use Rattle.rv_harts.specs.Turns.{eldest}
use Rattle.rv_lawful.specs.Settings.{Setting}
use Rattle.rv_barrel.specs.declared.cell.InFlight.{InFlight}
use Rattle.rv_barrel.specs.declared.older.Wanted.{Wanted}
use Rattle.rv_barrel.specs.Cells.{Slots, count, fetched_at, fetched_of, AreAsked}
use Rattle.rv_barrel.specs.Older.{kept_of, meets, asked_so, any_one, serial_so, serial_left, does_end}
use Rattle.rv_barrel.proofs.Eldest.{eldest_both, eldest_more}

-- what is left behind the first
pub rest_is : (s : Option InFlight) (older : Slots) → take (suc (length older) - 1) older ≡ older
rest_is s older = take_all (suc (length older) - 1) older (omega arith)

abbrev pub rest_of : Slots → Slots
rest_of s = take (length s - 1) (drop 1 s)

pub rest_asked : (k : Setting) (s : Slots) → AreAsked k s → AreAsked k (rest_of s)
rest_asked k [] h = tt
rest_asked k (None ∷ older) h = subst (AreAsked k) (sym (rest_is None older)) h
rest_asked k (Some c ∷ older) h = subst (AreAsked k) (sym (rest_is (Some c) older)) h.1

-- of what stands, the oldest that is looked for
abbrev pub found : Setting → Wanted → ℕ → Slots → Option ℕ
found k wanted q s = eldest (asked_so k wanted) (reverse (standing (fetched_of q s)))

or_none : (o : Option ℕ) → option_or o None ≡ o
or_none None = refl
or_none (Some a) = refl

found_more : (k : Setting) (wanted : Wanted) (q : ℕ) (s : Option InFlight) (older : Slots) → AreAsked k (s ∷ older) → found k wanted q (s ∷ older) ≡ option_or (found k wanted q older) (serial_so wanted s)
found_more k wanted q None older h = sym (or_none (found k wanted q older))
found_more k wanted q (Some c) older h =
    eldest_more (asked_so k wanted) (fetched_at (q + count older) c) (standing (fetched_of q older))
    ∙ ap (λ a. option_or (found k wanted q older) (if meets wanted a then Some c.serial else None)) (sym h.0)

pub found_first : (k : Setting) (wanted : Wanted) (q : ℕ) (s : Slots) (slot : Option InFlight) → 1 ≤ length s → slot ≡ get_or s 0 slot → AreAsked k s →
    found k wanted q s ≡ option_or (found k wanted q (rest_of s)) (serial_so wanted slot)
found_first k wanted q [] slot le e h = absurd (omega (arith, le))
found_first k wanted q (s ∷ older) slot le e h =
    found_more k wanted q s older h
    ∙ ap (λ (o : Slots). option_or (found k wanted q o) (serial_so wanted s)) (sym (rest_is s older))
    ∙ ap (λ (t : Option InFlight). option_or (found k wanted q (rest_of (s ∷ older))) (serial_so wanted t)) (sym e)

-- the oldest that is not done
abbrev pub left : Setting → ℕ → ℕ → Slots → Option ℕ
left k stage q s = eldest any_one (reverse (undone k stage (fetched_of q s)))

left_one : (k : Setting) (stage q : ℕ) (c : InFlight) (older : Slots) (b : Bool) → eldest any_one (reverse (if b then undone k (suc stage) (fetched_of q older) else fetched_at (q + count older) c ∷ undone k (suc stage) (fetched_of q older))) ≡ option_or (left k (suc stage) q older) (if b then None else Some c.serial)
left_one k stage q c older true = sym (or_none (left k (suc stage) q older))
left_one k stage q c older false = eldest_more any_one (fetched_at (q + count older) c) (undone k (suc stage) (fetched_of q older))

left_more : (k : Setting) (stages stage q : ℕ) (s : Option InFlight) (older : Slots) → k.shape.stages ≡ stages → AreAsked k (s ∷ older) → left k stage q (s ∷ older) ≡ option_or (left k (suc stage) q older) (serial_left stages stage s)
left_more k stages stage q None older e h = sym (or_none (left k (suc stage) q older))
left_more k stages stage q (Some c) older e h =
    left_one k stage q c older (is_done k stage (fetched_at (q + count older) c))
    ∙ ap (λ a. option_or (left k (suc stage) q older) (if (suc stage == k.shape.stages) && is_none a.unit then None else Some c.serial)) (sym h.0)
    ∙ ap (λ (n : ℕ). option_or (left k (suc stage) q older) (if does_end n stage c.asks then None else Some c.serial)) e

pub left_first : (k : Setting) (stages stage q : ℕ) (s : Slots) (slot : Option InFlight) → 1 ≤ length s → slot ≡ get_or s 0 slot → k.shape.stages ≡ stages → AreAsked k s →
    left k stage q s ≡ option_or (left k (stage + 1) q (rest_of s)) (serial_left stages stage slot)
left_first k stages stage q [] slot le e same h = absurd (omega (arith, le))
left_first k stages stage q (s ∷ older) slot le e same h =
    let up : suc stage ≡ stage + 1 = omega arith in
    left_more k stages stage q s older same h
    ∙ ap (λ (o : Slots). option_or (left k (suc stage) q o) (serial_left stages stage s)) (sym (rest_is s older))
    ∙ ap (λ (n : ℕ). option_or (left k n q (rest_of (s ∷ older))) (serial_left stages stage s)) up
    ∙ ap (λ (t : Option InFlight). option_or (left k (stage + 1) q (rest_of (s ∷ older))) (serial_left stages stage t)) (sym e)

-- one or the other
pub or_second : (whole one other r : Option ℕ) → whole ≡ option_or one other → one ≡ None → r ≡ other → r ≡ whole
or_second whole one other r e none is = is ∙ ap (λ (o : Option ℕ). option_or o other) (sym none) ∙ sym e

pub or_first : (whole one other : Option ℕ) → whole ≡ option_or one other → (one ≡ None → ⊥) → one ≡ whole
or_first whole None other e some = absurd (some refl)
or_first whole (Some a) other e some = sym e

-- Nothing goes out

pub kept_all : (all : List Fetched) → kept_of None all ≡ all
kept_all [] = refl
kept_all (c ∷ all) = ap (λ (l : List Fetched). c ∷ l) (kept_all all)

-- of what is owed and what stands
pub found_owed : (f : Fetched → Bool) (all cs : List Fetched) (one r : Option ℕ) → one ≡ eldest f all → one ≡ None → r ≡ eldest f cs → r ≡ eldest f (all ++ cs)
found_owed f all cs one r is none e = or_second (eldest f (all ++ cs)) (eldest f all) (eldest f cs) r (eldest_both f all cs) (sym is ∙ none) e

pub found_among : (f : Fetched → Bool) (all cs : List Fetched) (one : Option ℕ) → one ≡ eldest f all → (one ≡ None → ⊥) → one ≡ eldest f (all ++ cs)
found_among f all cs one is some = is ∙ or_first (eldest f (all ++ cs)) (eldest f all) (eldest f cs) (eldest_both f all cs) (λ none. some (is ∙ none))
