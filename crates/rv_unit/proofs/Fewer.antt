-- There are no more entries than the units have times.
use Rattle.std.proofs.Common.{◌≡◌, ℕ, zero, suc, ◌+◌, ◌*◌, ◌<◌, ◌≤◌, List, [], ◌∷◌, length, drop, Bool, true, false, refl, sym, ap, ◌∙◌, subst, arith}
use Rattle.std.specs.Prelude.{◌==◌, ◌-◌, slice_index}
use Rattle.std.proofs.lemmas.Bool.Decides.{nat_tests}
use Rattle.rv_unit.specs.declared.entry.Entry.{Entry}
use Rattle.rv_unit.specs.Entries.{last_time}
use Rattle.rv_unit.specs.Timed.{AreUnits, IsBehind, IsTimed, room}
use Rattle.rv_unit.specs.UnitLaws.{RoomLaw}
use Rattle.rv_unit.proofs.Moving.{first_time}

abbrev one_if : Bool → ℕ
one_if true = 1
one_if false = 0

-- how many entries a unit has
abbrev in_unit : ℕ → List Entry → ℕ
in_unit u [] = 0
in_unit u (e ∷ rest) = one_if (e.unit == u) + in_unit u rest

-- the entries of the unit stand from this time on
abbrev AreSince : ℕ → ℕ → List Entry → Type 0
AreSince u t [] = Unit
AreSince u t (e ∷ rest) = (e.unit ≡ u → t ≤ e.time) × AreSince u t rest

since_behind : (u : ℕ) (e : Entry) (l : List Entry) → e.unit ≡ u → IsBehind e l → AreSince u (suc e.time) l
since_behind u e [] q h = tt
since_behind u e (p ∷ rest) q h = (λ r. (let lt = h.0 (r ∙ sym q) in omega (arith, lt)), since_behind u e rest q h.1)

since_first : (stages : ℕ) (lasts : List ℕ) (u : ℕ) (l : List Entry) → IsTimed stages lasts l → AreSince u stages l
since_first stages lasts u [] t = tt
since_first stages lasts u (e ∷ rest) t = (λ q. t.0.first, since_first stages lasts u rest t.2)

in_unit_few : (stages : ℕ) (lasts : List ℕ) (u t : ℕ) (l : List Entry) → t ≤ last_time lasts u + 1 → AreSince u t l → IsTimed stages lasts l →
    t + in_unit u l ≤ last_time lasts u + 1
in_unit_few stages lasts u t [] le s h = omega arith
in_unit_few stages lasts u t (e ∷ rest) le s h =
    by_case (e.unit == u) refl (in_unit_few stages lasts u t rest le s.1 h.2)
    (λ q le'. in_unit_few stages lasts u (suc e.time) rest le' (since_behind u e rest q h.1) h.2) where
      by_case : (b : Bool) → (e.unit == u) ≡ b → t + in_unit u rest ≤ last_time lasts u + 1 →
          (e.unit ≡ u → suc e.time ≤ last_time lasts u + 1 → suc e.time + in_unit u rest ≤ last_time lasts u + 1) →
          t + (one_if b + in_unit u rest) ≤ last_time lasts u + 1
      by_case false q other ih = omega (arith, other)
      by_case true q other ih =
          let same : e.unit ≡ u = grind (arith, nat_tests) in
          let last = h.0.last in
          let at : last_time lasts e.unit ≡ last_time lasts u = ap (λ v. last_time lasts v) same in
          let few = ih same (omega (arith, last, at)) in
          let from = s.0 same in
          omega (arith, few, from)

-- how many entries the units from u on have
abbrev in_units : ℕ → List ℕ → List Entry → ℕ
in_units u [] l = 0
in_units u (last ∷ ls) l = in_unit u l + in_units (u + 1) ls l

in_units_none : (u : ℕ) (ls : List ℕ) → in_units u ls [] ≡ 0
in_units_none u [] = refl
in_units_none u (last ∷ ls) = (let rest = in_units_none (u + 1) ls in omega (arith, rest))

in_units_past : (u : ℕ) (ls : List ℕ) (e : Entry) (l : List Entry) → e.unit < u → in_units u ls (e ∷ l) ≡ in_units u ls l
in_units_past u [] e l lt = refl
in_units_past u (last ∷ ls) e l lt =
    let other : (e.unit == u) ≡ false = grind (arith, nat_tests) in
    let rest = in_units_past (u + 1) ls e l (omega arith) in
    let none : one_if (e.unit == u) ≡ 0 = ap one_if other in
    omega (arith, rest, none)

in_units_more : (u : ℕ) (ls : List ℕ) (e : Entry) (l : List Entry) → u ≤ e.unit → e.unit < u + length ls → in_units u ls (e ∷ l) ≡ suc (in_units u ls l)
in_units_more u [] e l le lt = absurd (omega arith)
in_units_more u (last ∷ ls) e l le lt = by_case (e.unit == u) refl (in_units_past (u + 1) ls e l) (λ le'. in_units_more (u + 1) ls e l le' (omega arith)) where
  by_case : (b : Bool) → (e.unit == u) ≡ b → (e.unit < u + 1 → in_units (u + 1) ls (e ∷ l) ≡ in_units (u + 1) ls l) →
      (u + 1 ≤ e.unit → in_units (u + 1) ls (e ∷ l) ≡ suc (in_units (u + 1) ls l)) →
      one_if b + in_unit u l + in_units (u + 1) ls (e ∷ l) ≡ suc (in_unit u l + in_units (u + 1) ls l)
  by_case true q past more =
      let lt' : e.unit < u + 1 = grind (arith, nat_tests) in
      let rest = past lt' in
      omega (arith, rest)
  by_case false q past more =
      let le' : u + 1 ≤ e.unit = grind (arith, nat_tests) in
      let rest = more le' in
      omega (arith, rest)

in_units_all : (stages : ℕ) (lasts : List ℕ) (l : List Entry) → IsTimed stages lasts l → in_units 0 lasts l ≡ length l
in_units_all stages lasts [] t = in_units_none 0 lasts
in_units_all stages lasts (e ∷ rest) t =
    let below = t.0.below in
    in_units_more 0 lasts e rest (omega arith) (omega (arith, below)) ∙ ap suc (in_units_all stages lasts rest t.2)

-- the units from u on, the last times of which are ls
in_units_few : (stages : ℕ) (lasts : List ℕ) (l : List Entry) (u : ℕ) (ls : List ℕ) → ((k : ℕ) → k < length ls → in_unit (u + k) l ≤ last_time ls k + 1 - stages) →
    in_units u ls l ≤ room stages ls
in_units_few stages lasts l u [] h = omega arith
in_units_few stages lasts l u (last ∷ ls) h =
    let none : u + 0 ≡ u = omega arith in
    let more : (k : ℕ) → u + suc k ≡ u + 1 + k = λ k. omega arith in
    let here : in_unit u l ≤ last + 1 - stages = subst (λ v. in_unit v l ≤ last + 1 - stages) none (h 0 (omega arith)) in
    let rest = in_units_few stages lasts l (u + 1) ls
    (λ k lt. subst (λ v. in_unit v l ≤ last_time ls k + 1 - stages) (more k) (h (suc k) (omega arith))) in
    omega (arith, here, rest)

pub room_law : RoomLaw
room_law stages lasts l units t =
    let all = in_units_all stages lasts l t in
    let few = in_units_few stages lasts l 0 lasts (λ k lt.
    let none : 0 + k ≡ k = omega arith in
    let le = first_time stages lasts k units.first lt in
    let here = in_unit_few stages lasts k stages l (omega (arith, le)) (since_first stages lasts k l t) t in
    subst (λ v. in_unit v l ≤ last_time lasts k + 1 - stages) (sym none) (omega (arith, here))) in
    omega (arith, all, few)

-- ---- how many times the units have
pub room_rest : (stages : ℕ) (lasts : List ℕ) (i : ℕ) → i < length lasts →
    room stages (drop i lasts) ≡ (slice_index lasts i + 1 - stages) + room stages (drop (i + 1) lasts)
room_rest stages [] i lt = absurd (omega arith)
room_rest stages (last ∷ lasts) zero lt = refl
room_rest stages (last ∷ lasts) (suc i) lt =
    room_rest stages lasts i (omega arith) ∙ ap (λ k. (slice_index lasts i + 1 - stages) + room stages (drop k (last ∷ lasts))) more where
      more : suc (i + 1) ≡ suc i + 1
      more = omega arith

room_most : (stages : ℕ) (lasts : List ℕ) → ((k : ℕ) → k < length lasts → slice_index lasts k ≤ 64) → room stages lasts ≤ 65 * length lasts
room_most stages [] h = omega arith
room_most stages (last ∷ lasts) h =
    let here : last ≤ 64 = h 0 (omega arith) in
    let rest = room_most stages lasts (λ k lt. h (suc k) (omega arith)) in
    omega (arith, here, rest)

pub room_few : (stages : ℕ) (lasts : List ℕ) → AreUnits stages lasts → room stages lasts ≤ 4680
room_few stages lasts units =
    let most = room_most stages lasts (λ k lt. units.most k 0 lt) in
    let few = units.few in
    omega (arith, most, few)
