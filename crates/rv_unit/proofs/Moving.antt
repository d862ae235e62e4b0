-- The entries a row later.
use Rattle.std.proofs.Common.{◌≡◌, ℕ, suc, ◌+◌, ◌<◌, ◌≤◌, List, [], ◌∷◌, length, map, Option, Some, None, Bool, true, false, refl, sym, ap, ◌∙◌, arith, All}
use Rattle.std.specs.Prelude.{◌&&◌, ◌||◌, not, if◌then◌else◌, ◌==◌}
use Rattle.std.proofs.lemmas.Bool.Decides.{nat_tests}
use Rattle.rv_unit.specs.declared.entry.Entry.{Entry}
use Rattle.rv_unit.specs.Entries.{last_time, is_finished, has_finished, writer, is_number, is_frozen, does_write, written_among, moved, cons_unless, stepped}
use Rattle.rv_unit.specs.Timed.{IsBehind, IsTimed}
use Rattle.rv_unit.specs.Slots.{serial_at}
use Rattle.rv_unit.specs.UnitLaws.{TimedLaw, AloneLaw, GoesOnLaw, LeavesLaw, one_later}
use Rattle.rv_unit.proofs.Finishing.{none_finished, writer_finished, Within, within_rest, not_finished}

-- ---- times stay within the units
behind_stepped : (lasts : List ℕ) (all : List Entry) (e : Entry) (l : List Entry) → IsBehind e l → IsBehind (moved lasts all e) (stepped lasts all l)
behind_stepped lasts all e [] h = tt
behind_stepped lasts all e (p ∷ rest) h = by_case (does_write lasts all p) (behind_stepped lasts all e rest h.1) where
  both : (m n : ℕ) (b c : Bool) → b ≡ c → m < n → (if b then m else suc m) < (if c then n else suc n)
  both m n true true q lt = lt
  both m n false false q lt = omega arith
  both m n true false q lt = cc
  both m n false true q lt = cc

  by_case : (b : Bool) → IsBehind (moved lasts all e) (stepped lasts all rest) →
      IsBehind (moved lasts all e) (cons_unless b (moved lasts all p) (stepped lasts all rest))
  by_case true ih = ih
  by_case false ih = (λ q. both e.time p.time (is_frozen lasts all e.unit) (is_frozen lasts all p.unit) (ap (λ u. is_frozen lasts all u) (sym q)) (h.0 q), ih)

timed_stepped : (stages : ℕ) (lasts : List ℕ) (all l : List Entry) → Within lasts all l → IsTimed stages lasts l → IsTimed stages lasts (stepped lasts all l)
timed_stepped stages lasts all [] w h = tt
timed_stepped stages lasts all (e ∷ rest) w h =
    by_case (does_write lasts all e) refl (timed_stepped stages lasts all rest (within_rest lasts all e rest w) h.2) where
      in_time : does_write lasts all e ≡ false → (b : Bool) → is_frozen lasts all e.unit ≡ b → (if b then e.time else suc e.time) ≤ last_time lasts e.unit
      in_time d true q = h.0.last
      in_time d false q =
          let n = not_finished lasts all e rest w d q in
          let le = h.0.last in
          grind (arith, nat_tests)

      since : (b : Bool) → stages ≤ (if b then e.time else suc e.time)
      since true = h.0.first
      since false = (let le = h.0.first in omega arith)

      by_case : (b : Bool) → does_write lasts all e ≡ b → IsTimed stages lasts (stepped lasts all rest) →
          IsTimed stages lasts (cons_unless b (moved lasts all e) (stepped lasts all rest))
      by_case true q ih = ih
      by_case false q ih = (
        record { below = h.0.below; first = since (is_frozen lasts all e.unit); last = in_time q (is_frozen lasts all e.unit) refl },
        behind_stepped lasts all e rest h.1,
        ih,
      )

-- what enters a unit that is not frozen is behind all of it
behind_entered : (stages : ℕ) (lasts : List ℕ) (all : List Entry) (u serial : ℕ) (l : List Entry) → is_frozen lasts all u ≡ false → IsTimed stages lasts l →
    IsBehind (record { serial = serial; unit = u; time = stages }) (stepped lasts all l)
behind_entered stages lasts all u serial [] f h = tt
behind_entered stages lasts all u serial (p ∷ rest) f h = by_case (does_write lasts all p) (behind_entered stages lasts all u serial rest f h.2) where
  later : p.unit ≡ u → (b : Bool) → is_frozen lasts all p.unit ≡ b → stages < (if b then p.time else suc p.time)
  later q true r = (let never : is_frozen lasts all p.unit ≡ false = ap (λ v. is_frozen lasts all v) q ∙ f in cc)
  later q false r = (let le = h.0.first in omega arith)

  by_case : (b : Bool) → IsBehind (record { serial = serial; unit = u; time = stages }) (stepped lasts all rest) →
      IsBehind (record { serial = serial; unit = u; time = stages }) (cons_unless b (moved lasts all p) (stepped lasts all rest))
  by_case true ih = ih
  by_case false ih = (λ q. later q (is_frozen lasts all p.unit) refl, ih)

-- a unit's last time is past the last stage
pub first_time : (stages : ℕ) (lasts : List ℕ) (u : ℕ) → All (λ last. stages ≤ last) lasts → u < length lasts → stages ≤ last_time lasts u
first_time stages lasts u h lt = h u 0 lt

pub timed_law : TimedLaw
timed_law stages lasts entries None units h c = timed_stepped stages lasts entries entries (λ u f. f) h
timed_law stages lasts entries (Some (u, serial)) units h c = (
  record { below = c.0; first = omega arith; last = first_time stages lasts u units.first c.0 },
  behind_entered stages lasts entries u serial entries c.1 h,
  timed_stepped stages lasts entries entries (λ u f. f) h,
)

-- ---- where no unit writes all go on
not_frozen : (lasts : List ℕ) (entries : List Entry) (u : ℕ) → writer lasts entries ≡ None → is_frozen lasts entries u ≡ false
not_frozen lasts entries u h = rw (none_finished lasts u entries h) refl

all_later : (lasts : List ℕ) (all l : List Entry) → writer lasts all ≡ None → stepped lasts all l ≡ map one_later l
all_later lasts all [] h = refl
all_later lasts all (e ∷ rest) h =
    by_case (is_finished lasts e) (writer lasts all) (is_frozen lasts all e.unit) h (not_frozen lasts all e.unit h) (all_later lasts all rest h) where
      by_case : (a : Bool) (o : Option ℕ) (f : Bool) → o ≡ None → f ≡ false → stepped lasts all rest ≡ map one_later rest →
          cons_unless (a && is_number o e.unit) (record { serial = e.serial; unit = e.unit; time = if f then e.time else suc e.time }) (stepped lasts all rest) ≡
          one_later e ∷ map one_later rest
      by_case a (Some w) f h q ih = cc
      by_case a None true h q ih = cc
      by_case true None false h q ih = ap (λ l. one_later e ∷ l) ih
      by_case false None false h q ih = ap (λ l. one_later e ∷ l) ih

pub goes_on_law : GoesOnLaw
goes_on_law lasts entries h = (λ u. not_frozen lasts entries u h, all_later lasts entries entries h)

-- ---- where a unit writes one entry leaves
-- one that writes is at its last time, in the unit that writes
writes_last : (lasts : List ℕ) (all : List Entry) (e : Entry) → does_write lasts all e ≡ true →
    (e.time ≡ last_time lasts e.unit) × (is_number (writer lasts all) e.unit ≡ true)
writes_last lasts all e h = two (e.time == last_time lasts e.unit) (is_number (writer lasts all) e.unit) refl h where
  two : (a b : Bool) → (e.time == last_time lasts e.unit) ≡ a → (a && b) ≡ true → (e.time ≡ last_time lasts e.unit) × (b ≡ true)
  two true true q h = (grind (arith, nat_tests), refl)
  two true false q h = cc
  two false b q h = cc

-- beside one that writes no other does
pub writes_alone : (stages : ℕ) (lasts : List ℕ) (all : List Entry) (e : Entry) (l : List Entry) → does_write lasts all e ≡ true → IsBehind e l →
    IsTimed stages lasts l → written_among lasts all l ≡ None
writes_alone stages lasts all e [] d b t = refl
writes_alone stages lasts all e (p ∷ rest) d b t = by_case (does_write lasts all p) refl (writes_alone stages lasts all e rest d b.1 t.2) where
  one_number : (o : Option ℕ) (m n : ℕ) → is_number o m ≡ true → is_number o n ≡ true → m ≡ n
  one_number None m n q r = cc
  one_number (Some w) m n q r = grind (arith, nat_tests)

  by_case : (c : Bool) → does_write lasts all p ≡ c → written_among lasts all rest ≡ None → (if c then Some p else written_among lasts all rest) ≡ None
  by_case false q ih = ih
  by_case true q ih =
      let of_e = writes_last lasts all e d in
      let of_p = writes_last lasts all p q in
      let same : p.unit ≡ e.unit = one_number (writer lasts all) p.unit e.unit of_p.1 of_e.1 in
      let lt = b.0 same in
      let last : last_time lasts p.unit ≡ last_time lasts e.unit = ap (λ u. last_time lasts u) same in
      absurd (omega (arith, of_e.0, of_p.0, lt, last))

pub alone_law : AloneLaw
alone_law stages lasts all e older t d = writes_alone stages lasts all e older d t.1 t.2

-- where none of them writes they stay as many
none_leaves : (lasts : List ℕ) (all l : List Entry) → written_among lasts all l ≡ None → length (stepped lasts all l) ≡ length l
none_leaves lasts all [] h = refl
none_leaves lasts all (e ∷ rest) h = by_case (does_write lasts all e) h (λ h'. none_leaves lasts all rest h') where
  by_case : (b : Bool) → (if b then Some e else written_among lasts all rest) ≡ None →
      (written_among lasts all rest ≡ None → length (stepped lasts all rest) ≡ length rest) →
      length (cons_unless b (moved lasts all e) (stepped lasts all rest)) ≡ suc (length rest)
  by_case true h ih = cc
  by_case false h ih = ap suc (ih h)

one_leaves : (stages : ℕ) (lasts : List ℕ) (all : List Entry) (u : ℕ) (l : List Entry) → IsTimed stages lasts l → writer lasts all ≡ Some u →
    has_finished lasts u l ≡ true → length (stepped lasts all l) + 1 ≡ length l
one_leaves stages lasts all u [] t w h = cc
one_leaves stages lasts all u (e ∷ rest) t w h =
    by_case (does_write lasts all e) refl (λ h'. one_leaves stages lasts all u rest t.2 w h') where
      not_here : (a : Bool) (b : Bool) → (e.unit == u) ≡ b → (a && (u == e.unit)) ≡ false → ((a && b) || has_finished lasts u rest) ≡ true → has_finished lasts u rest ≡ true
      not_here true true q d h = grind (arith, nat_tests)
      not_here true false q d h = h
      not_here false b q d h = h

      by_case : (b : Bool) → does_write lasts all e ≡ b → (has_finished lasts u rest ≡ true → length (stepped lasts all rest) + 1 ≡ length rest) →
          length (cons_unless b (moved lasts all e) (stepped lasts all rest)) + 1 ≡ suc (length rest)
      by_case true d ih =
          let same = none_leaves lasts all rest (writes_alone stages lasts all e rest d t.1 t.2) in
          omega (arith, same)
      by_case false d ih =
          let less = ih (not_here (is_finished lasts e) (e.unit == u) refl (rw w at d) h) in
          omega (arith, less)

pub leaves_law : LeavesLaw
leaves_law stages lasts entries u units t w = one_leaves stages lasts entries u entries t w (writer_finished lasts u entries w)

-- ---- serials a row later
-- in a frozen unit they stay
pub serial_frozen : (lasts : List ℕ) (all : List Entry) (u t : ℕ) (l : List Entry) → is_frozen lasts all u ≡ true →
    serial_at u t (stepped lasts all l) ≡ serial_at u t l
serial_frozen lasts all u t [] f = refl
serial_frozen lasts all u t (e ∷ rest) f =
    by_case (e.unit == u) (does_write lasts all e) (is_frozen lasts all e.unit) refl refl refl (serial_frozen lasts all u t rest f) where
      silent : (a b c : Bool) → (c && not b) ≡ true → (a && b) ≡ false
      silent true true c h = by c h where
        by : (c : Bool) → (c && false) ≡ true → true ≡ false
        by true h = sym h
        by false h = sym h
      silent true false c h = refl
      silent false b c h = refl

      by_case : (b d f' : Bool) → (e.unit == u) ≡ b → does_write lasts all e ≡ d → is_frozen lasts all e.unit ≡ f' →
          serial_at u t (stepped lasts all rest) ≡ serial_at u t rest →
          serial_at u t (cons_unless d (record { serial = e.serial; unit = e.unit; time = if f' then e.time else suc e.time }) (stepped lasts all rest)) ≡
          (if b && (e.time == t) then Some e.serial else serial_at u t rest)
      by_case false true f' q d g ih = ih
      by_case false false f' q d g ih = rw q ih
      by_case true true f' q d g ih =
          let same : e.unit ≡ u = grind (arith, nat_tests) in
          let never : does_write lasts all e ≡ false =
          silent (is_finished lasts e) (is_number (writer lasts all) e.unit) (has_finished lasts e.unit all) (ap (λ v. is_frozen lasts all v) same ∙ f) in
          cc
      by_case true false true q d g ih = rw q (ap (λ o. if e.time == t then Some e.serial else o) ih)
      by_case true false false q d g ih =
          let same : e.unit ≡ u = grind (arith, nat_tests) in
          let stays : is_frozen lasts all e.unit ≡ true = ap (λ v. is_frozen lasts all v) same ∙ f in
          cc

-- in another one they are one time on, but for the last time
pub serial_moved : (lasts : List ℕ) (all : List Entry) (u t : ℕ) (l : List Entry) → is_frozen lasts all u ≡ false → t < last_time lasts u →
    serial_at u (suc t) (stepped lasts all l) ≡ serial_at u t l
serial_moved lasts all u t [] f lt = refl
serial_moved lasts all u t (e ∷ rest) f lt =
    by_case (e.unit == u) (does_write lasts all e) (is_frozen lasts all e.unit) refl refl refl (serial_moved lasts all u t rest f lt) where
      next : (m n : ℕ) → (suc m == suc n) ≡ (m == n)
      next m n = grind (arith, nat_tests)

      by_case : (b d f' : Bool) → (e.unit == u) ≡ b → does_write lasts all e ≡ d → is_frozen lasts all e.unit ≡ f' →
          serial_at u (suc t) (stepped lasts all rest) ≡ serial_at u t rest →
          serial_at u (suc t) (cons_unless d (record { serial = e.serial; unit = e.unit; time = if f' then e.time else suc e.time }) (stepped lasts all rest)) ≡
          (if b && (e.time == t) then Some e.serial else serial_at u t rest)
      by_case false true f' q d g ih = ih
      by_case false false f' q d g ih = rw q ih
      by_case true true f' q d g ih =
          let same : e.unit ≡ u = grind (arith, nat_tests) in
          let last = (writes_last lasts all e d).0 in
          let at_last : last_time lasts e.unit ≡ last_time lasts u = ap (λ v. last_time lasts v) same in
          let other : (e.time == t) ≡ false = grind (arith, nat_tests) in
          ih ∙ ap (λ b. if b then Some e.serial else serial_at u t rest) (sym other)
      by_case true false true q d g ih =
          let same : e.unit ≡ u = grind (arith, nat_tests) in
          let goes : is_frozen lasts all e.unit ≡ false = ap (λ v. is_frozen lasts all v) same ∙ f in
          cc
      by_case true false false q d g ih =
          rw q (ap (λ b. if b then Some e.serial else serial_at u (suc t) (stepped lasts all rest)) (next e.time t) ∙ ap (λ o. if e.time == t then Some e.serial else o) ih)

-- and the first time is free
pub serial_first : (stages : ℕ) (lasts : List ℕ) (all : List Entry) (u : ℕ) (l : List Entry) → is_frozen lasts all u ≡ false → IsTimed stages lasts l →
    serial_at u stages (stepped lasts all l) ≡ None
serial_first stages lasts all u [] f h = refl
serial_first stages lasts all u (e ∷ rest) f h =
    by_case (e.unit == u) (does_write lasts all e) (is_frozen lasts all e.unit) refl refl (serial_first stages lasts all u rest f h.2) where
      by_case : (b d f' : Bool) → (e.unit == u) ≡ b → is_frozen lasts all e.unit ≡ f' → serial_at u stages (stepped lasts all rest) ≡ None →
          serial_at u stages (cons_unless d (record { serial = e.serial; unit = e.unit; time = if f' then e.time else suc e.time }) (stepped lasts all rest)) ≡ None
      by_case b true f' q g ih = ih
      by_case false false f' q g ih = rw q ih
      by_case true false true q g ih =
          let same : e.unit ≡ u = grind (arith, nat_tests) in
          let goes : is_frozen lasts all e.unit ≡ false = ap (λ v. is_frozen lasts all v) same ∙ f in
          cc
      by_case true false false q g ih =
          let le = h.0.first in
          let other : (suc e.time == stages) ≡ false = grind (arith, nat_tests) in
          rw (q, other) ih
