-- Slots of which those of the first stages are flushed: what a row shows of them, and what is left.
use Rattle.std.proofs.Common.{◌≡◌, ℕ, zero, suc, ◌+◌, ◌-◌, ◌<◌, ◌≤◌, List, [], ◌∷◌, ◌++◌, drop, take, length, Option, Some, None, Bool, true, false, refl, sym, ap, ◌∙◌, subst, arith, ◌⊎◌, inl, inr}
use Rattle.std.specs.Prelude.{◌||◌, ◌==◌, slice_get, replicate}
use Rattle.std.proofs.lemmas.Bool.Decides.{nat_tests}
use Rattle.rv_core.specs.declared.Shape.{Shape}
use Rattle.rv_trace.specs.declared.row.Cell.{Cell}
use Rattle.rv_trace.specs.declared.row.Row.{Row}
use Rattle.rv_trace.specs.Trace.{has_serial}
use Rattle.rv_trace.specs.RowParts.{AscendFrom, name_of, names_of, front, serial_after}
use Rattle.rv_trace.proofs.Forms.{is_among, in_five_has, ascend_more}
use Rattle.rv_holds.specs.declared.token.Token.{Token}
use Rattle.rv_holds.specs.Tokens.{Slots, cell_of, cells_of}
use Rattle.rv_holds.specs.Holds.{stops_now}
use Rattle.rv_holds.specs.Flushing.{unheld, cleared, listed, flushed_of, nearest}
use Rattle.rv_engine.specs.Settings.{Setting, shape_of}
use Rattle.rv_engine.specs.Rows.{advanced, leaving, first_slot}
use Rattle.rv_machine.specs.Placed.{count, Serials, Placed, expected, tail, to_go, first_of_two, may_wait, here}
use Rattle.rv_machine.specs.Told.{Decided, NoStops}
use Rattle.rv_machine.proofs.Places.{older_lower}
use Rattle.rv_machine.proofs.Deciding.{decided_tail, no_stops_tail}
use Rattle.rv_machine.proofs.Loading.{Loaded}

same_token : (t u : Token) → ◌≡◌ {A = Option (Option Token)} (Some (Some t)) (Some (Some u)) → t ≡ u
same_token t u e = cc

-- What is left

pub cleared_length : (n : ℕ) (slots : Slots) → n ≤ length slots → length (cleared n slots) ≡ length slots
cleared_length zero slots le = refl
cleared_length (suc n) [] le = absurd (omega arith)
cleared_length (suc n) (s ∷ older) le = ap suc (cleared_length n older (omega (arith, le)))

pub cleared_placed : (k : Setting) (r stage n : ℕ) (slots : Slots) → n ≤ length slots → Placed k r stage slots → Placed k r stage (cleared n slots)
cleared_placed k r stage zero slots le h = h
cleared_placed k r stage (suc n) [] le h = absurd (omega arith)
cleared_placed k r stage (suc n) (s ∷ older) le h = (tt, cleared_placed k r (suc stage) n older (omega (arith, le)) h.1)

pub cleared_decided : (k : Setting) (stage n : ℕ) (slots : Slots) → n ≤ length slots → Decided k stage slots → Decided k stage (cleared n slots)
cleared_decided k stage zero slots le d = d
cleared_decided k stage (suc n) [] le d = absurd (omega arith)
cleared_decided k stage (suc n) (s ∷ older) le d = cleared_decided k (suc stage) n older (omega (arith, le)) (decided_tail k stage s older d)

pub cleared_loaded : (k : Setting) (r stage n : ℕ) (slots : Slots) → n ≤ length slots → Loaded k r stage slots → Loaded k r stage (cleared n slots)
cleared_loaded k r stage zero slots le h = h
cleared_loaded k r stage (suc n) [] le h = absurd (omega arith)
cleared_loaded k r stage (suc n) (s ∷ older) le h = (tt, cleared_loaded k r (suc stage) n older (omega (arith, le)) h.1)

pub cleared_serials : (rows : List Row) (r n : ℕ) (slots : Slots) → n ≤ length slots → Serials rows r slots → Serials rows r (cleared n slots)
cleared_serials rows r zero slots le h = h
cleared_serials rows r (suc n) [] le h = absurd (omega arith)
cleared_serials rows r (suc n) (None ∷ older) le h = cleared_serials rows r n older (omega (arith, le)) h
cleared_serials rows r (suc n) (Some t ∷ older) le h = cleared_serials rows r n older (omega (arith, le)) h.1

pub cleared_count : (n : ℕ) (slots : Slots) → n ≤ length slots → count (cleared n slots) ≡ count (drop n slots)
cleared_count zero slots le = refl
cleared_count (suc n) [] le = absurd (omega arith)
cleared_count (suc n) (s ∷ older) le = cleared_count n older (omega (arith, le))

-- a token that is left stands where it stood, in none of the first stages
pub cleared_at : (n stage : ℕ) (slots : Slots) (t : Token) → n ≤ length slots → slice_get (cleared n slots) stage ≡ Some (Some t) → (n ≤ stage) × (slice_get slots stage ≡ Some (Some t))
cleared_at zero stage slots t long e = (omega arith, e)
cleared_at (suc n) stage [] t long e = absurd (omega arith)
cleared_at (suc n) zero (s ∷ older) t long e = cc
cleared_at (suc n) (suc stage) (s ∷ older) t long e = let x = cleared_at n stage older t (omega (arith, long)) e in (omega (arith, x.0), x.1)

pub cleared_get : (n stage : ℕ) (slots : Slots) → n ≤ stage → n ≤ length slots → slice_get (cleared n slots) stage ≡ slice_get slots stage
cleared_get zero stage slots le long = refl
cleared_get (suc n) zero slots le long = absurd (omega (arith, le))
cleared_get (suc n) (suc stage) [] le long = absurd (omega arith)
cleared_get (suc n) (suc stage) (s ∷ older) le long = cleared_get n stage older (omega (arith, le)) (omega (arith, long))

pub cleared_drop : (n stage : ℕ) (slots : Slots) → n ≤ stage → n ≤ length slots → drop stage (cleared n slots) ≡ drop stage slots
cleared_drop zero stage slots le long = refl
cleared_drop (suc n) zero slots le long = absurd (omega (arith, le))
cleared_drop (suc n) (suc stage) [] le long = absurd (omega arith)
cleared_drop (suc n) (suc stage) (s ∷ older) le long = cleared_drop n stage older (omega (arith, le)) (omega (arith, long))

-- the oldest token is left, where one stands past the first stages
some_to_go : (k : Shape) (most owed stage : ℕ) (t : Token) (older : Slots) → 0 < to_go k most owed stage (Some t ∷ older)
some_to_go k most owed stage t older = by_case (to_go k most owed (suc stage) older) where
  by_case : (m : ℕ) → 0 < first_of_two m (suc (length older + may_wait k most owed stage + t.tail))
  by_case zero = omega arith
  by_case (suc m) = omega arith

first_same : (m b c : ℕ) → 0 < m → first_of_two m b ≡ first_of_two m c
first_same zero b c lt = absurd (omega arith)
first_same (suc m) b c lt = refl

-- with one there, those of the first stages do not count
first_kept : (m b : ℕ) → 0 < m → first_of_two m b ≡ m
first_kept zero b lt = absurd (omega arith)
first_kept (suc m) b lt = refl

pub cleared_to_go : (k : Shape) (most owed stage n : ℕ) (slots older : Slots) (t : Token) → drop n slots ≡ Some t ∷ older → (to_go k most owed stage (cleared n slots) ≡ to_go k most owed stage slots) × (0 < to_go k most owed stage slots)
cleared_to_go k most owed stage zero slots older t e = (refl, subst (λ l. 0 < to_go k most owed stage l) (sym e) (some_to_go k most owed stage t older))
cleared_to_go k most owed stage (suc n) [] older t e = cc
cleared_to_go k most owed stage (suc n) (s ∷ slots) older t e =
    let x = cleared_to_go k most owed (suc stage) n slots older t e in
    let lt = x.1 in (
      ap (λ m. first_of_two m 0) x.0 ∙ first_same (to_go k most owed (suc stage) slots) 0 (here k most owed stage s (length slots)) lt,
      subst (λ m. 0 < m) (sym (first_kept (to_go k most owed (suc stage) slots) (here k most owed stage s (length slots)) lt)) lt,
    )

-- What the row shows

pub unheld_names : (n : ℕ) (slots : Slots) → names_of (cells_of (unheld n slots)) ≡ names_of (cells_of slots)
unheld_names zero slots = refl
unheld_names (suc n) [] = refl
unheld_names (suc n) (None ∷ older) = ap (λ l. None ∷ l) (unheld_names n older)
unheld_names (suc n) (Some t ∷ older) = ap (λ l. name_of (Some t.cell) ∷ l) (unheld_names n older)

pub unheld_get : (n stage : ℕ) (slots : Slots) → n ≤ stage → slice_get (cells_of (unheld n slots)) stage ≡ slice_get (cells_of slots) stage
unheld_get zero stage slots le = refl
unheld_get (suc n) zero slots le = absurd (omega (arith, le))
unheld_get (suc n) (suc stage) [] le = refl
unheld_get (suc n) (suc stage) (s ∷ older) le = unheld_get n stage older (omega (arith, le))

-- a cell of the row is a token's, and it shows no hold in the first stages
pub record ShownAs (n stage : ℕ) (slots : Slots) (c : Cell) : Type 0 where
  pub token : Token
  pub here_is : slice_get slots stage ≡ Some (Some token)
  pub serial : token.cell.serial ≡ c.serial
  pub at : token.cell.at ≡ c.at
  pub word : token.cell.word ≡ c.word
  pub free : stage < n → c.hold ≡ None

pub shown_as : (n stage : ℕ) (slots : Slots) (c : Cell) → slice_get (cells_of (unheld n slots)) stage ≡ Some (Some c) → ShownAs n stage slots c
shown_as zero stage slots c e = plain stage slots e where
  plain : (stage : ℕ) (slots : Slots) → slice_get (cells_of slots) stage ≡ Some (Some c) → ShownAs 0 stage slots c
  plain stage [] e = cc
  plain zero (None ∷ older) e = cc
  plain zero (Some t ∷ older) e =
      let same : t.cell ≡ c = cc in
      record { token = t; here_is = refl; serial = ap (λ (d : Cell). d.serial) same; at = ap (λ (d : Cell). d.at) same; word = ap (λ (d : Cell). d.word) same; free = λ lt. absurd (omega arith) }
  plain (suc stage) (s ∷ older) e =
      let x = plain stage older e in
      record { token = x.token; here_is = x.here_is; serial = x.serial; at = x.at; word = x.word; free = λ lt. absurd (omega arith) }
shown_as (suc n) stage [] c e = cc
shown_as (suc n) zero (None ∷ older) c e = cc
shown_as (suc n) zero (Some t ∷ older) c e =
    let same : record { serial = t.cell.serial; at = t.cell.at; word = t.cell.word; hold = None } ≡ c = cc in
    record {
      token = t;
      here_is = refl;
      serial = ap (λ (d : Cell). d.serial) same;
      at = ap (λ (d : Cell). d.at) same;
      word = ap (λ (d : Cell). d.word) same;
      free = λ lt. sym (ap (λ (d : Cell). d.hold) same);
    }
shown_as (suc n) (suc stage) (s ∷ older) c e =
    let x = shown_as n stage older c e in
    record { token = x.token; here_is = x.here_is; serial = x.serial; at = x.at; word = x.word; free = λ lt. x.free (omega (arith, lt)) }

-- The flushed serials

pub take_get : (n i : ℕ) (slots : Slots) → i < n → slice_get (take n slots) i ≡ slice_get slots i
take_get zero i slots lt = absurd (omega arith)
take_get (suc n) i [] lt = refl
take_get (suc n) zero (s ∷ older) lt = refl
take_get (suc n) (suc i) (s ∷ older) lt = take_get n i older (omega (arith, lt))

pub get_take : (n i : ℕ) (slots : Slots) (t : Token) → slice_get (take n slots) i ≡ Some (Some t) → (i < n) × (slice_get slots i ≡ Some (Some t))
get_take zero i slots t e = cc
get_take (suc n) i [] t e = cc
get_take (suc n) zero (s ∷ older) t e = (omega arith, e)
get_take (suc n) (suc i) (s ∷ older) t e = let x = get_take n i older t e in (omega (arith, x.0), x.1)

among_more : (l : List ℕ) (t s : ℕ) → is_among (l ++ t ∷ []) s ≡ is_among l s || (t == s)
among_more [] t s = either (t == s) where
  either : (b : Bool) → (b || false) ≡ b
  either true = refl
  either false = refl
among_more (r ∷ l) t s = ap (λ b. (r == s) || b) (among_more l t s) ∙ regroup (r == s) (is_among l s) (t == s) where
  regroup : (a b c : Bool) → (a || (b || c)) ≡ ((a || b) || c)
  regroup true b c = refl
  regroup false b c = refl

listed_one : (slots : Slots) (i : ℕ) (t : Token) → slice_get slots i ≡ Some (Some t) → is_among (listed slots) t.cell.serial ≡ true
listed_one [] i t e = cc
listed_one (None ∷ older) zero t e = cc
listed_one (None ∷ older) (suc i) t e = listed_one older i t e
listed_one (Some u ∷ older) zero t e =
    among_more (listed older) u.cell.serial t.cell.serial
    ∙ either (is_among (listed older) t.cell.serial) (u.cell.serial == t.cell.serial) (test u.cell.serial t.cell.serial (ap (λ (v : Token). v.cell.serial) (same_token u t e))) where
      test : (a b : ℕ) → a ≡ b → (a == b) ≡ true
      test a b e = grind (arith, nat_tests)

      either : (a b : Bool) → b ≡ true → (a || b) ≡ true
      either true b q = refl
      either false b q = q
listed_one (Some u ∷ older) (suc i) t e =
    among_more (listed older) u.cell.serial t.cell.serial ∙ either (is_among (listed older) t.cell.serial) (u.cell.serial == t.cell.serial) (listed_one older i t e) where
      either : (a b : Bool) → a ≡ true → (a || b) ≡ true
      either true b q = refl
      either false b q = cc

pub listed_of : (slots : Slots) (i : ℕ) (t : Token) → slice_get slots i ≡ Some (Some t) → has_serial (flushed_of slots) t.cell.serial ≡ true
listed_of slots i t e = in_five_has (listed slots) t.cell.serial ∙ listed_one slots i t e

-- what is listed is a token's
among_only : (slots : Slots) (s : ℕ) → is_among (listed slots) s ≡ true → (i : ℕ) × (t : Token) × (slice_get slots i ≡ Some (Some t)) × (t.cell.serial ≡ s)
among_only [] s h = cc
among_only (None ∷ older) s h = let y = among_only older s h in (suc y.0, y.1, y.2, y.3)
among_only (Some t ∷ older) s h = by_case (is_among (listed older) s) refl (sym (among_more (listed older) t.cell.serial s) ∙ h) (λ e. among_only older s e) where
  equal : (a b : ℕ) → (a == b) ≡ true → a ≡ b
  equal a b e = grind (arith, nat_tests)

  by_case : (b : Bool) → is_among (listed older) s ≡ b → (b || (t.cell.serial == s)) ≡ true
      → (is_among (listed older) s ≡ true → (i : ℕ) × (u : Token) × (slice_get older i ≡ Some (Some u)) × (u.cell.serial ≡ s))
      → (i : ℕ) × (u : Token) × (slice_get (Some t ∷ older) i ≡ Some (Some u)) × (u.cell.serial ≡ s)
  by_case true e x rest = let y = rest e in (suc y.0, y.1, y.2, y.3)
  by_case false e x rest = (0, t, refl, equal t.cell.serial s x)

pub listed_only : (slots : Slots) (s : ℕ) → has_serial (flushed_of slots) s ≡ true → (i : ℕ) × (t : Token) × (slice_get slots i ≡ Some (Some t)) × (t.cell.serial ≡ s)
listed_only slots s h = among_only slots s (sym (in_five_has (listed slots) s) ∙ h)

-- each serial is above those before it
pub listed_ascend : (rows : List Row) (r n : ℕ) (slots : Slots) → Serials rows r slots → AscendFrom None (listed (take n slots))
listed_ascend rows r zero slots h = tt
listed_ascend rows r (suc n) [] h = tt
listed_ascend rows r (suc n) (None ∷ older) h = listed_ascend rows r n older h
listed_ascend rows r (suc n) (Some t ∷ older) h = ascend_more (listed (take n older)) t.cell.serial (listed_ascend rows r n older h.1) below where
  below : (s : ℕ) → is_among (listed (take n older)) s ≡ true → s < t.cell.serial
  below s e =
      let x = among_only (take n older) s e in
      let lt = older_lower rows r x.0 t x.1 older h (get_take n x.0 older x.1 x.2).1 in
      let same = x.3 in
      omega (arith, lt, same)

-- a token's cell stands in the row
pub shows_cell : (n stage : ℕ) (slots : Slots) (t : Token) → slice_get slots stage ≡ Some (Some t) → (c : Cell) × (slice_get (cells_of (unheld n slots)) stage ≡ Some (Some c)) × (c.at ≡ t.cell.at) × (c.serial ≡ t.cell.serial)
shows_cell zero stage [] t e = cc
shows_cell zero zero (None ∷ older) t e = cc
shows_cell zero zero (Some u ∷ older) t e =
    let same = same_token u t e in
    (u.cell, refl, ap (λ (v : Token). v.cell.at) same, ap (λ (v : Token). v.cell.serial) same)
shows_cell zero (suc stage) (s ∷ older) t e = shows_cell zero stage older t e
shows_cell (suc n) stage [] t e = cc
shows_cell (suc n) zero (None ∷ older) t e = cc
shows_cell (suc n) zero (Some u ∷ older) t e =
    let same = same_token u t e in
    (record { serial = u.cell.serial; at = u.cell.at; word = u.cell.word; hold = None }, refl, ap (λ (v : Token). v.cell.at) same, ap (λ (v : Token). v.cell.serial) same)
shows_cell (suc n) (suc stage) (s ∷ older) t e = shows_cell n stage older t e

-- The address that stands next

-- the oldest token, whose address stands next
pub record Oldest (slots : Slots) (fetch : ℕ) : Type 0 where
  pub index : ℕ
  pub token : Token
  pub here_is : slice_get slots index ≡ Some (Some token)
  pub address : nearest fetch slots ≡ token.cell.at
  pub last : (i : ℕ) (t : Token) → index < i → slice_get slots i ≡ Some (Some t) → ⊥

-- there is none, or one
abbrev pub NoneOrOldest : Slots → ℕ → Type 0
NoneOrOldest slots fetch = ((nearest fetch slots ≡ fetch) × ((i : ℕ) (t : Token) → slice_get slots i ≡ Some (Some t) → ⊥)) ⊎ Oldest slots fetch

behind : (s : Option Token) (older : Slots) (fetch next : ℕ) → nearest fetch (s ∷ older) ≡ nearest next older → Oldest older next → Oldest (s ∷ older) fetch
behind s older fetch next e x = record { index = suc x.index; token = x.token; here_is = x.here_is; address = e ∙ x.address; last = later } where
  later : (i : ℕ) (t : Token) → suc x.index < i → slice_get (s ∷ older) i ≡ Some (Some t) → ⊥
  later zero t lt q = absurd (omega (arith, lt))
  later (suc i) t lt q = x.last i t (omega (arith, lt)) q

pub oldest_of : (slots : Slots) (fetch : ℕ) → NoneOrOldest slots fetch
oldest_of [] fetch = inl (refl, λ i t e. cc)
oldest_of (None ∷ older) fetch = elim (oldest_of older fetch) [ inl x ↦ inl (x.0, none x.1) | inr y ↦ inr (behind None older fetch fetch refl y) ] where
  none : ((i : ℕ) (t : Token) → slice_get older i ≡ Some (Some t) → ⊥) → (i : ℕ) (t : Token) → slice_get (None ∷ older) i ≡ Some (Some t) → ⊥
  none f zero t e = cc
  none f (suc i) t e = f i t e
oldest_of (Some u ∷ older) fetch = elim (oldest_of older u.cell.at) [
  | inl x ↦ inr (record { index = 0; token = u; here_is = refl; address = x.0; last = none x.1 })
  | inr y ↦ inr (behind (Some u) older fetch u.cell.at refl y)
] where
  none : ((i : ℕ) (t : Token) → slice_get older i ≡ Some (Some t) → ⊥) → (i : ℕ) (t : Token) → 0 < i → slice_get (Some u ∷ older) i ≡ Some (Some t) → ⊥
  none f zero t lt e = absurd (omega (arith, lt))
  none f (suc i) t lt e = f i t e

-- What goes on

pub cleared_first : (n next : ℕ) (slots : Slots) → serial_after next (cell_of (first_slot slots)) ≡ next → serial_after next (cell_of (first_slot (cleared n slots))) ≡ next
cleared_first zero next slots e = e
cleared_first (suc n) next slots e = refl

pub unheld_first : (n next : ℕ) (slots : Slots) → serial_after next (front (cells_of (unheld n slots))) ≡ serial_after next (front (cells_of slots))
unheld_first zero next slots = refl
unheld_first (suc n) next [] = refl
unheld_first (suc n) next (None ∷ older) = refl
unheld_first (suc n) next (Some t ∷ older) = refl

pub cleared_leaving : (n : ℕ) (slots : Slots) → n ≤ length slots → leaving None (cleared n slots) ≡ leaving None (drop n slots)
cleared_leaving zero slots le = refl
cleared_leaving (suc n) [] le = absurd (omega arith)
cleared_leaving (suc n) (s ∷ older) le = cleared_leaving n older (omega (arith, le))

pub placed_past : (k : Setting) (r stage n : ℕ) (slots : Slots) → n ≤ length slots → Placed k r (stage + n) (advanced None (drop n slots)) → Placed k r stage (advanced None (cleared n slots))
placed_past k r stage zero slots le h = let z : stage + 0 ≡ stage = omega arith in subst (λ s. Placed k r s (advanced None slots)) z h
placed_past k r stage (suc n) [] le h = absurd (omega arith)
placed_past k r stage (suc n) (s ∷ older) le h =
    let z : stage + suc n ≡ suc stage + n = omega arith in
    (tt, placed_past k r (suc stage) n older (omega (arith, le)) (subst (λ j. Placed k r j (advanced None (drop n older))) z h))

pub expected_past : (k : Setting) (r stage n : ℕ) (slots : Slots) → n ≤ length slots → expected k r stage (advanced None (cleared n slots)) ≡ expected k r (stage + n) (advanced None (drop n slots))
expected_past k r stage zero slots le = let z : stage ≡ stage + 0 = omega arith in ap (λ s. expected k r s (advanced None slots)) z
expected_past k r stage (suc n) [] le = absurd (omega arith)
expected_past k r stage (suc n) (s ∷ older) le =
    let z : suc stage + n ≡ stage + suc n = omega arith in
    expected_past k r (suc stage) n older (omega (arith, le)) ∙ ap (λ j. expected k r j (advanced None (drop n older))) z

-- in front of the first stages the first one stands for all
pub expected_front : (k : Setting) (r n : ℕ) (slots : Slots) → 0 < n → n ≤ length slots → expected k r 1 (tail (advanced None (cleared n slots))) ≡ expected k r 0 (advanced None (cleared n slots))
expected_front k r zero slots some le = absurd (omega arith)
expected_front k r (suc n) slots some le = refl

-- the address that stands next is the one that is expected
pub nearest_expected : (k : Setting) (r base n address : ℕ) (slots : Slots) → Placed k r base slots → address ≡ expected k r base slots → nearest address (take n slots) ≡ expected k r (base + n) (drop n slots)
nearest_expected k r base zero address slots h e = let z : base ≡ base + 0 = omega arith in e ∙ ap (λ j. expected k r j slots) z
nearest_expected k r base (suc n) address [] h e = e
nearest_expected k r base (suc n) address (None ∷ older) h e =
    let z : suc base + n ≡ base + suc n = omega arith in
    nearest_expected k r (suc base) n address older h.1 e ∙ ap (λ j. expected k r j (drop n older)) z
nearest_expected k r base (suc n) address (Some t ∷ older) h e =
    let z : suc base + n ≡ base + suc n = omega arith in
    nearest_expected k r (suc base) n t.cell.at older h.1 h.0.at ∙ ap (λ j. expected k r j (drop n older)) z

-- from stage 0 on, where the fetch address is what is expected behind it
pub nearest_first : (k : Setting) (r n fetch : ℕ) (slots : Slots) → Placed k r 0 slots → fetch ≡ expected k r 1 (tail slots) → 0 < n → n ≤ length slots → nearest fetch (take n slots) ≡ expected k r n (drop n slots)
nearest_first k r zero fetch slots h e some long = absurd (omega arith)
nearest_first k r (suc n) fetch [] h e some long = absurd (omega arith)
nearest_first k r (suc n) fetch (None ∷ older) h e some long =
    let z : 1 + n ≡ suc n = omega arith in
    nearest_expected k r 1 n fetch older h.1 e ∙ ap (λ j. expected k r j (drop n older)) z
nearest_first k r (suc n) fetch (Some t ∷ older) h e some long =
    let z : 1 + n ≡ suc n = omega arith in
    nearest_expected k r 1 n t.cell.at older h.1 h.0.at ∙ ap (λ j. expected k r j (drop n older)) z

pub no_stop_at : (k : Setting) (base n : ℕ) (seen older : Slots) (t : Token) → NoStops k base seen → drop n seen ≡ Some t ∷ older → (stops_now (shape_of k) (base + n) t older ≡ false) × NoStops k (base + n) (Some t ∷ older)
no_stop_at k base zero seen older t h e =
    let z : base ≡ base + 0 = omega arith in
    let x : NoStops k (base + 0) (Some t ∷ older) = subst (λ j. NoStops k j (Some t ∷ older)) z (subst (λ l. NoStops k base l) e h) in
    (x.0, x)
no_stop_at k base (suc n) [] older t h e = cc
no_stop_at k base (suc n) (s ∷ seen) older t h e =
    let z : suc base + n ≡ base + suc n = omega arith in
    let x = no_stop_at k (suc base) n seen older t (no_stops_tail k base s seen h) e in
    (subst (λ j. stops_now (shape_of k) j t older ≡ false) z x.0, subst (λ j. NoStops k j (Some t ∷ older)) z x.1)
