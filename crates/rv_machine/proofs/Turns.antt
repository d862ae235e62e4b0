-- The token that settles its successor: there is one at most.
use Rattle.rv_engine.specs.Rows.{entered_by, turn_by, loaded_by}
use Rattle.std.proofs.Common.{◌≡◌, ℕ, zero, suc, ◌+◌, ◌-◌, ◌<◌, ◌≤◌, [], ◌∷◌, drop, take, length, Option, Some, None, Bool, true, false, refl, sym, ap, ◌∙◌, subst, arith}
use Rattle.std.specs.Prelude.{◌&&◌, ◌||◌, not, if◌then◌else◌, ◌==◌, is_some}
use Rattle.std.proofs.lemmas.List.{length-drop}
use Rattle.rv_core.specs.declared.Shape.{Shape}
use Rattle.rv_holds.specs.declared.token.Token.{Token}
use Rattle.rv_holds.specs.declared.flushing.Turn.{Turn}
use Rattle.rv_holds.specs.Tokens.{Slots}
use Rattle.rv_holds.specs.Holds.{oldest, is_late, late, stops_now}
use Rattle.rv_holds.specs.Flushing.{next_of, settles_at, settles, settled, nearest, mismatch, turn_of, struck}
use Rattle.rv_engine.specs.Settings.{Setting, shape_of, Machine}
use Rattle.rv_machine.specs.Placed.{IsReady}
use Rattle.rv_machine.specs.Told.{Decided}
use Rattle.rv_machine.proofs.Deciding.{test_eq, late_here, late_behind, own_none, no_waiting, waits_late}
use Rattle.rv_machine.proofs.Standing.{decided_drop}

-- the token of these that settles
pub record Settler (k : Shape) (base : ℕ) (slots : Slots) (turn : Turn) : Type 0 where
  pub index : ℕ
  pub token : Token
  pub older : Slots
  pub rest : drop index slots ≡ Some token ∷ older
  pub stage : turn.stage ≡ base + index
  pub address : turn.address ≡ next_of token
  pub settles_now : settles k (base + index) token older ≡ true

later : (k : Shape) (base : ℕ) (s : Option Token) (older : Slots) (turn : Turn) → Settler k (suc base) older turn → Settler k base (s ∷ older) turn
later k base s older turn x =
    let e : suc base + x.index ≡ base + suc x.index = omega arith in
    record { index = suc x.index; token = x.token; older = x.older; rest = x.rest; stage = x.stage ∙ e; address = x.address; settles_now = subst (λ n. settles k n x.token x.older ≡ true) e x.settles_now }

pub settler : (k : Shape) (base : ℕ) (slots : Slots) (turn : Turn) → settled k base slots ≡ Some turn → Settler k base slots turn
settler k base [] turn h = cc
settler k base (None ∷ older) turn h = later k base None older turn (settler k (suc base) older turn h)
settler k base (Some t ∷ older) turn h = by_case (settles k base t older) refl h (λ q. settler k (suc base) older turn q) where
  by_case : (b : Bool) → settles k base t older ≡ b → (if b then Some (record { stage = base; address = next_of t }) else settled k (suc base) older) ≡ Some turn → (settled k (suc base) older ≡ Some turn → Settler k (suc base) older turn) → Settler k base (Some t ∷ older) turn
  by_case true q e ih =
      let z : base ≡ base + 0 = omega arith in
      let same : record { stage = base; address = next_of t } ≡ turn = cc in
      record { index = 0; token = t; older = older; rest = refl; stage = sym (ap (λ (u : Turn). u.stage) same) ∙ z; address = sym (ap (λ (u : Turn). u.address) same); settles_now = subst (λ n. settles k n t older ≡ true) z q }
  by_case false q e ih = later k base (Some t) older turn (ih e)

-- and where a token settles before which none does, it is that one
pub settled_first : (k : Shape) (base n : ℕ) (slots older : Slots) (t : Token) → drop n slots ≡ Some t ∷ older → settles k (base + n) t older ≡ true → ((i : ℕ) (u : Token) (l : Slots) → i < n → drop i slots ≡ Some u ∷ l → settles k (base + i) u l ≡ false)
    → settled k base slots ≡ Some (record { stage = base + n; address = next_of t })
settled_first k base n [] older t e s f = nothing n e where
  nothing : {A : Type 0} (m : ℕ) → drop {A = Option Token} m [] ≡ Some t ∷ older → A
  nothing zero q = cc
  nothing (suc m) q = cc
settled_first k base zero (None ∷ rest) older t e s f = cc
settled_first k base zero (Some u ∷ rest) older t e s f =
    let token : u ≡ t = cc in
    let tail : rest ≡ older = cc in
    let z : base + 0 ≡ base = omega arith in
    let now : settles k base u rest ≡ true = ap (λ (v : Token). settles k base v rest) token ∙ ap (λ l. settles k base t l) tail ∙ sym (ap (λ n. settles k n t older) z) ∙ s in
    rw now (ap (λ (v : Token). Some (record { stage = base; address = next_of v })) token ∙ ap (λ (n : ℕ). Some (record { stage = n; address = next_of t })) (sym z))
settled_first k base (suc n) (None ∷ rest) older t e s f =
    let z : suc base + n ≡ base + suc n = omega arith in
    settled_first k (suc base) n rest older t e (subst (λ j. settles k j t older ≡ true) (sym z) s) (λ i u l lt d. let y : base + suc i ≡ suc base + i = omega arith in subst (λ j. settles k j u l ≡ false) y (f (suc i) u l (omega (arith, lt)) d))
    ∙ ap (λ (j : ℕ). Some (record { stage = j; address = next_of t })) z
settled_first k base (suc n) (Some v ∷ rest) older t e s f =
    let z : suc base + n ≡ base + suc n = omega arith in
    let y : base + 0 ≡ base = omega arith in
    let first : settles k base v rest ≡ false = subst (λ j. settles k j v rest ≡ false) y (f 0 v rest (omega arith) refl) in
    ap (λ (b : Bool). if b then Some (record { stage = base; address = next_of v }) else settled k (suc base) rest) first
    ∙ settled_first k (suc base) n rest older t e (subst (λ j. settles k j t older ≡ true) (sym z) s) (λ i u l lt d. let x : base + suc i ≡ suc base + i = omega arith in subst (λ j. settles k j u l ≡ false) x (f (suc i) u l (omega (arith, lt)) d))
    ∙ ap (λ (j : ℕ). Some (record { stage = j; address = next_of t })) z

-- What a token that settles is

pub settles_parts : (k : Shape) (stage : ℕ) (t : Token) (older : Slots) → settles k stage t older ≡ true → (settles_at k stage t ≡ true) × (is_some t.cell.hold ≡ false) × (stops_now k stage t older ≡ false)
settles_parts k stage t older h = by_case (settles_at k stage t) (is_some t.cell.hold) (stops_now k stage t older) h where
  by_case : (a b c : Bool) → (a && not (b || c)) ≡ true → (a ≡ true) × (b ≡ false) × (c ≡ false)
  by_case true false false q = (refl, refl, refl)
  by_case true true c q = cc
  by_case true false true q = cc
  by_case false b c q = cc

pub parts_settle : (k : Shape) (stage : ℕ) (t : Token) (older : Slots) → settles_at k stage t ≡ true → is_some t.cell.hold ≡ false → stops_now k stage t older ≡ false → settles k stage t older ≡ true
parts_settle k stage t older a b c = rw (a, b, c) refl

-- a token among these that is late makes the oldest late one
pub none_late : (f : Token → Bool) (n : ℕ) (l : Slots) (t : Token) (older : Slots) → drop n l ≡ Some t ∷ older → oldest f l ≡ None → f t ≡ false
none_late f n [] t older e h = nothing n e where
  nothing : {A : Type 0} (m : ℕ) → drop {A = Option Token} m [] ≡ Some t ∷ older → A
  nothing zero q = cc
  nothing (suc m) q = cc
none_late f zero (None ∷ l) t older e h = cc
none_late f zero (Some u ∷ l) t older e h = let same : u ≡ t = cc in ap (λ (v : Token). f v) (sym same) ∙ late_here l f u h
none_late f (suc n) (None ∷ l) t older e h = none_late f n l t older e h
none_late f (suc n) (Some u ∷ l) t older e h = none_late f n l t older e (late_behind l f u h)

late_none : (o : Option ℕ) → late o ≡ None → o ≡ None
late_none None h = refl
late_none (Some j) h = cc

-- a token settles at EX, or late in the last stage
pub settles_where : (k : Shape) (stage : ℕ) (t : Token) → settles_at k stage t ≡ true → (b : Bool) → is_late t ≡ b → (if b then suc stage == k.stages else stage == k.ex) ≡ true
settles_where k stage t h b e = ap (λ (c : Bool). if c then suc stage == k.stages else stage == k.ex) (sym e) ∙ h

-- where one settles, none before it does
pub none_before : (k : Setting) (ready : IsReady k) (slots : Slots) (n i : ℕ) (t u : Token) (older l : Slots) → Decided k 0 slots → n < (shape_of k).stages → drop n slots ≡ Some t ∷ older → settles (shape_of k) n t older ≡ true → i < n → drop i slots ≡ Some u ∷ l → settles (shape_of k) i u l ≡ false
none_before k ready slots n i t u older l d inside at s lt before = by_case (settles (shape_of k) i u l) refl where
  here : Decided k i (Some u ∷ l)
  here =
      let z : 0 + i ≡ i = omega arith in
      subst (λ x. Decided k i x) before (subst (λ j. Decided k j (drop i slots)) z (decided_drop k 0 i slots d))

  rest_drop : (a : ℕ) (xs : Slots) → drop a xs ≡ Some u ∷ l → (b : ℕ) → drop (suc a + b) xs ≡ drop b l
  rest_drop zero [] e b = cc
  rest_drop zero (x ∷ xs) e b = let tail : xs ≡ l = cc in let z : suc 0 + b ≡ suc b = omega arith in ap (λ j. drop j (x ∷ xs)) z ∙ ap (λ y. drop b y) tail
  rest_drop (suc a) [] e b = cc
  rest_drop (suc a) (x ∷ xs) e b = let z : suc (suc a) + b ≡ suc (suc a + b) = omega arith in ap (λ j. drop j (x ∷ xs)) z ∙ rest_drop a xs e b

  -- the one behind it stands among the older ones
  among : drop (n - suc i) l ≡ Some t ∷ older
  among = let z : suc i + (n - suc i) ≡ n = omega (arith, lt) in sym (rest_drop i slots before (n - suc i)) ∙ ap (λ j. drop j slots) z ∙ at

  by_late : (b c : Bool) → is_late u ≡ b → is_late t ≡ c → settles (shape_of k) i u l ≡ true → (settles_at (shape_of k) i u ≡ true) × (is_some u.cell.hold ≡ false) × (stops_now (shape_of k) i u l ≡ false) → settles (shape_of k) i u l ≡ false
  by_late true c e q y x =
      let w = test_eq (suc i) (shape_of k).stages (settles_where (shape_of k) i u x.0 true e) in
      absurd (omega (arith, w, lt, inside))
  by_late false false e q y x =
      let w = test_eq i (shape_of k).ex (settles_where (shape_of k) i u x.0 false e) in
      let v = test_eq n (shape_of k).ex (settles_where (shape_of k) n t (settles_parts (shape_of k) n t older s).0 false q) in
      absurd (omega (arith, w, v, lt))
  by_late false true e q y x =
      let w = test_eq i (shape_of k).ex (settles_where (shape_of k) i u x.0 false e) in
      let own = own_none (shape_of k) i u l u.cell.hold here.0 x.1 x.2 in
      let none = late_none (oldest is_late l) (waits_late (shape_of k) i u l (no_waiting (shape_of k) i u l own) w) in
      cc (none_late is_late (n - suc i) l t older among none, q)

  by_case : (b : Bool) → settles (shape_of k) i u l ≡ b → settles (shape_of k) i u l ≡ false
  by_case false q = q
  by_case true q = by_late (is_late u) (is_late t) refl refl q (settles_parts (shape_of k) i u l q)

-- The turn

-- the turn is that of the token that settles, where another address stands next
pub record Turner (k : Shape) (fetch : ℕ) (slots : Slots) (turn : Turn) : Type 0 where
  pub token : Token
  pub older : Slots
  pub rest : drop turn.stage slots ≡ Some token ∷ older
  pub address : turn.address ≡ next_of token
  pub settles_now : settles k turn.stage token older ≡ true
  pub differs : (turn.address == nearest fetch (take turn.stage slots)) ≡ false

pub turner : (k : Shape) (fetch : ℕ) (slots : Slots) (turn : Turn) → turn_of k fetch slots ≡ Some turn → Turner k fetch slots turn
turner k fetch slots turn h = by_settled (settled k 0 slots) refl h where
  by_settled : (o : Option Turn) → settled k 0 slots ≡ o → mismatch fetch slots o ≡ Some turn → Turner k fetch slots turn
  by_settled None e q = cc
  by_settled (Some other) e q = by_test (other.address == nearest fetch (take other.stage slots)) refl q where
    by_test : (b : Bool) → (other.address == nearest fetch (take other.stage slots)) ≡ b → (if b then None else Some other) ≡ Some turn → Turner k fetch slots turn
    by_test true w p = cc
    by_test false w p =
        let same : other ≡ turn = cc in
        let x = settler k 0 slots other e in
        let z : 0 + x.index ≡ x.index = omega arith in
        let at : x.index ≡ turn.stage = sym z ∙ sym x.stage ∙ ap (λ (u : Turn). u.stage) same in
        record {
          token = x.token;
          older = x.older;
          rest = ap (λ j. drop j slots) (sym at) ∙ x.rest;
          address = ap (λ (u : Turn). u.address) (sym same) ∙ x.address;
          settles_now = subst (λ j. settles k j x.token x.older ≡ true) (z ∙ at) x.settles_now;
          differs = subst (λ (u : Turn). (u.address == nearest fetch (take u.stage slots)) ≡ false) same w;
        }

dropped_inside : (n : ℕ) (l older : Slots) (t : Option Token) → drop n l ≡ t ∷ older → n < length l
dropped_inside n l older t e =
    let a = length-drop n l in
    let b = ap length e in
    omega (arith, a, b)

-- no more stages are flushed than there are
pub struck_inside : (k : Shape) (fetch : ℕ) (slots : Slots) → struck (turn_of k fetch slots) ≤ length slots
struck_inside k fetch slots = by_turn (turn_of k fetch slots) refl where
  by_turn : (o : Option Turn) → turn_of k fetch slots ≡ o → struck o ≤ length slots
  by_turn None e = omega arith
  by_turn (Some turn) e =
      let x = turner k fetch slots turn e in
      let lt = dropped_inside turn.stage slots x.older (Some x.token) x.rest in
      omega (arith, lt)

-- the turn of a row in which the handler is not entered, and of one in which it is
pub plain_turn : (k : Setting) (m : Machine) → entered_by k m ≡ false → turn_by k m ≡ turn_of (shape_of k) m.fetch (loaded_by k m)
plain_turn k m e = ap (λ (b : Bool). if b then Some (record { stage = suc (shape_of k).ex; address = (shape_of k).trap }) else turn_of (shape_of k) m.fetch (loaded_by k m)) e

pub entry_turn : (k : Setting) (m : Machine) → entered_by k m ≡ true → turn_by k m ≡ Some (record { stage = suc (shape_of k).ex; address = (shape_of k).trap })
entry_turn k m e = ap (λ (b : Bool). if b then Some (record { stage = suc (shape_of k).ex; address = (shape_of k).trap }) else turn_of (shape_of k) m.fetch (loaded_by k m)) e
