-- A token in a unit moves as its module is told.
use Rattle.std.proofs.Common.{◌≡◌, ℕ, zero, suc, ◌+◌, ◌-◌, ◌<◌, ◌≤◌, List, [], ◌∷◌, length, take, Option, Some, None, Bool, true, false, refl, sym, ap, ◌∙◌, subst, arith, inl, inr, ◌⊎◌}
use Rattle.std.specs.Prelude.{◌&&◌, ◌||◌, not, if◌then◌else◌, ◌==◌, is_some, nat_eq, slice_get}
use Rattle.std.proofs.lemmas.Bool.{cases_lt}
use Rattle.std.proofs.lemmas.Bool.Decides.{nat_tests}
use Rattle.ix_graph.specs.declared.graph.Mode.TheVariants.{Tight, Decoupled}
use Rattle.ix_net.specs.declared.netlist.Net.{Net}
use Rattle.ix_plan.specs.declared.design.Plan.{Plan}
use Rattle.ix_plan.specs.Service.{Moves}
use Rattle.ix_plan.specs.Units.{Slots, unit_written, frozen_with, serial_for, moved_on, next_from}
use Rattle.rv_seq.specs.declared.commit.Commit.{Commit}
use Rattle.rv_trace.specs.declared.row.Cell.{Cell}
use Rattle.rv_trace.specs.declared.row.Hold.{Hold}
use Rattle.rv_trace.specs.declared.row.Row.{Row}
use Rattle.rv_trace.specs.Trace.{has_serial}
use Rattle.rv_trace.specs.RowParts.{leaves, name_of}
use Rattle.rv_lawful.specs.Settings.{Setting, Stands, stages_of, tailed}
use Rattle.rv_lawful.specs.Future.{cell_in}
use Rattle.rv_lawful.specs.Outstanding.{in_unit, entering, units_after}
use Rattle.rv_lawful.specs.LawfulTrace.{IsWordOf}
use Rattle.rv_ports.specs.declared.modules.Module.{Module}
use Rattle.rv_ports.specs.declared.shown.Shown.{Shown}
use Rattle.rv_ports.specs.Drives.{Drives}
use Rattle.rv_ports.specs.Seats.{seat_in, is_frozen, shown_by}
use Rattle.rv_ports.specs.Inputs.{module_of, seat_at, moves_on, is_number, is_own, last_seat, stands_still, enable_value}
use Rattle.rv_machine.specs.Promise.{IsInUnit}
use Rattle.rv_machine.proofs.LivesFrame.{IsFramed, Framed}
use Rattle.rv_machine.proofs.LivesRows.{known_newest, one_word}
use Rattle.rv_machine.proofs.LivesShown.{equal_true, equal_false, no_move, some_move, own_number_is, seat_is, seat_there, frozen_is, enable_above, Tells, step_on, step_off}
use Rattle.rv_machine.proofs.LivesTails.{time_last}
use Rattle.rv_machine.proofs.LivesCells.{IsCore, IsCellToken}

-- ---- what stands in a unit behind a row

-- the slots of a unit behind a row are those before it, or these moved on
record Slotted (base : ℕ) (written retired : Option (ℕ × ℕ)) (units : List Slots) (u : ℕ) (slots : Slots) : Type 0 where
  old : Slots
  at : slice_get units u ≡ Some old
  are : slots ≡ (if frozen_with (base + u) old written then old else moved_on (serial_for (base + u) retired) old)

some_slots : (x y : Slots) → ◌≡◌ {A = Option Slots} (Some x) (Some y) → x ≡ y
some_slots x y e = cc

slotted : (base : ℕ) (written retired : Option (ℕ × ℕ)) (units : List Slots) (u : ℕ) (slots : Slots) → slice_get (next_from base written retired units) u ≡ Some slots → Slotted base written retired units u slots
slotted base written retired [] u slots e = cc
slotted base written retired (x ∷ units) zero slots e =
    let z : base ≡ base + 0 = omega arith in
    record {
      old = x;
      at = refl;
      are = sym (some_slots (if frozen_with base x written then x else moved_on (serial_for base retired) x) slots e) ∙ ap (λ (b : ℕ). if frozen_with b x written then x else moved_on (serial_for b retired) x) z;
    }
slotted base written retired (x ∷ units) (suc u) slots e =
    let r = slotted (base + 1) written retired units u slots e in
    let z : base + 1 + u ≡ base + suc u = omega arith in
    record { old = r.old; at = r.at; are = r.are ∙ ap (λ (b : ℕ). if frozen_with b r.old written then r.old else moved_on (serial_for b retired) r.old) z }

taken_at : (n : ℕ) (l : Slots) (i : ℕ) (o : Option ℕ) → slice_get (take n l) i ≡ Some o → slice_get l i ≡ Some o
taken_at zero l i o e = cc
taken_at (suc n) [] i o e = cc
taken_at (suc n) (x ∷ l) zero o e = e
taken_at (suc n) (x ∷ l) (suc i) o e = taken_at n l i o e

some_option : (x y : Option ℕ) → ◌≡◌ {A = Option (Option ℕ)} (Some x) (Some y) → x ≡ y
some_option x y e = cc

-- a serial of a unit that moves on stood at the time before, or has entered
moved_at : (entered : Option ℕ) (unit : Slots) (a s : ℕ) → slice_get (moved_on entered unit) a ≡ Some (Some s) → ((a ≡ 0) × (entered ≡ Some s)) ⊎ ((b : ℕ) × (suc b ≡ a) × (slice_get unit b ≡ Some (Some s)))
moved_at entered [] a s e = cc
moved_at entered (x ∷ unit) zero s e = inl (refl, some_option entered (Some s) e)
moved_at entered (x ∷ unit) (suc b) s e = inr (b, refl, taken_at (length unit) (x ∷ unit) b (Some s) e)

-- what enters a unit is what the row retires
enters_from : (k : Setting) (retired : Option (ℕ × Commit)) (u s : ℕ) → serial_for u (entering k retired) ≡ Some s → (c : Commit) × (retired ≡ Some (s, c)) × ((k.asks c.word).unit ≡ Some u)
enters_from k None u s e = cc
enters_from k (Some (t, c)) u s e = by_unit (k.asks c.word).unit refl e where
  some_number : (x y : ℕ) → ◌≡◌ {A = Option ℕ} (Some x) (Some y) → x ≡ y
  some_number x y q = cc

  by_unit : (o : Option ℕ) → (k.asks c.word).unit ≡ o → serial_for u (in_unit t o) ≡ Some s → (b : Commit) × (◌≡◌ {A = Option (ℕ × Commit)} (Some (t, c)) (Some (s, b))) × ((k.asks b.word).unit ≡ Some u)
  by_unit None q f = cc
  by_unit (Some v) q f = by_test (nat_eq v u) refl f where
    same_number : nat_eq v u ≡ true → v ≡ u
    same_number x = grind (arith, nat_tests)

    by_test : (b : Bool) → nat_eq v u ≡ b → (if b then Some t else None) ≡ Some s → (x : Commit) × (◌≡◌ {A = Option (ℕ × Commit)} (Some (t, c)) (Some (s, x))) × ((k.asks x.word).unit ≡ Some u)
    by_test true x g = (c, ap (λ y. Some (y, c)) (some_number t s g), q ∙ ap (λ y. Some y) (same_number x))
    by_test false x g = cc

-- the words of what rows retire are those of its cells
abbrev pub RetiresWords : Setting → List Row → Type 0
RetiresWords k [] = Unit {0}
RetiresWords k (row ∷ earlier) =
    ((s : ℕ) (c : Commit) (n : ℕ) (b : Cell) → row.retired ≡ Some (s, c) → suc n ≡ k.shape.stages → Stands k row n b → b.serial ≡ s → c.word ≡ b.word) × RetiresWords k earlier

-- no serial stands in the units before the first row
abbrev pub AreBare : List Slots → Type 0
AreBare units = (u : ℕ) (slots : Slots) (a s : ℕ) → slice_get units u ≡ Some slots → slice_get slots a ≡ Some (Some s) → ⊥

-- ---- one row

-- a serial in a unit behind a row stood there before, at this time where the unit is frozen, and at the one before where not, or retired in the row
pub data Was (k : Setting) (past : Row) (older : List Row) (u a s : ℕ) : Type 0 where
  rested : (old : Slots) → slice_get (units_after k older) u ≡ Some old → frozen_with u old (unit_written (units_after k older)) ≡ true → slice_get old a ≡ Some (Some s) → Was k past older u a s
  moved : (old : Slots) → slice_get (units_after k older) u ≡ Some old → frozen_with u old (unit_written (units_after k older)) ≡ false → (b : ℕ) → suc b ≡ a → slice_get old b ≡ Some (Some s) → Was k past older u a s
  entered : a ≡ 0 → (c : Commit) → past.retired ≡ Some (s, c) → (k.asks c.word).unit ≡ Some u → Was k past older u a s

pub was : (k : Setting) (past : Row) (older : List Row) (u a s : ℕ) (slots : Slots) → slice_get (units_after k (past ∷ older)) u ≡ Some slots → slice_get slots a ≡ Some (Some s) → Was k past older u a s
unfolding units_after
was k past older u a s slots e f =
    let r = slotted 0 (unit_written (units_after k older)) (entering k past.retired) (units_after k older) u slots e in
    let z : 0 + u ≡ u = omega arith in
    by_frozen r.old r.at (frozen_with u r.old (unit_written (units_after k older))) refl
    (ap (λ (x : Slots). slice_get x a) (sym (r.are ∙ ap (λ (b : ℕ). if frozen_with b r.old (unit_written (units_after k older)) then r.old else moved_on (serial_for b (entering k past.retired)) r.old) z)) ∙ f) where
      by_frozen : (old : Slots) → slice_get (units_after k older) u ≡ Some old → (b : Bool) → frozen_with u old (unit_written (units_after k older)) ≡ b
          → slice_get (if frozen_with u old (unit_written (units_after k older)) then old else moved_on (serial_for u (entering k past.retired)) old) a ≡ Some (Some s) → Was k past older u a s
      by_frozen old at true q g = rested old at q (ap (λ (b : Bool). slice_get (if b then old else moved_on (serial_for u (entering k past.retired)) old) a) (sym q) ∙ g)
      by_frozen old at false q g = by_move (moved_at (serial_for u (entering k past.retired)) old a s (ap (λ (b : Bool). slice_get (if b then old else moved_on (serial_for u (entering k past.retired)) old) a) (sym q) ∙ g)) where
        by_move : ((a ≡ 0) × (serial_for u (entering k past.retired) ≡ Some s)) ⊎ ((b : ℕ) × (suc b ≡ a) × (slice_get old b ≡ Some (Some s))) → Was k past older u a s
        by_move (inl y) = (let x = enters_from k past.retired u s y.1 in entered y.0 x.0 x.1 x.2)
        by_move (inr y) = moved old at q y.0 y.1 y.2

-- the cell that retires
pub record IsRetired (k : Setting) (past : Row) (s : ℕ) (word : ℕ) : Type 0 where
  pub stage : ℕ
  pub last : suc stage ≡ k.shape.stages
  pub cell : Cell
  pub stands : Stands k past stage cell
  pub leaves_is : leaves past (Some cell) ≡ name_of (Some cell)
  pub serial : cell.serial ≡ s
  pub word_is : word ≡ cell.word

pub retired_cell : (k : Setting) (past : Row) (older : List Row) → 0 < k.shape.stages → Framed k (past ∷ older) → RetiresWords k (past ∷ older) → (s : ℕ) (c : Commit) → past.retired ≡ Some (s, c) → IsRetired k past s c.word
retired_cell k past older pos lawful words s c e =
    let last : suc (k.shape.stages - 1) ≡ k.shape.stages = omega (arith, pos) in
    let x = (lawful.0.retires (k.shape.stages - 1) last).leaver s c e in
    record { stage = k.shape.stages - 1; last = last; cell = x.0; stands = x.1; leaves_is = x.2; serial = x.3; word_is = words.0 s c (k.shape.stages - 1) x.0 e last x.1 x.3 }

-- a serial in a unit has a word in these rows
pub unit_known : (k : Setting) (rows : List Row) → 0 < k.shape.stages → AreBare k.units → Framed k rows → RetiresWords k rows → (u a s : ℕ) (slots : Slots) → slice_get (units_after k rows) u ≡ Some slots → slice_get slots a ≡ Some (Some s)
    → (word : ℕ) × IsWordOf k rows s word
unfolding units_after
unit_known k [] pos bare lawful words u a s slots e f = absurd (bare u slots a s e f)
unit_known k (past ∷ older) pos bare lawful words u a s slots e f = by_case (was k past older u a s slots e f) (λ b old g h. unit_known k older pos bare lawful.2 words.1 u b s old g h) where
  further : (word : ℕ) × IsWordOf k older s word → (word : ℕ) × IsWordOf k (past ∷ older) s word
  further y = (y.0, inr y.1)

  by_case : Was k past older u a s → ((b : ℕ) (old : Slots) → slice_get (units_after k older) u ≡ Some old → slice_get old b ≡ Some (Some s) → (word : ℕ) × IsWordOf k older s word) → (word : ℕ) × IsWordOf k (past ∷ older) s word
  by_case (rested old at q g) rest = further (rest a old at g)
  by_case (moved old at q b z g) rest = further (rest b old at g)
  by_case (entered z c r q) rest = (let x = retired_cell k past older pos lawful words s c r in (c.word, inl (x.stage, x.cell, x.stands, x.serial, sym x.word_is)))

-- ---- a token in a unit

-- what is known of a behaviour with a unit: its mode, that its unit is among the first 64, and which words enter it
pub record IsOfUnit (d : Drives) (n : ℕ) (p : Plan) (u : ℕ) : Type 0 where
  pub mode : p.mode ≡ Decoupled
  pub unit : (module_of d n p).unit ≡ Some u
  pub few : u < 64
  pub enters : (word : ℕ) → (d.setting.asks word).unit ≡ Some u → d.number word ≡ Some n
  pub numbered : (word : ℕ) → d.number word ≡ Some n → (d.setting.asks word).unit ≡ Some u

module _ (d : Drives) (n : ℕ) (p : Plan) (net : Net) (last : ℕ) (core : IsCore d.setting) (bound : last ≤ 64) where
  abbrev k : Setting
  k = d.setting

  abbrev m : Module
  m = module_of d n p

  module _ (past : Row) (older : List Row) (values : List ℕ) (going : past.stop ≡ None) (tells : Tells net values m (shown_by d older past) last) (u : ℕ) (of : IsOfUnit d n p u) where
    abbrev w : Shown
    w = shown_by d older past

    still_is : (old : Slots) (b : Bool) → slice_get (units_after k older) u ≡ Some old → frozen_with u old (unit_written (units_after k older)) ≡ b → stands_still w m.unit ≡ b
    still_is old b e f = ap (stands_still w) of.unit ∙ frozen_is d older past u of.few ∙ ap (λ o. is_frozen u o (unit_written (units_after k older))) e ∙ f

    -- past the last stage
    past_last : (t : ℕ) (b : Bool) → k.shape.stages ≤ t → stands_still w m.unit ≡ b → enable_value m w t ≡ not b
    past_last t b le e =
        enable_above m w t Decoupled of.mode (omega (arith, le))
        ∙ ap (λ (z : Bool). if z then is_own n (last_seat m w) && moves_on (last_seat m w) else not (stands_still w m.unit)) (equal_false (suc t) k.shape.stages (omega (arith, le)))
        ∙ ap not e

    -- at the last stage
    at_last : (t : ℕ) → suc t ≡ k.shape.stages → enable_value m w t ≡ (is_own n (last_seat m w) && moves_on (last_seat m w))
    at_last t e =
        enable_above m w t Decoupled of.mode (omega (arith, e))
        ∙ ap (λ (z : Bool). if z then is_own n (last_seat m w) && moves_on (last_seat m w) else not (stands_still w m.unit)) (equal_true (suc t) k.shape.stages e)

    -- while the unit is frozen nothing of the behaviour retires
    module _ (row_lawful : IsFramed k older past) (old : Slots) (at : slice_get (units_after k older) u ≡ Some old) (frozen : frozen_with u old (unit_written (units_after k older)) ≡ true) where
      stays_out : (t : ℕ) (c : Cell) → suc t ≡ k.shape.stages → Stands k past t c → d.number c.word ≡ Some n → leaves past (Some c) ≡ None
      stays_out t c is_last e own = by_test (is_some c.hold) (has_serial past.flushed c.serial) refl refl where
        none_of : (o : Option Hold) → is_some o ≡ false → o ≡ None
        none_of None q = refl
        none_of (Some h) q = cc

        full : c.hold ≡ None → has_serial past.flushed c.serial ≡ false → ⊥
        full q f = (let a = core.ex_last in row_lawful.full t c u e (omega (arith, a, is_last)) q f (record { last = is_last; enters = of.numbered c.word own; frozen = (old, at, frozen) }))

        by_test : (a b : Bool) → is_some c.hold ≡ a → has_serial past.flushed c.serial ≡ b → (if is_some c.hold || has_serial past.flushed c.serial then None else name_of (Some c)) ≡ None
        by_test true b q f = ap (λ (x : Bool). if x || has_serial past.flushed c.serial then None else name_of (Some c)) q
        by_test false true q f = ap (λ (x : Bool). if x || has_serial past.flushed c.serial then None else name_of (Some c)) q ∙ ap (λ (x : Bool). if x then None else name_of (Some c)) f
        by_test false false q f = absurd (full (none_of c.hold q) f)

      none_retires : (t : ℕ) → suc t ≡ k.shape.stages → (is_own n (last_seat m w) && moves_on (last_seat m w)) ≡ false
      none_retires t is_last =
          let five : t < 5 = (let a = core.most in omega (arith, a, is_last)) in
          let at_t : k.shape.stages - 1 ≡ t = omega (arith, is_last) in
          ap (λ s. is_own n s && moves_on s) (ap (λ j. seat_at w j) at_t ∙ seat_is d older past t five) ∙ by_cell (slice_get (stages_of k past) t) refl where
            by_number : (c : Cell) → slice_get (stages_of k past) t ≡ Some (Some c) → (b : Bool) → is_number (d.number c.word) n ≡ b → (is_own n (seat_in d older past t (Some c)) && moves_on (seat_in d older past t (Some c))) ≡ false
            by_number c e false q = ap (λ b. b && moves_on (seat_in d older past t (Some c))) q
            by_number c e true q = ap (λ b. b && moves_on (seat_in d older past t (Some c))) q ∙ no_move d older past t (Some c) (stays_out t c is_last e (number_of (d.number c.word) q)) where
              number_of : (o : Option ℕ) → is_number o n ≡ true → o ≡ Some n
              number_of None x = cc
              number_of (Some j) x = ap (λ y. Some y) (same j x) where
                same : (j : ℕ) → (j == n) ≡ true → j ≡ n
                same j x = grind (arith, nat_tests)

            by_cell : (o : Option (Option Cell)) → slice_get (stages_of k past) t ≡ o → (is_own n (seat_in d older past t (cell_in (slice_get (stages_of k past) t))) && moves_on (seat_in d older past t (cell_in (slice_get (stages_of k past) t)))) ≡ false
            by_cell None e = ap (λ o. is_own n (seat_in d older past t (cell_in o)) && moves_on (seat_in d older past t (cell_in o))) e
            by_cell (Some None) e = ap (λ o. is_own n (seat_in d older past t (cell_in o)) && moves_on (seat_in d older past t (cell_in o))) e
            by_cell (Some (Some c)) e = ap (λ o. is_own n (seat_in d older past t (cell_in o)) && moves_on (seat_in d older past t (cell_in o))) e ∙ by_number c e (is_number (d.number c.word) n) refl

      -- it rests in its unit
      rests_in : (t v : ℕ) → k.shape.stages ≤ t → v ≤ last → v ≡ t → Moves net k.shape.rd values t v
      rests_in t v le high same =
          let still = still_is old true at frozen in
          step_off net values m w last tells t v (omega (arith, high, bound)) (past_last t true le still) (λ lt. elim (cases_lt k.shape.stages t) [
            | inl less ↦ past_last (t - 1) true (omega (arith, less)) still
            | inr ge ↦ (let z : suc (t - 1) ≡ k.shape.stages = (let a = core.ex_last in omega (arith, le, ge, a)) in at_last (t - 1) z ∙ none_retires (t - 1) z)
          ]) same

    -- it goes on in its unit
    goes_in : (old : Slots) → slice_get (units_after k older) u ≡ Some old → frozen_with u old (unit_written (units_after k older)) ≡ false → (t v : ℕ) → k.shape.stages ≤ t → v ≤ last → v ≡ t + 1 → Moves net k.shape.rd values t v
    goes_in old at open_ t v le high next =
        let a = core.rd_ex in
        let b = core.ex_last in
        step_on net values m w last tells t v (omega (arith, a, b, le)) high (past_last t false le (still_is old false at open_)) next

    -- it enters its unit
    enters_it : (t : ℕ) (c : Cell) (v : ℕ) → suc t ≡ k.shape.stages → Stands k past t c → leaves past (Some c) ≡ name_of (Some c) → d.number c.word ≡ Some n → v ≤ last → v ≡ t + 1 → Moves net k.shape.rd values t v
    enters_it t c v is_last e l own high next =
        let a = core.rd_ex in
        let b = core.ex_last in
        let five : t < 5 = (let x = core.most in omega (arith, x, is_last)) in
        let at_t : k.shape.stages - 1 ≡ t = omega (arith, is_last) in
        let seat = ap (λ j. seat_at w j) at_t ∙ seat_there d older past t (Some c) five e in
        let on : enable_value m w t ≡ true =
        at_last t is_last ∙ ap (λ s. is_own n s && moves_on s) seat ∙ ap (λ x. x && moves_on (seat_in d older past t (Some c))) (own_number_is (d.number c.word) n own) ∙ some_move d older past t c (c.serial, c.at, c.word) l going in
        step_on net values m w last tells t v (omega (arith, a, b, is_last)) high on next

  -- ---- where a token of a unit stood in the row before, and how it moved

  abbrev pub IsToken : List Row → Row → ℕ → ℕ → ℕ → Type 0
  IsToken earlier row s word t = IsCellToken d n earlier row s word t ⊎ IsInUnit d m earlier row t s word

  abbrev pub TurnedIn : Row → List Row → List ℕ → ℕ → ℕ → ℕ → Type 0
  TurnedIn past older values s word v = (v ≡ k.shape.rd) ⊎ ((u : ℕ) × IsToken older past s word u × (u ≤ v) × Moves net k.shape.rd values u v)

  module _ (past : Row) (older : List Row) (values : List ℕ) (going : past.stop ≡ None) (tells : Tells net values m (shown_by d older past) last)
      (row : Row) (lawful : Framed k (row ∷ past ∷ older)) (words : RetiresWords k (past ∷ older)) (bare : AreBare k.units) (s word : ℕ) (untailed : (p.mode ≡ Tight → ⊥) → d.number word ≡ Some n → tailed k older s ≡ 0)
      (v : ℕ) (high : v ≤ last) (token : IsInUnit d m (past ∷ older) row v s word) (of : IsOfUnit d n p token.unit) where
    some_stage : 0 < k.shape.stages
    some_stage = (let a = core.ex_last in omega (arith, a))

    -- its word was known in the row before
    known : IsWordOf k (past ∷ older) s word
    known =
        let y = unit_known k (past ∷ older) some_stage bare lawful.2 words token.unit token.after s token.slots token.at token.stands in
        subst (λ x. IsWordOf k (past ∷ older) s x) (one_word k (row ∷ past ∷ older) lawful s y.0 word (inr y.1) token.word_is) y.1

    pub unit_turn : TurnedIn past older values s word v
    unit_turn = by_case (was k past older token.unit token.after s token.slots token.at token.stands) where
      before : (old : Slots) (a t : ℕ) → slice_get (units_after k older) token.unit ≡ Some old → slice_get old a ≡ Some (Some s) → t ≡ k.shape.stages + a → IsToken older past s word t
      before old a t at e q = inr (record { unit = token.unit; own = of.unit; slots = old; at = at; after = a; time = q; stands = e; word_is = known })

      not_tight : p.mode ≡ Tight → ⊥
      not_tight q = cc (q, of.mode)

      by_case : Was k past older token.unit token.after s → TurnedIn past older values s word v
      by_case (rested old at frozen e) =
          let t = token.time in
          inr (v, before old token.after v at e t, omega arith, rests_in past older values going tells token.unit of lawful.2.0 old at frozen v v (omega (arith, t)) high refl)
      by_case (moved old at open_ b z e) =
          let t = token.time in
          let u : ℕ = k.shape.stages + b in
          inr (u, before old b u at e refl, omega (arith, t, z), goes_in past older values going tells token.unit of old at open_ u v (omega arith) high (omega (arith, t, z)))
      by_case (entered z c r q) =
          let t = token.time in
          let x = retired_cell k past older some_stage lawful.2 words s c r in
          let l = x.last in
          let same : x.cell.word ≡ word = one_word k (past ∷ older) lawful.2 s x.cell.word word (known_newest k (past ∷ older) x.stage x.cell s x.cell.word x.stands x.serial refl) known in
          let own_cell : d.number x.cell.word ≡ Some n = ap d.number (sym x.word_is) ∙ of.enters c.word q in
          let own : d.number word ≡ Some n = ap d.number (sym same) ∙ own_cell in
          let none : tailed k older x.cell.serial ≡ 0 = ap (tailed k older) x.serial ∙ untailed not_tight own in
          let at_stage : x.stage + tailed k older x.cell.serial ≡ x.stage = omega (arith, none) in
          let time = time_last k older x.stage x.cell x.last ∙ at_stage in
          let a = core.rd_ex in
          let b = core.ex_last in
          inr (
            x.stage,
            inl (record {
              at = record { stage = x.stage; cell = x.cell; stands = x.stands; serial = x.serial; word_is = same; time = time };
              late = omega (arith, a, b, l);
              own = inl own;
            }),
            omega (arith, t, z, l),
            enters_it past older values going tells token.unit of x.stage x.cell v x.last x.stands x.leaves_is own_cell high (omega (arith, t, z, l)),
          )
