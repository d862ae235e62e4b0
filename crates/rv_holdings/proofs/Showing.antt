-- The first of the true holds is one hold, and a cell shows it exactly where it holds rightly, whatever the first of its own is.
use Rattle.std.proofs.Common.{◌≡◌, ℕ, suc, ◌+◌, ◌<◌, ◌≤◌, List, get_or, Option, Some, None, Bool, true, false, refl, sym, ap, ◌∙◌, subst, arith, ◌⊎◌, inl, inr}
use Rattle.std.specs.Prelude.{◌&&◌, ◌||◌, if◌then◌else◌, ◌==◌, nat_lt, is_some}
use Rattle.std.specs.Option.{option_or}
use Rattle.ix_plan.specs.declared.design.Target.{Target}
use Rattle.ix_plan.specs.declared.design.Target.TheVariants.{X}
use Rattle.ix_plan.specs.declared.design.Target.TheVariants as target
use Rattle.rv_asks.specs.declared.asks.Asks.{Asks}
use Rattle.rv_trace.specs.declared.row.Cell.{Cell}
use Rattle.rv_trace.specs.declared.row.Hold.{Hold}
use Rattle.rv_trace.specs.declared.row.Hold.TheVariants.{Operand, Board, Custom, Late, Trap, Drain, Wait, StoreAhead, Tail, UnitFull, Port, Behind}
use Rattle.rv_trace.specs.declared.row.Row.{Row}
use Rattle.rv_trace.specs.RowParts.{kind_of, register_of, serial_of, target_number, ComesFirst}
use Rattle.rv_lawful.specs.Settings.{Setting, Stands}
use Rattle.rv_lawful.specs.Outstanding.{has_target}
use Rattle.rv_rows.specs.Facts.{IsPlain}
use Rattle.rv_rows.specs.Kinds.{is_of_cell, IsStopped, OwnMarked, BehindMarked, TrueMarked, ShowsMarked}
use Rattle.rv_holdings.specs.Expected.{NamesRegisters, behind_hold, does_stop, blocks, is_blocked}
use Rattle.rv_holdings.proofs.Above.{get_of, of_get, is_below, below_is, both, and_both}
use Rattle.rv_holdings.proofs.Ordering.{operand_kind, board_kind, custom_kind, late_kind, trap_kind, drain_kind, wait_kind, store_kind, module_kind, unit_kind, port_kind, behind_kind, FirstIn}
use Rattle.rv_holdings.proofs.Tests.{same_number, number_same, differ}

or_true : (a b : Bool) → (a || b) ≡ true → (a ≡ true) ⊎ (b ≡ true)
or_true true b e = inl refl
or_true false b e = inr e

true_or : (a b : Bool) → (a ≡ true) ⊎ (b ≡ true) → (a || b) ≡ true
true_or true b e = refl
true_or false b (inl x) = cc
true_or false b (inr y) = y

-- it is the first of the true holds, or there is none
abbrev pub IsFirst : (Hold → Type 0) → Option Hold → Type 0
IsFirst P None = (h : Hold) → P h → ⊥
IsFirst P (Some h) = P h × ((g : Hold) → P g → ComesFirst h g)

-- a kind of hold below Behind
pub kind_low : (k : Setting) (earlier : List Row) (row : Row) (stage : ℕ) (c : Cell) (h : Hold) → OwnMarked k earlier row stage c h → kind_of h < 11
kind_low k earlier row stage c (Operand r j) o = omega arith
kind_low k earlier row stage c (Board t j) o = omega arith
kind_low k earlier row stage c (Custom r j) o = omega arith
kind_low k earlier row stage c (Late j) o = omega arith
kind_low k earlier row stage c Trap o = omega arith
kind_low k earlier row stage c (Drain j) o = omega arith
kind_low k earlier row stage c (Wait left) o = omega arith
kind_low k earlier row stage c (StoreAhead j) o = omega arith
kind_low k earlier row stage c (Tail left) o = omega arith
kind_low k earlier row stage c (UnitFull u) o = omega arith
kind_low k earlier row stage c (Port j) o = omega arith
kind_low k earlier row stage c Behind o = absurd o

same_option : (m n : ℕ) (o : Option ℕ) → o ≡ Some m → o ≡ Some n → m ≡ n
same_option m n o e f = inside (sym e ∙ f) where
  inside : ◌≡◌ {A = Option ℕ} (Some m) (Some n) → m ≡ n
  inside q = cc

-- it names the lower register, or that with the lower serial, or the same
abbrev Below : Hold → Hold → Type 0
Below x y = (register_of x < register_of y) ⊎ ((register_of x ≡ register_of y) × (serial_of x ≤ serial_of y))

-- where each comes before the other they are of one kind, and name the same
two_first : (h g : Hold) → ComesFirst h g → ComesFirst g h → (kind_of h ≡ kind_of g) × (register_of h ≡ register_of g) × (serial_of h ≡ serial_of g)
two_first h g (inl a) (inl b) = absurd (omega (arith, a, b))
two_first h g (inl a) (inr b) = let e = b.0 in absurd (omega (arith, a, e))
two_first h g (inr a) (inl b) = let e = a.0 in absurd (omega (arith, b, e))
two_first h g (inr a) (inr b) = by_register a.1 b.1 where
  by_register : Below h g → Below g h → (kind_of h ≡ kind_of g) × (register_of h ≡ register_of g) × (serial_of h ≡ serial_of g)
  by_register (inl p) (inl q) = absurd (omega (arith, p, q))
  by_register (inl p) (inr q) = let e = q.0 in absurd (omega (arith, p, e))
  by_register (inr p) (inl q) = let e = p.0 in absurd (omega (arith, q, e))
  by_register (inr p) (inr q) = let l = p.1 in let m = q.1 in (a.0, p.0, omega (arith, l, m))

-- registers by their numbers
same_target : (t u : Target) → ((r : ℕ) → t ≡ X r → r < 32) → ((r : ℕ) → u ≡ X r → r < 32) → target_number t ≡ target_number u → t ≡ u
same_target (X r) (X s) f g e = ap (λ n. X n) e
same_target (X r) (target.Custom d) f g e = let lt = f r refl in absurd (omega (arith, lt, e))
same_target (target.Custom d) (X s) f g e = let lt = g s refl in absurd (omega (arith, lt, e))
same_target (target.Custom d) (target.Custom m) f g e = ap (λ n. target.Custom n) (omega (arith, e))

module _ (k : Setting) (earlier : List Row) (row : Row) (plain : IsPlain k) (names : NamesRegisters k) (stage : ℕ) (c : Cell) (stands : Stands k row stage c) where
  abbrev a : Asks
  a = k.asks c.word

  abbrev Own : Hold → Type 0
  Own h = OwnMarked k earlier row stage c h

  abbrev IsTrue : Hold → Type 0
  IsTrue h = TrueMarked k earlier row stage c h

  few_here : (at : ℕ) (d : Cell) → Stands k row at d → at < 5
  few_here at d s = let lt = (get_of k.shape.stages at row.cells d s).0 in let most = plain.most in omega (arith, lt, most)

  -- Behind

  stopped_is : (n : ℕ) → does_stop k.shape row n ≡ true → IsStopped k row n
  stopped_is n e = let p = both (n == k.shape.ex) (is_of_cell row.stop) e in (same_number n k.shape.ex p.0, p.1)

  pub is_stopped : (n : ℕ) → IsStopped k row n → does_stop k.shape row n ≡ true
  is_stopped n s = and_both (n == k.shape.ex) (is_of_cell row.stop) (number_same n k.shape.ex s.0) s.1

  up_one : suc stage ≡ stage + 1
  up_one = omega arith

  behind_is : (nat_lt stage 4 && is_blocked k.shape row stage) ≡ true → BehindMarked k row stage
  behind_is e = by_cell (get_or row.cells (stage + 1) None) refl p.1 where
    q : is_blocked k.shape row stage ≡ true
    q = (both (nat_lt stage 4) (is_blocked k.shape row stage) e).1

    p : (nat_lt (stage + 1) k.shape.stages ≡ true) × (blocks k.shape row (stage + 1) (get_or row.cells (stage + 1) None) ≡ true)
    p = both (nat_lt (stage + 1) k.shape.stages) (blocks k.shape row (stage + 1) (get_or row.cells (stage + 1) None)) q

    by_cell : (o : Option Cell) → get_or row.cells (stage + 1) None ≡ o → blocks k.shape row (stage + 1) o ≡ true → BehindMarked k row stage
    by_cell None g b = cc
    by_cell (Some d) g b =
        subst (λ n. (d : Cell) × Stands k row n d × ((is_some d.hold ≡ true) ⊎ IsStopped k row n)) (sym up_one)
        (d, of_get k.shape.stages (stage + 1) row.cells d (is_below (stage + 1) k.shape.stages p.0) g, elim (or_true (is_some d.hold) (does_stop k.shape row (stage + 1)) b) [ inl x ↦ inl x | inr x ↦ inr (stopped_is (stage + 1) x) ])

  is_behind : BehindMarked k row stage → (nat_lt stage 4 && is_blocked k.shape row stage) ≡ true
  is_behind m =
      let x = subst (λ n. (d : Cell) × Stands k row n d × ((is_some d.hold ≡ true) ⊎ IsStopped k row n)) up_one m in
      let lt = few_here (stage + 1) x.0 x.1 in
      let g = get_of k.shape.stages (stage + 1) row.cells x.0 x.1 in
      and_both (nat_lt stage 4) (is_blocked k.shape row stage) (below_is stage 4 (omega (arith, lt)))
      (and_both (nat_lt (stage + 1) k.shape.stages) (blocks k.shape row (stage + 1) (get_or row.cells (stage + 1) None)) (below_is (stage + 1) k.shape.stages g.0)
      (ap (λ o. blocks k.shape row (stage + 1) o) g.1 ∙ true_or (is_some x.0.hold) (does_stop k.shape row (stage + 1)) (elim x.2 [ inl y ↦ inl y | inr y ↦ inr (is_stopped (stage + 1) y) ])))

  with_behind : (o : Option Hold) (b : Bool) → FirstIn Own 0 11 o → (nat_lt stage 4 && is_blocked k.shape row stage) ≡ b → IsFirst IsTrue (option_or o (if b then Some Behind else None))
  with_behind (Some h) b f e =
      let low = f.1 in (
        inl f.2,
        λ g t. elim t [
          | inl own ↦ f.3 g (omega arith) (kind_low k earlier row stage c g own) own
          | inr x ↦ subst (λ y. ComesFirst h y) (sym x.0) (inl (omega (arith, low)))
        ],
      )
  with_behind None true f e = (
    inr (refl, behind_is e),
    λ g t. elim t [
      | inl own ↦ absurd (f g (omega arith) (kind_low k earlier row stage c g own) own)
      | inr x ↦ subst (λ y. ComesFirst Behind y) (sym x.0) (inr (refl, inr (refl, omega arith)))
    ],
  )
  with_behind None false f e = λ h t. elim t [
    | inl own ↦ f h (omega arith) (kind_low k earlier row stage c h own) own
    | inr x ↦ differ (nat_lt stage 4 && is_blocked k.shape row stage) (is_behind x.1) e
  ]

  -- the first one is one hold

  own_of : (h : Hold) → kind_of h < 11 → IsTrue h → Own h
  own_of h lt (inl o) = o
  own_of h lt (inr x) = let e = ap (λ y. kind_of y) x.0 in absurd (omega (arith, lt, e))

  target_low : (t : Target) (j r : ℕ) → IsTrue (Board t j) → t ≡ X r → r < 32
  target_low t j r w e =
      let v = own_of (Board t j) (omega arith) w in
      names.spawned v.spawns.0 r (sym (ap (λ u. has_target (k.asks v.spawns.0) u) e) ∙ v.spawns.2)

  pub one_hold : (h g : Hold) → IsTrue h → IsTrue g → kind_of h ≡ kind_of g → register_of h ≡ register_of g → serial_of h ≡ serial_of g → h ≡ g
  one_hold (Operand r j) g x y e f s = let z = operand_kind g (sym e) in
      let p = ap register_of z.2 in let q = ap serial_of z.2 in
      let pr : r ≡ z.0 = f ∙ p in let qs : j ≡ z.1 = s ∙ q in
      ap (λ n. Operand n j) pr ∙ ap (λ n. Operand z.0 n) qs ∙ sym z.2
  one_hold (Board t j) g x y e f s = let z = board_kind g (sym e) in
      let pr : target_number t ≡ target_number z.0 = f ∙ ap register_of z.2 in let qs : j ≡ z.1 = s ∙ ap serial_of z.2 in
      let same = same_target t z.0 (λ r q. target_low t j r x q) (λ r q. target_low z.0 z.1 r (subst (λ w. IsTrue w) z.2 y) q) pr in
      ap (λ n. Board n j) same ∙ ap (λ n. Board z.0 n) qs ∙ sym z.2
  one_hold (Custom r j) g x y e f s = let z = custom_kind g (sym e) in
      let pr : r ≡ z.0 = f ∙ ap register_of z.2 in let qs : j ≡ z.1 = s ∙ ap serial_of z.2 in
      ap (λ n. Custom n j) pr ∙ ap (λ n. Custom z.0 n) qs ∙ sym z.2
  one_hold (Late j) g x y e f s = let z = late_kind g (sym e) in let qs : j ≡ z.0 = s ∙ ap serial_of z.1 in ap (λ n. Late n) qs ∙ sym z.1
  one_hold Trap g x y e f s = sym (trap_kind g (sym e))
  one_hold (Drain j) g x y e f s = let z = drain_kind g (sym e) in let qs : j ≡ z.0 = s ∙ ap serial_of z.1 in ap (λ n. Drain n) qs ∙ sym z.1
  one_hold (Wait left) g x y e f s = let z = wait_kind g (sym e) in
      let v = own_of (Wait left) (omega arith) x in
      let w = own_of (Wait z.0) (omega arith) (subst (λ w. IsTrue w) z.1 y) in
      let p = v.still in let q = w.still in
      let same : left ≡ z.0 = omega (arith, p, q) in ap (λ n. Wait n) same ∙ sym z.1
  one_hold (StoreAhead j) g x y e f s = let z = store_kind g (sym e) in let qs : j ≡ z.0 = s ∙ ap serial_of z.1 in ap (λ n. StoreAhead n) qs ∙ sym z.1
  one_hold (Tail left) g x y e f s = let z = module_kind g (sym e) in
      let v = own_of (Tail left) (omega arith) x in
      let w = own_of (Tail z.0) (omega arith) (subst (λ w. IsTrue w) z.1 y) in
      let p = v.still in let q = w.still in
      let same : left ≡ z.0 = omega (arith, p, q) in ap (λ n. Tail n) same ∙ sym z.1
  one_hold (UnitFull u) g x y e f s = let z = unit_kind g (sym e) in
      let v = own_of (UnitFull u) (omega arith) x in
      let w = own_of (UnitFull z.0) (omega arith) (subst (λ w. IsTrue w) z.1 y) in
      ap (λ n. UnitFull n) (same_option u z.0 a.unit v.enters w.enters) ∙ sym z.1
  one_hold (Port j) g x y e f s = let z = port_kind g (sym e) in let qs : j ≡ z.0 = s ∙ ap serial_of z.1 in ap (λ n. Port n) qs ∙ sym z.1
  one_hold Behind g x y e f s = sym (behind_kind g (sym e))

  -- what is shown

  shows_of : (o hold : Option Hold) → c.hold ≡ hold → IsFirst IsTrue o → hold ≡ o → ShowsMarked k earlier row stage c
  shows_of None hold q f e = record {
    shown = λ h p. absurd (clash h c.hold p (q ∙ e));
    shown_first = λ h g p t. absurd (clash h c.hold p (q ∙ e));
    free = λ n. f;
  } where
    clash : (h : Hold) (x : Option Hold) → x ≡ Some h → x ≡ None → ⊥
    clash h x p n = cc
  shows_of (Some i) hold q f e = record {
    shown = λ h p. subst (λ w. IsTrue w) (same h c.hold p (q ∙ e)) f.0;
    shown_first = λ h g p t. subst (λ w. ComesFirst w g) (same h c.hold p (q ∙ e)) (f.1 g t);
    free = λ n h t. clash c.hold n (q ∙ e);
  } where
    same : (h : Hold) (x : Option Hold) → x ≡ Some h → x ≡ Some i → i ≡ h
    same h x p n = cc

    clash : (x : Option Hold) → x ≡ None → x ≡ Some i → ⊥
    clash x p n = cc

  of_shows : (o hold : Option Hold) → c.hold ≡ hold → IsFirst IsTrue o → ShowsMarked k earlier row stage c → hold ≡ o
  of_shows None None q f s = refl
  of_shows None (Some h) q f s = absurd (f h (s.shown h q))
  of_shows (Some i) None q f s = absurd (s.free q i f.0)
  of_shows (Some i) (Some h) q f s =
      let t = s.shown h q in
      let z = two_first h i (s.shown_first h i q f.0) (f.1 h t) in
      ap (λ w. Some w) (one_hold h i t f.0 z.0 z.1 z.2)

  -- with the first of its own

  pub shows_first : (o : Option Hold) → FirstIn Own 0 11 o → c.hold ≡ option_or o (behind_hold k.shape row stage) → ShowsMarked k earlier row stage c
  shows_first o f e = shows_of (option_or o (behind_hold k.shape row stage)) c.hold refl (with_behind o (nat_lt stage 4 && is_blocked k.shape row stage) f refl) e

  pub first_shown : (o : Option Hold) → FirstIn Own 0 11 o → ShowsMarked k earlier row stage c → c.hold ≡ option_or o (behind_hold k.shape row stage)
  first_shown o f s = of_shows (option_or o (behind_hold k.shape row stage)) c.hold refl (with_behind o (nat_lt stage 4 && is_blocked k.shape row stage) f refl) s
