-- What stands in a unit is retired.
use Rattle.std.proofs.Common.{◌≡◌, ◌∙◌, refl, ap, subst, ℕ, zero, suc, ◌+◌, List, [], ◌∷◌, take, length, Option, Some, None, Bool, true, false, arith}
use Rattle.std.specs.Prelude.{◌||◌, ◌==◌, nat_eq, if◌then◌else◌}
use Rattle.std.proofs.lemmas.Bool.Decides.{nat_tests}
use Rattle.ix_plan.specs.Units.{Slots, finished, with_unit, written_from, unit_written, frozen_with, serial_for, moved_on, next_from}
use Rattle.rv_seq.specs.declared.commit.Commit.{Commit}
use Rattle.rv_trace.specs.declared.row.Row.{Row}
use Rattle.rv_trace.specs.Trace.{retires, is_retired}
use Rattle.rv_lawful.specs.Settings.{Setting}
use Rattle.rv_lawful.specs.Outstanding.{in_unit, entering, units_after}
use Rattle.rv_lawful.specs.LawfulTrace.{serial_in}
use Rattle.rv_rows.specs.Laws.{IsEmptyUnit, AreEmptyUnits}

-- each serial of a unit has this property
abbrev pub AllIn : (ℕ → Type 0) → Slots → Type 0
AllIn P [] = Unit {0}
AllIn P (None ∷ rest) = AllIn P rest
AllIn P (Some s ∷ rest) = P s × AllIn P rest

abbrev pub AllOf : (ℕ → Type 0) → List Slots → Type 0
AllOf P [] = Unit {0}
AllOf P (unit ∷ units) = AllIn P unit × AllOf P units

-- of an option
abbrev pub AllOption : (ℕ → Type 0) → Option ℕ → Type 0
AllOption P None = Unit {0}
AllOption P (Some s) = P s

module _ (P : ℕ → Type 0) where
  empty_in : (unit : Slots) → IsEmptyUnit unit → AllIn P unit
  empty_in [] e = tt
  empty_in (None ∷ rest) e = empty_in rest e
  empty_in (Some s ∷ rest) e = absurd e

  pub empty_of : (units : List Slots) → AreEmptyUnits units → AllOf P units
  empty_of [] e = tt
  empty_of (unit ∷ units) e = (empty_in unit e.0, empty_of units e.1)

  all_cons : (s : Option ℕ) (unit : Slots) → AllOption P s → AllIn P unit → AllIn P (s ∷ unit)
  all_cons None unit a b = b
  all_cons (Some s) unit a b = (a, b)

  all_take : (n : ℕ) (unit : Slots) → AllIn P unit → AllIn P (take n unit)
  all_take zero unit a = tt
  all_take (suc n) [] a = tt
  all_take (suc n) (None ∷ rest) a = all_take n rest a
  all_take (suc n) (Some s ∷ rest) a = (a.0, all_take n rest a.1)

  all_for : (u : ℕ) (entry : Option (ℕ × ℕ)) → ((v s : ℕ) → entry ≡ Some (v, s) → P s) → AllOption P (serial_for u entry)
  all_for u None h = tt
  all_for u (Some (v, s)) h = either (nat_eq v u) where
    either : (b : Bool) → AllOption P (if b then Some s else None)
    either true = h v s refl
    either false = tt

  pub all_next : (u : ℕ) (written retired : Option (ℕ × ℕ)) (units : List Slots) → ((v s : ℕ) → retired ≡ Some (v, s) → P s) → AllOf P units → AllOf P (next_from u written retired units)
  all_next u written retired [] h a = tt
  all_next u written retired (unit ∷ units) h a = (either (frozen_with u unit written), all_next (u + 1) written retired units h a.1) where
    either : (b : Bool) → AllIn P (if b then unit else moved_on (serial_for u retired) unit)
    either true = a.0
    either false = all_take (length unit) (serial_for u retired ∷ unit) (all_cons (serial_for u retired) unit (all_for u retired h) a.0)

  finished_all : (unit : Slots) (s : ℕ) → AllIn P unit → finished unit ≡ Some s → P s
  finished_all [] s a e = cc
  finished_all (None ∷ []) s a e = cc
  finished_all (Some t ∷ []) s a e = let same : t ≡ s = cc in subst P same a.0
  finished_all (None ∷ t ∷ rest) s a e = finished_all (t ∷ rest) s a e
  finished_all (Some r ∷ t ∷ rest) s a e = finished_all (t ∷ rest) s a.1 e

  pub written_all : (u : ℕ) (units : List Slots) (s : ℕ) → AllOf P units → serial_in (written_from u units) ≡ Some s → P s
  written_all u [] s a e = cc
  written_all u (unit ∷ units) s a e = by_case (finished unit) refl e (λ q. written_all (u + 1) units s a.1 q) where
    by_case : (o : Option ℕ) → finished unit ≡ o → serial_in (with_unit u o (written_from (u + 1) units)) ≡ Some s → (serial_in (written_from (u + 1) units) ≡ Some s → P s) → P s
    by_case None q e rest = rest e
    by_case (Some t) q e rest = finished_all unit s a.0 (q ∙ e)

  pub all_more : (Q : ℕ → Type 0) → ((s : ℕ) → P s → Q s) → (units : List Slots) → AllOf P units → AllOf Q units
  all_more Q f [] a = tt
  all_more Q f (unit ∷ units) a = (one unit a.0, all_more Q f units a.1) where
    one : (l : Slots) → AllIn P l → AllIn Q l
    one [] b = tt
    one (None ∷ rest) b = one rest b
    one (Some s ∷ rest) b = (f s b.0, one rest b.1)

abbrev pub IsRetired : List Row → ℕ → Type 0
IsRetired rows s = is_retired rows s ≡ true

retired_later : (row : Row) (earlier : List Row) (s : ℕ) → IsRetired earlier s → IsRetired (row ∷ earlier) s
unfolding is_retired
retired_later row earlier s h = either (retires row.retired s) (is_retired earlier s) h where
  either : (a b : Bool) → b ≡ true → (a || b) ≡ true
  either true b e = refl
  either false b e = e

retired_now : (k : Setting) (row : Row) (earlier : List Row) (v s : ℕ) → entering k row.retired ≡ Some (v, s) → IsRetired (row ∷ earlier) s
unfolding is_retired
retired_now k row earlier v s e = by_case row.retired refl e where
  equal : (a : ℕ) → (a == a) ≡ true
  equal a = grind (arith, nat_tests)

  inside : (p q : ℕ × ℕ) → ◌≡◌ {A = Option (ℕ × ℕ)} (Some p) (Some q) → p ≡ q
  inside p q e = cc

  second : (t v s : ℕ) (u : Option ℕ) → in_unit t u ≡ Some (v, s) → t ≡ s
  second t v s None e = cc
  second t v s (Some u) e = ap (λ (p : ℕ × ℕ). p.1) (inside (u, t) (v, s) e)

  by_case : (o : Option (ℕ × Commit)) → row.retired ≡ o → entering k o ≡ Some (v, s) → (retires row.retired s || is_retired earlier s) ≡ true
  by_case None q e = cc
  by_case (Some p) q e =
      ap (λ o. retires o s || is_retired earlier s) q
      ∙ ap (λ b. b || is_retired earlier s) (subst (λ n. (p.0 == n) ≡ true) (second p.0 v s (k.asks p.1.word).unit e) (equal p.0))

-- what stands in the units after rows is retired in them
in_units : (k : Setting) (rows : List Row) → AreEmptyUnits k.units → AllOf (IsRetired rows) (units_after k rows)
unfolding units_after
in_units k [] e = empty_of (IsRetired []) k.units e
in_units k (row ∷ earlier) e =
    all_next (IsRetired (row ∷ earlier)) 0 (unit_written (units_after k earlier)) (entering k row.retired) (units_after k earlier) (λ v s q. retired_now k row earlier v s q)
    (all_more (IsRetired earlier) (IsRetired (row ∷ earlier)) (λ s h. retired_later row earlier s h) (units_after k earlier) (in_units k earlier e))

pub written_retired : (k : Setting) (rows : List Row) (s : ℕ) → AreEmptyUnits k.units → serial_in (unit_written (units_after k rows)) ≡ Some s → is_retired rows s ≡ true
written_retired k rows s e q = written_all (IsRetired rows) 0 (units_after k rows) s (in_units k rows e) q
