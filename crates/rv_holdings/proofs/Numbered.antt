-- Registers by their numbers, and the least of those that are waited for.
use Rattle.std.proofs.Common.{◌≡◌, ℕ, ◌+◌, ◌-◌, ◌<◌, ◌≤◌, List, Option, Some, None, Bool, true, false, refl, sym, ap, ◌∙◌, subst, arith, ◌⊎◌, inl, inr}
use Rattle.std.specs.Prelude.{if◌then◌else◌, nat_lt}
use Rattle.std.proofs.lemmas.Bool.Decides.{nat_tests}
use Rattle.ix_plan.specs.declared.design.Target.{Target}
use Rattle.ix_plan.specs.declared.design.Target.TheVariants.{X}
use Rattle.ix_plan.specs.declared.design.Target.TheVariants as target
use Rattle.rv_trace.specs.declared.row.Cell.{Cell}
use Rattle.rv_trace.specs.declared.row.Hold.{Hold}
use Rattle.rv_trace.specs.declared.row.Hold.TheVariants.{Board}
use Rattle.rv_trace.specs.declared.row.Row.{Row}
use Rattle.rv_trace.specs.RowParts.{ComesFirst, target_number}
use Rattle.rv_lawful.specs.Settings.{Setting}
use Rattle.rv_lawful.specs.Outstanding.{touches}
use Rattle.rv_lawful.specs.LawfulTrace.{WaitsForWrite}
use Rattle.rv_rows.specs.Kinds.{upper, OwnMarked}
use Rattle.rv_holdings.specs.Expected.{NamesRegisters, register_at}
use Rattle.rv_holdings.proofs.Least.{FirstIs}
use Rattle.rv_holdings.proofs.Ordering.{board_kind, FirstIn, one_kind}

-- Registers and their numbers

number_at : (n : ℕ) → target_number (register_at n) ≡ n
number_at n = by_case (nat_lt n 32) refl where
  by_case : (b : Bool) → nat_lt n 32 ≡ b → target_number (if b then X n else target.Custom (n - 32)) ≡ n
  by_case true e = refl
  by_case false e = above n e where
    above : (n : ℕ) → nat_lt n 32 ≡ false → 32 + (n - 32) ≡ n
    above n e = grind (arith, nat_tests)

pub x_at : (r : ℕ) → r < 32 → X r ≡ register_at r
x_at r lt = ap (λ (b : Bool). if b then X r else target.Custom (r - 32)) (low r lt) where
  low : (r : ℕ) → r < 32 → true ≡ nat_lt r 32
  low r lt = grind (arith, nat_tests)

pub custom_at : (c : ℕ) → target.Custom c ≡ register_at (32 + c)
custom_at c = ap (λ n. target.Custom n) same ∙ ap (λ (b : Bool). if b then X (32 + c) else target.Custom (32 + c - 32)) (high c) where
  same : c ≡ 32 + c - 32
  same = omega arith

  high : (c : ℕ) → false ≡ nat_lt (32 + c) 32
  high c = grind (arith, nat_tests)

module _ (k : Setting) (earlier : List Row) (row : Row) (names : NamesRegisters k) (stage : ℕ) (c : Cell) where
  abbrev Own : Hold → Type 0
  Own h = OwnMarked k earlier row stage c h

  abbrev Writes : Target → ℕ → Type 0
  Writes t j = WaitsForWrite k earlier (upper row) stage c t j

  abbrev pub Numbered : ℕ → ℕ → Type 0
  Numbered n j = Writes (register_at n) j

  abbrev pub made : ℕ → ℕ → Hold
  made n j = Board (register_at n) j

  -- each register has a number below 48
  numbered : (t : Target) (j : ℕ) → Writes t j → (n : ℕ) × (n < 48) × (t ≡ register_at n)
  numbered (X r) j w = let lt = names.spawned w.spawns.0 r w.spawns.2 in (r, omega (arith, lt), x_at r lt)
  numbered (target.Custom q) j w = let lt = names.customs c.word q w.touches in (32 + q, omega (arith, lt), custom_at q)

  pub board_of : (o : Option Hold) → FirstIs Numbered made 0 48 o → FirstIn Own 1 2 o
  board_of None u = λ h l m own.
      let x = board_kind h (one_kind 1 _ l m) in
      let w = subst (λ y. Own y) x.2 own in
      let n = numbered x.0 x.1 w in
      u n.0 x.1 (omega arith) (let lt = n.1 in omega (arith, lt)) (subst (λ t. Writes t x.1) n.2 w)
  board_of (Some h) u =
      subst (λ y. FirstIn Own 1 2 (Some y)) (sym u.2) (
        omega arith,
        omega arith,
        u.3,
        λ g l m own.
            let x = board_kind g (one_kind 1 _ l m) in
            let w = subst (λ y. Own y) x.2 own in
            let n = numbered x.0 x.1 w in
            subst (λ y. ComesFirst (Board (register_at u.0) u.1) y) (sym x.2)
            (inr (refl, named x.0 n.0 x.1 n.2 (u.5 n.0 x.1 (omega arith) (let lt = n.1 in omega (arith, lt)) (subst (λ t. Writes t x.1) n.2 w)))),
      ) where
        named : (t : Target) (n j : ℕ) → t ≡ register_at n → (u.0 < n) ⊎ ((u.0 ≡ n) × (u.1 ≤ j))
            → (target_number (register_at u.0) < target_number t) ⊎ ((target_number (register_at u.0) ≡ target_number t) × (u.1 ≤ j))
        named t n j same (inl lt) =
            let p = number_at u.0 in
            let q = ap target_number same ∙ number_at n in
            inl (omega (arith, p, q, lt))
        named t n j same (inr e) =
            let p = number_at u.0 in
            let q = ap target_number same ∙ number_at n in
            let r = e.0 in
            inr (omega (arith, p, q, r), e.1)
