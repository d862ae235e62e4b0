-- What a token may read that does not wait for an outstanding register.
use Rattle.std.proofs.Common.{◌≡◌, ℕ, zero, suc, ◌+◌, ◌-◌, ◌<◌, ◌≤◌, List, Option, Some, None, Bool, true, false, refl, sym, ap, ◌∙◌, arith, ◌⊎◌, inl, inr, ◌^◌}
use Rattle.std.specs.Prelude.{◌&&◌, ◌||◌, not, if◌then◌else◌, ◌==◌, nat_lt, slice_index}
use Rattle.std.proofs.lemmas.Bool.{cases_lt}
use Rattle.std.proofs.lemmas.Bool.Decides.{nat_tests}
use Rattle.ix_plan.specs.declared.design.Target.TheVariants.{X}
use Rattle.ix_plan.specs.declared.design.Target.TheVariants as target
use Rattle.rv_asks.specs.declared.asks.Asks.{Asks}
use Rattle.rv_seq.specs.declared.arch.Arch.{Arch}
use Rattle.rv_trace.specs.declared.row.Row.{Row}
use Rattle.rv_unit.specs.declared.entry.Entry.{Entry}
use Rattle.rv_holds.specs.declared.token.Token.{Token}
use Rattle.rv_holds.specs.Tokens.{Slots}
use Rattle.rv_holds.specs.Holds.{oldest, register_count, register_at, spawns_at, spawner, numbered, least_from, lower_of, board, board_hold}
use Rattle.rv_engine.specs.declared.owing.Owed.{Owed}
use Rattle.rv_engine.specs.Owing.{holder, board_of}
use Rattle.rv_engine.specs.Settings.{Setting, shape_of}
use Rattle.rv_lawful.specs.Outstanding.{Decoupled, touches}
use Rattle.rv_machine.specs.Owing.{repaid, Owing}
use Rattle.rv_machine.proofs.Deciding.{or_else_none, or_else_none_b, test_eq}
use Rattle.rv_machine.proofs.Unowed.{unowed, unowed_zero}

numbered_none : (n : ℕ) (o : Option ℕ) → numbered n o ≡ None → o ≡ None
numbered_none n None h = refl
numbered_none n (Some j) h = cc

-- where there is none, each has none
pub least_none : (f : ℕ → Option ℕ) (r c n : ℕ) → least_from f r c ≡ None → r ≤ n → n < r + c → f n ≡ None
least_none f r zero n h le lt = absurd (omega (arith, le, lt))
least_none f r (suc c) n h le lt = elim (cases_lt r n) [
  | inl less ↦ least_none f (suc r) c n (or_else_none_b (numbered r (f r)) (least_from f (suc r) c) h) (omega (arith, less)) (omega (arith, lt))
  | inr more ↦
      let e : n ≡ r = omega (arith, le, more) in
      ap f e ∙ numbered_none r (f r) (or_else_none (numbered r (f r)) (least_from f (suc r) c) h)
]

-- an operand other than x0 is touched
abbrev pub IsOperand : Asks → ℕ → Type 0
IsOperand a reg = (reg ≡ a.first) ⊎ (reg ≡ a.second)

pub operand_touched : (a : Asks) (reg : ℕ) → reg < 32 → IsOperand a reg → (reg == 0) ≡ false → touches a (register_at reg) ≡ true
operand_touched a reg lt is nz =
    ap (λ (b : Bool). touches a (if b then X reg else target.Custom (reg - 32))) (low reg lt)
    ∙ some_of (reg == 0) (reg == a.first) (reg == a.second) (reg == a.destination) _ nz (elim is [ inl e ↦ inl (same reg a.first e) | inr e ↦ inr (same reg a.second e) ]) where
      low : (n : ℕ) → n < 32 → nat_lt n 32 ≡ true
      low n lt = grind (arith, nat_tests)

      same : (m n : ℕ) → m ≡ n → (m == n) ≡ true
      same m n e = grind (arith, nat_tests)

      some_of : (z f s d i : Bool) → z ≡ false → (f ≡ true) ⊎ (s ≡ true) → ((not z && (f || (s || d))) || i) ≡ true
      some_of true f s d i e h = cc
      some_of false true s d i e h = refl
      some_of false false true d i e h = refl
      some_of false false false d i e (inl h) = cc
      some_of false false false d i e (inr h) = cc

if_so : (b : Bool) (o : Option ℕ) → b ≡ true → (if b then o else None) ≡ None → o ≡ None
if_so true o e h = h
if_so false o e h = cc

-- of none that is waited for there is one at an operand
none_at : (g : ℕ → Option ℕ) (a : Asks) (reg : ℕ) → least_from (λ n. if touches a (register_at n) then g n else None) 0 register_count ≡ None → reg < 32 → IsOperand a reg → (reg == 0) ≡ false → g reg ≡ None
unfolding register_count
none_at g a reg h lt is nz =
    if_so (touches a (register_at reg)) (g reg) (operand_touched a reg lt is nz)
    (least_none (λ n. if touches a (register_at n) then g n else None) 0 48 reg h (omega arith) (omega (arith, lt)))

-- no older token spawns it
pub none_spawns : (older : Slots) (a : Asks) (reg : ℕ) → least_from (spawner older a) 0 register_count ≡ None → reg < 32 → IsOperand a reg → (reg == 0) ≡ false → oldest (spawns_at reg) older ≡ None
none_spawns older a reg h lt is nz = none_at (λ n. oldest (spawns_at n) older) a reg h lt is nz

-- and nothing that is outstanding owes it
none_holds : (owed : List Owed) (a : Asks) (reg : ℕ) → board_of owed a ≡ None → reg < 32 → IsOperand a reg → (reg == 0) ≡ false → holder reg owed ≡ None
none_holds owed a reg h lt is nz = none_at (λ n. holder n owed) a reg h lt is nz

-- so it is as it is with what is owed
pub operand_unowed : (k : Setting) (rows : List Row) → (shape_of k).trap < 2 ^ 32 → (outs : List Decoupled) (entries : List Entry) (owed : List Owed) (s : Arch) (a : Asks) (reg : ℕ) → Owing k rows outs entries owed → reg < 32 → board_of owed a ≡ None → IsOperand a reg → slice_index s.x reg ≡ slice_index (repaid owed s).x reg
operand_unowed k rows handler outs entries owed s a reg h lt none is = by_case (reg == 0) refl where
  by_case : (b : Bool) → (reg == 0) ≡ b → slice_index s.x reg ≡ slice_index (repaid owed s).x reg
  by_case true e =
      let z = test_eq reg 0 e in
      ap (λ n. slice_index s.x n) z ∙ sym (unowed_zero k rows handler outs entries owed s h) ∙ ap (λ n. slice_index (repaid owed s).x n) (sym z)
  by_case false e = sym (unowed k rows handler reg outs entries owed s lt h (none_holds owed a reg none lt is e))

-- a token that Board does not hold waits for none
pub board_parts : (t : Token) (older : Slots) → board_hold t older ≡ None → (t.beside.board ≡ None) × (least_from (spawner older t.asks) 0 register_count ≡ None)
board_parts t older h = parts t.beside.board (least_from (spawner older t.asks) 0 register_count) h where
  parts : (x y : Option (ℕ × ℕ)) → board (lower_of x y) ≡ None → (x ≡ None) × (y ≡ None)
  parts None None q = (refl, refl)
  parts None (Some y) q = cc
  parts (Some x) None q = cc
  parts (Some x) (Some y) q = by_case (nat_lt y.0 x.0) q where
    by_case : (b : Bool) → board (if b then Some y else Some x) ≡ None → (Some x ≡ None) × (Some y ≡ None)
    by_case true p = cc
    by_case false p = cc
