-- Tokens that touch no register which is owed or which an older one spawns.
use Rattle.std.proofs.Common.{◌≡◌, ◌∙◌, refl, sym, ap, ℕ, zero, suc, ◌<◌, ◌≤◌, List, [], ◌∷◌, length, Option, Some, None, Bool, true, false, arith}
use Rattle.std.specs.Prelude.{if◌then◌else◌, ◌==◌}
use Rattle.std.proofs.lemmas.Bool.Decides.{nat_tests}
use Rattle.rv_asks.specs.declared.asks.Asks.{Asks}
use Rattle.rv_holds.specs.declared.token.Token.{Token}
use Rattle.rv_holds.specs.Tokens.{Slots, or_else}
use Rattle.rv_holds.specs.Holds.{oldest, register_at, register_count, spawns_at, spawner, board_hold, reading_hold, own_hold}
use Rattle.rv_holds.specs.Flushing.{cleared}
use Rattle.rv_engine.specs.declared.owing.Owed.{Owed}
use Rattle.rv_engine.specs.Owing.{holder, holder_for, board_of}
use Rattle.rv_engine.specs.Settings.{Setting, shape_of}
use Rattle.rv_engine.specs.Rows.{fill_first}
use Rattle.rv_lawful.specs.Outstanding.{has_target, touches}
use Rattle.rv_machine.specs.Owing.{IsApart, Apart}
use Rattle.rv_machine.proofs.Deciding.{or_else_none, or_else_none_b, no_waiting}
use Rattle.rv_machine.proofs.Alike.{Alike, alike_oldest}
use Rattle.rv_machine.proofs.Unboarded.{board_parts, least_none}

-- where none of these owes a register, the first does not, and none of the rest
pub holder_parts : (n : ℕ) (o : Owed) (older : List Owed) → holder n (o ∷ older) ≡ None → (has_target o.asks (register_at n) ≡ false) × (holder n older ≡ None)
holder_parts n o older h = by_case (holder n older) refl (has_target o.asks (register_at n)) refl h where
  by_case : (p : Option ℕ) → holder n older ≡ p → (b : Bool) → has_target o.asks (register_at n) ≡ b → or_else p (if b then Some o.serial else None) ≡ None → (has_target o.asks (register_at n) ≡ false) × (holder n older ≡ None)
  by_case (Some j) p b q e = cc
  by_case None p true q e = cc
  by_case None p false q e = (q, p)

pub holder_join : (n : ℕ) (o : Owed) (older : List Owed) → has_target o.asks (register_at n) ≡ false → holder n older ≡ None → holder n (o ∷ older) ≡ None
holder_join n o older e h = ap (λ p. or_else p (if has_target o.asks (register_at n) then Some o.serial else None)) h ∙ ap (λ (b : Bool). if b then Some o.serial else None) e

-- ---- tokens that are apart from what is owed

pub alike_apart : (k : Setting) (owed : List Owed) (stage : ℕ) (a b : Slots) → Alike a b → Apart k owed stage a → Apart k owed stage b
alike_apart k owed stage [] [] l h = tt
alike_apart k owed stage [] (u ∷ b) l h = absurd l
alike_apart k owed stage (s ∷ a) [] l h = absurd l
alike_apart k owed stage (None ∷ a) (None ∷ b) l h = alike_apart k owed (suc stage) a b l.1 h
alike_apart k owed stage (None ∷ a) (Some u ∷ b) l h = absurd l.0
alike_apart k owed stage (Some t ∷ a) (None ∷ b) l h = absurd l.0
alike_apart k owed stage (Some t ∷ a) (Some u ∷ b) l h = (
  λ lt. let x = h.0 lt in
      record {
        tokens = λ n few touched. alike_oldest (λ c. has_target c (register_at n)) a b l.1 ∙ x.tokens n few (ap (λ (c : Asks). touches c (register_at n)) (sym l.0.asks) ∙ touched);
        entries = λ n few touched. x.entries n few (ap (λ (c : Asks). touches c (register_at n)) (sym l.0.asks) ∙ touched);
      },
  alike_apart k owed (suc stage) a b l.1 h.1,
)

pub filled_apart : (k : Setting) (owed : List Owed) (new : Option Token) (slots : Slots) → 0 < (shape_of k).rd → Apart k owed 0 slots → Apart k owed 0 (fill_first new slots)
filled_apart k owed new [] pos h = tt
filled_apart k owed new (Some t ∷ older) pos h = h
filled_apart k owed None (None ∷ older) pos h = h
filled_apart k owed (Some t) (None ∷ older) pos h = (λ lt. absurd (omega (arith, lt, pos)), h)

pub cleared_apart : (k : Setting) (owed : List Owed) (stage n : ℕ) (slots : Slots) → n ≤ length slots → Apart k owed stage slots → Apart k owed stage (cleared n slots)
cleared_apart k owed stage zero slots le h = h
cleared_apart k owed stage (suc n) [] le h = absurd (omega (arith, le))
cleared_apart k owed stage (suc n) (None ∷ older) le h = cleared_apart k owed (suc stage) n older (omega (arith, le)) h
cleared_apart k owed stage (suc n) (Some t ∷ older) le h = cleared_apart k owed (suc stage) n older (omega (arith, le)) h.1

-- ---- a token that leaves RD waits for no register

pub where_touched : (b : Bool) (o : Option ℕ) → (if b then o else None) ≡ None → b ≡ true → o ≡ None
where_touched true o h e = h
where_touched false o h e = cc

pub reads_apart : (owed : List Owed) (older : Slots) (t : Token) → t.beside.board ≡ board_of owed t.asks → board_hold t older ≡ None → IsApart owed older t
unfolding register_count
reads_apart owed older t met h =
    let x = board_parts t older h in
    record {
      tokens = λ n few touched. where_touched (touches t.asks (register_at n)) (oldest (spawns_at n) older) (least_none (spawner older t.asks) 0 48 n x.1 (omega arith) (omega (arith, few))) touched;
      entries = λ n few touched. where_touched (touches t.asks (register_at n)) (holder n owed) (least_none (holder_for owed t.asks) 0 48 n (sym met ∙ x.0) (omega arith) (omega (arith, few))) touched;
    }

pub at_stage : {A : Type 0} (a b : ℕ) (x y : A) → a ≡ b → (if a == b then x else y) ≡ x
at_stage a b x y e = by_case (a == b) (same a b e) where
  same : (a b : ℕ) → a ≡ b → (a == b) ≡ true
  same a b e = grind (arith, nat_tests)

  by_case : (c : Bool) → c ≡ true → (if c then x else y) ≡ x
  by_case true q = refl
  by_case false q = cc

pub leaves_reading : (k : Setting) (owed : List Owed) (stage : ℕ) (t : Token) (older : Slots) → stage ≡ (shape_of k).rd → t.beside.board ≡ (if stage == (shape_of k).rd then board_of owed t.asks else None) → own_hold (shape_of k) stage t older ≡ None → IsApart owed older t
leaves_reading k owed stage t older at met none =
    let waits = or_else_none (if stage == (shape_of k).rd then reading_hold (shape_of k) stage t older else None) _ (no_waiting (shape_of k) stage t older none) in
    let reads : reading_hold (shape_of k) stage t older ≡ None = sym (at_stage stage (shape_of k).rd (reading_hold (shape_of k) stage t older) None at) ∙ waits in
    reads_apart owed older t (met ∙ at_stage stage (shape_of k).rd (board_of owed t.asks) None at) (or_else_none_b _ (board_hold t older) reads)
