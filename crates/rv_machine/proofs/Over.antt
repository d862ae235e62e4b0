-- Holds before older tokens that are alike.
use Rattle.std.proofs.Common.{◌≡◌, ℕ, zero, suc, get_or, Option, Some, None, Bool, false, refl, ap, ◌∙◌}
use Rattle.std.specs.Prelude.{if◌then◌else◌, ◌==◌, min, max}
use Rattle.rv_core.specs.declared.Shape.{Shape}
use Rattle.rv_trace.specs.declared.row.Hold.{Hold}
use Rattle.rv_asks.specs.declared.asks.Asks.{Asks}
use Rattle.rv_holds.specs.declared.token.Token.{Token}
use Rattle.rv_holds.specs.Tokens.{Slots, or_else}
use Rattle.rv_holds.specs.Holds.{operand, waits_for, operand_hold, custom, waits_for_custom, first_from, custom_hold, late, late_hold, waiting_hold, numbered, least_from, lower_of, board, board_hold, register_at, register_count, spawner, reading_hold}
use Rattle.rv_lawful.specs.Outstanding.{has_target, touches}
use Rattle.rv_machine.proofs.Alike.{Alike, alike_oldest, alike_withholder}

first_over : (f g : ℕ → Option Hold) (r n : ℕ) → ((i : ℕ) → f i ≡ g i) → first_from f r n ≡ first_from g r n
first_over f g r zero h = refl
first_over f g r (suc n) h = ap (λ o. or_else o (first_from f (suc r) n)) (h r) ∙ ap (λ o. or_else (g r) o) (first_over f g (suc r) n h)

waits_over : (k : Shape) (r stage : ℕ) (a b : Slots) → Alike a b → waits_for k r stage b ≡ waits_for k r stage a
waits_over k r stage a b h = ap (λ o. if r == 0 then None else operand r o) (alike_withholder k r stage a b h)

pub operand_over : (k : Shape) (stage : ℕ) (x : Asks) (a b : Slots) → Alike a b → operand_hold k stage b x ≡ operand_hold k stage a x
operand_over k stage x a b h =
    ap (λ o. or_else o (waits_for k (max x.first x.second) stage b)) (waits_over k (min x.first x.second) stage a b h)
    ∙ ap (λ o. or_else (waits_for k (min x.first x.second) stage a) o) (waits_over k (max x.first x.second) stage a b h)

custom_over : (x : Asks) (a b : Slots) → Alike a b → custom_hold b x ≡ custom_hold a x
custom_over x a b h =
    first_over (waits_for_custom b x) (waits_for_custom a x) 0 16
    (λ r. ap (λ o. if get_or x.customs r false then custom r o else None) (alike_oldest (λ y. get_or y.late_customs r false) a b h))

late_over : (a b : Slots) → Alike a b → late_hold b ≡ late_hold a
late_over a b h = ap late (alike_oldest (λ x. x.late) a b h)

least_over : (f g : ℕ → Option ℕ) (n count : ℕ) → ((m : ℕ) → f m ≡ g m) → least_from f n count ≡ least_from g n count
least_over f g n zero h = refl
least_over f g n (suc count) h = ap (λ o. or_else (numbered n o) (least_from f (suc n) count)) (h n) ∙ ap (λ o. or_else (numbered n (g n)) o) (least_over f g (suc n) count h)

pub spawner_over : (x : Asks) (a b : Slots) → Alike a b → least_from (spawner b x) 0 register_count ≡ least_from (spawner a x) 0 register_count
spawner_over x a b h =
    least_over (spawner b x) (spawner a x) 0 register_count
    (λ n. ap (λ (o : Option ℕ). if touches x (register_at n) then o else None) (alike_oldest (λ y. has_target y (register_at n)) a b h))

board_over : (t : Token) (a b : Slots) → Alike a b → board_hold t b ≡ board_hold t a
board_over t a b h = ap (λ o. board (lower_of t.beside.board o)) (spawner_over t.asks a b h)

reading_over : (k : Shape) (stage : ℕ) (t : Token) (a b : Slots) → Alike a b → reading_hold k stage t b ≡ reading_hold k stage t a
reading_over k stage t a b h = ap (λ o. or_else o (board_hold t b)) (operand_over k (suc stage) t.asks a b h) ∙ ap (λ o. or_else (operand_hold k (suc stage) a t.asks) o) (board_over t a b h)

pub waiting_over : (k : Shape) (stage : ℕ) (t : Token) (a b : Slots) → Alike a b → waiting_hold k stage t b ≡ waiting_hold k stage t a
waiting_over k stage t a b h =
    ap (λ o. or_else (if stage == k.rd then o else None) (if stage == k.ex then or_else (custom_hold b t.asks) (late_hold b) else None)) (reading_over k stage t a b h)
    ∙ ap (λ o. or_else (if stage == k.rd then reading_hold k stage t a else None) (if stage == k.ex then or_else o (late_hold b) else None)) (custom_over t.asks a b h)
    ∙ ap (λ o. or_else (if stage == k.rd then reading_hold k stage t a else None) (if stage == k.ex then or_else (custom_hold a t.asks) o else None)) (late_over a b h)
