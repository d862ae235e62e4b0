-- An instruction asks for registers that there are: the sixteen custom ones, and as a `spawn` target one of the 32 of the base.
use Rattle.std.proofs.Common.{◌≡◌, ℕ, zero, suc, ◌<◌, ◌≤◌, List, [], ◌∷◌, length, get_or, map, Option, Some, None, Bool, true, false, refl, ap, subst, arith, inl, inr}
use Rattle.std.specs.Prelude.{◌||◌, ◌==◌, slice_index_or}
use Rattle.std.specs.List.{list_any}
use Rattle.std.proofs.lemmas.Bool.{cases_lt}
use Rattle.std.proofs.lemmas.Bool.Decides.{nat_tests}
use Rattle.ix_plan.specs.declared.design.Design.{Design}
use Rattle.ix_plan.specs.declared.design.Plan.{Plan}
use Rattle.rv_core.specs.declared.Shape.{Shape}
use Rattle.rv_isa.specs.Fields.{rd_of}
use Rattle.rv_seq.specs.declared.decoded.Decoded.{Decoded}
use Rattle.rv_seq.specs.declared.decoded.Decoded.TheVariants as D
use Rattle.rv_seq.specs.Decoding.{decoded_in}
use Rattle.ix_extension.specs.Extensions.{view_extension}
use Rattle.rv_asks.specs.declared.asks.Act.{Act}
use Rattle.rv_asks.specs.declared.asks.Outline.{Outline}
use Rattle.rv_asks.specs.Acts.{acts_of, touches}
use Rattle.rv_asks.specs.Asks.{flags, some_so, tail_of, outline_of, plan_outline, block_acts, blank_in, outlines_in, asks_in}
use Rattle.rv_lawful.specs.Outstanding.{is_register}
use Rattle.rv_lawful.specs.Sight.{asked}

flags_length : (f : ℕ → Bool) (n : ℕ) → length (flags f n) ≡ n
flags_length f zero = refl
flags_length f (suc n) = ap suc (flags_length (λ r. f (suc r)) n)

past_end : (xs : List Bool) (r : ℕ) → length xs ≤ r → get_or xs r false ≡ false
past_end [] r le = refl
past_end (x ∷ xs) zero le = absurd (omega (arith, le))
past_end (x ∷ xs) (suc r) le = past_end xs r (omega (arith, le))

outline_length : (ex ends : ℕ) (blocks own : List Act) → length (outline_of ex ends blocks own).customs ≡ 16
outline_length ex ends blocks own = flags_length (λ r. list_any (touches r) own || list_any (touches r) blocks) 16

plan_customs : (shape : Shape) (blocks : List Act) (p : Plan) → length (plan_outline shape blocks p).customs ≡ 16
unfolding plan_outline
plan_customs shape blocks p = outline_length shape.ex (tail_of p.mode shape.stages p.last) blocks (acts_of p)

outline_customs : (shape : Shape) (blocks : List Act) (plans : List Plan) (n : ℕ) (blank : Outline) → length blank.customs ≡ 16 → length (slice_index_or (map (plan_outline shape blocks) plans) n blank).customs ≡ 16
outline_customs shape blocks [] n blank e = e
outline_customs shape blocks (p ∷ plans) zero blank e = plan_customs shape blocks p
outline_customs shape blocks (p ∷ plans) (suc n) blank e = outline_customs shape blocks plans n blank e

blank_customs : (d : Design) → length (blank_in d).customs ≡ 16
blank_customs d = outline_length d.sheet.shape.ex 0 (block_acts d) []

asks_customs : (d : Design) (word : ℕ) (what : Option Decoded) → length (asks_in d word what).customs ≡ 16
unfolding asks_in
asks_customs d word None = blank_customs d
asks_customs d word (Some (D.Base b)) = blank_customs d
asks_customs d word (Some (D.Own n)) = outline_customs d.sheet.shape (block_acts d) d.plans n (blank_in d) (blank_customs d)

-- a custom register that is asked for is one of the sixteen
pub customs_few : (d : Design) (word r : ℕ) → get_or (asked d word).customs r false ≡ true → r < 16
customs_few d word r h = elim (cases_lt r 16) [
  | inl less ↦ less
  | inr more ↦ let e = asks_customs d word (decoded_in (view_extension d.extension) word) in cc (past_end (asked d word).customs r (omega (arith, e, more)), h)
]

same_number : (a b : ℕ) → (a == b) ≡ true → a ≡ b
same_number a b e = grind (arith, nat_tests)

rd_few : (word : ℕ) → rd_of word < 32
rd_few word = omega arith

some_few : (b : Bool) (word r : ℕ) → is_register (some_so b (rd_of word)) r ≡ true → r < 32
some_few true word r e = let same = same_number (rd_of word) r e in subst (λ n. n < 32) same (rd_few word)
some_few false word r e = cc

spawned_in : (d : Design) (word r : ℕ) (o : Option Decoded) → is_register (asks_in d word o).spawned r ≡ true → r < 32
unfolding asks_in
spawned_in d word r None e = some_few (blank_in d).spawned word r e
spawned_in d word r (Some (D.Base b)) e = cc
spawned_in d word r (Some (D.Own n)) e = some_few (slice_index_or (outlines_in d) n (blank_in d)).spawned word r e

-- an x register that an instruction spawns is one of the 32
pub spawned_few : (d : Design) (word r : ℕ) → is_register (asked d word).spawned r ≡ true → r < 32
spawned_few d word r e = spawned_in d word r (decoded_in (view_extension d.extension) word) e
