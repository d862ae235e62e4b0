-- What is asked of an instruction: it uses custom registers below 16 alone, and each that it writes late.
use Rattle.std.proofs.Common.{◌≡◌, ℕ, zero, suc, ◌<◌, List, [], ◌∷◌, map, length, get_or, Option, Some, None, Bool, true, false, refl, ap, ◌∙◌, arith, inl, inr}
use Rattle.std.specs.Prelude.{◌||◌, ◌&&◌, slice_index_or}
use Rattle.std.specs.List.{list_any}
use Rattle.std.proofs.lemmas.List.{get_or_past}
use Rattle.std.proofs.lemmas.Bool.{cases_lt}
use Rattle.ix_extension.specs.Extensions.{view_extension}
use Rattle.ix_graph.specs.declared.kind.Kind.{Kind}
use Rattle.ix_graph.specs.declared.kind.Kind.TheVariants.{WrCustReg}
use Rattle.ix_plan.specs.declared.design.Plan.{Plan}
use Rattle.ix_plan.specs.declared.design.Design.{Design}
use Rattle.rv_core.specs.declared.Shape.{Shape}
use Rattle.rv_seq.specs.declared.decoded.Decoded.{Decoded}
use Rattle.rv_seq.specs.declared.decoded.Decoded.TheVariants as D
use Rattle.rv_seq.specs.Decoding.{decoded_in}
use Rattle.rv_asks.specs.declared.asks.Act.{Act}
use Rattle.rv_asks.specs.declared.asks.Outline.{Outline}
use Rattle.rv_asks.specs.Acts as acts
use Rattle.rv_asks.specs.Asks.{flags, outline_of, tail_of, plan_outline, block_acts, blank_in, asks_in}
use Rattle.rv_lawful.specs.Sight.{asked}

flags_length : (f : ℕ → Bool) (n : ℕ) → length (flags f n) ≡ n
flags_length f zero = refl
flags_length f (suc n) = ap suc (flags_length (λ r. f (suc r)) n)

flags_at : (f : ℕ → Bool) (n r : ℕ) → r < n → get_or (flags f n) r false ≡ f r
flags_at f zero r lt = absurd (omega (arith, lt))
flags_at f (suc n) zero lt = refl
flags_at f (suc n) (suc r) lt = flags_at (λ k. f (suc k)) n r (omega (arith, lt))

-- the registers of these two lists: the second has sixteen, and all of the first
record Within (late customs : List Bool) : Type 0 where
  few : length customs ≡ 16
  used : (r : ℕ) → get_or late r false ≡ true → get_or customs r false ≡ true

-- an element of a list of flags that is true
true_at : (f : ℕ → Bool) (n r : ℕ) → get_or (flags f n) r false ≡ true → (r < n) × (f r ≡ true)
true_at f zero r h = cc
true_at f (suc n) zero h = (omega arith, h)
true_at f (suc n) (suc r) h = let x = true_at (λ k. f (suc k)) n r h in let lt = x.0 in (omega (arith, lt), x.1)

any_more : (f g : Act → Bool) (xs : List Act) → ((a : Act) → f a ≡ true → g a ≡ true) → list_any f xs ≡ true → list_any g xs ≡ true
any_more f g [] each h = cc
any_more f g (a ∷ xs) each h = by_case (f a) (list_any f xs) (g a) (list_any g xs) (each a) (any_more f g xs each) h where
  by_case : (p q s t : Bool) → (p ≡ true → s ≡ true) → (q ≡ true → t ≡ true) → (p || q) ≡ true → (s || t) ≡ true
  by_case true q s t e i h = ap (λ b. b || t) (e refl)
  by_case false true true t e i h = refl
  by_case false true false t e i h = i refl
  by_case false false s t e i h = cc

or_left : (p q : Bool) → p ≡ true → (p || q) ≡ true
or_left p q h = ap (λ b. b || q) h

-- a write is a use
write_used : (r : ℕ) (kind : Kind) → acts.is_custom_write r kind ≡ true → acts.is_custom r kind ≡ true
write_used r (WrCustReg n) h = h
write_used r kind h = cc

late_used : (ex r : ℕ) (a : Act) → acts.writes_late ex r a ≡ true → acts.touches r a ≡ true
late_used ex r a h = write_used r a.kind (second_of (acts.is_late ex a) (acts.is_custom_write r a.kind) h) where
  second_of : (p q : Bool) → (p && q) ≡ true → q ≡ true
  second_of true q h = h
  second_of false q h = cc

outline_within : (ex tail : ℕ) (blocks own : List Act) → Within (outline_of ex tail blocks own).late_customs (outline_of ex tail blocks own).customs
outline_within ex tail blocks own =
    let late : ℕ → Bool = λ r. list_any (acts.writes_late ex r) own in
    let uses : ℕ → Bool = λ r. list_any (acts.touches r) own || list_any (acts.touches r) blocks in
    record {
      few = flags_length uses 16;
      used = λ r h.
          let x = true_at late 16 r h in
          flags_at uses 16 r x.0
          ∙ or_left (list_any (acts.touches r) own) (list_any (acts.touches r) blocks) (any_more (acts.writes_late ex r) (acts.touches r) own (late_used ex r) x.1);
    }

plan_within : (shape : Shape) (blocks : List Act) (p : Plan) → Within (plan_outline shape blocks p).late_customs (plan_outline shape blocks p).customs
unfolding plan_outline
plan_within shape blocks p = outline_within shape.ex (tail_of p.mode shape.stages p.last) blocks (acts.acts_of p)

at_plan : (f : Plan → Outline) (plans : List Plan) (n : ℕ) (d : Outline) → ((p : Plan) → Within (f p).late_customs (f p).customs) → Within d.late_customs d.customs
    → Within (slice_index_or (map f plans) n d).late_customs (slice_index_or (map f plans) n d).customs
at_plan f [] n d each h = h
at_plan f (p ∷ plans) zero d each h = each p
at_plan f (p ∷ plans) (suc n) d each h = at_plan f plans n d each h

no_flag : (r : ℕ) → get_or (flags (λ k. false) 16) r false ≡ true → false ≡ true
no_flag r h = (true_at (λ k. false) 16 r h).1

asked_within : (d : Design) (word : ℕ) (o : Option Decoded) → Within (asks_in d word o).late_customs (asks_in d word o).customs
unfolding asks_in
asked_within d word None = let h = outline_within d.sheet.shape.ex 0 (block_acts d) [] in record { few = h.few; used = h.used }
asked_within d word (Some (D.Base b)) =
    let h = outline_within d.sheet.shape.ex 0 (block_acts d) [] in
    record { few = h.few; used = λ r e. absurd (cc (no_flag r e)) }
asked_within d word (Some (D.Own n)) =
    let h = at_plan (plan_outline d.sheet.shape (block_acts d)) d.plans n (blank_in d) (plan_within d.sheet.shape (block_acts d)) (outline_within d.sheet.shape.ex 0 (block_acts d) []) in
    record { few = h.few; used = h.used }

-- an instruction uses the custom registers that it writes late
pub used_late : (d : Design) (word r : ℕ) → get_or (asked d word).late_customs r false ≡ true → get_or (asked d word).customs r false ≡ true
used_late d word r h = (asked_within d word (decoded_in (view_extension d.extension) word)).used r h

-- and only such below 16
pub used_few : (d : Design) (word r : ℕ) → get_or (asked d word).customs r false ≡ true → r < 16
used_few d word r h =
    let xs = (asked d word).customs in
    let few = (asked_within d word (decoded_in (view_extension d.extension) word)).few in
    elim (cases_lt r 16) [
      | inl lt ↦ lt
      | inr le ↦ absurd (cc (get_or_past xs r false (omega (arith, few, le)), h))
    ]
