-- The text of the state behind rows, from what is kept of them.
use Rattle.std.proofs.Common.{◌≡◌, refl, ap, ℕ, zero, suc, ◌<◌, ◌≤◌, List, [], ◌∷◌, ◌++◌, length, map, drop, Option, Some, None, Bool, false, arith, length-append}
use Rattle.std.proofs.lemmas.List.{length-drop}
use Rattle.std.specs.Prelude.{slice_index_or, codes}
use Rattle.std.specs.List.{list_any, flat_map}
use Rattle.ix_extension.specs.Extensions.{view_extension}
use Rattle.ix_lines.specs.Lines.{text_of}
use Rattle.ix_plan.specs.declared.design.Design.{Design}
use Rattle.ix_plan.specs.declared.design.Plan.{Plan}
use Rattle.ix_tree.specs.declared.extension.Register.{Register}
use Rattle.rv_core.specs.declared.Shape.{Shape}
use Rattle.rv_seq.specs.declared.decoded.Decoded.{Decoded}
use Rattle.rv_seq.specs.declared.decoded.Decoded.TheVariants as D
use Rattle.rv_seq.specs.Decoding.{decoded_in}
use Rattle.rv_asks.specs.declared.asks.Act.{Act}
use Rattle.rv_asks.specs.declared.asks.Outline.{Outline}
use Rattle.rv_asks.specs.Acts.{acts_of, spawns_custom}
use Rattle.rv_asks.specs.Asks.{flags, tail_of, outline_of, plan_outline, block_acts, blank_in, asks_in}
use Rattle.rv_lawful.specs.Settings.{Setting}
use Rattle.rv_lawful.specs.Outstanding.{Decoupled, owed_targets}
use Rattle.rv_reader.specs.Traces.{IsState}
use Rattle.rv_rows.specs.Known.{owed_of}
use Rattle.rv_ending.specs.Owed.{owed_pairs, AreSixteen}
use Rattle.rv_watch.specs.Fit.{plain_setting}
use Rattle.rv_watch.specs.Printed.{width_of}

-- ---- what is outstanding
pub pairs_are : (k : Setting) (l : List Decoupled) → flat_map owed_pairs (map (owed_of k) l) ≡ flat_map (owed_targets k) l
pairs_are k [] = refl
pairs_are k (o ∷ l) = ap (λ r. owed_targets k o ++ r) (pairs_are k l)

flags_length : (f : ℕ → Bool) (n : ℕ) → length (flags f n) ≡ n
flags_length f zero = refl
flags_length f (suc n) = ap suc (flags_length (λ r. f (suc r)) n)

outline_length : (ex ends : ℕ) (blocks own : List Act) → length (outline_of ex ends blocks own).spawned_customs ≡ 16
outline_length ex ends blocks own = flags_length (λ r. list_any (spawns_custom r) own) 16

plan_customs : (shape : Shape) (blocks : List Act) (p : Plan) → length (plan_outline shape blocks p).spawned_customs ≡ 16
unfolding plan_outline
plan_customs shape blocks p = outline_length shape.ex (tail_of p.mode shape.stages p.last) blocks (acts_of p)

outline_customs : (shape : Shape) (blocks : List Act) (plans : List Plan) (n : ℕ) (blank : Outline) → length blank.spawned_customs ≡ 16 → length (slice_index_or (map (plan_outline shape blocks) plans) n blank).spawned_customs ≡ 16
outline_customs shape blocks [] n blank e = e
outline_customs shape blocks (p ∷ plans) zero blank e = plan_customs shape blocks p
outline_customs shape blocks (p ∷ plans) (suc n) blank e = outline_customs shape blocks plans n blank e

blank_customs : (d : Design) → length (blank_in d).spawned_customs ≡ 16
blank_customs d = outline_length d.sheet.shape.ex 0 (block_acts d) []

asks_customs : (d : Design) (word : ℕ) (what : Option Decoded) → length (asks_in d word what).spawned_customs ≡ 16
unfolding asks_in
asks_customs d word None = blank_customs d
asks_customs d word (Some (D.Base b)) = flags_length (λ r. false) 16
asks_customs d word (Some (D.Own n)) = outline_customs d.sheet.shape (block_acts d) d.plans n (blank_in d) (blank_customs d)

pub sixteen : (d : Design) (image waits : List ℕ) (l : List Decoupled) → AreSixteen (map (owed_of (plain_setting d image waits)) l)
sixteen d image waits [] = tt
sixteen d image waits (o ∷ l) =
    let e = asks_customs d o.1 (decoded_in (view_extension d.extension) o.1) in
    (omega (arith, e), sixteen d image waits l)

-- ---- where the state stands
-- a state has a byte, so it begins within its text
pub state_within : (widths text : List ℕ) (at : ℕ) → IsState widths (drop at text) → at ≤ length text
state_within widths text at s =
    let a = length-drop at text in
    let b : length (drop at text) ≡ length ((codes "state" ++ 10 ∷ []) ++ text_of (s.pc ∷ s.lines)) = ap (λ t. length t) s.is in
    let c = length-append (codes "state" ++ 10 ∷ []) (text_of (s.pc ∷ s.lines)) in
    let e : length (codes "state" ++ 10 ∷ []) ≡ 6 = refl in
    omega (arith, a, b, c, e)

-- ---- widths
pub narrow : (registers : List Register) (n d : ℕ) → n < length (map width_of registers) → slice_index_or (map width_of registers) n d ≤ 128
narrow [] n d lt = absurd (omega (arith, lt))
narrow (r ∷ registers) zero d lt = r.ty.most_width
narrow (r ∷ registers) (suc n) d lt = narrow registers n d (omega (arith, lt))
