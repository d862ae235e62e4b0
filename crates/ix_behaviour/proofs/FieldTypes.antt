-- The concatenation that a field is resolved to is typed.
use Rattle.std.proofs.Common.{◌≡◌, ◌∙◌, subst, refl, ℕ, zero, suc, ◌+◌, ◌-◌, ◌<◌, ◌≤◌, arith, false, Option, Some, None, List, [], ◌∷◌}
use Rattle.std.specs.Prelude.{nat_lt}
use Rattle.std.proofs.lemmas.Bool.{cond_both}
use Rattle.std.proofs.lemmas.Nat.{pow_pos}
use Rattle.ix_bits.specs.NearTypes.{type_near}
use Rattle.ix_tree.specs.declared.extension.Piece.{Piece}
use Rattle.ix_tree.specs.Lexing.{same_bytes}
use Rattle.ix_mean.specs.Core.{u1, Expression, x_const, type_of_expression}
use Rattle.ix_mean.specs.Typing.{Frame, IsTypedExpression}
use Rattle.ix_mean.specs.Resolving.{word_part, behind, with_zeros, field_from, pieces_of, insert, ordered, top_of, some_or, field_expression, AreOrdered, IsField}
use Rattle.ix_behaviour.specs.Behaviours.{loads_in}
use Rattle.ix_behaviour.proofs.Types.{near_width}

-- the pieces lie in the word
abbrev pub ArePlaced : List Piece → Type 0
ArePlaced [] = Unit {0}
ArePlaced (p ∷ ps) = (p.at + (p.hi - p.lo) < 32) × ArePlaced ps

pub record IsUnsigned (f : Frame) (e : Expression) (w : ℕ) : Type 0 where
  typed : IsTypedExpression f e
  loads : loads_in e ≡ 0
  unsigned : (type_of_expression e).signed ≡ false
  wide : (type_of_expression e).width ≡ w

-- an expression, if there is one, of an unsigned type of so many bits
abbrev Shows : Frame → Option Expression → ℕ → Type 0
Shows f None w = w ≡ 0
Shows f (Some e) w = IsUnsigned f e w

shows_as : (f : Frame) (d : Option Expression) (w v : ℕ) → w ≡ v → Shows f d w → Shows f d v
shows_as f d w v e h = subst (λ (k : ℕ). Shows f d k) e h

behind_shows : (f : Frame) (d : Option Expression) (e : Expression) (w v : ℕ) → Shows f d w → IsUnsigned f e v → w + v ≤ 128 → Shows f (behind d e) (w + v)
behind_shows f None e w v h g l = shows_as f (Some e) v (w + v) (omega (arith, h)) g
behind_shows f (Some d) e w v h g l =
    let a = type_of_expression d in
    let b = type_of_expression e in
    let wide : a.width + b.width ≡ w + v = omega (arith, h.wide, g.wide) in
    let near : (type_near false (a.width + b.width)).width ≡ a.width + b.width = near_width false (a.width + b.width) (omega (arith, a.some_width)) (omega arith) in
    record {
      typed = (h.typed, g.typed, record { exists = record { unmixed = refl; narrow = omega (arith, wide, l) }; signed = refl; width = near });
      loads = omega (arith, h.loads, g.loads);
      unsigned = refl;
      wide = near ∙ wide;
    }

zeros_show : (f : Frame) (d : Option Expression) (w k : ℕ) → Shows f d w → w + k ≤ 128 → Shows f (with_zeros d k) (w + k)
zeros_show f d w zero h l = shows_as f d w (w + 0) (omega arith) h
zeros_show f d w (suc k) h l =
    behind_shows f d (x_const (type_near false (suc k)) 0) w (suc k) h
    (record { typed = pow_pos (type_near false (suc k)).width; loads = refl; unsigned = refl; wide = near_width false (suc k) (omega arith) (omega arith) }) l

part_shows : (f : Frame) (p : Piece) → p.at + (p.hi - p.lo) < 32 → IsUnsigned f (word_part p) (p.hi - p.lo + 1)
part_shows f p l =
    let near : (type_near false (p.hi - p.lo + 1)).width ≡ p.hi - p.lo + 1 = near_width false (p.hi - p.lo + 1) (omega arith) (omega arith) in
    let wide : p.hi - p.lo + 1 ≡ p.at + (p.hi - p.lo) - p.at + 1 = omega arith in
    record {
      typed = (refl, record { order = omega arith; within = l; unsigned = refl; width = near ∙ wide });
      loads = refl;
      unsigned = refl;
      wide = near;
    }

field_shows : (f : Frame) (d : Option Expression) (w below : ℕ) (ps : List Piece) → ArePlaced ps → below ≤ 32 → AreOrdered below ps → Shows f d w → w + below ≤ 128
    → Shows f (field_from d below ps) (w + below)
field_shows f d w below [] g m o h l = zeros_show f d w below h l
field_shows f d w below (p ∷ ps) g m o h l =
    let less = o.0 in
    let order = o.1 in
    let gap = below - (p.hi + 1) in
    let k = p.hi - p.lo + 1 in
    let zeros = zeros_show f d w gap h (omega arith) in
    let one = behind_shows f (with_zeros d gap) (word_part p) (w + gap) k zeros (part_shows f p g.0) (omega arith) in
    let rest = field_shows f (behind (with_zeros d gap) (word_part p)) (w + gap + k) p.lo ps g.1 (omega arith) o.2 one (omega arith) in
    shows_as f (field_from (behind (with_zeros d gap) (word_part p)) p.lo ps) (w + gap + k + p.lo) (w + below) (omega arith) rest

-- ---- pieces of one field, in order
insert_placed : (p : Piece) (ps : List Piece) → p.at + (p.hi - p.lo) < 32 → ArePlaced ps → ArePlaced (insert p ps)
insert_placed p [] h g = (h, tt)
insert_placed p (q ∷ qs) h g =
    cond_both (nat_lt q.hi p.hi) (p ∷ q ∷ qs) (q ∷ insert p qs) ArePlaced (λ e. (h, g)) (λ e. (g.0, insert_placed p qs h g.1))

ordered_placed : (ps : List Piece) → ArePlaced ps → ArePlaced (ordered ps)
ordered_placed [] h = tt
ordered_placed (p ∷ ps) h = insert_placed p (ordered ps) h.0 (ordered_placed ps h.1)

picked_placed : (ps : List Piece) (n : List ℕ) → ArePlaced ps → ArePlaced (pieces_of ps n)
picked_placed [] n h = tt
picked_placed (p ∷ ps) n h =
    cond_both (same_bytes p.field n) (p ∷ pieces_of ps n) (pieces_of ps n) ArePlaced (λ e. (h.0, picked_placed ps n h.1)) (λ e. picked_placed ps n h.1)

-- what a field is resolved to
pub record IsTypedField (f : Frame) (ps : List Piece) (n : List ℕ) : Type 0 where
  pub typed : IsTypedExpression f (field_expression ps n)
  pub loads : loads_in (field_expression ps n) ≡ 0

from_shows : (f : Frame) (d : Option Expression) (w : ℕ) → Shows f d w → (IsTypedExpression f (some_or d (x_const u1 0))) × (loads_in (some_or d (x_const u1 0)) ≡ 0)
from_shows f None w h = (pow_pos 1, refl)
from_shows f (Some e) w h = (h.typed, h.loads)

pub field_typed : (f : Frame) (ps : List Piece) (n : List ℕ) → ArePlaced ps → IsField ps n → IsTypedField f ps n
field_typed f ps n g h =
    let qs = ordered (pieces_of ps n) in
    let most = h.most in
    let all = field_shows f None 0 (top_of qs) qs (ordered_placed (pieces_of ps n) (picked_placed ps n g)) most h.once refl (omega (arith, most)) in
    let both = from_shows f (field_from None (top_of qs) qs) (0 + top_of qs) all in
    record { typed = both.0; loads = both.1 }
