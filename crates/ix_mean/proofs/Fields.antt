-- The concatenation that a field is resolved to has the field's number.
use Rattle.std.proofs.Common.{◌≡◌, ◌≢◌, ℕ, zero, suc, ◌+◌, ◌-◌, ◌*◌, ◌/◌, ◌^◌, ◌<◌, ◌≤◌, refl, sym, ap, subst, ◌∙◌, arith, Bool, true, false, cond, Option, Some, None, ℤ, pos, List, [], ◌∷◌}
use Rattle.std.specs.Prelude.{nat_lt}
use Rattle.std.proofs.lemmas.Bool.{cond_both}
use Rattle.std.proofs.lemmas.Nat.{pow_pos, pow-add, mod_below}
use Rattle.std.proofs.Math.Nat.{mod-eq_of_lt}
use Rattle.ix_bits.specs.NearTypes.{type_near}
use Rattle.ix_bits.specs.Operators.{pattern_of, bits_between}
use Rattle.ix_bits.proofs.Same.{ty_is}
use Rattle.ix_bits.proofs.Shifts.{joined_below}
use Rattle.ix_tree.specs.declared.extension.Piece.{Piece}
use Rattle.ix_tree.specs.Lexing.{same_bytes}
use Rattle.ix_mean.specs.Core.{u1, Expression, x_const, type_of_expression}
use Rattle.ix_mean.specs.Meaning.{Inputs, number}
use Rattle.ix_mean.specs.ByName.{piece_number, field_number}
use Rattle.ix_mean.specs.Resolving.{word_part, behind, with_zeros, field_from, pieces_of, insert, ordered, top_of, some_or, field_expression, AreOrdered, IsField}

-- ---- an expression, if there is one, with an unsigned number of so many bits
abbrev Shows : Inputs → List ℤ → Option Expression → ℕ → ℕ → Type 0
Shows i s None n w = (n ≡ 0) × (w ≡ 0)
Shows i s (Some e) n w = (number i s e ≡ pos n) × ((type_of_expression e).signed ≡ false) × ((type_of_expression e).width ≡ w) × (n < 2 ^ w)

abbrev ShowsOne : Inputs → List ℤ → Expression → ℕ → ℕ → Type 0
ShowsOne i s e n w = Shows i s (Some e) n w

shows_as : (i : Inputs) (s : List ℤ) (d : Option Expression) (n m w v : ℕ) → n ≡ m → w ≡ v → Shows i s d n w → Shows i s d m v
shows_as i s d n m w v e f h = subst (λ (k : ℕ). Shows i s d m k) f (subst (λ (k : ℕ). Shows i s d k w) e h)

near_width : (s : Bool) (w : ℕ) → 1 ≤ w → w ≤ 128 → (type_near s w).width ≡ w
near_width s w h g = omega arith

pattern_is : (w n : ℕ) → n < 2 ^ w → pattern_of w (pos n) ≡ n
pattern_is w n h = mod-eq_of_lt h

-- one behind another
joined : (a b w v n m : ℕ) → a ≡ w → b ≡ v → n < 2 ^ w → m < 2 ^ v → pattern_of a (pos n) * 2 ^ b + pattern_of b (pos m) ≡ n * 2 ^ v + m
joined a b w v n m e f h g = rw (e, f, pattern_is w n h, pattern_is v m g) refl

behind_shows : (i : Inputs) (s : List ℤ) (d : Option Expression) (e : Expression) (n m w v : ℕ) → Shows i s d n w → ShowsOne i s e m v → w + v ≤ 128
    → Shows i s (behind d e) (n * 2 ^ v + m) (w + v)
behind_shows i s None e n m w v h g l =
    let p : m ≡ n * 2 ^ v + m = rw h.0 (omega arith) in
    let q : v ≡ w + v = omega (arith, h.1) in
    shows_as i s (Some e) m (n * 2 ^ v + m) v (w + v) p q g
behind_shows i s (Some d) e n m w v h g l =
    let a = type_of_expression d in
    let b = type_of_expression e in
    let wide : a.width + b.width ≡ w + v = omega (arith, h.2, g.2) in (
      rw (h.0, g.0) (ap pos (joined a.width b.width w v n m h.2 g.2 h.3 g.3)),
      refl,
      near_width false (a.width + b.width) (omega (arith, a.some_width)) (omega arith) ∙ wide,
      joined_below n v m w g.3 h.3,
    )

zeros_show : (i : Inputs) (s : List ℤ) (d : Option Expression) (n w k : ℕ) → Shows i s d n w → w + k ≤ 128 → Shows i s (with_zeros d k) (n * 2 ^ k) (w + k)
zeros_show i s d n w zero h l = shows_as i s d n (n * 2 ^ 0) w (w + 0) (omega arith) (omega arith) h
zeros_show i s d n w (suc k) h l =
    let near = near_width false (suc k) (omega arith) (omega arith) in
    let zeros : ShowsOne i s (x_const (type_near false (suc k)) 0) 0 (suc k) = (refl, refl, near, pow_pos (suc k)) in
    let e : n * 2 ^ suc k + 0 ≡ n * 2 ^ suc k = omega arith in
    shows_as i s (with_zeros d (suc k)) (n * 2 ^ suc k + 0) (n * 2 ^ suc k) (w + suc k) (w + suc k) e refl
    (behind_shows i s d (x_const (type_near false (suc k)) 0) n 0 w (suc k) h zeros l)

-- the bits of a piece
abbrev part : ℕ → Piece → ℕ
part word p = bits_between word (p.at + (p.hi - p.lo)) p.at

part_shows : (i : Inputs) (s : List ℤ) (p : Piece) → i.word < 2 ^ 32 → p.hi ≤ 31 → ShowsOne i s (word_part p) (part i.word p) (p.hi - p.lo + 1)
part_shows i s p h l =
    let whole : pattern_of 32 (pos i.word) ≡ i.word = pattern_is 32 i.word h in
    let length : p.at + (p.hi - p.lo) - p.at + 1 ≡ p.hi - p.lo + 1 = omega arith in
    let below : part i.word p < 2 ^ (p.at + (p.hi - p.lo) - p.at + 1) = mod_below (i.word / 2 ^ p.at) (2 ^ (p.at + (p.hi - p.lo) - p.at + 1)) (pow_pos (p.at + (p.hi - p.lo) - p.at + 1)) in
    let B : ℕ → Type 0 = λ k. part i.word p < 2 ^ k in (
      ap (λ (n : ℕ). pos (bits_between n (p.at + (p.hi - p.lo)) p.at)) whole,
      refl,
      near_width false (p.hi - p.lo + 1) (omega arith) (omega arith),
      subst B length below,
    )

-- ---- all pieces
abbrev pieces_number : ℕ → List Piece → ℕ
pieces_number word [] = 0
pieces_number word (p ∷ ps) = piece_number word p + pieces_number word ps

collected : (n m g k lo below rest : ℕ) → g + k + lo ≡ below → (n * 2 ^ g * 2 ^ k + m) * 2 ^ lo + rest ≡ n * 2 ^ below + (m * 2 ^ lo + rest)
collected n m g k lo below rest e =
    let a : 2 ^ (g + k + lo) ≡ 2 ^ (g + k) * 2 ^ lo = pow-add 2 (g + k) lo in
    let b : 2 ^ (g + k) ≡ 2 ^ g * 2 ^ k = pow-add 2 g k in
    rw (← e, a, b) (grind arith)

field_shows : (i : Inputs) (s : List ℤ) (d : Option Expression) (n w below : ℕ) (ps : List Piece) → i.word < 2 ^ 32 → below ≤ 32 → AreOrdered below ps → Shows i s d n w → w + below ≤ 128
    → Shows i s (field_from d below ps) (n * 2 ^ below + pieces_number i.word ps) (w + below)
field_shows i s d n w below [] g m o h l =
    let e : n * 2 ^ below ≡ n * 2 ^ below + 0 = omega arith in
    shows_as i s (with_zeros d below) (n * 2 ^ below) (n * 2 ^ below + 0) (w + below) (w + below) e refl (zeros_show i s d n w below h l)
field_shows i s d n w below (p ∷ ps) g m o h l =
    let less = o.0 in
    let order = o.1 in
    let gap = below - (p.hi + 1) in
    let k = p.hi - p.lo + 1 in
    let zeros = zeros_show i s d n w gap h (omega arith) in
    let one = behind_shows i s (with_zeros d gap) (word_part p) (n * 2 ^ gap) (part i.word p) (w + gap) k zeros (part_shows i s p g (omega arith)) (omega arith) in
    let rest = field_shows i s (behind (with_zeros d gap) (word_part p)) (n * 2 ^ gap * 2 ^ k + part i.word p) (w + gap + k) p.lo ps g (omega arith) o.2 one (omega arith) in
    let whole : gap + k + p.lo ≡ below = omega arith in
    shows_as i s (field_from (behind (with_zeros d gap) (word_part p)) p.lo ps) ((n * 2 ^ gap * 2 ^ k + part i.word p) * 2 ^ p.lo + pieces_number i.word ps)
    (n * 2 ^ below + pieces_number i.word (p ∷ ps)) (w + gap + k + p.lo) (w + below)
    (collected n (part i.word p) gap k p.lo below (pieces_number i.word ps) whole) (omega arith) rest

-- the order does not matter
inserted : (word : ℕ) (p : Piece) (ps : List Piece) → pieces_number word (insert p ps) ≡ piece_number word p + pieces_number word ps
inserted word p [] = refl
inserted word p (q ∷ qs) =
    cond_both (nat_lt q.hi p.hi) (p ∷ q ∷ qs) (q ∷ insert p qs) (λ (xs : List Piece). pieces_number word xs ≡ piece_number word p + (piece_number word q + pieces_number word qs))
    (λ e. refl) (λ e. (let r = inserted word p qs in omega arith))

put_in_order : (word : ℕ) (ps : List Piece) → pieces_number word (ordered ps) ≡ pieces_number word ps
put_in_order word [] = refl
put_in_order word (p ∷ ps) = inserted word p (ordered ps) ∙ ap (λ (n : ℕ). piece_number word p + n) (put_in_order word ps)

picked : (word : ℕ) (ps : List Piece) (n : List ℕ) → pieces_number word (pieces_of ps n) ≡ field_number word ps n
picked word [] n = refl
picked word (p ∷ ps) n = by (same_bytes p.field n) (picked word ps n)
  where
    by : (b : Bool) → pieces_number word (pieces_of ps n) ≡ field_number word ps n
        → pieces_number word (cond b (p ∷ pieces_of ps n) (pieces_of ps n)) ≡ cond b (piece_number word p + field_number word ps n) (field_number word ps n)
    by true e = ap (λ (m : ℕ). piece_number word p + m) e
    by false e = e

-- ---- a field
has_top : (ps : List Piece) → ps ≢ [] → 1 ≤ top_of (ordered ps)
has_top [] h = absurd (h refl)
has_top (p ∷ ps) h = in_front p (ordered ps)
  where
    in_front : (p : Piece) (qs : List Piece) → 1 ≤ top_of (insert p qs)
    in_front p [] = omega arith
    in_front p (q ∷ qs) = cond_both (nat_lt q.hi p.hi) (p ∷ q ∷ qs) (q ∷ insert p qs) (λ (xs : List Piece). 1 ≤ top_of xs) (λ e. omega arith) (λ e. omega arith)

-- what a field shows
record IsShown (i : Inputs) (s : List ℤ) (e : Expression) (n w : ℕ) : Type 0 where
  number_is : number i s e ≡ pos n
  unsigned : (type_of_expression e).signed ≡ false
  wide : (type_of_expression e).width ≡ w

from_shows : (i : Inputs) (s : List ℤ) (d : Option Expression) (n w : ℕ) → 1 ≤ w → Shows i s d n w → IsShown i s (some_or d (x_const u1 0)) n w
from_shows i s None n w l h = absurd (omega (arith, h.1))
from_shows i s (Some e) n w l h = record { number_is = h.0; unsigned = h.1; wide = h.2 }

shown : (i : Inputs) (s : List ℤ) (ps : List Piece) (n : List ℕ) → i.word < 2 ^ 32 → IsField ps n
    → IsShown i s (field_expression ps n) (field_number i.word ps n) (top_of (ordered (pieces_of ps n)))
shown i s ps n g f =
    let qs = ordered (pieces_of ps n) in
    let top = top_of qs in
    let most = f.most in
    let none : Shows i s None 0 0 = (refl, refl) in
    let all = field_shows i s None 0 0 top qs g f.most f.once none (omega arith) in
    let same : 0 * 2 ^ top + pieces_number i.word qs ≡ field_number i.word ps n =
    (let e : 0 * 2 ^ top + pieces_number i.word qs ≡ pieces_number i.word qs = omega arith in e ∙ put_in_order i.word (pieces_of ps n) ∙ picked i.word ps n) in
    from_shows i s (field_from None top qs) (field_number i.word ps n) top (has_top (pieces_of ps n) f.some)
    (shows_as i s (field_from None top qs) (0 * 2 ^ top + pieces_number i.word qs) (field_number i.word ps n) (0 + top) top same (omega arith) all)

pub field_is : (i : Inputs) (s : List ℤ) (ps : List Piece) (n : List ℕ) → i.word < 2 ^ 32 → IsField ps n → number i s (field_expression ps n) ≡ pos (field_number i.word ps n)
field_is i s ps n g f = (shown i s ps n g f).number_is

pub field_type : (i : Inputs) (ps : List Piece) (n : List ℕ) → i.word < 2 ^ 32 → IsField ps n → type_of_expression (field_expression ps n) ≡ type_near false (top_of (ordered (pieces_of ps n)))
field_type i ps n g f =
    let h = shown i [] ps n g f in
    let top = top_of (ordered (pieces_of ps n)) in
    let most = f.most in
    ty_is (type_of_expression (field_expression ps n)) (type_near false top) h.unsigned (h.wide ∙ sym (near_width false top (has_top (pieces_of ps n) f.some) (omega arith)))
