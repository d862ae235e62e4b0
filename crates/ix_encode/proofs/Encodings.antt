-- The bits of pieces that stand side by side.
use Rattle.std.proofs.Common.{◌≡◌, ℕ, ◌+◌, ◌-◌, ◌*◌, ◌%◌, ◌^◌, ◌<◌, ◌≤◌, refl, arith, List, [], ◌∷◌, length, get_or, drop, drop-cons, add-one}
use Rattle.std.proofs.lemmas.Nat.{pow_pos, pow-add}
use Rattle.std.proofs.Math.Nat.{mod-eq_of_lt, mul-le-mul_left}
use Rattle.std.proofs.Math.ListN.{drop_of_length-le}
use Rattle.ix_tree.specs.declared.section.PieceText.{PieceText}
use Rattle.ix_tree.specs.declared.section.PieceKind.{PieceKind}
use Rattle.ix_tree.specs.declared.section.PieceKind.TheVariants as P
use Rattle.ix_extension.specs.Encodings.{width_of, bits_of, fixed_bits, fixed_value, mask_of, match_of, placed, pieces_of}

-- a part of w bits before one of n bits
joined_below : (x w m n : ℕ) → x < 2 ^ w → m < 2 ^ n → x * 2 ^ n + m < 2 ^ (w + n)
joined_below x w m n h g =
    let e = pow-add 2 w n in
    let s : x + 1 ≤ 2 ^ w = omega arith in
    let d : 2 ^ n * (x + 1) ≤ 2 ^ n * 2 ^ w = mul-le-mul_left (2 ^ n) s in
    omega (arith, e, d)

pub fixed_below : (k : PieceKind) → fixed_bits k < 2 ^ width_of k
fixed_below (P.Fixed b) = let p = pow_pos b.width in omega arith
fixed_below (P.Field n hi lo) = pow_pos (hi - lo + 1)

pub value_below : (k : PieceKind) → fixed_value k < 2 ^ width_of k
value_below (P.Fixed b) = b.in_width
value_below (P.Field n hi lo) = pow_pos (hi - lo + 1)

pub mask_below : (ps : List PieceText) → mask_of ps < 2 ^ bits_of ps
mask_below [] = pow_pos 0
mask_below (p ∷ ps) = joined_below (fixed_bits p.kind) (width_of p.kind) (mask_of ps) (bits_of ps) (fixed_below p.kind) (mask_below ps)

pub match_below : (ps : List PieceText) → match_of ps < 2 ^ bits_of ps
match_below [] = pow_pos 0
match_below (p ∷ ps) = joined_below (fixed_value p.kind) (width_of p.kind) (match_of ps) (bits_of ps) (value_below p.kind) (match_below ps)

-- ---- what is left from a piece on
pub bits_rest : (ps : List PieceText) (k : ℕ) (p : PieceText) → k < length ps → p ≡ get_or ps k p → bits_of (drop k ps) ≡ width_of p.kind + bits_of (drop (k + 1) ps)
bits_rest ps k p h e = rw (add-one, drop-cons ps k p, ← e) refl

pub mask_rest : (ps : List PieceText) (k : ℕ) (p : PieceText) → k < length ps → p ≡ get_or ps k p
    → mask_of (drop k ps) ≡ fixed_bits p.kind * 2 ^ bits_of (drop (k + 1) ps) + mask_of (drop (k + 1) ps)
mask_rest ps k p h e = rw (add-one, drop-cons ps k p, ← e) refl

pub match_rest : (ps : List PieceText) (k : ℕ) (p : PieceText) → k < length ps → p ≡ get_or ps k p
    → match_of (drop k ps) ≡ fixed_value p.kind * 2 ^ bits_of (drop (k + 1) ps) + match_of (drop (k + 1) ps)
match_rest ps k p h e = rw (add-one, drop-cons ps k p, ← e) refl

pub pieces_rest : (ps : List PieceText) (k : ℕ) (p : PieceText) → k < length ps → p ≡ get_or ps k p
    → pieces_of (drop k ps) ≡ placed p.kind (bits_of (drop (k + 1) ps)) (pieces_of (drop (k + 1) ps))
pieces_rest ps k p h e = rw (add-one, drop-cons ps k p, ← e) refl

-- ---- a part that is put in its place
pub record IsPut (so_far x at w below rest whole : ℕ) : Type 0 where
  pub place : at - w ≡ below
  pub sum : so_far + x * 2 ^ (at - w) % 340282366920938463463374607431768211456 + rest ≡ whole
  pub few : so_far + x * 2 ^ (at - w) % 340282366920938463463374607431768211456 < 4294967296

pub put : (so_far x at w below rest whole v : ℕ) → at ≡ w + below → v ≡ x * 2 ^ below + rest → so_far + v ≡ whole → whole < 4294967296 → IsPut so_far x at w below rest whole
put so_far x at w below rest whole v p e s b =
    let q : at - w ≡ below = omega (arith, p) in
    let r : x * 2 ^ below < 340282366920938463463374607431768211456 = omega (arith, e, s, b) in
    let m : x * 2 ^ below % 340282366920938463463374607431768211456 ≡ x * 2 ^ below = mod-eq_of_lt r in
    record { place = q; sum = rw (q, m) (omega (arith, e, s)); few = rw (q, m) (omega (arith, e, s, b)) }

pub empty_end : (ps : List PieceText) (k : ℕ) → length ps ≤ k → drop k ps ≡ []
empty_end ps k h = drop_of_length-le ps h
