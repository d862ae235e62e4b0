use Rattle.std.proofs.Common.{◌≡◌, ◌+◌, ◌<◌, ◌^◌, subst, ◌∙◌, arith, drop, ℕ}
use Rattle.ix_extension.specs.Encodings.{width_of, bits_of, fixed_value, match_of}
use Rattle.ix_encode.proofs.Encodings.{bits_rest, match_rest, match_below, put}
use Rattle.ix_encode.proofs.encoding.match_of.Goals as goal

pub overflow_add-matches : goal.overflow_add-matches
overflow_add-matches c =
    let p =
    let ps = c.args.pieces.now in
    let k = c.loop-piece.piece-index in
    let x = c.piece-item.result in
    let below : bits_of (drop k ps) ≡ width_of x.kind + bits_of (drop (k + 1) ps) = bits_rest ps k x c.loop-piece-test.true c.piece-item.is in
    let most : match_of ps < 4294967296 = subst (λ (n : ℕ). match_of ps < 2 ^ n) c.requires.whole (match_below ps) in
    put c.loop-piece.matches (fixed_value x.kind) c.loop-piece.at (width_of x.kind) (bits_of (drop (k + 1) ps)) (match_of (drop (k + 1) ps)) (match_of ps) (match_of (drop k ps))
    (c.loop-piece.invariant.place ∙ below) (match_rest ps k x c.loop-piece-test.true c.piece-item.is) c.loop-piece.invariant.sum most
    in
    rw (c.width_of-at.ensures.value, c.fixed_value.ensures) (omega (arith, p.few))

pub loop-piece-preserved : goal.loop-piece-preserved
loop-piece-preserved c =
    let p =
    let ps = c.args.pieces.now in
    let k = c.loop-piece.piece-index in
    let x = c.piece-item.result in
    let below : bits_of (drop k ps) ≡ width_of x.kind + bits_of (drop (k + 1) ps) = bits_rest ps k x c.loop-piece-test.true c.piece-item.is in
    let most : match_of ps < 4294967296 = subst (λ (n : ℕ). match_of ps < 2 ^ n) c.requires.whole (match_below ps) in
    put c.loop-piece.matches (fixed_value x.kind) c.loop-piece.at (width_of x.kind) (bits_of (drop (k + 1) ps)) (match_of (drop (k + 1) ps)) (match_of ps) (match_of (drop k ps))
    (c.loop-piece.invariant.place ∙ below) (match_rest ps k x c.loop-piece-test.true c.piece-item.is) c.loop-piece.invariant.sum most
    in
    rw (c.width_of-at.ensures.value, c.fixed_value.ensures) (record { place = p.place; most = omega (arith, c.loop-piece.invariant.most); sum = p.sum })

pub overflow_cast-result : goal.overflow_cast-result
overflow_cast-result c =
    let most : match_of c.args.pieces.now < 4294967296 = subst (λ (n : ℕ). match_of c.args.pieces.now < 2 ^ n) c.requires.whole (match_below c.args.pieces.now) in
    omega (arith, c.loop-piece.invariant.sum, most)
