use Rattle.std.proofs.Common.{◌≡◌, ◌+◌, ◌<◌, ◌^◌, subst, ◌∙◌, arith, drop, ℕ}
use Rattle.ix_extension.specs.Encodings.{width_of, bits_of, fixed_bits, mask_of}
use Rattle.ix_encode.proofs.Encodings.{bits_rest, mask_rest, mask_below, put}
use Rattle.ix_encode.proofs.encoding.mask_of.Goals as goal

pub overflow_add-mask : goal.overflow_add-mask
overflow_add-mask c =
    let p =
    let ps = c.args.pieces.now in
    let k = c.loop-piece.piece-index in
    let x = c.piece-item.result in
    let below : bits_of (drop k ps) ≡ width_of x.kind + bits_of (drop (k + 1) ps) = bits_rest ps k x c.loop-piece-test.true c.piece-item.is in
    let most : mask_of ps < 4294967296 = subst (λ (n : ℕ). mask_of ps < 2 ^ n) c.requires.whole (mask_below ps) in
    put c.loop-piece.mask (fixed_bits x.kind) c.loop-piece.at (width_of x.kind) (bits_of (drop (k + 1) ps)) (mask_of (drop (k + 1) ps)) (mask_of ps) (mask_of (drop k ps))
    (c.loop-piece.invariant.place ∙ below) (mask_rest ps k x c.loop-piece-test.true c.piece-item.is) c.loop-piece.invariant.sum most
    in
    rw (c.width_of-at.ensures.value, c.fixed_bits.ensures) (omega (arith, p.few))

pub loop-piece-preserved : goal.loop-piece-preserved
loop-piece-preserved c =
    let p =
    let ps = c.args.pieces.now in
    let k = c.loop-piece.piece-index in
    let x = c.piece-item.result in
    let below : bits_of (drop k ps) ≡ width_of x.kind + bits_of (drop (k + 1) ps) = bits_rest ps k x c.loop-piece-test.true c.piece-item.is in
    let most : mask_of ps < 4294967296 = subst (λ (n : ℕ). mask_of ps < 2 ^ n) c.requires.whole (mask_below ps) in
    put c.loop-piece.mask (fixed_bits x.kind) c.loop-piece.at (width_of x.kind) (bits_of (drop (k + 1) ps)) (mask_of (drop (k + 1) ps)) (mask_of ps) (mask_of (drop k ps))
    (c.loop-piece.invariant.place ∙ below) (mask_rest ps k x c.loop-piece-test.true c.piece-item.is) c.loop-piece.invariant.sum most
    in
    rw (c.width_of-at.ensures.value, c.fixed_bits.ensures) (record { place = p.place; most = omega (arith, c.loop-piece.invariant.most); sum = p.sum })

pub overflow_cast-result : goal.overflow_cast-result
overflow_cast-result c =
    let most : mask_of c.args.pieces.now < 4294967296 = subst (λ (n : ℕ). mask_of c.args.pieces.now < 2 ^ n) c.requires.whole (mask_below c.args.pieces.now) in
    omega (arith, c.loop-piece.invariant.sum, most)
