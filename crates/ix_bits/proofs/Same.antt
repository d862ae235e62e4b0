-- Types with the same parts are one, and so are patterns.
use Rattle.std.proofs.Common.{◌≡◌, ℕ, ◌^◌, ◌<◌, ◌≤◌, min, max, Bool, true, Some, ap, sym, ◌∙◌, subst, arith}
use Rattle.std.specs.Prelude.{nat_le}
use Rattle.std.proofs.lemmas.Bool.{le-leb}
use Rattle.std.specs.Coded.{le_prop}
use Rattle.ix_bits.specs.declared.number.Ty.{Ty}
use Rattle.ix_bits.specs.declared.number.Bits.{Bits}
use Rattle.ix_bits.specs.NearTypes.{type_near, type_with}

ty_same : (s t : Bool) (w v : ℕ) (a : 1 ≤ w) (b : w ≤ 128) (c : 1 ≤ v) (d : v ≤ 128) → s ≡ t → w ≡ v
    → let x : Ty = record { signed = s; width = w; some_width = a; most_width = b } in
    let y : Ty = record { signed = t; width = v; some_width = c; most_width = d } in
    x ≡ y
ty_same s t w v a b c d e f =
    subst
    (λ (n : ℕ). (p : 1 ≤ n) (q : n ≤ 128) →
    let x : Ty = record { signed = s; width = w; some_width = a; most_width = b } in
    let y : Ty = record { signed = t; width = n; some_width = p; most_width = q } in
    x ≡ y)
    f
    (λ p q.
    ap (λ (r : Bool). let x : Ty = record { signed = r; width = w; some_width = a; most_width = b } in x) e
    ∙ ap (λ (r : 1 ≤ w). let x : Ty = record { signed = t; width = w; some_width = r; most_width = b } in x) (le_prop a p)
    ∙ ap (λ (r : w ≤ 128). let x : Ty = record { signed = t; width = w; some_width = p; most_width = r } in x) (le_prop b q))
    c d

pub ty_is : (x y : Ty) → x.signed ≡ y.signed → x.width ≡ y.width → x ≡ y
ty_is x y e f = ty_same x.signed y.signed x.width y.width x.some_width x.most_width y.some_width y.most_width e f

bits_same : (r s w v : ℕ) (a : 1 ≤ w) (b : w ≤ 128) (c : r < 2 ^ w) (a' : 1 ≤ v) (b' : v ≤ 128) (c' : s < 2 ^ v) → r ≡ s → w ≡ v
    → let x : Bits = record { raw = r; width = w; some_width = a; most_width = b; in_width = c } in
    let y : Bits = record { raw = s; width = v; some_width = a'; most_width = b'; in_width = c' } in
    x ≡ y
bits_same r s w v a b c a' b' c' e f =
    subst
    (λ (n : ℕ). (p : 1 ≤ n) (q : n ≤ 128) (u : s < 2 ^ n) →
    let x : Bits = record { raw = r; width = w; some_width = a; most_width = b; in_width = c } in
    let y : Bits = record { raw = s; width = n; some_width = p; most_width = q; in_width = u } in
    x ≡ y)
    f
    (λ p q.
    subst
    (λ (m : ℕ). (u : m < 2 ^ w) →
    let x : Bits = record { raw = r; width = w; some_width = a; most_width = b; in_width = c } in
    let y : Bits = record { raw = m; width = w; some_width = p; most_width = q; in_width = u } in
    x ≡ y)
    e
    (λ u.
    ap (λ (k : 1 ≤ w). let x : Bits = record { raw = r; width = w; some_width = k; most_width = b; in_width = c } in x) (le_prop a p)
    ∙ ap (λ (k : w ≤ 128). let x : Bits = record { raw = r; width = w; some_width = p; most_width = k; in_width = c } in x) (le_prop b q)
    ∙ ap (λ (k : r < 2 ^ w). let x : Bits = record { raw = r; width = w; some_width = p; most_width = q; in_width = k } in x) (le_prop c u)))
    a' b' c'

pub bits_are : (x y : Bits) → x.raw ≡ y.raw → x.width ≡ y.width → x ≡ y
bits_are x y e f =
    bits_same x.raw y.raw x.width y.width x.some_width x.most_width x.in_width y.some_width y.most_width y.in_width e f

-- the type of its own signedness and width
pub type_with_is : (ty : Ty) (s : Bool) (w : ℕ) → ty.signed ≡ s → ty.width ≡ w → type_with s w ≡ Some ty
type_with_is ty s w e f =
    let a : nat_le 1 w ≡ true = le-leb 1 w (omega (arith, ty.some_width)) in
    let b : nat_le w 128 ≡ true = le-leb w 128 (omega (arith, ty.most_width)) in
    let n : max 1 (min w 128) ≡ ty.width = omega (arith, ty.some_width, ty.most_width) in
    rw (a, b) (ap Some (ty_is (type_near s w) ty (sym e) n))
