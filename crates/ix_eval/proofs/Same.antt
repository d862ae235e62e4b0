-- Accesses with the same address and size are one.
use Rattle.std.proofs.Common.{◌≡◌, ℕ, ◌%◌, ◌<◌, ◌≤◌, ap, ◌∙◌, subst}
use Rattle.std.specs.Coded.{le_prop}
use native.Mathlib.Nat.{ℕ_set}
use Rattle.ix_eval.specs.declared.access.Access.{Access}

access_same : (a b n m : ℕ) (s : 0 < n) (f : n ≤ 4) (t : 4 % n ≡ 0) (s' : 0 < m) (f' : m ≤ 4) (t' : 4 % m ≡ 0) → a ≡ b → n ≡ m
    → let x : Access = record { at = a; bytes = n; some = s; few = f; divides_four = t } in
    let y : Access = record { at = b; bytes = m; some = s'; few = f'; divides_four = t' } in
    x ≡ y
access_same a b n m s f t s' f' t' d e =
    subst
    (λ (m : ℕ). (s' : 0 < m) (f' : m ≤ 4) (t' : 4 % m ≡ 0) →
    let x : Access = record { at = a; bytes = n; some = s; few = f; divides_four = t } in
    let y : Access = record { at = b; bytes = m; some = s'; few = f'; divides_four = t' } in
    x ≡ y)
    e
    (λ s' f' t'.
    ap (λ (c : ℕ). let x : Access = record { at = c; bytes = n; some = s; few = f; divides_four = t } in x) d
    ∙ ap (λ (r : 0 < n). let x : Access = record { at = b; bytes = n; some = r; few = f; divides_four = t } in x) (le_prop s s')
    ∙ ap (λ (r : n ≤ 4). let x : Access = record { at = b; bytes = n; some = s'; few = r; divides_four = t } in x) (le_prop f f')
    ∙ ap (λ (r : 4 % n ≡ 0). let x : Access = record { at = b; bytes = n; some = s'; few = f'; divides_four = r } in x) (ℕ_set _ _ t t'))
    s' f' t'

pub access_is : (x y : Access) → x.at ≡ y.at → x.bytes ≡ y.bytes → x ≡ y
access_is x y d e = access_same x.at y.at x.bytes y.bytes x.some x.few x.divides_four y.some y.few y.divides_four d e
