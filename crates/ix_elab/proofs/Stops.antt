-- The place at which a text has no token is one.
use Rattle.std.proofs.Common.{◌≡◌, ◌∙◌, sym, ap, subst, refl, ℕ, ◌+◌, arith, List, ◌++◌, length, Option, Some, None}
use Rattle.std.proofs.lemmas.List.{append_cancel_left}
use Rattle.ix_tree.specs.declared.token.Token.{Token}
use Rattle.ix_tree.specs.Lexing.{Form, form_of, IsPart, Reads, reads_none, reads_more}
use Rattle.ix_tree.proofs.Parts.{form_is, part_unique}
use Rattle.ix_lex.specs.declared.error.LexErr.{LexErr}
use Rattle.ix_lex.specs.Refusals.{NoPart, refusal_of, IsRefusal}

stop_is_one : {at bt : ℕ} {bs cs rest end : List ℕ} {ts us : List Token} → Reads at bs ts rest → Reads bt cs us end → at ≡ bt → bs ≡ cs → NoPart rest → NoPart end → rest ≡ end
stop_is_one reads_none reads_none a b m n = b
stop_is_one {bt = bt} reads_none (reads_more {x = x} {y = y} {us = us} g p r) a b m n = absurd (m g bt x y us p (sym b))
stop_is_one {at = at} (reads_more {x = x} {y = y} {us = us} g p r) reads_none a b m n = absurd (n g at x y us p b)
stop_is_one {at} {bt} (reads_more {x = x} {y = y} {us = us} {ts = ts} g p r) (reads_more {x = z} {y = w} {us = vs} {ts = ws} h q s) a b m n =
    let k : Some g ≡ Some h = sym (form_is p) ∙ rw b (form_is q) in
    let o : g ≡ h = cc in
    let q' : IsPart g at z w vs = subst (λ (i : ℕ). IsPart g i z w vs) (sym a) (subst (λ (o : Form). IsPart o bt z w vs) (sym o) q) in
    let same = part_unique p q' b in
    let c : y ≡ w = append_cancel_left x y w (b ∙ ap (λ (o : List ℕ). o ++ w) (sym same.bytes)) in
    stop_is_one r s (rw (a, same.bytes) refl) c m n

pub refusal_is_one : (bytes : List ℕ) (d e : LexErr) → IsRefusal bytes d → IsRefusal bytes e → d ≡ e
refusal_is_one bytes d e r s =
    let k : r.rest ≡ s.rest = stop_is_one r.reads s.reads refl refl r.none s.none in
    let l : length r.rest ≡ length s.rest = ap length k in
    let a : r.at ≡ s.at = omega (arith, r.place, s.place, l) in
    r.cause ∙ ap (λ (n : ℕ). refusal_of n (form_of r.rest)) a ∙ ap (λ (z : List ℕ). refusal_of s.at (form_of z)) k ∙ sym s.cause
