-- The tokens so far, one part more, and places where none begins.
use Rattle.std.proofs.Common.{◌≡◌, ℕ, ◌+◌, ◌-◌, ◌<◌, ◌≤◌, List, [], ◌∷◌, ◌++◌, length, drop, take, Option, Some, None, refl, ap, sym, ◌∙◌, subst, append_assoc, arith, length-append, length-drop}
use Rattle.std.proofs.lemmas.List.{append_cancel_left, take-append-drop, drop-drop, length-take-le}
use Rattle.ix_tree.specs.declared.token.Token.{Token}
use Rattle.ix_tree.specs.declared.token.TokenKind.{TokenKind}
use Rattle.ix_tree.specs.Lexing.{Form, form_of, IsPart, Reads, reads_none, reads_more, Lexes}
use Rattle.ix_tree.proofs.Parts.{form_is, part_unique}
use Rattle.ix_lex.specs.declared.error.LexErr.{LexErr}
use Rattle.ix_lex.specs.declared.error.LexErr.TheVariants.{BadByte, Unclosed, BadNumber, Memory}
use Rattle.ix_lex.specs.Fronts.{IsFront, tokens_of, kept}
use Rattle.ix_lex.specs.Refusals.{NoPart, refusal_of, IsRefusal, UnlessMemory}

append_nil : (us : List Token) → us ++ [] ≡ us
append_nil [] = refl
append_nil (u ∷ us) = ap (λ (z : List Token). u ∷ z) (append_nil us)

one_part : {form : Form} {x y z : List ℕ} {us : List Token} (at place : ℕ) → IsPart form place x y us → place ≡ at → z ≡ x ++ y → Reads at z us y
one_part {form} {x} {y} {z} {us} at place p e f =
    let q : IsPart form at x y us = subst (λ (n : ℕ). IsPart form n x y us) e p in
    let r : Reads at (x ++ y) (us ++ []) y = reads_more form q reads_none in
    let s : Reads at (x ++ y) us y = subst (λ (o : List Token). Reads at (x ++ y) o y) (append_nil us) r in
    subst (λ (o : List ℕ). Reads at o us y) (sym f) s

pub one_more : {at : ℕ} {z : List ℕ} {ts : List Token} {rest : List ℕ} → Reads at z ts rest → (place : ℕ) {form : Form} {x y : List ℕ} {us : List Token} → place + length rest ≡ at + length z → IsPart form place x y us → rest ≡ x ++ y
    → Reads at z (ts ++ us) y
one_more {at} {z} reads_none place e p f = one_part at place p (omega arith) f
one_more {at} {z} (reads_more {x = x0} {y = y0} {rest = rest} {us = us0} {ts = ts0} g q r) place {form} {x} {y} {us} e p f =
    let n : length (x0 ++ y0) ≡ length x0 + length y0 = length-append x0 y0 in
    let k : place + length rest ≡ at + length x0 + length y0 = omega arith in
    let s = one_more r place k p f in
    let t : Reads at (x0 ++ y0) (us0 ++ (ts0 ++ us)) y = reads_more g q s in
    subst (λ (o : List Token). Reads at (x0 ++ y0) o y) (sym (append_assoc us0 ts0 us)) t

-- the tokens of the bytes before a place
pub record Reached (bytes : List ℕ) (at : ℕ) (tokens : List Token) : Type 0 where
  pub within : at ≤ length bytes
  pub reads : Reads 0 bytes tokens (drop at bytes)

pub reached_none : (bytes : List ℕ) → Reached bytes 0 []
reached_none bytes = record { within = omega arith; reads = reads_none }

kept_is : (at n : ℕ) (x : List ℕ) (kind : Option TokenKind) → length x ≡ n → tokens_of at x kind ≡ kept at (at + n) kind
kept_is at n x None e = refl
kept_is at n x (Some k) e = rw e refl

pub reached_more : (bytes : List ℕ) (at n : ℕ) (tokens : List Token) (kind : Option TokenKind) (form : Form) → Reached bytes at tokens → IsFront form (drop at bytes) n kind
    → Reached bytes (at + n) (tokens ++ kept at (at + n) kind)
reached_more bytes at n tokens kind form r f =
    let l : length (drop at bytes) ≡ length bytes - at = length-drop at bytes in
    let w = r.within in
    let i = f.within in
    let d : drop n (drop at bytes) ≡ drop (at + n) bytes = drop-drop n at bytes in
    let k : at + length (drop at bytes) ≡ 0 + length bytes = omega arith in
    let s = one_more r.reads at k (f.part at) (sym (take-append-drop n (drop at bytes))) in
    let t : Reads 0 bytes (tokens ++ kept at (at + n) kind) (drop n (drop at bytes)) =
    subst (λ (o : List Token). Reads 0 bytes (tokens ++ o) (drop n (drop at bytes))) (kept_is at n (take n (drop at bytes)) kind (length-take-le n (drop at bytes) i)) s in
    record { within = omega arith; reads = subst (λ (o : List ℕ). Reads 0 bytes (tokens ++ kept at (at + n) kind) o) d t }

drop_all : (n : ℕ) (bs : List ℕ) → length bs ≤ n → drop n bs ≡ []
drop_all n bs h = nothing (drop n bs) (omega (arith, length-drop n bs))
  where
    nothing : (xs : List ℕ) → length xs ≤ 0 → xs ≡ []
    nothing [] h = refl
    nothing (x ∷ xs) h = absurd (omega arith)

pub reached_end : (bytes : List ℕ) (at : ℕ) (tokens : List Token) → length bytes ≤ at → Reached bytes at tokens → Lexes bytes tokens
reached_end bytes at tokens h r = record { reads = subst (λ (o : List ℕ). Reads 0 bytes tokens o) (drop_all at bytes h) r.reads }

pub refused : (bytes : List ℕ) (at : ℕ) (tokens : List Token) (e : LexErr) → at < length bytes → Reached bytes at tokens → e ≡ refusal_of at (form_of (drop at bytes)) → NoPart (drop at bytes) → IsRefusal bytes e
refused bytes at tokens e h r c n =
    let l : length (drop at bytes) ≡ length bytes - at = length-drop at bytes in
    record { at = at; tokens = tokens; rest = drop at bytes; reads = r.reads; place = omega arith; some = omega arith; none = n; cause = c }

-- ---- bytes with such a place have no tokens
stuck : {at bt : ℕ} {bs cs rest end : List ℕ} {ts us : List Token} → Reads at bs ts rest → Reads bt cs us end → at ≡ bt → bs ≡ cs → 1 ≤ length rest → NoPart rest → end ≡ [] → ⊥
stuck {rest = rest} reads_none reads_none a b l n f =
    let k : rest ≡ [] = b ∙ f in
    let m : length rest ≡ 0 = ap length k in
    omega arith
stuck {bt = bt} reads_none (reads_more {x = x} {y = y} {us = us} g p r) a b l n f = n g bt x y us p (sym b)
stuck (reads_more {x = x} {y = y} g p r) reads_none a b l n f =
    let k : form_of (x ++ y) ≡ None = rw (b, f) refl in
    let m : Some g ≡ None = sym (form_is p) ∙ k in
    cc
stuck {at} {bt} (reads_more {x = x} {y = y} {us = us} {ts = ts} g p r) (reads_more {x = z} {y = w} {us = vs} {ts = ws} h q s) a b l n f =
    let k : Some g ≡ Some h = sym (form_is p) ∙ rw b (form_is q) in
    let m : g ≡ h = cc in
    let q' : IsPart g at z w vs = subst (λ (i : ℕ). IsPart g i z w vs) (sym a) (subst (λ (o : Form). IsPart o bt z w vs) (sym m) q) in
    let same = part_unique p q' b in
    let c : y ≡ w = append_cancel_left x y w (b ∙ ap (λ (o : List ℕ). o ++ w) (sym same.bytes)) in
    stuck r s (rw (a, same.bytes) refl) c l n f

pub refusal_excludes : (bytes : List ℕ) (e : LexErr) → IsRefusal bytes e → (tokens : List Token) → Lexes bytes tokens → ⊥
refusal_excludes bytes e r tokens l = stuck r.reads l.reads refl refl r.some r.none refl

pub unless_then : (e : LexErr) {P Q : Type 0} → UnlessMemory e P → (P → Q) → UnlessMemory e Q
unless_then (BadByte at) p f = f p
unless_then (Unclosed at) p f = f p
unless_then (BadNumber at) p f = f p
unless_then Memory p f = tt
