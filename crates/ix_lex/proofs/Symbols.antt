-- One symbol more.
use Rattle.std.proofs.Common.{◌≡◌, ℕ, ◌+◌, ◌<◌, ◌≤◌, List, ◌++◌, length, take, Bool, true, false, Some, ap, sym, ◌∙◌, subst, ⊎_elim, arith, length-append}
use Rattle.std.specs.Prelude.{slice_get}
use Rattle.std.proofs.lemmas.Bool.{cases_lt, true≢false}
use Rattle.std.proofs.Math.Seq.{take-append_seam}
use Rattle.ix_tree.specs.Tokens.{symbols}
use Rattle.ix_tree.specs.Lexing.{BeginsWith}
use Rattle.ix_lex.specs.Symbols.{IsLongest}

-- what holds of the symbols before n and of symbol n holds of those before n + 1
one_symbol : (bs : List ℕ) (n b : ℕ) (x : List ℕ) → slice_get symbols n ≡ Some x → (BeginsWith x bs → length x ≤ b) → ((m : ℕ) (s : List ℕ) → m < n → slice_get symbols m ≡ Some s → BeginsWith s bs → length s ≤ b)
    → (m : ℕ) (s : List ℕ) → m < n + 1 → slice_get symbols m ≡ Some s → BeginsWith s bs → length s ≤ b
one_symbol bs n b x e f h m s l g w = ⊎_elim (λ (i : m < n). h m s i g w) (λ (i : n ≤ m). at (omega arith)) (cases_lt m n)
  where
    at : m ≡ n → length s ≤ b
    at i =
        let j : Some s ≡ Some x = sym g ∙ ap (λ (z : ℕ). slice_get symbols z) i ∙ e in
        let k : s ≡ x = cc in
        let t : BeginsWith x bs = subst (λ (z : List ℕ). BeginsWith z bs) k w in
        subst (λ (z : List ℕ). length z ≤ b) (sym k) (f t)

pub longer_found : (bs : List ℕ) (n k b : ℕ) (x : List ℕ) → IsLongest bs n k b → slice_get symbols n ≡ Some x → b < length x → BeginsWith x bs → IsLongest bs (n + 1) n (length x)
longer_found bs n k b x l e h w =
    let y = w.0 in
    let q : bs ≡ x ++ y = w.1 in
    let m : length bs ≡ length x + length y = ap length q ∙ length-append x y in
    let t : x ≡ take (length x) bs = sym (take-append_seam x y) ∙ ap (λ (z : List ℕ). take (length x) z) (sym q) in
    record {
      within = omega arith;
      is = λ p. e ∙ ap (λ (z : List ℕ). Some z) t;
      longest = one_symbol bs n (length x) x e (λ u. omega arith) (λ i s r g v. less (length s) b (length x) (l.longest i s r g v) h);
    }
  where
    less : (a b c : ℕ) → a ≤ b → b < c → a ≤ c
    less a b c h k = omega arith

pub longer_kept : (bs : List ℕ) (n k b : ℕ) (x : List ℕ) → IsLongest bs n k b → slice_get symbols n ≡ Some x → length x ≤ b → IsLongest bs (n + 1) k b
longer_kept bs n k b x l e h = record { within = l.within; is = l.is; longest = one_symbol bs n b x e (λ u. h) l.longest }

pub longer_missing : (bs : List ℕ) (n k b : ℕ) (x : List ℕ) → IsLongest bs n k b → slice_get symbols n ≡ Some x → (r : Bool) → r ≡ false → (BeginsWith x bs → r ≡ true) → IsLongest bs (n + 1) k b
longer_missing bs n k b x l e r f h = record { within = l.within; is = l.is; longest = one_symbol bs n b x e (λ u. absurd (true≢false (sym (h u) ∙ f))) l.longest }
