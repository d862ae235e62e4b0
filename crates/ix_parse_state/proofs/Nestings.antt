-- What a token leads to at one nesting and at another, where both are too deep.
use Rattle.std.proofs.Common.{◌≡◌, ℕ, ◌<◌, ◌≤◌, ⊎_elim, Bool, true, false, if◌then◌else◌, Result, Ok, Err, refl, subst, arith}
use Rattle.std.proofs.lemmas.Bool.Decides.{leb_tells}
use Rattle.ix_tree.specs.declared.token.Token.{Token}
use Rattle.ix_tree.specs.Tokens.{signed_word, unsigned_word, int_word, bool_word}
use Rattle.ix_tree.specs.Machine.{State, Stack, Next, stop, go, only, is, begin_type}
use Rattle.ix_parse_state.specs.declared.stop.Stop.{Stop}
use Rattle.ix_parse_state.specs.declared.stop.Stop.TheVariants.{Refused, Deep, Memory}
use Rattle.ix_parse_state.specs.declared.state.Reader.{Reader}
use Rattle.ix_parse_state.specs.Moves.{Moves}

-- both stop, or both go over the token, which nests too deep
abbrev pub BothDeep : Next → Next → Type 0
BothDeep stop stop = Unit {0}
BothDeep (go m z) (go n y) = (64 < m) × (64 < n)
BothDeep _ _ = ⊥

pub both_deep : (r : Result Reader Stop) (a b : Next) → BothDeep a b → Moves r a → Moves r b
both_deep (Ok r) stop stop d h = h
both_deep (Ok r) stop (go n y) d h = absurd d
both_deep (Ok r) (go m z) stop d h = absurd d
both_deep (Ok r) (go m z) (go n y) d h = absurd (omega (arith, d.0, h.0))
both_deep (Err Refused) stop stop d h = refl
both_deep (Err Refused) stop (go n y) d h = absurd d
both_deep (Err Refused) (go m z) stop d h = refl
both_deep (Err Refused) (go m z) (go n y) d h = cc
both_deep (Err Deep) stop stop d h = h
both_deep (Err Deep) stop (go n y) d h = absurd d
both_deep (Err Deep) (go m z) stop d h = absurd d
both_deep (Err Deep) (go m z) (go n y) d h = d.1
both_deep (Err Memory) a b d h = tt

pub deep_if : (b : Bool) (p q r s : Next) → BothDeep p q → BothDeep r s → BothDeep (if b then p else r) (if b then q else s)
deep_if true p q r s g h = g
deep_if false p q r s g h = h

pub deep_only : (b : Bool) (m n : ℕ) (z y : State) → 64 < m → 64 < n → BothDeep (only b m z) (only b n y)
deep_only true m n z y g h = (g, h)
deep_only false m n z y g h = tt

pub deep_type : (m n : ℕ) (j k : Stack) (t : Token) → 64 < m → 64 < n → BothDeep (begin_type m j t) (begin_type n k t)
deep_type m n j k t g h =
    deep_if (is t.kind signed_word) _ _ _ _ (g, h)
    (deep_if (is t.kind unsigned_word) _ _ _ _ (g, h)
    (deep_if (is t.kind int_word) _ _ _ _ (g, h)
    (deep_only (is t.kind bool_word) m n _ _ g h)))

-- m is n, as far as n is at most 64
pub lifted : (r : Result Reader Stop) (f : ℕ → Next) (m n : ℕ) → (64 < m → 64 < n → BothDeep (f m) (f n)) → (n ≤ 64 → m ≡ n) → (64 < n → 64 < m) → Moves r (f m) → Moves r (f n)
lifted r f m n deep e g h =
    ⊎_elim
    (λ (a : _). subst (λ (i : ℕ). Moves r (f i)) (e a.1) h)
    (λ (a : _). both_deep r (f m) (f n) (deep (g a.1) a.1) h)
    (leb_tells n 64)

pub lifted_type : (r : Result Reader Stop) (m n : ℕ) (k : Stack) (t : Token) → (n ≤ 64 → m ≡ n) → (64 < n → 64 < m) → Moves r (begin_type m k t) → Moves r (begin_type n k t)
lifted_type r m n k t e g h = lifted r (λ i. begin_type i k t) m n (deep_type m n k k t) e g h
