-- What a token leads to behind `(` and where an expression begins, one nesting deeper.
use Rattle.std.proofs.Common.{◌≡◌, ◌∷◌, ℕ, ◌+◌, ◌<◌, ◌≤◌, Bool, true, false, if◌then◌else◌, Option, Some, None, Result, arith}
use Rattle.ix_bits.specs.declared.operator.UnOp.{UnOp}
use Rattle.ix_tree.specs.declared.token.Token.{Token}
use Rattle.ix_tree.specs.Tokens.{signed_word, unsigned_word, open_round}
use Rattle.ix_tree.specs.Trees.{ExprTree}
use Rattle.ix_tree.specs.Machine.{Stack, Next, is, primary, unary_of, want_unary, want_primary, begin_expr, begin_type, is_type_word, f_type_cast, f_round, after_open}
use Rattle.ix_parse_state.specs.declared.stop.Stop.{Stop}
use Rattle.ix_parse_state.specs.declared.state.Reader.{Reader}
use Rattle.ix_parse_state.specs.Moves.{Moves}
use Rattle.ix_parse_state.proofs.Nestings.{BothDeep, deep_only, lifted}

deep_unary : (o : Option UnOp) (m n : ℕ) (k : Stack) (t : Token) → 64 < m → 64 < n → BothDeep (want_unary m k t o) (want_unary n k t o)
deep_unary None m n k t g h = deep_only (is t.kind open_round) (m + 1) (n + 1) _ _ (omega arith) (omega arith)
deep_unary (Some op) m n k t g h = (g, h)

deep_primary : (o : Option ExprTree) (m n : ℕ) (k : Stack) (t : Token) → 64 < m → 64 < n → BothDeep (want_primary m k t o) (want_primary n k t o)
deep_primary None m n k t g h = deep_unary (unary_of t.kind) m n k t g h
deep_primary (Some v) m n k t g h = (g, h)

deep_expr : (m n : ℕ) (k : Stack) (t : Token) → 64 < m → 64 < n → BothDeep (begin_expr m k t) (begin_expr n k t)
deep_expr m n k t g h = deep_primary (primary t.span t.kind) m n k t g h

pub lifted_expr : (r : Result Reader Stop) (m n : ℕ) (k : Stack) (t : Token) → (n ≤ 64 → m ≡ n) → (64 < n → 64 < m) → Moves r (begin_expr m k t) → Moves r (begin_expr n k t)
lifted_expr r m n k t e g h = lifted r (λ i. begin_expr i k t) m n (deep_expr m n k t) e g h

-- behind `(`, by what the token is
pub opened_type : (r : Result Reader Stop) (d : ℕ) (o : Token) (k : Stack) (t : Token) → is t.kind signed_word ≡ false → is t.kind unsigned_word ≡ false
    → is_type_word t.kind ≡ true → Moves r (begin_type (d + 1) (f_type_cast d o ∷ k) t) → Moves r (after_open d o k t)
opened_type r d o k t e f g h = third _ _ _ r _ _ _ _ e f g h
  where
    third : (a b c : Bool) (r : Result Reader Stop) (p q s u : Next) → a ≡ false → b ≡ false → c ≡ true → Moves r s
        → Moves r (if a then p else if b then q else if c then s else u)
    third a b c r p q s u e f g h = rw (e, f, g) h

pub opened_expr : (r : Result Reader Stop) (d : ℕ) (o : Token) (k : Stack) (t : Token) → is t.kind signed_word ≡ false → is t.kind unsigned_word ≡ false
    → is_type_word t.kind ≡ false → Moves r (begin_expr (d + 1) (f_round d o ∷ k) t) → Moves r (after_open d o k t)
opened_expr r d o k t e f g h = fourth _ _ _ r _ _ _ _ e f g h
  where
    fourth : (a b c : Bool) (r : Result Reader Stop) (p q s u : Next) → a ≡ false → b ≡ false → c ≡ false → Moves r u
        → Moves r (if a then p else if b then q else if c then s else u)
    fourth a b c r p q s u e f g h = rw (e, f, g) h
