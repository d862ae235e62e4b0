-- What a token leads to where a statement begins, one nesting deeper.
use Rattle.std.proofs.Common.{◌≡◌, ℕ, ◌<◌, min, Option, Some, None, Result, arith, nat_eq}
use Rattle.ix_bits.specs.declared.operator.BinOp.{BinOp}
use Rattle.ix_tree.specs.declared.token.Token.{Token}
use Rattle.ix_tree.specs.declared.token.TokenKind.{TokenKind}
use Rattle.ix_tree.specs.declared.token.TokenKind.TheVariants.{Name, Text, Unsized, Sized, Word, Symbol}
use Rattle.ix_tree.specs.Tokens.{open_brace, semicolon, if_word, for_word, spawn_word}
use Rattle.ix_tree.specs.Machine.{Stack, is, is_type_word, step_of, begin_type, begin_place, begin_assign, begin_stmt}
use Rattle.ix_parse_state.specs.declared.stop.Stop.{Stop}
use Rattle.ix_parse_state.specs.declared.state.Reader.{Reader}
use Rattle.ix_parse_state.specs.Moves.{Moves}
use Rattle.ix_parse_state.proofs.Nestings.{BothDeep, deep_if, deep_only, deep_type, lifted}

deep_place : (m n : ℕ) (j k : Stack) (t : Token) (kind : TokenKind) → 64 < m → 64 < n → BothDeep (begin_place m j t kind) (begin_place n k t kind)
deep_place m n j k t (Name w) g h = (g, h)
deep_place m n j k t (Word w) g h =
    deep_if (nat_eq w 19) _ _ _ _ (g, h)
    (deep_if (nat_eq w 20) _ _ _ _ (g, h)
    (deep_only (nat_eq w 21) m n _ _ g h))
deep_place m n j k t Text g h = tt
deep_place m n j k t (Unsized ty b) g h = tt
deep_place m n j k t (Sized ty b) g h = tt
deep_place m n j k t (Symbol w) g h = tt

deep_assign : (m n : ℕ) (j k : Stack) (t : Token) (op : Option BinOp) → 64 < m → 64 < n → BothDeep (begin_assign m j t op) (begin_assign n k t op)
deep_assign m n j k t None g h = deep_place m n j k t t.kind g h
deep_assign m n j k t (Some op) g h = (g, h)

deep_stmt : (m n : ℕ) (k : Stack) (t : Token) → 64 < m → 64 < n → BothDeep (begin_stmt m k t) (begin_stmt n k t)
unfolding begin_stmt
deep_stmt m n k t g h =
    deep_if (is t.kind open_brace) _ _ _ _ (g, h)
    (deep_if (is t.kind semicolon) _ _ _ _ (g, h)
    (deep_if (is_type_word t.kind) _ _ _ _ (deep_type m n _ _ t g h)
    (deep_if (is t.kind if_word) _ _ _ _ (g, h)
    (deep_if (is t.kind for_word) _ _ _ _ (g, h)
    (deep_if (is t.kind spawn_word) _ _ _ _ (g, h)
    (deep_assign m n _ _ t (step_of t.kind) g h))))))

-- m is n as a number of 32 bits
pub moves_stmt : (m n : ℕ) (k : Stack) (t : Token) (r : Result Reader Stop) → m ≡ min n 4294967295 → Moves r (begin_stmt m k t) → Moves r (begin_stmt n k t)
moves_stmt m n k t r e h = lifted r (λ i. begin_stmt i k t) m n (deep_stmt m n k t) (λ a. omega arith) (λ a. omega arith) h

pub moves_type : (m n : ℕ) (k : Stack) (t : Token) (r : Result Reader Stop) → m ≡ min n 4294967295 → Moves r (begin_type m k t) → Moves r (begin_type n k t)
moves_type m n k t r e h = lifted r (λ i. begin_type i k t) m n (deep_type m n k k t) (λ a. omega arith) (λ a. omega arith) h
