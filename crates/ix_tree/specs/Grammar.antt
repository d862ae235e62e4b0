-- The grammar of the profile of CoreDSL 2, a case for each production. Beside the tokens stands the nesting of each:
-- the round and square pairs open at it, the statements around it, the unary operators and casts whose operand it is in, the `?` whose
-- second or third part it is in, and, in each chain of operators or indices around it, those before it.
use Rattle.std.specs.Prelude.{◌≡◌, ℕ, ◌+◌, ◌≤◌, List, [], ◌∷◌, ◌++◌, Option, Some, None, All}
use Rattle.ix_bits.specs.declared.number.Ty.{Ty}
use Rattle.ix_bits.specs.declared.number.Bits.{Bits}
use Rattle.ix_bits.specs.declared.operator.BinOp.{BinOp}
use Rattle.ix_bits.specs.declared.operator.BinOp.TheVariants as B
use Rattle.ix_bits.specs.declared.operator.UnOp.{UnOp}
use Rattle.ix_bits.specs.declared.operator.UnOp.TheVariants as U
use Rattle.ix_tree.specs.declared.token.Token.{Token}
use Rattle.ix_tree.specs.declared.token.TokenKind.{TokenKind}
use Rattle.ix_tree.specs.declared.token.TokenKind.TheVariants.{Name, Text, Unsized, Sized, Symbol}
use Rattle.ix_tree.specs.declared.expr.TypeText.{TypeText}
use Rattle.ix_tree.specs.declared.expr.TypeKind.TheVariants as T
use Rattle.ix_tree.specs.declared.expr.CastTo.TheVariants as C
use Rattle.ix_tree.specs.declared.section.PieceText.{PieceText}
use Rattle.ix_tree.specs.Tokens.{instruction_set, extends_word, rv32i_word, architectural_state, instructions_word, always_word, register_word, const_word, encoding_word, assembly_word, behavior_word, signed_word, unsigned_word, int_word, bool_word, if_word, else_word, for_word, spawn_word, pc_word, x_word, mem_word, true_word, false_word, open_brace, close_brace, open_square, close_square, open_round, close_round, semicolon, comma, colon, double_colon, equals, plus_plus, minus_minus, question, less, greater, minus, tilde, bang}
use Rattle.ix_tree.specs.Trees.{ExprTree, e_literal, e_name, e_pc, e_x, e_mem, Place, AssignTree, DeclTree, StmtTree, StateTree, InstrTree, BlockTree, SectionTree, k_states, k_instructions, k_always, TextTree, power, before, Part, p_primary, p_unary, p_cast, p_binary, p_round, p_index, p_range, p_choose}
use Rattle.ix_tree.specs.Productions.{bit_type, one_bit, zero_bit, type_text, place_name, place_pc, place_x, place_mem, place_mem_range, assign_set, assign_before, assign_after, decl, Done, d_block, d_empty, d_locals, d_assign, d_if, d_if_else, d_for, d_spawn, fixed_piece, field_piece, register_tree, table_tree, instr_tree, always_tree, section_tree, text_tree}

-- ---- operators
pub record IsOperator (kind : TokenKind) : Type 0 where
  pub low : 3 ≤ power kind
  pub high : power kind ≤ 23

pub data IsUnary : TokenKind → UnOp → Type 0 where
  unary_minus : IsUnary minus U.Neg
  unary_tilde : IsUnary tilde U.Not
  unary_bang : IsUnary bang U.Lnot

pub data IsAssignOp : TokenKind → Option BinOp → Type 0 where
  assign_plain : IsAssignOp equals None
  assign_add : IsAssignOp (Symbol 11) (Some B.Add)
  assign_sub : IsAssignOp (Symbol 12) (Some B.Sub)
  assign_mul : IsAssignOp (Symbol 13) (Some B.Mul)
  assign_and : IsAssignOp (Symbol 14) (Some B.And)
  assign_or : IsAssignOp (Symbol 15) (Some B.Or)
  assign_xor : IsAssignOp (Symbol 16) (Some B.Xor)
  assign_shl : IsAssignOp (Symbol 17) (Some B.Shl)
  assign_shr : IsAssignOp (Symbol 18) (Some B.Shr)

pub data IsStep : TokenKind → BinOp → Type 0 where
  step_up : IsStep plus_plus B.Add
  step_down : IsStep minus_minus B.Sub

-- ---- types
pub data IsType : ℕ → List Token → List ℕ → TypeText → Type 0 where
  type_signed : {d : ℕ} (t o n c : Token) (ty : Ty) (w : Bits) → t.kind ≡ signed_word → o.kind ≡ less → n.kind ≡ Unsized ty w → c.kind ≡ greater
      → IsType d (t ∷ o ∷ n ∷ c ∷ []) (d ∷ d ∷ d ∷ d ∷ []) (type_text t c (T.Signed w.raw))
  type_unsigned : {d : ℕ} (t o n c : Token) (ty : Ty) (w : Bits) → t.kind ≡ unsigned_word → o.kind ≡ less → n.kind ≡ Unsized ty w → c.kind ≡ greater
      → IsType d (t ∷ o ∷ n ∷ c ∷ []) (d ∷ d ∷ d ∷ d ∷ []) (type_text t c (T.Unsigned w.raw))
  type_int : {d : ℕ} (t : Token) → t.kind ≡ int_word → IsType d (t ∷ []) (d ∷ []) (type_text t t T.Int)
  type_bool : {d : ℕ} (t : Token) → t.kind ≡ bool_word → IsType d (t ∷ []) (d ∷ []) (type_text t t T.Bool)

-- ---- expressions
pub data IsPrimary : Token → ExprTree → Type 0 where
  primary_unsized : (t : Token) (ty : Ty) (b : Bits) → t.kind ≡ Unsized ty b → IsPrimary t (e_literal t.span ty b)
  primary_sized : (t : Token) (ty : Ty) (b : Bits) → t.kind ≡ Sized ty b → IsPrimary t (e_literal t.span ty b)
  primary_true : (t : Token) → t.kind ≡ true_word → IsPrimary t (e_literal t.span bit_type one_bit)
  primary_false : (t : Token) → t.kind ≡ false_word → IsPrimary t (e_literal t.span bit_type zero_bit)
  primary_name : (t : Token) (n : List ℕ) → t.kind ≡ Name n → IsPrimary t (e_name t.span n)
  primary_pc : (t : Token) → t.kind ≡ pc_word → IsPrimary t (e_pc t.span)
  primary_x : (t : Token) → t.kind ≡ x_word → IsPrimary t (e_x t.span)
  primary_mem : (t : Token) → t.kind ≡ mem_word → IsPrimary t (e_mem t.span)

-- The tokens are an expression of level n: 2 with a choice, 3 without one, a binary operator of power n or more, 25 a unary one, 26 a postfix.
pub data IsExpr : ℕ → ℕ → List Token → List ℕ → Part → Type 0 where
  is_primary : {n d : ℕ} {v : ExprTree} (t : Token) → IsPrimary t v → IsExpr n d (t ∷ []) (d ∷ []) (p_primary t v)
  is_unary : {n d : ℕ} {ts : List Token} {ms : List ℕ} {v : Part} {op : UnOp} (t : Token) → n ≤ 25 → IsUnary t.kind op
      → IsExpr 25 (d + 1) ts ms v
      → IsExpr n d (t ∷ ts) (d ∷ ms) (p_unary t op v)
  is_cast : {n d : ℕ} {us ts : List Token} {ks ms : List ℕ} {y : TypeText} {v : Part} (o c : Token) → n ≤ 25 → o.kind ≡ open_round → c.kind ≡ close_round
      → IsType (d + 1) us ks y → IsExpr 25 (d + 1) ts ms v
      → IsExpr n d (o ∷ (us ++ c ∷ ts)) ((d + 1) ∷ (ks ++ (d + 1) ∷ ms)) (p_cast o (C.Written y) v)
  is_cast_signed : {n d : ℕ} {ts : List Token} {ms : List ℕ} {v : Part} (o s c : Token) → n ≤ 25 → o.kind ≡ open_round → s.kind ≡ signed_word → c.kind ≡ close_round
      → IsExpr 25 (d + 1) ts ms v
      → IsExpr n d (o ∷ s ∷ c ∷ ts) ((d + 1) ∷ (d + 1) ∷ (d + 1) ∷ ms) (p_cast o C.Signed v)
  is_cast_unsigned : {n d : ℕ} {ts : List Token} {ms : List ℕ} {v : Part} (o s c : Token) → n ≤ 25 → o.kind ≡ open_round → s.kind ≡ unsigned_word → c.kind ≡ close_round
      → IsExpr 25 (d + 1) ts ms v
      → IsExpr n d (o ∷ s ∷ c ∷ ts) ((d + 1) ∷ (d + 1) ∷ (d + 1) ∷ ms) (p_cast o C.Unsigned v)
  is_binary : {n d : ℕ} {xs ys : List Token} {ms ns : List ℕ} {x y : Part} (t : Token) → n ≤ power t.kind → IsOperator t.kind
      → IsExpr (power t.kind) d xs ms x → IsExpr (power t.kind + 1) (d + (before (power t.kind) x + 1)) ys ns y
      → IsExpr n d (xs ++ t ∷ ys) (ms ++ (d + before (power t.kind) x) ∷ ns) (p_binary x t y)
  is_round : {n d : ℕ} {ts : List Token} {ms : List ℕ} {v : Part} (o c : Token) → o.kind ≡ open_round → c.kind ≡ close_round
      → IsExpr 2 (d + 1) ts ms v
      → IsExpr n d (o ∷ (ts ++ c ∷ [])) ((d + 1) ∷ (ms ++ (d + 1) ∷ [])) (p_round o v c)
  is_index : {n d : ℕ} {xs ys : List Token} {ms ns : List ℕ} {x y : Part} (o c : Token) → n ≤ 26 → o.kind ≡ open_square → c.kind ≡ close_square
      → IsExpr 26 d xs ms x → IsExpr 2 (d + (before 26 x + 1)) ys ns y
      → IsExpr n d (xs ++ o ∷ (ys ++ c ∷ [])) (ms ++ (d + (before 26 x + 1)) ∷ (ns ++ (d + (before 26 x + 1)) ∷ [])) (p_index x y c)
  is_range : {n d : ℕ} {xs ys zs : List Token} {ms ns ks : List ℕ} {x y z : Part} (o r c : Token) → n ≤ 26
      → o.kind ≡ open_square → r.kind ≡ colon → c.kind ≡ close_square
      → IsExpr 26 d xs ms x → IsExpr 2 (d + (before 26 x + 1)) ys ns y → IsExpr 2 (d + (before 26 x + 1)) zs ks z
      → IsExpr n d (xs ++ o ∷ (ys ++ r ∷ (zs ++ c ∷ [])))
      (ms ++ (d + (before 26 x + 1)) ∷ (ns ++ (d + (before 26 x + 1)) ∷ (ks ++ (d + (before 26 x + 1)) ∷ []))) (p_range x y z c)
  is_choose : {n d : ℕ} {cs xs ys : List Token} {us ms ns : List ℕ} {c x y : Part} (q r : Token) → n ≤ 2 → q.kind ≡ question → r.kind ≡ colon
      → IsExpr 3 d cs us c → IsExpr 2 (d + 1) xs ms x → IsExpr 2 (d + 1) ys ns y
      → IsExpr n d (cs ++ q ∷ (xs ++ r ∷ ys)) (us ++ d ∷ (ms ++ d ∷ ns)) (p_choose c x y)

-- `= e`, or nothing
pub data IsValue : ℕ → List Token → List ℕ → Option Part → Type 0 where
  no_value : {d : ℕ} → IsValue d [] [] None
  some_value : {d : ℕ} {ts : List Token} {ms : List ℕ} {v : Part} (e : Token) → e.kind ≡ equals → IsExpr 2 d ts ms v → IsValue d (e ∷ ts) (d ∷ ms) (Some v)

-- ---- places and assignments
pub data IsPlace : ℕ → List Token → List ℕ → Place → Type 0 where
  is_name : {d : ℕ} (t : Token) (n : List ℕ) → t.kind ≡ Name n → IsPlace d (t ∷ []) (d ∷ []) (place_name t n)
  is_pc : {d : ℕ} (t : Token) → t.kind ≡ pc_word → IsPlace d (t ∷ []) (d ∷ []) (place_pc t)
  is_x : {d : ℕ} {ts : List Token} {ms : List ℕ} {v : Part} (t o c : Token) → t.kind ≡ x_word → o.kind ≡ open_square → c.kind ≡ close_square
      → IsExpr 2 (d + 1) ts ms v
      → IsPlace d (t ∷ o ∷ (ts ++ c ∷ [])) (d ∷ (d + 1) ∷ (ms ++ (d + 1) ∷ [])) (place_x t v c)
  is_mem : {d : ℕ} {ts : List Token} {ms : List ℕ} {v : Part} (t o c : Token) → t.kind ≡ mem_word → o.kind ≡ open_square → c.kind ≡ close_square
      → IsExpr 2 (d + 1) ts ms v
      → IsPlace d (t ∷ o ∷ (ts ++ c ∷ [])) (d ∷ (d + 1) ∷ (ms ++ (d + 1) ∷ [])) (place_mem t v c)
  is_mem_range : {d : ℕ} {ts us : List Token} {ms ns : List ℕ} {v w : Part} (t o r c : Token)
      → t.kind ≡ mem_word → o.kind ≡ open_square → r.kind ≡ colon → c.kind ≡ close_square
      → IsExpr 2 (d + 1) ts ms v → IsExpr 2 (d + 1) us ns w
      → IsPlace d (t ∷ o ∷ (ts ++ r ∷ (us ++ c ∷ []))) (d ∷ (d + 1) ∷ (ms ++ (d + 1) ∷ (ns ++ (d + 1) ∷ []))) (place_mem_range t v w c)

pub data IsAssign : ℕ → List Token → List ℕ → AssignTree → Type 0 where
  is_set : {d : ℕ} {xs ts : List Token} {ks ms : List ℕ} {l : Place} {op : Option BinOp} {v : Part} (t : Token) → IsAssignOp t.kind op
      → IsPlace d xs ks l → IsExpr 2 d ts ms v
      → IsAssign d (xs ++ t ∷ ts) (ks ++ d ∷ ms) (assign_set l op v)
  is_step_before : {d : ℕ} {xs : List Token} {ks : List ℕ} {l : Place} {op : BinOp} (t : Token) → IsStep t.kind op → IsPlace d xs ks l
      → IsAssign d (t ∷ xs) (d ∷ ks) (assign_before t op l)
  is_step_after : {d : ℕ} {xs : List Token} {ks : List ℕ} {l : Place} {op : BinOp} (t : Token) → IsStep t.kind op → IsPlace d xs ks l
      → IsAssign d (xs ++ t ∷ []) (ks ++ d ∷ []) (assign_after l op t)

-- ---- statements
pub data IsDecl : ℕ → List Token → List ℕ → DeclTree → Type 0 where
  is_decl : {d : ℕ} {ts : List Token} {ms : List ℕ} {v : Option Part} (t : Token) (n : List ℕ) → t.kind ≡ Name n → IsValue d ts ms v
      → IsDecl d (t ∷ ts) (d ∷ ms) (decl t n v)

pub data IsDecls : ℕ → List Token → List ℕ → List DeclTree → Type 0 where
  last_decl : {d : ℕ} {ts : List Token} {ms : List ℕ} {x : DeclTree} → IsDecl d ts ms x → IsDecls d ts ms (x ∷ [])
  more_decls : {d : ℕ} {ts us : List Token} {ms ns : List ℕ} {x : DeclTree} {xs : List DeclTree} (c : Token) → c.kind ≡ comma
      → IsDecl d ts ms x → IsDecls d us ns xs
      → IsDecls d (ts ++ c ∷ us) (ms ++ d ∷ ns) (x ∷ xs)

pub data IsLoopType : ℕ → List Token → List ℕ → Option TypeText → Type 0 where
  no_type : {d : ℕ} → IsLoopType d [] [] None
  some_type : {d : ℕ} {ts : List Token} {ms : List ℕ} {y : TypeText} → IsType d ts ms y → IsLoopType d ts ms (Some y)

-- A statement of level 1, or of level 2, which no `else` can go on: so an `else` belongs to the nearest `if`.
mutual
  pub data IsStmt : ℕ → ℕ → List Token → List ℕ → Done → Type 0 where
    is_block : {n d : ℕ} {ts : List Token} {ms : List ℕ} {ss : List StmtTree} (o c : Token) → o.kind ≡ open_brace → c.kind ≡ close_brace
        → IsItems (d + 1) ts ms ss
        → IsStmt n d (o ∷ (ts ++ c ∷ [])) (d ∷ (ms ++ d ∷ [])) (d_block o ss c)
    is_empty : {n d : ℕ} (t : Token) → t.kind ≡ semicolon → IsStmt n d (t ∷ []) (d ∷ []) (d_empty t)
    is_locals : {n d : ℕ} {us ts : List Token} {ks ms : List ℕ} {y : TypeText} {xs : List DeclTree} (c : Token) → c.kind ≡ semicolon
        → IsType d us ks y → IsDecls d ts ms xs
        → IsStmt n d (us ++ (ts ++ c ∷ [])) (ks ++ (ms ++ d ∷ [])) (d_locals y xs c)
    is_assign : {n d : ℕ} {ts : List Token} {ms : List ℕ} {a : AssignTree} (c : Token) → c.kind ≡ semicolon → IsAssign d ts ms a
        → IsStmt n d (ts ++ c ∷ []) (ms ++ d ∷ []) (d_assign a c)
    is_if : {n d : ℕ} {cs ss : List Token} {ms ns : List ℕ} {c : Part} {s : Done} (t o r : Token) → n ≤ 1
        → t.kind ≡ if_word → o.kind ≡ open_round → r.kind ≡ close_round
        → IsExpr 2 (d + 1) cs ms c → IsStmt 1 (d + 1) ss ns s
        → IsStmt n d (t ∷ o ∷ (cs ++ r ∷ ss)) (d ∷ (d + 1) ∷ (ms ++ (d + 1) ∷ ns)) (d_if t c s)
    is_if_else : {n d : ℕ} {cs ss zs : List Token} {ms ns ks : List ℕ} {c : Part} {s z : Done} (t o r e : Token)
        → t.kind ≡ if_word → o.kind ≡ open_round → r.kind ≡ close_round → e.kind ≡ else_word
        → IsExpr 2 (d + 1) cs ms c → IsStmt 2 (d + 1) ss ns s → IsStmt n (d + 1) zs ks z
        → IsStmt n d (t ∷ o ∷ (cs ++ r ∷ (ss ++ e ∷ zs))) (d ∷ (d + 1) ∷ (ms ++ (d + 1) ∷ (ns ++ d ∷ ks))) (d_if_else t c s z)
    is_for : {n d : ℕ} {ys cs bs ls ss : List Token} {js ms ns ks os : List ℕ} {y : Option TypeText} {a b : Part} {l : AssignTree} {s : Done}
        (t o i e p q r : Token) (name : List ℕ)
        → t.kind ≡ for_word → o.kind ≡ open_round → i.kind ≡ Name name → e.kind ≡ equals → p.kind ≡ semicolon → q.kind ≡ semicolon → r.kind ≡ close_round
        → IsLoopType (d + 1) ys js y → IsExpr 2 (d + 1) cs ms a → IsExpr 2 (d + 1) bs ns b → IsAssign (d + 1) ls ks l → IsStmt n (d + 1) ss os s
        → IsStmt n d (t ∷ o ∷ (ys ++ i ∷ e ∷ (cs ++ p ∷ (bs ++ q ∷ (ls ++ r ∷ ss)))))
        (d ∷ (d + 1) ∷ (js ++ (d + 1) ∷ (d + 1) ∷ (ms ++ (d + 1) ∷ (ns ++ (d + 1) ∷ (ks ++ (d + 1) ∷ os))))) (d_for t y name a b l s)
    is_spawn : {n d : ℕ} {ss : List Token} {ms : List ℕ} {s : Done} (t : Token) → t.kind ≡ spawn_word → IsStmt n (d + 1) ss ms s
        → IsStmt n d (t ∷ ss) (d ∷ ms) (d_spawn t s)

  pub data IsItems : ℕ → List Token → List ℕ → List StmtTree → Type 0 where
    no_items : {d : ℕ} → IsItems d [] [] []
    more_items : {d : ℕ} {ts us : List Token} {ms ns : List ℕ} {s : Done} {ss : List StmtTree} → IsStmt 1 d ts ms s → IsItems d us ns ss
        → IsItems d (ts ++ us) (ms ++ ns) (s.stmt ∷ ss)

-- ---- sections
pub data IsPiece : List Token → List ℕ → PieceText → Type 0 where
  is_fixed : (t : Token) (ty : Ty) (b : Bits) → t.kind ≡ Sized ty b → IsPiece (t ∷ []) (0 ∷ []) (fixed_piece t b)
  is_field : (t o h r l c : Token) (n : List ℕ) (ty uy : Ty) (hi lo : Bits)
      → t.kind ≡ Name n → o.kind ≡ open_square → h.kind ≡ Unsized ty hi → r.kind ≡ colon → l.kind ≡ Unsized uy lo → c.kind ≡ close_square
      → IsPiece (t ∷ o ∷ h ∷ r ∷ l ∷ c ∷ []) (0 ∷ 1 ∷ 1 ∷ 1 ∷ 1 ∷ 1 ∷ []) (field_piece t n hi.raw lo.raw c)

pub data IsPieces : List Token → List ℕ → List PieceText → Type 0 where
  last_piece : {ts : List Token} {ms : List ℕ} {x : PieceText} → IsPiece ts ms x → IsPieces ts ms (x ∷ [])
  more_pieces : {ts us : List Token} {ms ns : List ℕ} {x : PieceText} {xs : List PieceText} (c : Token) → c.kind ≡ double_colon
      → IsPiece ts ms x → IsPieces us ns xs
      → IsPieces (ts ++ c ∷ us) (ms ++ 0 ∷ ns) (x ∷ xs)

-- strings between commas
pub data AreTexts : List Token → List ℕ → Type 0 where
  last_text : (t : Token) → t.kind ≡ Text → AreTexts (t ∷ []) (0 ∷ [])
  more_texts : {ts : List Token} {ms : List ℕ} (t c : Token) → t.kind ≡ Text → c.kind ≡ comma → AreTexts ts ms → AreTexts (t ∷ c ∷ ts) (0 ∷ 0 ∷ ms)

-- how the instruction is written in assembly, which is read and has no effect
pub data IsAssembly : List Token → List ℕ → Type 0 where
  no_assembly : IsAssembly [] []
  one_text : (a c s e : Token) → a.kind ≡ assembly_word → c.kind ≡ colon → s.kind ≡ Text → e.kind ≡ semicolon
      → IsAssembly (a ∷ c ∷ s ∷ e ∷ []) (0 ∷ 0 ∷ 0 ∷ 0 ∷ [])
  some_texts : {ts : List Token} {ms : List ℕ} (a c o z e : Token)
      → a.kind ≡ assembly_word → c.kind ≡ colon → o.kind ≡ open_brace → z.kind ≡ close_brace → e.kind ≡ semicolon → AreTexts ts ms
      → IsAssembly (a ∷ c ∷ o ∷ (ts ++ z ∷ e ∷ [])) (0 ∷ 0 ∷ 0 ∷ (ms ++ 0 ∷ 0 ∷ []))

pub data IsInstr : List Token → List ℕ → InstrTree → Type 0 where
  is_instr : {ps us ss : List Token} {ks js ms : List ℕ} {xs : List PieceText} {s : Done} (t o e r q b h c : Token) (n : List ℕ)
      → t.kind ≡ Name n → o.kind ≡ open_brace → e.kind ≡ encoding_word → r.kind ≡ colon → q.kind ≡ semicolon
      → b.kind ≡ behavior_word → h.kind ≡ colon → c.kind ≡ close_brace
      → IsPieces ps ks xs → IsAssembly us js → IsStmt 1 0 ss ms s
      → IsInstr (t ∷ o ∷ e ∷ r ∷ (ps ++ q ∷ (us ++ b ∷ h ∷ (ss ++ c ∷ []))))
      (0 ∷ 0 ∷ 0 ∷ 0 ∷ (ks ++ 0 ∷ (js ++ 0 ∷ 0 ∷ (ms ++ 0 ∷ [])))) (instr_tree t n xs s c)

-- expressions between commas
pub data IsEntries : List Token → List ℕ → List ExprTree → Type 0 where
  last_entry : {ts : List Token} {ms : List ℕ} {v : Part} → IsExpr 2 0 ts ms v → IsEntries ts ms (v.tree ∷ [])
  more_entries : {ts us : List Token} {ms ns : List ℕ} {v : Part} {vs : List ExprTree} (c : Token) → c.kind ≡ comma
      → IsExpr 2 0 ts ms v → IsEntries us ns vs
      → IsEntries (ts ++ c ∷ us) (ms ++ 0 ∷ ns) (v.tree ∷ vs)

pub data IsState : List Token → List ℕ → StateTree → Type 0 where
  is_register : {ys vs : List Token} {ks ms : List ℕ} {y : TypeText} {v : Option Part} (r t c : Token) (n : List ℕ)
      → r.kind ≡ register_word → t.kind ≡ Name n → c.kind ≡ semicolon
      → IsType 0 ys ks y → IsValue 0 vs ms v
      → IsState (r ∷ (ys ++ t ∷ (vs ++ c ∷ []))) (0 ∷ (ks ++ 0 ∷ (ms ++ 0 ∷ []))) (register_tree r y n v c)
  is_table : {ys vs : List Token} {ks ms : List ℕ} {y : TypeText} {xs : List ExprTree} (r t o l q e b z c : Token) (n : List ℕ) (ty : Ty) (w : Bits)
      → r.kind ≡ const_word → t.kind ≡ Name n → o.kind ≡ open_square → l.kind ≡ Unsized ty w → q.kind ≡ close_square
      → e.kind ≡ equals → b.kind ≡ open_brace → z.kind ≡ close_brace → c.kind ≡ semicolon
      → IsType 0 ys ks y → IsEntries vs ms xs
      → IsState (r ∷ (ys ++ t ∷ o ∷ l ∷ q ∷ e ∷ b ∷ (vs ++ z ∷ c ∷ []))) (0 ∷ (ks ++ 0 ∷ 1 ∷ 1 ∷ 1 ∷ 0 ∷ 0 ∷ (ms ++ 0 ∷ 0 ∷ [])))
      (table_tree r y n w.raw xs c)
  is_register_table : {ys vs : List Token} {ks ms : List ℕ} {y : TypeText} {xs : List ExprTree} (r k t o l q e b z c : Token) (n : List ℕ) (ty : Ty) (w : Bits)
      → r.kind ≡ register_word → k.kind ≡ const_word → t.kind ≡ Name n → o.kind ≡ open_square → l.kind ≡ Unsized ty w → q.kind ≡ close_square
      → e.kind ≡ equals → b.kind ≡ open_brace → z.kind ≡ close_brace → c.kind ≡ semicolon
      → IsType 0 ys ks y → IsEntries vs ms xs
      → IsState (r ∷ k ∷ (ys ++ t ∷ o ∷ l ∷ q ∷ e ∷ b ∷ (vs ++ z ∷ c ∷ []))) (0 ∷ 0 ∷ (ks ++ 0 ∷ 1 ∷ 1 ∷ 1 ∷ 0 ∷ 0 ∷ (ms ++ 0 ∷ 0 ∷ [])))
      (table_tree r y n w.raw xs c)

pub data IsAlways : List Token → List ℕ → BlockTree → Type 0 where
  is_always : {ts : List Token} {ms : List ℕ} {ss : List StmtTree} (t o c : Token) (n : List ℕ)
      → t.kind ≡ Name n → o.kind ≡ open_brace → c.kind ≡ close_brace → IsItems 1 ts ms ss
      → IsAlways (t ∷ o ∷ (ts ++ c ∷ [])) (0 ∷ 0 ∷ (ms ++ 0 ∷ [])) (always_tree t n o ss c)

-- one part after another
pub data AreMany {X : Type 0} (Is : List Token → List ℕ → X → Type 0) : List Token → List ℕ → List X → Type 0 where
  no_more : AreMany Is [] [] []
  one_more : {ts us : List Token} {ms ns : List ℕ} {x : X} {xs : List X} → Is ts ms x → AreMany Is us ns xs
      → AreMany Is (ts ++ us) (ms ++ ns) (x ∷ xs)

pub data IsSection : List Token → List ℕ → SectionTree → Type 0 where
  is_states : {ts : List Token} {ms : List ℕ} {xs : List StateTree} (w o c : Token) → w.kind ≡ architectural_state → o.kind ≡ open_brace → c.kind ≡ close_brace
      → AreMany IsState ts ms xs
      → IsSection (w ∷ o ∷ (ts ++ c ∷ [])) (0 ∷ 0 ∷ (ms ++ 0 ∷ [])) (section_tree w (k_states xs) c)
  is_instructions : {ts : List Token} {ms : List ℕ} {xs : List InstrTree} (w o c : Token) → w.kind ≡ instructions_word → o.kind ≡ open_brace → c.kind ≡ close_brace
      → AreMany IsInstr ts ms xs
      → IsSection (w ∷ o ∷ (ts ++ c ∷ [])) (0 ∷ 0 ∷ (ms ++ 0 ∷ [])) (section_tree w (k_instructions xs) c)
  is_always_section : {ts : List Token} {ms : List ℕ} {xs : List BlockTree} (w o c : Token) → w.kind ≡ always_word → o.kind ≡ open_brace → c.kind ≡ close_brace
      → AreMany IsAlways ts ms xs
      → IsSection (w ∷ o ∷ (ts ++ c ∷ [])) (0 ∷ 0 ∷ (ms ++ 0 ∷ [])) (section_tree w (k_always xs) c)

pub data IsText : List Token → List ℕ → TextTree → Type 0 where
  is_text : {ts : List Token} {ms : List ℕ} {xs : List SectionTree} (t i e r o c : Token) (n : List ℕ)
      → t.kind ≡ instruction_set → i.kind ≡ Name n → e.kind ≡ extends_word → r.kind ≡ rv32i_word → o.kind ≡ open_brace → c.kind ≡ close_brace
      → AreMany IsSection ts ms xs
      → IsText (t ∷ i ∷ e ∷ r ∷ o ∷ (ts ++ c ∷ [])) (0 ∷ 0 ∷ 0 ∷ 0 ∷ 0 ∷ (ms ++ 0 ∷ [])) (text_tree t n xs c)

-- the greatest nesting of a token
abbrev pub most_nesting : ℕ
most_nesting = 64

-- all tokens are one text, and no token nests past the greatest nesting
pub record Derives (ts : List Token) (tree : TextTree) : Type 0 where
  pub nestings : List ℕ
  pub is : IsText ts nestings tree
  pub flat : All (λ m. m ≤ most_nesting) nestings
