-- What was read before each state: the tokens, their nestings, and how they stand in the open productions.
use Rattle.std.proofs.Common.{◌≡◌, ℕ, ◌+◌, ◌<◌, List, [], ◌∷◌, ◌++◌, Bool, true, false, Option}
use Rattle.ix_bits.specs.declared.number.Ty.{Ty}
use Rattle.ix_bits.specs.declared.number.Bits.{Bits}
use Rattle.ix_bits.specs.declared.operator.BinOp.{BinOp}
use Rattle.ix_bits.specs.declared.operator.UnOp.{UnOp}
use Rattle.ix_tree.specs.declared.token.Token.{Token}
use Rattle.ix_tree.specs.declared.token.TokenKind.{TokenKind}
use Rattle.ix_tree.specs.declared.token.TokenKind.TheVariants.{Name, Text, Unsized}
use Rattle.ix_tree.specs.declared.expr.TypeText.{TypeText}
use Rattle.ix_tree.specs.declared.expr.CastTo.{CastTo}
use Rattle.ix_tree.specs.declared.expr.CastTo.TheVariants as C
use Rattle.ix_tree.specs.declared.section.PieceText.{PieceText}
use Rattle.ix_tree.specs.Tokens.{instruction_set, extends_word, rv32i_word, architectural_state, instructions_word, always_word, register_word, const_word, encoding_word, assembly_word, behavior_word, signed_word, unsigned_word, if_word, else_word, for_word, spawn_word, x_word, mem_word, open_brace, close_brace, open_square, open_round, close_square, close_round, semicolon, comma, colon, double_colon, equals, question, less}
use Rattle.ix_tree.specs.Trees.{ExprTree, Place, AssignTree, DeclTree, StmtTree, StateTree, SectionTree, InstrTree, BlockTree, TextTree, power, before, Part}
use Rattle.ix_tree.specs.Productions.{Done}
use Rattle.ix_tree.specs.Grammar.{IsOperator, IsUnary, IsAssignOp, IsStep, IsType, IsExpr, IsPlace, IsAssign, IsDecl, IsLoopType, IsStmt, IsItems, IsPiece, AreTexts, IsAssembly, IsPieces, IsInstr, IsEntries, IsState, IsAlways, AreMany, IsSection, IsText}
use Rattle.ix_tree.specs.Machine.{Open, OpenInstr, OpenState, NamedState, OpenAlways, f_unary, f_cast, f_binary, f_round, f_index, f_range, f_then, f_else, f_x, f_mem, f_mem_range, f_step, f_set, f_single, f_last, f_type_cast, f_type_locals, f_type_loop, f_type_register, f_type_table, f_locals, f_value, f_if, f_branch, f_other, f_start, f_test, f_loop, f_spawn, f_block, f_register, f_entries, f_behavior, f_always, Stack, State, want, have, opened, cast_word, typing, type_less, type_width, type_greater, typed, placing, x_square, mem_square, placed, assigned, naming, named, stmt, item, done, if_round, for_round, for_head, for_equals, assigning, fixed, starting, set_name, sections, ended, states, instructions, blocks, state_word, table_length, table_end, piece, piece_square, piece_high, piece_colon, piece_low, piece_end, piece_next, after_pieces, assembly_text, assembly_more, assembly_next, always_brace, is, grip, always_done, next_fixed}

-- ---- parts of productions

-- a part, and the token behind it
pub data Ended {X : Type 0} (mark : TokenKind) (d : ℕ) (Is : List Token → List ℕ → X → Type 0) : List Token → List ℕ → X → Type 0 where
  ended_by : {ts : List Token} {ms : List ℕ} {x : X} (c : Token) → c.kind ≡ mark → Is ts ms x → Ended mark d Is (ts ++ c ∷ []) (ms ++ d ∷ []) x

-- an entry of a table
pub data IsEntry : List Token → List ℕ → ExprTree → Type 0 where
  is_entry : {ts : List Token} {ms : List ℕ} {v : Part} → IsExpr 2 0 ts ms v → IsEntry ts ms v.tree

-- strings, each with a comma behind it
pub data TextsBefore : List Token → List ℕ → Type 0 where
  no_texts : TextsBefore [] []
  text_before : {ts : List Token} {ms : List ℕ} (t c : Token) → t.kind ≡ Text → c.kind ≡ comma → TextsBefore ts ms → TextsBefore (t ∷ c ∷ ts) (0 ∷ 0 ∷ ms)

pub data IsSign : TokenKind → Bool → Type 0 where
  sign_signed : IsSign signed_word true
  sign_unsigned : IsSign unsigned_word false

-- what stands between the brackets of a cast
pub data IsCastTo : ℕ → List Token → List ℕ → CastTo → Type 0 where
  cast_written : {d : ℕ} {ts : List Token} {ms : List ℕ} {y : TypeText} → IsType d ts ms y → IsCastTo d ts ms (C.Written y)
  cast_signed : {d : ℕ} (s : Token) → s.kind ≡ signed_word → IsCastTo d (s ∷ []) (d ∷ []) C.Signed
  cast_unsigned : {d : ℕ} (s : Token) → s.kind ≡ unsigned_word → IsCastTo d (s ∷ []) (d ∷ []) C.Unsigned

-- a loop from its `for` on: to the `=`, to the first `;`, to the second, to the `)`
pub data IsStart : ℕ → Token → Option TypeText → List ℕ → List Token → List ℕ → Type 0 where
  is_start : {d : ℕ} {ys : List Token} {js : List ℕ} {y : Option TypeText} (t o i e : Token) (name : List ℕ)
      → t.kind ≡ for_word → o.kind ≡ open_round → i.kind ≡ Name name → e.kind ≡ equals → IsLoopType (d + 1) ys js y
      → IsStart d t y name (t ∷ o ∷ (ys ++ i ∷ e ∷ [])) (d ∷ (d + 1) ∷ (js ++ (d + 1) ∷ (d + 1) ∷ []))

pub data IsTest : ℕ → Token → Option TypeText → List ℕ → Part → List Token → List ℕ → Type 0 where
  is_test : {d : ℕ} {t : Token} {us ts : List Token} {ks ms : List ℕ} {y : Option TypeText} {v : Part} {name : List ℕ} (c : Token)
      → c.kind ≡ semicolon → IsStart d t y name us ks → IsExpr 2 (d + 1) ts ms v
      → IsTest d t y name v (us ++ (ts ++ c ∷ [])) (ks ++ (ms ++ (d + 1) ∷ []))

pub data IsLast : ℕ → Token → Option TypeText → List ℕ → Part → Part → List Token → List ℕ → Type 0 where
  is_last : {d : ℕ} {t : Token} {us ts : List Token} {ks ms : List ℕ} {y : Option TypeText} {v w : Part} {name : List ℕ} (c : Token)
      → c.kind ≡ semicolon → IsTest d t y name v us ks → IsExpr 2 (d + 1) ts ms w
      → IsLast d t y name v w (us ++ (ts ++ c ∷ [])) (ks ++ (ms ++ (d + 1) ∷ []))

pub data IsHead : ℕ → Token → Option TypeText → List ℕ → Part → Part → AssignTree → List Token → List ℕ → Type 0 where
  is_head : {d : ℕ} {t : Token} {us ts : List Token} {ks ms : List ℕ} {y : Option TypeText} {v w : Part} {a : AssignTree} {name : List ℕ} (c : Token)
      → c.kind ≡ close_round → IsLast d t y name v w us ks → IsAssign (d + 1) ts ms a
      → IsHead d t y name v w a (us ++ (ts ++ c ∷ [])) (ks ++ (ms ++ (d + 1) ∷ []))

-- ---- the text before the parts of a section
pub data InText : Token → List ℕ → List SectionTree → List Token → List ℕ → Type 0 where
  in_text : {ts : List Token} {ms : List ℕ} {xs : List SectionTree} (t i e r o : Token) (n : List ℕ)
      → t.kind ≡ instruction_set → i.kind ≡ Name n → e.kind ≡ extends_word → r.kind ≡ rv32i_word → o.kind ≡ open_brace
      → AreMany IsSection ts ms xs
      → InText t n xs (t ∷ i ∷ e ∷ r ∷ o ∷ ts) (0 ∷ 0 ∷ 0 ∷ 0 ∷ 0 ∷ ms)

pub data InSection {X : Type 0} (word : TokenKind) (Is : List Token → List ℕ → X → Type 0) : Open → List X → List Token → List ℕ → Type 0 where
  in_section : {w : Open} {xs : List X} {p ts : List Token} {ms ns : List ℕ} (o : Token) → w.word.kind ≡ word → o.kind ≡ open_brace
      → InText w.first w.name w.sections p ms → AreMany Is ts ns xs
      → InSection word Is w xs (p ++ w.word ∷ o ∷ ts) (ms ++ 0 ∷ 0 ∷ ns)

abbrev pub InStates : Open → List StateTree → List Token → List ℕ → Type 0
InStates = InSection architectural_state IsState

abbrev pub InInstrs : Open → List InstrTree → List Token → List ℕ → Type 0
InInstrs = InSection instructions_word IsInstr

abbrev pub InBlocks : Open → List BlockTree → List Token → List ℕ → Type 0
InBlocks = InSection always_word IsAlways

-- ---- registers and tables
pub data InTableType : OpenState → List Token → List ℕ → Type 0 where
  in_const : {r : OpenState} {p : List Token} {ms : List ℕ} → r.first.kind ≡ const_word → InStates r.within r.before p ms
      → InTableType r (p ++ r.first ∷ []) (ms ++ 0 ∷ [])
  in_register_const : {r : OpenState} {p : List Token} {ms : List ℕ} (k : Token) → r.first.kind ≡ register_word → k.kind ≡ const_word
      → InStates r.within r.before p ms
      → InTableType r (p ++ r.first ∷ k ∷ []) (ms ++ 0 ∷ 0 ∷ [])

pub data InTable : NamedState → List Token → List ℕ → Type 0 where
  in_table : {k : NamedState} {p us : List Token} {ms ks : List ℕ} (t o : Token) → t.kind ≡ Name k.name → o.kind ≡ open_square
      → IsType 0 us ks k.ty → InTableType k.state p ms
      → InTable k (p ++ (us ++ t ∷ o ∷ [])) (ms ++ (ks ++ 0 ∷ 1 ∷ []))

pub data InEntries : NamedState → ℕ → List ExprTree → List Token → List ℕ → Type 0 where
  in_entries : {k : NamedState} {xs : List ExprTree} {p ts : List Token} {ms ns : List ℕ} (l q e b : Token) (ty : Ty) (w : Bits)
      → l.kind ≡ Unsized ty w → q.kind ≡ close_square → e.kind ≡ equals → b.kind ≡ open_brace
      → InTable k p ms → AreMany (Ended comma 0 IsEntry) ts ns xs
      → InEntries k w.raw xs (p ++ l ∷ q ∷ e ∷ b ∷ ts) (ms ++ 1 ∷ 1 ∷ 0 ∷ 0 ∷ ns)

-- ---- instructions
pub data InInstr : Open → List InstrTree → Token → List ℕ → List Token → List ℕ → Type 0 where
  in_instr : {w : Open} {xs : List InstrTree} {n : List ℕ} {p : List Token} {ms : List ℕ} (t o e r : Token)
      → t.kind ≡ Name n → o.kind ≡ open_brace → e.kind ≡ encoding_word → r.kind ≡ colon → InInstrs w xs p ms
      → InInstr w xs t n (p ++ t ∷ o ∷ e ∷ r ∷ []) (ms ++ 0 ∷ 0 ∷ 0 ∷ 0 ∷ [])

-- before a piece, behind one, behind all
pub data InPieces : OpenInstr → List Token → List ℕ → Type 0 where
  in_pieces : {i : OpenInstr} {p ts : List Token} {ms ns : List ℕ} → InInstr i.within i.before i.first i.name p ms
      → AreMany (Ended double_colon 0 IsPiece) ts ns i.pieces
      → InPieces i (p ++ ts) (ms ++ ns)

pub data OnPiece : OpenInstr → List Token → List ℕ → Type 0 where
  on_piece : {i : OpenInstr} {p ts us : List Token} {ms ns ks : List ℕ} (xs : List PieceText) (x : PieceText) → i.pieces ≡ xs ++ x ∷ []
      → InInstr i.within i.before i.first i.name p ms → AreMany (Ended double_colon 0 IsPiece) ts ns xs → IsPiece us ks x
      → OnPiece i (p ++ (ts ++ us)) (ms ++ (ns ++ ks))

pub data PastPieces : OpenInstr → List Token → List ℕ → Type 0 where
  past_pieces : {i : OpenInstr} {p ts : List Token} {ms ns : List ℕ} (q : Token) → q.kind ≡ semicolon
      → InInstr i.within i.before i.first i.name p ms → IsPieces ts ns i.pieces
      → PastPieces i (p ++ (ts ++ q ∷ [])) (ms ++ (ns ++ 0 ∷ []))

pub data InBehavior : OpenInstr → List Token → List ℕ → Type 0 where
  in_behavior : {i : OpenInstr} {p us : List Token} {ms js : List ℕ} (b h : Token) → b.kind ≡ behavior_word → h.kind ≡ colon
      → PastPieces i p ms → IsAssembly us js
      → InBehavior i (p ++ (us ++ b ∷ h ∷ [])) (ms ++ (js ++ 0 ∷ 0 ∷ []))

-- ---- before a statement of a nesting
pub data InStmt : ℕ → Stack → List Token → List ℕ → Type 0 where
  i_behavior : {i : OpenInstr} {p : List Token} {ms : List ℕ} → InBehavior i p ms → InStmt 0 (f_behavior i ∷ []) p ms
  i_branch : {d : ℕ} {k : Stack} {p cs : List Token} {ms ns : List ℕ} {c : Part} (t o r : Token) → t.kind ≡ if_word → o.kind ≡ open_round → r.kind ≡ close_round
      → IsExpr 2 (d + 1) cs ns c → InStmt d k p ms
      → InStmt (d + 1) (f_branch d t c ∷ k) (p ++ t ∷ o ∷ (cs ++ r ∷ [])) (ms ++ d ∷ (d + 1) ∷ (ns ++ (d + 1) ∷ []))
  i_other : {d : ℕ} {k : Stack} {p cs ss : List Token} {ms ns os : List ℕ} {c : Part} {s : Done} (t o r e : Token)
      → t.kind ≡ if_word → o.kind ≡ open_round → r.kind ≡ close_round → e.kind ≡ else_word
      → IsExpr 2 (d + 1) cs ns c → IsStmt 2 (d + 1) ss os s → InStmt d k p ms
      → InStmt (d + 1) (f_other d t c s ∷ k) (p ++ t ∷ o ∷ (cs ++ r ∷ (ss ++ e ∷ []))) (ms ++ d ∷ (d + 1) ∷ (ns ++ (d + 1) ∷ (os ++ d ∷ [])))
  i_loop : {d : ℕ} {k : Stack} {p us : List Token} {ms ks : List ℕ} {t : Token} {y : Option TypeText} {n : List ℕ} {v w : Part} {a : AssignTree}
      → IsHead d t y n v w a us ks → InStmt d k p ms
      → InStmt (d + 1) (f_loop d t y n v w a ∷ k) (p ++ us) (ms ++ ks)
  i_spawn : {d : ℕ} {k : Stack} {p : List Token} {ms : List ℕ} (t : Token) → t.kind ≡ spawn_word → InStmt d k p ms
      → InStmt (d + 1) (f_spawn d t ∷ k) (p ++ t ∷ []) (ms ++ d ∷ [])
  i_block : {d : ℕ} {k : Stack} {p ts : List Token} {ms ns : List ℕ} {ss : List StmtTree} (o : Token) → o.kind ≡ open_brace → IsItems (d + 1) ts ns ss
      → InStmt d k p ms
      → InStmt (d + 1) (f_block d o ss ∷ k) (p ++ o ∷ ts) (ms ++ d ∷ ns)
  i_always : {a : OpenAlways} {p ts : List Token} {ms ns : List ℕ} {ss : List StmtTree} (o : Token) → o.kind ≡ open_brace → a.first.kind ≡ Name a.name
      → IsItems 1 ts ns ss → InBlocks a.within a.before p ms
      → InStmt 1 (f_block 0 o ss ∷ f_always a ∷ []) (p ++ a.first ∷ o ∷ ts) (ms ++ 0 ∷ 0 ∷ ns)

-- ---- before an assignment, and before a place
pub data InAssign : ℕ → Stack → List Token → List ℕ → Type 0 where
  i_single : {d : ℕ} {k : Stack} {p : List Token} {ms : List ℕ} → InStmt d k p ms → InAssign d (f_single d ∷ k) p ms
  i_last : {d : ℕ} {k : Stack} {p us : List Token} {ms ks : List ℕ} {t : Token} {y : Option TypeText} {n : List ℕ} {v w : Part}
      → IsLast d t y n v w us ks → InStmt d k p ms
      → InAssign (d + 1) (f_last d t y n v w ∷ k) (p ++ us) (ms ++ ks)

pub data InPlace : ℕ → Stack → List Token → List ℕ → Type 0 where
  i_plain : {d : ℕ} {k : Stack} {p : List Token} {ms : List ℕ} → InAssign d k p ms → InPlace d k p ms
  i_step : {d : ℕ} {k : Stack} {p : List Token} {ms : List ℕ} {op : BinOp} (s : Token) → IsStep s.kind op → InAssign d k p ms
      → InPlace d (f_step s op ∷ k) (p ++ s ∷ []) (ms ++ d ∷ [])

-- ---- before a declaration; behind its name
pub data InDecls : ℕ → TypeText → List DeclTree → Stack → List Token → List ℕ → Type 0 where
  in_decls : {d : ℕ} {k : Stack} {p us ts : List Token} {ms ks ns : List ℕ} {y : TypeText} {xs : List DeclTree}
      → IsType d us ks y → AreMany (Ended comma d (IsDecl d)) ts ns xs → InStmt d k p ms
      → InDecls d y xs k (p ++ (us ++ ts)) (ms ++ (ks ++ ns))

pub data InNamed : ℕ → Token → List ℕ → Stack → List Token → List ℕ → Type 0 where
  in_local : {d : ℕ} {k : Stack} {p : List Token} {ms : List ℕ} {y : TypeText} {xs : List DeclTree} (t : Token) (n : List ℕ) → t.kind ≡ Name n
      → InDecls d y xs k p ms
      → InNamed d t n (f_locals d y xs ∷ k) (p ++ t ∷ []) (ms ++ d ∷ [])
  in_register : {r : NamedState} {p us : List Token} {ms ks : List ℕ} (t : Token) → t.kind ≡ Name r.name → r.state.first.kind ≡ register_word
      → IsType 0 us ks r.ty → InStates r.state.within r.state.before p ms
      → InNamed 0 t r.name (f_register r ∷ []) (p ++ r.state.first ∷ (us ++ t ∷ [])) (ms ++ 0 ∷ (ks ++ 0 ∷ []))

-- ---- before an expression
pub data InExpr : ℕ → Stack → List Token → List ℕ → Type 0 where
  i_unary : {d : ℕ} {k : Stack} {p : List Token} {ms : List ℕ} {op : UnOp} (t : Token) → IsUnary t.kind op → InExpr d k p ms
      → InExpr (d + 1) (f_unary d t op ∷ k) (p ++ t ∷ []) (ms ++ d ∷ [])
  i_cast : {d : ℕ} {k : Stack} {p us : List Token} {ms ks : List ℕ} {to : CastTo} (o c : Token) → o.kind ≡ open_round → c.kind ≡ close_round
      → IsCastTo (d + 1) us ks to → InExpr d k p ms
      → InExpr (d + 1) (f_cast d o to ∷ k) (p ++ o ∷ (us ++ c ∷ [])) (ms ++ (d + 1) ∷ (ks ++ (d + 1) ∷ []))
  i_binary : {d : ℕ} {k : Stack} {p xs : List Token} {ms ns : List ℕ} {x : Part} (t : Token) → IsOperator t.kind → IsExpr (power t.kind) d xs ns x
      → grip k < power t.kind → InExpr d k p ms
      → InExpr (d + (before (power t.kind) x + 1)) (f_binary d x t ∷ k) (p ++ (xs ++ t ∷ [])) (ms ++ (ns ++ (d + before (power t.kind) x) ∷ []))
  i_round : {d : ℕ} {k : Stack} {p : List Token} {ms : List ℕ} (o : Token) → o.kind ≡ open_round → InExpr d k p ms
      → InExpr (d + 1) (f_round d o ∷ k) (p ++ o ∷ []) (ms ++ (d + 1) ∷ [])
  i_index : {d : ℕ} {k : Stack} {p xs : List Token} {ms ns : List ℕ} {x : Part} (o : Token) → o.kind ≡ open_square → IsExpr 26 d xs ns x → InExpr d k p ms
      → InExpr (d + (before 26 x + 1)) (f_index d x ∷ k) (p ++ (xs ++ o ∷ [])) (ms ++ (ns ++ (d + (before 26 x + 1)) ∷ []))
  i_range : {d : ℕ} {k : Stack} {p xs ys : List Token} {ms ns ks : List ℕ} {x y : Part} (o r : Token) → o.kind ≡ open_square → r.kind ≡ colon
      → IsExpr 26 d xs ns x → IsExpr 2 (d + (before 26 x + 1)) ys ks y → InExpr d k p ms
      → InExpr (d + (before 26 x + 1)) (f_range d x y ∷ k) (p ++ (xs ++ o ∷ (ys ++ r ∷ [])))
      (ms ++ (ns ++ (d + (before 26 x + 1)) ∷ (ks ++ (d + (before 26 x + 1)) ∷ [])))
  i_then : {d : ℕ} {k : Stack} {p cs : List Token} {ms ns : List ℕ} {c : Part} (q : Token) → q.kind ≡ question → IsExpr 3 d cs ns c → grip k < 2 → InExpr d k p ms
      → InExpr (d + 1) (f_then d c ∷ k) (p ++ (cs ++ q ∷ [])) (ms ++ (ns ++ d ∷ []))
  i_else : {d : ℕ} {k : Stack} {p cs xs : List Token} {ms ns ks : List ℕ} {c x : Part} (q r : Token) → q.kind ≡ question → r.kind ≡ colon
      → IsExpr 3 d cs ns c → IsExpr 2 (d + 1) xs ks x → grip k < 2 → InExpr d k p ms
      → InExpr (d + 1) (f_else d c x ∷ k) (p ++ (cs ++ q ∷ (xs ++ r ∷ []))) (ms ++ (ns ++ d ∷ (ks ++ d ∷ [])))
  i_x : {d : ℕ} {k : Stack} {p : List Token} {ms : List ℕ} (t o : Token) → t.kind ≡ x_word → o.kind ≡ open_square → InPlace d k p ms
      → InExpr (d + 1) (f_x d t ∷ k) (p ++ t ∷ o ∷ []) (ms ++ d ∷ (d + 1) ∷ [])
  i_mem : {d : ℕ} {k : Stack} {p : List Token} {ms : List ℕ} (t o : Token) → t.kind ≡ mem_word → o.kind ≡ open_square → InPlace d k p ms
      → InExpr (d + 1) (f_mem d t ∷ k) (p ++ t ∷ o ∷ []) (ms ++ d ∷ (d + 1) ∷ [])
  i_mem_range : {d : ℕ} {k : Stack} {p ts : List Token} {ms ns : List ℕ} {v : Part} (t o r : Token) → t.kind ≡ mem_word → o.kind ≡ open_square → r.kind ≡ colon
      → IsExpr 2 (d + 1) ts ns v → InPlace d k p ms
      → InExpr (d + 1) (f_mem_range d t v ∷ k) (p ++ t ∷ o ∷ (ts ++ r ∷ [])) (ms ++ d ∷ (d + 1) ∷ (ns ++ (d + 1) ∷ []))
  i_set : {d : ℕ} {k : Stack} {p xs : List Token} {ms ns : List ℕ} {l : Place} {op : Option BinOp} (t : Token) → IsAssignOp t.kind op → IsPlace d xs ns l
      → InAssign d k p ms
      → InExpr d (f_set d l op ∷ k) (p ++ (xs ++ t ∷ [])) (ms ++ (ns ++ d ∷ []))
  i_value : {d : ℕ} {k : Stack} {p : List Token} {ms : List ℕ} {t : Token} {n : List ℕ} (e : Token) → e.kind ≡ equals → InNamed d t n k p ms
      → InExpr d (f_value t n ∷ k) (p ++ e ∷ []) (ms ++ d ∷ [])
  i_if : {d : ℕ} {k : Stack} {p : List Token} {ms : List ℕ} (t o : Token) → t.kind ≡ if_word → o.kind ≡ open_round → InStmt d k p ms
      → InExpr (d + 1) (f_if d t ∷ k) (p ++ t ∷ o ∷ []) (ms ++ d ∷ (d + 1) ∷ [])
  i_start : {d : ℕ} {k : Stack} {p us : List Token} {ms ks : List ℕ} {t : Token} {y : Option TypeText} {n : List ℕ} → IsStart d t y n us ks → InStmt d k p ms
      → InExpr (d + 1) (f_start d t y n ∷ k) (p ++ us) (ms ++ ks)
  i_test : {d : ℕ} {k : Stack} {p us : List Token} {ms ks : List ℕ} {t : Token} {y : Option TypeText} {n : List ℕ} {v : Part} → IsTest d t y n v us ks → InStmt d k p ms
      → InExpr (d + 1) (f_test d t y n v ∷ k) (p ++ us) (ms ++ ks)
  i_entries : {p : List Token} {ms : List ℕ} {r : NamedState} {w : ℕ} {xs : List ExprTree} → InEntries r w xs p ms
      → InExpr 0 (f_entries r w xs ∷ []) p ms

-- ---- before a type
pub data InType : ℕ → Stack → List Token → List ℕ → Type 0 where
  i_type_cast : {d : ℕ} {k : Stack} {p : List Token} {ms : List ℕ} (o : Token) → o.kind ≡ open_round → InExpr d k p ms
      → InType (d + 1) (f_type_cast d o ∷ k) (p ++ o ∷ []) (ms ++ (d + 1) ∷ [])
  i_type_locals : {d : ℕ} {k : Stack} {p : List Token} {ms : List ℕ} → InStmt d k p ms → InType d (f_type_locals d ∷ k) p ms
  i_type_loop : {d : ℕ} {k : Stack} {p : List Token} {ms : List ℕ} (t o : Token) → t.kind ≡ for_word → o.kind ≡ open_round → InStmt d k p ms
      → InType (d + 1) (f_type_loop d t ∷ k) (p ++ t ∷ o ∷ []) (ms ++ d ∷ (d + 1) ∷ [])
  i_type_register : {r : OpenState} {p : List Token} {ms : List ℕ} → r.first.kind ≡ register_word → InStates r.within r.before p ms
      → InType 0 (f_type_register r ∷ []) (p ++ r.first ∷ []) (ms ++ 0 ∷ [])
  i_type_table : {r : OpenState} {p : List Token} {ms : List ℕ} → InTableType r p ms → InType 0 (f_type_table r ∷ []) p ms

-- ---- a state, and the tokens and nestings that lead to it
pub data Reached : State → List Token → List ℕ → Type 0 where
  r_want : {d : ℕ} {k : Stack} {p : List Token} {ms : List ℕ} → InExpr d k p ms → Reached (want d k) p ms
  r_have : {d : ℕ} {k : Stack} {p ts : List Token} {ms ns : List ℕ} {v : Part} → IsExpr 26 d ts ns v → InExpr d k p ms → Reached (have d v k) (p ++ ts) (ms ++ ns)
  r_opened : {d : ℕ} {k : Stack} {p : List Token} {ms : List ℕ} (o : Token) → o.kind ≡ open_round → InExpr d k p ms
      → Reached (opened d o k) (p ++ o ∷ []) (ms ++ (d + 1) ∷ [])
  r_cast_word : {d : ℕ} {k : Stack} {p : List Token} {ms : List ℕ} {signed : Bool} (o s : Token) → o.kind ≡ open_round → IsSign s.kind signed → InExpr d k p ms
      → Reached (cast_word d o s signed k) (p ++ o ∷ s ∷ []) (ms ++ (d + 1) ∷ (d + 1) ∷ [])
  r_typing : {d : ℕ} {k : Stack} {p : List Token} {ms : List ℕ} → InType d k p ms → Reached (typing d k) p ms
  r_type_less : {d : ℕ} {k : Stack} {p : List Token} {ms : List ℕ} {signed : Bool} (s : Token) → IsSign s.kind signed → InType d k p ms
      → Reached (type_less d s signed k) (p ++ s ∷ []) (ms ++ d ∷ [])
  r_type_width : {d : ℕ} {k : Stack} {p : List Token} {ms : List ℕ} {signed : Bool} (s o : Token) → IsSign s.kind signed → o.kind ≡ less → InType d k p ms
      → Reached (type_width d s signed k) (p ++ s ∷ o ∷ []) (ms ++ d ∷ d ∷ [])
  r_type_greater : {d : ℕ} {k : Stack} {p : List Token} {ms : List ℕ} {signed : Bool} (s o n : Token) (ty : Ty) (w : Bits)
      → IsSign s.kind signed → o.kind ≡ less → n.kind ≡ Unsized ty w → InType d k p ms
      → Reached (type_greater d s signed w.raw k) (p ++ s ∷ o ∷ n ∷ []) (ms ++ d ∷ d ∷ d ∷ [])
  r_typed : {d : ℕ} {k : Stack} {p us : List Token} {ms ks : List ℕ} {y : TypeText} → IsType d us ks y → InType d k p ms
      → Reached (typed y k) (p ++ us) (ms ++ ks)
  r_placing : {d : ℕ} {k : Stack} {p : List Token} {ms : List ℕ} → InPlace d k p ms → Reached (placing d k) p ms
  r_x_square : {d : ℕ} {k : Stack} {p : List Token} {ms : List ℕ} (t : Token) → t.kind ≡ x_word → InPlace d k p ms
      → Reached (x_square d t k) (p ++ t ∷ []) (ms ++ d ∷ [])
  r_mem_square : {d : ℕ} {k : Stack} {p : List Token} {ms : List ℕ} (t : Token) → t.kind ≡ mem_word → InPlace d k p ms
      → Reached (mem_square d t k) (p ++ t ∷ []) (ms ++ d ∷ [])
  r_placed : {d : ℕ} {k : Stack} {p us : List Token} {ms ks : List ℕ} {l : Place} → IsPlace d us ks l → InPlace d k p ms
      → Reached (placed l k) (p ++ us) (ms ++ ks)
  r_assigned : {d : ℕ} {k : Stack} {p us : List Token} {ms ks : List ℕ} {a : AssignTree} → IsAssign d us ks a → InAssign d k p ms
      → Reached (assigned a k) (p ++ us) (ms ++ ks)
  r_naming : {d : ℕ} {k : Stack} {p : List Token} {ms : List ℕ} {y : TypeText} {xs : List DeclTree} → InDecls d y xs k p ms
      → Reached (naming d y xs k) p ms
  r_named : {d : ℕ} {k : Stack} {p : List Token} {ms : List ℕ} {t : Token} {n : List ℕ} → InNamed d t n k p ms → Reached (named d t n k) p ms
  r_stmt : {d : ℕ} {k : Stack} {p : List Token} {ms : List ℕ} → InStmt d k p ms → Reached (stmt d k) p ms
  r_item : {d : ℕ} {k : Stack} {p ts : List Token} {ms ns : List ℕ} {ss : List StmtTree} (o : Token) → o.kind ≡ open_brace → IsItems (d + 1) ts ns ss
      → InStmt d k p ms
      → Reached (item d o ss k) (p ++ o ∷ ts) (ms ++ d ∷ ns)
  r_item_always : {a : OpenAlways} {p : List Token} {ms : List ℕ} (o : Token) → o.kind ≡ open_brace → a.first.kind ≡ Name a.name
      → InBlocks a.within a.before p ms
      → Reached (item 0 o [] (f_always a ∷ [])) (p ++ a.first ∷ o ∷ []) (ms ++ 0 ∷ 0 ∷ [])
  r_done : {d : ℕ} {k : Stack} {p ts : List Token} {ms ns : List ℕ} {s : Done} → IsStmt 2 d ts ns s → InStmt d k p ms
      → Reached (done s k) (p ++ ts) (ms ++ ns)
  r_done_always : {a : OpenAlways} {p ts : List Token} {ms ns : List ℕ} {s : Done} → IsAlways ts ns (always_done a s) → InBlocks a.within a.before p ms
      → Reached (done s (f_always a ∷ [])) (p ++ ts) (ms ++ ns)
  r_if_round : {d : ℕ} {k : Stack} {p : List Token} {ms : List ℕ} (t : Token) → t.kind ≡ if_word → InStmt d k p ms
      → Reached (if_round d t k) (p ++ t ∷ []) (ms ++ d ∷ [])
  r_for_round : {d : ℕ} {k : Stack} {p : List Token} {ms : List ℕ} (t : Token) → t.kind ≡ for_word → InStmt d k p ms
      → Reached (for_round d t k) (p ++ t ∷ []) (ms ++ d ∷ [])
  r_for_head : {d : ℕ} {k : Stack} {p : List Token} {ms : List ℕ} (t o : Token) → t.kind ≡ for_word → o.kind ≡ open_round → InStmt d k p ms
      → Reached (for_head d t k) (p ++ t ∷ o ∷ []) (ms ++ d ∷ (d + 1) ∷ [])
  r_for_equals : {d : ℕ} {k : Stack} {p ys : List Token} {ms js : List ℕ} {y : Option TypeText} {n : List ℕ} (t o i : Token)
      → t.kind ≡ for_word → o.kind ≡ open_round → i.kind ≡ Name n → IsLoopType (d + 1) ys js y → InStmt d k p ms
      → Reached (for_equals d t y n k) (p ++ t ∷ o ∷ (ys ++ i ∷ [])) (ms ++ d ∷ (d + 1) ∷ (js ++ (d + 1) ∷ []))
  r_assigning : {d : ℕ} {k : Stack} {p : List Token} {ms : List ℕ} → InAssign d k p ms → Reached (assigning d k) p ms
  -- each token of the kind leads on
  r_fixed : {d : ℕ} {kind : TokenKind} {ks : List TokenKind} {z : State} {p : List Token} {ms : List ℕ}
      → is kind kind ≡ true → ((t : Token) → t.kind ≡ kind → Reached (next_fixed d ks z) (p ++ t ∷ []) (ms ++ d ∷ []))
      → Reached (fixed d kind ks z) p ms
  r_starting : Reached starting [] []
  r_set_name : (t : Token) → t.kind ≡ instruction_set → Reached (set_name t) (t ∷ []) (0 ∷ [])
  r_sections : {p : List Token} {ms : List ℕ} {t : Token} {n : List ℕ} {xs : List SectionTree} → InText t n xs p ms → Reached (sections t n xs) p ms
  r_ended : {p : List Token} {ms : List ℕ} {x : TextTree} → IsText p ms x → Reached (ended x) p ms
  r_states : {o : Open} {xs : List StateTree} {p : List Token} {ms : List ℕ} → InStates o xs p ms → Reached (states o xs) p ms
  r_instructions : {o : Open} {xs : List InstrTree} {p : List Token} {ms : List ℕ} → InInstrs o xs p ms → Reached (instructions o xs) p ms
  r_blocks : {o : Open} {xs : List BlockTree} {p : List Token} {ms : List ℕ} → InBlocks o xs p ms → Reached (blocks o xs) p ms
  r_state_word : {r : OpenState} {p : List Token} {ms : List ℕ} → r.first.kind ≡ register_word → InStates r.within r.before p ms
      → Reached (state_word r) (p ++ r.first ∷ []) (ms ++ 0 ∷ [])
  r_table_length : {k : NamedState} {p : List Token} {ms : List ℕ} → InTable k p ms → Reached (table_length k) p ms
  r_table_end : {k : NamedState} {w : ℕ} {xs : List ExprTree} {p us : List Token} {ms ns : List ℕ} (z : Token) → z.kind ≡ close_brace
      → InEntries k w [] p ms → IsEntries us ns xs
      → Reached (table_end k w xs) (p ++ (us ++ z ∷ [])) (ms ++ (ns ++ 0 ∷ []))
  r_piece : {i : OpenInstr} {p : List Token} {ms : List ℕ} → InPieces i p ms → Reached (piece i) p ms
  r_piece_square : {i : OpenInstr} {p : List Token} {ms : List ℕ} {n : List ℕ} (t : Token) → t.kind ≡ Name n → InPieces i p ms
      → Reached (piece_square i t n) (p ++ t ∷ []) (ms ++ 0 ∷ [])
  r_piece_high : {i : OpenInstr} {p : List Token} {ms : List ℕ} {n : List ℕ} (t o : Token) → t.kind ≡ Name n → o.kind ≡ open_square → InPieces i p ms
      → Reached (piece_high i t n) (p ++ t ∷ o ∷ []) (ms ++ 0 ∷ 1 ∷ [])
  r_piece_colon : {i : OpenInstr} {p : List Token} {ms : List ℕ} {n : List ℕ} (t o h : Token) (ty : Ty) (hi : Bits)
      → t.kind ≡ Name n → o.kind ≡ open_square → h.kind ≡ Unsized ty hi → InPieces i p ms
      → Reached (piece_colon i t n hi.raw) (p ++ t ∷ o ∷ h ∷ []) (ms ++ 0 ∷ 1 ∷ 1 ∷ [])
  r_piece_low : {i : OpenInstr} {p : List Token} {ms : List ℕ} {n : List ℕ} (t o h r : Token) (ty : Ty) (hi : Bits)
      → t.kind ≡ Name n → o.kind ≡ open_square → h.kind ≡ Unsized ty hi → r.kind ≡ colon → InPieces i p ms
      → Reached (piece_low i t n hi.raw) (p ++ t ∷ o ∷ h ∷ r ∷ []) (ms ++ 0 ∷ 1 ∷ 1 ∷ 1 ∷ [])
  r_piece_end : {i : OpenInstr} {p : List Token} {ms : List ℕ} {n : List ℕ} (t o h r l : Token) (ty uy : Ty) (hi lo : Bits)
      → t.kind ≡ Name n → o.kind ≡ open_square → h.kind ≡ Unsized ty hi → r.kind ≡ colon → l.kind ≡ Unsized uy lo → InPieces i p ms
      → Reached (piece_end i t n hi.raw lo.raw) (p ++ t ∷ o ∷ h ∷ r ∷ l ∷ []) (ms ++ 0 ∷ 1 ∷ 1 ∷ 1 ∷ 1 ∷ [])
  r_piece_next : {i : OpenInstr} {p : List Token} {ms : List ℕ} → OnPiece i p ms → Reached (piece_next i) p ms
  r_after_pieces : {i : OpenInstr} {p : List Token} {ms : List ℕ} → PastPieces i p ms → Reached (after_pieces i) p ms
  r_assembly_text : {i : OpenInstr} {p : List Token} {ms : List ℕ} (a c : Token) → a.kind ≡ assembly_word → c.kind ≡ colon → PastPieces i p ms
      → Reached (assembly_text i) (p ++ a ∷ c ∷ []) (ms ++ 0 ∷ 0 ∷ [])
  r_assembly_more : {i : OpenInstr} {p ts : List Token} {ms ns : List ℕ} (a c o : Token) → a.kind ≡ assembly_word → c.kind ≡ colon → o.kind ≡ open_brace
      → PastPieces i p ms → TextsBefore ts ns
      → Reached (assembly_more i) (p ++ a ∷ c ∷ o ∷ ts) (ms ++ 0 ∷ 0 ∷ 0 ∷ ns)
  r_assembly_next : {i : OpenInstr} {p ts : List Token} {ms ns : List ℕ} (a c o : Token) → a.kind ≡ assembly_word → c.kind ≡ colon → o.kind ≡ open_brace
      → PastPieces i p ms → AreTexts ts ns
      → Reached (assembly_next i) (p ++ a ∷ c ∷ o ∷ ts) (ms ++ 0 ∷ 0 ∷ 0 ∷ ns)
  r_always_brace : {o : Open} {xs : List BlockTree} {p : List Token} {ms : List ℕ} {n : List ℕ} (t : Token) → t.kind ≡ Name n → InBlocks o xs p ms
      → Reached (always_brace o xs t n) (p ++ t ∷ []) (ms ++ 0 ∷ [])
