-- What derives is read: the tokens of a place, an assignment, a declaration or a statement lead from the state that wants it to the state that has it.
use Rattle.std.proofs.Common.{◌≡◌, ℕ, ◌+◌, ◌<◌, ◌≤◌, List, [], ◌∷◌, ◌++◌, false, refl, ap, sym, ◌∙◌, append_assoc, append-nil, arith, Option, Some, None}
use Rattle.ix_bits.specs.declared.operator.BinOp.{BinOp}
use Rattle.ix_tree.specs.declared.token.Token.{Token}
use Rattle.ix_tree.specs.declared.token.TokenKind.{TokenKind}
use Rattle.ix_tree.specs.declared.token.TokenKind.TheVariants.{Name}
use Rattle.ix_tree.specs.declared.expr.TypeText.{TypeText}
use Rattle.ix_tree.specs.Tokens.{open_brace, close_brace, close_square, open_round, close_round, semicolon, comma, colon, equals, if_word, else_word, for_word, spawn_word}
use Rattle.ix_tree.specs.Trees.{Place, AssignTree, DeclTree, StmtTree, power, Part}
use Rattle.ix_tree.specs.Productions.{place_x, place_mem, place_mem_range, assign_after, Done, d_block, d_empty, d_locals, d_assign, d_if, d_if_else, d_for}
use Rattle.ix_tree.specs.Grammar.{IsAssignOp, assign_plain, assign_add, assign_sub, assign_mul, assign_and, assign_or, assign_xor, assign_shl, assign_shr, IsStep, step_up, step_down, IsType, type_signed, type_unsigned, type_int, type_bool, IsExpr, IsValue, no_value, some_value, IsPlace, is_name, is_pc, is_x, is_mem, is_mem_range, IsAssign, is_set, is_step_before, is_step_after, IsDecl, is_decl, IsDecls, last_decl, more_decls, IsLoopType, no_type, some_type, IsStmt, is_block, is_empty, is_locals, is_assign, is_if, is_if_else, is_for, is_spawn, IsItems, no_items, more_items}
use Rattle.ix_tree.specs.Machine.{f_x, f_mem, f_mem_range, f_step, f_set, f_single, f_last, f_type_locals, f_type_loop, f_locals, f_value, f_if, f_branch, f_other, f_start, f_test, f_loop, f_spawn, f_block, Stack, State, want, have, typing, typed, placing, x_square, mem_square, placed, assigned, naming, named, stmt, item, done, if_round, for_round, for_head, for_equals, assigning, go, is, assign_of, grip, close, after_assign, around, set_or_step, after_decl, after_value, begin_stmt, power_stmt, settle_stmt, act, step, then_at, run, marked}
use Rattle.ix_tree.proofs.Steps.{one, same, take_one, join, marked-append, power_is, step_close, EndsStmt, weaken_stmt, settle_stmt_stop, popped_stmt}
use Rattle.ix_tree.proofs.Expressions.{complete_type, complete}

-- an expression up to the token that closes it
pub closed : {d : ℕ} {ts : List Token} {ms : List ℕ} {v : Part} → IsExpr 2 d ts ms v → (k : Stack) (c : Token) (m : ℕ) (rest : List Token) (z : State)
    → power c.kind ≡ 1 → grip k < 1 → close d v k c ≡ go m z
    → run (want d k) (ts ++ c ∷ rest) ≡ marked ms (then_at m (run z rest))
closed {d} {ts} {ms} {v} e k c m rest z p g h =
    join ms (complete e k (c ∷ rest) (omega arith) (omega arith, λ h. omega arith, λ h. omega arith))
    (one (have d v k) c rest m z (step_close d v c k m z p g h))

-- ---- places
pub complete_place : {d : ℕ} {ts : List Token} {ms : List ℕ} {l : Place} → IsPlace d ts ms l → (k : Stack) (rest : List Token)
    → run (placing d k) (ts ++ rest) ≡ marked ms (run (placed l k) rest)
unfolding step power
complete_place {d} (is_name t n a) k rest = one (placing d k) t rest d _ (rw a refl)
complete_place {d} (is_pc t a) k rest = one (placing d k) t rest d _ (rw a refl)
complete_place {d} (is_x {ts = ts} {ms = ms} {v = v} t o c a b h e) k rest =
    take_one (placing d k) t (o ∷ (ts ++ c ∷ []) ++ rest) d (x_square d t k) (rw a refl)
    (take_one (x_square d t k) o ((ts ++ c ∷ []) ++ rest) (d + 1) (want (d + 1) (f_x d t ∷ k)) (rw b refl)
    (ap (run (want (d + 1) (f_x d t ∷ k))) (append_assoc ts (c ∷ []) rest)
    ∙ closed e (f_x d t ∷ k) c (d + 1) rest (placed (place_x t v c) k) (power_is c close_square h) (omega arith) (rw h refl)
    ∙ sym (marked-append ms ((d + 1) ∷ []) (run (placed (place_x t v c) k) rest))))
complete_place {d} (is_mem {ts = ts} {ms = ms} {v = v} t o c a b h e) k rest =
    take_one (placing d k) t (o ∷ (ts ++ c ∷ []) ++ rest) d (mem_square d t k) (rw a refl)
    (take_one (mem_square d t k) o ((ts ++ c ∷ []) ++ rest) (d + 1) (want (d + 1) (f_mem d t ∷ k)) (rw b refl)
    (ap (run (want (d + 1) (f_mem d t ∷ k))) (append_assoc ts (c ∷ []) rest)
    ∙ closed e (f_mem d t ∷ k) c (d + 1) rest (placed (place_mem t v c) k) (power_is c close_square h) (omega arith) (rw h refl)
    ∙ sym (marked-append ms ((d + 1) ∷ []) (run (placed (place_mem t v c) k) rest))))
complete_place {d} (is_mem_range {ts = ts} {us = us} {ms = ms} {ns = ns} {v = v} {w = w} t o r c a b q h e f) k rest =
    take_one (placing d k) t (o ∷ (ts ++ r ∷ (us ++ c ∷ [])) ++ rest) d (mem_square d t k) (rw a refl)
    (take_one (mem_square d t k) o ((ts ++ r ∷ (us ++ c ∷ [])) ++ rest) (d + 1) (want (d + 1) (f_mem d t ∷ k)) (rw b refl)
    (ap (run (want (d + 1) (f_mem d t ∷ k))) (append_assoc ts (r ∷ (us ++ c ∷ [])) rest)
    ∙ join ms (closed e (f_mem d t ∷ k) r (d + 1) ((us ++ c ∷ []) ++ rest) (want (d + 1) (f_mem_range d t v ∷ k)) (power_is r colon q) (omega arith) (rw q refl))
    (ap (then_at (d + 1)) (ap (run (want (d + 1) (f_mem_range d t v ∷ k))) (append_assoc us (c ∷ []) rest)
    ∙ closed f (f_mem_range d t v ∷ k) c (d + 1) rest (placed (place_mem_range t v w c) k) (power_is c close_square h) (omega arith) (rw h refl)
    ∙ sym (marked-append ns ((d + 1) ∷ []) (run (placed (place_mem_range t v w c) k) rest))))
    ∙ sym (marked-append ms ((d + 1) ∷ (ns ++ (d + 1) ∷ [])) (run (placed (place_mem_range t v w c) k) rest))))

-- ---- assignments, up to the token that ends them
step_assign : (l : Place) (k : Stack) (t : Token) (kind : TokenKind) (op : Option BinOp) → t.kind ≡ kind → IsAssignOp kind op
    → set_or_step l k (assign_of t.kind) t ≡ go (around k) (want (around k) (f_set (around k) l op ∷ k))
step_assign l k t kind op e assign_plain = rw e refl
step_assign l k t kind op e assign_add = rw e refl
step_assign l k t kind op e assign_sub = rw e refl
step_assign l k t kind op e assign_mul = rw e refl
step_assign l k t kind op e assign_and = rw e refl
step_assign l k t kind op e assign_or = rw e refl
step_assign l k t kind op e assign_xor = rw e refl
step_assign l k t kind op e assign_shl = rw e refl
step_assign l k t kind op e assign_shr = rw e refl

step_before : (d : ℕ) (k : Stack) (t : Token) (kind : TokenKind) (op : BinOp) → t.kind ≡ kind → IsStep kind op → step (assigning d k) t ≡ go d (placing d (f_step t op ∷ k))
unfolding step
step_before d k t kind op e step_up = rw e refl
step_before d k t kind op e step_down = rw e refl

step_behind_place : (l : Place) (k : Stack) (t : Token) (kind : TokenKind) (op : BinOp) → t.kind ≡ kind → IsStep kind op
    → set_or_step l k (assign_of t.kind) t ≡ go (around k) (assigned (assign_after l op t) k)
step_behind_place l k t kind op e step_up = rw e refl
step_behind_place l k t kind op e step_down = rw e refl

-- what an assignment stands in: a statement, or the last part of a loop's head
pub data IsAround : ℕ → Stack → Type 0 where
  around_single : (d : ℕ) (k : Stack) → IsAround d (f_single d ∷ k)
  around_last : (d : ℕ) (f : Token) (y : Option TypeText) (n : List ℕ) (x v : Part) (k : Stack) → IsAround (d + 1) (f_last d f y n x v ∷ k)

around_is : {d : ℕ} {k : Stack} → IsAround d k → around k ≡ d
around_is (around_single d k) = refl
around_is (around_last d f y n x v k) = refl

step_placed : {d : ℕ} {k : Stack} → IsAround d k → (l : Place) (t : Token) → step (placed l k) t ≡ set_or_step l k (assign_of t.kind) t
unfolding step
step_placed (around_single d k) l t = refl
step_placed (around_last d f y n x v k) l t = refl

placing_same : {d : ℕ} {ts : List Token} {ms : List ℕ} {l : Place} → IsPlace d ts ms l → (k : Stack) (rest : List Token)
    → run (assigning d k) (ts ++ rest) ≡ run (placing d k) (ts ++ rest)
unfolding step
placing_same {d} (is_name t n a) k rest = same (assigning d k) (placing d k) t rest (rw a refl)
placing_same {d} (is_pc t a) k rest = same (assigning d k) (placing d k) t rest (rw a refl)
placing_same {d} (is_x t o c a b h e) k rest = same (assigning d k) (placing d k) t _ (rw a refl)
placing_same {d} (is_mem t o c a b h e) k rest = same (assigning d k) (placing d k) t _ (rw a refl)
placing_same {d} (is_mem_range t o r c a b q h e f) k rest = same (assigning d k) (placing d k) t _ (rw a refl)

pub complete_assign : {d : ℕ} {ts : List Token} {ms : List ℕ} {a : AssignTree} → IsAssign d ts ms a → (k : Stack) (c : Token) (m : ℕ) (rest : List Token) (z : State)
    → IsAround d k → power c.kind ≡ 1 → after_assign a k c ≡ go m z
    → run (assigning d k) (ts ++ c ∷ rest) ≡ marked ms (then_at m (run z rest))
unfolding step
complete_assign {d} (is_set {xs = xs} {ts = ts} {ks = ks} {ms = ms} {l = l} {op = op} {v = v} t p q e) k c m rest z w u h =
    ap (run (assigning d k)) (append_assoc xs (t ∷ ts) (c ∷ rest))
    ∙ placing_same q k (t ∷ (ts ++ c ∷ rest))
    ∙ join ks (complete_place q k (t ∷ (ts ++ c ∷ rest)))
    (take_one (placed l k) t (ts ++ c ∷ rest) d (want d (f_set d l op ∷ k)) (step_placed w l t ∙ step_assign l k t t.kind op refl p ∙ rw (around_is w) refl)
    (closed e (f_set d l op ∷ k) c m rest z u (omega arith) h))
    ∙ sym (marked-append ks (d ∷ ms) (then_at m (run z rest)))
complete_assign {d} (is_step_before {xs = xs} {ks = ks} {l = l} {op = op} t p q) k c m rest z w u h =
    take_one (assigning d k) t (xs ++ c ∷ rest) d (placing d (f_step t op ∷ k)) (step_before d k t t.kind op refl p)
    (join ks (complete_place q (f_step t op ∷ k) (c ∷ rest)) (one (placed l (f_step t op ∷ k)) c rest m z h))
complete_assign {d} (is_step_after {xs = xs} {ks = ks} {l = l} {op = op} t p q) k c m rest z w u h =
    ap (run (assigning d k)) (append_assoc xs (t ∷ []) (c ∷ rest))
    ∙ placing_same q k (t ∷ c ∷ rest)
    ∙ join ks (complete_place q k (t ∷ c ∷ rest))
    (take_one (placed l k) t (c ∷ rest) d (assigned (assign_after l op t) k) (step_placed w l t ∙ step_behind_place l k t t.kind op refl p ∙ rw (around_is w) refl)
    (one (assigned (assign_after l op t) k) c rest m z h))
    ∙ sym (marked-append ks (d ∷ []) (then_at m (run z rest)))

-- ---- values and declarations, up to the token that ends them
pub complete_value : {d : ℕ} {ts : List Token} {ms : List ℕ} {v : Option Part} → IsValue d ts ms v
    → (n : Token) (name : List ℕ) (k : Stack) (c : Token) (m : ℕ) (rest : List Token) (z : State)
    → is c.kind equals ≡ false → power c.kind ≡ 1 → after_value n name v k c ≡ go m z
    → run (named d n name k) (ts ++ c ∷ rest) ≡ marked ms (then_at m (run z rest))
unfolding step
complete_value {d} no_value n name k c m rest z a p h = one (named d n name k) c rest m z (rw a h)
complete_value {d} (some_value {ts = ts} e a x) n name k c m rest z b p h =
    take_one (named d n name k) e (ts ++ c ∷ rest) d (want d (f_value n name ∷ k)) (rw a refl)
    (closed x (f_value n name ∷ k) c m rest z p (omega arith) h)

complete_decl : {d : ℕ} {ts : List Token} {ms : List ℕ} {x : DeclTree} → IsDecl d ts ms x
    → (y : TypeText) (xs : List DeclTree) (k : Stack) (c : Token) (m : ℕ) (rest : List Token) (z : State)
    → is c.kind equals ≡ false → power c.kind ≡ 1 → after_decl d x y xs k c ≡ go m z
    → run (naming d y xs k) (ts ++ c ∷ rest) ≡ marked ms (then_at m (run z rest))
unfolding step
complete_decl {d} (is_decl {ts = ts} t n a v) y xs k c m rest z b p h =
    take_one (naming d y xs k) t (ts ++ c ∷ rest) d (named d t n (f_locals d y xs ∷ k)) (rw a refl)
    (complete_value v t n (f_locals d y xs ∷ k) c m rest z b p h)

pub complete_decls : {d : ℕ} {ts : List Token} {ms : List ℕ} {xs : List DeclTree} → IsDecls d ts ms xs
    → (y : TypeText) (front : List DeclTree) (k : Stack) (c : Token) (rest : List Token) → c.kind ≡ semicolon
    → run (naming d y front k) (ts ++ c ∷ rest) ≡ marked ms (then_at d (run (done (d_locals y (front ++ xs) c) k) rest))
unfolding power
complete_decls {d} (last_decl x) y front k c rest e =
    complete_decl x y front k c d rest _ (rw e refl) (power_is c semicolon e) (rw e refl)
complete_decls {d} (more_decls {ts = ts} {us = us} {ms = ms} {ns = ns} {x = x} {xs = xs} t a p q) y front k c rest e =
    ap (run (naming d y front k)) (append_assoc ts (t ∷ us) (c ∷ rest))
    ∙ join ms (complete_decl p y front k t d (us ++ c ∷ rest) (naming d y (front ++ x ∷ []) k) (rw a refl) (power_is t comma a) (rw a refl))
    (ap (then_at d) (complete_decls q y (front ++ x ∷ []) k c rest e
    ∙ ap (λ (zs : List DeclTree). marked ns (then_at d (run (done (d_locals y zs c) k) rest))) (append_assoc front (x ∷ []) xs)))
    ∙ sym (marked-append ms (d ∷ ns) (then_at d (run (done (d_locals y (front ++ x ∷ xs) c) k) rest)))

-- ---- the first token of a statement
stmt_is_type : {d : ℕ} {ts : List Token} {ms : List ℕ} {y : TypeText} → IsType d ts ms y → (k : Stack) (rest : List Token)
    → run (stmt d k) (ts ++ rest) ≡ run (typing d (f_type_locals d ∷ k)) (ts ++ rest)
unfolding step begin_stmt
stmt_is_type {d} (type_signed t o n c ty w a b e f) k rest = same (stmt d k) (typing d (f_type_locals d ∷ k)) t (o ∷ n ∷ c ∷ rest) (rw a refl)
stmt_is_type {d} (type_unsigned t o n c ty w a b e f) k rest = same (stmt d k) (typing d (f_type_locals d ∷ k)) t (o ∷ n ∷ c ∷ rest) (rw a refl)
stmt_is_type {d} (type_int t a) k rest = same (stmt d k) (typing d (f_type_locals d ∷ k)) t rest (rw a refl)
stmt_is_type {d} (type_bool t a) k rest = same (stmt d k) (typing d (f_type_locals d ∷ k)) t rest (rw a refl)

stmt_is_place : {d : ℕ} {ts : List Token} {ms : List ℕ} {l : Place} → IsPlace d ts ms l → (k : Stack) (rest : List Token)
    → run (stmt d k) (ts ++ rest) ≡ run (assigning d (f_single d ∷ k)) (ts ++ rest)
unfolding step begin_stmt
stmt_is_place {d} (is_name t n a) k rest = same (stmt d k) (assigning d (f_single d ∷ k)) t rest (rw a refl)
stmt_is_place {d} (is_pc t a) k rest = same (stmt d k) (assigning d (f_single d ∷ k)) t rest (rw a refl)
stmt_is_place {d} (is_x t o c a b h e) k rest = same (stmt d k) (assigning d (f_single d ∷ k)) t _ (rw a refl)
stmt_is_place {d} (is_mem t o c a b h e) k rest = same (stmt d k) (assigning d (f_single d ∷ k)) t _ (rw a refl)
stmt_is_place {d} (is_mem_range t o r c a b q h e f) k rest = same (stmt d k) (assigning d (f_single d ∷ k)) t _ (rw a refl)

stmt_is_step : (d : ℕ) (k : Stack) (t : Token) (kind : TokenKind) (op : BinOp) → t.kind ≡ kind → IsStep kind op
    → step (stmt d k) t ≡ step (assigning d (f_single d ∷ k)) t
unfolding step begin_stmt
stmt_is_step d k t kind op e step_up = rw e refl
stmt_is_step d k t kind op e step_down = rw e refl

stmt_is_assign : {d : ℕ} {ts : List Token} {ms : List ℕ} {a : AssignTree} → IsAssign d ts ms a → (k : Stack) (rest : List Token)
    → run (stmt d k) (ts ++ rest) ≡ run (assigning d (f_single d ∷ k)) (ts ++ rest)
stmt_is_assign {d} (is_set {xs = xs} {ts = ts} t p q e) k rest =
    ap (run (stmt d k)) (append_assoc xs (t ∷ ts) rest) ∙ stmt_is_place q k (t ∷ ts ++ rest) ∙ ap (run (assigning d (f_single d ∷ k))) (sym (append_assoc xs (t ∷ ts) rest))
stmt_is_assign {d} (is_step_before {xs = xs} {op = op} t p q) k rest = same (stmt d k) (assigning d (f_single d ∷ k)) t (xs ++ rest) (stmt_is_step d k t t.kind op refl p)
stmt_is_assign {d} (is_step_after {xs = xs} t p q) k rest =
    ap (run (stmt d k)) (append_assoc xs (t ∷ []) rest) ∙ stmt_is_place q k (t ∷ rest) ∙ ap (run (assigning d (f_single d ∷ k))) (sym (append_assoc xs (t ∷ []) rest))

-- it ends no block and is no `else`
pub record Heads (ts : List Token) : Type 0 where
  pub first : Token
  pub rest : List Token
  pub is_first : ts ≡ first ∷ rest
  pub inside : is first.kind close_brace ≡ false
  pub other : is first.kind else_word ≡ false

heads_with : (t : Token) (ts : List Token) → is t.kind close_brace ≡ false → is t.kind else_word ≡ false → Heads (t ∷ ts)
heads_with t ts a b = record { first = t; rest = ts; is_first = refl; inside = a; other = b }

heads_along : (xs ys : List Token) → xs ≡ ys → Heads ys → Heads xs
heads_along xs ys e h = record { first = h.first; rest = h.rest; is_first = e ∙ h.is_first; inside = h.inside; other = h.other }

heads_type : {d : ℕ} {ts : List Token} {ms : List ℕ} {y : TypeText} → IsType d ts ms y → (us : List Token) → Heads (ts ++ us)
heads_type (type_signed t o n c ty w a b e f) us = heads_with t _ (rw a refl) (rw a refl)
heads_type (type_unsigned t o n c ty w a b e f) us = heads_with t _ (rw a refl) (rw a refl)
heads_type (type_int t a) us = heads_with t _ (rw a refl) (rw a refl)
heads_type (type_bool t a) us = heads_with t _ (rw a refl) (rw a refl)

heads_place : {d : ℕ} {ts : List Token} {ms : List ℕ} {l : Place} → IsPlace d ts ms l → (us : List Token) → Heads (ts ++ us)
heads_place (is_name t n a) us = heads_with t _ (rw a refl) (rw a refl)
heads_place (is_pc t a) us = heads_with t _ (rw a refl) (rw a refl)
heads_place (is_x t o c a b h e) us = heads_with t _ (rw a refl) (rw a refl)
heads_place (is_mem t o c a b h e) us = heads_with t _ (rw a refl) (rw a refl)
heads_place (is_mem_range t o r c a b q h e f) us = heads_with t _ (rw a refl) (rw a refl)

heads_step : (t : Token) (us : List Token) (kind : TokenKind) (op : BinOp) → t.kind ≡ kind → IsStep kind op → Heads (t ∷ us)
heads_step t us kind op e step_up = heads_with t us (rw e refl) (rw e refl)
heads_step t us kind op e step_down = heads_with t us (rw e refl) (rw e refl)

heads_assign : {d : ℕ} {ts : List Token} {ms : List ℕ} {a : AssignTree} → IsAssign d ts ms a → (us : List Token) → Heads (ts ++ us)
heads_assign (is_set {xs = xs} {ts = ts} t p q e) us = heads_along _ _ (append_assoc xs (t ∷ ts) us) (heads_place q (t ∷ ts ++ us))
heads_assign (is_step_before {xs = xs} {op = op} t p q) us = heads_step t (xs ++ us) t.kind op refl p
heads_assign (is_step_after {xs = xs} t p q) us = heads_along _ _ (append_assoc xs (t ∷ []) us) (heads_place q (t ∷ us))

heads : {n d : ℕ} {ts : List Token} {ms : List ℕ} {s : Done} → IsStmt n d ts ms s → (us : List Token) → Heads (ts ++ us)
heads (is_block o c a b e) us = heads_with o _ (rw a refl) (rw a refl)
heads (is_empty t a) us = heads_with t _ (rw a refl) (rw a refl)
heads (is_locals {us = vs} {ts = ts} c a y x) us = heads_along _ _ (append_assoc vs (ts ++ c ∷ []) us) (heads_type y ((ts ++ c ∷ []) ++ us))
heads (is_assign {ts = ts} c a x) us = heads_along _ _ (append_assoc ts (c ∷ []) us) (heads_assign x (c ∷ us))
heads (is_if t o r l a b h e s) us = heads_with t _ (rw a refl) (rw a refl)
heads (is_if_else t o r e a b h q c s z) us = heads_with t _ (rw a refl) (rw a refl)
heads (is_for t o i e p q r name a b c f g h j y u v w s) us = heads_with t _ (rw a refl) (rw a refl)
heads (is_spawn t a s) us = heads_with t _ (rw a refl) (rw a refl)

item_same : (d : ℕ) (o : Token) (front : List StmtTree) (k : Stack) (t : Token) → is t.kind close_brace ≡ false
    → step (item d o front k) t ≡ step (stmt (d + 1) (f_block d o front ∷ k)) t
unfolding step
item_same d o front k t e = rw e refl

item_is : (d : ℕ) (o : Token) (front : List StmtTree) (k : Stack) (ts : List Token) → Heads ts
    → run (item d o front k) ts ≡ run (stmt (d + 1) (f_block d o front ∷ k)) ts
item_is d o front k ts h =
    rw h.is_first (same (item d o front k) (stmt (d + 1) (f_block d o front ∷ k)) h.first h.rest (item_same d o front k h.first h.inside))

-- what begins with another token than `else`
pub record Others (ts : List Token) : Type 0 where
  pub first : Token
  pub rest : List Token
  pub is_first : ts ≡ first ∷ rest
  pub other : is first.kind else_word ≡ false

others : {d : ℕ} {ts : List Token} {ms : List ℕ} {ss : List StmtTree} → IsItems d ts ms ss → (c : Token) (rest : List Token) → c.kind ≡ close_brace → Others (ts ++ c ∷ rest)
others no_items c rest b = record { first = c; rest = rest; is_first = refl; other = rw b refl }
others (more_items {ts = ts} {us = us} s e) c rest b =
    let h = heads s (us ++ c ∷ rest) in
    record { first = h.first; rest = h.rest; is_first = append_assoc ts us (c ∷ rest) ∙ h.is_first; other = h.other }

ends_stmt : (ts : List Token) → Others ts → EndsStmt 1 ts
ends_stmt ts h = rw h.is_first (rw h.other (omega arith))

item_next : (s : Done) (d : ℕ) (o : Token) (front : List StmtTree) (k : Stack) (t : Token) → is t.kind else_word ≡ false
    → step (done s (f_block d o front ∷ k)) t ≡ step (item d o (front ++ s.stmt ∷ []) k) t
unfolding step
item_next s d o front k t e =
    ap (act t) (settle_stmt_stop (power_stmt t.kind) s (f_block d o front) k (rw e (omega arith))) ∙ rw e refl

next_item : (s : Done) (d : ℕ) (o : Token) (front : List StmtTree) (k : Stack) (ts : List Token) → Others ts
    → run (done s (f_block d o front ∷ k)) ts ≡ run (item d o (front ++ s.stmt ∷ []) k) ts
next_item s d o front k ts h =
    rw h.is_first (same (done s (f_block d o front ∷ k)) (item d o (front ++ s.stmt ∷ []) k) h.first h.rest (item_next s d o front k h.first h.other))

-- ---- statements
step_word : (d : ℕ) (t : Token) (k : Stack) (kind : TokenKind) (z : State) → t.kind ≡ kind → begin_stmt d k t ≡ go d z → step (stmt d k) t ≡ go d z
unfolding step
step_word d t k kind z e h = h

step_block : (d : ℕ) (t : Token) (k : Stack) → t.kind ≡ open_brace → step (stmt d k) t ≡ go d (item d t [] k)
unfolding step begin_stmt
step_block d t k e = rw e refl

step_empty : (d : ℕ) (t : Token) (k : Stack) → t.kind ≡ semicolon → step (stmt d k) t ≡ go d (done (d_empty t) k)
unfolding step begin_stmt
step_empty d t k e = rw e refl

step_if : (d : ℕ) (t : Token) (k : Stack) → t.kind ≡ if_word → step (stmt d k) t ≡ go d (if_round d t k)
unfolding step begin_stmt
step_if d t k e = rw e refl

step_for : (d : ℕ) (t : Token) (k : Stack) → t.kind ≡ for_word → step (stmt d k) t ≡ go d (for_round d t k)
unfolding step begin_stmt
step_for d t k e = rw e refl

step_spawn : (d : ℕ) (t : Token) (k : Stack) → t.kind ≡ spawn_word → step (stmt d k) t ≡ go d (stmt (d + 1) (f_spawn d t ∷ k))
unfolding step begin_stmt
step_spawn d t k e = rw e refl

step_if_round : (d : ℕ) (t o : Token) (k : Stack) → o.kind ≡ open_round → step (if_round d t k) o ≡ go (d + 1) (want (d + 1) (f_if d t ∷ k))
unfolding step
step_if_round d t o k e = rw e refl

step_else : (d : ℕ) (t e : Token) (c : Part) (s : Done) (k : Stack) → e.kind ≡ else_word
    → step (done s (f_branch d t c ∷ k)) e ≡ go d (stmt (d + 1) (f_other d t c s ∷ k))
unfolding step settle_stmt
step_else d t e c s k h = rw h refl

step_end_block : (d : ℕ) (o c : Token) (front : List StmtTree) (k : Stack) → c.kind ≡ close_brace → step (item d o front k) c ≡ go d (done (d_block o front c) k)
unfolding step
step_end_block d o c front k e = rw e refl

step_locals : (d : ℕ) (y : TypeText) (t : Token) (n : List ℕ) (k : Stack) → t.kind ≡ Name n → step (typed y (f_type_locals d ∷ k)) t ≡ step (naming d y [] k) t
unfolding step
step_locals d y t n k e = rw e refl

locals_are : {d : ℕ} {ts : List Token} {ms : List ℕ} {x : DeclTree} → IsDecl d ts ms x → (y : TypeText) (k : Stack) (rest : List Token)
    → run (typed y (f_type_locals d ∷ k)) (ts ++ rest) ≡ run (naming d y [] k) (ts ++ rest)
locals_are {d} (is_decl {ts = ts} t n a v) y k rest = same (typed y (f_type_locals d ∷ k)) (naming d y [] k) t (ts ++ rest) (step_locals d y t n k a)

decls_are : {d : ℕ} {ts : List Token} {ms : List ℕ} {xs : List DeclTree} → IsDecls d ts ms xs → (y : TypeText) (k : Stack) (rest : List Token)
    → run (typed y (f_type_locals d ∷ k)) (ts ++ rest) ≡ run (naming d y [] k) (ts ++ rest)
decls_are (last_decl x) y k rest = locals_are x y k rest
decls_are {d} (more_decls {ts = ts} {us = us} t a p q) y k rest =
    ap (run (typed y (f_type_locals d ∷ k))) (append_assoc ts (t ∷ us) rest) ∙ locals_are p y k (t ∷ us ++ rest) ∙ ap (run (naming d y [] k)) (sym (append_assoc ts (t ∷ us) rest))

-- ---- a loop's head
head_is_type : (d : ℕ) {e : ℕ} {ts : List Token} {ms : List ℕ} {y : TypeText} → IsType e ts ms y → e ≡ d + 1 → (f : Token) (k : Stack) (rest : List Token)
    → run (for_head d f k) (ts ++ rest) ≡ run (typing (d + 1) (f_type_loop d f ∷ k)) (ts ++ rest)
unfolding step
head_is_type d (type_signed t o n c ty w a b e g) h f k rest = same (for_head d f k) (typing (d + 1) (f_type_loop d f ∷ k)) t (o ∷ n ∷ c ∷ rest) (rw a refl)
head_is_type d (type_unsigned t o n c ty w a b e g) h f k rest = same (for_head d f k) (typing (d + 1) (f_type_loop d f ∷ k)) t (o ∷ n ∷ c ∷ rest) (rw a refl)
head_is_type d (type_int t a) h f k rest = same (for_head d f k) (typing (d + 1) (f_type_loop d f ∷ k)) t rest (rw a refl)
head_is_type d (type_bool t a) h f k rest = same (for_head d f k) (typing (d + 1) (f_type_loop d f ∷ k)) t rest (rw a refl)

complete_head : (d : ℕ) {e : ℕ} {ts : List Token} {ms : List ℕ} {y : Option TypeText} → IsLoopType e ts ms y → e ≡ d + 1
    → (f i : Token) (name : List ℕ) (k : Stack) (rest : List Token) → i.kind ≡ Name name
    → run (for_head d f k) (ts ++ i ∷ rest) ≡ marked ms (then_at (d + 1) (run (for_equals d f y name k) rest))
unfolding step
complete_head d no_type h f i name k rest a = one (for_head d f k) i rest (d + 1) (for_equals d f None name k) (rw a refl)
complete_head d {e} (some_type {ts = ts} {ms = ms} {y = y} t) h f i name k rest a =
    head_is_type d t h f k (i ∷ rest)
    ∙ ap (λ (q : ℕ). run (typing q (f_type_loop d f ∷ k)) (ts ++ i ∷ rest)) (sym h)
    ∙ join ms (complete_type t (f_type_loop d f ∷ k) (i ∷ rest)) (one (typed y (f_type_loop d f ∷ k)) i rest (d + 1) (for_equals d f (Some y) name k) (rw a refl))

step_for_round : (d : ℕ) (t o : Token) (k : Stack) → o.kind ≡ open_round → step (for_round d t k) o ≡ go (d + 1) (for_head d t k)
unfolding step
step_for_round d t o k e = rw e refl

step_for_equals : (d : ℕ) (t e : Token) (y : Option TypeText) (n : List ℕ) (k : Stack) → e.kind ≡ equals
    → step (for_equals d t y n k) e ≡ go (d + 1) (want (d + 1) (f_start d t y n ∷ k))
unfolding step
step_for_equals d t e y n k h = rw h refl

mutual
  unfolding power

  pub complete_stmt : {n d : ℕ} {ts : List Token} {ms : List ℕ} {s : Done} → IsStmt n d ts ms s → n ≤ 2 → (k : Stack) (rest : List Token) → EndsStmt n rest
      → run (stmt d k) (ts ++ rest) ≡ marked ms (run (done s k) rest)
  complete_stmt {n} {d} (is_block {ts = ts} {ms = ms} {ss = ss} o c a b e) l k rest f =
      take_one (stmt d k) o ((ts ++ c ∷ []) ++ rest) d (item d o [] k) (step_block d o k a)
      (ap (run (item d o [] k)) (append_assoc ts (c ∷ []) rest)
      ∙ complete_items d e refl o [] k c rest b
      ∙ sym (marked-append ms (d ∷ []) (run (done (d_block o ss c) k) rest)))
  complete_stmt {n} {d} (is_empty t a) l k rest f = one (stmt d k) t rest d _ (step_empty d t k a)
  complete_stmt {n} {d} (is_locals {us = us} {ts = ts} {ks = ks} {ms = ms} {y = y} {xs = xs} c a t x) l k rest f =
      ap (run (stmt d k)) (append_assoc us (ts ++ c ∷ []) rest)
      ∙ stmt_is_type t k ((ts ++ c ∷ []) ++ rest)
      ∙ join ks (complete_type t (f_type_locals d ∷ k) ((ts ++ c ∷ []) ++ rest))
      (ap (run (typed y (f_type_locals d ∷ k))) (append_assoc ts (c ∷ []) rest)
      ∙ decls_are x y k (c ∷ rest)
      ∙ complete_decls x y [] k c rest a
      ∙ sym (marked-append ms (d ∷ []) (run (done (d_locals y xs c) k) rest)))
      ∙ sym (marked-append ks (ms ++ d ∷ []) (run (done (d_locals y xs c) k) rest))
  complete_stmt {n} {d} (is_assign {ts = ts} {ms = ms} {a = x} c a e) l k rest f =
      ap (run (stmt d k)) (append_assoc ts (c ∷ []) rest)
      ∙ stmt_is_assign e k (c ∷ rest)
      ∙ complete_assign e (f_single d ∷ k) c d rest (done (d_assign x c) k) (around_single d k) (power_is c semicolon a) (rw a refl)
      ∙ sym (marked-append ms (d ∷ []) (run (done (d_assign x c) k) rest))
  complete_stmt {n} {d} (is_if {cs = cs} {ss = ss} {ms = ms} {ns = ns} {c = c} {s = s} t o r m a b h e u) l k rest f =
      take_one (stmt d k) t (o ∷ (cs ++ r ∷ ss) ++ rest) d (if_round d t k) (step_if d t k a)
      (take_one (if_round d t k) o ((cs ++ r ∷ ss) ++ rest) (d + 1) (want (d + 1) (f_if d t ∷ k)) (step_if_round d t o k b)
      (ap (run (want (d + 1) (f_if d t ∷ k))) (append_assoc cs (r ∷ ss) rest)
      ∙ join ms (closed e (f_if d t ∷ k) r (d + 1) (ss ++ rest) (stmt (d + 1) (f_branch d t c ∷ k)) (power_is r close_round h) (omega arith) (rw h refl))
      (ap (then_at (d + 1)) (join ns (complete_stmt u (omega arith) (f_branch d t c ∷ k) rest (weaken_stmt 1 n rest m f))
      (popped_stmt s (f_branch d t c) k rest (weaken_stmt 1 n rest m f))))
      ∙ sym (marked-append ms ((d + 1) ∷ ns) (run (done (d_if t c s) k) rest))))
  complete_stmt {n} {d} (is_if_else {cs = cs} {ss = ss} {zs = zs} {ms = ms} {ns = ns} {ks = ks} {c = c} {s = s} {z = z} t o r e a b h q x u w) l k rest f =
      take_one (stmt d k) t (o ∷ (cs ++ r ∷ (ss ++ e ∷ zs)) ++ rest) d (if_round d t k) (step_if d t k a)
      (take_one (if_round d t k) o ((cs ++ r ∷ (ss ++ e ∷ zs)) ++ rest) (d + 1) (want (d + 1) (f_if d t ∷ k)) (step_if_round d t o k b)
      (ap (run (want (d + 1) (f_if d t ∷ k))) (append_assoc cs (r ∷ (ss ++ e ∷ zs)) rest)
      ∙ join ms (closed x (f_if d t ∷ k) r (d + 1) ((ss ++ e ∷ zs) ++ rest) (stmt (d + 1) (f_branch d t c ∷ k)) (power_is r close_round h) (omega arith) (rw h refl))
      (ap (then_at (d + 1)) (ap (run (stmt (d + 1) (f_branch d t c ∷ k))) (append_assoc ss (e ∷ zs) rest)
      ∙ join ns (complete_stmt u (omega arith) (f_branch d t c ∷ k) (e ∷ (zs ++ rest)) (rw q (omega arith)))
      (take_one (done s (f_branch d t c ∷ k)) e (zs ++ rest) d (stmt (d + 1) (f_other d t c s ∷ k)) (step_else d t e c s k q)
      (join ks (complete_stmt w l (f_other d t c s ∷ k) rest f) (popped_stmt z (f_other d t c s) k rest (weaken_stmt 2 n rest l f))))
      ∙ sym (marked-append ns (d ∷ ks) (run (done (d_if_else t c s z) k) rest))))
      ∙ sym (marked-append ms ((d + 1) ∷ (ns ++ d ∷ ks)) (run (done (d_if_else t c s z) k) rest))))
  complete_stmt {n} {d} (is_for {ys = ys} {cs = cs} {bs = bs} {ls = ls} {ss = ss} {js = js} {ms = ms} {ns = ns} {ks = ks} {os = os} {y = y} {a = a} {b = b} {l = x} {s = s}
      t o i e p q r name et eo ei ee ep eq er yt ea eb ex es) l k rest f =
      let m : ℕ = d + 1 in
      let w = run (done (d_for t y name a b x s) k) rest in
      take_one (stmt d k) t _ d (for_round d t k) (step_for d t k et)
      (take_one (for_round d t k) o _ m (for_head d t k) (step_for_round d t o k eo)
      (ap (run (for_head d t k)) (append_assoc ys (i ∷ e ∷ (cs ++ p ∷ (bs ++ q ∷ (ls ++ r ∷ ss)))) rest)
      ∙ join js (complete_head d yt refl t i name k (e ∷ (cs ++ p ∷ (bs ++ q ∷ (ls ++ r ∷ ss))) ++ rest) ei)
      (ap (then_at m) (take_one (for_equals d t y name k) e ((cs ++ p ∷ (bs ++ q ∷ (ls ++ r ∷ ss))) ++ rest) m (want m (f_start d t y name ∷ k)) (step_for_equals d t e y name k ee)
      (ap (run (want m (f_start d t y name ∷ k))) (append_assoc cs (p ∷ (bs ++ q ∷ (ls ++ r ∷ ss))) rest)
      ∙ join ms (closed ea (f_start d t y name ∷ k) p m ((bs ++ q ∷ (ls ++ r ∷ ss)) ++ rest) (want m (f_test d t y name a ∷ k)) (power_is p semicolon ep) (omega arith) (rw ep refl))
      (ap (then_at m) (ap (run (want m (f_test d t y name a ∷ k))) (append_assoc bs (q ∷ (ls ++ r ∷ ss)) rest)
      ∙ join ns (closed eb (f_test d t y name a ∷ k) q m ((ls ++ r ∷ ss) ++ rest) (assigning m (f_last d t y name a b ∷ k)) (power_is q semicolon eq) (omega arith) (rw eq refl))
      (ap (then_at m) (ap (run (assigning m (f_last d t y name a b ∷ k))) (append_assoc ls (r ∷ ss) rest)
      ∙ join ks (complete_assign ex (f_last d t y name a b ∷ k) r m (ss ++ rest) (stmt m (f_loop d t y name a b x ∷ k)) (around_last d t y name a b k) (power_is r close_round er) (rw er refl))
      (ap (then_at m) (join os (complete_stmt es l (f_loop d t y name a b x ∷ k) rest f) (popped_stmt s (f_loop d t y name a b x) k rest (weaken_stmt 2 n rest l f))))
      ∙ sym (marked-append ks (m ∷ os) w)))
      ∙ sym (marked-append ns (m ∷ (ks ++ m ∷ os)) w)))
      ∙ sym (marked-append ms (m ∷ (ns ++ m ∷ (ks ++ m ∷ os))) w))))
      ∙ sym (marked-append js (m ∷ m ∷ (ms ++ m ∷ (ns ++ m ∷ (ks ++ m ∷ os)))) w)))
  complete_stmt {n} {d} (is_spawn {ss = ss} {ms = ms} {s = s} t a u) l k rest f =
      take_one (stmt d k) t (ss ++ rest) d (stmt (d + 1) (f_spawn d t ∷ k)) (step_spawn d t k a)
      (join ms (complete_stmt u l (f_spawn d t ∷ k) rest f) (popped_stmt s (f_spawn d t) k rest (weaken_stmt 2 n rest l f)))

  pub complete_items : (d : ℕ) {e : ℕ} {ts : List Token} {ms : List ℕ} {ss : List StmtTree} → IsItems e ts ms ss → e ≡ d + 1
      → (o : Token) (front : List StmtTree) (k : Stack) (c : Token) (rest : List Token) → c.kind ≡ close_brace
      → run (item d o front k) (ts ++ c ∷ rest) ≡ marked ms (then_at d (run (done (d_block o (front ++ ss) c) k) rest))
  complete_items d no_items h o front k c rest b =
      one (item d o front k) c rest d _ (step_end_block d o c front k b)
      ∙ ap (λ (ss : List StmtTree). then_at d (run (done (d_block o ss c) k) rest)) (sym (append-nil front))
  complete_items d {e} (more_items {ts = ts} {us = us} {ms = ms} {ns = ns} {s = s} {ss = ss} u v) h o front k c rest b =
      let st = others v c rest b in
      ap (run (item d o front k)) (append_assoc ts us (c ∷ rest))
      ∙ item_is d o front k (ts ++ (us ++ c ∷ rest)) (heads u (us ++ c ∷ rest))
      ∙ ap (λ (q : ℕ). run (stmt q (f_block d o front ∷ k)) (ts ++ (us ++ c ∷ rest))) (sym h)
      ∙ join ms (complete_stmt u (omega arith) (f_block d o front ∷ k) (us ++ c ∷ rest) (ends_stmt (us ++ c ∷ rest) st))
      (next_item s d o front k (us ++ c ∷ rest) st
      ∙ complete_items d v h o (front ++ s.stmt ∷ []) k c rest b
      ∙ ap (λ (zs : List StmtTree). marked ns (then_at d (run (done (d_block o zs c) k) rest))) (append_assoc front (s.stmt ∷ []) ss))
      ∙ sym (marked-append ms ns (then_at d (run (done (d_block o (front ++ s.stmt ∷ ss) c) k) rest)))
