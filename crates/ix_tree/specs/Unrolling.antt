-- Loops unrolled: a loop means its body once for each value of its variable (CoreDSL 2, for loops; that they are unrolled, the limits and the refusals are this project's choice).
use Rattle.std.specs.Prelude.{◌≡◌, ℕ, ◌+◌, ◌%◌, ◌^◌, zero, suc, ℤ, pos, int_lt, unsigned_abs, List, [], ◌∷◌, ◌++◌, map, Option, Some, None, Bool, true, false, ◌&&◌, ◌||◌, if◌then◌else◌, nat_lt}
use Rattle.std.specs.List.{list_all}
use Rattle.std.proofs.Math.Nat.{mod-lt}
use Rattle.std.proofs.lemmas.Nat.{pow_pos}
use Rattle.ix_bits.specs.declared.operator.BinOp.{BinOp}
use Rattle.ix_bits.specs.declared.operator.UnOp.TheVariants.{Neg}
use Rattle.ix_bits.specs.Operators.{is_true}
use Rattle.ix_tree.specs.declared.token.Span.{Span}
use Rattle.ix_tree.specs.Lexing.{same_bytes}
use Rattle.ix_bits.specs.NearTypes.{type_near}
use Rattle.ix_bits.specs.Widths.{least_width}
use Rattle.ix_tree.specs.LoopHeads.{Binding, value_in, Valued, variable_value, binary_value, head_value, is_int}
use Rattle.ix_tree.specs.Trees.{ExprTree, e_literal, e_name, e_pc, e_x, e_mem, e_index, e_range, e_unary, e_cast, e_binary, e_choose, LvalueTree, l_name, l_pc, l_x, l_mem, Place, AssignTree, DeclTree, StmtTree, s_block, s_empty, s_locals, s_assign, s_if, s_if_else, s_for, s_spawn, StmtRow, row_end, row_more, InstrTree, BlockTree, SectionTree, SectionKindTree, k_states, k_instructions, k_always, TextTree}

abbrev pub most_turns : ℕ
most_turns = 128

abbrev pub most_statements : ℕ
most_statements = 16384

-- ---- the values of a loop's variable
-- a loop without its body
pub record Head : Type 0 where
  pub name : List ℕ
  pub start : ExprTree
  pub test : ExprTree
  pub last : AssignTree

-- the loop's variable before the enclosing ones
abbrev pub with_value : List Binding → List ℕ → ℤ → List Binding
with_value bs name value = record { name = name; value = value } ∷ bs

-- what the test gives for this value of the variable
abbrev pub test_value : List Binding → Head → ℤ → Option Valued
test_value bs h v = head_value h.test (with_value bs h.name v)

abbrev pub stepped : Option BinOp → Option Valued → Option Valued → Option Valued
stepped None v e = e
stepped (Some op) v e = binary_value op v e

-- the value that the last part gives: of e for `v = e`, of `v op e` for `v op= e`, without a cast
abbrev pub next_value : List Binding → Head → ℤ → Option Valued
next_value bs h v = stepped h.last.op (variable_value (Some v)) (head_value h.last.value (with_value bs h.name v))

-- which rule a loop breaks
pub data Broken : Type 0 where
  bound : Broken
  turns : Broken
  assigned : Broken

-- the values of the variable, one for each turn, or the rule that is broken
pub data Turns : Type 0 where
  these : List ℤ → Turns
  breaks : Broken → Turns

abbrev pub after : ℤ → Turns → Turns
after v (these vs) = these (v ∷ vs)
after v (breaks b) = breaks b

-- a value that is known and is one of the type `int`
abbrev pub on_value : Option Valued → (ℤ → Turns) → Turns
on_value None f = breaks bound
on_value (Some x) f = if is_int x.number then f x.number else breaks bound

-- a turn where the test holds
abbrev pub on_test : Option Valued → Turns → Turns
on_test None rest = breaks bound
on_test (Some x) rest = if is_true x.number then rest else these []

-- The turns from a value on, where as many as `left` may come: a value is judged before the test, and the test before the turn.
unfoldable pub turns_from : ℕ → List Binding → Head → Option Valued → Turns
turns_from zero bs h value = on_value value (λ v. on_test (test_value bs h v) (breaks turns))
turns_from (suc left) bs h value = on_value value (λ v. on_test (test_value bs h v) (after v (turns_from left bs h (next_value bs h v))))

-- ---- what a body does to the variable
abbrev pub is_variable : List ℕ → LvalueTree → Bool
is_variable n (l_name m) = same_bytes m n
is_variable n _ = false

abbrev pub declares : List ℕ → List DeclTree → Bool
declares n [] = false
declares n (d ∷ ds) = same_bytes d.name n || declares n ds

abbrev mutual
  -- the statement assigns the name, declares it, or has a loop over it or whose last part assigns it
  pub touches : List ℕ → StmtTree → Bool
  touches n (s_block s all) = touches_row n all
  touches n (s_empty s) = false
  touches n (s_locals s ty ds) = declares n ds
  touches n (s_assign s a) = is_variable n a.target.tree
  touches n (s_if s c x) = touches n x
  touches n (s_if_else s c x y) = touches n x || touches n y
  touches n (s_for s ty m start test last body) = same_bytes m n || is_variable n last.target.tree || touches n body
  touches n (s_spawn s x) = touches n x

  pub touches_row : List ℕ → StmtRow → Bool
  touches_row n row_end = false
  touches_row n (row_more x rest) = touches n x || touches_row n rest

-- ---- what a loop comes to before its copies: the head, then values and turns, then what the body does
abbrev pub unassigned : Bool → Turns → Turns
unassigned touched (breaks b) = breaks b
unassigned touched (these vs) = if touched then breaks assigned else these vs

abbrev pub is_known : Option Valued → Bool
is_known None = false
is_known (Some x) = true

abbrev pub started : List Binding → Head → StmtTree → Option Valued → Turns
started bs h body None = breaks bound
started bs h body (Some x) = if is_known (next_value bs h x.number) then unassigned (touches h.name body) (turns_from most_turns bs h (Some x)) else breaks bound

abbrev pub judged : List Binding → Head → StmtTree → Turns
judged bs h body = if is_variable h.name h.last.target.tree then started bs h body (head_value h.start bs) else breaks bound

-- ---- the variables replaced by their values
-- an unsized literal
abbrev pub literal : Span → ℕ → ExprTree
literal s v =
    let ty = type_near false (least_width v) in
    e_literal s ty (record { raw = v % 2 ^ ty.width; width = ty.width; some_width = ty.some_width; most_width = ty.most_width; in_width = mod-lt v (pow_pos ty.width) })

-- under a unary minus where the value is negative
abbrev pub number_tree : Span → ℤ → ExprTree
number_tree s v = if int_lt v (pos 0) then e_unary s Neg (literal s (unsigned_abs v)) else literal s (unsigned_abs v)

abbrev pub put_name : Span → List ℕ → Option ℤ → ExprTree
put_name s n None = e_name s n
put_name s n (Some v) = number_tree s v

abbrev pub put : List Binding → ExprTree → ExprTree
put bs (e_literal s ty b) = e_literal s ty b
put bs (e_name s n) = put_name s n (value_in bs n)
put bs (e_pc s) = e_pc s
put bs (e_x s) = e_x s
put bs (e_mem s) = e_mem s
put bs (e_index s e l) = e_index s (put bs e) (put bs l)
put bs (e_range s e h l) = e_range s (put bs e) (put bs h) (put bs l)
put bs (e_unary s op e) = e_unary s op (put bs e)
put bs (e_cast s to e) = e_cast s to (put bs e)
put bs (e_binary s op e f) = e_binary s op (put bs e) (put bs f)
put bs (e_choose s c e f) = e_choose s (put bs c) (put bs e) (put bs f)

abbrev pub put_option : List Binding → Option ExprTree → Option ExprTree
put_option bs None = None
put_option bs (Some e) = Some (put bs e)

abbrev pub put_target : List Binding → LvalueTree → LvalueTree
put_target bs (l_name n) = l_name n
put_target bs l_pc = l_pc
put_target bs (l_x e) = l_x (put bs e)
put_target bs (l_mem e f) = l_mem (put bs e) (put_option bs f)

abbrev pub put_place : List Binding → Place → Place
put_place bs p = record { span = p.span; tree = put_target bs p.tree }

abbrev pub put_assign : List Binding → AssignTree → AssignTree
put_assign bs a = record { span = a.span; target = put_place bs a.target; op = a.op; value = put bs a.value }

abbrev pub put_decl : List Binding → DeclTree → DeclTree
put_decl bs d = record { span = d.span; name = d.name; value = put_option bs d.value }

-- ---- statements without loops
abbrev pub row_join : StmtRow → StmtRow → StmtRow
row_join row_end ys = ys
row_join (row_more x xs) ys = row_more x (row_join xs ys)

abbrev pub is_loop : StmtTree → Bool
is_loop (s_for s ty n start test last body) = true
is_loop _ = false

-- what a block holds
abbrev pub held : StmtTree → StmtRow
held (s_block s all) = all
held x = row_more x row_end

-- what stands in a block for the statement x, which is y where it stands alone: of a loop's block only what it holds
abbrev pub opened : StmtTree → StmtTree → StmtRow
opened x y = if is_loop x then held y else row_more y row_end

-- a copy for each value, in a block with the loop's span
abbrev pub copies : Span → (ℤ → StmtRow) → List ℤ → StmtRow
copies s body [] = row_end
copies s body (v ∷ vs) = row_more (s_block s (body v)) (copies s body vs)

abbrev pub copies_of : Span → (ℤ → StmtRow) → Turns → StmtRow
copies_of s body (these vs) = copies s body vs
copies_of s body (breaks b) = row_end

abbrev mutual
  -- what a statement comes to where it does not stand in a block: a loop is one block of its copies
  pub alone : StmtTree → List Binding → StmtTree
  alone (s_block s all) bs = s_block s (inside all bs)
  alone (s_empty s) bs = s_empty s
  alone (s_locals s ty ds) bs = s_locals s ty (map (put_decl bs) ds)
  alone (s_assign s a) bs = s_assign s (put_assign bs a)
  alone (s_if s c x) bs = s_if s (put bs c) (alone x bs)
  alone (s_if_else s c x y) bs = s_if_else s (put bs c) (alone x bs) (alone y bs)
  alone (s_for s ty n start test last body) bs =
      s_block s (copies_of s (λ v. opened body (alone body (with_value bs n v))) (judged bs (record { name = n; start = start; test = test; last = last }) body))
  alone (s_spawn s x) bs = s_spawn s (alone x bs)

  -- the statements of a block: a loop's copies stand in its place
  pub inside : StmtRow → List Binding → StmtRow
  inside row_end bs = row_end
  inside (row_more x rest) bs = row_join (opened x (alone x bs)) (inside rest bs)

-- ---- what is met on the way, in source order
pub data Mark : Type 0 where
  -- a statement of the result, which has the span of its source statement
  statement : Span → Mark
  -- a loop that breaks a rule
  fault : Broken → Span → Mark

-- in a block a loop makes no block of its own
abbrev pub unblocked : List Mark → List Mark
unblocked (statement s ∷ ms) = ms
unblocked ms = ms

abbrev pub opened_marks : StmtTree → List Mark → List Mark
opened_marks x ms = if is_loop x then unblocked ms else ms

abbrev pub copy_marks : Span → (ℤ → List Mark) → List ℤ → List Mark
copy_marks s body [] = []
copy_marks s body (v ∷ vs) = statement s ∷ body v ++ copy_marks s body vs

abbrev pub loop_marks : Span → (ℤ → List Mark) → Turns → List Mark
loop_marks s body (these vs) = statement s ∷ copy_marks s body vs
loop_marks s body (breaks b) = fault b s ∷ []

abbrev mutual
  pub met : StmtTree → List Binding → List Mark
  met (s_block s all) bs = statement s ∷ met_row all bs
  met (s_empty s) bs = statement s ∷ []
  met (s_locals s ty ds) bs = statement s ∷ []
  met (s_assign s a) bs = statement s ∷ []
  met (s_if s c x) bs = statement s ∷ met x bs
  met (s_if_else s c x y) bs = statement s ∷ met x bs ++ met y bs
  met (s_for s ty n start test last body) bs =
      loop_marks s (λ v. opened_marks body (met body (with_value bs n v))) (judged bs (record { name = n; start = start; test = test; last = last }) body)
  met (s_spawn s x) bs = statement s ∷ met x bs

  pub met_row : StmtRow → List Binding → List Mark
  met_row row_end bs = []
  met_row (row_more x rest) bs = opened_marks x (met x bs) ++ met_row rest bs

-- ---- whole texts
abbrev pub alone_instr : InstrTree → InstrTree
alone_instr i = record { span = i.span; name = i.name; pieces = i.pieces; body = alone i.body [] }

abbrev pub alone_block : BlockTree → BlockTree
alone_block b = record { span = b.span; name = b.name; body = alone b.body [] }

abbrev pub alone_kind : SectionKindTree → SectionKindTree
alone_kind (k_states xs) = k_states xs
alone_kind (k_instructions xs) = k_instructions (map alone_instr xs)
alone_kind (k_always xs) = k_always (map alone_block xs)

abbrev pub alone_section : SectionTree → SectionTree
alone_section s = record { span = s.span; kind = alone_kind s.kind }

-- the text with its loops unrolled
abbrev pub unrolled : TextTree → TextTree
unrolled t = record { span = t.span; name = t.name; sections = map alone_section t.sections }

abbrev pub met_instrs : List InstrTree → List Mark
met_instrs [] = []
met_instrs (i ∷ is') = met i.body [] ++ met_instrs is'

abbrev pub met_blocks : List BlockTree → List Mark
met_blocks [] = []
met_blocks (b ∷ bs) = met b.body [] ++ met_blocks bs

abbrev pub met_kind : SectionKindTree → List Mark
met_kind (k_states xs) = []
met_kind (k_instructions xs) = met_instrs xs
met_kind (k_always xs) = met_blocks xs

abbrev pub met_sections : List SectionTree → List Mark
met_sections [] = []
met_sections (s ∷ ss) = met_kind s.kind ++ met_sections ss

-- ---- the outcome
pub data Refusal : Type 0 where
  bound_at : Span → Refusal
  turns_at : Span → Refusal
  assigned_at : Span → Refusal
  -- the result passes the greatest count of statements here
  size_at : Span → Refusal

abbrev pub refusal_of : Broken → Span → Refusal
refusal_of bound s = bound_at s
refusal_of turns s = turns_at s
refusal_of assigned s = assigned_at s

-- the first refusal where n statements came before
abbrev pub first_refusal : ℕ → List Mark → Option Refusal
first_refusal n [] = None
first_refusal n (fault b s ∷ ms) = Some (refusal_of b s)
first_refusal n (statement s ∷ ms) = if nat_lt n most_statements then first_refusal (n + 1) ms else Some (size_at s)

pub data Outcome : Type 0 where
  without_loops : TextTree → Outcome
  refused : Refusal → Outcome

abbrev pub outcome_of : TextTree → Option Refusal → Outcome
outcome_of t None = without_loops (unrolled t)
outcome_of t (Some r) = refused r

-- what unrolling a text comes to
abbrev pub outcome : TextTree → Outcome
outcome t = outcome_of t (first_refusal 0 (met_sections t.sections))

-- ---- trees without loops
abbrev mutual
  pub has_no_loop : StmtTree → Bool
  has_no_loop (s_block s all) = no_loop_in all
  has_no_loop (s_empty s) = true
  has_no_loop (s_locals s ty ds) = true
  has_no_loop (s_assign s a) = true
  has_no_loop (s_if s c x) = has_no_loop x
  has_no_loop (s_if_else s c x y) = has_no_loop x && has_no_loop y
  has_no_loop (s_for s ty n start test last body) = false
  has_no_loop (s_spawn s x) = has_no_loop x

  pub no_loop_in : StmtRow → Bool
  no_loop_in row_end = true
  no_loop_in (row_more x rest) = has_no_loop x && no_loop_in rest

abbrev pub no_loop_in_kind : SectionKindTree → Bool
no_loop_in_kind (k_states xs) = true
no_loop_in_kind (k_instructions xs) = list_all (λ i. has_no_loop i.body) xs
no_loop_in_kind (k_always xs) = list_all (λ b. has_no_loop b.body) xs

-- no behaviour of the text has a loop
abbrev pub IsWithoutLoops : TextTree → Type 0
IsWithoutLoops t = list_all (λ s. no_loop_in_kind s.kind) t.sections ≡ true
