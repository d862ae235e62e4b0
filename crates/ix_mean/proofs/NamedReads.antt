-- Resolving the names of a statement keeps what it reads of memory.
use Rattle.std.proofs.Common.{◌≡◌, ℕ, zero, suc, ◌-◌, ◌+◌, ◌^◌, ◌<◌, ◌≤◌, refl, sym, ap, ◌∙◌, arith, Bool, true, false, cond, Option, Some, None, ℤ, List, [], ◌∷◌, ◌++◌, map, length, append-nil}
use Rattle.std.specs.Prelude.{◌&&◌}
use Rattle.std.proofs.lemmas.Bool.{cond_both, and_parts}
use Rattle.std.proofs.lemmas.List.{length_push}
use Rattle.ix_bits.specs.declared.number.Ty.{Ty}
use Rattle.ix_bits.specs.declared.operator.BinOp.{BinOp}
use Rattle.ix_bits.specs.NearTypes.{type_near}
use Rattle.ix_bits.specs.Operators.{is_true}
use Rattle.ix_graph.specs.declared.kind.Kind.TheVariants as k
use Rattle.ix_tree.specs.declared.extension.Piece.{Piece}
use Rattle.ix_tree.specs.TypedTrees.{TypedExprTree, t_literal, t_name, t_pc, t_x, t_mem, t_index, t_range, t_unary, t_cast, t_binary, t_choose, TypedLvalueTree, tl_name, tl_pc, tl_x, tl_mem, TypedDeclTree, TypedStmtTree, ts_block, ts_empty, ts_locals, ts_assign, ts_if, ts_if_else, ts_spawn, TypedRow, typed_end, typed_more}
use Rattle.ix_mean.specs.Core.{u1, u32, Expression, x_const, x_slot, x_read, x_load, x_one, x_cast, x_entry, x_two, x_choose}
use Rattle.ix_mean.specs.Meaning.{Inputs, Numbers, number, run, Access, accesses, reads}
use Rattle.ix_mean.specs.Typing.{is_constant}
use Rattle.ix_mean.specs.ByName.{Names, Local, Numbered, register_in, Entries, table_in, stands_at_15, number_by_name}
use Rattle.ix_mean.specs.EffectByName.{type_of_text, first_number}
use Rattle.ix_mean.specs.ReadsByName.{place_accesses, accesses_by_name, first_accesses, declared_reads, register_reads, name_reads, assigned_reads, read_by, read_by_row}
use Rattle.ix_mean.specs.Resolving.{Slot, slot_in, behind, with_zeros, field_from, word_part, ordered, pieces_of, top_of, some_or, field_expression, operand_expression, register_read, resolved_other, resolved_name, resolved_entry, resolved_index, resolved_range, resolved, IsPlace, IsEntryOrBit, IsIndex, IsRange, IsResolved, local_at}
use Rattle.ix_mean.specs.ResolvingStatements.{Scope, declared, initial, declarations, operated, register_written, name_written, written, left, step, step_row, IsInitial, AreDeclared, IsTarget, IsResolvedStatement, IsResolvedRow, doing, outside, ReadsLaw}
use Rattle.ix_mean.proofs.Resolvings.{at_slot, slot_kept, number_kept}
use Rattle.ix_mean.proofs.Steps.{Descend, goes_left, goes_declared, goes_declarations, goes, goes_row, slots_kept, first_kept, declared_kept, kept}

-- ---- what reads nothing: literals, names
beside : (rs bs cs ds : List Access) → rs ≡ bs → cs ≡ ds → rs ++ cs ≡ bs ++ ds
beside rs bs cs ds e f = ap (λ (l : List Access). l ++ cs) e ∙ ap (λ (l : List Access). bs ++ l) f

constant_reads : (i : Inputs) (s : List ℤ) (e : Expression) → is_constant e ≡ true → accesses i s e ≡ []
constant_reads i s (x_const ty raw) h = refl
constant_reads i s (x_slot n ty) h = cc
constant_reads i s (x_read kind ty) h = cc
constant_reads i s (x_load ty a) h = cc
constant_reads i s (x_one kind ty a) h = constant_reads i s a h
constant_reads i s (x_cast ty a) h = constant_reads i s a h
constant_reads i s (x_entry n es ty a) h = cc
constant_reads i s (x_two op ty a b) h =
    let p = and_parts (is_constant a) (is_constant b) h in
    beside (accesses i s a) [] (accesses i s b) [] (constant_reads i s a p.0) (constant_reads i s b p.1)
constant_reads i s (x_choose ty c a b) h =
    let p = and_parts (is_constant c && is_constant a) (is_constant b) h in
    let q = and_parts (is_constant c) (is_constant a) p.0 in
    rw (constant_reads i s c q.0, constant_reads i s a q.1, constant_reads i s b p.1) refl

abbrev Silent : Inputs → List ℤ → Option Expression → Type 0
Silent i s None = Unit {0}
Silent i s (Some e) = accesses i s e ≡ []

behind_silent : (i : Inputs) (s : List ℤ) (d : Option Expression) (e : Expression) → Silent i s d → accesses i s e ≡ [] → Silent i s (behind d e)
behind_silent i s None e h g = g
behind_silent i s (Some d) e h g = beside (accesses i s d) [] (accesses i s e) [] h g

zeros_silent : (i : Inputs) (s : List ℤ) (d : Option Expression) (n : ℕ) → Silent i s d → Silent i s (with_zeros d n)
zeros_silent i s d zero h = h
zeros_silent i s d (suc n) h = behind_silent i s d (x_const (type_near false (suc n)) 0) h refl

pieces_silent : (i : Inputs) (s : List ℤ) (d : Option Expression) (below : ℕ) (ps : List Piece) → Silent i s d → Silent i s (field_from d below ps)
pieces_silent i s d below [] h = zeros_silent i s d below h
pieces_silent i s d below (p ∷ ps) h =
    let zeros = with_zeros d (below - (p.hi + 1)) in
    pieces_silent i s (behind zeros (word_part p)) p.lo ps (behind_silent i s zeros (word_part p) (zeros_silent i s d (below - (p.hi + 1)) h) refl)

field_silent : (i : Inputs) (s : List ℤ) (ps : List Piece) (n : List ℕ) → accesses i s (field_expression ps n) ≡ []
field_silent i s ps n = by (field_from None (top_of (ordered (pieces_of ps n))) (ordered (pieces_of ps n))) (pieces_silent i s None (top_of (ordered (pieces_of ps n))) (ordered (pieces_of ps n)) tt)
  where
    by : (o : Option Expression) → Silent i s o → accesses i s (some_or o (x_const u1 0)) ≡ []
    by None h = refl
    by (Some e) h = h

other_silent : (i : Inputs) (s : List ℤ) (ns : Names) (n : List ℕ) (o : Option Numbered) → accesses i s (resolved_other ns n o) ≡ []
other_silent i s ns n (Some r) = refl
other_silent i s ns n None = field_silent i s ns.pieces n

name_silent : (i : Inputs) (s : List ℤ) (ns : Names) (n : List ℕ) (o : Option Slot) → accesses i s (resolved_name ns n o) ≡ []
name_silent i s ns n (Some l) = refl
name_silent i s ns n None = other_silent i s ns n (register_in 0 ns.registers n)

operand_silent : (i : Inputs) (s : List ℤ) (ps : List Piece) (f : List ℕ) → accesses i s (operand_expression ps f) ≡ []
operand_silent i s ps f = cond_both (stands_at_15 ps f) (x_read k.RdRS1 u32) (x_read k.RdRS2 u32) (λ (e : Expression). accesses i s e ≡ []) (λ e. refl) (λ e. refl)

-- ---- bits, entries and memory
bits_read : (i : Inputs) (s : List ℤ) (base : Expression) (y : TypedExprTree) (at : Expression) (bs rs : List Access) → accesses i s base ≡ bs → accesses i s at ≡ rs → IsPlace y at → accesses i s base ≡ bs ++ rs
bits_read i s base y at bs rs e f h =
    e ∙ sym (append-nil bs) ∙ ap (λ (l : List Access). bs ++ l) (sym (constant_reads i s at h.constant) ∙ f)

entry_reads : (i : Inputs) (s : List ℤ) (o : Option Entries) (ty : Ty) (base : Expression) (y : TypedExprTree) (at : Expression) (P : Type 0) (rs : List Access) → (P → accesses i s base ≡ []) → accesses i s at ≡ rs → IsEntryOrBit o P y at
    → accesses i s (resolved_entry o ty base at) ≡ rs
entry_reads i s (Some t) ty base y at P rs e f h = f
entry_reads i s None ty base y at P rs e f h = bits_read i s base y at [] rs (e h.0) f h.1

loaded_read : (i : Inputs) (s : List ℤ) (ty : Ty) (at : Expression) (rs : List Access) (z : ℤ) → accesses i s at ≡ rs → number i s at ≡ z → accesses i s (x_load ty at) ≡ rs ++ record { ty = ty; at = z } ∷ []
loaded_read i s ty at rs z e f =
    beside (accesses i s at) rs _ _ e (ap (λ (y : ℤ). (let a : Access = record { ty = ty; at = y } in a) ∷ []) f)

-- what is known of a place: its reads and its number
record IsRead (i : Inputs) (s : List ℤ) (e : Expression) (rs : List Access) (z : ℤ) : Type 0 where
  same : accesses i s e ≡ rs
  number_is : number i s e ≡ z

index_reads : (i : Inputs) (s : List ℤ) (ns : Names) (ls : List Local) (ty : Ty) (x : TypedExprTree) (base : Expression) (y : TypedExprTree) (at : Expression) (P Q : Type 0)
    → (P → accesses i s base ≡ accesses_by_name ns i ls x) → (Q → IsRead i s at (accesses_by_name ns i ls y) (number_by_name ns i ls y)) → IsIndex ns ty x P y Q at
    → accesses i s (resolved_index ns ty x base y at) ≡ place_accesses ty x (accesses_by_name ns i ls x) (accesses_by_name ns i ls y) (number_by_name ns i ls y)
index_reads i s ns ls ty (t_x a b) base (t_name c d f) at P Q p q h = operand_silent i s ns.pieces f
index_reads i s ns ls ty (t_x a b) base y at P Q p q h = bits_read i s base y at [] (accesses_by_name ns i ls y) (p h.0) (q h.1).same h.2
index_reads i s ns ls ty (t_mem a b) base y at P Q p q h = loaded_read i s ty at (accesses_by_name ns i ls y) (number_by_name ns i ls y) (q h).same (q h).number_is
index_reads i s ns ls ty (t_name a b n) base y at P Q p q h = entry_reads i s (table_in 0 ns.tables n) ty base y at P (accesses_by_name ns i ls y) p (q h.0).same h.1
index_reads i s ns ls ty _ base y at P Q p q h = bits_read i s base y at _ (accesses_by_name ns i ls y) (p h.0) (q h.1).same h.2

range_reads : (i : Inputs) (s : List ℤ) (ns : Names) (ls : List Local) (ty : Ty) (x y w : TypedExprTree) (base a b : Expression) (P H L : Type 0)
    → (P → accesses i s base ≡ accesses_by_name ns i ls x) → (L → IsRead i s b (accesses_by_name ns i ls w) (number_by_name ns i ls w)) → IsRange x P y H w L a b
    → accesses i s (resolved_range ty x base a b) ≡ place_accesses ty x (accesses_by_name ns i ls x) (accesses_by_name ns i ls w) (number_by_name ns i ls w)
range_reads i s ns ls ty (t_mem c d) y w base a b P H L p q h = loaded_read i s ty b (accesses_by_name ns i ls w) (number_by_name ns i ls w) (q h).same (q h).number_is
range_reads i s ns ls ty _ y w base a b P H L p q h = bits_read i s base w b _ (accesses_by_name ns i ls w) (p h.0) (q h.2).same h.4

-- ---- expressions
accesses_kept : (ns : Names) (ls : List Slot) (i : Inputs) (s : List ℤ) (e : TypedExprTree) → i.word < 2 ^ 32 → IsResolved ns ls e
    → accesses i s (resolved ns ls e) ≡ accesses_by_name ns i (map (local_at s) ls) e
accesses_kept ns ls i s (t_literal a ty lt b) g h = refl
accesses_kept ns ls i s (t_name a ty n) g h = name_silent i s ns n (slot_in ls n)
accesses_kept ns ls i s (t_pc a ty) g h = refl
accesses_kept ns ls i s (t_x a ty) g h = refl
accesses_kept ns ls i s (t_mem a ty) g h = refl
accesses_kept ns ls i s (t_index a ty x y) g h =
    index_reads i s ns (map (local_at s) ls) ty x (resolved ns ls x) y (resolved ns ls y) (IsResolved ns ls x) (IsResolved ns ls y)
    (λ p. accesses_kept ns ls i s x g p) (λ q. record { same = accesses_kept ns ls i s y g q; number_is = number_kept ns ls i s y g q }) h
accesses_kept ns ls i s (t_range a ty x y z) g h =
    range_reads i s ns (map (local_at s) ls) ty x y z (resolved ns ls x) (resolved ns ls y) (resolved ns ls z) (IsResolved ns ls x) (IsResolved ns ls y) (IsResolved ns ls z)
    (λ p. accesses_kept ns ls i s x g p) (λ q. record { same = accesses_kept ns ls i s z g q; number_is = number_kept ns ls i s z g q }) h
accesses_kept ns ls i s (t_unary a ty op x) g h = accesses_kept ns ls i s x g h
accesses_kept ns ls i s (t_cast a ty to x) g h = accesses_kept ns ls i s x g h
accesses_kept ns ls i s (t_binary a ty op x y) g h = beside (accesses i s (resolved ns ls x)) _ (accesses i s (resolved ns ls y)) _ (accesses_kept ns ls i s x g h.0) (accesses_kept ns ls i s y g h.1)
accesses_kept ns ls i s (t_choose a ty c x y) g h =
    rw (accesses_kept ns ls i s c g h.0, accesses_kept ns ls i s x g h.1, accesses_kept ns ls i s y g h.2) refl

-- ---- declarations
first_reads : (ns : Names) (i : Inputs) (sc : Scope) (s : Numbers) (ty : Ty) (o : Option TypedExprTree) → i.word < 2 ^ 32 → IsInitial ns sc o
    → accesses i s.slots (initial ns sc ty o) ≡ first_accesses ns i (map (local_at s.slots) sc.locals) o
first_reads ns i sc s ty None b h = refl
first_reads ns i sc s ty (Some e) b h = accesses_kept ns sc.locals i s.slots e b h

declarations_read : (ns : Names) (i : Inputs) (ty : Ty) (ds : List TypedDeclTree) (sc : Scope) (s : Numbers) → i.word < 2 ^ 32 → Descend (length sc.slots) sc.locals → AreDeclared ns ty ds sc
    → length (declarations ns ty ds sc).scope.slots ≤ length s.slots
    → reads i (declarations ns ty ds sc).body s ≡ declared_reads ns i ty ds (doing sc s)
declarations_read ns i ty [] sc s b d h w = refl
declarations_read ns i ty (x ∷ xs) sc s b d h w =
    let one = declared sc x.name ty (initial ns sc ty x.value) in
    let g = goes_declared sc x.name ty (initial ns sc ty x.value) d in
    let rest = goes_declarations ns ty xs one.scope g.descends in
    let long = length_push sc.slots ty in
    let next = run i one.body s in
    let same = slots_kept i one.body s in
    beside (accesses i s.slots (initial ns sc ty x.value)) _ (reads i (declarations ns ty xs one.scope).body next) _
    (first_reads ns i sc s ty x.value b h.0)
    (declarations_read ns i ty xs one.scope next b g.descends h.1 (omega (arith, w, same))
    ∙ ap (declared_reads ns i ty xs)
    (declared_kept i sc s x.name ty (initial ns sc ty x.value) (first_number ns i (map (local_at s.slots) sc.locals) x.value) d (omega (arith, w, rest.more, long))
    (first_kept ns i sc s ty x.value b h.0)))

-- ---- assignments
operated_reads : (i : Inputs) (s : List ℤ) (op : Option BinOp) (ty : Ty) (old e : Expression) → accesses i s old ≡ [] → accesses i s (operated op ty old e) ≡ accesses i s e
operated_reads i s None ty old e h = refl
operated_reads i s (Some op) ty old e h = ap (λ (l : List Access). l ++ accesses i s e) h

register_written_reads : (i : Inputs) (s : Numbers) (op : Option BinOp) (e : Expression) (rs : List Access) (o : Option Numbered) → accesses i s.slots e ≡ rs → reads i (register_written op e o) s ≡ register_reads o rs
register_written_reads i s op e rs (Some r) h = operated_reads i s.slots op r.ty (register_read r) e refl ∙ h
register_written_reads i s op e rs None h = refl

name_written_reads : (ns : Names) (i : Inputs) (s : Numbers) (op : Option BinOp) (n : List ℕ) (e : Expression) (rs : List Access) (o : Option Slot) → accesses i s.slots e ≡ rs
    → reads i (name_written ns op n e o) s ≡ name_reads ns n (at_slot s.slots o) rs
name_written_reads ns i s op n e rs (Some l) h = operated_reads i s.slots op l.ty (x_slot l.slot l.ty) e refl ∙ h
name_written_reads ns i s op n e rs None h = register_written_reads i s op e rs (register_in 0 ns.registers n) h

written_reads : (ns : Names) (i : Inputs) (sc : Scope) (s : Numbers) (op : Option BinOp) (t : TypedLvalueTree) (e : Expression) (rs : List Access) → i.word < 2 ^ 32 → accesses i s.slots e ≡ rs → IsTarget ns sc t
    → reads i (written ns sc op t e) s ≡ assigned_reads ns i (map (local_at s.slots) sc.locals) t rs
written_reads ns i sc s op (tl_name n) e rs b h t =
    name_written_reads ns i s op n e rs (slot_in sc.locals n) h ∙ ap (λ (o : Option Local). name_reads ns n o rs) (sym (slot_kept s.slots sc.locals n))
written_reads ns i sc s op tl_pc e rs b h t = operated_reads i s.slots op u32 (x_read k.RdPC u32) e refl ∙ h
written_reads ns i sc s op (tl_x f) e rs b h t = h
written_reads ns i sc s op (tl_mem x None) e rs b h t = beside (accesses i s.slots (resolved ns sc.locals x)) _ (accesses i s.slots e) rs (accesses_kept ns sc.locals i s.slots x b t) h
written_reads ns i sc s op (tl_mem x (Some y)) e rs b h t = beside (accesses i s.slots (resolved ns sc.locals y)) _ (accesses i s.slots e) rs (accesses_kept ns sc.locals i s.slots y b t) h

-- ---- statements
branch_reads : (b c : Bool) (rs bs cs ds : List Access) → b ≡ c → rs ≡ cs → bs ≡ ds → cond b rs bs ≡ cond c cs ds
branch_reads b c rs bs cs ds e f g = rw (e, f, g) refl

mutual
  reads_kept : (ns : Names) (i : Inputs) (x : TypedStmtTree) (sc : Scope) (s : Numbers) → i.word < 2 ^ 32 → Descend (length sc.slots) sc.locals → IsResolvedStatement ns x sc
      → length (step ns x sc).scope.slots ≤ length s.slots → reads i (step ns x sc).body s ≡ read_by ns i x (doing sc s)
  reads_kept ns i (ts_block a all) sc s b d h w = reads_kept_row ns i all sc s b d h w
  reads_kept ns i (ts_empty a) sc s b d h w = refl
  reads_kept ns i (ts_locals a ty ds) sc s b d h w = declarations_read ns i (type_of_text ty) ds sc s b d h w
  reads_kept ns i (ts_assign t a) sc s b d h w =
      written_reads ns i sc s a.op a.target.tree (resolved ns sc.locals a.value) (accesses_by_name ns i (map (local_at s.slots) sc.locals) a.value) b
      (accesses_kept ns sc.locals i s.slots a.value b h.0) h.1
  reads_kept ns i (ts_if a c x) sc s b d h w =
      beside (accesses i s.slots (resolved ns sc.locals c)) _ _ _ (accesses_kept ns sc.locals i s.slots c b h.0)
      (branch_reads _ _ (reads i (step ns x sc).body s) [] (read_by ns i x (doing sc s)) [] (ap is_true (number_kept ns sc.locals i s.slots c b h.0)) (reads_kept ns i x sc s b d h.1 w) refl)
  reads_kept ns i (ts_if_else a c x y) sc s b d h w =
      let here = left sc (step ns x sc).scope in
      let one = goes_left sc (step ns x sc).scope d (goes ns x sc d) in
      let two = goes ns y here one.descends in
      beside (accesses i s.slots (resolved ns sc.locals c)) _ _ _ (accesses_kept ns sc.locals i s.slots c b h.0)
      (branch_reads _ _ (reads i (step ns x sc).body s) (reads i (step ns y here).body s) (read_by ns i x (doing sc s)) (read_by ns i y (doing sc s)) (ap is_true (number_kept ns sc.locals i s.slots c b h.0))
      (reads_kept ns i x sc s b d h.1 (omega (arith, w, two.more))) (reads_kept ns i y here s b one.descends h.2 w))
  reads_kept ns i (ts_spawn a x) sc s b d h w = reads_kept ns i x sc s b d h w

  reads_kept_row : (ns : Names) (i : Inputs) (all : TypedRow) (sc : Scope) (s : Numbers) → i.word < 2 ^ 32 → Descend (length sc.slots) sc.locals → IsResolvedRow ns all sc
      → length (step_row ns all sc).scope.slots ≤ length s.slots → reads i (step_row ns all sc).body s ≡ read_by_row ns i all (doing sc s)
  reads_kept_row ns i typed_end sc s b d h w = refl
  reads_kept_row ns i (typed_more x rest) sc s b d h w =
      let here = (step ns x sc).scope in
      let g = goes ns x sc d in
      let r = goes_row ns rest here g.descends in
      let next = run i (step ns x sc).body s in
      let same = slots_kept i (step ns x sc).body s in
      beside (reads i (step ns x sc).body s) _ (reads i (step_row ns rest here).body next) _
      (reads_kept ns i x sc s b d h.0 (omega (arith, w, r.more)))
      (reads_kept_row ns i rest here next b g.descends h.1 (omega (arith, w, same)) ∙ ap (read_by_row ns i rest) (kept ns i x sc s b d h.0 (omega (arith, w, r.more))))

pub reads_law : ReadsLaw
reads_law ns i x s b h w = reads_kept ns i x outside s b tt h w
