-- Which behaviour a plan of a standing design is of, and when its operations read.
use Rattle.std.proofs.Common.{◌≡◌, refl, ap, subst, ◌∙◌, inl, inr, ℕ, zero, suc, ◌+◌, ◌-◌, ◌<◌, ◌≤◌, arith, List, [], ◌∷◌, ◌++◌, map, get_or, length, Option, Some, Bool, true, false, lit<, length-append}
use Rattle.std.specs.Prelude.{option_map, slice_get, slice_index, IfSome}
use Rattle.std.specs.List.{range_with_len, zip}
use Rattle.std.proofs.lemmas.Bool.{cases_lt}
use Rattle.std.proofs.lemmas.Option.{slice_get-map, slice_get_within, slice_get-get_or, get_or_from_slice_get}
use Rattle.std.proofs.lemmas.List.{length-map, get_or-map}
use Rattle.std.proofs.lemmas.Slice.Zip.{length-zip, get_or-zip}
use Rattle.rv_core.specs.declared.Shape.{Shape}
use Rattle.ix_graph.specs.declared.kind.Kind.{Kind}
use Rattle.ix_graph.specs.declared.kind.Kind.TheVariants.{RdInstr, RdRS1, RdRS2, RdPC, RdCustReg, RdMem, WrRD, WrPC, WrCustReg, WrMem}
use Rattle.ix_graph.specs.declared.graph.Op.{Op}
use Rattle.ix_graph.specs.declared.graph.Graph.{Graph}
use Rattle.ix_graph.specs.declared.graph.Mode.{Mode}
use Rattle.ix_graph.specs.declared.graph.Mode.TheVariants.{InPipeline, Tight, Decoupled, Always}
use Rattle.ix_graph.specs.declared.role.Role.TheVariants.{Read}
use Rattle.ix_graph.specs.Roles.{role_of}
use Rattle.ix_graph.specs.Graphs.{IsWrite, IsFlagOf, IsValidGraph}
use Rattle.ix_net.specs.declared.netlist.Net.{Net}
use Rattle.ix_sheet.specs.declared.problem.Node.{Node}
use Rattle.ix_sheet.specs.declared.sheet.Sheet.{Sheet}
use Rattle.ix_sheet.specs.Sheets.{IsValidSheet, native_windows_of, window_at}
use Rattle.ix_sheet.specs.Schedules.{node_at, IsSchedule, IsInWindow}
use Rattle.ix_sheet.specs.Behaviours.{window_of, window_in, last_if_tight, node_of, problem_of}
use Rattle.ix_extension.specs.Extensions.{ExtensionTree, view_instruction, view_extension}
use Rattle.ix_behaviour.specs.declared.which.Which.{Which}
use Rattle.ix_behaviour.specs.declared.which.Which.TheVariants as W
use Rattle.ix_behaviour.specs.Behaviours.{HasBehaviour}
use Rattle.ix_plan.specs.declared.design.Plan.{Plan}
use Rattle.ix_plan.specs.declared.design.Design.{Design}
use Rattle.ix_standing.specs.Standing.{instruction_number, block_number, IsBuilt, Stands}

-- ---- which behaviour

range_at : (a n m : ℕ) → m < n → slice_get (range_with_len a n) m ≡ Some (a + m)
range_at a zero m l = absurd (omega (arith, l))
range_at a (suc n) zero l = (let e : a ≡ a + 0 = omega arith in ap (λ (z : ℕ). Some z) e)
range_at a (suc n) (suc m) l = (let e : a + 1 + m ≡ a + suc m = omega arith in range_at (a + 1) n m (omega (arith, l)) ∙ ap (λ (z : ℕ). Some z) e)

range_length : (a n : ℕ) → length (range_with_len a n) ≡ n
range_length a zero = refl
range_length a (suc n) = ap suc (range_length (a + 1) n)

front_at : {A : Type 0} (xs ys : List A) (m : ℕ) (x : A) → slice_get xs m ≡ Some x → slice_get (xs ++ ys) m ≡ Some x
front_at [] ys m x e = cc
front_at (y ∷ xs) ys zero x e = e
front_at (y ∷ xs) ys (suc m) x e = front_at xs ys m x e

back_at : {A : Type 0} (xs ys : List A) (n m : ℕ) → n ≡ length xs + m → slice_get (xs ++ ys) n ≡ slice_get ys m
back_at [] ys n m e = (let same : n ≡ m = omega (arith, e) in ap (slice_get ys) same)
back_at (x ∷ xs) ys zero m e = absurd (omega (arith, e))
back_at (x ∷ xs) ys (suc n) m e = back_at xs ys n m (omega (arith, e))

counted : (n m : ℕ) (f : ℕ → Which) → m < n → slice_get (map f (range_with_len 0 n)) m ≡ Some (f m)
counted n m f l = (let e : 0 + m ≡ m = omega arith in slice_get-map f (range_with_len 0 n) m ∙ ap (option_map f) (range_at 0 n m l ∙ ap (λ (z : ℕ). Some z) e))

abbrev instructions_in : ExtensionTree → List Which
instructions_in x = map instruction_number (range_with_len 0 (length x.instructions))

abbrev blocks_in : ExtensionTree → List Which
blocks_in x = map block_number (range_with_len 0 (length x.blocks))

instructions_length : (x : ExtensionTree) → length (instructions_in x) ≡ length x.instructions
instructions_length x = length-map (range_with_len 0 (length x.instructions)) instruction_number ∙ range_length 0 (length x.instructions)

blocks_length : (x : ExtensionTree) → length (blocks_in x) ≡ length x.blocks
blocks_length x = length-map (range_with_len 0 (length x.blocks)) block_number ∙ range_length 0 (length x.blocks)

-- the number of a behaviour in a design: instructions before blocks
abbrev pub IsNumbered : Design → ℕ → Which → Type 0
IsNumbered d n (W.Instruction m) = m ≡ n
IsNumbered d n (W.Block m) = n ≡ length d.extension.instructions + m

pub record Behaves (d : Design) (n : ℕ) (p : Plan) (net : Net) : Type 0 where
  pub which : Which
  pub has : HasBehaviour (view_extension d.extension) which
  pub built : IsBuilt (view_extension d.extension) d.sheet which p net
  pub number : IsNumbered d n which

pub behaves : (d : Design) → Stands d → (n : ℕ) (p : Plan) (net : Net) → slice_get d.plans n ≡ Some p → slice_get d.nets n ≡ Some net → Behaves d n p net
behaves d stands n p net e q =
    let x = view_extension d.extension in
    let within = slice_get_within d.plans n p e in
    let plans = stands.built.plan_count in
    let both = length-append (instructions_in x) (blocks_in x) in
    let some = instructions_length x in
    let more = blocks_length x in
    elim (cases_lt n (length x.instructions)) [
      | inl less ↦ record {
        which = W.Instruction n;
        has = less;
        built = stands.built.each n (W.Instruction n) p net (front_at (instructions_in x) (blocks_in x) n (W.Instruction n) (counted (length x.instructions) n instruction_number less)) e q;
        number = refl;
      }
      | inr past ↦
          let m = n - length x.instructions in
          let count : length x.instructions ≡ length d.extension.instructions = length-map d.extension.instructions view_instruction in
          let small : m < length x.blocks = omega (arith, within, plans, both, some, more, past) in
          record {
            which = W.Block m;
            has = small;
            built = stands.built.each n (W.Block m) p net (back_at (instructions_in x) (blocks_in x) n m (omega (arith, past, some)) ∙ counted (length x.blocks) m block_number small) e q;
            number = omega (arith, count, past);
          }
    ]

-- ---- windows

-- the times at which an operation of this kind may read
abbrev pub ReadsAt : Shape → Kind → ℕ → Type 0
ReadsAt shape RdInstr t = (shape.rd ≤ t) × (t < shape.stages)
ReadsAt shape RdPC t = (shape.rd ≤ t) × (t < shape.stages)
ReadsAt shape RdRS1 t = (shape.rd ≤ t) × (t ≤ shape.ex)
ReadsAt shape RdRS2 t = (shape.rd ≤ t) × (t ≤ shape.ex)
ReadsAt shape (RdCustReg r) t = t ≡ shape.ex
ReadsAt shape RdMem t = t ≡ shape.ex
ReadsAt shape kind t = Unit {0}

abbrev IsWithin : ℕ × ℕ → ℕ → Type 0
IsWithin window t = (window.0 ≤ t) × (t ≤ window.1)

module _ (sheet : Sheet) (right : IsValidSheet sheet) where
  some_stages : 0 < sheet.shape.stages
  some_stages = let a = sheet.shape.lawful.memory_late in let b = sheet.shape.lawful.memory_inside in omega (arith, a, b)

  anywhere : (k : ℕ) → k < 10 → window_at (native_windows_of sheet.shape) k ≡ (sheet.shape.rd, sheet.shape.stages - 1) → (t : ℕ) → IsWithin (window_at sheet.window k) t → (sheet.shape.rd ≤ t) × (t < sheet.shape.stages)
  anywhere k lt e t h =
      let w = right.windows k lt in
      let first = w.first in
      let last = w.last in
      let low = ap (λ (z : ℕ × ℕ). z.0) e in
      let high = ap (λ (z : ℕ × ℕ). z.1) e in
      let some = some_stages in
      let from = h.0 in
      let to = h.1 in
      (omega (arith, first, low, from), omega (arith, last, high, to, some))

  operand : (k : ℕ) → k < 10 → window_at (native_windows_of sheet.shape) k ≡ (sheet.shape.rd, sheet.shape.ex) → (t : ℕ) → IsWithin (window_at sheet.window k) t → (sheet.shape.rd ≤ t) × (t ≤ sheet.shape.ex)
  operand k lt e t h =
      let w = right.windows k lt in
      let first = w.first in
      let last = w.last in
      let low = ap (λ (z : ℕ × ℕ). z.0) e in
      let high = ap (λ (z : ℕ × ℕ). z.1) e in
      let from = h.0 in
      let to = h.1 in
      (omega (arith, first, low, from), omega (arith, last, high, to))

  execute : (k : ℕ) → k < 10 → window_at (native_windows_of sheet.shape) k ≡ (sheet.shape.ex, sheet.shape.ex) → (t : ℕ) → IsWithin (window_at sheet.window k) t → t ≡ sheet.shape.ex
  execute k lt e t h =
      let w = right.windows k lt in
      let first = w.first in
      let last = w.last in
      let low = ap (λ (z : ℕ × ℕ). z.0) e in
      let high = ap (λ (z : ℕ × ℕ). z.1) e in
      let from = h.0 in
      let to = h.1 in
      omega (arith, first, low, from, last, high, to)

  of_window : (kind : Kind) (t : ℕ) → IsWithin (window_of sheet kind) t → ReadsAt sheet.shape kind t
  of_window RdInstr t h = anywhere 0 (lit< tt) refl t h
  of_window RdRS1 t h = operand 1 (lit< tt) refl t h
  of_window RdRS2 t h = operand 2 (lit< tt) refl t h
  of_window RdPC t h = anywhere 3 (lit< tt) refl t h
  of_window (RdCustReg r) t h = execute 4 (lit< tt) refl t h
  of_window RdMem t h = execute 5 (lit< tt) refl t h
  of_window kind t h = tt

  -- what reads has no longer window in a Tight behaviour
  not_tight : (kind : Kind) (last : ℕ) → role_of kind ≡ Read → last_if_tight kind last ≡ last
  not_tight WrRD last e = cc
  not_tight WrPC last e = cc
  not_tight (WrCustReg r) last e = cc
  not_tight kind last e = refl

  in_plain : (mode : Mode) (kind : Kind) (t : ℕ) → role_of kind ≡ Read → IsWithin (window_in sheet mode kind false) t → IsWithin (window_of sheet kind) t × (mode ≡ Always → t ≡ sheet.shape.ex)
  in_plain Always kind t e h =
      let from = h.0 in
      let to = h.1 in
      ((omega (arith, from), omega (arith, to)), λ q. omega (arith, from, to))
  in_plain Decoupled kind t e h = (h, λ q. cc)
  in_plain InPipeline kind t e h = (h, λ q. cc)
  in_plain Tight kind t e h = (subst (λ n. ((window_of sheet kind).0 ≤ t) × (t ≤ n)) (not_tight kind (window_of sheet kind).1 e) h, λ q. cc)

-- what reads is no write
read_writes_not : (kind : Kind) → role_of kind ≡ Read → IsWrite kind → ⊥
read_writes_not WrRD e h = cc
read_writes_not WrPC e h = cc
read_writes_not (WrCustReg r) e h = cc
read_writes_not WrMem e h = cc
read_writes_not kind e h = absurd h

not_true : (b : Bool) → (b ≡ true → ⊥) → b ≡ false
not_true true h = absurd (h refl)
not_true false h = refl

pub record IsReadTime (shape : Shape) (mode : Mode) (kind : Kind) (t : ℕ) : Type 0 where
  pub reads : ReadsAt shape kind t
  pub always : mode ≡ Always → t ≡ shape.ex

module _ (g : Graph) (sheet : Sheet) (mode : Mode) (valid : IsValidGraph g) (right : IsValidSheet sheet) (times : List ℕ) (schedule : IsSchedule (problem_of g sheet mode) times) where
  count_is : length (problem_of g sheet mode).ops ≡ length g.ops
  unfolding problem_of
  count_is =
      let size = length-map (zip g.ops g.spawned) (node_of sheet mode) in
      let both = length-zip g.ops g.spawned in
      let flags = valid.flags in
      size ∙ both ∙ omega arith

  node_is : (k : ℕ) (op : Op) → k < length g.ops → node_at (problem_of g sheet mode) k ≡ node_of sheet mode (get_or g.ops k op, get_or g.spawned k true)
  unfolding problem_of
  node_is k op l =
      let both = length-zip g.ops g.spawned in
      let flags = valid.flags in
      get_or-map (node_of sheet mode) (zip g.ops g.spawned) k (op, true) (record { delay = 0; latency = 0; weight = 0; early = 0; late = 0 }) (omega arith)
      ∙ ap (node_of sheet mode) (get_or-zip g.ops g.spawned k (op, true) l (omega arith))

  node_of_op : (k : ℕ) (o : Op) → slice_get g.ops k ≡ Some o → node_at (problem_of g sheet mode) k ≡ node_of sheet mode (o, get_or g.spawned k true)
  node_of_op k o e =
      node_is k o (slice_get_within g.ops k o e) ∙ ap (λ (z : Op). node_of sheet mode (z, get_or g.spawned k true)) (get_or_from_slice_get g.ops k o o e)

  in_window : (k : ℕ) (o : Op) → slice_get g.ops k ≡ Some o → IsInWindow (node_of sheet mode (o, get_or g.spawned k true)) (slice_index times k)
  in_window k o e =
      let size = count_is in
      let within = slice_get_within g.ops k o e in
      subst (λ (z : Node). IsInWindow z (slice_index times k)) (node_of_op k o e) (schedule.legal.windows k (omega (arith, size, within)))

  -- what is no write is not spawned
  no_flag : (k : ℕ) (o : Op) → slice_get g.ops k ≡ Some o → (IsWrite o.kind → ⊥) → get_or g.spawned k true ≡ false
  no_flag k o e never =
      let within = slice_get_within g.ops k o e in
      let flags = valid.flags in
      let there = slice_get-get_or g.spawned k true (omega (arith, within, flags)) in
      let flag : IsFlagOf o (get_or g.spawned k true) = subst (λ (z : Option Bool). IfSome z (IsFlagOf o)) there (valid.spawned k o e) in
      not_true (get_or g.spawned k true) (λ t. never (flag t))

  pub read_time : (k : ℕ) (o : Op) → slice_get g.ops k ≡ Some o → role_of o.kind ≡ Read → IsReadTime sheet.shape mode o.kind (slice_index times k)
  read_time k o e r =
      let P : Bool → Type 0 = λ b. ((window_in sheet mode o.kind b).0 ≤ slice_index times k) × (slice_index times k ≤ (window_in sheet mode o.kind b).1) in
      let at : P (get_or g.spawned k true) = in_window k o e in
      let plain = in_plain sheet right mode o.kind (slice_index times k) r (subst P (no_flag k o e (read_writes_not o.kind r)) at) in
      record { reads = of_window sheet right o.kind (slice_index times k) plain.0; always = plain.1 }
