-- The problem of a behaviour, and the bounds of it, are in the range of a report's form.
use Rattle.std.proofs.Common.{◌≡◌, ◌≢◌, refl, ℕ, zero, suc, ◌-◌, ◌≤◌, ◌<◌, nat_lt, max, min, Bool, true, false, if◌then◌else◌, List, [], ◌∷◌, length, map, slice_get, slice_index, Some, arith, lit≤}
use Rattle.std.specs.Prelude.{All}
use Rattle.std.specs.List.{zip, AllByRecursion}
use Rattle.std.proofs.lemmas.List.{length-map}
use Rattle.std.proofs.lemmas.Slice.Zip.{length-zip}
use Rattle.std.proofs.lemmas.List.Elements.{All-cons, All-nil, All-map, All-contains, All-get_or, All-head, All-tail}
use Rattle.std.proofs.lemmas.Bool.{ltb-true}
use Rattle.rv_core.specs.declared.Shape.{Shape}
use Rattle.ix_graph.specs.declared.graph.Op.{Op}
use Rattle.ix_graph.specs.declared.graph.Graph.{Graph}
use Rattle.ix_graph.specs.declared.graph.Mode.{Mode}
use Rattle.ix_graph.specs.declared.graph.Mode.TheVariants.{InPipeline, Tight, Decoupled, Always}
use Rattle.ix_graph.specs.declared.args.Arg.{Arg}
use Rattle.ix_bits.specs.declared.number.Ty.{Ty}
use Rattle.ix_graph.specs.declared.kind.Kind.{Kind}
use Rattle.ix_graph.specs.declared.kind.Kind.TheVariants.{RdCustReg, RdMem, WrRD, WrPC, WrCustReg}
use Rattle.ix_graph.specs.Kinds.{place_of, register_of}
use Rattle.ix_graph.specs.Graphs.{IsTyped, IsValidGraph}
use Rattle.ix_sheet.specs.declared.sheet.Sheet.{Sheet}
use Rattle.ix_sheet.specs.declared.problem.Bound.{Bound}
use Rattle.ix_sheet.specs.declared.problem.Bound.TheVariants.{Early, Late, Dep, Chain}
use Rattle.ix_sheet.specs.declared.problem.Problem.{Problem}
use Rattle.ix_sheet.specs.Sheets.{IsValidSheet, IsInside, window_at, native_windows_of}
use Rattle.ix_sheet.specs.Schedules.{IsValidProblem, IsForward, Runs, IsFreePath}
use Rattle.ix_sheet.specs.Bounds.{IsBoundOf}
use Rattle.ix_sheet.specs.Behaviours.{latency_of, window_of, last_if_tight, weight_by, window_in, node_of, problem_of}
use Rattle.ix_cert.specs.Layout.{IsBoundInForm, AreBelow, IsNodeInForm, IsWeight, HasWeight, IsSmallRegister, IsKindName}
use Rattle.ix_reports.specs.Blocks.{kind_text}

-- ---- bounds
run_below : (p : Problem) (i : ℕ) (rest : List ℕ) → IsValidProblem p → Runs p i rest → AreBelow (length p.ops) rest
run_below p i [] valid h = All-nil (λ k. k < length p.ops)
run_below p i (j ∷ rest) valid h =
    let forward : IsForward p (i, j) = All-contains (IsForward p) p.edges (i, j) valid.forward h.0.0 in
    All-cons (λ k. k < length p.ops) j rest forward.1 (run_below p j rest valid h.1)

cons_is_some : {X : Type 0} (x : X) (xs : List X) → (x ∷ xs) ≢ []
cons_is_some x xs e = grind arith

path_in_form : (p : Problem) (path : List ℕ) → IsValidProblem p → IsFreePath p path → (path ≢ []) × AreBelow (length p.ops) path
path_in_form p [] valid h = absurd h
path_in_form p (i ∷ rest) valid h = (cons_is_some i rest, All-cons (λ k. k < length p.ops) i rest h.0 (run_below p i rest valid h.1))

below_both : (i j n : ℕ) → i < j → j < n → (i < n) × (j < n)
below_both i j n h g = (omega arith, omega arith)

pub bound_in_form : (p : Problem) (bound : Bound) → IsValidProblem p → IsBoundOf p bound → IsBoundInForm (length p.ops) bound
bound_in_form p (Early k) valid h = h
bound_in_form p (Late k) valid h = h
bound_in_form p (Dep i j) valid h =
    let forward : IsForward p (i, j) = All-contains (IsForward p) p.edges (i, j) valid.forward h in
    below_both i j (length p.ops) forward.0 forward.1
bound_in_form p (Chain path) valid h = path_in_form p path valid h.0

-- ---- operations
all_by_recursion : {X : Type 0} (P : X → Type 0) (xs : List X) → AllByRecursion P xs → All P xs
all_by_recursion P [] h = All-nil P
all_by_recursion P (x ∷ xs) h = All-cons P x xs h.0 (all_by_recursion P xs h.1)

native_small : (shape : Shape) → All (λ (w : ℕ × ℕ). w.1 ≤ 64) (native_windows_of shape)
native_small shape =
    let most = shape.lawful.most in
    let late = shape.lawful.memory_late in
    let inside = shape.lawful.memory_inside in
    let back : shape.stages - 1 ≤ 64 = omega arith in
    let execute : shape.ex ≤ 64 = omega arith in
    all_by_recursion (λ (w : ℕ × ℕ). w.1 ≤ 64) (native_windows_of shape) (back, (execute, (execute, (back, (execute, (execute, (back, (back, (back, (execute, tt))))))))))

pub record IsSmall (w : ℕ × ℕ) : Type 0 where
  pub first : w.0 ≤ 64
  pub last : w.1 ≤ 64

small_inside : (b : ℕ) (w : ℕ × ℕ) → w.0 ≤ w.1 → w.1 ≤ b → b ≤ 64 → IsSmall w
small_inside b w h g e = record { first = omega arith; last = omega arith }

given_small : (sheet : Sheet) (k : ℕ) → IsValidSheet sheet → k < 10 → IsSmall (window_at sheet.window k)
given_small sheet k valid h =
    let inside : IsInside (window_at (native_windows_of sheet.shape) k) (window_at sheet.window k) = valid.windows k h in
    let native : (window_at (native_windows_of sheet.shape) k).1 ≤ 64 = All-get_or (λ (w : ℕ × ℕ). w.1 ≤ 64) (native_windows_of sheet.shape) k (0, 0) h (native_small sheet.shape) in
    record { first = small_first _ _ _ inside.some inside.last native; last = small_last _ _ inside.last native } where
      small_first : (c d b : ℕ) → c ≤ d → d ≤ b → b ≤ 64 → c ≤ 64
      small_first c d b h g e = omega arith

      small_last : (d b : ℕ) → d ≤ b → b ≤ 64 → d ≤ 64
      small_last d b g e = omega arith

read_small : (shape : Shape) → IsSmall (shape.rd, 64)
read_small shape =
    let first = shape.lawful.reads_first in
    let late = shape.lawful.memory_late in
    let inside = shape.lawful.memory_inside in
    let most = shape.lawful.most in
    record { first = omega arith; last = lit≤ tt }

small_by_place : (sheet : Sheet) (k : ℕ) (b : Bool) → IsValidSheet sheet → nat_lt k 10 ≡ b → IsSmall (if b then window_at sheet.window k else (sheet.shape.rd, 64))
small_by_place sheet k true valid e = given_small sheet k valid (ltb-true k 10 e)
small_by_place sheet k false valid e = read_small sheet.shape

sheet_small : (sheet : Sheet) (kind : Kind) → IsValidSheet sheet → IsSmall (window_of sheet kind)
sheet_small sheet kind valid = small_by_place sheet (place_of kind) (nat_lt (place_of kind) 10) valid refl

tight_small : (kind : Kind) (last : ℕ) → last ≤ 64 → last_if_tight kind last ≤ 64
tight_small WrRD last h = lit≤ tt
tight_small WrPC last h = lit≤ tt
tight_small (WrCustReg r) last h = lit≤ tt
tight_small kind last h = h

spawned_small : (shape : Shape) → IsSmall (shape.stages, 64)
spawned_small shape = record { first = (let d = shape.lawful.most in omega arith); last = lit≤ tt }

ex_small : (shape : Shape) → shape.ex ≤ 64
ex_small shape = let b = shape.lawful.memory_late in let c = shape.lawful.memory_inside in let d = shape.lawful.most in omega arith

max_small : (a b : ℕ) → a ≤ 64 → b ≤ 64 → max a b ≤ 64
max_small a b h g = omega arith

min_small : (a b : ℕ) → a ≤ 64 → b ≤ 64 → min a b ≤ 64
min_small a b h g = omega arith

mode_small : (sheet : Sheet) (mode : Mode) (kind : Kind) (spawned : Bool) → IsValidSheet sheet → IsSmall (window_in sheet mode kind spawned)
mode_small sheet Always kind spawned valid =
    let w = sheet_small sheet kind valid in
    record { first = max_small _ _ w.first (ex_small sheet.shape); last = min_small _ _ w.last (ex_small sheet.shape) }
mode_small sheet Decoupled kind true valid = spawned_small sheet.shape
mode_small sheet Decoupled kind false valid = sheet_small sheet kind valid
mode_small sheet InPipeline kind true valid = spawned_small sheet.shape
mode_small sheet InPipeline kind false valid = sheet_small sheet kind valid
mode_small sheet Tight kind true valid = spawned_small sheet.shape
mode_small sheet Tight kind false valid =
    let w = sheet_small sheet kind valid in
    record { first = w.first; last = tight_small kind (window_of sheet kind).1 w.last }

latency_small : (shape : Shape) (kind : Kind) → latency_of shape kind ≤ 255
latency_small shape RdMem = let c = shape.lawful.memory_inside in let d = shape.lawful.most in omega arith
latency_small shape kind = lit≤ tt

delay_small : (ds : List ℕ) (k : ℕ) → All (λ d. d ≤ 1000000) ds → slice_index ds k ≤ 1000000
delay_small [] k h = lit≤ tt
delay_small (d ∷ ds) zero h = All-head (λ d. d ≤ 1000000) d ds h
delay_small (d ∷ ds) (suc k) h = delay_small ds k (All-tail (λ d. d ≤ 1000000) d ds h)

wide : (n : ℕ) → n ≤ 64 → n ≤ 255
wide n h = omega arith

node_in_form : (sheet : Sheet) (mode : Mode) (entry : Op × Bool) → IsValidSheet sheet → IsNodeInForm (node_of sheet mode entry)
node_in_form sheet mode entry valid =
    let w = mode_small sheet mode entry.0.kind entry.1 valid in
    record {
      delay = delay_small sheet.delay (place_of entry.0.kind) valid.delays;
      latency = latency_small sheet.shape entry.0.kind;
      early = wide _ w.first;
      late = wide _ w.last;
    }

all_of : {X : Type 0} (P : X → Type 0) → ((x : X) → P x) → (xs : List X) → All P xs
all_of P each [] = All-nil P
all_of P each (x ∷ xs) = All-cons P x xs (each x) (all_of P each xs)

pub nodes_in_form : (g : Graph) (sheet : Sheet) (mode : Mode) → IsValidSheet sheet → All IsNodeInForm (problem_of g sheet mode).ops
unfolding problem_of
nodes_in_form g sheet mode valid =
    All-map IsNodeInForm (node_of sheet mode) (zip g.ops g.spawned)
    (all_of (λ e. IsNodeInForm (node_of sheet mode e)) (λ e. node_in_form sheet mode e valid) (zip g.ops g.spawned))

-- a weight is a width, or 1
weight_in_form : (weighted : Bool) (op : Op) → IsWeight weighted (weight_by weighted op)
weight_in_form true op = (op.ty.some_width, op.ty.most_width)
weight_in_form false op = refl

pub weights_in_form : (g : Graph) (sheet : Sheet) (mode : Mode) → All (HasWeight sheet.weighted) (problem_of g sheet mode).ops
unfolding problem_of
weights_in_form g sheet mode =
    All-map (HasWeight sheet.weighted) (node_of sheet mode) (zip g.ops g.spawned)
    (all_of (λ e. HasWeight sheet.weighted (node_of sheet mode e)) (λ e. weight_in_form sheet.weighted e.0) (zip g.ops g.spawned))

pub count_of_nodes : (g : Graph) (sheet : Sheet) (mode : Mode) → IsValidGraph g → length (problem_of g sheet mode).ops ≡ length g.ops
unfolding problem_of
count_of_nodes g sheet mode valid =
    let zipped : length (zip g.ops g.spawned) ≡ min (length g.ops) (length g.spawned) = length-zip g.ops g.spawned in
    let mapped : length (map (node_of sheet mode) (zip g.ops g.spawned)) ≡ length (zip g.ops g.spawned) = length-map (zip g.ops g.spawned) (node_of sheet mode) in
    omega (arith, valid.flags)

pub period_of_problem : (g : Graph) (sheet : Sheet) (mode : Mode) → (problem_of g sheet mode).period ≡ sheet.period
unfolding problem_of
period_of_problem g sheet mode = refl

-- ---- kinds
at_most_15 : (r : ℕ) → r < 16 → r ≤ 15
at_most_15 r h = omega arith

small_register : (g : Graph) (kind : Kind) (args : List Arg) (ty : Ty) → IsTyped g kind args ty → IsSmallRegister (register_of kind)
small_register g (RdCustReg r) args ty h = at_most_15 r h.1
small_register g (WrCustReg r) args ty h = at_most_15 r h.2
small_register g kind args ty h = tt

kind_in_form : (g : Graph) (op : Op) (k : ℕ) → IsValidGraph g → slice_get g.ops k ≡ Some op → IsKindName (kind_text op)
kind_in_form g op k valid e = record { kind = op.kind; register = small_register g op.kind op.args op.ty (valid.ops k op e).typed; name = refl }

all_from_get : {X : Type 0} (P : X → Type 0) (xs : List X) → ((k : ℕ) (x : X) → slice_get xs k ≡ Some x → P x) → All P xs
all_from_get P [] each = All-nil P
all_from_get P (x ∷ xs) each = All-cons P x xs (each 0 x refl) (all_from_get P xs (λ k y e. each (suc k) y e))

pub kinds_in_form : (g : Graph) → IsValidGraph g → All IsKindName (map kind_text g.ops)
kinds_in_form g valid =
    All-map IsKindName kind_text g.ops (all_from_get (λ op. IsKindName (kind_text op)) g.ops (λ k op e. kind_in_form g op k valid e))
