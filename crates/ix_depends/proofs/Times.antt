-- What a legal schedule says of the times of operations: loads and stores are at EX, no x register is written before, and what is done before MEM does not depend on what is loaded.
use Rattle.std.proofs.Common.{◌≡◌, ℕ, suc, ◌+◌, ◌-◌, ◌<◌, ◌≤◌, Bool, true, false, List, [], ◌∷◌, Some, length, get_or, arith, refl, ap, sym, ◌∙◌, subst, All, Contains, lit<}
use Rattle.std.specs.Prelude.{slice_get, slice_index, IfSome, Option}
use Rattle.std.specs.List.{zip}
use Rattle.std.proofs.lemmas.Bool.{cond_both, ltb-true}
use Rattle.std.proofs.lemmas.List.{length-map, get_or-map}
use Rattle.std.proofs.lemmas.List.Elements.{All-from_recursion, All-contains}
use Rattle.std.proofs.lemmas.Option.{slice_get_within, slice_get-get_or, get_or_from_slice_get}
use Rattle.std.proofs.lemmas.Slice.Zip.{length-zip, get_or-zip}
use Rattle.rv_core.specs.declared.Shape.{Shape}
use Rattle.ix_graph.specs.declared.args.Arg.TheVariants as arg
use Rattle.ix_graph.specs.declared.graph.Op.{Op}
use Rattle.ix_graph.specs.declared.graph.Graph.{Graph}
use Rattle.ix_graph.specs.declared.graph.Mode.{Mode}
use Rattle.ix_graph.specs.declared.graph.Mode.TheVariants.{InPipeline, Tight, Decoupled, Always}
use Rattle.ix_graph.specs.declared.kind.Kind.{Kind}
use Rattle.ix_graph.specs.declared.kind.Kind.TheVariants.{RdMem, WrRD, WrPC, WrCustReg, WrMem}
use Rattle.ix_graph.specs.Graphs.{IsWrite, IsArgument, IsFlagOf, IsValidGraph}
use Rattle.ix_graph.specs.Kinds.{place_of}
use Rattle.ix_sheet.specs.declared.problem.Node.{Node}
use Rattle.ix_sheet.specs.declared.sheet.Sheet.{Sheet}
use Rattle.ix_sheet.specs.Sheets.{IsValidSheet, native_windows_of, window_at}
use Rattle.ix_sheet.specs.Schedules.{node_at, IsSchedule, IsInWindow, IsAfter}
use Rattle.ix_sheet.specs.Behaviours.{window_of, window_in, last_if_tight, node_of, latency_of, problem_of, edges_from}
use Rattle.ix_mean.specs.Meaning.{Inputs}
use Rattle.ix_ports.specs.Ports.{last_from}
use Rattle.ix_depends.specs.Depends.{Agrees, IsClosed}
use Rattle.ix_depends.proofs.Edges.{all_from}

-- ---- windows
-- the window ends at the last time at the latest
abbrev IsUpTo : ℕ × ℕ → Type 0
IsUpTo window = window.1 ≤ 64

natives : (shape : Shape) → All IsUpTo (native_windows_of shape)
natives shape =
    let inside = shape.lawful.memory_inside in
    let late = shape.lawful.memory_late in
    let most = shape.lawful.most in
    let last : shape.stages - 1 ≤ 64 = omega (arith, most) in
    let execute : shape.ex ≤ 64 = omega (arith, most, late, inside) in
    All-from_recursion IsUpTo (native_windows_of shape) (last, (execute, (execute, (last, (execute, (execute, (last, (last, (last, (execute, tt))))))))))

of_sheet : (sheet : Sheet) (k : ℕ) → IsValidSheet sheet → k < 10 → IsUpTo (window_at sheet.window k)
of_sheet sheet k valid l =
    let native : IsUpTo (window_at (native_windows_of sheet.shape) k) = natives sheet.shape k (0, 0) l in
    let last = (valid.windows k l).last in
    omega (arith, native, last)

of_kind : (sheet : Sheet) (kind : Kind) → IsValidSheet sheet → IsUpTo (window_of sheet kind)
of_kind sheet kind valid =
    cond_both _ (window_at sheet.window (place_of kind)) (sheet.shape.rd, 64) IsUpTo (λ t. of_sheet sheet (place_of kind) valid (ltb-true (place_of kind) 10 t)) (λ f. omega arith)

tight_last : (kind : Kind) (last : ℕ) → last ≤ 64 → last_if_tight kind last ≤ 64
tight_last WrRD last l = omega arith
tight_last WrPC last l = omega arith
tight_last (WrCustReg r) last l = omega arith
tight_last kind last l = l

in_mode : (sheet : Sheet) (mode : Mode) (kind : Kind) (spawned : Bool) → IsValidSheet sheet → IsUpTo (window_in sheet mode kind spawned)
in_mode sheet Always kind spawned valid = (let h = of_kind sheet kind valid in omega (arith, h))
in_mode sheet Decoupled kind true valid = omega arith
in_mode sheet Decoupled kind false valid = of_kind sheet kind valid
in_mode sheet InPipeline kind true valid = omega arith
in_mode sheet InPipeline kind false valid = of_kind sheet kind valid
in_mode sheet Tight kind true valid = omega arith
in_mode sheet Tight kind false valid = tight_last kind (window_of sheet kind).1 (of_kind sheet kind valid)

-- the window is EX alone
abbrev IsExecute : ℕ → ℕ × ℕ → Type 0
IsExecute ex window = (ex ≤ window.0) × (window.1 ≤ ex)

load_window : (sheet : Sheet) (mode : Mode) → IsValidSheet sheet → IsExecute sheet.shape.ex (window_in sheet mode RdMem false)
load_window sheet mode valid = by mode
  where
    plain : IsExecute sheet.shape.ex (window_of sheet RdMem)
    plain = (let h = valid.windows 5 (lit< tt) in (h.first, h.last))

    by : (mode : Mode) → IsExecute sheet.shape.ex (window_in sheet mode RdMem false)
    by Always = (omega arith, omega arith)
    by Decoupled = plain
    by InPipeline = plain
    by Tight = plain

store_window : (sheet : Sheet) (mode : Mode) → IsValidSheet sheet → IsExecute sheet.shape.ex (window_in sheet mode WrMem false)
store_window sheet mode valid = by mode
  where
    plain : IsExecute sheet.shape.ex (window_of sheet WrMem)
    plain = (let h = valid.windows 9 (lit< tt) in (h.first, h.last))

    by : (mode : Mode) → IsExecute sheet.shape.ex (window_in sheet mode WrMem false)
    by Always = (omega arith, omega arith)
    by Decoupled = plain
    by InPipeline = plain
    by Tight = plain

-- the window begins at EX or later
abbrev IsFromExecute : ℕ → ℕ × ℕ → Type 0
IsFromExecute ex window = ex ≤ window.0

result_window : (sheet : Sheet) (mode : Mode) (spawned : Bool) → IsValidSheet sheet → IsFromExecute sheet.shape.ex (window_in sheet mode WrRD spawned)
result_window sheet mode spawned valid = by mode spawned
  where
    plain : IsFromExecute sheet.shape.ex (window_of sheet WrRD)
    plain = (valid.windows 6 (lit< tt)).first

    -- a spawned one is past the last stage
    behind : sheet.shape.ex ≤ sheet.shape.stages
    behind = (let late = sheet.shape.lawful.memory_late in let inside = sheet.shape.lawful.memory_inside in omega (arith, late, inside))

    by : (mode : Mode) (spawned : Bool) → IsFromExecute sheet.shape.ex (window_in sheet mode WrRD spawned)
    by Always spawned = omega arith
    by Decoupled true = behind
    by Decoupled false = plain
    by InPipeline true = behind
    by InPipeline false = plain
    by Tight true = behind
    by Tight false = plain

-- ---- times
some_op : (xs : List Op) (k : ℕ) → k < length xs → Op
some_op [] k l = absurd (omega arith)
some_op (x ∷ xs) k l = x

not_true : (b : Bool) → (b ≡ true → ⊥) → b ≡ false
not_true true h = absurd (h refl)
not_true false h = refl

module _ (g : Graph) (sheet : Sheet) (mode : Mode) (valid : IsValidGraph g) (right : IsValidSheet sheet) (times : List ℕ) (schedule : IsSchedule (problem_of g sheet mode) times) where
  count_is : length (problem_of g sheet mode).ops ≡ length g.ops
  unfolding problem_of
  count_is =
      let size = length-map (zip g.ops g.spawned) (node_of sheet mode) in
      let both = length-zip g.ops g.spawned in
      let flags = valid.flags in
      size ∙ both ∙ omega arith

  node_is : (k : ℕ) (op : Op) → k < length g.ops → node_at (problem_of g sheet mode) k ≡ node_of sheet mode (get_or g.ops k op, get_or g.spawned k true)
  unfolding problem_of
  node_is k op l =
      let both = length-zip g.ops g.spawned in
      let flags = valid.flags in
      get_or-map (node_of sheet mode) (zip g.ops g.spawned) k (op, true) (record { delay = 0; latency = 0; weight = 0; early = 0; late = 0 }) (omega arith)
      ∙ ap (node_of sheet mode) (get_or-zip g.ops g.spawned k (op, true) l (omega arith))

  node_of_op : (k : ℕ) (o : Op) → slice_get g.ops k ≡ Some o → node_at (problem_of g sheet mode) k ≡ node_of sheet mode (o, get_or g.spawned k true)
  node_of_op k o e =
      node_is k o (slice_get_within g.ops k o e) ∙ ap (λ (z : Op). node_of sheet mode (z, get_or g.spawned k true)) (get_or_from_slice_get g.ops k o o e)

  in_window : (k : ℕ) (o : Op) → slice_get g.ops k ≡ Some o → IsInWindow (node_of sheet mode (o, get_or g.spawned k true)) (slice_index times k)
  in_window k o e =
      let size = count_is in
      let within = slice_get_within g.ops k o e in
      subst (λ (z : Node). IsInWindow z (slice_index times k)) (node_of_op k o e) (schedule.legal.windows k (omega (arith, size, within)))

  time_most : (k : ℕ) (o : Op) → slice_get g.ops k ≡ Some o → slice_index times k ≤ 64
  time_most k o e =
      let high = (in_window k o e).1 in
      let last = in_mode sheet mode o.kind (get_or g.spawned k true) right in
      omega (arith, high, last)

  -- what is no write is not spawned
  no_flag : (k : ℕ) (o : Op) → slice_get g.ops k ≡ Some o → (IsWrite o.kind → ⊥) → get_or g.spawned k true ≡ false
  no_flag k o e never =
      let within = slice_get_within g.ops k o e in
      let flags = valid.flags in
      let there = slice_get-get_or g.spawned k true (omega (arith, within, flags)) in
      let flag : IsFlagOf o (get_or g.spawned k true) = subst (λ (z : Option Bool). IfSome z (IsFlagOf o)) there (valid.spawned k o e) in
      not_true (get_or g.spawned k true) (λ t. never (flag t))

  abbrev IsAtExecute : ℕ → Type 0
  IsAtExecute k = (sheet.shape.ex ≤ slice_index times k) × (slice_index times k ≤ sheet.shape.ex)

  within_execute : (k : ℕ) (o : Op) (kind : Kind) → slice_get g.ops k ≡ Some o → o.kind ≡ kind → get_or g.spawned k true ≡ false → IsExecute sheet.shape.ex (window_in sheet mode kind false) → IsAtExecute k
  within_execute k o kind e is flag window =
      let P : Kind → Bool → Type 0 = λ z b. ((window_in sheet mode z b).0 ≤ slice_index times k) × (slice_index times k ≤ (window_in sheet mode z b).1) in
      let at : P o.kind (get_or g.spawned k true) = in_window k o e in
      let here : P kind false = subst (λ (b : Bool). P kind b) flag (subst (λ (z : Kind). P z (get_or g.spawned k true)) is at) in
      let low = here.0 in let high = here.1 in let first = window.0 in let last = window.1 in
      (omega (arith, low, first), omega (arith, high, last))

  -- a load is at EX
  pub load_time : (k : ℕ) (o : Op) → slice_get g.ops k ≡ Some o → o.kind ≡ RdMem → IsAtExecute k
  load_time k o e is = within_execute k o RdMem e is (no_flag k o e (subst (λ (z : Kind). IsWrite z → ⊥) (sym is) (λ n. n))) (load_window sheet mode right)

  -- and so is a store that is not spawned
  pub store_time : (k : ℕ) (o : Op) → slice_get g.ops k ≡ Some o → o.kind ≡ WrMem → get_or g.spawned k true ≡ false → IsAtExecute k
  store_time k o e is unspawned = within_execute k o WrMem e is unspawned (store_window sheet mode right)

  -- an x register is written at EX or later
  pub result_time : (k : ℕ) (o : Op) → slice_get g.ops k ≡ Some o → o.kind ≡ WrRD → sheet.shape.ex ≤ slice_index times k
  result_time k o e is =
      let low = (in_window k o e).0 in
      let P : Kind → Type 0 = λ z. IsFromExecute sheet.shape.ex (window_in sheet mode z (get_or g.spawned k true)) in
      let first = subst P (sym is) (result_window sheet mode (get_or g.spawned k true) right) in
      omega (arith, low, first)

  argument_before : (k : ℕ) (o : Op) (n : ℕ) → slice_get g.ops k ≡ Some o → Contains o.args (arg.Op n) → n < k
  argument_before k o n e c = (All-contains (IsArgument g.ops k) o.args (arg.Op n) (valid.ops k o e).arguments c).0

  edges_are : (problem_of g sheet mode).edges ≡ edges_from 0 g.ops
  unfolding problem_of
  edges_are = refl

  -- an argument's result is there by the time of its operation
  argument_after : (k : ℕ) (o : Op) (n : ℕ) → slice_get g.ops k ≡ Some o → Contains o.args (arg.Op n) → slice_index times n + (node_at (problem_of g sheet mode) n).latency ≤ slice_index times k
  argument_after k o n e c =
      let less = argument_before k o n e c in
      let at : 0 + k ≡ k = omega arith in
      let found : Contains (edges_from 0 g.ops) (n, k) = subst (λ (z : ℕ). Contains (edges_from 0 g.ops) (n, z)) at (all_from n 0 k g.ops o e (omega (arith, less)) c) in
      let edge : Contains (problem_of g sheet mode).edges (n, k) = subst (λ (z : List (ℕ × ℕ)). Contains z (n, k)) (sym edges_are) found in
      All-contains (IsAfter (problem_of g sheet mode) (slice_index times)) (problem_of g sheet mode).edges (n, k) schedule.legal.edges edge

  latency_is : (n : ℕ) (o : Op) → slice_get g.ops n ≡ Some o → (node_at (problem_of g sheet mode) n).latency ≡ latency_of sheet.shape o.kind
  latency_is n o e = ap (λ (z : Node). z.latency) (node_of_op n o e)

  -- ---- what is done before MEM
  -- the time of the operation is below MEM
  abbrev pub IsEarly : ℕ → Type 0
  IsEarly k = slice_index times k < sheet.shape.mem

  abbrev pub IsNoLoad : ℕ → Type 0
  IsNoLoad k = (o : Op) → slice_get g.ops k ≡ Some o → o.kind ≡ RdMem → ⊥

  abbrev pub IsEarlyNoLoad : ℕ → Type 0
  IsEarlyNoLoad k = IsEarly k × IsNoLoad k

  -- what a load gives is there at MEM
  no_load : (k : ℕ) (o : Op) (n : ℕ) → slice_get g.ops k ≡ Some o → Contains o.args (arg.Op n) → IsEarly k → IsNoLoad n
  no_load k o n e c early p there is =
      let after = argument_after k o n e c in
      let wait = latency_is n p there ∙ ap (latency_of sheet.shape) is in
      let late = sheet.shape.lawful.memory_late in
      let at = (load_time n p there is).0 in
      omega (arith, after, wait, late, at, early)

  -- two inputs that agree on what is read but for the memory agree on what is done before MEM
  pub early_closed : (i j : Inputs) → ((n : ℕ) (o : Op) → slice_get g.ops n ≡ Some o → (o.kind ≡ RdMem → ⊥) → Agrees i j o.kind) → IsClosed g.ops i j IsEarly IsEarlyNoLoad
  early_closed i j agree =
      record {
        down = λ k o n e c early. (let after = argument_after k o n e c in (omega (arith, after, early), no_load k o n e c early));
        low = λ n h. h.0;
        agrees = λ n o e h. agree n o e (h.1 o e);
      }

  -- ---- the last time
  all_most : (ts : List ℕ) → ((k : ℕ) → k < length ts → get_or ts k 0 ≤ 64) → last_from sheet.shape.rd ts ≤ 64
  all_most [] h =
      let first = sheet.shape.lawful.reads_first in let late = sheet.shape.lawful.memory_late in let inside = sheet.shape.lawful.memory_inside in let most = sheet.shape.lawful.most in
      omega (arith, first, late, inside, most)
  all_most (t ∷ ts) h =
      let rest = all_most ts (λ k l. h (suc k) (omega (arith, l))) in
      let here = h 0 (omega arith) in
      omega (arith, rest, here)

  pub last_most : last_from sheet.shape.rd times ≤ 64
  last_most =
      let size = count_is in
      let count = schedule.count in
      all_most times
      (λ k l.
      (let inside : k < length g.ops = omega (arith, size, count, l) in
      let op : Op = some_op g.ops k inside in
      time_most k (get_or g.ops k op) (slice_get-get_or g.ops k op inside)))
