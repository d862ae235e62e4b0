-- The units of a standing design can be: there are few behaviours, and one with a `spawn` ends past the last stage.
use Rattle.std.proofs.Common.{◌≡◌, refl, sym, ap, ◌∙◌, subst, ℕ, zero, suc, ◌+◌, ◌-◌, ◌<◌, ◌≤◌, arith, List, [], ◌∷◌, length, map, get_or, Some, Bool, true, false}
use Rattle.std.specs.Prelude.{nat_lt, slice_get, slice_index}
use Rattle.std.specs.List.{range_with_len, zip}
use Rattle.std.proofs.lemmas.Bool.{ltb-true, ltb-false, false≢true}
use Rattle.std.proofs.lemmas.List.{length-append, length-map, get_or-map}
use Rattle.std.proofs.lemmas.Option.{same_Some, slice_get_within}
use Rattle.std.proofs.lemmas.Slice.Zip.{length-zip, get_or-zip}
use Rattle.ix_extension.specs.Extensions.{ExtensionTree, view_extension}
use Rattle.ix_behaviour.specs.declared.which.Which.{Which}
use Rattle.ix_behaviour.specs.declared.which.Which.TheVariants as W
use Rattle.ix_behaviour.specs.Behaviours.{HasBehaviour}
use Rattle.ix_behaviour.specs.Laws.{FewLaw}
use Rattle.ix_behaviour.specs.Flags.{flags_at}
use Rattle.ix_flow.specs.Flows.{flag_of}
use Rattle.ix_graph.specs.declared.graph.Op.{Op}
use Rattle.ix_graph.specs.declared.graph.Graph.{Graph}
use Rattle.ix_graph.specs.declared.graph.Mode.{Mode}
use Rattle.ix_graph.specs.declared.graph.Mode.TheVariants.{InPipeline, Tight, Decoupled, Always}
use Rattle.ix_sheet.specs.declared.problem.Node.{Node}
use Rattle.ix_sheet.specs.declared.sheet.Sheet.{Sheet}
use Rattle.ix_sheet.specs.Schedules.{node_at, IsSchedule}
use Rattle.ix_sheet.specs.Behaviours.{node_of, problem_of, IsSpawning, IsModeOf}
use Rattle.ix_ports.specs.Ports.{last_from}
use Rattle.ix_plan.specs.declared.design.Plan.{Plan}
use Rattle.ix_plan.specs.declared.design.Design.{Design}
use Rattle.ix_standing.specs.Standing.{instruction_number, block_number, behaviours_of, is_block, IsPlanned, Stands}
use Rattle.ix_depends.specs.Laws.{TimesLaw}
use Rattle.rv_unit.specs.Numbering.{is_decoupled, lasts_of}
use Rattle.rv_unit.specs.Timed.{AreUnits}
use Rattle.rv_unit.specs.UnitLaws.{UnitsLaw}
use Rattle.rv_sight.proofs.Plans.{there, range_length, instruction_at, block_at}

-- ---- the behaviours of an extension
behaviour_count : (x : ExtensionTree) → length (behaviours_of x) ≡ length x.instructions + length x.blocks
behaviour_count x =
    let sum = length-append (map instruction_number (range_with_len 0 (length x.instructions))) (map block_number (range_with_len 0 (length x.blocks))) in
    let i = length-map (range_with_len 0 (length x.instructions)) instruction_number in
    let b = length-map (range_with_len 0 (length x.blocks)) block_number in
    let n = range_length 0 (length x.instructions) in
    let m = range_length 0 (length x.blocks) in
    omega (arith, sum, i, b, n, m)

has_behaviour : (x : ExtensionTree) (k : ℕ) (w : Which) → slice_get (behaviours_of x) k ≡ Some w → HasBehaviour x w
has_behaviour x k w e = by (nat_lt k (length x.instructions)) refl
  where
    by : (b : Bool) → nat_lt k (length x.instructions) ≡ b → HasBehaviour x w
    by true t =
        let l = ltb-true k (length x.instructions) t in
        subst (HasBehaviour x) (same_Some (W.Instruction k) w (sym (instruction_at x k l) ∙ e)) l
    by false f =
        let past = ltb-false k (length x.instructions) f in
        let within = slice_get_within (behaviours_of x) k w e in
        let size = behaviour_count x in
        let l : k - length x.instructions < length x.blocks = omega (arith, past, within, size) in
        subst (HasBehaviour x) (same_Some (W.Block (k - length x.instructions)) w (sym (block_at x k (k - length x.instructions) (omega (arith, past)) l) ∙ e)) l

-- ---- modes
decoupled_is : (m : Mode) → is_decoupled m ≡ true → m ≡ Decoupled
decoupled_is Decoupled e = refl
decoupled_is InPipeline e = cc
decoupled_is Tight e = cc
decoupled_is Always e = cc

-- an instruction with a write of a spawn body is decoupled
pub spawning_decoupled : (g : Graph) (sheet : Sheet) (m : Mode) → IsModeOf g sheet false m → IsSpawning g → is_decoupled m ≡ true
spawning_decoupled g sheet Decoupled mode spawning = refl
spawning_decoupled g sheet InPipeline mode spawning = absurd (mode.1 spawning)
spawning_decoupled g sheet Tight mode spawning = absurd (mode.1 spawning)
spawning_decoupled g sheet Always mode spawning = absurd (false≢true mode)

-- ---- times
time_within : (rd : ℕ) (ts : List ℕ) (k : ℕ) → k < length ts → slice_index ts k ≤ last_from rd ts
time_within rd [] k l = absurd (omega (arith, l))
time_within rd (t ∷ ts) zero l = omega arith
time_within rd (t ∷ ts) (suc k) l = let rest = time_within rd ts k (omega (arith, l)) in omega (arith, rest)

some_op : (xs : List Op) (k : ℕ) → k < length xs → Op
some_op [] k l = absurd (omega (arith, l))
some_op (x ∷ xs) k l = x

module _ (g : Graph) (sheet : Sheet) (whole : length g.spawned ≡ length g.ops) (times : List ℕ) (schedule : IsSchedule (problem_of g sheet Decoupled) times) where
  count_is : length (problem_of g sheet Decoupled).ops ≡ length g.ops
  unfolding problem_of
  count_is =
      let size = length-map (zip g.ops g.spawned) (node_of sheet Decoupled) in
      let both = length-zip g.ops g.spawned in
      size ∙ both ∙ omega (arith, whole)

  node_is : (k : ℕ) (op : Op) → k < length g.ops → node_at (problem_of g sheet Decoupled) k ≡ node_of sheet Decoupled (get_or g.ops k op, get_or g.spawned k true)
  unfolding problem_of
  node_is k op l =
      let both = length-zip g.ops g.spawned in
      get_or-map (node_of sheet Decoupled) (zip g.ops g.spawned) k (op, true) (record { delay = 0; latency = 0; weight = 0; early = 0; late = 0 }) (omega (arith, l, both, whole))
      ∙ ap (node_of sheet Decoupled) (get_or-zip g.ops g.spawned k (op, true) l (omega (arith, l, whole)))

  -- what a spawn body writes is written past the last stage
  spawned_late : (k : ℕ) → k < length g.ops → get_or g.spawned k true ≡ true → sheet.shape.stages ≤ slice_index times k
  spawned_late k l flag =
      let op : Op = some_op g.ops k l in
      let size = count_is in
      let node = node_is k op l ∙ ap (λ (b : Bool). node_of sheet Decoupled (get_or g.ops k op, b)) flag in
      subst (λ (z : Node). z.early ≤ slice_index times k) node (schedule.legal.windows k (omega (arith, size, l))).0

  pub ends_late : IsSpawning g → sheet.shape.stages ≤ last_from sheet.shape.rd times
  ends_late spawning =
      let at = spawning.1 in
      let size = count_is in
      let count = schedule.count in
      let late = spawned_late spawning.0 (omega (arith, at, whole)) spawning.2 in
      let last = time_within sheet.shape.rd times spawning.0 (omega (arith, at, whole, size, count)) in
      omega (arith, late, last)

-- ---- designs
module _ (d : Design) (stands : Stands d) where
  abbrev x : ExtensionTree
  x = view_extension d.extension

  record IsPlanOf (p : Plan) : Type 0 where
    which : Which
    has : HasBehaviour x which
    planned : IsPlanned x d.sheet which p

  planned_at : (k : ℕ) (p : Plan) → slice_get d.plans k ≡ Some p → IsPlanOf p
  planned_at k p e =
      let inside = slice_get_within d.plans k p e in
      let plans = stands.built.plan_count in
      let nets = stands.built.net_count in
      let w = there (behaviours_of x) k (omega (arith, inside, plans)) in
      let n = there d.nets k (omega (arith, inside, plans, nets)) in
      record { which = w.item; has = has_behaviour x k w.item w.is; planned = (stands.built.each k w.item p n.item w.is e n.is).planned }

  few_plans : FewLaw → length d.plans ≤ 72
  few_plans law =
      let few = law stands.well_formed.0 x stands.well_formed.1 in
      let instructions = few.instructions in
      let blocks = few.blocks in
      let all = stands.built.plan_count in
      let count = behaviour_count x in
      omega (arith, instructions, blocks, all, count)

  ends : TimesLaw → (k : ℕ) (p : Plan) → slice_get d.plans k ≡ Some p → is_decoupled p.mode ≡ true → (d.sheet.shape.stages ≤ p.last) × (p.last ≤ 64)
  ends law k p e decoupled =
      let r = planned_at k p e in
      let mode = decoupled_is p.mode decoupled in
      let whole : length p.graph.spawned ≡ length p.graph.ops = ap (λ (fs : List Bool). length fs) r.planned.graph.flags ∙ length-map p.graph.ops (flag_of (flags_at x r.which)) in
      let schedule : IsSchedule (problem_of p.graph d.sheet Decoupled) p.times = subst (λ (m : Mode). IsSchedule (problem_of p.graph d.sheet m) p.times) mode r.planned.schedule in
      let spawning : IsModeOf p.graph d.sheet (is_block r.which) Decoupled = subst (IsModeOf p.graph d.sheet (is_block r.which)) mode r.planned.mode in
      let late = ends_late p.graph d.sheet whole p.times schedule spawning.1 in
      let last = r.planned.last in
      let most = (law stands.well_formed.0 x d.sheet r.which p stands.well_formed.1 r.has stands.sheet r.planned).last in
      (omega (arith, late, last), most)

  pub units_can_be : FewLaw → TimesLaw → UnitsLaw → AreUnits d.sheet.shape.stages (lasts_of d.plans)
  units_can_be few times units = units d.sheet.shape.stages d.plans (few_plans few) (ends times)
