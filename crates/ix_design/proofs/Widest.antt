-- A behaviour with a schedule in its mode has one in the widest windows that it may have.
use Rattle.std.proofs.Common.{◌≡◌, ◌∙◌, sym, Bool, true, false}
use Rattle.std.proofs.lemmas.Bool.{true≢false}
use Rattle.ix_graph.specs.declared.graph.Graph.{Graph}
use Rattle.ix_graph.specs.declared.graph.Mode.{Mode}
use Rattle.ix_graph.specs.declared.graph.Mode.TheVariants.{InPipeline, Tight, Decoupled, Always}
use Rattle.ix_extension.specs.Extensions.{ExtensionTree}
use Rattle.ix_behaviour.specs.declared.which.Which.{Which}
use Rattle.ix_net.specs.declared.netlist.Net.{Net}
use Rattle.ix_sheet.specs.declared.sheet.Sheet.{Sheet}
use Rattle.ix_sheet.specs.Sheets.{IsValidSheet}
use Rattle.ix_sheet.specs.Schedules.{HasSchedule}
use Rattle.ix_sheet.specs.Behaviours.{problem_of, IsModeOf}
use Rattle.ix_modes.specs.Modes.{FitsWidest}
use Rattle.ix_modes.proofs.Widening.{schedule_widens}
use Rattle.ix_plan.specs.declared.design.Plan.{Plan}
use Rattle.ix_standing.specs.Standing.{is_block, IsBuilt}
use Rattle.ix_schedules.specs.Scheduling.{IsSchedulable}

pub both_ways : (b : Bool) → b ≡ true → b ≡ false → ⊥
both_ways b e f = true≢false (sym e ∙ f)

fits_widest : (g : Graph) (sheet : Sheet) (block : Bool) (mode : Mode) → IsValidSheet sheet → IsModeOf g sheet block mode → HasSchedule (problem_of g sheet mode) → FitsWidest g sheet block
fits_widest g sheet block Always valid e h Always w = h
fits_widest g sheet block Always valid e h Decoupled w = absurd (both_ways block e w.0)
fits_widest g sheet block Always valid e h InPipeline w = absurd w
fits_widest g sheet block Always valid e h Tight w = absurd (both_ways block e w.0)
fits_widest g sheet block Decoupled valid e h Always w = absurd (both_ways block w e.0)
fits_widest g sheet block Decoupled valid e h Decoupled w = h
fits_widest g sheet block Decoupled valid e h InPipeline w = absurd w
fits_widest g sheet block Decoupled valid e h Tight w = absurd (w.1 e.1)
fits_widest g sheet block InPipeline valid e h Always w = absurd (both_ways block w e.0)
fits_widest g sheet block InPipeline valid e h Decoupled w = absurd (e.1 w.1)
fits_widest g sheet block InPipeline valid e h InPipeline w = absurd w
fits_widest g sheet block InPipeline valid e h Tight w = schedule_widens g sheet valid h
fits_widest g sheet block Tight valid e h Always w = absurd (both_ways block w e.0)
fits_widest g sheet block Tight valid e h Decoupled w = absurd (e.1 w.1)
fits_widest g sheet block Tight valid e h InPipeline w = absurd w
fits_widest g sheet block Tight valid e h Tight w = h

-- what is built can be scheduled
pub can_be : (x : ExtensionTree) (sheet : Sheet) (w : Which) (p : Plan) (n : Net) → IsValidSheet sheet → IsBuilt x sheet w p n → IsSchedulable x sheet w
can_be x sheet w p n valid b = record {
  graph = p.graph;
  graph_is = b.planned.graph;
  fits = fits_widest p.graph sheet (is_block w) p.mode valid b.planned.mode (_, b.planned.schedule.legal);
}
