-- The widest mode of an instruction that writes nothing later.
use Rattle.std.proofs.Common.{refl, false}
use Rattle.std.proofs.lemmas.Bool.{false≢true}
use Rattle.ix_graph.specs.declared.graph.Graph.{Graph}
use Rattle.ix_graph.specs.declared.graph.Mode.TheVariants.{InPipeline, Tight, Decoupled, Always}
use Rattle.ix_sheet.specs.declared.sheet.Sheet.{Sheet}
use Rattle.ix_sheet.specs.Behaviours.{problem_of, IsSpawning}
use Rattle.ix_sheet.specs.Schedules.{HasSchedule}
use Rattle.ix_modes.specs.declared.scheduled.ModeErr.{ModeErr}
use Rattle.ix_modes.specs.declared.scheduled.ModeErr.TheVariants.{NoSchedule, Memory}
use Rattle.ix_modes.specs.Modes.{FitsWidest, HasNoneIn, IsRefusal}

pub fits_tight : (g : Graph) (sheet : Sheet) → (IsSpawning g → ⊥) → HasSchedule (problem_of g sheet Tight) → FitsWidest g sheet false
fits_tight g sheet native h Always w = absurd (false≢true w)
fits_tight g sheet native h Decoupled w = absurd (native w.1)
fits_tight g sheet native h InPipeline w = absurd w
fits_tight g sheet native h Tight w = h

pub none_tight : (g : Graph) (sheet : Sheet) → (IsSpawning g → ⊥) → (e : ModeErr) → HasNoneIn g sheet Tight e → IsRefusal g sheet false e
none_tight g sheet native (NoSchedule p cycle) h = record { widest = Tight; widest_is = (refl, native); problem_is = h.problem_is; edges_are = h.edges_are; none = h.none; cycle_is = h.cycle_is }
none_tight g sheet native Memory h = tt
