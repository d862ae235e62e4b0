-- The text of the modules of an extension (this project's choice).
use Rattle.std.specs.Prelude.{◌≢◌, ℕ, List, map, AllPairs}
use Rattle.ix_tree.specs.TypedTrees.{TypedTextTree}
use Rattle.ix_extension.specs.Extensions.{ExtensionTree}
use Rattle.ix_extension.specs.WellFormed.{IsOf}
use Rattle.ix_net.specs.declared.netlist.Net.{Net}
use Rattle.ix_sheet.specs.declared.sheet.Sheet.{Sheet}
use Rattle.ix_sheet.specs.Sheets.{IsValidSheet}
use Rattle.ix_plan.specs.declared.design.Plan.{Plan}
use Rattle.ix_standing.specs.Standing.{behaviours_of, name_at, AreBuilt}
use Rattle.ix_standing.specs.Served.{AllShow}
use Rattle.ix_verilog.specs.Subset.{Denotes}
use Rattle.ix_schedules.specs.declared.text.TextErr.{TextErr}
use Rattle.ix_schedules.specs.declared.text.TextErr.TheVariants.{Memory}
use Rattle.ix_schedules.specs.ScheduleText.{IsRefusedText}

-- The text denotes one net for each behaviour, the instructions first and then the blocks. Each is built: it serves its behaviour by the chosen schedule in the
-- mode of the rule, under all lists of enables; and what it shows are the behaviour's values, for all inputs.
pub record IsModulesText (x : ExtensionTree) (sheet : Sheet) (text : List ℕ) : Type 0 where
  pub valid : IsValidSheet sheet
  pub plans : List Plan
  pub nets : List Net
  pub built : AreBuilt x sheet plans nets
  pub shows : AllShow x sheet plans nets
  pub denotes : Denotes text nets

-- an extension whose modules have a text has no behaviour that is refused
abbrev pub ModulesLaw : Type 0
ModulesLaw = (x : ExtensionTree) (sheet : Sheet) (text : List ℕ) (e : TextErr) → e ≢ Memory → IsModulesText x sheet text → IsRefusedText x sheet e → ⊥

-- no two behaviours of a well-formed extension have one name
abbrev pub ApartLaw : Type 0
ApartLaw = (t : TypedTextTree) (x : ExtensionTree) → IsOf t x → AllPairs (λ m n. m ≢ n) (map (name_at x) (behaviours_of x))
