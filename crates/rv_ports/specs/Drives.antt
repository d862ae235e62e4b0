-- What the modules of behaviours are driven by, beside the rows (this project's choice).
use Rattle.std.specs.Prelude.{ℕ, List, Option, Some, None}
use Rattle.ix_eval.specs.declared.access.Access.{Access}
use Rattle.ix_extension.specs.Extensions.{ExtensionTree, view_extension}
use Rattle.ix_plan.specs.declared.design.Design.{Design}
use Rattle.ix_plan.specs.declared.design.Plan.{Plan}
use Rattle.rv_seq.specs.declared.decoded.Decoded.{Decoded}
use Rattle.rv_seq.specs.declared.decoded.Decoded.TheVariants as D
use Rattle.rv_seq.specs.Decoding.{decoded_in}
use Rattle.rv_seq.specs.Runs.{Entries}
use Rattle.rv_lawful.specs.Settings.{Setting, setting, entries_at, run_trial}

-- what the rows are judged against, the extension, the plans of its behaviours, the number of a word's instruction in it, and what the step at a place of the run loads, where it
-- loads with a true condition
pub record Drives : Type 0 where
  pub setting : Setting
  pub extension : ExtensionTree
  pub plans : List Plan
  pub number : ℕ → Option ℕ
  pub loads : ℕ → Option Access

-- the number of the extension's instruction; one of the base set has none
abbrev pub own_number : Option Decoded → Option ℕ
own_number None = None
own_number (Some (D.Base b)) = None
own_number (Some (D.Own n)) = Some n

-- what the step at a place of the run loads, its condition true; one that stops does not load
abbrev pub run_load : ExtensionTree → List ℕ → Option Entries → ℕ → Option Access
run_load x image e p = (run_trial x image e p).load

-- what the modules of a design are driven by, in a run of an image that goes to the handler at these places, with a memory that has these waits and an interrupt line, where there is
-- one, that is raised in these rows
abbrev pub drives_of : Design → List ℕ → List ℕ → Option (List ℕ) → List ℕ → Drives
drives_of d image waits lines places =
    record {
      setting = setting d image waits lines places;
      extension = view_extension d.extension;
      plans = d.plans;
      number = λ word. own_number (decoded_in (view_extension d.extension) word);
      loads = run_load (view_extension d.extension) image (entries_at d.sheet.shape.trap lines places);
    }
