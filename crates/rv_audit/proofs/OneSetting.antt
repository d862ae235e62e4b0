-- Designs that stand for one extension and one datasheet have one setting.
use Rattle.std.proofs.Common.{◌≡◌, ◌∙◌, refl, sym, ap, subst, ℕ, List, length, map, drop, None}
use Rattle.std.proofs.lemmas.List.{length-map}
use Rattle.ix_extension.specs.Extensions.{ExtensionTree, view_extension, view_instruction}
use Rattle.ix_sheet.specs.declared.sheet.Sheet.{Sheet}
use Rattle.ix_sheet.specs.Laws.{OneLaw}
use Rattle.ix_plan.specs.declared.design.Plan.{Plan}
use Rattle.ix_plan.specs.declared.design.Design.{Design}
use Rattle.ix_plan.specs.Units.{first_units}
use Rattle.ix_standing.specs.Standing.{AreBuilt, Stands}
use Rattle.rv_seq.specs.Decoding.{decoded_in}
use Rattle.rv_seq.specs.States.{first}
use Rattle.rv_unit.specs.Numbering.{unit_of}
use Rattle.rv_asks.specs.declared.asks.Act.{Act}
use Rattle.rv_asks.specs.Acts.{acts_of_all}
use Rattle.rv_asks.specs.Asks.{plan_outline, blank_outline, asks_with, asks_in}
use Rattle.rv_lawful.specs.Settings.{Setting, course_of, jump_of}
use Rattle.rv_watch.specs.Fit.{plain_setting}
use Rattle.rv_audit.specs.Alike.{AreAlike}
use Rattle.rv_audit.proofs.OnePlan.{one_plan_each}

-- the operations of the blocks, behind the plans of so many instructions
abbrev acts_behind : ℕ → List Plan → List Act
acts_behind n plans = acts_of_all (drop n plans)

module _ (image waits : List ℕ) where
  -- a setting by all that it takes of a design: the extension, the number of its instructions, the datasheet and the plans
  setting_by : ExtensionTree → ℕ → Sheet → List Plan → Setting
  setting_by x n sheet plans =
      record {
        image = image;
        waits = waits;
        lines = None;
        entries = None;
        shape = sheet.shape;
        course = course_of x image None;
        asks = λ word. asks_with sheet.shape (map (plan_outline sheet.shape (acts_behind n plans)) plans) (unit_of plans) (blank_outline sheet.shape (acts_behind n plans)) word (decoded_in x word);
        units = first_units sheet.shape.stages plans;
        initial = (first x).custom;
        jump = jump_of x;
      }

  by_parts : (d : Design) → plain_setting d image waits ≡ setting_by (view_extension d.extension) (length d.extension.instructions) d.sheet d.plans
  unfolding asks_in setting_by
  by_parts d = refl

  instruction_count : (d : Design) → length (view_extension d.extension).instructions ≡ length d.extension.instructions
  instruction_count d = length-map d.extension.instructions view_instruction

  pub one_setting : OneLaw → (d e : Design) → Stands d → Stands e → AreAlike d e → plain_setting d image waits ≡ plain_setting e image waits
  one_setting one d e stands other alike =
      let x = view_extension d.extension in
      let y = view_extension e.extension in
      let count = sym (instruction_count d) ∙ ap (λ (z : ExtensionTree). length z.instructions) alike.extension ∙ instruction_count e in
      let built = subst (λ s. AreBuilt x s e.plans e.nets) (sym alike.sheet) (subst (λ z. AreBuilt z e.sheet e.plans e.nets) (sym alike.extension) other.built) in
      let plans = one_plan_each one x d.sheet d.plans e.plans d.nets e.nets stands.built built in
      by_parts d
      ∙ ap (λ z. setting_by z (length d.extension.instructions) d.sheet d.plans) alike.extension
      ∙ ap (λ n. setting_by y n d.sheet d.plans) count
      ∙ ap (λ s. setting_by y (length e.extension.instructions) s d.plans) alike.sheet
      ∙ ap (λ ps. setting_by y (length e.extension.instructions) e.sheet ps) plans
      ∙ sym (by_parts e)
