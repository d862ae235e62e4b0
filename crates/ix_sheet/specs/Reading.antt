-- The parts of a datasheet, each with its rule.
use Rattle.std.specs.Prelude.{ℕ, List, Option, None}
use Rattle.std.specs.Option.{option_or}
use Rattle.toml.specs.Data.{Data, Members, no_members, member}
use Rattle.ix_sheet.specs.declared.rules.Part.{Part}
use Rattle.ix_sheet.specs.declared.rules.Part.TheVariants.{Top, Delay, Window}
use Rattle.ix_sheet.specs.declared.sheet.SheetErr.{SheetErr}
use Rattle.ix_sheet.specs.Sheets.{native_windows_of}
use Rattle.ix_sheet.specs.Datasheets.{top_rule, delay_rule, window_rule}

abbrev pub rule_of : Part → List ℕ → Data → Option SheetErr
rule_of Top = top_rule
rule_of Delay = delay_rule
rule_of (Window shape) = window_rule (native_windows_of shape)

-- the first refusal among members that stand in the order of their keys
abbrev pub refusal_in_order : (List ℕ → Data → Option SheetErr) → Members → Option SheetErr
refusal_in_order rule no_members = None
refusal_in_order rule (member key value rest) = option_or (rule key value) (refusal_in_order rule rest)
