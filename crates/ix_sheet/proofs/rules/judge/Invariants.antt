use Rattle.std.proofs.Common.{◌≡◌}
use Rattle.toml.specs.View.{members_view}
use Rattle.ix_sheet.specs.Datasheets.{first_refusal}
use Rattle.ix_sheet.specs.Reading.{rule_of, refusal_in_order}
use Rattle.ix_sheet.proofs.rules.judge.Given as goal

abbrev pub invariant-members : goal.invariant-members
invariant-members l =
    (goal.iterator-members).can_next l.key-iterator × (goal.iterator-members).is_finite l.key-iterator
    × (refusal_in_order (rule_of l.part) (members_view l.key-iterator) ≡ first_refusal (rule_of l.part) (members_view l.table.entries))
