use Rattle.std.proofs.Common.{◌≡◌, ◌∙◌, sym, ap, true, false, arith}
use Rattle.rv_unit.specs.Entries.{writer, is_number, is_frozen}
use Rattle.rv_owing.specs.Kept.{oldest_in}
use Rattle.rv_owing.proofs.Finishing.{none_past, named_oldest, frozen_oldest, neither_none}
use Rattle.rv_owing.proofs.owing.Owing.finished.Goals as goal

pub returns-then-from-count-clause-serial : goal.returns-then-from-count-clause-serial
returns-then-from-count-clause-serial c =
    let v = c.args.self.now.units in
    let from = c.from.ensures in
    let count = c.count.ensures in
    sym (none_past v.stages v.lasts c.args.unit v.entries c.entries-entries.ensures.timed (omega (arith, c.if-from-count.true, from, count)))

pub returns-then-is_unit-clause-serial : goal.returns-then-is_unit-clause-serial
returns-then-is_unit-clause-serial c =
    let v = c.args.self.now.units in
    let named : is_number (writer v.lasts v.entries) c.args.unit ≡ true = ap (λ o. is_number o c.args.unit) (sym c.granted.ensures.unit) ∙ sym c.is_unit.ensures ∙ c.if-is_unit.true in
    c.oldest_in.ensures ∙ ap (λ l. oldest_in c.args.unit l) c.entries-entries.ensures.entries
    ∙ named_oldest v.stages v.lasts c.args.unit v.entries c.entries-entries.ensures.timed named

pub returns-then-frozen-clause-serial : goal.returns-then-frozen-clause-serial
returns-then-frozen-clause-serial c =
    let v = c.args.self.now.units in
    let frozen : is_frozen v.lasts v.entries c.args.unit ≡ true = sym c.frozen.ensures.frozen ∙ c.if-frozen.true in
    c.oldest_in-then-frozen.ensures ∙ ap (λ l. oldest_in c.args.unit l) c.entries-entries.ensures.entries
    ∙ frozen_oldest v.stages v.lasts c.args.unit v.entries c.entries-entries.ensures.timed frozen

pub returns-clause-serial : goal.returns-clause-serial
returns-clause-serial c =
    let v = c.args.self.now.units in
    let named : is_number (writer v.lasts v.entries) c.args.unit ≡ false = ap (λ o. is_number o c.args.unit) (sym c.granted.ensures.unit) ∙ sym c.is_unit.ensures ∙ c.if-is_unit.false in
    let frozen : is_frozen v.lasts v.entries c.args.unit ≡ false = sym c.frozen.ensures.frozen ∙ c.if-frozen.false in
    sym (neither_none v.lasts c.args.unit v.entries named frozen)
