use Rattle.std.proofs.Common.{◌∙◌, ap, ◌++◌}
use Rattle.rv_unit.specs.Timed.{CanEnter}
use Rattle.rv_owing.specs.Kept.{unit_entering, owed_entering, place_entering}
use Rattle.rv_owing.proofs.Going.{both_ok, can_enter, owed_next}
use Rattle.rv_owing.proofs.owing.Owing.next.Goals as goal

pub returns : goal.returns
returns c k earlier row plain units words going all lawful recorded enters_is is =
    let facts = c.row_facts.ensures in
    let gone = c.gone_facts.ensures in
    let old = c.args.self.now in
    let enters = c.args.entering in
    let can : CanEnter old.units.lasts old.units.entries (unit_entering enters) =
    can_enter facts gone k plain words units earlier row going all lawful recorded old is enters enters_is c.granted-granted.ensures.units c.granted-granted.ensures.timed in
    both_ok c.put_behind.result
    (λ owed places. owed_next facts gone k plain words units earlier row going all lawful recorded old is enters enters_is _ c.granted-granted.result c.into_open-enters.result
    (c.granted-granted.ensures.serial k earlier is) (c.into_open-enters.ensures.same can) c.cycle.ensures.stages c.cycle.ensures.rule_next
    (owed ∙ ap (λ l. l ++ owed_entering enters) c.take_out.ensures.owed) (places ∙ ap (λ l. l ++ place_entering enters) c.take_out.ensures.places))
    c.put_behind.ensures.owed c.put_behind.ensures.places
