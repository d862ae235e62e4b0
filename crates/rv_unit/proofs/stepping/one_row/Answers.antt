use Rattle.std.proofs.Common.{◌++◌, ◌∙◌, All, length, sym, ap, subst, arith}
use Rattle.rv_unit.specs.Entries.{entered}
use Rattle.rv_unit.specs.Surveys.{HasNext}
use Rattle.rv_unit.proofs.Cycling.{row_gone, survey_below, staying_next, next_few}
use Rattle.rv_unit.proofs.stepping.one_row.Goals as goal

pub take_written-written-requires-clause-below : goal.take_written-written-requires-clause-below
take_written-written-requires-clause-below c =
    survey_below c.args.stages c.args.lasts.now c.args.entries.now.items c.args.found.now c.requires.kept.timed c.requires.kept.survey

pub let_all_go_on-requires : goal.let_all_go_on-requires
let_all_go_on-requires c =
    let stages = c.args.stages in
    let lasts = c.args.lasts.now in
    let all = c.args.entries.now.items in
    subst (λ l. All HasNext l) (sym (c.take_written-written.ensures.entries stages c.requires.kept.timed))
    (staying_next stages lasts all c.requires.kept.units c.requires.kept.timed)

pub put_first-requires : goal.put_first-requires
put_first-requires c =
    let stages = c.args.stages in
    let lasts = c.args.lasts.now in
    let all = c.args.entries.now.items in
    let kept = c.requires.kept in
    let gone = row_gone stages lasts all c.take_written-written.new.entries.items c.let_all_go_on.new.entries.items c.args.found.now kept.units kept.timed kept.survey
    (c.take_written-written.ensures.entries stages kept.timed) c.let_all_go_on.ensures.items in
    let few = next_few stages lasts all c.args.enter kept.units kept.timed c.requires.enters in
    let places = kept.capacity in
    let same = ap (λ l. length (entered stages c.args.enter ++ l)) gone in
    let capacity = c.let_all_go_on.ensures.capacity ∙ c.take_written-written.ensures.capacity in
    omega (arith, few, places, same, capacity)

pub returns-clause-entries : goal.returns-clause-entries
returns-clause-entries c =
    let stages = c.args.stages in
    let lasts = c.args.lasts.now in
    let all = c.args.entries.now.items in
    let kept = c.requires.kept in
    let gone = row_gone stages lasts all c.take_written-written.new.entries.items c.let_all_go_on.new.entries.items c.args.found.now kept.units kept.timed kept.survey
    (c.take_written-written.ensures.entries stages kept.timed) c.let_all_go_on.ensures.items in
    c.put_first.ensures.items ∙ ap (λ l. entered stages c.args.enter ++ l) gone
