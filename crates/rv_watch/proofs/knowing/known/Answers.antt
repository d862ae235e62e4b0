use Rattle.std.proofs.Common.{◌≡◌, ◌∙◌, sym, ap, subst, ℕ, suc, ◌-◌, ◌<◌, ◌≤◌, length, Some, refl, arith}
use Rattle.std.specs.Prelude.{slice_get}
use Rattle.std.proofs.lemmas.Option.{same_Some}
use Rattle.ix_plan.specs.Units.{frozen_with}
use Rattle.rv_past.specs.declared.step.Step.{Step}
use Rattle.rv_past.specs.Steps.{step_at}
use Rattle.rv_trace.specs.declared.row.Cell.{Cell}
use Rattle.rv_trace.specs.Trace.{place}
use Rattle.rv_waits.specs.Waits.{wait_at}
use Rattle.rv_lawful.specs.Settings.{Stands}
use Rattle.rv_lawful.specs.Outstanding.{units_after}
use Rattle.rv_lawful.specs.LawfulTrace.{plain_fetch}
use Rattle.rv_rows.specs.Facts.{AreGoingOn}
use Rattle.rv_rows.specs.Kinds.{unit_marked}
use Rattle.rv_rows.specs.Known.{stop_in}
use Rattle.rv_watch.specs.Watched.{setting_of, tree_of}
use Rattle.rv_watch.proofs.Steps.{step_is}
use Rattle.rv_watch.proofs.Cells.{moves_above}
use Rattle.rv_watch.proofs.Retired.{enters_serial}
use Rattle.rv_watch.proofs.Telling.{stages_are, stands_in, stage_in, step_here, step_behind, stood_is, tailed_is, unwritten}
use Rattle.rv_watch.proofs.knowing.known.Goals as goal

pub returns-clause-known : goal.returns-clause-known
returns-clause-known c = λ rows watched going moves form due asked placed.
    let a = c.args.against.now in
    let row = c.args.row.now in
    let w = c.args.watch.now in
    let k = setting_of a in
    let fit = c.settings_fit.ensures a.design.now a.image.now a.waits.now c.requires.fits.stands in
    let on : AreGoingOn k rows = record { lawful = watched.lawful; going = going } in
    let over = moves_above k rows row on moves in
    let above = c.row_facts.ensures.above k rows row fit.plain on over in
    let owing = c.owing_facts.ensures.owing k rows fit.plain fit.units fit.words watched.lawful watched.recorded in
    let stages = stages_are k fit.plain in
    let last_some = stages.last_some in
    let are = λ (p : ℕ) (one : Step) (lt : p < length w.steps.steps) (f : slice_get w.steps.steps p ≡ Some one). step_is (tree_of a) a.image.now w.steps watched.steps p one lt f in
    let executing = subst (λ n. slice_get c.args.places.now n ≡ Some c.place_at-executing.result) c.from-execute.ensures c.place_at-executing.ensures in
    let loading = subst (λ n. slice_get c.args.places.now n ≡ Some c.place_at-loading.result) c.from-memory.ensures c.place_at-loading.ensures in
    let load = λ (cell : Cell) (e : Stands k row k.shape.mem cell). step_here k rows row fit.plain above w.steps.steps are watched.many c.args.places.now placed k.shape.mem c.place_at-loading.result c.step_at-load.result cell stages.mem_some e loading c.step_at-load.ensures.step in
    record {
      asks = λ stage cell e. c.asks_in-asks.ensures c.requires.fits.asking stage cell (stage_in k row stage cell fit.plain e) (stands_in k row stage cell e);
      stop = λ cell e.
          c.stop_in-stop.ensures
          ∙ ap (λ (o : Step). stop_in o.answer) (step_here k rows row fit.plain above w.steps.steps are watched.many c.args.places.now placed k.shape.ex c.place_at-executing.result c.step_at-step.result cell stages.ex_some e executing c.step_at-step.ensures.step);
      behind_execute = λ cell e.
          ap (λ (o : Step). o.pc) (step_behind k rows row fit.plain above w.steps.steps are watched.many c.args.places.now placed k.shape.ex c.place_at-executing.result c.step_at-after.result cell stages.ex_some e executing c.step_at-after.ensures.step);
      behind_last = λ stage cell end e.
          let at : c.from-last.result - 1 ≡ stage = omega (arith, end, c.from-last.ensures) in
          let ending = subst (λ n. slice_get c.args.places.now n ≡ Some c.place_at-ending.result) at c.place_at-ending.ensures in
          ap (λ (o : Step). o.pc) (step_behind k rows row fit.plain above w.steps.steps are watched.many c.args.places.now placed stage c.place_at-ending.result c.step_at-end.result cell (omega (arith, end, last_some)) e ending c.step_at-end.ensures.step);
      accesses = λ cell e. ap (λ (o : Step). o.accesses) (load cell e);
      wait = λ cell e. c.wait-wait.ensures ∙ ap (λ (o : Step). wait_at a.waits.now o.before) (load cell e);
      stood = λ cell e.
          c.so_far-stood.ensures
          ∙ stood_is k rows w.before row w.kept fit.plain (sym watched.before) watched.kept c.cell_at-was_memory.result c.cell_at-in_memory.result cell e
          (subst (λ n. slice_get w.before.cells n ≡ Some c.cell_at-was_memory.result) c.from-memory.ensures c.cell_at-was_memory.ensures)
          (subst (λ n. slice_get row.cells n ≡ Some c.cell_at-in_memory.result) c.from-memory.ensures c.cell_at-in_memory.ensures);
      tailed = λ stage cell end e.
          let at : c.from-last.result - 1 ≡ stage = omega (arith, end, c.from-last.ensures) in
          c.so_far-tailed.ensures
          ∙ tailed_is k rows w.before row w.kept fit.plain (sym watched.before) watched.kept above stage c.cell_at-was_last.result c.cell_at-at_last.result cell end e
          (subst (λ n. slice_get w.before.cells n ≡ Some c.cell_at-was_last.result) at c.cell_at-was_last.ensures)
          (subst (λ n. slice_get row.cells n ≡ Some c.cell_at-at_last.result) at c.cell_at-at_last.ensures);
      frozen = λ stage cell u slots end e unit there.
          let at : c.from-last.result - 1 ≡ stage = omega (arith, end, c.from-last.ensures) in
          let found = subst (λ n. slice_get c.asks_in-asks.result n ≡ Some c.asked_at-asked_last.result) at c.asked_at-asked_last.ensures in
          let asks = c.asks_in-asks.ensures c.requires.fits.asking stage cell (stage_in k row stage cell fit.plain e) (stands_in k row stage cell e) in
          c.frozen-is_frozen.ensures k rows (k.asks cell.word) u slots watched.owing (same_Some c.asked_at-asked_last.result (Some (k.asks cell.word)) (sym found ∙ asks)) unit there
          ∙ ap (λ o. frozen_with u slots (unit_marked (units_after k rows) o)) c.row_written-written.ensures;
      port = λ j written. c.port-is_port.ensures k rows row j fit.plain on over watched.seen (c.row_written-written.ensures ∙ written);
      ready = record { granted = c.granted-granted.ensures.serial k rows watched.owing; fetch = watched.kept.fetch; next = watched.kept.next };
      plain =
          c.plain-plain.ensures.plain k rows refl (λ file at word memory. c.sight_laws.ensures.jumps a.design.now c.requires.fits.stands file at word memory) watched.past
          ∙ ap (λ f. plain_fetch k rows f row) watched.kept.fetch;
      settled =
          let enters = c.entering_serial-entering.ensures ∙ enters_serial k row c.args.next.now w.kept.retired asked in
          c.settled-settled.ensures k rows row watched.owing c.row_written-written.ensures enters (λ s e. unwritten k rows row fit.plain above owing moves s (sym enters ∙ e));
    }

pub step_at-step-requires : goal.step_at-step-requires
step_at-step-requires c = let many = c.requires.watched.1.many in omega (arith, many)

pub step_at-after-requires : goal.step_at-after-requires
step_at-after-requires c = let many = c.requires.watched.1.many in omega (arith, many)

pub step_at-load-requires : goal.step_at-load-requires
step_at-load-requires c = let many = c.requires.watched.1.many in omega (arith, many)

pub step_at-end-requires : goal.step_at-end-requires
step_at-end-requires c = let many = c.requires.watched.1.many in omega (arith, many)

pub asks_in-asks-requires : goal.asks_in-asks-requires
asks_in-asks-requires c = record { well_formed = c.requires.fits.stands.well_formed }

pub plain-plain-requires : goal.plain-plain-requires
plain-plain-requires c = record { well_formed = c.requires.fits.stands.well_formed; wide = c.requires.watched.1.past.wide; scratch = c.requires.scratch }
