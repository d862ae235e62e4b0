use Rattle.std.proofs.Common.{◌≡◌, ◌∙◌, sym, subst, ℕ, suc, length, None, Some, refl, arith}
use Rattle.std.specs.Prelude.{slice_get}
use Rattle.rv_trace.specs.declared.row.Cell.{Cell}
use Rattle.rv_lawful.specs.Settings.{Stands}
use Rattle.rv_rows.specs.Facts.{AreGoingOn}
use Rattle.rv_seq.specs.Sound.{IsSound}
use Rattle.rv_tried.specs.Whole.{AreBlocksWide}
use Rattle.rv_watch.specs.Watched.{setting_of, tree_of}
use Rattle.rv_watch.proofs.Tests.{get_first}
use Rattle.rv_watch.proofs.Steps.{step_is}
use Rattle.rv_watch.proofs.Serials.{next_most, serial_most}
use Rattle.rv_watch.proofs.Cells.{lawful_above}
use Rattle.rv_watch.proofs.Gone.{retirements_most}
use Rattle.rv_watch.proofs.Executed.{untaken, executed_is}
use Rattle.rv_watch.proofs.Retired.{enters, row_stored, row_wide, retired_is, retired_asks}
use Rattle.rv_watch.proofs.Telling.{stages_are, step_here}
use Rattle.rv_watch.proofs.Going.{first_spawns, asked_there}
use Rattle.rv_watch.proofs.watch.Watch.go_on.Goals as goal

pub returns-clause-watched : goal.returns-clause-watched
returns-clause-watched c = λ rows watched few lawful shows going knows due placed.
    let a = c.args.against.now in
    let row = c.args.row.now in
    let w = c.args.self.now in
    let k = setting_of a in
    let x = tree_of a in
    let fit = c.settings_fit.ensures a.design.now a.image.now a.waits.now c.requires.fits.stands in
    let on : AreGoingOn k rows = record { lawful = watched.lawful; going = going } in
    let above = c.row_facts.ensures.above k rows row fit.plain on (lawful_above k rows row lawful) in
    let stages = stages_are k fit.plain in
    let sound : (p : ℕ) → IsSound x (k.course.answer p) = λ p. c.sound_steps.ensures.sound x a.image.now None p in
    let wide : (p : ℕ) → AreBlocksWide x (k.course.blocks p) = λ p. c.sound_steps.ensures.wide x a.image.now None p in
    let at_execute = subst (λ n. slice_get c.args.places.now n ≡ Some c.place_at-place.result) c.from-execute.ensures c.place_at-place.ensures in
    let asked = subst (λ n. slice_get c.args.known.now.asks n ≡ Some c.asks_at-executing.result) c.from-execute.ensures c.asks_at-executing.ensures in
    let there = λ (cell : Cell) (e : Stands k row k.shape.ex cell). asked_there k rows row c.args.known.now k.shape.ex c.asks_at-executing.result knows asked cell e in
    let executed = executed_is c.row_facts.ensures k rows row fit.plain fit.words on lawful x c.due_at-executed.result sound wide
    (λ cell e. c.due_at-executed.ensures.asks (k.asks cell.word) (there cell e))
    (λ cell e. step_here k rows row fit.plain above w.steps.steps (λ p one lt f. step_is x a.image.now w.steps watched.steps p one lt f) watched.many c.args.places.now placed k.shape.ex c.place_at-place.result c.due_at-executed.result.step cell stages.ex_some e at_execute (c.due_at-executed.ensures.step (k.asks cell.word) (there cell e))) in
    let kept = c.keep-self.ensures.kept k rows refl fit.plain on (sym watched.before) lawful knows.plain watched.kept in
    let retired = kept.retired in
    let next = kept.next in
    let many = watched.many in
    let was_retired = watched.kept.retired in
    let was_next = watched.kept.next in
    let most_retired = retirements_most row rows in
    let most_next = next_most k rows row lawful.moves in
    let low_next = watched.most.next in
    let low_retired = watched.most.retired in
    let low_stood = watched.most.stood in
    let low_tailed = watched.most.tailed in
    let low_steps = watched.most.steps in
    let stood = c.keep-self.ensures.stood in
    let tailed = c.keep-self.ensures.tailed in
    let enough = c.in_ok-go_ahead.ensures.many (omega (arith, retired, many, most_retired)) in
    record {
      lawful = (lawful, going, watched.lawful);
      recorded = (shows, watched.recorded);
      before = refl;
      kept = kept;
      seen = c.in_ok-see.ensures.ok k rows fit.plain on lawful watched.seen (λ cell e. c.does_spawn-spawns.ensures ∙ first_spawns k rows row c.args.known.now c.asks_at-first.result knows c.asks_at-first.ensures cell e);
      steps = c.in_ok-go_ahead.ensures.steps;
      many = omega (arith, enough, retired);
      owing = c.in_ok-next.ensures k rows row fit.plain fit.units fit.words on watched.recorded lawful shows (c.entering-entering.ensures ∙ enters k rows row c.args.next.now w.kept.retired (retired_asks x k rows row sound shows c.args.next.now due) was_retired) watched.owing;
      past = c.next-2.ensures k rows refl (untaken k rows row fit.plain lawful) (retired_is x k rows row sound shows c.args.next.now wide due) executed (row_wide x k rows row sound shows) watched.past;
      most = record {
        next = omega (arith, next, most_next, was_next, low_next);
        retired = omega (arith, retired, most_retired, was_retired, low_retired);
        stood = omega (arith, stood, low_stood);
        tailed = omega (arith, tailed, low_tailed);
        steps = c.in_ok-go_ahead.ensures.most (suc (length rows)) (omega (arith, retired, most_retired, was_retired, low_retired)) (omega (arith, low_steps));
      };
    }

pub due_at-executed-requires : goal.due_at-executed-requires
due_at-executed-requires c = let many = c.requires.watched.1.many in omega (arith, many)

pub next-requires-2 : goal.next-requires-2
next-requires-2 c =
    let a = c.args.against.now in
    record {
      well_formed = c.requires.fits.stands.well_formed;
      stored = row_stored (tree_of a) (setting_of a) c.requires.watched.0 c.args.row.now (λ p. c.sound_steps.ensures.sound (tree_of a) a.image.now None p) c.requires.watched.4;
    }

pub keep-self-requires-clause-serial : goal.keep-self-requires-clause-serial
keep-self-requires-clause-serial c = λ cell e.
    let a = c.args.against.now in
    let k = setting_of a in
    let watched = c.requires.watched.1 in
    let few = c.requires.watched.2 in
    let fit = c.settings_fit.ensures a.design.now a.image.now a.waits.now c.requires.fits.stands in
    let inside = fit.plain.mem_last in
    let stands : Stands k c.args.row.now 0 cell = get_first k.shape.stages 0 c.args.row.now.cells (omega (arith, inside)) ∙ e in
    let low = serial_most k c.requires.watched.0 c.args.row.now c.requires.watched.3.moves cell stands in
    let next = watched.kept.next in
    let most = watched.most.next in
    omega (arith, low, next, most, few)

pub keep-self-requires-clause-retired : goal.keep-self-requires-clause-retired
keep-self-requires-clause-retired c = let most = c.requires.watched.1.most.retired in let few = c.requires.watched.2 in omega (arith, most, few)

pub keep-self-requires-clause-stood : goal.keep-self-requires-clause-stood
keep-self-requires-clause-stood c = let most = c.requires.watched.1.most.stood in let few = c.requires.watched.2 in omega (arith, most, few)

pub keep-self-requires-clause-tailed : goal.keep-self-requires-clause-tailed
keep-self-requires-clause-tailed c = let most = c.requires.watched.1.most.tailed in let few = c.requires.watched.2 in omega (arith, most, few)

pub go_ahead-requires : goal.go_ahead-requires
go_ahead-requires c =
    let watched = c.requires.watched.1 in
    let most = watched.most.steps in
    let few = c.requires.watched.2 in
    record { well_formed = c.requires.fits.stands.well_formed; scratch = c.requires.scratch; steps = watched.steps; few = omega (arith, most, few) }
