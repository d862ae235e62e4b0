use Rattle.std.proofs.Common.{◌∙◌, ap, sym, subst, refl, length, option_map}
use Rattle.ix_mean.specs.Meaning.{run, reads}
use Rattle.ix_mean.specs.Core.{Statement}
use Rattle.ix_mean.specs.Given.{inputs_of, numbers_of, IsTypedStatementAt}
use Rattle.ix_mean.proofs.Executing.{block_view, all_done}
use Rattle.ix_eval.specs.Readings.{reading_seen, first_of}
use Rattle.ix_eval.proofs.FirstReads.{reads_ended}
use Rattle.ix_eval.proofs.reading.+readings.Goals as goal

pub read_first_all-loop-x-init : goal.read_first_all-loop-x-init
read_first_all-loop-x-init g t c = record {
  typed = subst (IsTypedStatementAt c.args.state.now c.args.slots.now (length c.args.targets.now)) (block_view c.args.tables.now c.args.all.now) c.requires.typed;
  types = refl;
  effect = λ m h. refl;
  reads = λ m h. refl;
}

pub read_first_all-returns-clause-effect : goal.read_first_all-returns-clause-effect
read_first_all-returns-clause-effect g t c = λ m h.
    let i = inputs_of c.args.state.now m in
    all_done c.args.tables.now i c.args.all.now c.loop-x.x-index (numbers_of c.loop-x.slots c.loop-x.targets) c.loop-x-test.false
    ∙ c.loop-x.invariant.effect m h
    ∙ ap (λ (x : Statement). run i x (numbers_of c.args.slots.now c.args.targets.now)) (sym (block_view c.args.tables.now c.args.all.now))

pub read_first_all-returns-clause-reads : goal.read_first_all-returns-clause-reads
read_first_all-returns-clause-reads g t c = λ m h.
    let i = inputs_of c.args.state.now m in
    reads_ended c.args.tables.now i c.args.all.now c.loop-x.x-index (numbers_of c.loop-x.slots c.loop-x.targets) (option_map reading_seen c.loop-x.first) c.loop-x-test.false
    ∙ c.loop-x.invariant.reads m h
    ∙ ap (λ (x : Statement). first_of (reads i x (numbers_of c.args.slots.now c.args.targets.now))) (sym (block_view c.args.tables.now c.args.all.now))
