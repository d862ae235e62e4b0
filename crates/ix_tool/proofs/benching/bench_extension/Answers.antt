use Rattle.std.proofs.Common.{refl, inl, inr, [], ◌∷◌}
use Rattle.ix_extension.specs.Extensions.{view_extension}
use Rattle.ix_words.specs.declared.command.Command.TheVariants.{Bench}
use Rattle.ix_words.specs.Readings.{number_read}
use Rattle.ix_tool.proofs.Answering.{bench_answered, behaviour_answered}
use Rattle.ix_tool.proofs.benching.bench_extension.Goals as goal

pub returns-in-Ok : goal.returns-in-Ok
returns-in-Ok g c = elim c.bench_design.ensures [
  | inl memory ↦ inl memory
  | inr done ↦
      bench_answered (view_extension c.args.extension) c.args.sheet (g.S.Sink.written c.args.sink.now) (g.S.Sink.written c.bench_design.new.sink) (g.S.Sink.faults c.args.sink.now) (g.S.Sink.faults c.bench_design.new.sink) c.bench_design.result c.args.number c.args.count done.0
      (record {
        design = record { extension = c.args.extension; sheet = c.args.sheet; plans = c.in-Ok.built.plans; nets = c.in-Ok.built.nets };
        stands = record { well_formed = c.requires.well_formed; sheet = c.requires.sheet; built = c.in-Ok.ensures.built };
        extension_is = refl;
        sheet_is = refl;
        runs = done.1;
      })
      done.2
]

pub returns-in-Err : goal.returns-in-Err
returns-in-Err g c = elim c.refuse.ensures [
  | inl memory ↦ inl memory
  | inr told ↦
      behaviour_answered (view_extension c.args.extension) c.args.sheet (g.S.Sink.written c.args.sink.now) (g.S.Sink.written c.refuse.new.sink) (g.S.Sink.faults c.args.sink.now) (g.S.Sink.faults c.refuse.new.sink) c.refuse.result
      Bench (number_read c.args.number ∷ number_read c.args.count ∷ []) tt c.refusal_text.result told.0 told.1 c.refusal_text.ensures told.2 told.3
]
