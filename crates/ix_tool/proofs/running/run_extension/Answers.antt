use Rattle.std.proofs.Common.{refl, inl, inr}
use Rattle.std.specs.Option.{option_copied}
use Rattle.ix_extension.specs.Extensions.{view_extension}
use Rattle.ix_tool.proofs.Answering.{run_answered, run_refused}
use Rattle.ix_tool.proofs.running.run_extension.Goals as goal

pub returns-in-Ok : goal.returns-in-Ok
returns-in-Ok g c = elim c.run_design.ensures [
  | inl memory ↦ inl memory
  | inr done ↦
      run_answered (view_extension c.args.extension) c.args.sheet (g.S.Sink.written c.args.sink.now) (g.S.Sink.written c.run_design.new.sink) (g.S.Sink.faults c.args.sink.now) (g.S.Sink.faults c.run_design.new.sink) c.run_design.result c.args.form c.args.image.now c.args.waits.now (option_copied c.args.lines) c.args.cycles done.0 c.requires.lines
      (record {
        design = record { extension = c.args.extension; sheet = c.args.sheet; plans = c.in-Ok.built.plans; nets = c.in-Ok.built.nets };
        stands = record { well_formed = c.requires.well_formed; sheet = c.requires.sheet; built = c.in-Ok.ensures.built };
        extension_is = refl;
        sheet_is = refl;
        runs = done.1;
      })
      done.2
]

pub returns-in-Err : goal.returns-in-Err
returns-in-Err g c = elim c.refuse.ensures [
  | inl memory ↦ inl memory
  | inr told ↦
      run_refused (view_extension c.args.extension) c.args.sheet (g.S.Sink.written c.args.sink.now) (g.S.Sink.written c.refuse.new.sink) (g.S.Sink.faults c.args.sink.now) (g.S.Sink.faults c.refuse.new.sink) c.refuse.result
      c.args.form c.args.image.now c.args.waits.now (option_copied c.args.lines) c.args.cycles c.refusal_text.result told.0 told.1 c.refusal_text.ensures told.2 told.3
]
