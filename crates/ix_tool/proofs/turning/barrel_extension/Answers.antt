use Rattle.std.proofs.Common.{refl, inl, inr, [], ◌∷◌}
use Rattle.ix_extension.specs.Extensions.{view_extension}
use Rattle.ix_plan.specs.declared.design.Design.{Design}
use Rattle.ix_standing.specs.Standing.{name_at}
use Rattle.ix_words.specs.declared.command.Command.TheVariants.{Barrel}
use Rattle.ix_words.specs.Readings.{image_read, number_read}
use Rattle.rv_barrel_text.specs.BarrelText.{barrel_text}
use Rattle.ix_tool.proofs.Answering.{barrel_answered, tight_answered, behaviour_answered}
use Rattle.ix_tool.proofs.turning.barrel_extension.Goals as goal

pub returns-in-Ok : goal.returns-in-Ok
returns-in-Ok g c =
    let x = view_extension c.args.extension in
    let d : Design = record { extension = c.args.extension; sheet = c.args.sheet; plans = c.in-Ok.built.plans; nets = c.in-Ok.built.nets } in
    elim c.barrel_design.ensures [
      | inl memory ↦ inl memory
      | inr (inl refused) ↦
          tight_answered x c.args.sheet (g.S.Sink.written c.args.sink.now) (g.S.Sink.written c.barrel_design.new.sink) (g.S.Sink.faults c.args.sink.now) (g.S.Sink.faults c.barrel_design.new.sink) c.barrel_design.result
          (image_read c.args.first.now ∷ image_read c.args.second.now ∷ number_read c.args.cycles ∷ []) (name_at x refused.0)
          (record {
            design = d;
            stands = record { well_formed = c.requires.well_formed; sheet = c.requires.sheet; built = c.in-Ok.ensures.built };
            extension_is = refl;
            sheet_is = refl;
            behaviour = refused.0;
            tight = refused.1;
            name_is = refl;
          })
          refused.2
      | inr (inr run) ↦
          barrel_answered x c.args.sheet (g.S.Sink.written c.args.sink.now) (g.S.Sink.written c.barrel_design.new.sink) (g.S.Sink.faults c.args.sink.now) (g.S.Sink.faults c.barrel_design.new.sink) c.barrel_design.result c.args.first.now c.args.second.now c.args.cycles
          (barrel_text d c.args.first.now c.args.second.now c.args.cycles)
          (record {
            design = d;
            stands = record { well_formed = c.requires.well_formed; sheet = c.requires.sheet; built = c.in-Ok.ensures.built };
            extension_is = refl;
            sheet_is = refl;
            no_tight = run.0;
            text_is = refl;
          })
          run.1
    ]

pub returns-in-Err : goal.returns-in-Err
returns-in-Err g c = elim c.refuse.ensures [
  | inl memory ↦ inl memory
  | inr told ↦
      behaviour_answered (view_extension c.args.extension) c.args.sheet (g.S.Sink.written c.args.sink.now) (g.S.Sink.written c.refuse.new.sink) (g.S.Sink.faults c.args.sink.now) (g.S.Sink.faults c.refuse.new.sink) c.refuse.result
      Barrel (image_read c.args.first.now ∷ image_read c.args.second.now ∷ number_read c.args.cycles ∷ []) tt c.refusal_text.result told.0 told.1 c.refusal_text.ensures told.2 told.3
]
