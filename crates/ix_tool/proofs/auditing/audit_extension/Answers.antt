use Rattle.std.proofs.Common.{refl, inl, inr, [], ◌∷◌}
use Rattle.ix_extension.specs.Extensions.{view_extension}
use Rattle.ix_plan.specs.declared.design.Design.{Design}
use Rattle.ix_words.specs.declared.command.Command.TheVariants.{Audit}
use Rattle.ix_words.specs.Readings.{image_read, waits_read, trace_read}
use Rattle.ix_tool.proofs.Answering.{audit_answered, fault_answered, behaviour_answered}
use Rattle.ix_tool.proofs.auditing.audit_extension.Goals as goal

pub returns-in-Ok : goal.returns-in-Ok
returns-in-Ok g c =
    let d : Design = record { extension = c.args.extension; sheet = c.args.sheet; plans = c.in-Ok.built.plans; nets = c.in-Ok.built.nets } in
    elim c.audit_design.ensures [
      | inl memory ↦ inl memory
      | inr (inl refused) ↦
          fault_answered (view_extension c.args.extension) c.args.sheet (g.S.Sink.written c.args.sink.now) (g.S.Sink.written c.audit_design.new.sink) (g.S.Sink.faults c.args.sink.now) (g.S.Sink.faults c.audit_design.new.sink) c.audit_design.result c.args.image.now c.args.waits.now c.args.trace.now refused.0
          (record {
            design = d;
            stands = record { well_formed = c.requires.well_formed; sheet = c.requires.sheet; built = c.in-Ok.ensures.built };
            extension_is = refl;
            sheet_is = refl;
            fault = refused.1;
          })
          refused.2
      | inr (inr passed) ↦
          audit_answered (view_extension c.args.extension) c.args.sheet (g.S.Sink.written c.args.sink.now) (g.S.Sink.written c.audit_design.new.sink) (g.S.Sink.faults c.args.sink.now) (g.S.Sink.faults c.audit_design.new.sink) c.audit_design.result c.args.image.now c.args.waits.now c.args.trace.now
          (record {
            design = d;
            stands = record { well_formed = c.requires.well_formed; sheet = c.requires.sheet; built = c.in-Ok.ensures.built };
            extension_is = refl;
            sheet_is = refl;
            audited = passed.0;
          })
          passed.1
    ]

pub returns-in-Err : goal.returns-in-Err
returns-in-Err g c = elim c.refuse.ensures [
  | inl memory ↦ inl memory
  | inr told ↦
      behaviour_answered (view_extension c.args.extension) c.args.sheet (g.S.Sink.written c.args.sink.now) (g.S.Sink.written c.refuse.new.sink) (g.S.Sink.faults c.args.sink.now) (g.S.Sink.faults c.refuse.new.sink) c.refuse.result
      Audit (image_read c.args.image.now ∷ waits_read c.args.waits.now ∷ trace_read c.args.trace.now ∷ []) tt c.refusal_text.result told.0 told.1 c.refusal_text.ensures told.2 told.3
]
