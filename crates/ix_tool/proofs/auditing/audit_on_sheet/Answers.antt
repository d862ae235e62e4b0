use Rattle.std.proofs.Common.{◌≡◌, sym, ap, subst, [], ◌∷◌, map, arith}
use Rattle.std.proofs.lemmas.Grind.{common_steps}
use Rattle.ix_extension.specs.Extensions.{view_extension}
use Rattle.ix_words.specs.declared.command.Command.TheVariants.{Audit}
use Rattle.ix_words.specs.Readings.{extension_read, sheet_read, image_read, waits_read, trace_read, reading_of}
use Rattle.ix_tool.specs.CommandOutput.{Answered}
use Rattle.ix_tool.proofs.AuditValues.{trace_values}
use Rattle.ix_tool.proofs.auditing.audit_on_sheet.Goals as goal

pub returns : goal.returns
returns g c =
    let x = view_extension c.args.extension in
    let r = trace_values x c.args.sheet c.args.values.now c.requires in
    let vs : map reading_of c.args.values.now ≡ image_read r.0 ∷ waits_read r.1 ∷ trace_read r.2 ∷ [] = ap (map reading_of) r.3 in
    let made : Answered Audit (extension_read x ∷ sheet_read c.args.sheet ∷ image_read r.0 ∷ waits_read r.1 ∷ trace_read r.2 ∷ []) (g.S.Sink.written c.args.sink.now) (g.S.Sink.written c.audit_extension.new.sink) (g.S.Sink.faults c.args.sink.now) (g.S.Sink.faults c.audit_extension.new.sink) c.audit_extension.result =
    subst (λ b. Answered Audit (extension_read x ∷ sheet_read c.args.sheet ∷ image_read r.0 ∷ waits_read r.1 ∷ trace_read b ∷ []) (g.S.Sink.written c.args.sink.now) (g.S.Sink.written c.audit_extension.new.sink) (g.S.Sink.faults c.args.sink.now) (g.S.Sink.faults c.audit_extension.new.sink) c.audit_extension.result)
    (rw r.3 at c.as_slice.ensures) (rw r.3 at c.audit_extension.ensures) in
    subst (λ us. Answered Audit (extension_read x ∷ sheet_read c.args.sheet ∷ us) (g.S.Sink.written c.args.sink.now) (g.S.Sink.written c.audit_extension.new.sink) (g.S.Sink.faults c.args.sink.now) (g.S.Sink.faults c.audit_extension.new.sink) c.audit_extension.result) (sym vs) made

pub unreachable-requires : goal.unreachable-requires
unreachable-requires g c =
    let e = (trace_values (view_extension c.args.extension) c.args.sheet c.args.values.now c.requires).3 in
    grind (arith, common_steps, e)
