use Rattle.std.proofs.Common.{◌∷◌, [], subst}
use Rattle.ix_extension.specs.Extensions.{view_extension}
use Rattle.ix_words.specs.declared.command.Command.TheVariants.{Assemble}
use Rattle.ix_words.specs.Readings.{extension_read, source_read}
use Rattle.ix_tool.specs.CommandOutput.{Answered}
use Rattle.ix_tool.proofs.assembling.assemble_source.Goals as goal

pub returns : goal.returns
returns g c =
    subst (λ bytes. Answered Assemble (extension_read (view_extension c.args.extension.now) ∷ source_read bytes ∷ []) (g.S.Sink.written c.args.sink.now) (g.S.Sink.written c.assemble_bytes.new.sink) (g.S.Sink.faults c.args.sink.now) (g.S.Sink.faults c.assemble_bytes.new.sink) c.assemble_bytes.result) c.as_slice.ensures c.assemble_bytes.ensures
