use Rattle.std.proofs.Common.{◌≡◌, drop}
use Rattle.ix_words.specs.CommandLine.{first_command, commands, bytes_of}
use Rattle.ix_words.proofs.command.command_of.Given as goal

abbrev pub invariant-loop-command : goal.invariant-loop-command
invariant-loop-command l = first_command commands (bytes_of l.words) ≡ first_command (drop l.command-index commands) (bytes_of l.words)
