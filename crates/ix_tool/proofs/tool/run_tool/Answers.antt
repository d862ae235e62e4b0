use Rattle.ix_words.specs.CommandLine.{bytes_of}
use Rattle.ix_tool.proofs.Clauses.{usage, read_fault, too_long_answer, image, extension, sheet, no_schedule, certificate, source, trace, tight, output, write_fault, memory_alone, waits, lines, no_command, due_status, complete}
use Rattle.ix_tool.proofs.Headlines.{headline, listed, certified, stepped, assembled, scheduled}
use Rattle.ix_tool.proofs.ModulesShown.{modules}
use Rattle.ix_tool.proofs.SweepsShown.{swept}
use Rattle.ix_tool.proofs.PipelinesShown.{pipelined, waved}
use Rattle.ix_tool.proofs.InterruptedShown.{interrupted}
use Rattle.ix_tool.proofs.BenchesShown.{benched}
use Rattle.ix_tool.proofs.AuditsShown.{audited}
use Rattle.ix_tool.proofs.BarrelsShown.{barreled}
use Rattle.ix_tool.proofs.tool.run_tool.Goals as goal

pub returns-clause-headline : goal.returns-clause-headline
returns-clause-headline g c = λ e. headline c.rows_laws.ensures.text (g.F.Shelf.files c.args.shelf.now) (bytes_of c.args.words.now) (g.S.Sink.written c.args.sink.now) (g.S.Sink.written c.run_words.new.sink) (output (g.F.Shelf.files c.args.shelf.now) (g.F.Shelf.faults c.args.shelf.now) (g.F.Shelf.faults c.run_words.new.shelf) (bytes_of c.args.words.now) (g.S.Sink.written c.args.sink.now) (g.S.Sink.written c.run_words.new.sink) (g.S.Sink.faults c.args.sink.now) (g.S.Sink.faults c.run_words.new.sink) c.run_words.result c.run_words.ensures e)

pub returns-clause-audited : goal.returns-clause-audited
returns-clause-audited g c = λ e. audited (g.F.Shelf.files c.args.shelf.now) (bytes_of c.args.words.now) (g.S.Sink.written c.args.sink.now) (g.S.Sink.written c.run_words.new.sink) (output (g.F.Shelf.files c.args.shelf.now) (g.F.Shelf.faults c.args.shelf.now) (g.F.Shelf.faults c.run_words.new.shelf) (bytes_of c.args.words.now) (g.S.Sink.written c.args.sink.now) (g.S.Sink.written c.run_words.new.sink) (g.S.Sink.faults c.args.sink.now) (g.S.Sink.faults c.run_words.new.sink) c.run_words.result c.run_words.ensures e)

pub returns-clause-barrel : goal.returns-clause-barrel
returns-clause-barrel g c = λ e. barreled c.barrel_laws.ensures c.harts_are_apart.ensures.rows c.harts_are_apart.ensures.isolated (g.F.Shelf.files c.args.shelf.now) (bytes_of c.args.words.now) (g.S.Sink.written c.args.sink.now) (g.S.Sink.written c.run_words.new.sink) (output (g.F.Shelf.files c.args.shelf.now) (g.F.Shelf.faults c.args.shelf.now) (g.F.Shelf.faults c.run_words.new.shelf) (bytes_of c.args.words.now) (g.S.Sink.written c.args.sink.now) (g.S.Sink.written c.run_words.new.sink) (g.S.Sink.faults c.args.sink.now) (g.S.Sink.faults c.run_words.new.sink) c.run_words.result c.run_words.ensures e)

pub returns-clause-listed : goal.returns-clause-listed
returns-clause-listed g c = λ e. listed (g.F.Shelf.files c.args.shelf.now) (bytes_of c.args.words.now) (g.S.Sink.written c.args.sink.now) (g.S.Sink.written c.run_words.new.sink) (output (g.F.Shelf.files c.args.shelf.now) (g.F.Shelf.faults c.args.shelf.now) (g.F.Shelf.faults c.run_words.new.shelf) (bytes_of c.args.words.now) (g.S.Sink.written c.args.sink.now) (g.S.Sink.written c.run_words.new.sink) (g.S.Sink.faults c.args.sink.now) (g.S.Sink.faults c.run_words.new.sink) c.run_words.result c.run_words.ensures e)

pub returns-clause-assembled : goal.returns-clause-assembled
returns-clause-assembled g c = λ e. assembled (g.F.Shelf.files c.args.shelf.now) (bytes_of c.args.words.now) (g.S.Sink.written c.args.sink.now) (g.S.Sink.written c.run_words.new.sink) (output (g.F.Shelf.files c.args.shelf.now) (g.F.Shelf.faults c.args.shelf.now) (g.F.Shelf.faults c.run_words.new.shelf) (bytes_of c.args.words.now) (g.S.Sink.written c.args.sink.now) (g.S.Sink.written c.run_words.new.sink) (g.S.Sink.faults c.args.sink.now) (g.S.Sink.faults c.run_words.new.sink) c.run_words.result c.run_words.ensures e)

pub returns-clause-certified : goal.returns-clause-certified
returns-clause-certified g c = λ e. certified (g.F.Shelf.files c.args.shelf.now) (bytes_of c.args.words.now) (g.S.Sink.written c.args.sink.now) (g.S.Sink.written c.run_words.new.sink) (output (g.F.Shelf.files c.args.shelf.now) (g.F.Shelf.faults c.args.shelf.now) (g.F.Shelf.faults c.run_words.new.shelf) (bytes_of c.args.words.now) (g.S.Sink.written c.args.sink.now) (g.S.Sink.written c.run_words.new.sink) (g.S.Sink.faults c.args.sink.now) (g.S.Sink.faults c.run_words.new.sink) c.run_words.result c.run_words.ensures e)

pub returns-clause-stepped : goal.returns-clause-stepped
returns-clause-stepped g c = λ e. stepped (g.F.Shelf.files c.args.shelf.now) (bytes_of c.args.words.now) (g.S.Sink.written c.args.sink.now) (g.S.Sink.written c.run_words.new.sink) (output (g.F.Shelf.files c.args.shelf.now) (g.F.Shelf.faults c.args.shelf.now) (g.F.Shelf.faults c.run_words.new.shelf) (bytes_of c.args.words.now) (g.S.Sink.written c.args.sink.now) (g.S.Sink.written c.run_words.new.sink) (g.S.Sink.faults c.args.sink.now) (g.S.Sink.faults c.run_words.new.sink) c.run_words.result c.run_words.ensures e)

pub returns-clause-scheduled : goal.returns-clause-scheduled
returns-clause-scheduled g c = λ e. scheduled (g.F.Shelf.files c.args.shelf.now) (bytes_of c.args.words.now) (g.S.Sink.written c.args.sink.now) (g.S.Sink.written c.run_words.new.sink) (output (g.F.Shelf.files c.args.shelf.now) (g.F.Shelf.faults c.args.shelf.now) (g.F.Shelf.faults c.run_words.new.shelf) (bytes_of c.args.words.now) (g.S.Sink.written c.args.sink.now) (g.S.Sink.written c.run_words.new.sink) (g.S.Sink.faults c.args.sink.now) (g.S.Sink.faults c.run_words.new.sink) c.run_words.result c.run_words.ensures e)

pub returns-clause-modules : goal.returns-clause-modules
returns-clause-modules g c = λ e. modules (g.F.Shelf.files c.args.shelf.now) (bytes_of c.args.words.now) (g.S.Sink.written c.args.sink.now) (g.S.Sink.written c.run_words.new.sink) (output (g.F.Shelf.files c.args.shelf.now) (g.F.Shelf.faults c.args.shelf.now) (g.F.Shelf.faults c.run_words.new.shelf) (bytes_of c.args.words.now) (g.S.Sink.written c.args.sink.now) (g.S.Sink.written c.run_words.new.sink) (g.S.Sink.faults c.args.sink.now) (g.S.Sink.faults c.run_words.new.sink) c.run_words.result c.run_words.ensures e)

pub returns-clause-swept : goal.returns-clause-swept
returns-clause-swept g c = λ e. swept (g.F.Shelf.files c.args.shelf.now) (bytes_of c.args.words.now) (g.S.Sink.written c.args.sink.now) (g.S.Sink.written c.run_words.new.sink) (output (g.F.Shelf.files c.args.shelf.now) (g.F.Shelf.faults c.args.shelf.now) (g.F.Shelf.faults c.run_words.new.shelf) (bytes_of c.args.words.now) (g.S.Sink.written c.args.sink.now) (g.S.Sink.written c.run_words.new.sink) (g.S.Sink.faults c.args.sink.now) (g.S.Sink.faults c.run_words.new.sink) c.run_words.result c.run_words.ensures e)

pub returns-clause-pipelined : goal.returns-clause-pipelined
returns-clause-pipelined g c = λ e. pipelined c.rows_laws.ensures.text (g.F.Shelf.files c.args.shelf.now) (bytes_of c.args.words.now) (g.S.Sink.written c.args.sink.now) (g.S.Sink.written c.run_words.new.sink) (output (g.F.Shelf.files c.args.shelf.now) (g.F.Shelf.faults c.args.shelf.now) (g.F.Shelf.faults c.run_words.new.shelf) (bytes_of c.args.words.now) (g.S.Sink.written c.args.sink.now) (g.S.Sink.written c.run_words.new.sink) (g.S.Sink.faults c.args.sink.now) (g.S.Sink.faults c.run_words.new.sink) c.run_words.result c.run_words.ensures e)

pub returns-clause-interrupted : goal.returns-clause-interrupted
returns-clause-interrupted g c = λ e. interrupted c.rows_laws.ensures.text (g.F.Shelf.files c.args.shelf.now) (bytes_of c.args.words.now) (g.S.Sink.written c.args.sink.now) (g.S.Sink.written c.run_words.new.sink) (output (g.F.Shelf.files c.args.shelf.now) (g.F.Shelf.faults c.args.shelf.now) (g.F.Shelf.faults c.run_words.new.shelf) (bytes_of c.args.words.now) (g.S.Sink.written c.args.sink.now) (g.S.Sink.written c.run_words.new.sink) (g.S.Sink.faults c.args.sink.now) (g.S.Sink.faults c.run_words.new.sink) c.run_words.result c.run_words.ensures e)

pub returns-clause-benched : goal.returns-clause-benched
returns-clause-benched g c = λ e. benched c.rows_laws.ensures.rows c.drawn_laws.ensures.words (g.F.Shelf.files c.args.shelf.now) (bytes_of c.args.words.now) (g.S.Sink.written c.args.sink.now) (g.S.Sink.written c.run_words.new.sink) (output (g.F.Shelf.files c.args.shelf.now) (g.F.Shelf.faults c.args.shelf.now) (g.F.Shelf.faults c.run_words.new.shelf) (bytes_of c.args.words.now) (g.S.Sink.written c.args.sink.now) (g.S.Sink.written c.run_words.new.sink) (g.S.Sink.faults c.args.sink.now) (g.S.Sink.faults c.run_words.new.sink) c.run_words.result c.run_words.ensures e)

pub returns-clause-waved : goal.returns-clause-waved
returns-clause-waved g c = λ e. waved c.wave_laws.ensures.lawful (g.F.Shelf.files c.args.shelf.now) (bytes_of c.args.words.now) (g.S.Sink.written c.args.sink.now) (g.S.Sink.written c.run_words.new.sink) (output (g.F.Shelf.files c.args.shelf.now) (g.F.Shelf.faults c.args.shelf.now) (g.F.Shelf.faults c.run_words.new.shelf) (bytes_of c.args.words.now) (g.S.Sink.written c.args.sink.now) (g.S.Sink.written c.run_words.new.sink) (g.S.Sink.faults c.args.sink.now) (g.S.Sink.faults c.run_words.new.sink) c.run_words.result c.run_words.ensures e)

pub returns-clause-ok : goal.returns-clause-ok
returns-clause-ok g c = output (g.F.Shelf.files c.args.shelf.now) (g.F.Shelf.faults c.args.shelf.now) (g.F.Shelf.faults c.run_words.new.shelf) (bytes_of c.args.words.now) (g.S.Sink.written c.args.sink.now) (g.S.Sink.written c.run_words.new.sink) (g.S.Sink.faults c.args.sink.now) (g.S.Sink.faults c.run_words.new.sink) c.run_words.result c.run_words.ensures

pub returns-clause-usage : goal.returns-clause-usage
returns-clause-usage g c = usage (g.F.Shelf.files c.args.shelf.now) (g.F.Shelf.faults c.args.shelf.now) (g.F.Shelf.faults c.run_words.new.shelf) (bytes_of c.args.words.now) (g.S.Sink.written c.args.sink.now) (g.S.Sink.written c.run_words.new.sink) (g.S.Sink.faults c.args.sink.now) (g.S.Sink.faults c.run_words.new.sink) c.run_words.result c.run_words.ensures

pub returns-clause-read_fault : goal.returns-clause-read_fault
returns-clause-read_fault g c = read_fault (g.F.Shelf.files c.args.shelf.now) (g.F.Shelf.faults c.args.shelf.now) (g.F.Shelf.faults c.run_words.new.shelf) (bytes_of c.args.words.now) (g.S.Sink.written c.args.sink.now) (g.S.Sink.written c.run_words.new.sink) (g.S.Sink.faults c.args.sink.now) (g.S.Sink.faults c.run_words.new.sink) c.run_words.result c.run_words.ensures

pub returns-clause-write_fault : goal.returns-clause-write_fault
returns-clause-write_fault g c = write_fault (g.F.Shelf.files c.args.shelf.now) (g.F.Shelf.faults c.args.shelf.now) (g.F.Shelf.faults c.run_words.new.shelf) (bytes_of c.args.words.now) (g.S.Sink.written c.args.sink.now) (g.S.Sink.written c.run_words.new.sink) (g.S.Sink.faults c.args.sink.now) (g.S.Sink.faults c.run_words.new.sink) c.run_words.result c.run_words.ensures

pub returns-clause-too_long : goal.returns-clause-too_long
returns-clause-too_long g c = too_long_answer (g.F.Shelf.files c.args.shelf.now) (g.F.Shelf.faults c.args.shelf.now) (g.F.Shelf.faults c.run_words.new.shelf) (bytes_of c.args.words.now) (g.S.Sink.written c.args.sink.now) (g.S.Sink.written c.run_words.new.sink) (g.S.Sink.faults c.args.sink.now) (g.S.Sink.faults c.run_words.new.sink) c.run_words.result c.run_words.ensures

pub returns-clause-image : goal.returns-clause-image
returns-clause-image g c = image (g.F.Shelf.files c.args.shelf.now) (g.F.Shelf.faults c.args.shelf.now) (g.F.Shelf.faults c.run_words.new.shelf) (bytes_of c.args.words.now) (g.S.Sink.written c.args.sink.now) (g.S.Sink.written c.run_words.new.sink) (g.S.Sink.faults c.args.sink.now) (g.S.Sink.faults c.run_words.new.sink) c.run_words.result c.run_words.ensures

pub returns-clause-source : goal.returns-clause-source
returns-clause-source g c = source (g.F.Shelf.files c.args.shelf.now) (g.F.Shelf.faults c.args.shelf.now) (g.F.Shelf.faults c.run_words.new.shelf) (bytes_of c.args.words.now) (g.S.Sink.written c.args.sink.now) (g.S.Sink.written c.run_words.new.sink) (g.S.Sink.faults c.args.sink.now) (g.S.Sink.faults c.run_words.new.sink) c.run_words.result c.run_words.ensures

pub returns-clause-extension : goal.returns-clause-extension
returns-clause-extension g c = extension (g.F.Shelf.files c.args.shelf.now) (g.F.Shelf.faults c.args.shelf.now) (g.F.Shelf.faults c.run_words.new.shelf) (bytes_of c.args.words.now) (g.S.Sink.written c.args.sink.now) (g.S.Sink.written c.run_words.new.sink) (g.S.Sink.faults c.args.sink.now) (g.S.Sink.faults c.run_words.new.sink) c.run_words.result c.run_words.ensures

pub returns-clause-certificate : goal.returns-clause-certificate
returns-clause-certificate g c = certificate (g.F.Shelf.files c.args.shelf.now) (g.F.Shelf.faults c.args.shelf.now) (g.F.Shelf.faults c.run_words.new.shelf) (bytes_of c.args.words.now) (g.S.Sink.written c.args.sink.now) (g.S.Sink.written c.run_words.new.sink) (g.S.Sink.faults c.args.sink.now) (g.S.Sink.faults c.run_words.new.sink) c.run_words.result c.run_words.ensures

pub returns-clause-sheet : goal.returns-clause-sheet
returns-clause-sheet g c = sheet (g.F.Shelf.files c.args.shelf.now) (g.F.Shelf.faults c.args.shelf.now) (g.F.Shelf.faults c.run_words.new.shelf) (bytes_of c.args.words.now) (g.S.Sink.written c.args.sink.now) (g.S.Sink.written c.run_words.new.sink) (g.S.Sink.faults c.args.sink.now) (g.S.Sink.faults c.run_words.new.sink) c.run_words.result c.run_words.ensures

pub returns-clause-trace : goal.returns-clause-trace
returns-clause-trace g c = trace (g.F.Shelf.files c.args.shelf.now) (g.F.Shelf.faults c.args.shelf.now) (g.F.Shelf.faults c.run_words.new.shelf) (bytes_of c.args.words.now) (g.S.Sink.written c.args.sink.now) (g.S.Sink.written c.run_words.new.sink) (g.S.Sink.faults c.args.sink.now) (g.S.Sink.faults c.run_words.new.sink) c.run_words.result c.run_words.ensures

pub returns-clause-tight : goal.returns-clause-tight
returns-clause-tight g c = tight (g.F.Shelf.files c.args.shelf.now) (g.F.Shelf.faults c.args.shelf.now) (g.F.Shelf.faults c.run_words.new.shelf) (bytes_of c.args.words.now) (g.S.Sink.written c.args.sink.now) (g.S.Sink.written c.run_words.new.sink) (g.S.Sink.faults c.args.sink.now) (g.S.Sink.faults c.run_words.new.sink) c.run_words.result c.run_words.ensures

pub returns-clause-waits : goal.returns-clause-waits
returns-clause-waits g c = waits (g.F.Shelf.files c.args.shelf.now) (g.F.Shelf.faults c.args.shelf.now) (g.F.Shelf.faults c.run_words.new.shelf) (bytes_of c.args.words.now) (g.S.Sink.written c.args.sink.now) (g.S.Sink.written c.run_words.new.sink) (g.S.Sink.faults c.args.sink.now) (g.S.Sink.faults c.run_words.new.sink) c.run_words.result c.run_words.ensures

pub returns-clause-lines : goal.returns-clause-lines
returns-clause-lines g c = lines (g.F.Shelf.files c.args.shelf.now) (g.F.Shelf.faults c.args.shelf.now) (g.F.Shelf.faults c.run_words.new.shelf) (bytes_of c.args.words.now) (g.S.Sink.written c.args.sink.now) (g.S.Sink.written c.run_words.new.sink) (g.S.Sink.faults c.args.sink.now) (g.S.Sink.faults c.run_words.new.sink) c.run_words.result c.run_words.ensures

pub returns-clause-no_schedule : goal.returns-clause-no_schedule
returns-clause-no_schedule g c = no_schedule (g.F.Shelf.files c.args.shelf.now) (g.F.Shelf.faults c.args.shelf.now) (g.F.Shelf.faults c.run_words.new.shelf) (bytes_of c.args.words.now) (g.S.Sink.written c.args.sink.now) (g.S.Sink.written c.run_words.new.sink) (g.S.Sink.faults c.args.sink.now) (g.S.Sink.faults c.run_words.new.sink) c.run_words.result c.run_words.ensures

pub returns-clause-memory : goal.returns-clause-memory
returns-clause-memory g c = memory_alone (g.F.Shelf.files c.args.shelf.now) (g.F.Shelf.faults c.args.shelf.now) (g.F.Shelf.faults c.run_words.new.shelf) (bytes_of c.args.words.now) (g.S.Sink.written c.args.sink.now) (g.S.Sink.written c.run_words.new.sink) (g.S.Sink.faults c.args.sink.now) (g.S.Sink.faults c.run_words.new.sink) c.run_words.result c.run_words.ensures

pub returns-clause-due : goal.returns-clause-due
returns-clause-due g c = due_status (g.F.Shelf.files c.args.shelf.now) (g.F.Shelf.faults c.args.shelf.now) (g.F.Shelf.faults c.run_words.new.shelf) (bytes_of c.args.words.now) (g.S.Sink.written c.args.sink.now) (g.S.Sink.written c.run_words.new.sink) (g.S.Sink.faults c.args.sink.now) (g.S.Sink.faults c.run_words.new.sink) c.run_words.result c.run_words.ensures c.answer_laws.ensures.one c.chosen_law.ensures.one

pub returns-clause-no_command : goal.returns-clause-no_command
returns-clause-no_command g c = no_command (g.F.Shelf.files c.args.shelf.now) (g.F.Shelf.faults c.args.shelf.now) (g.F.Shelf.faults c.run_words.new.shelf) (bytes_of c.args.words.now) (g.S.Sink.written c.args.sink.now) (g.S.Sink.written c.run_words.new.sink) (g.S.Sink.faults c.args.sink.now) (g.S.Sink.faults c.run_words.new.sink) c.run_words.result c.run_words.ensures

pub returns-clause-complete : goal.returns-clause-complete
returns-clause-complete g c = complete (g.F.Shelf.files c.args.shelf.now) (g.F.Shelf.faults c.args.shelf.now) (g.F.Shelf.faults c.run_words.new.shelf) (bytes_of c.args.words.now) (g.S.Sink.written c.args.sink.now) (g.S.Sink.written c.run_words.new.sink) (g.S.Sink.faults c.args.sink.now) (g.S.Sink.faults c.run_words.new.sink) c.run_words.result c.run_words.ensures
