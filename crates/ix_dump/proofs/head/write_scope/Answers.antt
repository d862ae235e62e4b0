use Rattle.std.proofs.Common.{◌∙◌, ap, ◌++◌}
use Rattle.ix_dump.specs.Dump.{scope_line}
use Rattle.ix_dump.proofs.Passing.{passes_behind}
use Rattle.ix_dump.proofs.head.write_scope.Goals as goal

pub returns-clause-whole : goal.returns-clause-whole
returns-clause-whole g c =
    let waits = c.make_room.new.out in
    passes_behind (g.S.Sink.written c.args.sink.now) (g.S.Sink.written c.make_room.new.sink) c.args.out.now waits c.put_scope_line.new.out (scope_line c.args.name.now)
    c.in_ok-make_room.ensures.whole (c.put_scope_line.ensures ∙ ap (λ n. waits ++ scope_line n) c.as_str.ensures.text)
