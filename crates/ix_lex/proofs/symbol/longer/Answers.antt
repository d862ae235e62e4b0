use Rattle.ix_lex.proofs.Symbols.{longer_found, longer_kept, longer_missing}
use Rattle.ix_lex.proofs.symbol.longer.Goals as goal
use Rattle.ix_lex.proofs.symbol.longer.Goals.{else-best-text-via-then-best-text+else-begins, else-best-text-via-else-best-text}

pub returns-then-begins : goal.returns-then-begins
returns-then-begins c =
    longer_found c.args.bytes.now c.args.n c.args.best.number c.args.best.length c.symbol_bytes-text.result.now c.requires.best c.symbol_bytes-text.ensures c.if-best-text.true (c.begins.ensures.0 c.if-begins.true)

pub returns : goal.returns
returns c = elim c.else-best-text.branch [
  | else-best-text-via-then-best-text+else-begins w ↦ longer_missing c.args.bytes.now c.args.n c.args.best.number c.args.best.length c.symbol_bytes-text.result.now c.requires.best c.symbol_bytes-text.ensures w.begins.result w.if-begins.false w.begins.ensures.1
  | else-best-text-via-else-best-text w ↦ longer_kept c.args.bytes.now c.args.n c.args.best.number c.args.best.length c.symbol_bytes-text.result.now c.requires.best c.symbol_bytes-text.ensures w.if-best-text.false
]
