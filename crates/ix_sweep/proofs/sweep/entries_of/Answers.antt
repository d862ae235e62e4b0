use Rattle.std.proofs.Common.{◌*◌, [], ◌∷◌, arith}
use Rattle.ix_sweep.specs.Periods.{HasOneMore}
use Rattle.ix_sweep.proofs.Entries.{entries_none}
use Rattle.ix_sweep.proofs.Widest.{widest_later}
use Rattle.ix_sweep.proofs.sweep.entries_of.Goals as goal

pub push_entry-requires-2-clause-fits : goal.push_entry-requires-2-clause-fits
push_entry-requires-2-clause-fits c = widest_later c.args.graph.now c.args.sheet.now c.args.block c.args.least (2 * c.args.least) (omega arith) c.requires.fits

pub push_entry-requires-3-clause-fits : goal.push_entry-requires-3-clause-fits
push_entry-requires-3-clause-fits c = widest_later c.args.graph.now c.args.sheet.now c.args.block c.args.least (4 * c.args.least) (omega arith) c.requires.fits

pub returns : goal.returns
returns c =
    let g = c.args.graph.now in
    let sheet = c.args.sheet.now in
    let block = c.args.block in
    let least = c.args.least in
    let first : HasOneMore g sheet block least [] c.push_entry.new.entries = rw c.new-entries.ensures at c.in_ok-push_entry.ensures in
    c.in_ok-push_entry-3.ensures (least ∷ 2 * least ∷ []) (c.in_ok-push_entry-2.ensures (least ∷ []) (first [] (entries_none g sheet block)))
