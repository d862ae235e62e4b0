use Rattle.std.proofs.Common.{◌≡◌, ◌++◌, [], ◌<◌, length, take, drop, sym, subst, ◌∙◌, arith}
use Rattle.std.proofs.lemmas.List.{get_or_default, take_at}
use Rattle.ix_vread.specs.Graphs.{AreReaders}
use Rattle.ix_vread.proofs.Putting.{readers_more, readers_all}
use Rattle.ix_vread.proofs.readers.readers_of.Goals as goal

pub readers-preserved : goal.readers-preserved
readers-preserved c =
    let l : c.readers.reader < length c.args.graph.now = omega (arith, c.readers-test.true) in
    readers_more c.args.graph.now c.readers.reader c.readers.lists c.put_readers.new.readers c.as_slice.result.now l
    (c.as_slice.ensures ∙ c.index-graph-reader.is ∙ get_or_default c.args.graph.now c.readers.reader c.index-graph-reader.result [] l) c.readers.invariant c.in_ok-put_readers.ensures

pub returns : goal.returns
returns c =
    let lists = c.readers.lists in
    let items = c.in_ok-readers.readers.items in
    let full : length lists ≡ c.in_ok-readers.readers.len = omega (arith, c.readers.invariant.size, c.in_ok-readers.ensures.size, c.in_ok-readers.readers.ok.0) in
    let e : take c.in_ok-readers.readers.len (lists ++ drop (length lists) items) ≡ lists = take_at lists (drop (length lists) items) c.in_ok-readers.readers.len full in
    subst (AreReaders c.args.graph.now) (sym e) (readers_all c.args.graph.now lists c.readers.reader (omega (arith, c.readers-test.false)) c.readers.invariant)
