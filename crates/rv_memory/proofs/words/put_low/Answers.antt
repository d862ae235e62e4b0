use Rattle.std.proofs.Common.{◌∙◌, length, sym}
use Rattle.std.proofs.lemmas.List.{length-set}
use Rattle.rv_memory.proofs.LowBytes.{one_more, less_by}
use Rattle.rv_memory.proofs.words.put_low.Goals as goal

pub loop-place-preserved : goal.loop-place-preserved
loop-place-preserved c = record {
  done = one_more c.loop-place.bytes c.loop-place.place (length c.args.bytes.now) c.loop-place.rest (less_by c.loop-place.auto.bytes c.loop-place-test.true) (sym c.loop-place.auto.bytes) ∙ c.loop-place.invariant.done;
  long = length-set c.loop-place.bytes c.loop-place.place _ ∙ c.loop-place.auto.bytes;
}
