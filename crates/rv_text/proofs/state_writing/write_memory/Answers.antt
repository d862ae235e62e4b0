use Rattle.std.proofs.Common.{◌≡◌, ap, ◌+◌, ◌-◌, ◌<◌, ◌++◌, ℕ, List, [], arith}
use Rattle.rv_text.specs.RunText.{memory_lines}
use Rattle.rv_text.proofs.Parts.{carries_none, carries_put, put_word, no_word, before_rest}
use Rattle.rv_text.proofs.state_writing.write_memory.Goals as goal

pub loop-word-init : goal.loop-word-init
loop-word-init g c = record {
  carries = λ rest. carries_none (g.S.Sink.written c.args.sink.now) c.args.out.now (memory_lines c.args.memory.now 262144 0 ++ rest);
  never_fell = omega arith;
}

pub returns-in-Err-clause-breaks : goal.returns-in-Err-clause-breaks
returns-in-Err-clause-breaks g c = λ rest before whole t.
    c.in-Err.ensures.breaks (memory_lines c.args.memory.now (262144 - c.loop-word.word) c.loop-word.word ++ rest) before whole (c.loop-word.invariant.carries rest before whole t)

pub loop-word-preserved : goal.loop-word-preserved
loop-word-preserved g c =
    let k = c.loop-word.word in
    let m = c.args.memory.now in
    let less : k < 262144 = omega arith in
    let here = memory_lines m (262144 - k) k in
    let next = memory_lines m (262144 - (k + 1)) (k + 1) in
    record {
      carries = λ rest before whole t.
          carries_put (g.S.Sink.written c.make_room.new.sink) c.make_room.new.out (here ++ rest) c.put_memory_word.new.out (next ++ rest)
          (before_rest c.make_room.new.out here c.put_memory_word.new.out next rest (put_word m c.make_room.new.out c.put_memory_word.new.out 262144 k less c.put_memory_word.ensures.text))
          before whole (c.in-Ok.ensures.carries (here ++ rest) before whole (c.loop-word.invariant.carries rest before whole t));
      never_fell = omega (arith, c.loop-word.invariant.never_fell, c.in-Ok.ensures.never_fell);
    }

pub returns-clause-carries : goal.returns-clause-carries
returns-clause-carries g c =
    let k = c.loop-word.word in
    let m = c.args.memory.now in
    let e : 262144 - k ≡ 0 = omega arith in
    λ rest before whole t.
    carries_put (g.S.Sink.written c.loop-word.sink) c.loop-word.out (memory_lines m (262144 - k) k ++ rest) c.loop-word.out rest
    (ap (λ (l : List ℕ). c.loop-word.out ++ (l ++ rest)) (no_word m (262144 - k) k e))
    before whole (c.loop-word.invariant.carries rest before whole t)
