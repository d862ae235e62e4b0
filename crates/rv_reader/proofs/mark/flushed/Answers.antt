use Rattle.std.proofs.Common.{◌∙◌, ◌+◌, ◌-◌, ◌<◌, sym, ap, arith, [], ◌∷◌, ◌++◌, Some, None, suc, length, if◌then◌else◌}
use Rattle.std.proofs.Math.ListN.{set}
use Rattle.std.proofs.lemmas.Bool.{lt-ltb, le-ltb}
use Rattle.std.proofs.lemmas.List.{length-set}
use Rattle.rv_trace.specs.RowParts.{given}
use Rattle.rv_reader.specs.Words.{until, from, number_in}
use Rattle.rv_reader.specs.Rows.{flushed_from}
use Rattle.rv_reader.proofs.Readings.{number_sound}
use Rattle.rv_reader.proofs.Looping.{one_less, none_less, flushed_stop, flushed_end, flushed_bad, flushed_some, next_number, given_set, empty_next}
use Rattle.rv_reader.proofs.mark.flushed.Goals as goal

pub returns-in_default : goal.returns-in_default
returns-in_default c = c.loop-k.invariant.rest ∙ flushed_stop (c.args.stages - c.loop-k.k) c.loop-k.low (given c.loop-k.found) c.loop-k.left.now c.in_default.ensures

pub returns-in_default-serial : goal.returns-in_default-serial
returns-in_default-serial c =
    let less = one_less c.args.stages c.loop-k.k (omega (arith, c.loop-k-test.true, c.loop-k.auto.k-end)) in
    let read = ap (λ w. number_in 4294967295 w) (sym c.split.ensures.before) ∙ sym c.serial.ensures ∙ c.in_default-serial.is in
    c.loop-k.invariant.rest ∙ ap (λ n. flushed_from n c.loop-k.low (given c.loop-k.found) c.loop-k.left.now) less ∙ flushed_bad (c.args.stages - (c.loop-k.k + 1)) c.loop-k.low (given c.loop-k.found) c.loop-k.left.now c.in-Some.rest.now c.in-Some.ensures read

pub returns-then-serial-low : goal.returns-then-serial-low
returns-then-serial-low c =
    let less = one_less c.args.stages c.loop-k.k (omega (arith, c.loop-k-test.true, c.loop-k.auto.k-end)) in
    let read = ap (λ w. number_in 4294967295 w) (sym c.split.ensures.before) ∙ sym c.serial.ensures ∙ c.in-Some-serial.is in
    c.loop-k.invariant.rest
    ∙ ap (λ n. flushed_from n c.loop-k.low (given c.loop-k.found) c.loop-k.left.now) less
    ∙ flushed_some (c.args.stages - (c.loop-k.k + 1)) c.loop-k.low c.in-Some-serial.serial (given c.loop-k.found) c.loop-k.left.now c.in-Some.rest.now c.in-Some.ensures read
    ∙ ap (λ b. if b then None else flushed_from (c.args.stages - (c.loop-k.k + 1)) (suc c.in-Some-serial.serial) (given c.loop-k.found ++ c.in-Some-serial.serial ∷ []) (from 32 c.in-Some.rest.now)) (lt-ltb c.in-Some-serial.serial c.loop-k.low c.if-serial-low.true)

pub loop-k-preserved : goal.loop-k-preserved
loop-k-preserved c =
    let inside : c.loop-k.k < length c.loop-k.found = omega (arith, c.loop-k-test.true, c.loop-k.auto.k-end, c.requires, c.loop-k.invariant.five) in
    let less = one_less c.args.stages c.loop-k.k (omega (arith, c.loop-k-test.true, c.loop-k.auto.k-end)) in
    let read = ap (λ w. number_in 4294967295 w) (sym c.split.ensures.before) ∙ sym c.serial.ensures ∙ c.in-Some-serial.is in
    let more = given_set c.loop-k.found c.loop-k.k (5 - c.loop-k.k) c.in-Some-serial.serial c.loop-k.invariant.empty inside in
    record {
      rest = c.loop-k.invariant.rest
          ∙ ap (λ n. flushed_from n c.loop-k.low (given c.loop-k.found) c.loop-k.left.now) less
          ∙ flushed_some (c.args.stages - (c.loop-k.k + 1)) c.loop-k.low c.in-Some-serial.serial (given c.loop-k.found) c.loop-k.left.now c.in-Some.rest.now c.in-Some.ensures read
          ∙ ap (λ b. if b then None else flushed_from (c.args.stages - (c.loop-k.k + 1)) (suc c.in-Some-serial.serial) (given c.loop-k.found ++ c.in-Some-serial.serial ∷ []) (from 32 c.in-Some.rest.now)) (le-ltb c.in-Some-serial.serial c.loop-k.low (omega (arith, c.if-serial-low.false)))
          ∙ ap (λ n. flushed_from (c.args.stages - (c.loop-k.k + 1)) n (given c.loop-k.found ++ c.in-Some-serial.serial ∷ []) (from 32 c.in-Some.rest.now)) (next_number c.in-Some-serial.serial)
          ∙ ap (λ t. flushed_from (c.args.stages - (c.loop-k.k + 1)) (c.in-Some-serial.serial + 1) t (from 32 c.in-Some.rest.now)) (sym more)
          ∙ ap (λ t. flushed_from (c.args.stages - (c.loop-k.k + 1)) (c.in-Some-serial.serial + 1) (given (set c.loop-k.found c.loop-k.k (Some c.in-Some-serial.serial))) t) (sym c.split.ensures.rest);
      empty = empty_next c.loop-k.found c.loop-k.k (Some c.in-Some-serial.serial) c.loop-k.invariant.empty inside;
      five = length-set c.loop-k.found c.loop-k.k (Some c.in-Some-serial.serial) ∙ c.loop-k.invariant.five;
      low = let s = number_sound 4294967295 (until 32 c.in-Some.rest.now) c.in-Some-serial.serial read in omega (arith, s.0);
    }

pub returns : goal.returns
returns c =
    let none = none_less c.args.stages c.loop-k.k (omega (arith, c.loop-k-test.false, c.loop-k.auto.k-end)) in
    c.loop-k.invariant.rest ∙ ap (λ n. flushed_from n c.loop-k.low (given c.loop-k.found) c.loop-k.left.now) none ∙ flushed_end c.loop-k.low (given c.loop-k.found) c.loop-k.left.now
