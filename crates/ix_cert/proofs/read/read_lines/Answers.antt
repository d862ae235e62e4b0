use Rattle.std.proofs.Common.{length, arith, refl, Bor, List, ℕ, []}
use Rattle.ix_cert.proofs.Outcomes.{reached_next, bad_next, bad_end, good_end, place_fits_in}
use Rattle.ix_lines.proofs.Found.{at_none, at_some}
use Rattle.ix_cert.proofs.read.read_lines.Goals as goal

abbrev none_line : Bor (List ℕ)
none_line = record { ref_ptr = (0, 0); now = [] }

pub overflow_cast-result : goal.overflow_cast-result
overflow_cast-result c =
    let few = place_fits_in c.args.lines.now c.loop-i.i c.loop-i.i c.loop-i.reading c.loop-i.invariant.reached (omega arith) (omega (arith, c.loop-i-test.true)) c.requires.fits (omega (arith, c.loop-i-test.true)) in
    omega (arith, few)

pub overflow_add-result : goal.overflow_add-result
overflow_add-result c =
    let few = place_fits_in c.args.lines.now c.loop-i.i c.loop-i.i c.loop-i.reading c.loop-i.invariant.reached (omega arith) (omega (arith, c.loop-i-test.true)) c.requires.fits (omega (arith, c.loop-i-test.true)) in
    omega (arith, few, c.requires.first)

pub returns-in-Ok-None-clause-refused : goal.returns-in-Ok-None-clause-refused
returns-in-Ok-None-clause-refused c = bad_next c.args.lines.now c.loop-i.i c.args.first _ none_line c.loop-i.reading refl (omega (arith, c.loop-i-test.true)) c.loop-i.invariant.reached (at_none _ _ c.in-Ok-None.field-0 c.in-Ok-None.field-0-is c.in-Ok-None.ensures)

pub loop-i-preserved : goal.loop-i-preserved
loop-i-preserved c = record {
  reached = reached_next c.args.lines.now c.loop-i.i none_line c.loop-i.reading c.in-Ok-Some.more (omega (arith, c.loop-i-test.true)) c.loop-i.invariant.reached (at_some _ _ c.in-Ok-Some.field-0 c.in-Ok-Some.more c.in-Ok-Some.field-0-is c.in-Ok-Some.ensures);
}

pub overflow_cast-result-in-None : goal.overflow_cast-result-in-None
overflow_cast-result-in-None c =
    let few = place_fits_in c.args.lines.now c.loop-i.i (length c.args.lines.now) c.loop-i.reading c.loop-i.invariant.reached (omega (arith, c.loop-i-test.false)) (omega arith) c.requires.fits (omega (arith, c.loop-i.auto.i-end)) in
    omega (arith, few)

pub overflow_add-result-in-None : goal.overflow_add-result-in-None
overflow_add-result-in-None c =
    let few = place_fits_in c.args.lines.now c.loop-i.i (length c.args.lines.now) c.loop-i.reading c.loop-i.invariant.reached (omega (arith, c.loop-i-test.false)) (omega arith) c.requires.fits (omega (arith, c.loop-i.auto.i-end)) in
    omega (arith, few, c.requires.first)

pub returns-in-Some-clause-form : goal.returns-in-Some-clause-form
returns-in-Some-clause-form c = (good_end c.args.lines.now c.loop-i.i c.loop-i.reading c.in-Some.report (omega (arith, c.loop-i-test.false)) c.loop-i.invariant.reached c.in-Some.ensures.0 c.in-Some.ensures.1).in_form

pub returns-in-Some-clause-read : goal.returns-in-Some-clause-read
returns-in-Some-clause-read c = (good_end c.args.lines.now c.loop-i.i c.loop-i.reading c.in-Some.report (omega (arith, c.loop-i-test.false)) c.loop-i.invariant.reached c.in-Some.ensures.0 c.in-Some.ensures.1).are

pub returns-in-None-clause-refused : goal.returns-in-None-clause-refused
returns-in-None-clause-refused c = bad_end c.args.lines.now c.loop-i.i c.args.first _ c.loop-i.reading refl (omega (arith, c.loop-i-test.false)) c.loop-i.invariant.reached c.in-None.ensures
