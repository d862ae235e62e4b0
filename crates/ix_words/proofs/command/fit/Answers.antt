use Rattle.std.proofs.Common.{◌∙◌, sym, arith}
use Rattle.ix_words.specs.declared.command.Slot.TheVariants.{Number}
use Rattle.ix_words.specs.CommandLine.{fits_slots, bytes_of}
use Rattle.ix_words.proofs.Words.{fit_false, fit_true, fit_short, fit_end, word_at}
use Rattle.ix_words.proofs.command.fit.Goals as goal

pub returns-then-at-words : goal.returns-then-at-words
returns-then-at-words c = sym (c.loop-at.invariant.rest ∙ fit_short c.args.slots.now c.args.words.now c.loop-at.at c.loop-at-test.true c.if-at-words.true)

pub returns-then-not-fits : goal.returns-then-not-fits
returns-then-not-fits c =
    fit_false c.args.slots.now c.args.words.now c.loop-at.at (Number 0) c.index-words-at.result c.as_str.result.now c.fits.result (fits_slots c.args.slots.now (bytes_of c.args.words.now)) c.loop-at-test.true c.if-at-words.false
    (word_at c.args.words.now c.loop-at.at c.index-words-at.result c.as_str.result.now c.as_str.ensures.value c.index-words-at.is) c.fits.ensures c.if-not-fits.true c.loop-at.invariant.rest

pub loop-at-preserved : goal.loop-at-preserved
loop-at-preserved c =
    let within = c.if-at-words.false in
    record {
      rest = fit_true c.args.slots.now c.args.words.now c.loop-at.at (Number 0) c.index-words-at.result c.as_str.result.now c.fits.result (fits_slots c.args.slots.now (bytes_of c.args.words.now)) c.loop-at-test.true c.if-at-words.false
          (word_at c.args.words.now c.loop-at.at c.index-words-at.result c.as_str.result.now c.as_str.ensures.value c.index-words-at.is) c.fits.ensures c.if-not-fits.false c.loop-at.invariant.rest;
      within = omega (arith, within);
    }

pub returns : goal.returns
returns c = sym (c.loop-at.invariant.rest ∙ fit_end c.args.slots.now c.args.words.now c.loop-at.at c.loop-at.invariant.within c.loop-at.auto.at-end c.loop-at-test.false)
