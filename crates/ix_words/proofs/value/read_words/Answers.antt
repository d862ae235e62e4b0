use Rattle.std.proofs.Common.{◌≡◌, ◌++◌, ◌∷◌, [], ◌∙◌, sym, subst, arith, ap, map, get_or, Err, Ok}
use Rattle.std.specs.Prelude.{string_bytes}
use Rattle.std.proofs.lemmas.Grind.{common_steps}
use Rattle.std.proofs.lemmas.List.{map-append}
use Rattle.ix_words.specs.declared.command.Slot.TheVariants.{Number}
use Rattle.ix_words.specs.CommandLine.{bytes_of}
use Rattle.ix_words.specs.WordsRead.{AreRead, RoseIn}
use Rattle.ix_words.specs.Readings.{reading_of}
use Rattle.ix_words.proofs.Words.{word_at}
use Rattle.ix_words.proofs.Reading.{fit_within, fit_next, read_more, read_all_of, refused_by, refused_behind, rose_since, word_of_files}
use Rattle.ix_words.proofs.value.read_words.Goals as goal

pub prove-unreachable-requires : goal.prove-unreachable-requires
prove-unreachable-requires g c =
    let within = fit_within c.args.slots.now c.args.words.now c.loop-at.at c.loop-at-test.true c.loop-at.invariant.fits in
    let none = c.if-prove.true in
    omega (arith, within, none)

pub read_word-requires : goal.read_word-requires
read_word-requires g c =
    (fit_next c.args.slots.now c.args.words.now c.loop-at.at (Number 0) c.index-words-at.result c.as_str.result.now c.loop-at-test.true c.loop-at.invariant.fits
    (word_at c.args.words.now c.loop-at.at c.index-words-at.result c.as_str.result.now c.as_str.ensures.value c.index-words-at.is)).0

pub returns-in-Err-clause-refused : goal.returns-in-Err-clause-refused
returns-in-Err-clause-refused g c =
    refused_by (g.F.Shelf.files c.args.shelf.now) (RoseIn (g.F.Shelf.faults c.loop-at.shelf) (g.F.Shelf.faults c.read_word.new.shelf)) (RoseIn (g.F.Shelf.faults c.args.shelf.now) (g.F.Shelf.faults c.read_word.new.shelf))
    c.args.slots.now c.args.words.now c.loop-at.at (Number 0) c.index-words-at.result c.in-Err.refusal c.loop-at-test.true (fit_within c.args.slots.now c.args.words.now c.loop-at.at c.loop-at-test.true c.loop-at.invariant.fits)
    (rose_since (g.F.Shelf.faults c.args.shelf.now) (g.F.Shelf.faults c.loop-at.shelf) (g.F.Shelf.faults c.read_word.new.shelf) c.loop-at.invariant.none_fell)
    (word_of_files (g.F.Shelf.files c.loop-at.shelf) (g.F.Shelf.files c.args.shelf.now) (RoseIn (g.F.Shelf.faults c.loop-at.shelf) (g.F.Shelf.faults c.read_word.new.shelf)) (get_or c.args.slots.now c.loop-at.at (Number 0)) c.as_str.result.now (string_bytes (get_or c.args.words.now c.loop-at.at c.index-words-at.result)) (Err c.in-Err.refusal) c.loop-at.invariant.kept
    (word_at c.args.words.now c.loop-at.at c.index-words-at.result c.as_str.result.now c.as_str.ensures.value c.index-words-at.is) c.in-Err.ensures.read)
    (c.loop-at.invariant.refused (g.F.Shelf.faults c.read_word.new.shelf))

pub loop-at-preserved : goal.loop-at-preserved
loop-at-preserved g c =
    let pushed : c.push.new.self.items ≡ c.loop-at.values.items ++ c.in-Ok.value ∷ [] = grind (arith, common_steps) in
    let grown : map reading_of c.push.new.self.items ≡ map reading_of c.loop-at.values.items ++ reading_of c.in-Ok.value ∷ []
    = ap (λ l. map reading_of l) pushed ∙ map-append reading_of c.loop-at.values.items (c.in-Ok.value ∷ []) in
    let word = word_at c.args.words.now c.loop-at.at c.index-words-at.result c.as_str.result.now c.as_str.ensures.value c.index-words-at.is in
    let within = fit_within c.args.slots.now c.args.words.now c.loop-at.at c.loop-at-test.true c.loop-at.invariant.fits in
    let read = word_of_files (g.F.Shelf.files c.loop-at.shelf) (g.F.Shelf.files c.args.shelf.now) (RoseIn (g.F.Shelf.faults c.loop-at.shelf) (g.F.Shelf.faults c.read_word.new.shelf)) (get_or c.args.slots.now c.loop-at.at (Number 0)) c.as_str.result.now (string_bytes (get_or c.args.words.now c.loop-at.at c.index-words-at.result)) (Ok c.in-Ok.value) c.loop-at.invariant.kept word c.in-Ok.ensures.read in
    record {
      fits = (fit_next c.args.slots.now c.args.words.now c.loop-at.at (Number 0) c.index-words-at.result c.as_str.result.now c.loop-at-test.true c.loop-at.invariant.fits word).1;
      kept = c.read_word.ensures.kept ∙ c.loop-at.invariant.kept;
      none_fell = λ name. omega (arith, c.read_word.ensures.none_fell name, c.loop-at.invariant.none_fell name);
      read = λ vs rest. subst (λ l. AreRead (g.F.Shelf.files c.args.shelf.now) c.args.slots.now (bytes_of c.args.words.now) (l ++ vs)) (sym grown)
          (read_more (g.F.Shelf.files c.args.shelf.now) c.args.slots.now c.args.words.now c.loop-at.at (Number 0) c.index-words-at.result (reading_of c.in-Ok.value) (map reading_of c.loop-at.values.items) c.loop-at-test.true within read c.loop-at.invariant.read vs rest);
      refused = λ counts status line rest. c.loop-at.invariant.refused counts status line
          (refused_behind (g.F.Shelf.files c.args.shelf.now) (RoseIn (g.F.Shelf.faults c.args.shelf.now) counts) c.args.slots.now c.args.words.now c.loop-at.at (Number 0) c.index-words-at.result (reading_of c.in-Ok.value) c.loop-at-test.true within read status line rest);
    }

pub returns-clause-read : goal.returns-clause-read
returns-clause-read g c = read_all_of (g.F.Shelf.files c.args.shelf.now) c.args.slots.now c.args.words.now c.loop-at.at (map reading_of c.loop-at.values.items) c.loop-at-test.false c.loop-at.invariant.fits c.loop-at.invariant.read
