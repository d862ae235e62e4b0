use Rattle.std.proofs.Common.{◌≡◌, ℕ, ◌+◌, ◌-◌, ◌<◌, ◌≤◌, List, length, take, drop, ap, sym, ◌∙◌, subst, arith, Option, None}
use Rattle.std.specs.Option.{is_some}
use Rattle.std.proofs.lemmas.Bool.{true≢false}
use Rattle.std.proofs.lemmas.List.{length-drop}
use Rattle.ix_verilog.specs.declared.source.Source.{Source}
use Rattle.ix_verilog.specs.declared.token.Token.{Token}
use Rattle.ix_verilog.specs.Words.{Word, words_of}
use Rattle.ix_vform.specs.declared.found.Found.TheVariants.{Part}
use Rattle.ix_vform.specs.Found.{IsFound}
use Rattle.ix_vline.specs.declared.kind.Kind.{Kind}
use Rattle.ix_vline.specs.Slots.{slots}
use Rattle.ix_vline.specs.Reached.{Fits, Reaches}
use Rattle.ix_vparse.specs.Answers.{Leaves}
use Rattle.ix_vparse.specs.Taken.{Steps}
use Rattle.ix_vparse.proofs.Taking.{count_words, rest_words, first_words}
use Rattle.ix_vparse.proofs.Reading.{Led, led_more, whole_fits, whole_within, leaves_part, leaves_open}
use Rattle.ix_vparse.proofs.modules.modules_in.Goals as goal

-- the first words behind a place
front : (ts : List Token) (at n : ℕ) → words_of (take n (take (length ts - at) (drop at ts))) ≡ take n (drop at (words_of ts))
front ts at n = first_words (take (length ts - at) (drop at ts)) n ∙ ap (take n) (rest_words ts at)

-- a line goes no further than the words
ends_within : (ts : List Token) (at n : ℕ) (o : Option Source) (k : Kind) → at ≤ length ts → Reaches o (slots k) (words_of (take (length ts - at) (drop at ts))) n → at + n ≤ length ts
ends_within ts at n o k l h =
    let m : n ≤ length (drop at (words_of ts)) = whole_within o k (drop at (words_of ts)) n (subst (λ z. Reaches o (slots k) z n) (rest_words ts at) h) in
    let d = length-drop at (words_of ts) in
    let c = count_words ts in
    omega (arith, m, d, c, l)

pub loop-at-preserved : goal.loop-at-preserved
loop-at-preserved c =
    let ts = c.args.tokens.now in
    let at = c.loop-at.at in
    let n = c.in-Line.words in
    let w = count_words ts in
    let l : at ≤ length (words_of ts) = omega (arith, w, c.loop-at.invariant.within) in
    let s = subst (λ (z : List Word). Steps c.loop-at.scope c.loop-at.modules z c.take_line.new.scope c.take_line.new.modules) (front ts at n) c.in-Ok.ensures in
    record {
      within = ends_within ts at n c.loop-at.scope c.in-Line.kind c.loop-at.invariant.within c.in-Line.ensures.1;
      led = led_more (words_of ts) at n c.loop-at.modules c.take_line.new.modules c.loop-at.scope c.take_line.new.scope l c.loop-at.invariant.led s;
    }

pub take_line-requires : goal.take_line-requires
take_line-requires c =
    let ts = c.args.tokens.now in
    let at = c.loop-at.at in
    let n = c.in-Line.words in
    let h = whole_fits c.loop-at.scope c.in-Line.kind (drop at (words_of ts)) n c.in-Line.ensures.0 (subst (λ z. Reaches c.loop-at.scope (slots c.in-Line.kind) z n) (rest_words ts at) c.in-Line.ensures.1) in
    subst (λ (z : List Word). Fits c.loop-at.scope (slots c.in-Line.kind) z) (sym (front ts at n)) h

pub returns-in-Part-clause-refused : goal.returns-in-Part-clause-refused
returns-in-Part-clause-refused c =
    let ts = c.args.tokens.now in
    let at = c.loop-at.at in
    let w = count_words ts in
    let l : at < length (words_of ts) = omega (arith, w, c.loop-at-test.true) in
    leaves_part (words_of ts) at c.in-Part.words c.loop-at.modules c.loop-at.scope l c.loop-at.invariant.led (subst (λ (z : List Word). IsFound c.loop-at.scope z (Part c.in-Part.words)) (rest_words ts at) c.in-Part.ensures)

pub returns-then-is_open-clause-refused : goal.returns-then-is_open-clause-refused
returns-then-is_open-clause-refused c =
    let ts = c.args.tokens.now in
    let w = count_words ts in
    let e : c.loop-at.at ≡ length (words_of ts) = omega (arith, w, c.loop-at-test.false, c.loop-at.invariant.within) in
    let n = λ (z : c.loop-at.scope ≡ None). true≢false (sym c.if-is_open.true ∙ c.is_open.ensures ∙ ap is_some z) in
    let d = subst (λ (k : ℕ). Led (words_of ts) k c.loop-at.modules c.loop-at.scope) e c.loop-at.invariant.led in
    subst (λ (k : ℕ). Leaves (words_of ts) k) w (leaves_open (words_of ts) c.loop-at.modules c.loop-at.scope n d)
