use Rattle.std.proofs.Common.{List, ◌+◌, ◌≡◌, sym, subst}
use Rattle.ix_tree.specs.declared.token.Token.{Token}
use Rattle.ix_tree.specs.Lexing.{form_of}
use Rattle.ix_lex.specs.Refusals.{NoPart, refusal_of}
use Rattle.ix_lex.specs.Fronts.{IsFront}
use Rattle.ix_lex.proofs.Scans.{at_rest}
use Rattle.ix_lex.proofs.Readings.{Reached, reached_none, reached_more, refused, refusal_excludes, unless_then}
use Rattle.ix_lex.proofs.reader.lex.Goals as goal

pub loop-at-init : goal.loop-at-init
loop-at-init c = subst (λ (z : List Token). Reached c.args.bytes.now 0 z) (sym c.new-tokens.ensures) (reached_none c.args.bytes.now)

pub returns-in-Err-clause-refusal : goal.returns-in-Err-clause-refusal
returns-in-Err-clause-refusal c =
    unless_then c.in-Err.error c.in-Err.ensures.err
    (λ p. refused c.args.bytes.now c.loop-at.at c.loop-at.tokens c.in-Err.error c.loop-at-test.true c.loop-at.invariant
    (at_rest (λ z. c.in-Err.error ≡ refusal_of c.loop-at.at (form_of z)) c.loop-at.at c.args.bytes.now p.0)
    (at_rest (λ z. NoPart z) c.loop-at.at c.args.bytes.now p.1))

pub returns-in-Err-clause-excludes : goal.returns-in-Err-clause-excludes
returns-in-Err-clause-excludes c =
    unless_then c.in-Err.error c.in-Err.ensures.err
    (λ p. refusal_excludes c.args.bytes.now c.in-Err.error
    (refused c.args.bytes.now c.loop-at.at c.loop-at.tokens c.in-Err.error c.loop-at-test.true c.loop-at.invariant
    (at_rest (λ z. c.in-Err.error ≡ refusal_of c.loop-at.at (form_of z)) c.loop-at.at c.args.bytes.now p.0)
    (at_rest (λ z. NoPart z) c.loop-at.at c.args.bytes.now p.1)))

pub loop-at-preserved : goal.loop-at-preserved
loop-at-preserved c =
    let p = c.in-Ok.ensures.ok in
    let r =
    reached_more c.args.bytes.now c.loop-at.at c.in-Ok.front.length c.loop-at.tokens c.in-Ok.front.kind p.0 c.loop-at.invariant
    (at_rest (λ z. IsFront p.0 z c.in-Ok.front.length c.in-Ok.front.kind) c.loop-at.at c.args.bytes.now p.1) in
    subst (λ (z : List Token). Reached c.args.bytes.now (c.loop-at.at + c.in-Ok.front.length) z) (sym c.in-Ok-keep.ensures) r
