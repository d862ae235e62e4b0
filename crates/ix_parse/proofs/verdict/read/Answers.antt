use Rattle.std.proofs.Common.{ℕ, suc, ◌≡◌, ◌+◌, Result, Err, ap, sym, ◌∙◌, subst, arith}
use Rattle.ix_tree.specs.View.{view_tree}
use Rattle.ix_tree.specs.Machine.{State, step}
use Rattle.ix_parse_state.specs.declared.stop.Stop.{Stop}
use Rattle.ix_parse_state.specs.declared.state.Reader.{Reader}
use Rattle.ix_parse_state.specs.Views.{reader_of}
use Rattle.ix_parse_state.specs.Moves.{Moves}
use Rattle.ix_parse.proofs.Runs.{Read, begins, reads, refused_here, deep_here, ends_early, ends_well}
use Rattle.ix_parse.proofs.verdict.read.Goals as goal

pub loop-at-init : goal.loop-at-init
loop-at-init c = subst (λ (z : State). Read c.args.tokens.now 0 z) (sym c.in_text-reader.ensures) (begins c.args.tokens.now)

pub loop-at-preserved : goal.loop-at-preserved
loop-at-preserved c =
    let t = c.index-tokens-at.result in
    let y = reader_of c.loop-at.reader in
    let n = c.loop-at.at in
    let g = subst (λ (r : Result Reader Stop). Moves r (step y t)) c.in-Ok.is c.step.ensures in
    subst (λ (k : ℕ). Read c.args.tokens.now k (reader_of c.in-Ok.next)) (let e : suc n ≡ n + 1 = omega arith in e)
    (reads c.args.tokens.now n y (reader_of c.in-Ok.next) t c.loop-at.invariant c.loop-at-test.true c.index-tokens-at.is g)

pub returns-in-Err-Refused-clause-place : goal.returns-in-Err-Refused-clause-place
returns-in-Err-Refused-clause-place c =
    let t = c.index-tokens-at.result in
    let y = reader_of c.loop-at.reader in
    refused_here c.args.tokens.now c.loop-at.at y t c.loop-at.invariant c.loop-at-test.true c.index-tokens-at.is
    (subst (λ (r : Result Reader Stop). Moves r (step y t)) (c.in-Err-Refused.is ∙ ap (λ (e : Stop). Err e) c.in-Err-Refused.field-0-is) c.step.ensures)

pub returns-in-Err-Deep-clause-place : goal.returns-in-Err-Deep-clause-place
returns-in-Err-Deep-clause-place c =
    let t = c.index-tokens-at.result in
    let y = reader_of c.loop-at.reader in
    deep_here c.args.tokens.now c.loop-at.at y t c.loop-at.invariant c.loop-at-test.true c.index-tokens-at.is
    (subst (λ (r : Result Reader Stop). Moves r (step y t)) (c.in-Err-Deep.is ∙ ap (λ (e : Stop). Err e) c.in-Err-Deep.field-0-is) c.step.ensures)

pub returns-in-Some-clause-found : goal.returns-in-Some-clause-found
returns-in-Some-clause-found c =
    ends_well c.args.tokens.now c.loop-at.at (reader_of c.loop-at.reader) (view_tree c.in-Some.tree) c.loop-at.invariant c.loop-at-test.false c.in-Some.ensures.some

pub returns-in-None-clause-place : goal.returns-in-None-clause-place
returns-in-None-clause-place c =
    ends_early c.args.tokens.now c.loop-at.at (reader_of c.loop-at.reader) c.loop-at.invariant c.loop-at-test.false c.in-None.ensures.none
