use Rattle.std.proofs.Common.{◌≡◌, ◌+◌, ◌<◌, length, List, ◌∷◌}
use Rattle.ix_cert.proofs.check.check_report.Goals as goal
use Rattle.std.proofs.Common.{subst, sym, ap, ◌∙◌, drop, arith, List, ◌∷◌, get_or}
use Rattle.std.proofs.lemmas.List.{drop_more}
use Rattle.ix_cert.specs.declared.report.ReportBlock.{ReportBlock}
use Rattle.ix_cert.specs.Faults.{IsFirstFault, steps_from}
use Rattle.ix_cert.proofs.Faultless.{block_fault}

pub returns-in-Err : goal.returns-in-Err
returns-in-Err c = λ known.
    let blocks : c.as_slice-block-items.result.now ≡ c.args.report.now.blocks = c.as_slice-block-items.ensures in
    let size : length c.as_slice-block-items.result.now ≡ length c.args.report.now.blocks = ap (λ (xs : List ReportBlock). length xs) blocks in
    let inside : c.blocks-2.block-index < length c.args.report.now.blocks = omega (arith, c.blocks-2-test.true, size) in
    let here : c.block-item.result ≡ get_or c.args.report.now.blocks c.blocks-2.block-index c.block-item.result =
    c.block-item.is ∙ ap (λ (xs : List ReportBlock). get_or xs c.blocks-2.block-index c.block-item.result) blocks
    in
    let rest : drop c.blocks-2.block-index c.args.report.now.blocks ≡ c.block-item.result ∷ drop (c.blocks-2.block-index + 1) c.args.report.now.blocks =
    drop_more c.args.report.now.blocks c.blocks-2.block-index c.block-item.result inside
    ∙ ap (λ (b : ReportBlock). b ∷ drop (c.blocks-2.block-index + 1) c.args.report.now.blocks) (sym here)
    in
    c.blocks-2.invariant.1 c.in-Err.error
    (subst (λ (xs : List ReportBlock). IsFirstFault (steps_from xs c.blocks-2.line) c.in-Err.error) (sym rest)
    (block_fault c.block-item.result (drop (c.blocks-2.block-index + 1) c.args.report.now.blocks) c.blocks-2.line c.in-Err.error (c.in-Err.ensures known)))
