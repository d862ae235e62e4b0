use Rattle.std.proofs.Common.{◌≡◌, length}
use Rattle.ix_cert.specs.Checks.{AreAmounts, parts_in, parts_out}
use Rattle.ix_cert.proofs.sum.first_unbalanced.Goals as goal
use Rattle.std.proofs.Common.{◌∙◌}
use Rattle.ix_cert.proofs.Balances.{tells_unbalanced}

pub returns : goal.returns
returns c =
    let count : c.len-count.result ≡ length c.args.b.now.problem.ops = c.len-count.ensures in
    let ins : c.as_slice.result.now ≡ parts_in c.args.b.now.problem c.args.b.now.flow = c.as_slice.ensures.value ∙ c.in_ok-parts_in.ensures in
    let outs : c.as_slice-2.result.now ≡ parts_out c.args.b.now.problem c.args.b.now.flow = c.as_slice-2.ensures.value ∙ c.in_ok-parts_out.ensures in
    let coming : AreAmounts (length c.args.b.now.problem.ops) (parts_in c.args.b.now.problem c.args.b.now.flow) c.as_slice-3.result.now =
    rw (c.as_slice-3.ensures.value) (rw (ins, count) at c.in_ok-coming.ensures.are)
    in
    let going : AreAmounts (length c.args.b.now.problem.ops) (parts_out c.args.b.now.problem c.args.b.now.flow) c.as_slice-4.result.now =
    rw (c.as_slice-4.ensures.value) (rw (outs, count) at c.in_ok-going.ensures.are)
    in
    tells_unbalanced c.args.b.now c.as_slice-3.result.now c.as_slice-4.result.now coming going c.first_apart.result c.first_apart.ensures
