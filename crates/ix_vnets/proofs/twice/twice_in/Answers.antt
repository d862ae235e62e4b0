use Rattle.std.proofs.Common.{ap, subst, ◌∷◌}
use Rattle.ix_net.specs.Valid.{names}
use Rattle.ix_verilog.specs.Subset.{declared}
use Rattle.ix_vnets.specs.Names.{AreOnce, targets, updated}
use Rattle.ix_vnets.proofs.Seen.{module_end, none_told}
use Rattle.ix_vnets.proofs.twice.twice_in.Goals as goal

pub returns : goal.returns
returns c =
    let s = c.args.source.now in
    let a = none_told (s.name ∷ names (declared s)) c.in_ok-name.field-0 c.in_ok-name.ensures c.in_default.is in
    let b = subst (λ z. AreOnce (targets z)) c.as_slice.ensures (none_told (targets c.as_slice.result.now) c.in_ok-name-2.field-0 c.in_ok-name-2.ensures c.in_default-2.is) in
    module_end (s.name ∷ names (declared s)) (targets s.assigns) (updated c.as_slice-2.result.now) (updated s.updates) c.twice_updated.result c.twice_updated.ensures (ap updated c.as_slice-2.ensures) a b
