use Rattle.std.proofs.Common.{ℕ, ◌<◌, get_or, refl, arith}
use Rattle.std.specs.Prelude.{sum_by}
use Rattle.ix_residual.specs.declared.residual.Path.{Path}
use Rattle.ix_residual.specs.Residuals.{need_of}
use Rattle.ix_solve.specs.Networks.{IsResidual}
use Rattle.ix_solve.specs.State.{IsOnWay}
use Rattle.ix_solve.proofs.Found.{feasible_by}
use Rattle.ix_solve.proofs.Meeting.{first_network, network_after, state_at_first, way_found, none_left, met_along, on_own_bounds}
use Rattle.ix_solve.proofs.States.{IsWay, taken, first_replay}
use Rattle.ix_solve.proofs.meet.meet.Goals as goal

pub paths-init : goal.paths-init
paths-init c =
    let p = c.args.p.now in
    let net = first_network p c.args.bounds c.args.network.now c.requires.network c.requires.root c.requires.arcs in
    record {
      state = state_at_first p c.args.bounds c.args.network.now c.in_ok-residual.residual c.requires.valid net c.requires.arcs.0 c.requires.feasible c.in_ok-residual.ensures;
      replay = rw (c.in_ok-residual.ensures, c.new-paths.ensures) (first_replay p c.args.bounds);
      network = net;
      touching = c.in_ok-lists.ensures;
    }

pub returns-in_default : goal.returns-in_default
returns-in_default c =
    let p = c.args.p.now in
    let h = c.paths.invariant in
    let net = network_after p c.args.bounds c.paths.network c.turn.new.self h.network c.in_ok-turn.ensures.network c.in_ok-turn.ensures.same c.in_ok-turn.ensures.kept in
    let res : IsResidual c.paths.residual.amounts c.turn.new.self = rw c.as_slice.ensures at c.in_ok-turn.ensures.residual in
    record {
      state = h.state;
      replay = h.replay;
      none_left = none_left p c.args.bounds c.paths.residual c.as_slice-in-paths.result.now h.state c.as_slice-in-paths.ensures (c.in_default.ensures.none refl);
      network = net;
      residual = res;
      feasible = feasible_by p c.args.bounds c.turn.new.self c.paths.residual.amounts net res h.state.held;
    }

pub longest_path-requires-clause-feasible : goal.longest_path-requires-clause-feasible
longest_path-requires-clause-feasible c =
    let p = c.args.p.now in
    let h = c.paths.invariant in
    let net = network_after p c.args.bounds c.paths.network c.turn.new.self h.network c.in_ok-turn.ensures.network c.in_ok-turn.ensures.same c.in_ok-turn.ensures.kept in
    let res : IsResidual c.paths.residual.amounts c.turn.new.self = rw c.as_slice.ensures at c.in_ok-turn.ensures.residual in
    feasible_by p c.args.bounds c.turn.new.self c.paths.residual.amounts net res h.state.held

pub augment-requires : goal.augment-requires
augment-requires c =
    let p = c.args.p.now in
    let h = c.paths.invariant in
    let r = c.paths.residual in
    let net = network_after p c.args.bounds c.paths.network c.turn.new.self h.network c.in_ok-turn.ensures.network c.in_ok-turn.ensures.same c.in_ok-turn.ensures.kept in
    let res : IsResidual r.amounts c.turn.new.self = rw c.as_slice.ensures at c.in_ok-turn.ensures.residual in
    let path : Path = record { steps = c.in_ok-steps.field-0.steps } in
    let t : ℕ → ℕ = λ v. get_or c.in_ok-steps.field-0.times.items v 0 in
    let way : IsWay p c.args.bounds r t c.in-Some.source c.in-Some.target path
    = way_found p c.args.bounds c.turn.new.self r c.as_slice-in-paths.result.now t c.in-Some.source c.in-Some.target path h.state net res
    c.as_slice-in-paths.ensures c.in-Some.ensures.source c.in-Some.ensures.target c.in_ok-steps.ensures.longest in
    (taken p c.args.bounds r t c.in-Some.source c.in-Some.target path c.requires.valid c.requires.of h.state way).can

pub exhaust-requires-clause-of : goal.exhaust-requires-clause-of
exhaust-requires-clause-of c =
    let p = c.args.p.now in
    let h = c.paths.invariant in
    let r = c.paths.residual in
    let net = network_after p c.args.bounds c.paths.network c.turn.new.self h.network c.in_ok-turn.ensures.network c.in_ok-turn.ensures.same c.in_ok-turn.ensures.kept in
    let res : IsResidual r.amounts c.turn.new.self = rw c.as_slice.ensures at c.in_ok-turn.ensures.residual in
    let path : Path = record { steps = c.in_ok-steps.field-0.steps } in
    let t : ℕ → ℕ = λ v. get_or c.in_ok-steps.field-0.times.items v 0 in
    let way : IsWay p c.args.bounds r t c.in-Some.source c.in-Some.target path
    = way_found p c.args.bounds c.turn.new.self r c.as_slice-in-paths.result.now t c.in-Some.source c.in-Some.target path h.state net res
    c.as_slice-in-paths.ensures c.in-Some.ensures.source c.in-Some.ensures.target c.in_ok-steps.ensures.longest in
    let after = met_along p c.args.bounds c.turn.new.self t r c.augment.new.self c.paths.paths c.push.new.self c.in-Some.source c.in-Some.target path c.requires.valid c.requires.of
    h.state h.replay net way c.augment.ensures c.in_ok-push.ensures.ok in
    rw after.0.state.bounds_same c.requires.of

pub exhaust-requires-clause-touching : goal.exhaust-requires-clause-touching
exhaust-requires-clause-touching c =
    let same = c.in_ok-turn.ensures.same in
    rw (c.as_slice-in-paths-2.ensures.value, same.0, same.1) c.paths.invariant.touching

pub exhaust-requires-clause-times : goal.exhaust-requires-clause-times
exhaust-requires-clause-times c = rw c.as_slice-times.ensures.value c.in_ok-steps.ensures.length

pub exhaust-requires-clause-way : goal.exhaust-requires-clause-way
exhaust-requires-clause-way c =
    let p = c.args.p.now in
    let h = c.paths.invariant in
    let r = c.paths.residual in
    let net = network_after p c.args.bounds c.paths.network c.turn.new.self h.network c.in_ok-turn.ensures.network c.in_ok-turn.ensures.same c.in_ok-turn.ensures.kept in
    let res : IsResidual r.amounts c.turn.new.self = rw c.as_slice.ensures at c.in_ok-turn.ensures.residual in
    let path : Path = record { steps = c.in_ok-steps.field-0.steps } in
    let t : ℕ → ℕ = λ v. get_or c.in_ok-steps.field-0.times.items v 0 in
    let way : IsWay p c.args.bounds r t c.in-Some.source c.in-Some.target path
    = way_found p c.args.bounds c.turn.new.self r c.as_slice-in-paths.result.now t c.in-Some.source c.in-Some.target path h.state net res
    c.as_slice-in-paths.ensures c.in-Some.ensures.source c.in-Some.ensures.target c.in_ok-steps.ensures.longest in
    let after = met_along p c.args.bounds c.turn.new.self t r c.augment.new.self c.paths.paths c.push.new.self c.in-Some.source c.in-Some.target path c.requires.valid c.requires.of
    h.state h.replay net way c.augment.ensures c.in_ok-push.ensures.ok in
    on_own_bounds p c.args.bounds c.turn.new.self c.in_ok-steps.field-0.times.items c.as_slice-times.result.now c.augment.new.self c.push.new.self c.as_slice-times.ensures.value after.0

pub paths-smaller : goal.paths-smaller
paths-smaller c =
    let p = c.args.p.now in
    let h = c.paths.invariant in
    let r = c.paths.residual in
    let net = network_after p c.args.bounds c.paths.network c.turn.new.self h.network c.in_ok-turn.ensures.network c.in_ok-turn.ensures.same c.in_ok-turn.ensures.kept in
    let res : IsResidual r.amounts c.turn.new.self = rw c.as_slice.ensures at c.in_ok-turn.ensures.residual in
    let path : Path = record { steps = c.in_ok-steps.field-0.steps } in
    let t : ℕ → ℕ = λ v. get_or c.in_ok-steps.field-0.times.items v 0 in
    let way : IsWay p c.args.bounds r t c.in-Some.source c.in-Some.target path
    = way_found p c.args.bounds c.turn.new.self r c.as_slice-in-paths.result.now t c.in-Some.source c.in-Some.target path h.state net res
    c.as_slice-in-paths.ensures c.in-Some.ensures.source c.in-Some.ensures.target c.in_ok-steps.ensures.longest in
    let after = met_along p c.args.bounds c.turn.new.self t r c.augment.new.self c.paths.paths c.push.new.self c.in-Some.source c.in-Some.target path c.requires.valid c.requires.of
    h.state h.replay net way c.augment.ensures c.in_ok-push.ensures.ok in
    let less : sum_by need_of c.exhaust.new.residual.left < sum_by need_of r.left = omega (arith, after.1, c.in_ok-exhaust.ensures.less) in
    less

pub paths-preserved : goal.paths-preserved
paths-preserved c =
    let p = c.args.p.now in
    let h = c.paths.invariant in
    let r = c.paths.residual in
    let net = network_after p c.args.bounds c.paths.network c.turn.new.self h.network c.in_ok-turn.ensures.network c.in_ok-turn.ensures.same c.in_ok-turn.ensures.kept in
    let res : IsResidual r.amounts c.turn.new.self = rw c.as_slice.ensures at c.in_ok-turn.ensures.residual in
    let path : Path = record { steps = c.in_ok-steps.field-0.steps } in
    let t : ℕ → ℕ = λ v. get_or c.in_ok-steps.field-0.times.items v 0 in
    let way : IsWay p c.args.bounds r t c.in-Some.source c.in-Some.target path
    = way_found p c.args.bounds c.turn.new.self r c.as_slice-in-paths.result.now t c.in-Some.source c.in-Some.target path h.state net res
    c.as_slice-in-paths.ensures c.in-Some.ensures.source c.in-Some.ensures.target c.in_ok-steps.ensures.longest in
    let after = met_along p c.args.bounds c.turn.new.self t r c.augment.new.self c.paths.paths c.push.new.self c.in-Some.source c.in-Some.target path c.requires.valid c.requires.of
    h.state h.replay net way c.augment.ensures c.in_ok-push.ensures.ok in
    let same = c.in_ok-turn.ensures.same in
    let on : IsOnWay p c.args.bounds c.turn.new.self (λ v. get_or c.as_slice-times.result.now v 0) c.exhaust.new.residual c.exhaust.new.paths = rw after.0.state.bounds_same at c.in_ok-exhaust.ensures.way in
    record {
      state = on.state;
      replay = on.replay;
      network = on.network;
      touching = rw (same.0, same.1) h.touching;
    }
