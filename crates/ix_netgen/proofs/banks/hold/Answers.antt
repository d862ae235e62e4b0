use Rattle.std.proofs.Common.{◌≡◌, ℕ, ◌+◌, ◌-◌, List, [], ◌∷◌, ◌++◌, Some, arith, ap, sym, ◌∙◌, subst}
use Rattle.std.specs.Prelude.{slice_get}
use Rattle.ix_cells.specs.declared.signal.Wire.{Wire}
use Rattle.ix_netgen.specs.Standing.{Holds}
use Rattle.ix_netgen.proofs.BankLemmas.{holds_first, holds_next, last_wire}
use Rattle.ix_netgen.proofs.banks.hold.Goals as goal

pub loop-time-init : goal.loop-time-init
loop-time-init c =
    let e : c.push.new.self.items ≡ c.args.wire ∷ [] = c.in_ok-push.ensures.items ∙ ap (λ (l : List Wire). l ++ c.args.wire ∷ []) c.new-wires.ensures.items in
    let H : List Wire → Type 0 = λ ws. Holds c.args.number c.args.wire c.args.from c.args.from c.args.net.now c.args.net.now ws in
    let G : List Wire → Type 0 = λ ws. slice_get ws (c.args.from - c.args.from) ≡ Some c.args.wire in
    let z : c.args.from - c.args.from ≡ 0 = omega arith in
    record {
      holds = subst H (sym e) (holds_first c.args.number c.args.wire c.args.from c.args.net.now);
      here = subst G (sym e) (ap (slice_get (c.args.wire ∷ [])) z);
    }

pub loop-time-preserved : goal.loop-time-preserved
loop-time-preserved c =
    let e : c.push-in-loop-time.new.self.items ≡ c.loop-time.wires.items ++ c.in_ok-current.current ∷ [] = c.in_ok-push-2.ensures.items in
    let H : List Wire → Type 0 = λ ws. Holds c.args.number c.args.wire c.args.from (c.loop-time.time + 1) c.args.net.now c.store.new.net ws in
    let G : List Wire → Type 0 = λ ws. slice_get ws (c.loop-time.time + 1 - c.args.from) ≡ Some c.in_ok-current.current in
    record {
      holds = subst H (sym e)
          (holds_next c.args.number c.args.wire c.args.from c.loop-time.time c.args.net.now c.loop-time.net c.store.new.net c.loop-time.wires.items c.loop-time.current
          c.in_ok-current.current c.loop-time.auto.time (omega arith) c.loop-time.invariant.holds c.loop-time.invariant.here c.in_ok-current.ensures);
      here = subst G (sym e)
          (last_wire c.args.from c.loop-time.time c.loop-time.wires.items c.in_ok-current.current c.loop-time.auto.time c.loop-time.invariant.holds.count);
    }

pub returns : goal.returns
returns c =
    let e : c.loop-time.time ≡ c.args.last = omega arith in
    let H : ℕ → Type 0 = λ t. Holds c.args.number c.args.wire c.args.from t c.args.net.now c.loop-time.net c.loop-time.wires.items in
    subst H e c.loop-time.invariant.holds
