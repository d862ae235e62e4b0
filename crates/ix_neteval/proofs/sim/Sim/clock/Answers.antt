use Rattle.std.proofs.Common.{◌≡◌, ◌∙◌, ◌+◌, ◌++◌, ℕ, List, length, map, take, drop, subst, sym, ap, arith}
use Rattle.std.proofs.lemmas.List.{length-map, take_at}
use Rattle.ix_net.specs.declared.netlist.Net.{Net}
use Rattle.ix_net.specs.declared.wires.Wiring.{Wiring}
use Rattle.ix_net.specs.Run.{next_banks}
use Rattle.ix_net.specs.Signals.{signals, bank_port}
use Rattle.ix_net.specs.Valuation.{FitPorts}
use Rattle.ix_net.specs.Wiring.{IsWiring, latch_of}
use Rattle.ix_net.proofs.FitLemmas.{fit_length}
use Rattle.ix_net.proofs.NetLemmas.{signals_length}
use Rattle.ix_neteval.specs.State.{State}
use Rattle.ix_neteval.proofs.StateLemmas.{next_banks_fit, clocked, latch_within}
use Rattle.ix_neteval.proofs.sim.Sim.clock.Goals as goal

latch_count : (net : Net) (w : Wiring) → IsWiring net w → length w.latches.items ≡ length net.banks
latch_count net w h = ap length h.latches ∙ length-map net.banks (latch_of (signals net))

bank_count : (net : Net) (banks : List ℕ) → FitPorts (map bank_port net.banks) banks → length banks ≡ length net.banks
bank_count net banks h = fit_length (map bank_port net.banks) banks h ∙ length-map net.banks bank_port

pub clock_banks-requires-clause-lengths : goal.clock_banks-requires-clause-lengths
clock_banks-requires-clause-lengths c =
    let net : Net = c.self.inside.net.now in
    omega (arith, ap length c.deref.ensures.value, ap length c.deref_mut.ensures.value, latch_count net c.self.inside.wiring c.self.invariant.wired, bank_count net c.self.inside.banks.items c.self.invariant.banks_fit)

pub clock_banks-requires-clause-room : goal.clock_banks-requires-clause-room
clock_banks-requires-clause-room c =
    let net : Net = c.self.inside.net.now in
    omega (
      arith,
      c.len.ensures,
      c.len-2.ensures,
      ap length c.deref.ensures.value,
      ap length c.deref-2.ensures.value,
      latch_count net c.self.inside.wiring c.self.invariant.wired,
      fit_length (signals net) c.self.inside.values.items c.self.invariant.values_fit,
      signals_length net,
    )

pub clock_banks-requires-clause-in_range : goal.clock_banks-requires-clause-in_range
clock_banks-requires-clause-in_range c =
    let net : Net = c.self.inside.net.now in
    let Q : List ℕ → Type 0 = λ vs. FitPorts (signals net) vs in
    latch_within net c.deref.result.now c.deref-2.result.now c.self.invariant.valid (subst Q (sym c.deref-2.ensures.value) c.self.invariant.values_fit) (c.deref.ensures.value ∙ c.self.invariant.wired.latches)

pub invariant_of-self : goal.invariant_of-self
invariant_of-self c =
    let net : Net = c.self.inside.net.now in
    let new : List ℕ = c.clock_banks.new.banks in
    let old : List ℕ = c.self.inside.banks.items in
    let values : List ℕ = c.self.inside.values.items in
    let whole : take c.self.inside.banks.len (new ++ drop (length new) old) ≡ new =
    take_at new (drop (length new) old) c.self.inside.banks.len (omega (arith, c.clock_banks.auto.banks, ap length c.deref_mut.ensures.value, c.self.inside.banks.ok.0)) in
    let size : length new ≡ length net.banks = omega (arith, c.clock_banks.auto.banks, ap length c.deref_mut.ensures.value, bank_count net old c.self.invariant.banks_fit) in
    let made : new ≡ next_banks net values =
    clocked net c.deref.result.now (c.len.result + c.len-2.result) c.deref-2.result.now new c.self.invariant.valid (c.deref.ensures.value ∙ c.self.invariant.wired.latches)
    (omega (arith, c.len.ensures, c.len-2.ensures)) size c.clock_banks.ensures ∙ ap (next_banks net) c.deref-2.ensures.value in
    let P : List ℕ → Type 0 = λ bs. FitPorts (map bank_port net.banks) bs in
    record {
      valid = c.self.invariant.valid;
      wired = c.self.invariant.wired;
      banks_fit = subst P (sym (whole ∙ made)) (next_banks_fit net values c.self.invariant.valid c.self.invariant.values_fit);
      values_fit = c.self.invariant.values_fit;
      marks_are = c.self.invariant.marks_are;
      holding = c.self.invariant.holding;
    }

pub returns-clause-banks : goal.returns-clause-banks
returns-clause-banks c =
    let net : Net = c.self.inside.net.now in
    let new : List ℕ = c.clock_banks.new.banks in
    let old : List ℕ = c.self.inside.banks.items in
    let values : List ℕ = c.self.inside.values.items in
    let whole : take c.self.inside.banks.len (new ++ drop (length new) old) ≡ new =
    take_at new (drop (length new) old) c.self.inside.banks.len (omega (arith, c.clock_banks.auto.banks, ap length c.deref_mut.ensures.value, c.self.inside.banks.ok.0)) in
    let size : length new ≡ length net.banks = omega (arith, c.clock_banks.auto.banks, ap length c.deref_mut.ensures.value, bank_count net old c.self.invariant.banks_fit) in
    let made : new ≡ next_banks net values =
    clocked net c.deref.result.now (c.len.result + c.len-2.result) c.deref-2.result.now new c.self.invariant.valid (c.deref.ensures.value ∙ c.self.invariant.wired.latches)
    (omega (arith, c.len.ensures, c.len-2.ensures)) size c.clock_banks.ensures ∙ ap (next_banks net) c.deref-2.ensures.value in
    whole ∙ made ∙ ap (λ (s : State). next_banks s.net s.values) c.self.view_is
