use Rattle.std.proofs.Common.{◌≡◌, ◌∙◌, ℕ, List, length, map, replicate, subst, sym, ap, arith, rules}
use Rattle.std.proofs.lemmas.List.{length-map}
use Rattle.std.proofs.lemmas.Option.{MatchOption-at_some}
use Rattle.ix_net.specs.declared.netlist.Net.{Net}
use Rattle.ix_net.specs.declared.netlist.Port.{Port}
use Rattle.ix_net.specs.Signals.{signals, bank_port}
use Rattle.ix_net.specs.Valid.{IsValid}
use Rattle.ix_net.specs.Valuation.{FitPorts}
use Rattle.ix_net.specs.Wiring.{IsWiring}
use Rattle.ix_neteval.proofs.StateLemmas.{zeros_fit}
use Rattle.ix_neteval.proofs.sim.prepare.Goals as goal

pub invariant_of-result : goal.invariant_of-result
invariant_of-result c =
    let net : Net = c.args.net.now in
    let found : IsValid net × IsWiring net c.in-Some.wiring =
    MatchOption-at_some (IsValid net → ⊥) (λ w. IsValid net × IsWiring net w) c.in-Some.wiring c.in-Some.is c.in_ok-wiring.ensures in
    let zeros : c.in_ok-banks-in-Some.banks.items ≡ replicate c.len.result 0 = search rules in
    let zeros' : c.in_ok-values-in-Some.values.items ≡ replicate c.len-in-Some.result 0 = search rules in
    let size : c.len.result ≡ length (map bank_port net.banks) = c.len.ensures ∙ sym (length-map net.banks bank_port) in
    let size' : c.len-in-Some.result ≡ length (signals net) =
    omega (arith, c.len-in-Some.ensures, c.in-Some.wiring.widths.ok.0, ap length found.1.widths, length-map (signals net) (λ (p : Port). p.width)) in
    let P : List ℕ → Type 0 = λ vs. FitPorts (map bank_port net.banks) vs in
    let Q : List ℕ → Type 0 = λ vs. FitPorts (signals net) vs in
    record {
      valid = found.0;
      wired = found.1;
      banks_fit = subst P (sym zeros) (zeros_fit (map bank_port net.banks) c.len.result size);
      values_fit = subst Q (sym zeros') (zeros_fit (signals net) c.len-in-Some.result size');
      marks_are = omega (arith, c.in_ok-marks-in-Some.ensures.len, c.len-in-Some-2.ensures, c.in-Some.wiring.widths.ok.0, ap length found.1.widths, length-map (signals net) (λ (p : Port). p.width));
      holding = λ e. cc;
    }
