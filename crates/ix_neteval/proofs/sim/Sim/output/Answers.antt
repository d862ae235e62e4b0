use Rattle.std.proofs.Common.{◌≡◌, ◌∙◌, ◌<◌, ◌^◌, ℕ, Some, length, get_or, subst, sym, ap, arith}
use Rattle.std.specs.Prelude.{slice_get}
use Rattle.std.proofs.lemmas.Option.{get_or_from_slice_get}
use Rattle.ix_net.specs.declared.netlist.Net.{Net}
use Rattle.ix_net.specs.declared.netlist.Port.{Port}
use Rattle.ix_net.specs.Signals.{signals, number_of}
use Rattle.ix_net.specs.Valid.{IsWidth}
use Rattle.ix_net.specs.Valuation.{value_of}
use Rattle.ix_net.proofs.NetLemmas.{slice_get_some}
use Rattle.ix_neteval.specs.State.{State}
use Rattle.ix_neteval.proofs.StateLemmas.{output_width, output_number, output_value, number_within}
use Rattle.ix_neteval.proofs.sim.Sim.output.Goals as goal

-- the output is one of the net's
within : (state : State) (net : Net) (k : ℕ) → state.net ≡ net → k < length state.net.outputs → k < length net.outputs
within state net k e l = let P : Net → Type 0 = λ n. k < length n.outputs in subst P e l

pub index-requires-2 : goal.index-requires-2
index-requires-2 c =
    let net : Net = c.self.inside.net.now in
    let en : c.args.self.now.net ≡ net = sym (ap (λ (s : State). s.net) c.self.view_is) in
    let o = slice_get_some net.outputs c.args.k (within c.args.self.now net c.args.k en c.requires) in
    let at : c.index.result.now ≡ number_of (signals net) o.0.name = output_number net c.self.inside.wiring c.args.k o.0 c.index.result.now c.self.invariant.wired o.1 c.index.ensures in
    let wide = output_width net c.args.k o.0 c.self.invariant.valid o.1 in
    omega (arith, at, number_within net c.self.inside.values.items o.0.name o.0.width c.self.invariant.values_fit wide.0, c.self.inside.values.ok.0)

pub invariant_of-result : goal.invariant_of-result
invariant_of-result c =
    let net : Net = c.self.inside.net.now in
    let en : c.args.self.now.net ≡ net = sym (ap (λ (s : State). s.net) c.self.view_is) in
    let o = slice_get_some net.outputs c.args.k (within c.args.self.now net c.args.k en c.requires) in
    let at : c.index.result.now ≡ number_of (signals net) o.0.name = output_number net c.self.inside.wiring c.args.k o.0 c.index.result.now c.self.invariant.wired o.1 c.index.ensures in
    let read = output_value net c.args.k o.0 c.self.inside.values.items c.index.result.now c.index-2.result.now c.self.invariant.valid c.self.invariant.values_fit o.1 at c.index-2.ensures in
    let wide = output_width net c.args.k o.0 c.self.invariant.valid o.1 in
    let same : get_or c.as_slice.result.now c.args.k c.index-as_slice-k.result ≡ o.0 =
    ap (λ os. get_or os c.args.k c.index-as_slice-k.result) c.as_slice.ensures ∙ get_or_from_slice_get net.outputs c.args.k o.0 c.index-as_slice-k.result o.1 in
    let W : Port → Type 0 = λ p. IsWidth p.width in
    let F : Port → Type 0 = λ p. c.index-2.result.now < 2 ^ p.width in
    let width = subst W (sym same) wide.1 in
    record { some_width = width.some; most_width = width.most; in_width = subst F (sym same) read.2 }

pub returns-clause-value : goal.returns-clause-value
returns-clause-value c = λ o g.
    let net : Net = c.self.inside.net.now in
    let en : c.args.self.now.net ≡ net = sym (ap (λ (s : State). s.net) c.self.view_is) in
    let P : Net → Type 0 = λ n. slice_get n.outputs c.args.k ≡ Some o in
    let g' : slice_get net.outputs c.args.k ≡ Some o = subst P en g in
    let at : c.index.result.now ≡ number_of (signals net) o.name = output_number net c.self.inside.wiring c.args.k o c.index.result.now c.self.invariant.wired g' c.index.ensures in
    let read = output_value net c.args.k o c.self.inside.values.items c.index.result.now c.index-2.result.now c.self.invariant.valid c.self.invariant.values_fit g' at c.index-2.ensures in
    read.1 ∙ ap (λ (s : State). value_of s.net s.values o.name) c.self.view_is

pub returns-clause-width : goal.returns-clause-width
returns-clause-width c = λ o g.
    let net : Net = c.self.inside.net.now in
    let en : c.args.self.now.net ≡ net = sym (ap (λ (s : State). s.net) c.self.view_is) in
    let P : Net → Type 0 = λ n. slice_get n.outputs c.args.k ≡ Some o in
    let g' : slice_get net.outputs c.args.k ≡ Some o = subst P en g in
    ap (λ (p : Port). p.width) (ap (λ os. get_or os c.args.k c.index-as_slice-k.result) c.as_slice.ensures ∙ get_or_from_slice_get net.outputs c.args.k o c.index-as_slice-k.result g')
