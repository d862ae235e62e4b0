use Rattle.std.proofs.Common.{◌≡◌, ◌∙◌, ◌<◌, ◌^◌, ℕ, Some, length, get_or, subst, sym, ap, arith}
use Rattle.std.specs.Prelude.{slice_get}
use Rattle.std.proofs.lemmas.List.{get_or_default}
use Rattle.std.proofs.lemmas.Option.{get_or_from_slice_get}
use Rattle.ix_net.specs.declared.netlist.Net.{Net}
use Rattle.ix_net.specs.declared.netlist.Port.{Port}
use Rattle.ix_net.specs.Valid.{IsWidth}
use Rattle.ix_net.specs.Valuation.{value_of}
use Rattle.ix_net.proofs.NetLemmas.{slice_get_some}
use Rattle.ix_neteval.specs.State.{State}
use Rattle.ix_neteval.proofs.StateLemmas.{input_value}
use Rattle.ix_neteval.proofs.sim.Sim.input.Goals as goal

-- the input is one of the net's
within : (state : State) (net : Net) (k : ℕ) → state.net ≡ net → k < length state.net.inputs → k < length net.inputs
within state net k e l = let P : Net → Type 0 = λ n. k < length n.inputs in subst P e l

pub index-requires : goal.index-requires
index-requires c =
    let net : Net = c.self.inside.net.now in
    let en : c.args.self.now.net ≡ net = sym (ap (λ (s : State). s.net) c.self.view_is) in
    let p = slice_get_some net.inputs c.args.k (within c.args.self.now net c.args.k en c.requires) in
    let read = input_value net c.args.k p.0 c.self.inside.values.items c.self.invariant.valid c.self.invariant.values_fit p.1 in
    omega (arith, read.0, c.self.inside.values.ok.0)

pub invariant_of-result : goal.invariant_of-result
invariant_of-result c =
    let net : Net = c.self.inside.net.now in
    let en : c.args.self.now.net ≡ net = sym (ap (λ (s : State). s.net) c.self.view_is) in
    let p = slice_get_some net.inputs c.args.k (within c.args.self.now net c.args.k en c.requires) in
    let read = input_value net c.args.k p.0 c.self.inside.values.items c.self.invariant.valid c.self.invariant.values_fit p.1 in
    let same : get_or c.as_slice.result.now c.args.k c.index-as_slice-k.result ≡ p.0 =
    ap (λ ps. get_or ps c.args.k c.index-as_slice-k.result) c.as_slice.ensures ∙ get_or_from_slice_get net.inputs c.args.k p.0 c.index-as_slice-k.result p.1 in
    let value : c.index.result.now ≡ get_or c.self.inside.values.items c.args.k 0 = c.index.ensures ∙ get_or_default c.self.inside.values.items c.args.k c.index.result.now 0 read.0 in
    let W : Port → Type 0 = λ q. IsWidth q.width in
    let F : Port → Type 0 = λ q. c.index.result.now < 2 ^ q.width in
    let V : ℕ → Type 0 = λ n. n < 2 ^ p.0.width in
    let width = subst W (sym same) read.3 in
    record { some_width = width.some; most_width = width.most; in_width = subst F (sym same) (subst V (sym value) read.2) }

pub returns-clause-value : goal.returns-clause-value
returns-clause-value c = λ p g.
    let net : Net = c.self.inside.net.now in
    let en : c.args.self.now.net ≡ net = sym (ap (λ (s : State). s.net) c.self.view_is) in
    let P : Net → Type 0 = λ n. slice_get n.inputs c.args.k ≡ Some p in
    let read = input_value net c.args.k p c.self.inside.values.items c.self.invariant.valid c.self.invariant.values_fit (subst P en g) in
    c.index.ensures ∙ get_or_default c.self.inside.values.items c.args.k c.index.result.now 0 read.0 ∙ read.1 ∙ ap (λ (s : State). value_of s.net s.values p.name) c.self.view_is

pub returns-clause-width : goal.returns-clause-width
returns-clause-width c = λ p g.
    let net : Net = c.self.inside.net.now in
    let en : c.args.self.now.net ≡ net = sym (ap (λ (s : State). s.net) c.self.view_is) in
    let P : Net → Type 0 = λ n. slice_get n.inputs c.args.k ≡ Some p in
    let g' : slice_get net.inputs c.args.k ≡ Some p = subst P en g in
    ap (λ (q : Port). q.width) (ap (λ ps. get_or ps c.args.k c.index-as_slice-k.result) c.as_slice.ensures ∙ get_or_from_slice_get net.inputs c.args.k p c.index-as_slice-k.result g')
