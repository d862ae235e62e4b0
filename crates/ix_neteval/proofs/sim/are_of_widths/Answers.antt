use Rattle.std.proofs.Common.{◌≡◌, ◌∙◌, ◌<◌, ℕ, length, map, get_or, take, sym, ap, refl, arith}
use Rattle.std.proofs.lemmas.Bool.{false≢true}
use Rattle.std.proofs.lemmas.List.{get_or-map, take_all}
use Rattle.ix_bits.specs.declared.number.Bits.{Bits}
use Rattle.ix_net.specs.declared.netlist.Port.{Port}
use Rattle.ix_neteval.proofs.sim.are_of_widths.Goals as goal

pub returns-then-inputs-i : goal.returns-then-inputs-i
returns-then-inputs-i c =
    let f : Bits → ℕ = λ b. b.width in
    let g : Port → ℕ = λ p. p.width in
    let li : c.loop-i.i < length c.args.inputs.now = omega (arith, c.loop-i-test.true) in
    let lp : c.loop-i.i < length c.args.ports.now = omega (arith, c.loop-i-test.true, c.if-inputs-ports.false) in (
      λ h. absurd (false≢true h),
      λ e. absurd
          (c.if-inputs-i.true
          (sym (get_or-map f c.args.inputs.now c.loop-i.i c.index-inputs-i.result 0 li) ∙ ap (λ ws. get_or ws c.loop-i.i 0) e
          ∙ get_or-map g c.args.ports.now c.loop-i.i c.index-ports-i.result 0 lp)),
    )

pub returns : goal.returns
returns c =
    let f : Bits → ℕ = λ b. b.width in
    let g : Port → ℕ = λ p. p.width in
    let all : take c.loop-i.i c.args.inputs.now ≡ c.args.inputs.now = take_all c.loop-i.i c.args.inputs.now (omega (arith, c.loop-i-test.false)) in
    let all' : take c.loop-i.i c.args.ports.now ≡ c.args.ports.now = take_all c.loop-i.i c.args.ports.now (omega (arith, c.loop-i-test.false, c.if-inputs-ports.false)) in
    (λ h. sym (ap (map f) all) ∙ c.loop-i.invariant ∙ ap (map g) all', λ e. refl)
