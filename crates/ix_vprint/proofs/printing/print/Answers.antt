use Rattle.std.proofs.Common.{arith, subst, sym, ◌∙◌, List, ℕ, ap, ◌≡◌, take}
use Rattle.std.specs.List.{flat_map}
use Rattle.ix_vprint.specs.Printed.{module_text}
use Rattle.std.specs.Prelude.{All}
use Rattle.std.proofs.lemmas.Grind.{common_steps}
use Rattle.std.proofs.lemmas.List.{take_all}
use Rattle.ix_net.proofs.StepLemmas.{all_step}
use Rattle.ix_net.specs.declared.netlist.Net.{Net}
use Rattle.ix_verilog.specs.Subset.{Denotes}
use Rattle.ix_vprint.specs.Short.{HasShortNames}
use Rattle.ix_vprint.proofs.Written.{text_denotes}
use Rattle.ix_vprint.proofs.printing.print.Goals as goal

pub loop-net-preserved : goal.loop-net-preserved
loop-net-preserved c = record {
  so_far = grind (arith, common_steps);
  valid = c.loop-net.invariant.valid;
  short = all_step HasShortNames c.args.nets.now c.loop-net.net-index c.net-item.result (omega (arith, c.loop-net-test.true)) c.net-item.is c.loop-net.invariant.short c.in_ok-put_module.ensures.short;
}

pub returns-clause-denotes : goal.returns-clause-denotes
returns-clause-denotes c =
    let nets = c.args.nets.now in
    let short : All HasShortNames nets = subst (λ (z : List Net). All HasShortNames z) (take_all c.loop-net.net-index nets (omega (arith, c.loop-net-test.false))) c.loop-net.invariant.short in
    let whole : take c.loop-net.net-index nets ≡ nets = take_all c.loop-net.net-index nets (omega (arith, c.loop-net-test.false)) in
    let text : c.from_vec.result ≡ flat_map module_text nets = c.from_vec.ensures ∙ c.loop-net.invariant.so_far ∙ ap (λ z. flat_map module_text z) whole in
    subst (λ (z : List ℕ). Denotes z nets) (sym text) (text_denotes nets c.requires.valid short c.requires.apart)
