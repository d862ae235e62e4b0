use Rattle.std.proofs.Common.{refl, arith, subst, sym, ◌∙◌, map, Contains}
use Rattle.std.proofs.lemmas.Bool.{true≢false}
use Rattle.ix_verilog.specs.declared.source.Assign.{Assign}
use Rattle.ix_verilog.specs.Words.{Word}
use Rattle.ix_vform.proofs.Named.{each_more, any_named}
use Rattle.ix_vform.proofs.guard.are_assigned.Goals as goal

pub returns : goal.returns
returns c = ((λ t k d l. c.loop-port.invariant k d (omega (arith, l, c.loop-port-test.false))), λ h. refl)

pub loop-port-preserved : goal.loop-port-preserved
loop-port-preserved c =
    let xs = c.args.opened.now.assigns in
    let P : Word → Type 0 = λ n. Contains (map (λ (a : Assign). a.target) xs) n in
    let t : P c.as_str.result.now = (any_named (λ (a : Assign). a.target) xs c.as_str.result.now c.is_assigned.result c.is_assigned.ensures).0 c.if-not-is_assigned.false in
    each_more P c.args.ports.now c.loop-port.port-index c.port-item.result c.port-item.is c.loop-port-test.true (subst P c.as_str.ensures.text t) c.loop-port.invariant

pub returns-then-not-is_assigned : goal.returns-then-not-is_assigned
returns-then-not-is_assigned c =
    let xs = c.args.opened.now.assigns in
    let P : Word → Type 0 = λ n. Contains (map (λ (a : Assign). a.target) xs) n in
    let i = any_named (λ (a : Assign). a.target) xs c.as_str.result.now c.is_assigned.result c.is_assigned.ensures in (
      (λ t. absurd (true≢false (sym t))),
      λ h. (let p : P c.port-item.result.name = subst (λ q. P q.name) (sym c.port-item.is) (h c.loop-port.port-index c.port-item.result c.loop-port-test.true) in
          absurd (true≢false (sym (i.1 (subst P (sym c.as_str.ensures.text) p)) ∙ c.if-not-is_assigned.true))),
    )
