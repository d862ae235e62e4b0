use Rattle.std.proofs.Common.{refl, arith, length, subst, sym, ◌∙◌}
use Rattle.std.proofs.lemmas.Bool.{true≢false}
use Rattle.ix_verilog.specs.Subset.{IsTarget}
use Rattle.ix_vform.proofs.Named.{NonePassed, none_more, none_at_all, one_named}
use Rattle.ix_vform.proofs.guard.has_target_in.Goals as goal

pub returns : goal.returns
returns c =
    let s = c.args.opened.now in
    let ps = c.args.ports.now in
    let all : NonePassed (IsTarget s) ps (length ps) = λ k d l. c.loop-port.invariant k d (omega (arith, l, c.loop-port-test.false)) in
    ((λ t. absurd (true≢false (sym t))), λ h. absurd (none_at_all (IsTarget s) ps all h.0 h.1 h.2))

pub loop-port-preserved : goal.loop-port-preserved
loop-port-preserved c =
    let s = c.args.opened.now in
    let w = c.as_bytes.ensures.value ∙ c.as_str.ensures.text in
    none_more (IsTarget s) c.args.ports.now c.loop-port.port-index c.port-item.result c.port-item.is c.loop-port-test.true
    (λ t. true≢false (sym (c.is_target.ensures.1 (subst (IsTarget s) (sym w) t)) ∙ c.if-is_target.false)) c.loop-port.invariant

pub returns-then-is_target : goal.returns-then-is_target
returns-then-is_target c =
    let s = c.args.opened.now in
    let w = c.as_bytes.ensures.value ∙ c.as_str.ensures.text in
    let x = c.port-item.result in
    ((λ t. (x.name, one_named c.args.ports.now c.loop-port.port-index x c.port-item.is c.loop-port-test.true, subst (IsTarget s) w (c.is_target.ensures.0 c.if-is_target.true))), λ h. refl)
