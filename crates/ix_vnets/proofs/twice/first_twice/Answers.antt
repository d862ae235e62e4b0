use Rattle.std.proofs.Common.{◌≡◌, [], ◌∷◌, ◌++◌, sym, ◌∙◌, subst, ap, true, take, drop, map, not}
use Rattle.ix_verilog.specs.declared.source.Source.{Source}
use Rattle.ix_vnets.specs.Names.{FirstTwice, IsFirstTwice, said, said_in}
use Rattle.ix_vnets.proofs.Seen.{step_set, set_more, set_twice, some_of, none_of, seen_twice, seen_more}
use Rattle.ix_vnets.proofs.Saying.{rests_more, rests_named, rests_twice, rests_end, names_of, drop_past}
use Rattle.ix_vnets.proofs.twice.first_twice.Goals as goal

pub returns-then-not-branch : goal.returns-then-not-branch
returns-then-not-branch c =
    let all = c.args.modules.now in
    let s = c.source-item.result in
    let t = seen_twice c.loop-source.seen (names_of (take c.loop-source.source-index all)) s.name c.as_str.result.now c.in_ok-see.field-0 c.loop-source.invariant.set c.as_str.ensures.text c.in_ok-see.ensures.first c.if-not-branch.true in
    let h = rests_named all c.loop-source.source-index s c.source-item.is c.loop-source-test.true t c.loop-source.invariant.rests in
    subst (FirstTwice (said [] all)) (sym (c.in_ok-name.ensures ∙ c.as_str-then-not-branch.ensures.text)) h

pub returns-in-Some : goal.returns-in-Some
returns-in-Some c =
    let all = c.args.modules.now in
    let s = c.source-item.result in
    let m = seen_more c.loop-source.seen c.see.new.seen (names_of (take c.loop-source.source-index all)) s.name c.as_str.result.now c.in_ok-see.field-0 c.loop-source.invariant.set c.as_str.ensures.text c.in_ok-see.ensures.first
    c.if-not-branch.false c.in_ok-see.ensures.more in
    rests_twice all c.loop-source.source-index s c.in-Some.name c.source-item.is c.loop-source-test.true m.once (some_of (said_in s) c.in_ok-name-2.field-0 c.in-Some.name c.in_ok-name-2.ensures c.in-Some.is) c.loop-source.invariant.rests

pub loop-source-preserved : goal.loop-source-preserved
loop-source-preserved c =
    let all = c.args.modules.now in
    let s = c.source-item.result in
    let m = seen_more c.loop-source.seen c.see.new.seen (names_of (take c.loop-source.source-index all)) s.name c.as_str.result.now c.in_ok-see.field-0 c.loop-source.invariant.set c.as_str.ensures.text c.in_ok-see.ensures.first
    c.if-not-branch.false c.in_ok-see.ensures.more in
    record {
      set =
          step_set (λ (x : Source). x.name) c.loop-source.seen c.see.new.seen [] all c.loop-source.source-index s c.source-item.is c.loop-source-test.true c.loop-source.invariant.set c.as_str.result.now c.in_ok-see.field-0
          c.as_str.ensures.text c.in_ok-see.ensures.first c.if-not-branch.false c.in_ok-see.ensures.more;
      rests =
          rests_more all c.loop-source.source-index s c.source-item.is c.loop-source-test.true m.once (none_of (said_in s) c.in_ok-name-2.field-0 c.in_ok-name-2.ensures c.in_default.is) c.loop-source.invariant.rests;
    }
