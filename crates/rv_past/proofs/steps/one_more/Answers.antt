use Rattle.std.proofs.Common.{length, arith}
use Rattle.ix_extension.specs.Extensions.{view_extension}
use Rattle.std.specs.Prelude.{None}
use Rattle.rv_lawful.specs.Settings.{course_of}
use Rattle.rv_past.proofs.Growing.{one_more, few_accesses}
use Rattle.rv_past.proofs.steps.one_more.Goals as goal

pub counted-steps-requires : goal.counted-steps-requires
counted-steps-requires c =
    let few = few_accesses (course_of (view_extension c.args.ext.now) c.args.image.now None) (length c.args.steps.now.steps) in
    let is = c.requires.steps.accesses in
    omega (arith, few, is, c.requires.few)

pub returns-clause-steps : goal.returns-clause-steps
returns-clause-steps c =
    one_more (view_extension c.args.ext.now) c.args.image.now c.args.steps.now (record { steps = c.push.new.self; ahead = c.go_on.new.arch; accesses = c.counted-steps.result }) c.step_of-step.result c.requires.steps
    c.step_of-step.ensures.step c.in_ok-push.ensures.ok c.counted-steps.ensures c.go_on.ensures.state c.go_on.ensures.wide
