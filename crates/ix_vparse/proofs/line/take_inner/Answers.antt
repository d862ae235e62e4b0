use Rattle.std.proofs.Common.{subst}
use Rattle.ix_verilog.specs.Words.{words_of}
use Rattle.ix_vline.specs.Slots.{slots}
use Rattle.ix_vline.specs.Reached.{Fits}
use Rattle.ix_vparse.proofs.Taking.{took_heading, took_always, took_done}
use Rattle.ix_vparse.proofs.line.take_inner.Goals as goal

pub returns-in-Heading : goal.returns-in-Heading
returns-in-Heading c = took_heading c.args.scope.now (words_of c.args.tokens.now) c.end_ports.new.self (subst (λ k. Fits c.args.scope.now (slots k) (words_of c.args.tokens.now)) c.in-Heading.is c.requires.fits) c.end_ports.ensures

pub returns-in-Always : goal.returns-in-Always
returns-in-Always c = took_always c.args.scope.now (words_of c.args.tokens.now) c.begin_always.new.self (subst (λ k. Fits c.args.scope.now (slots k) (words_of c.args.tokens.now)) c.in-Always.is c.requires.fits) c.begin_always.ensures

pub returns-in-Done : goal.returns-in-Done
returns-in-Done c = took_done c.args.scope.now (words_of c.args.tokens.now) c.end_always.new.self (subst (λ k. Fits c.args.scope.now (slots k) (words_of c.args.tokens.now)) c.in-Done.is c.requires.fits) c.end_always.ensures
