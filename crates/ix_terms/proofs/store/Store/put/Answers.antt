use Rattle.std.proofs.Common.{arith}
use Rattle.ix_terms.proofs.Storing.{kept_on, put_on, put_told}
use Rattle.ix_terms.proofs.store.Store.put.Goals as goal

pub invariant_of-self : goal.invariant_of-self
invariant_of-self c = kept_on c.self.inside.tables c.self.inside.nodes.keys _ c.self.invariant c.in_err-k.ensures.err

pub invariant_of-self-2 : goal.invariant_of-self-2
invariant_of-self-2 c =
    put_on c.args.self.now c.self.inside.tables c.self.inside.nodes.keys _ c.args.node c.len.result c.self.view_is c.len.ensures.len (omega (arith, c.if-len-ge-MOST.false)) c.self.invariant c.requires c.in_ok-k.ensures.keys

pub returns : goal.returns
returns c =
    put_told c.args.self.now c.self.inside.tables c.self.inside.nodes.keys _ c.args.node c.in_ok-k.k c.len.result c.self.view_is c.len.ensures.len (omega (arith, c.if-len-ge-MOST.false)) c.self.invariant c.requires
    c.in_ok-k.ensures.keys c.in_ok-k.ensures.stored
