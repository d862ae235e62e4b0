use Rattle.ix_listing.proofs.refused.put_refusal.Goals as goal

pub returns-in-TwoPcBlocks-clause-text : goal.returns-in-TwoPcBlocks-clause-text
returns-in-TwoPcBlocks-clause-text c = rw c.in-TwoPcBlocks.is c.put_rule-in-TwoPcBlocks.ensures

pub returns-in-BaseOverlap-clause-text : goal.returns-in-BaseOverlap-clause-text
returns-in-BaseOverlap-clause-text c = rw c.in-BaseOverlap.is c.put_shared.ensures

pub returns-in-Overlap-clause-text : goal.returns-in-Overlap-clause-text
returns-in-Overlap-clause-text c = rw c.in-Overlap.is c.put_pair.ensures
