use Rattle.std.proofs.Common.{◌∙◌, refl, sym}
use Rattle.ix_mean.specs.Order.{postorder}
use Rattle.ix_terms.specs.Stores.{at, stock_of}
use Rattle.ix_flow.proofs.Searching.{extended, met_left, one_left, two_left, three_left}
use Rattle.ix_flow.proofs.order.enter.Goals as goal

pub returns-then-is_listed : goal.returns-then-is_listed
returns-then-is_listed c = met_left (stock_of c.args.store.now) c.args.order.now c.args.tasks.now.items c.args.k c.requires.order (sym c.is_listed.ensures ∙ c.if-is_listed.true)

pub returns-in-One : goal.returns-in-One
returns-in-One c =
    let s = stock_of c.args.store.now in
    extended _ s c.args.order.now (postorder (at s c.args.k)) c.args.tasks.now.items c.extend-in-One.new.tasks.items _ c.extend-in-One.result c.extend-in-One.ensures
    (λ w. one_left s c.args.order.now c.args.tasks.now.items c.extend-in-One.new.tasks.items c.args.k c.in-One.a _ c.requires.order c.requires.below c.in-One.ensures.below c.in-One.ensures.term refl refl refl w)

pub returns-in-Entry : goal.returns-in-Entry
returns-in-Entry c =
    let s = stock_of c.args.store.now in
    extended _ s c.args.order.now (postorder (at s c.args.k)) c.args.tasks.now.items c.extend-in-Entry.new.tasks.items _ c.extend-in-Entry.result c.extend-in-Entry.ensures
    (λ w. one_left s c.args.order.now c.args.tasks.now.items c.extend-in-Entry.new.tasks.items c.args.k c.in-Entry.a _ c.requires.order c.requires.below c.in-Entry.ensures.below c.in-Entry.ensures.term refl refl refl w)

pub returns-in-Two : goal.returns-in-Two
returns-in-Two c =
    let s = stock_of c.args.store.now in
    extended _ s c.args.order.now (postorder (at s c.args.k)) c.args.tasks.now.items c.extend-in-Two.new.tasks.items _ c.extend-in-Two.result c.extend-in-Two.ensures
    (λ w. two_left s c.args.order.now c.args.tasks.now.items c.extend-in-Two.new.tasks.items c.args.k c.in-Two.a c.in-Two.b _ c.requires.order c.requires.below c.in-Two.ensures.below.0 c.in-Two.ensures.below.1 c.in-Two.ensures.term refl refl refl w)

pub returns-in-Three : goal.returns-in-Three
returns-in-Three c =
    let s = stock_of c.args.store.now in
    extended _ s c.args.order.now (postorder (at s c.args.k)) c.args.tasks.now.items c.extend-in-Three.new.tasks.items _ c.extend-in-Three.result c.extend-in-Three.ensures
    (λ w. three_left s c.args.order.now c.args.tasks.now.items c.extend-in-Three.new.tasks.items c.args.k c.in-Three.a c.in-Three.b c.in-Three.c _ c.requires.order c.requires.below c.in-Three.ensures.below.0 c.in-Three.ensures.below.1 c.in-Three.ensures.below.2 c.in-Three.ensures.term refl refl refl w)
