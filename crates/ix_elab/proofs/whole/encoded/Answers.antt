use Rattle.ix_tree.specs.TypedView.{typed_tree}
use Rattle.ix_elab.proofs.Causes.{has_typed}
use Rattle.ix_elab.proofs.whole.encoded.Goals as goal

pub encode-requires : goal.encode-requires
encode-requires c = has_typed c.args.bytes.now (typed_tree c.in-Ok.typed) c.in-Ok.ensures.types
