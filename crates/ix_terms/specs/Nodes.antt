-- When two nodes are one, and what is fed to a hasher (this project's choice).
use Rattle.std.specs.Prelude.{◌++◌, Bool, false, ◌&&◌, nat_eq}
use Rattle.std.specs.Hash as fed
use Rattle.ix_bits.specs.declared.number.Ty.{Ty}
use Rattle.ix_graph.specs.declared.kind.Kind.{Kind}
use Rattle.ix_graph.specs.Kinds.{place_of}
use Rattle.ix_graph.specs.Roles.{first_number, second_number, same_kind}
use Rattle.ix_mean.specs.Terms.{same_ty}
use Rattle.ix_terms.specs.declared.node.Node.TheVariants as N
use Rattle.ix_terms.specs.declared.node.Node.{Node}

-- the test of nodes
abbrev pub same_node : Node → Node → Bool
same_node (N.Const ty raw) (N.Const ty' raw') = same_ty ty ty' && nat_eq raw raw'
same_node (N.Read k ty) (N.Read k' ty') = same_kind k k' && same_ty ty ty'
same_node (N.One k ty a) (N.One k' ty' a') = same_kind k k' && same_ty ty ty' && nat_eq a a'
same_node (N.Entry n ty a) (N.Entry n' ty' a') = nat_eq n n' && same_ty ty ty' && nat_eq a a'
same_node (N.Two k ty a b) (N.Two k' ty' a' b') = same_kind k k' && same_ty ty ty' && nat_eq a a' && nat_eq b b'
same_node (N.Three k ty a b c) (N.Three k' ty' a' b' c') = same_kind k k' && same_ty ty ty' && nat_eq a a' && nat_eq b b' && nat_eq c c'
same_node _ _ = false

-- the bytes of a kind, a type and numbers
abbrev pub fed_kind : Kind → fed.HashWrites
fed_kind kind = fed.u8 (place_of kind) ++ fed.u16 (first_number kind) ++ fed.u8 (second_number kind)

abbrev pub fed_ty : Ty → fed.HashWrites
fed_ty ty = fed.bool ty.signed ++ fed.u8 ty.width

abbrev pub fed_node : Node → fed.HashWrites
fed_node (N.Const ty raw) = fed.u8 0 ++ fed_ty ty ++ fed.u128 raw
fed_node (N.Read kind ty) = fed.u8 1 ++ fed_kind kind ++ fed_ty ty
fed_node (N.One kind ty a) = fed.u8 2 ++ fed_kind kind ++ fed_ty ty ++ fed.u32 a
fed_node (N.Entry n ty a) = fed.u8 3 ++ fed_ty ty ++ fed.usize n ++ fed.u32 a
fed_node (N.Two kind ty a b) = fed.u8 4 ++ fed_kind kind ++ fed_ty ty ++ fed.u32 a ++ fed.u32 b
fed_node (N.Three kind ty a b c) = fed.u8 5 ++ fed_kind kind ++ fed_ty ty ++ fed.u32 a ++ fed.u32 b ++ fed.u32 c
