-- A store of terms: each node names its arguments by their places, and no term stands twice (this project's choice).
use Rattle.std.specs.Prelude.{◌≡◌, ℕ, ◌<◌, ◌≤◌, List, [], ◌∷◌, ◌++◌, length, get_or}
use Rattle.ix_bits.specs.declared.number.Bits.{Bits}
use Rattle.ix_mean.specs.Core.{u1}
use Rattle.ix_mean.specs.Terms.{Term, t_const, t_read, t_one, t_entry, t_two, t_three, zero_term}
use Rattle.ix_mean.specs.View.{patterns_of}
use Rattle.ix_terms.specs.declared.node.Node.TheVariants as N
use Rattle.ix_terms.specs.declared.node.Node.{Node}

-- the tables of an extension, and nodes over them
pub record Held : Type 0 where
  pub tables : List (List Bits)
  pub nodes : List Node

-- the tables of an extension, and terms over them
pub record Stock : Type 0 where
  pub tables : List (List Bits)
  pub terms : List Term

-- the term at a place
abbrev pub at : Stock → ℕ → Term
at s k = get_or s.terms k zero_term

-- the count of the terms
abbrev pub size : Stock → ℕ
size s = length s.terms

-- the term of a node over terms
abbrev pub decode : Stock → Node → Term
decode s (N.Const ty raw) = t_const ty raw
decode s (N.Read k ty) = t_read k ty
decode s (N.One k ty a) = t_one k ty (at s a)
decode s (N.Entry n ty a) = t_entry n (patterns_of s.tables n) ty (at s a)
decode s (N.Two k ty a b) = t_two k ty (at s a) (at s b)
decode s (N.Three k ty a b c) = t_three k ty (at s a) (at s b) (at s c)

-- a term behind the others
abbrev pub with_term : Stock → Term → Stock
with_term s t = record { tables = s.tables; terms = s.terms ++ t ∷ [] }

-- the terms of nodes, of which each names earlier ones
abbrev pub stock_from : Stock → List Node → Stock
stock_from s [] = s
stock_from s (n ∷ ns) = stock_from (with_term s (decode s n)) ns

abbrev pub stock_of : Held → Stock
stock_of h = stock_from (record { tables = h.tables; terms = [] }) h.nodes

abbrev pub node_at : List Node → ℕ → Node
node_at ns k = get_or ns k (N.Const u1 0)

-- the arguments of a node stand below a place
abbrev pub ArgsBelow : ℕ → Node → Type 0
ArgsBelow k (N.Const ty raw) = Unit {0}
ArgsBelow k (N.Read kind ty) = Unit {0}
ArgsBelow k (N.One kind ty a) = a < k
ArgsBelow k (N.Entry n ty a) = a < k
ArgsBelow k (N.Two kind ty a b) = (a < k) × (b < k)
ArgsBelow k (N.Three kind ty a b c) = (a < k) × (b < k) × (c < k)

-- no term stands at two places
abbrev pub AreDistinct : Stock → Type 0
AreDistinct s = (j k : ℕ) → j < size s → k < size s → at s j ≡ at s k → j ≡ k

-- each node names terms of the store, and is the term at its place
pub record IsNodeAt (s : Stock) (k : ℕ) (n : Node) : Type 0 where
  pub below : ArgsBelow k n
  pub term_is : at s k ≡ decode s n

-- the nodes are those of the terms
pub record AreNodesOf (s : Stock) (ns : List Node) : Type 0 where
  pub distinct : AreDistinct s
  pub nodes : (k : ℕ) → k < length ns → IsNodeAt s k (node_at ns k)
  pub count : size s ≡ length ns

abbrev pub IsStore : Held → Type 0
IsStore h = AreNodesOf (stock_of h) h.nodes

-- a store, and not too many nodes in it
pub record IsKept (h : Held) : Type 0 where
  pub store : IsStore h
  pub few : length h.nodes ≤ 4000000000

-- the terms of one store stand first in another, over the same tables
pub record Grows (old new : Stock) : Type 0 where
  pub tables : new.tables ≡ old.tables
  pub rest : List Term
  pub whole : new.terms ≡ old.terms ++ rest

-- the store has grown, and has the term at a place
pub record Has (old new : Stock) (k : ℕ) (t : Term) : Type 0 where
  pub grows : Grows old new
  pub within : k < size new
  pub is : at new k ≡ t

-- the node is none of these
abbrev pub IsNew : List Node → Node → Type 0
IsNew ns n = (k : ℕ) → k < length ns → node_at ns k ≡ n → ⊥
