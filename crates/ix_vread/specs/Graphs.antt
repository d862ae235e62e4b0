-- Cells by number, and which cell reads which.
use Rattle.std.specs.Prelude.{◌≡◌, ◌⊎◌, ℕ, ◌<◌, List, [], ◌∷◌, map, length, slice_index_or, Contains, Option, Some, None}
use Rattle.std.specs.List.{flat_map}
use Rattle.std.specs.BTreeMap.{BTreeMap, get_by}
use Rattle.std.specs.Cmp.Lexicographic.{slice_cmp}
use Rattle.std.specs.Ordering.{nat_cmp}
use denote.Ref.{Bor}
use Rattle.ix_net.specs.declared.netlist.Cell.{Cell}
use Rattle.ix_net.specs.Signals.{cell_port, place_of}
use Rattle.ix_net.specs.Forms.{operands}
use Rattle.ix_net.specs.Chain.{Chain}

-- the map of cells by their targets
abbrev pub Map : Type 0
Map = BTreeMap (Bor (List ℕ)) ℕ

-- what it has at a name
abbrev pub found : Map → List ℕ → Option ℕ
found m n = get_by (λ (k : Bor (List ℕ)). slice_cmp nat_cmp n k.now) m

abbrev pub listed : Option ℕ → List ℕ
listed None = []
listed (Some k) = k ∷ []

-- the numbers of names that have one
abbrev pub read_by : (List ℕ → Option ℕ) → List (List ℕ) → List ℕ
read_by f ns = flat_map (λ n. listed (f n)) ns

-- the number of the cell with this target
abbrev pub cell_of : List Cell → List ℕ → Option ℕ
cell_of cells n = place_of (map cell_port cells) n

-- for each cell those that it reads
abbrev pub graph_of : List Cell → List (List ℕ)
graph_of cells = map (λ c. read_by (cell_of cells) (operands c.form)) cells

-- cell b reads cell a
pub record Edge (graph : List (List ℕ)) (a b : ℕ) : Type 0 where
  pub source : a < length graph
  pub reader : b < length graph
  pub reads : Contains (slice_index_or graph b []) a

-- the cell depends on itself
abbrev pub IsOnLoop : List (List ℕ) → ℕ → Type 0
IsOnLoop graph k = Chain (Edge graph) k k

-- it is the first that does
pub record IsFirstOnLoop (graph : List (List ℕ)) (k : ℕ) : Type 0 where
  pub within : k < length graph
  pub loop : IsOnLoop graph k
  pub before : (j : ℕ) → j < k → IsOnLoop graph j → ⊥

-- no cell does
abbrev pub HasNoLoop : List (List ℕ) → Type 0
HasNoLoop graph = (k : ℕ) → k < length graph → IsOnLoop graph k → ⊥

-- for each cell those that read it
pub record AreReaders (graph readers : List (List ℕ)) : Type 0 where
  pub size : length readers ≡ length graph
  pub from : (a b : ℕ) → Contains (slice_index_or readers a []) b → Edge graph a b
  pub to : (a b : ℕ) → Edge graph a b → Contains (slice_index_or readers a []) b

-- the same as far as the first cells read, so many of them
pub record AreReadersIn (graph : List (List ℕ)) (count : ℕ) (readers : List (List ℕ)) : Type 0 where
  pub size : length readers ≡ length graph
  pub from : (a b : ℕ) → Contains (slice_index_or readers a []) b → Edge graph a b
  pub to : (a b : ℕ) → b < count → Edge graph a b → Contains (slice_index_or readers a []) b

-- the reader is put behind those of each cell that it reads
pub record Puts (read : List ℕ) (reader : ℕ) (old new : List (List ℕ)) : Type 0 where
  pub size : length new ≡ length old
  pub kept : (a b : ℕ) → Contains (slice_index_or old a []) b → Contains (slice_index_or new a []) b
  pub put : (a : ℕ) → a < length old → Contains read a → Contains (slice_index_or new a []) reader
  pub only : (a b : ℕ) → Contains (slice_index_or new a []) b → Contains (slice_index_or old a []) b ⊎ ((a < length old) × Contains read a × (b ≡ reader))
