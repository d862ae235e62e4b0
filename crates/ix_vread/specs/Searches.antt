-- Which cells are known to depend on themselves, as the cells of an order are looked at from the last one on.
use Rattle.std.specs.Prelude.{◌≡◌, ◌≢◌, ◌⊎◌, ℕ, ◌+◌, ◌*◌, ◌<◌, ◌≤◌, List, [], ◌∷◌, length, slice_index_or, Contains}
use Rattle.ix_net.specs.Chain.{Chain}
use Rattle.ix_vread.specs.declared.mark.Mark.{Mark}
use Rattle.ix_vread.specs.declared.mark.Mark.TheVariants.{New, Free, Looped}
use Rattle.ix_vread.specs.Graphs.{Edge}

-- cell a feeds cell b, by the lists of readers
abbrev pub Feeds : List (List ℕ) → ℕ → ℕ → Type 0
Feeds readers a b = Edge readers b a

-- the mark of a cell; what is no cell is free
abbrev pub mark_at : List Mark → ℕ → Mark
mark_at marks k = slice_index_or marks k Free

abbrev pub IsNew : List Mark → ℕ → Type 0
IsNew marks k = mark_at marks k ≡ New

abbrev pub IsLooped : List Mark → ℕ → Type 0
IsLooped marks k = mark_at marks k ≡ Looped

-- how many are new
abbrev pub new_count : List Mark → ℕ
new_count [] = 0
new_count (New ∷ ms) = new_count ms + 1
new_count (Free ∷ ms) = new_count ms
new_count (Looped ∷ ms) = new_count ms

-- some of the cells that were new are marked, and nothing else has changed
abbrev pub MarksOnly : (ℕ → Type 0) → List Mark → List Mark → Type 0
MarksOnly Is marks marks' = (k : ℕ) → (mark_at marks' k ≡ mark_at marks k) ⊎ (IsNew marks k × IsLooped marks' k × Is k)

-- the readers are marked, and those that were new are left to be looked at
pub record Visits (cells : List ℕ) (marks : List Mark) (left : List ℕ) (marks' : List Mark) (left' : List ℕ) : Type 0 where
  pub size : length marks' ≡ length marks
  pub only : MarksOnly (Contains cells) marks marks'
  pub seen : (k : ℕ) → Contains cells k → mark_at marks' k ≢ New
  pub listed : (k : ℕ) → IsNew marks k → IsLooped marks' k → Contains left' k
  pub stays : (k : ℕ) → Contains left k → Contains left' k
  pub from : (k : ℕ) → Contains left' k → Contains left k ⊎ (IsNew marks k × IsLooped marks' k)
  pub less : 2 * new_count marks' + length left' ≤ 2 * new_count marks + length left

-- cell a feeds cell b, which is new
abbrev pub FeedsNew : List (List ℕ) → List Mark → ℕ → ℕ → Type 0
FeedsNew readers marks a b = Feeds readers a b × IsNew marks b

-- the root, or a cell that was new and is marked
abbrev pub IsReached : List Mark → List Mark → ℕ → ℕ → Type 0
IsReached marks marks' root k = (k ≡ root) ⊎ (IsNew marks k × IsLooped marks' k)

-- what depends on the root by cells that were new is marked
pub record Reaches (readers : List (List ℕ)) (root : ℕ) (marks marks' : List Mark) : Type 0 where
  pub size : length marks' ≡ length marks
  pub only : MarksOnly (Chain (FeedsNew readers marks) root) marks marks'
  pub closed : (a b : ℕ) → IsReached marks marks' root a → Feeds readers a b → mark_at marks' b ≢ New

-- the cells from that place of the order on are looked at
pub record AreKnown (readers : List (List ℕ)) (order : List ℕ) (place : ℕ) (marks : List Mark) : Type 0 where
  pub size : length marks ≡ length readers
  pub looped : (k : ℕ) → IsLooped marks k → Chain (Feeds readers) k k
  pub free : (k : ℕ) → mark_at marks k ≡ Free → Chain (Feeds readers) k k → ⊥
  -- what depends on a cell, and that cell on it, is marked with it
  pub whole : (a b : ℕ) → IsLooped marks a → Chain (Feeds readers) a b → Chain (Feeds readers) b a → IsLooped marks b
  pub past : (i : ℕ) → place ≤ i → i < length order → mark_at marks (slice_index_or order i 0) ≢ New

-- those that are marked depend on themselves, and no others
pub record AreLoops (readers : List (List ℕ)) (marks : List Mark) : Type 0 where
  pub size : length marks ≡ length readers
  pub looped : (k : ℕ) → IsLooped marks k → Chain (Feeds readers) k k
  pub whole : (k : ℕ) → Chain (Feeds readers) k k → IsLooped marks k
