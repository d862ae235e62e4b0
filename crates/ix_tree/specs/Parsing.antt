-- What parsing comes to: the tree, or the first token that is refused (the grammar is that of CoreDSL 2; what is told of a refusal is this project's choice).
use Rattle.std.specs.Prelude.{◌≡◌, ℕ, suc, ◌<◌, ◌≤◌, List, [], ◌∷◌, ◌++◌, length, take, All}
use Rattle.ix_tree.specs.declared.token.Token.{Token}
use Rattle.ix_tree.specs.Trees.{TextTree}
use Rattle.ix_tree.specs.Grammar.{IsText, most_nesting, Derives}

-- the tokens, with these nestings, begin a text of the grammar, however deep it nests
pub record Begins (ts : List Token) (ms : List ℕ) : Type 0 where
  pub rest : List Token
  pub nestings : List ℕ
  pub tree : TextTree
  pub count : length ms ≡ length ts
  pub is : IsText (ts ++ rest) (ms ++ nestings) tree

-- no token nests past the greatest nesting
abbrev pub IsFlat : List ℕ → Type 0
IsFlat ms = All (λ m. m ≤ most_nesting) ms

-- The tokens before n begin a text and nest flat; with token n they begin none, or, where there is no token n, they are none.
pub record IsRefusedAt (ts : List Token) (n : ℕ) : Type 0 where
  pub place : n ≤ length ts
  pub nestings : List ℕ
  pub front : Begins (take n ts) nestings
  pub flat : IsFlat nestings
  pub next : n < length ts → (ms : List ℕ) → Begins (take (suc n) ts) ms → ⊥
  pub end : n ≡ length ts → (ms : List ℕ) (x : TextTree) → IsText ts ms x → ⊥

-- the tokens up to n begin a text, and token n is the first that nests past the greatest nesting
pub record IsTooDeepAt (ts : List Token) (n : ℕ) : Type 0 where
  pub place : n < length ts
  pub nestings : List ℕ
  pub nesting : ℕ
  pub front : Begins (take (suc n) ts) (nestings ++ nesting ∷ [])
  pub flat : IsFlat nestings
  pub deep : most_nesting < nesting

-- what is told of a list of tokens
pub data Verdict : Type 0 where
  is_tree : TextTree → Verdict
  refused_at : ℕ → Verdict
  too_deep_at : ℕ → Verdict

abbrev pub IsVerdict : List Token → Verdict → Type 0
IsVerdict ts (is_tree x) = Derives ts x
IsVerdict ts (refused_at n) = IsRefusedAt ts n
IsVerdict ts (too_deep_at n) = IsTooDeepAt ts n

-- one thing is told of each list of tokens
abbrev pub VerdictLaw : Type 0
VerdictLaw = (ts : List Token) (v w : Verdict) → IsVerdict ts v → IsVerdict ts w → v ≡ w

-- and something is
abbrev pub SomeVerdictLaw : Type 0
SomeVerdictLaw = (ts : List Token) → (v : Verdict) × IsVerdict ts v
