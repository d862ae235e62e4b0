-- What an answer says of the words.
use Rattle.std.specs.Prelude.{◌≡◌, ℕ, ◌<◌, ◌≤◌, suc, List, length, take}
use Rattle.ix_verilog.specs.declared.source.Source.{Source}
use Rattle.ix_verilog.specs.Words.{Word}
use Rattle.ix_verilog.specs.Subset.{AreModules, Begins}
use Rattle.ix_vparse.specs.declared.error.ParseErr.{ParseErr}
use Rattle.ix_vparse.specs.declared.error.ParseErr.TheVariants.{At, Memory}

-- The words before one begin a text, and with it they begin none; or there is none, and they are no whole modules.
pub record Leaves (words : List Word) (before : ℕ) : Type 0 where
  pub within : before ≤ length words
  pub front : Begins (take before words)
  pub next : before < length words → Begins (take (suc before) words) → ⊥
  pub end : before ≡ length words → (modules : List Source) → AreModules words modules → ⊥

-- what an error tells of the words is so
abbrev pub IsTold : List Word → ParseErr → Type 0
IsTold words (At word) = Leaves words word
IsTold words Memory = Unit {0}
