-- The rules of typing, and judgements that go on where nothing is refused.
use Rattle.std.specs.Prelude.{Result, Ok, Err, List, [], ◌∷◌}
use Rattle.ix_tree.specs.declared.token.Span.{Span}

-- the rules that a text can break, in the order in which they are judged at one place (this project's choice)
pub data Rule : Type 0 where
  unknown : Rule
  twice : Rule
  narrow : Rule
  too_wide : Rule
  mixed : Rule
  range : Rule
  index : Rule
  read_after_write : Rule
  double_write : Rule
  second_access : Rule
  in_spawn : Rule
  rom : Rule

-- a rule that is broken, and where
pub record Refusal : Type 0 where
  pub rule : Rule
  pub at : Span

abbrev pub refuse : {A : Type 0} → Rule → Span → Result A Refusal
refuse rule s = Err (record { rule = rule; at = s })

-- the rest is judged where nothing is refused before
abbrev pub and_then : {A B : Type 0} → Result A Refusal → (A → Result B Refusal) → Result B Refusal
and_then (Ok a) rest = rest a
and_then (Err r) rest = Err r

-- what is judged of an item, and the state behind it
pub record Step (S A : Type 0) : Type 0 where
  pub item : A
  pub after : S

-- the items of a list, each judged in the state behind the one before it
abbrev pub each : {S A B : Type 0} → (A → S → Result (Step S B) Refusal) → List A → S → Result (Step S (List B)) Refusal
each f [] s = Ok (record { item = []; after = s })
each f (x ∷ xs) s = and_then (f x s) (λ k. and_then (each f xs k.after) (λ m. Ok (record { item = k.item ∷ m.item; after = m.after })))
