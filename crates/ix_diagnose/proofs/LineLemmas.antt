-- A byte stands in one line.
use Rattle.std.proofs.Common.{◌≡◌, ◌≢◌, ◌∙◌, ap, ℕ, ◌<◌, ◌≤◌, ◌-◌, List, length, get_or, inl, inr, arith, refl, Option, Some, None, Result, Ok, Err}
use Rattle.std.specs.Prelude.{IfOk, IsSomeAnd}
use Rattle.std.proofs.lemmas.Bool.{cases_lt}
use Rattle.ix_diagnose.specs.declared.place.Place.{Place}
use Rattle.ix_diagnose.specs.Lines.{StartsLine, line_number}
use Rattle.ix_diagnose.specs.Shown.{TellsAt}
use Rattle.ix_diagnose.specs.Refusals.{TellsLine}
use Rattle.ix_diagnose.specs.Findings.{StandsIn}

-- no line starts between the start of a line and a byte of it
no_later : (bytes : List ℕ) (a b at : ℕ) → ((k : ℕ) → a ≤ k → k < at → get_or bytes k 0 ≢ 10) → StartsLine bytes b → b ≤ at → b ≤ a
no_later bytes a b at inside (inl first) h = omega (arith, first)
no_later bytes a b at inside (inr feed) h =
    elim (cases_lt a b) [ inl less ↦ absurd (inside (b - 1) (omega (arith, less)) (omega (arith, less, h)) feed) | inr most ↦ most ]

same_start : (bytes : List ℕ) (a b at : ℕ) → ((k : ℕ) → a ≤ k → k < at → get_or bytes k 0 ≢ 10) → ((k : ℕ) → b ≤ k → k < at → get_or bytes k 0 ≢ 10)
    → StartsLine bytes a → StartsLine bytes b → a ≤ at → b ≤ at → a ≡ b
same_start bytes a b at fa fb sa sb ha hb =
    let x = no_later bytes a b at fa sb hb in let y = no_later bytes b a at fb sa ha in omega (arith, x, y)

-- what is told of a byte in the line of a number is told at this line
told_at_line : (name bytes : List ℕ) (n from to : ℕ) (text : List ℕ) → StandsIn bytes n from → TellsAt name bytes from to text → TellsLine name bytes n text
told_at_line name bytes n from to text s t =
    let e = same_start bytes t.start s.start from (λ k a b. t.line.inside k a (omega (arith, b, t.before))) s.inside t.line.starts s.starts t.behind s.behind in
    record { from = from; to = to; tells = t; number_is = ap (λ z. line_number bytes z) e ∙ s.number_is }

pub told_line : {S E : Type 0} (bytes_of : S → List ℕ) (name bytes : List ℕ) (n : ℕ) (place : Option Place) (r : Result S E)
    → IsSomeAnd place (λ p. StandsIn bytes n p.from)
    → ((from to : ℕ) → place ≡ Some (record { from = from; to = to }) → from ≤ length bytes → IfOk r (λ text. TellsAt name bytes from to (bytes_of text)))
    → IfOk r (λ text. TellsLine name bytes n (bytes_of text))
told_line f name bytes n None r s tells = absurd s
told_line f name bytes n (Some p) (Err e) s tells = tt
told_line f name bytes n (Some p) (Ok x) s tells = told_at_line name bytes n p.from p.to (f x) s (tells p.from p.to refl s.within)
