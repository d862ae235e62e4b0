-- One thing is told of each list of steps.
use Rattle.std.proofs.Common.{◌≡◌, ℕ, ◌<◌, List, [], ◌∷◌, sym, ◌∙◌, ap, arith, ◌⊎◌, inl, inr}
use Rattle.ix_cert.specs.declared.report.CertErr.{CertErr}
use Rattle.ix_cert.specs.Faults.{Step, IsFirstBad, IsFirstFault, HasNoFault}

first_of_two : (i j : ℕ) → (i < j) ⊎ ((i ≡ j) ⊎ (j < i))
first_of_two i j = grind arith

same_first : (step : Step) (i j : ℕ) → IsFirstBad step i → IsFirstBad step j → i ≡ j
same_first step i j a b = elim (first_of_two i j) [
  | inl less ↦ absurd (b.before i less a.bad)
  | inr rest ↦ elim rest [
    | inl same ↦ same
    | inr more ↦ absurd (a.before j more b.bad)
  ]
]

pub one_fault : (steps : List Step) (e f : CertErr) → IsFirstFault steps e → IsFirstFault steps f → e ≡ f
one_fault [] e f a b = absurd a
one_fault (step ∷ rest) e f (inl a) (inl b) = sym a.2 ∙ ap step.told (same_first step a.0 b.0 a.1 b.1) ∙ b.2
one_fault (step ∷ rest) e f (inl a) (inr b) = absurd (b.0 a.0 a.1.inside a.1.bad)
one_fault (step ∷ rest) e f (inr a) (inl b) = absurd (a.0 b.0 b.1.inside b.1.bad)
one_fault (step ∷ rest) e f (inr a) (inr b) = one_fault rest e f a.1 b.1

pub no_fault : (steps : List Step) (e : CertErr) → HasNoFault steps → IsFirstFault steps e → ⊥
no_fault [] e none a = a
no_fault (step ∷ rest) e none (inl a) = none.0 a.0 a.1.inside a.1.bad
no_fault (step ∷ rest) e none (inr a) = no_fault rest e none.1 a.1
