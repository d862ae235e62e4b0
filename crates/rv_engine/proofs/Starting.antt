-- What is kept before the first row is the first machine.
use Rattle.std.proofs.Common.{◌≡◌, ◌∙◌, refl, ap, ℕ, zero, suc, ◌≤◌, List, [], ◌∷◌, take, Option, Some, None, false, arith}
use Rattle.std.specs.Prelude.{replicate}
use Rattle.ix_bits.specs.declared.number.Bits.{Bits}
use Rattle.rv_seq.specs.declared.arch.Arch.{Arch}
use Rattle.rv_seq.specs.States.{first, initials}
use Rattle.rv_holds.specs.Tokens.{Slots}
use Rattle.rv_engine.specs.Owing.{Outstanding, outstanding_of}
use Rattle.rv_engine.specs.Settings.{Setting, shape_of, tree_of, first_state, first_machine}
use Rattle.rv_engine.specs.Kept.{machine_with}

take_none : (n m : ℕ) → n ≤ m → ◌≡◌ {A = Slots} (take n (replicate m None)) (replicate n None)
take_none zero m le = refl
take_none (suc n) zero le = absurd (omega (arith, le))
take_none (suc n) (suc m) le = ap (λ (us : Slots). None ∷ us) (take_none n m (omega (arith, le)))

first_custom : (k : Setting) (s : Arch) → s ≡ first_state (tree_of k) k.lines → s.custom ≡ initials (tree_of k).registers
unfolding first
first_custom k s e = ap (λ (a : Arch). a.custom) e ∙ by_lines k.lines where
  by_lines : (lines : Option (List ℕ)) → (first_state (tree_of k) lines).custom ≡ initials (tree_of k).registers
  by_lines None = refl
  by_lines (Some l) = refl

pub first_told : (k : Setting) (s : Arch) → s ≡ first_state (tree_of k) k.lines → (o : Outstanding) → o ≡ outstanding_of k.design [] [] → machine_with (record { fetch = 0; next = 0; accesses = 0; stood = 0; rows = 0; waiting = false }) s.custom s o (take (shape_of k).stages (replicate 5 None)) ≡ first_machine k
first_told k s e o h =
    let start = λ (future : List Bits) (arch : Arch) (slots : Slots). machine_with (record { fetch = 0; next = 0; accesses = 0; stood = 0; rows = 0; waiting = false }) future arch (outstanding_of k.design [] []) slots in
    ap (λ z. machine_with (record { fetch = 0; next = 0; accesses = 0; stood = 0; rows = 0; waiting = false }) s.custom s z (take (shape_of k).stages (replicate 5 None))) h
    ∙ ap (λ (us : Slots). start s.custom s us) (take_none (shape_of k).stages 5 (shape_of k).lawful.most)
    ∙ ap (λ (file : List Bits). start file s (replicate (shape_of k).stages None)) (first_custom k s e)
    ∙ ap (λ (a : Arch). start (initials (tree_of k).registers) a (replicate (shape_of k).stages None)) e
