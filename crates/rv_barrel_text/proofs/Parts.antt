-- The text of a row, of its harts and of a state in parts.
use Rattle.std.proofs.Common.{◌≡◌, ◌∙◌, refl, sym, ap, ℕ, zero, suc, ◌+◌, ◌<◌, ◌≤◌, List, [], ◌∷◌, ◌++◌, drop, length, get_or, append_assoc, arith}
use Rattle.std.specs.Prelude.{codes}
use Rattle.std.proofs.lemmas.List.{append-nil}
use Rattle.ix_extension.specs.Extensions.{ExtensionTree}
use Rattle.ix_plan.specs.declared.design.Target.{Target}
use Rattle.rv_seq.specs.declared.arch.Arch.{Arch}
use Rattle.rv_text.specs.RunText.{head_lines, memory_lines}
use Rattle.rv_harts.specs.declared.row.BarrelRow.{BarrelRow}
use Rattle.rv_harts.specs.declared.row.HartPart.{HartPart}
use Rattle.rv_barrel_text.specs.BarrelRowText.{hart_text, lines_text, of_each, barrel_line, barrel_row_text}
use Rattle.rv_barrel_text.specs.BarrelText.{hart_state_text}

-- the next hart's text goes behind the others
pub next_part : (text : ℕ → HartPart → List ℕ) (h k : ℕ) (parts : List HartPart) (d : HartPart) → k < length parts → of_each text h (drop k parts) ≡ text h (get_or parts k d) ++ of_each text (suc h) (drop (suc k) parts)
next_part text h k [] d lt = absurd (omega (arith, lt))
next_part text h zero (part ∷ parts) d lt = refl
next_part text h (suc k) (part ∷ parts) d lt = next_part text h k parts d (omega (arith, lt))

pub put_part : (text : ℕ → HartPart → List ℕ) (h : ℕ) (parts : List HartPart) (d : HartPart) (rest out out' : List ℕ) → h < length parts → out' ≡ out ++ text h (get_or parts h d)
    → out ++ (of_each text h (drop h parts) ++ rest) ≡ out' ++ (of_each text (h + 1) (drop (h + 1) parts) ++ rest)
put_part text h parts d rest out out' lt e =
    let f : suc h ≡ h + 1 = omega arith in
    ap (λ l. out ++ (l ++ rest)) (next_part text h h parts d lt)
    ∙ ap (λ l. out ++ l) (append_assoc (text h (get_or parts h d)) (of_each text (suc h) (drop (suc h) parts)) rest)
    ∙ sym (append_assoc out (text h (get_or parts h d)) (of_each text (suc h) (drop (suc h) parts) ++ rest))
    ∙ ap (λ l. l ++ (of_each text (suc h) (drop (suc h) parts) ++ rest)) (sym e)
    ∙ ap (λ n. out' ++ (of_each text n (drop n parts) ++ rest)) f

-- no hart is left
pub no_part : (text : ℕ → HartPart → List ℕ) (h : ℕ) (parts : List HartPart) → length parts ≤ h → of_each text h (drop h parts) ≡ []
no_part text h parts le = ap (of_each text h) (none parts h le) where
  none : (l : List HartPart) (n : ℕ) → length l ≤ n → drop n l ≡ []
  none [] zero le = refl
  none [] (suc n) le = refl
  none (p ∷ l) zero le = absurd (omega (arith, le))
  none (p ∷ l) (suc n) le = none l n (omega (arith, le))

-- the line of a row, and then those of its harts
pub row_is : (stages number : ℕ) (row : BarrelRow) (rest : List ℕ) → barrel_row_text stages number row ++ rest ≡ barrel_line stages number row ++ (of_each lines_text 0 row.parts ++ rest)
unfolding barrel_row_text
row_is stages number row rest = append_assoc (barrel_line stages number row) (of_each lines_text 0 row.parts) rest

-- with nothing behind it
pub alone : (h : ℕ) (x : ExtensionTree) (outstanding : List (ℕ × Target)) (s : Arch) → hart_state_text h x outstanding s ≡ hart_state_text h x outstanding s ++ []
alone h x outstanding s = sym (append-nil (hart_state_text h x outstanding s))

-- the first lines of a state, and then those of its memory
pub state_is : (h : ℕ) (x : ExtensionTree) (outstanding : List (ℕ × Target)) (s : Arch) (registers : ℕ) (rest : List ℕ) → length x.registers ≡ registers
    → hart_state_text h x outstanding s ++ rest ≡ (codes "state " ++ hart_text h ++ codes "\n" ++ head_lines registers outstanding s) ++ (memory_lines s.mem 262144 0 ++ rest)
unfolding hart_state_text
state_is h x outstanding s registers rest e =
    append_assoc (codes "state " ++ hart_text h ++ codes "\n" ++ head_lines (length x.registers) outstanding s) (memory_lines s.mem 262144 0) rest
    ∙ ap (λ n. (codes "state " ++ hart_text h ++ codes "\n" ++ head_lines n outstanding s) ++ (memory_lines s.mem 262144 0 ++ rest)) e
