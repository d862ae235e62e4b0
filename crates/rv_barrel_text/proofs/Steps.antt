-- A run of two harts as it is made row by row, where what it is of is known by its parts.
use Rattle.std.proofs.Common.{◌≡◌, ◌∙◌, sym, ap, ℕ, suc, ◌+◌, ◌-◌, ◌<◌, List, ◌++◌, Bool, false, arith}
use Rattle.ix_extension.specs.Extensions.{ExtensionTree, view_extension}
use Rattle.ix_plan.specs.declared.design.Design.{Design}
use Rattle.ix_plan.specs.declared.design.Target.{Target}
use Rattle.rv_seq.specs.declared.arch.Arch.{Arch}
use Rattle.rv_harts.specs.declared.row.BarrelRow.{BarrelRow}
use Rattle.rv_harts.specs.BarrelRows.{hart_setting, barrel_row}
use Rattle.rv_harts.specs.HartStates.{architecture, outstanding_targets}
use Rattle.rv_barrel_text.specs.BarrelRowText.{barrel_row_text}
use Rattle.rv_barrel_text.specs.BarrelText.{hart_state_text, ends_text, are_done}
use Rattle.rv_barrel_text.proofs.Rows.{text_from, goes_on}

module _ (d e : Design) (a b c f : List ℕ) (same : e ≡ d) (first : c ≡ a) (second : f ≡ b) where
  -- whether both harts have stopped
  pub done_there : (n m : ℕ) (r : Bool) → m ≡ n → r ≡ are_done e c f m → are_done d a b n ≡ r
  done_there n m r made h =
      sym (h ∙ ap (λ x. are_done x c f m) same ∙ ap (λ x. are_done d x f m) first ∙ ap (λ x. are_done d a x m) second ∙ ap (λ x. are_done d a b x) made)

  -- the row that is made
  pub row_there : (n m : ℕ) (row : BarrelRow) → m ≡ n → row ≡ barrel_row e c f m → row ≡ barrel_row d a b n
  row_there n m row made h =
      h ∙ ap (λ x. barrel_row x c f m) same ∙ ap (λ x. barrel_row d x f m) first ∙ ap (λ x. barrel_row d a x m) second ∙ ap (λ x. barrel_row d a b x) made

  -- both states
  pub ends_there : (n : ℕ) (x : ExtensionTree) (one other : List (ℕ × Target)) (s t : Arch) → x ≡ view_extension d.extension
      → one ≡ outstanding_targets (hart_setting e c) 0 n → other ≡ outstanding_targets (hart_setting e f) 1 n
      → s ≡ architecture (view_extension e.extension) (hart_setting e c) 0 n → t ≡ architecture (view_extension e.extension) (hart_setting e f) 1 n
      → ends_text d a b n ≡ hart_state_text 0 x one s ++ hart_state_text 1 x other t
  ends_there n x one other s t is p q u v =
      let y = view_extension e.extension in
      let xs : y ≡ x = ap (λ (z : Design). view_extension z.extension) same ∙ sym is in
      sym (ap (λ z. ends_text z c f n) same ∙ ap (λ z. ends_text d z f n) first ∙ ap (λ z. ends_text d a z n) second)
      ∙ ap (λ z. hart_state_text 0 z (outstanding_targets (hart_setting e c) 0 n) (architecture y (hart_setting e c) 0 n) ++ hart_state_text 1 z (outstanding_targets (hart_setting e f) 1 n) (architecture y (hart_setting e f) 1 n)) xs
      ∙ ap (λ z. hart_state_text 0 x z (architecture y (hart_setting e c) 0 n) ++ hart_state_text 1 x (outstanding_targets (hart_setting e f) 1 n) (architecture y (hart_setting e f) 1 n)) (sym p)
      ∙ ap (λ z. hart_state_text 0 x one z ++ hart_state_text 1 x (outstanding_targets (hart_setting e f) 1 n) (architecture y (hart_setting e f) 1 n)) (sym u)
      ∙ ap (λ z. hart_state_text 0 x one s ++ hart_state_text 1 x z (architecture y (hart_setting e f) 1 n)) (sym q)
      ∙ ap (λ z. hart_state_text 0 x one s ++ hart_state_text 1 x other z) (sym v)

-- where one more row may be made, and both harts have not stopped, the text goes on with it
pub next_row : (d : Design) (a b : List ℕ) (cycles n stages : ℕ) (row : BarrelRow) → n < cycles → are_done d a b n ≡ false → stages ≡ d.sheet.shape.stages → row ≡ barrel_row d a b n
    → text_from d a b (cycles - n) n ≡ barrel_row_text stages n row ++ text_from d a b (cycles - (n + 1)) (n + 1)
next_row d a b cycles n stages row lt going at is =
    let left = cycles - (n + 1) in
    let more : cycles - n ≡ suc left = omega (arith, lt) in
    let next : suc n ≡ n + 1 = omega arith in
    ap (λ k. text_from d a b k n) more
    ∙ goes_on d a b left n going
    ∙ ap (λ k. barrel_row_text d.sheet.shape.stages n (barrel_row d a b n) ++ text_from d a b left k) next
    ∙ ap (λ k. barrel_row_text k n (barrel_row d a b n) ++ text_from d a b left (n + 1)) (sym at)
    ∙ ap (λ z. barrel_row_text stages n z ++ text_from d a b left (n + 1)) (sym is)
