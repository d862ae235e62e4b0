-- A row without what stands in stage 0: holds of cells above look at the same.
use Rattle.std.proofs.Common.{◌≡◌, ◌∙◌, refl, sym, ap, ℕ, zero, suc, ◌<◌, List, [], ◌∷◌, take, Option, Some, None, arith, inl, inr}
use Rattle.std.specs.Prelude.{slice_get, if◌then◌else◌}
use Rattle.rv_trace.specs.declared.row.Cell.{Cell}
use Rattle.rv_trace.specs.declared.row.Row.{Row}
use Rattle.rv_trace.specs.Trace.{is_flushed, is_retired, place}
use Rattle.rv_trace.specs.RowParts.{IsOlder}
use Rattle.rv_lawful.specs.Settings.{Setting, Stands}
use Rattle.rv_lawful.specs.Outstanding.{is_written}
use Rattle.rv_lawful.specs.LawfulTrace.{IsWordOf}
use Rattle.rv_rows.specs.Kinds.{with_cell, upper}

-- what stands above stage 0 is the same

get_upper : (n stage : ℕ) (cells : List (Option Cell)) → slice_get (take n (with_cell 0 None cells)) (suc stage) ≡ slice_get (take n cells) (suc stage)
get_upper zero stage [] = refl
get_upper zero stage (c ∷ rest) = refl
get_upper (suc n) stage [] = refl
get_upper (suc n) stage (c ∷ rest) = refl

pub stands_up : (k : Setting) (row : Row) (stage : ℕ) (c : Cell) → 0 < stage → Stands k row stage c → Stands k (upper row) stage c
stands_up k row zero c lt s = absurd (omega (arith, lt))
stands_up k row (suc stage) c lt s = get_upper k.shape.stages stage row.cells ∙ s

pub stands_down : (k : Setting) (row : Row) (stage : ℕ) (c : Cell) → Stands k (upper row) stage c → (0 < stage) × Stands k row stage c
stands_down k row zero c s = absurd (none_first k.shape.stages row.cells s) where
  none_first : (n : ℕ) (cells : List (Option Cell)) → slice_get (take n (with_cell 0 None cells)) 0 ≡ Some (Some c) → ⊥
  none_first zero [] e = cc
  none_first zero (d ∷ rest) e = cc
  none_first (suc n) [] e = cc
  none_first (suc n) (d ∷ rest) e = cc
stands_down k row (suc stage) c s = (omega arith, sym (get_upper k.shape.stages stage row.cells) ∙ s)

-- marks are the same

pub flushed_up : (row : Row) (earlier : List Row) (s : ℕ) → is_flushed (upper row ∷ earlier) s ≡ is_flushed (row ∷ earlier) s
unfolding is_flushed
flushed_up row earlier s = refl

pub retired_up : (row : Row) (earlier : List Row) (s : ℕ) → is_retired (upper row ∷ earlier) s ≡ is_retired (row ∷ earlier) s
unfolding is_retired
retired_up row earlier s = refl

pub written_up : (row : Row) (earlier : List Row) (s : ℕ) → is_written (upper row ∷ earlier) s ≡ is_written (row ∷ earlier) s
unfolding is_written
written_up row earlier s = refl

pub place_up : (row : Row) (earlier : List Row) (s : ℕ) → place (upper row ∷ earlier) s ≡ place (row ∷ earlier) s
unfolding place
place_up row earlier zero = refl
place_up row earlier (suc s) =
    ap (λ b. if b then place (upper row ∷ earlier) s else suc (place (upper row ∷ earlier) s)) (flushed_up row earlier s)
    ∙ ap (λ n. if is_flushed (row ∷ earlier) s then n else suc n) (place_up row earlier s)

pub older_up : (row : Row) (earlier : List Row) (s j : ℕ) → IsOlder (row ∷ earlier) s j → IsOlder (upper row ∷ earlier) s j
older_up row earlier s j o = record { lower = o.lower; unflushed = flushed_up row earlier j ∙ o.unflushed }

pub older_down : (row : Row) (earlier : List Row) (s j : ℕ) → IsOlder (upper row ∷ earlier) s j → IsOlder (row ∷ earlier) s j
older_down row earlier s j o = record { lower = o.lower; unflushed = sym (flushed_up row earlier j) ∙ o.unflushed }

-- words are the same but of what stands in stage 0

pub word_up : (k : Setting) (row : Row) (earlier : List Row) (j word : ℕ) → ((c : Cell) → Stands k row 0 c → c.serial ≡ j → ⊥) → IsWordOf k (row ∷ earlier) j word → IsWordOf k (upper row ∷ earlier) j word
word_up k row earlier j word apart (inr w) = inr w
word_up k row earlier j word apart (inl (zero, c, s, e, w)) = absurd (apart c s e)
word_up k row earlier j word apart (inl (suc stage, c, s, e, w)) = inl (suc stage, c, stands_up k row (suc stage) c (omega arith) s, e, w)

pub word_down : (k : Setting) (row : Row) (earlier : List Row) (j word : ℕ) → IsWordOf k (upper row ∷ earlier) j word → IsWordOf k (row ∷ earlier) j word
word_down k row earlier j word (inr w) = inr w
word_down k row earlier j word (inl w) = inl (w.0, w.1, (stands_down k row w.0 w.1 w.2).1, w.3, w.4)
