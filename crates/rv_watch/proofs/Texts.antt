-- The texts of rows that take no interrupt are those of what they show.
use Rattle.std.proofs.Common.{◌≡◌, ℕ, suc, List, [], ◌∷◌, ◌++◌, map, reverse, refl, sym, ap, ◌∙◌, subst, None}
use Rattle.std.proofs.lemmas.List.{reverse-append}
use Rattle.rv_trace.specs.declared.row.Row.{Row}
use Rattle.rv_trace.specs.TraceText.{trace_text}
use Rattle.rv_shown.specs.Shown.{shown_of, shown_text, shown_texts, TextLaw}
use Rattle.rv_reader.specs.Forms.{IsRow}
use Rattle.rv_reader.specs.Traces.{AreRows}

-- each row takes no interrupt, and shows what is in form
pub record IsShown (widths : List ℕ) (stages : ℕ) (row : Row) : Type 0 where
  pub untaken : row.taken ≡ None
  pub good : IsRow widths stages (shown_of stages row)

abbrev pub AreShown : List ℕ → ℕ → List Row → Type 0
AreShown widths stages [] = Unit {0}
AreShown widths stages (row ∷ rows) = IsShown widths stages row × AreShown widths stages rows

shown_join : (widths : List ℕ) (stages : ℕ) (xs ys : List Row) → AreShown widths stages xs → AreShown widths stages ys → AreShown widths stages (xs ++ ys)
shown_join widths stages [] ys h g = g
shown_join widths stages (x ∷ xs) ys h g = (h.0, shown_join widths stages xs ys h.1 g)

pub shown_reverse : (widths : List ℕ) (stages : ℕ) (rows : List Row) → AreShown widths stages rows → AreShown widths stages (reverse rows)
shown_reverse widths stages [] h = tt
shown_reverse widths stages (row ∷ rows) h = subst (AreShown widths stages) (sym (reverse-append (row ∷ []) rows)) (shown_join widths stages (reverse rows) (row ∷ []) (shown_reverse widths stages rows h.1) (h.0, tt))

pub rows_good : (widths : List ℕ) (stages : ℕ) (rows : List Row) → AreShown widths stages rows → AreRows widths stages (map (shown_of stages) rows)
rows_good widths stages [] h = tt
rows_good widths stages (row ∷ rows) h = (h.0.good, rows_good widths stages rows h.1)

pub texts_same : TextLaw → (widths : List ℕ) (stages number : ℕ) (rows : List Row) → AreShown widths stages rows → trace_text stages number rows ≡ shown_texts number (map (shown_of stages) rows)
unfolding trace_text shown_texts
texts_same law widths stages number [] h = refl
texts_same law widths stages number (row ∷ rows) h =
    ap (λ t. t ++ trace_text stages (suc number) rows) (law stages number row h.0.untaken)
    ∙ ap (λ t. shown_text number (shown_of stages row) ++ t) (texts_same law widths stages (suc number) rows h.1)
