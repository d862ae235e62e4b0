-- What is kept with one row more.
use Rattle.std.proofs.Common.{◌≡◌, ◌∙◌, refl, sym, ap, ℕ, List, [], Option, Some}
use Rattle.std.specs.Prelude.{slice_get, is_some}
use Rattle.std.proofs.lemmas.Option.{same_Some}
use Rattle.rv_asks.specs.declared.asks.Asks.{Asks}
use Rattle.rv_trace.specs.declared.row.Cell.{Cell}
use Rattle.rv_trace.specs.declared.row.Row.{Row}
use Rattle.rv_trace.specs.Trace.{retirements}
use Rattle.rv_lawful.specs.Settings.{Setting, Stands, stood, tailed}
use Rattle.rv_lawful.specs.LawfulTrace.{fetch_address, next_serial}
use Rattle.rv_watch.specs.declared.kept.Kept.{Kept}
use Rattle.rv_watch.specs.Kept.{IsKept}
use Rattle.rv_rows.specs.declared.known.Known.{Known}
use Rattle.rv_rows.specs.Known.{IsKnown}
use Rattle.rv_watch.specs.Parts.{does_spawn}

-- what is asked of the cell of stage 0
pub first_spawns : (k : Setting) (earlier : List Row) (row : Row) (known : Known) (first : Option Asks) → IsKnown k earlier row known → slice_get known.asks 0 ≡ Some first → (c : Cell) → Stands k row 0 c → does_spawn first ≡ is_some (k.asks c.word).spawned
first_spawns k earlier row known first is f c e = ap (λ o. does_spawn o) (same_Some first (Some (k.asks c.word)) (sym f ∙ is.asks 0 c e))

-- and of that of another stage
pub asked_there : (k : Setting) (earlier : List Row) (row : Row) (known : Known) (stage : ℕ) (asked : Option Asks) → IsKnown k earlier row known → slice_get known.asks stage ≡ Some asked → (c : Cell) → Stands k row stage c → asked ≡ Some (k.asks c.word)
asked_there k earlier row known stage asked is f c e = same_Some asked (Some (k.asks c.word)) (sym f ∙ is.asks stage c e)

-- ---- before the first row

pub none_retired : retirements [] ≡ 0
unfolding retirements
none_retired = refl

pub none_kept : (k : Setting) (kept : Kept) → kept.fetch ≡ 0 → kept.next ≡ 0 → kept.retired ≡ 0 → kept.stood ≡ 0 → kept.tailed ≡ 0 → IsKept k [] kept
unfolding fetch_address next_serial retirements stood tailed
none_kept k kept f n r s t = record { fetch = f; next = n; retired = r; stood = λ c e. s; tailed = λ stage c end e. t }
