-- What the tests of fetch and of the unit tell.
use Rattle.std.proofs.Common.{◌≡◌, refl, sym, ap, subst, ℕ, List, Option, Some, None, false}
use Rattle.std.specs.Prelude.{Decides, ◌==◌}
use Rattle.std.proofs.lemmas.Bool.Decides.{Decides-like, Decides-eqb}
use Rattle.rv_seq.specs.Steps.{word_at}
use Rattle.rv_trace.specs.declared.row.Row.{Row}
use Rattle.rv_trace.specs.Trace.{newest}
use Rattle.rv_trace.specs.RowParts.{Name, name_of, stays, front, fetched}
use Rattle.rv_lawful.specs.Settings.{Setting, stages_of}
use Rattle.rv_lawful.specs.LawfulTrace.{fetch_address, next_serial}
use Rattle.rv_rows.specs.Kinds.{FetchesRightly}
use Rattle.rv_rows.specs.declared.known.Known.{Known}
use Rattle.rv_rows.specs.Known.{IsReady}
use Rattle.rv_marks.specs.Marks.{same_name, fetched_as, fetches_as, same_serial}
use Rattle.rv_marks.proofs.Cells.{none_some, some_inside, true_false, same_name_tells}

fetched_tells : (o new now : Option Name) → Decides (fetched_as o new now) (o ≡ None → now ≡ new)
fetched_tells None new now = Decides-like (same_name now new) (λ e x. e) (λ f. f refl) (same_name_tells now new)
fetched_tells (Some n) new now = (λ x e. absurd (none_some n (sym e)), λ x. refl)

pub fetches_tell : (k : Setting) (earlier : List Row) (row : Row) (known : Known) → IsReady k earlier known → Decides (fetches_as k.shape known.next known.fetch k.image (newest earlier) row) (FetchesRightly k earlier row)
fetches_tell k earlier row known is =
    subst
    (λ n. Decides (fetches_as k.shape n known.fetch k.image (newest earlier) row) (FetchesRightly k earlier row))
    (sym is.next)
    (subst
    (λ a. Decides (fetches_as k.shape (next_serial k earlier) a k.image (newest earlier) row) (FetchesRightly k earlier row))
    (sym is.fetch)
    (fetched_tells (stays (newest earlier) (front (stages_of k (newest earlier)))) (fetched (next_serial k earlier) (fetch_address k earlier) (word_at k.image (fetch_address k earlier))) (name_of (front (stages_of k row)))))

pub same_serial_tells : (s t : Option ℕ) → Decides (same_serial s t) (s ≡ t)
same_serial_tells None None = (λ x. refl, λ x. refl)
same_serial_tells None (Some t) = (λ e. absurd (true_false false e refl), λ e. absurd (none_some t e))
same_serial_tells (Some s) None = (λ e. absurd (true_false false e refl), λ e. absurd (none_some s (sym e)))
same_serial_tells (Some s) (Some t) = Decides-like (s == t) (λ e. ap (λ x. Some x) e) (λ e. some_inside s t e) (Decides-eqb s t)
