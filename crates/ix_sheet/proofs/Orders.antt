-- The members of a table stand in the order of their keys.
use Rattle.std.proofs.Common.{◌≡◌, ℕ, List, [], ◌∷◌, Some, None, Bool, true, false, cond, String, Global, Less, Greater, refl, ap, ◌∙◌}
use Rattle.std.specs.Prelude.{Option, option_map, string_bytes}
use Rattle.std.specs.List.{AllByRecursion}
use Rattle.std.specs.List.Sorted.{IsStrictlySortedBy}
use Rattle.std.specs.Map.{keys_of}
use Rattle.std.specs.Option.{option_or}
use Rattle.std.specs.Ordering.{nat_cmp, ordering_reverse, is_lt}
use Rattle.std.specs.String.{string_cmp}
use Rattle.std.specs.Cmp.Lexicographic.{slice_cmp}
use Rattle.std.proofs.lemmas.Cmp.{nat_list_cmp_total}
use Rattle.toml.specs.Data.{Data}
use Rattle.toml.specs.View.{view, members_view}
use Rattle.toml.proofs.Views.{Entry}
use Rattle.ix_sheet.specs.declared.sheet.SheetErr.{SheetErr}
use Rattle.ix_sheet.specs.Datasheets.{earlier_of, first_refused, first_refusal}
use Rattle.ix_sheet.specs.Reading.{refusal_in_order}

abbrev Rule : Type 0
Rule = List ℕ → Data → Option SheetErr

-- the key is before that of a refused member
abbrev IsBefore : List ℕ → Option (List ℕ × SheetErr) → Type 0
IsBefore key None = Unit {0}
IsBefore key (Some r) = slice_cmp nat_cmp key r.0 ≡ Less

chosen : (key l : List ℕ) (e : SheetErr) (r : List ℕ × SheetErr) (b : Bool) →
    slice_cmp nat_cmp key l ≡ Less → slice_cmp nat_cmp key r.0 ≡ Less → IsBefore key (cond b (Some r) (Some (l, e)))
chosen key l e r true h g = g
chosen key l e r false h g = h

before_earlier : (key l : List ℕ) (o : Option SheetErr) (later : Option (List ℕ × SheetErr)) →
    slice_cmp nat_cmp key l ≡ Less → IsBefore key later → IsBefore key (earlier_of (option_map (λ e. (l, e)) o) later)
before_earlier key l None later h g = g
before_earlier key l (Some e) None h g = h
before_earlier key l (Some e) (Some r) h g = chosen key l e r (is_lt (slice_cmp nat_cmp r.0 l)) h g

-- a key before all others is before the one that is refused first
before_refused : (rule : Rule) (key : String Global) (es : List Entry) → AllByRecursion (λ y. string_cmp key y ≡ Less) (keys_of es) →
    IsBefore (string_bytes key) (first_refused rule (members_view es))
before_refused rule key [] h = tt
before_refused rule key (e ∷ es) h =
    before_earlier (string_bytes key) (string_bytes e.0) (rule (string_bytes e.0) (view e.1)) (first_refused rule (members_view es)) h.0 (before_refused rule key es h.1)

front_first : (key : List ℕ) (o : Option SheetErr) (later : Option (List ℕ × SheetErr)) → IsBefore key later →
    option_map (λ r. r.1) (earlier_of (option_map (λ e. (key, e)) o) later) ≡ option_or o (option_map (λ r. r.1) later)
front_first key None later h = refl
front_first key (Some e) None h = refl
front_first key (Some e) (Some r) h =
    let back : slice_cmp nat_cmp r.0 key ≡ Greater = nat_list_cmp_total.antisymm r.0 key ∙ ap ordering_reverse h in
    rw back

-- so the refusal of the key that comes first is the first in order
pub first_in_order : (rule : Rule) (es : List Entry) → IsStrictlySortedBy string_cmp (keys_of es) →
    first_refusal rule (members_view es) ≡ refusal_in_order rule (members_view es)
unfolding IsStrictlySortedBy
first_in_order rule [] h = refl
first_in_order rule (e ∷ es) h =
    front_first (string_bytes e.0) (rule (string_bytes e.0) (view e.1)) (first_refused rule (members_view es)) (before_refused rule e.0 es h.0)
    ∙ ap (option_or (rule (string_bytes e.0) (view e.1))) (first_in_order rule es h.1)
