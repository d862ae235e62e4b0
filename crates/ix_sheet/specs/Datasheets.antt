-- The datasheet that a text is, and why a text is none (TOML 1.1; the keys, their ranges and the order of refusals are this project's choice).
use Rattle.std.specs.Prelude.{codes, ◌≡◌, ℕ, ◌<◌, ℤ, pos, negsuc, Bool, true, false, ◌&&◌, ◌||◌, nat_lt, nat_le, if◌then◌else◌, List, [], map, take, slice_index, slice_index_or, Option, Some, None, is_some, option_map, option_and_then, IsUtf8, IsSomeAnd, MatchOption, ◌⊎◌}
use Rattle.std.specs.Char.{is_ascii_graphic}
use Rattle.std.specs.Option.{option_or}
use Rattle.std.specs.Ordering.{nat_cmp, is_lt}
use Rattle.std.specs.Cmp.Lexicographic.{slice_cmp}
use Rattle.std.specs.Str.{bytes_eq}
use Rattle.toml.specs.Data.{Data, Items, no_items, item, Members, no_members, member, get_member, as_str, as_integer, as_array, as_table}
use Rattle.toml.specs.Parse.{parse_document}
use Rattle.rv_core.specs.declared.Shape.{Shape}
use Rattle.rv_core.specs.declared.cores.CoreKind.{CoreKind}
use Rattle.rv_core.specs.declared.cores.CoreKind.TheVariants.{Three, Four, Five, ThreeF, FiveF}
use Rattle.rv_core.specs.Stages.{three_lawful, four_lawful, five_lawful}
use Rattle.rv_core.specs.Kinds.{IsShapeOf}
use Rattle.ix_graph.specs.Kinds.{kind_words, number_of}
use Rattle.ix_sheet.specs.declared.sheet.Sheet.{Sheet}
use Rattle.ix_sheet.specs.declared.sheet.SheetErr.{SheetErr}
use Rattle.ix_sheet.specs.declared.sheet.SheetErr.TheVariants.{Utf8, Toml, Key, Kind, Core, Window, Number}
use Rattle.ix_sheet.specs.Sheets.{native_windows_of, window_at}

-- a key as a refusal names it: its first 64 bytes, each that is no visible ASCII character as `?`
abbrev pub shown_byte : ℕ → ℕ
shown_byte byte = if is_ascii_graphic byte then byte else 63

abbrev pub shown : List ℕ → List ℕ
shown key = map shown_byte (take 64 key)

-- of two refused members, the one whose key comes first in the order of bytes
abbrev pub earlier_of : Option (List ℕ × SheetErr) → Option (List ℕ × SheetErr) → Option (List ℕ × SheetErr)
earlier_of None second = second
earlier_of (Some first) None = Some first
earlier_of (Some first) (Some second) = if is_lt (slice_cmp nat_cmp second.0 first.0) then Some second else Some first

-- the member that a rule refuses whose key comes first, with its refusal
abbrev pub first_refused : (List ℕ → Data → Option SheetErr) → Members → Option (List ℕ × SheetErr)
first_refused rule no_members = None
first_refused rule (member key value rest) = earlier_of (option_map (λ e. (key, e)) (rule key value)) (first_refused rule rest)

abbrev pub first_refusal : (List ℕ → Data → Option SheetErr) → Members → Option SheetErr
first_refusal rule members = option_map (λ r. r.1) (first_refused rule members)

-- the members of the table under a key, none where there is no table
abbrev pub members_or_none : Option Members → Members
members_or_none None = no_members
members_or_none (Some members) = members

abbrev pub section : List ℕ → Members → Members
section name doc = members_or_none (option_and_then as_table (get_member name doc))

-- a whole number from low to high
abbrev pub is_between : ℕ → ℕ → ℤ → Bool
is_between low high (pos n) = nat_le low n && nat_le n high
is_between low high (negsuc n) = false

abbrev pub is_whole : ℕ → ℕ → Option ℤ → Bool
is_whole low high None = false
is_whole low high (Some z) = is_between low high z

-- the number that a whole number in range is
abbrev pub natural_of : ℤ → ℕ
natural_of (pos n) = n
natural_of (negsuc n) = 0

abbrev pub natural_or_zero : Option ℤ → ℕ
natural_or_zero None = 0
natural_or_zero (Some z) = natural_of z

-- the keys at the top: `core`, `period`, `lifetime`, and the tables `delay` and `window`
abbrev pub is_top_member : List ℕ → Data → Bool
is_top_member key value =
    (bytes_eq key (codes "core") || bytes_eq key (codes "period") || bytes_eq key (codes "lifetime"))
    || ((bytes_eq key (codes "delay") || bytes_eq key (codes "window")) && is_some (as_table value))

abbrev pub top_rule : List ℕ → Data → Option SheetErr
top_rule key value = if is_top_member key value then None else Some (Key (shown key))

-- the core of that name, and its stages
abbrev pub core_named : List ℕ → Option CoreKind
core_named name =
    if bytes_eq name (codes "three") then Some Three
    else if bytes_eq name (codes "four") then Some Four
    else if bytes_eq name (codes "five") then Some Five
    else if bytes_eq name (codes "three_f") then Some ThreeF
    else if bytes_eq name (codes "five_f") then Some FiveF
    else None

abbrev pub core_of : Members → Option CoreKind
core_of doc = option_and_then core_named (option_and_then as_str (get_member (codes "core") doc))

abbrev pub shape_named : CoreKind → Shape
shape_named Three = record { stages = 3; rd = 1; ex = 1; mem = 2; forward = false; predict = false; trap = 16; lawful = three_lawful }
shape_named Four = record { stages = 4; rd = 1; ex = 2; mem = 3; forward = false; predict = false; trap = 16; lawful = four_lawful }
shape_named Five = record { stages = 5; rd = 1; ex = 2; mem = 3; forward = false; predict = false; trap = 16; lawful = five_lawful }
shape_named ThreeF = record { stages = 3; rd = 1; ex = 1; mem = 2; forward = true; predict = true; trap = 16; lawful = three_lawful }
shape_named FiveF = record { stages = 5; rd = 1; ex = 2; mem = 3; forward = true; predict = true; trap = 16; lawful = five_lawful }

-- the period, 1 to 1,000,000
abbrev pub period_of : Members → Option ℤ
period_of doc = option_and_then as_integer (get_member (codes "period") doc)

abbrev pub period_refusal : Members → Option SheetErr
period_refusal doc = if is_whole 1 1000000 (period_of doc) then None else Some (Number (codes "period"))

-- whether lifetimes are weighed by width: "width" says so, "unit" or nothing that they are not
abbrev pub lifetime_named : List ℕ → Option Bool
lifetime_named name =
    if bytes_eq name (codes "width") then Some true
    else if bytes_eq name (codes "unit") then Some false
    else None

abbrev pub lifetime_given : Option Data → Option Bool
lifetime_given None = Some false
lifetime_given (Some value) = option_and_then lifetime_named (as_str value)

abbrev pub lifetime_of : Members → Option Bool
lifetime_of doc = lifetime_given (get_member (codes "lifetime") doc)

abbrev pub lifetime_refusal : Members → Option SheetErr
lifetime_refusal doc = if is_some (lifetime_of doc) then None else Some (Number (codes "lifetime"))

-- under `delay`: a kind of operation, and a whole number from 0 to 1,000,000
abbrev pub delay_rule : List ℕ → Data → Option SheetErr
delay_rule key value =
    if is_some (number_of key)
    then (if is_whole 0 1000000 (as_integer value) then None else Some (Number (shown key)))
    else Some (Kind (shown key))

-- an array of two whole numbers
abbrev pub both_numbers : Option ℤ → Option ℤ → Option (ℤ × ℤ)
both_numbers None second = None
both_numbers (Some a) None = None
both_numbers (Some a) (Some b) = Some (a, b)

abbrev pub two_numbers : Items → Option (ℤ × ℤ)
two_numbers no_items = None
two_numbers (item a no_items) = None
two_numbers (item a (item b no_items)) = both_numbers (as_integer a) (as_integer b)
two_numbers (item a (item b (item c rest))) = None

abbrev pub window_given : Data → Option (ℤ × ℤ)
window_given value = option_and_then two_numbers (as_array value)

-- a window that is not empty and lies inside the native one
abbrev pub is_inside : ℕ × ℕ → ℤ × ℤ → Bool
is_inside native window = is_between native.0 native.1 window.0 && is_between (natural_of window.0) native.1 window.1

-- the place of one of the ten first kinds
abbrev pub first_ten : Option ℕ → Option ℕ
first_ten None = None
first_ten (Some number) = if nat_lt number 10 then Some number else None

abbrev pub window_refusal : List ℕ → ℕ × ℕ → Option (ℤ × ℤ) → Option SheetErr
window_refusal key native None = Some (Number (shown key))
window_refusal key native (Some window) = if is_inside native window then None else Some (Window (shown key))

abbrev pub window_of_kind : List (ℕ × ℕ) → List ℕ → Data → Option ℕ → Option SheetErr
window_of_kind natives key value None = Some (Kind (shown key))
window_of_kind natives key value (Some number) = window_refusal key (window_at natives number) (window_given value)

-- under `window`: one of the ten first kinds, and an array of two whole numbers that is a window inside the native one
abbrev pub window_rule : List (ℕ × ℕ) → List ℕ → Data → Option SheetErr
window_rule natives key value = window_of_kind natives key value (first_ten (number_of key))

-- the first refusal of what stands beside the core, whose native windows are given: the period, the lifetime, then the delays, then the windows
abbrev pub content_refusal : List (ℕ × ℕ) → Members → Option SheetErr
content_refusal natives doc =
    option_or (period_refusal doc)
    (option_or (lifetime_refusal doc)
    (option_or (first_refusal delay_rule (section (codes "delay") doc)) (first_refusal (window_rule natives) (section (codes "window") doc))))

abbrev pub refusal_with : Members → Option CoreKind → Option SheetErr
refusal_with doc None = Some Core
refusal_with doc (Some core) = content_refusal (native_windows_of (shape_named core)) doc

-- the first refusal of a document: of a key at the top, of the core, of what stands beside it
abbrev pub document_refusal : Members → Option SheetErr
document_refusal doc = option_or (first_refusal top_rule doc) (refusal_with doc (core_of doc))

-- the delay that the document gives a kind, 0 where it gives none
abbrev pub delay_in : Members → List ℕ → ℕ
delay_in doc word = natural_or_zero (option_and_then as_integer (get_member word (section (codes "delay") doc)))

-- the window that the document gives a kind, the native one where it gives none
abbrev pub window_or : ℕ × ℕ → Option (ℤ × ℤ) → ℕ × ℕ
window_or native None = native
window_or native (Some window) = (natural_of window.0, natural_of window.1)

abbrev pub window_in : Members → ℕ × ℕ → List ℕ → ℕ × ℕ
window_in doc native word = window_or native (option_and_then window_given (get_member word (section (codes "window") doc)))

-- the sheet has what the document gives beside the core
pub record HasContent (doc : Members) (sheet : Sheet) : Type 0 where
  pub period : period_of doc ≡ Some (pos sheet.period)
  pub weighted : lifetime_of doc ≡ Some sheet.weighted
  pub delay : (k : ℕ) → k < 34 → slice_index sheet.delay k ≡ delay_in doc (slice_index_or kind_words k [])
  pub window : (k : ℕ) → k < 10 → window_at sheet.window k ≡ window_in doc (window_at (native_windows_of sheet.shape) k) (slice_index_or kind_words k [])

-- the sheet has the stages of the core that the document names
abbrev pub HasCore : Option CoreKind → Sheet → Type 0
HasCore None sheet = ⊥
HasCore (Some kind) sheet = IsShapeOf kind sheet.shape

pub record HasFields (doc : Members) (sheet : Sheet) : Type 0 where
  pub core : HasCore (core_of doc) sheet
  pub content : HasContent doc sheet

-- the document has no refusal, and the sheet is what it gives
pub record IsDocumentOf (doc : Members) (sheet : Sheet) : Type 0 where
  pub accepted : document_refusal doc ≡ None
  pub fields : HasFields doc sheet

-- the text is UTF-8 and TOML, and the sheet is what its document gives
pub record IsSheetOf (text : List ℕ) (sheet : Sheet) : Type 0 where
  pub utf8 : IsUtf8 text
  pub document : IsSomeAnd (parse_document text) (λ doc. IsDocumentOf doc sheet)

-- the first refusal of a text: no UTF-8, no TOML, or the first of its document
abbrev pub IsRefusalOf : List ℕ → SheetErr → Type 0
IsRefusalOf text error =
    ((IsUtf8 text → ⊥) × (error ≡ Utf8))
    ⊎ (IsUtf8 text × MatchOption (parse_document text) (error ≡ Toml) (λ doc. document_refusal doc ≡ Some error))
