-- Members of a document, and the rules that they pass.
use Rattle.std.proofs.Common.{[], get_or, ℤ, pos, arith, codes, ◌≡◌, ℕ, ◌<◌, List, Some, None, Bool, true, false, cond, Ordering, refl, sym, ◌∙◌, ap}
use Rattle.std.specs.Prelude.{Option, option_map, is_some, unwrap_or, IfSome, option_and_then}
use Rattle.std.specs.Ordering.{nat_cmp, match_ordering, is_eq, is_lt}
use Rattle.std.specs.declared.cmp.Ordering.TheVariants.{Less, Equal, Greater}
use Rattle.std.specs.Cmp.Lexicographic.{slice_cmp}
use Rattle.std.proofs.lemmas.Map.Text.{is_eq-slice_cmp}
use Rattle.std.proofs.lemmas.Slice.Eq.{bytes_eq-Decides}
use Rattle.toml.specs.Data.{Data, Members, no_members, member, get_member, as_integer}
use Rattle.ix_sheet.specs.declared.sheet.SheetErr.{SheetErr}
use Rattle.ix_sheet.specs.declared.sheet.SheetErr.TheVariants.{Kind, Number, Window}
use Rattle.ix_sheet.specs.Datasheets.{shown, earlier_of, first_refused, first_refusal, section, is_whole, natural_of, natural_or_zero, is_inside, first_ten, window_given, window_refusal, window_rule, delay_rule, delay_in}
use Rattle.ix_sheet.specs.Sheets.{window_at}
use Rattle.ix_graph.specs.Kinds.{kind_words, number_of}
use Rattle.ix_graph.proofs.KindLemmas.{number_of-place}
use Rattle.std.proofs.lemmas.Bool.{lt-ltb}

-- keys that compare as equal have the same bytes
same_keys : (k l : List ℕ) → slice_cmp nat_cmp k l ≡ Equal → k ≡ l
same_keys k l e =
    (bytes_eq-Decides k l).0 (sym (is_eq-slice_cmp k l) ∙ ap is_eq e)

some_passes : {P : Type 0} (b : Bool) (x y : List ℕ × SheetErr) → option_map (λ r. r.1) (cond b (Some y) (Some x)) ≡ None → P
some_passes true x y e = cc
some_passes false x y e = cc

-- where no member is refused, the first passes and the others too
front_passes : (key : List ℕ) (o : Option SheetErr) (later : Option (List ℕ × SheetErr)) →
    option_map (λ r. r.1) (earlier_of (option_map (λ e. (key, e)) o) later) ≡ None → (o ≡ None) × (option_map (λ r. r.1) later ≡ None)
front_passes key None later e = (refl, e)
front_passes key (Some x) None e = cc
front_passes key (Some x) (Some r) e = some_passes (is_lt (slice_cmp nat_cmp r.0 key)) (key, x) r e

found_passes : (rule : List ℕ → Data → Option SheetErr) (k l : List ℕ) (e d : Data) (rest : Option Data) (o : Ordering) →
    slice_cmp nat_cmp k l ≡ o → rule l e ≡ None → (rest ≡ Some d → rule k d ≡ None) → match_ordering o rest (Some e) rest ≡ Some d → rule k d ≡ None
found_passes rule k l e d rest Less o here later found = later found
found_passes rule k l e d rest Equal o here later found =
    let same : k ≡ l = same_keys k l o in
    let value : e ≡ d = cc in
    rw (same, ← value) here
found_passes rule k l e d rest Greater o here later found = later found

-- a member that is found passes
pub member_passes : (rule : List ℕ → Data → Option SheetErr) (k : List ℕ) (d : Data) (ms : Members) →
    first_refusal rule ms ≡ None → get_member k ms ≡ Some d → rule k d ≡ None
member_passes rule k d no_members passed found = cc
member_passes rule k d (member l e rest) passed found =
    let both = front_passes l (rule l e) (first_refused rule rest) passed in
    found_passes rule k l e d (get_member k rest) (slice_cmp nat_cmp k l) refl both.0 (member_passes rule k d rest both.1) found

passing : (b w : Bool) (x y : SheetErr) → cond b (cond w None (Some x)) (Some y) ≡ None → w ≡ true
passing true true x y e = refl
passing true false x y e = cc
passing false w x y e = cc

-- a delay that passes is a whole number in its range
delay_passes : (key : List ℕ) (value : Data) → delay_rule key value ≡ None → is_whole 0 1000000 (as_integer value) ≡ true
delay_passes key value e =
    passing (is_some (number_of key)) (is_whole 0 1000000 (as_integer value)) (Number (shown key)) (Kind (shown key)) e

whole_value : (r : Option ℕ) (o : Option ℤ) → IfSome r (λ n. o ≡ Some (pos n)) → is_some r ≡ true → unwrap_or r 0 ≡ natural_or_zero o
whole_value None o is e = cc
whole_value (Some n) o is e = rw is

-- the delay of a member that passes is the number found
pub delay_value : (doc : Members) (word : List ℕ) (value : Data) (r : Option ℕ) →
    first_refusal delay_rule (section (codes "delay") doc) ≡ None → get_member word (section (codes "delay") doc) ≡ Some value →
    IfSome r (λ n. as_integer value ≡ Some (pos n)) → is_some r ≡ is_whole 0 1000000 (as_integer value) →
    unwrap_or r 0 ≡ delay_in doc word
delay_value doc word value r passed found is some =
    let whole = delay_passes word value (member_passes delay_rule word value (section (codes "delay") doc) passed found) in
    rw found (whole_value r (as_integer value) is (some ∙ whole))

inside_passing : (b : Bool) (x : SheetErr) → cond b None (Some x) ≡ None → b ≡ true
inside_passing true x e = refl
inside_passing false x e = cc

window_passing : (key : List ℕ) (native : ℕ × ℕ) (o : Option (ℤ × ℤ)) (w : ℤ × ℤ) → window_refusal key native o ≡ None → o ≡ Some w → is_inside native w ≡ true
window_passing key native None w e found = cc
window_passing key native (Some v) w e found =
    let same : v ≡ w = cc in
    rw (← same) (inside_passing (is_inside native v) (Window (shown key)) e)

-- a window of one of the ten first kinds that passes lies inside the native one
window_passes : (natives : List (ℕ × ℕ)) (number : ℕ) (value : Data) (w : ℤ × ℤ) → number < 10 →
    window_rule natives (get_or kind_words number []) value ≡ None → window_given value ≡ Some w → is_inside (window_at natives number) w ≡ true
window_passes natives number value w small passes given =
    let key = get_or kind_words number [] in
    let place : number_of key ≡ Some number = number_of-place number (omega arith) in
    let first : first_ten (number_of key) ≡ Some number = rw (place, lt-ltb number 10 small) in
    window_passing key (window_at natives number) (window_given value) w (rw first at passes) given

given_some : (o : Option Data) (w : ℤ × ℤ) → option_and_then window_given o ≡ Some w → (value : Data) × (o ≡ Some value) × (window_given value ≡ Some w)
given_some None w e = cc
given_some (Some value) w e = (value, refl, e)

-- a window that the document gives, where each window passes
pub given_inside : (doc : Members) (natives : List (ℕ × ℕ)) (number : ℕ) (w : ℤ × ℤ) → number < 10 →
    first_refusal (window_rule natives) (section (codes "window") doc) ≡ None →
    option_and_then window_given (get_member (get_or kind_words number []) (section (codes "window") doc)) ≡ Some w →
    is_inside (window_at natives number) w ≡ true
given_inside doc natives number w small passed given =
    let word = get_or kind_words number [] in
    let found = given_some (get_member word (section (codes "window") doc)) w given in
    window_passes natives number found.0 w small (member_passes (window_rule natives) word found.0 (section (codes "window") doc) passed found.1) found.2

-- the window that a test found
pub window_value : (r : Option (ℕ × ℕ)) (native : ℕ × ℕ) (w : ℤ × ℤ) →
    IfSome r (λ v. v ≡ (natural_of w.0, natural_of w.1)) → is_some r ≡ true → unwrap_or r native ≡ (natural_of w.0, natural_of w.1)
window_value None native w is some = cc
window_value (Some v) native w is some = is
