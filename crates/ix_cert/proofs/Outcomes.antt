-- From what the lines of a text are to what is said of the text.
use Rattle.std.proofs.Common.{◌≡◌, ◌≢◌, ℕ, zero, suc, ◌+◌, ◌<◌, ◌≤◌, ◌^◌, ◌==◌, ◌⊎◌, inl, inr, List, [], ◌∷◌, ◌++◌, length, take, drop, get_or, refl, sym, ap, ◌∙◌, subst, arith, lit<, append_assoc, length-append, Bor, Option, Some, None, Bool, true, false}
use Rattle.std.specs.Prelude.{map, MatchOption, if◌then◌else◌, Result, Ok, Err, IfOk}
use Rattle.std.specs.List.{slice_split, join_with_byte}
use Rattle.std.proofs.lemmas.Bool.{eqb-true, eqb-false}
use Rattle.std.proofs.lemmas.List.Splits.{join_with_byte-slice_split, slice_split_at}
use Rattle.ix_cert.specs.declared.item.Item.{Item}
use Rattle.ix_cert.specs.declared.item.Item.TheVariants.{Title, Period, Behaviour, Op, Edge, Cost, Flow, Cycle, End}
use Rattle.ix_cert.specs.declared.report.CertErr.{CertErr}
use Rattle.ix_cert.specs.declared.report.CertErr.TheVariants as err
use Rattle.ix_cert.specs.declared.report.Report.{Report}
use Rattle.ix_cert.specs.declared.state.Place.TheVariants as place
use Rattle.ix_cert.specs.declared.state.Reading.{Reading}
use Rattle.ix_cert.specs.Layout.{Line, IsInForm, BeginReport, IsReportText, IsBadLine, report_lines, lines_of, first_line, behind_refusal, without_last_empty, is_refusal}
use Rattle.ix_cert.specs.Items.{IsItem, item_line, report_items}
use Rattle.ix_lines.specs.Readings.{texts}
use Rattle.ix_lines.specs.Lines.{text_of}
use Rattle.ix_cert.specs.Steps.{MayFollow, after, reading, run, start, AllFollow}
use Rattle.ix_cert.specs.Refusals.{IsNext, NoNext, IsBadAt, TellsLine, bytes_in, report_of}
use Rattle.ix_cert.proofs.Lined.{EachItem, report_are, report_each}
use Rattle.ix_cert.proofs.Shown.{plain_item}
use Rattle.ix_lines.proofs.Cuts.{AllPlain, split_text}
use Rattle.ix_cert.proofs.Walked.{report_leads}
use Rattle.ix_lines.proofs.Fronts.{take_whole, take_texts, length_texts}
use Rattle.ix_cert.proofs.Viable.{Reached, reached_more, refuted, reached_begins, whole_between, IsReport, reached_whole, lines_one}

-- ---- one line after another
pub is_zero : (t : Bool) (n : ℕ) → t ≡ (n == 0) → t ≡ true → n ≡ 0
is_zero t n e h = eqb-true n 0 (sym e ∙ h)

pub no_zero : (t : Bool) (n : ℕ) → t ≡ (n == 0) → t ≡ false → n ≢ 0
no_zero t n e h = eqb-false n 0 (sym e ∙ h)

next_of : (found : Option Reading) (r : Reading) (x : Item) (line : Line) → IsItem x → item_line x ≡ line → ((y : Item) → IsItem y → item_line y ≡ line → y ≡ x)
    → MatchOption found (MayFollow r.version r.place x → ⊥) (λ more. MayFollow r.version r.place x × (more ≡ after r x)) → MatchOption found (NoNext r line) (λ more. IsNext r line more)
next_of None r x line w e u h = λ y v f m. h (subst (λ z. MayFollow r.version r.place z) (u y v f) m)
next_of (Some more) r x line w e u h = record { item = x; good = w; is = e; may = h.0; more_is = h.1 }

pub next_ok : {E : Type 0} (result : Result (Option Reading) E) (r : Reading) (x : Item) (line : Line) → IsItem x → item_line x ≡ line → ((y : Item) → IsItem y → item_line y ≡ line → y ≡ x)
    → IfOk result (λ found. MatchOption found (MayFollow r.version r.place x → ⊥) (λ more. MayFollow r.version r.place x × (more ≡ after r x))) → IfOk result (λ found. MatchOption found (NoNext r line) (λ more. IsNext r line more))
next_ok (Ok found) r x line w e u h = next_of found r x line w e u h
next_ok (Err e2) r x line w e u h = tt

pub reached_next : (lines : List (Bor Line)) (i : ℕ) (d : Bor Line) (r more : Reading) → i < length lines → Reached (take i (texts lines)) r → IsNext r (get_or lines i d).now more → Reached (take (i + 1) (texts lines)) more
reached_next lines i d r more l h n =
    let j : i + 1 ≡ suc i = omega arith in
    subst (λ t. Reached t more) (sym (take_texts lines i d l) ∙ ap (λ k. take k (texts lines)) (sym j)) (reached_more (take i (texts lines)) r more (get_or lines i d).now h n)

pub bad_next : (lines : List (Bor Line)) (i first n : ℕ) (d : Bor Line) (r : Reading) → n ≡ first + i → i < length lines → Reached (take i (texts lines)) r → NoNext r (get_or lines i d).now → IsBadAt (texts lines) first n
bad_next lines i first n d r e l h none =
    let count = length_texts lines in
    record {
      before = i;
      number = e;
      bad = record {
        place = omega (arith, l, count);
        front = reached_begins (take i (texts lines)) r h;
        next = λ _ b. refuted (take i (texts lines)) r (get_or lines i d).now h none (subst BeginReport (take_texts lines i d l) b);
        end = λ all. absurd (omega (arith, all, l, count));
      };
    }

at_place : (r q : Reading) → r ≡ q → r.place ≡ q.place
at_place r q e = ap (λ x. x.place) e

pub bad_end : (lines : List (Bor Line)) (i first n : ℕ) (r : Reading) → n ≡ first + length lines → length lines ≤ i → Reached (take i (texts lines)) r → r.place ≢ place.Between → IsBadAt (texts lines) first n
bad_end lines i first n r e l h other =
    let count = length_texts lines in
    let whole : take i (texts lines) ≡ texts lines = take_whole (texts lines) i (omega (arith, l, count)) in
    let here : Reached (texts lines) r = subst (λ t. Reached t r) whole h in
    record {
      before = length lines;
      number = e;
      bad = record {
        place = omega (arith, count);
        front = subst BeginReport (sym (take_whole (texts lines) (length lines) (omega (arith, count)))) (reached_begins (texts lines) r here);
        next = λ short. absurd (omega (arith, short, count));
        end = λ _ report f are. other (at_place r (reading report.version report.period report.blocks place.Between) (whole_between (texts lines) r report here f are));
      };
    }

pub good_end : (lines : List (Bor Line)) (i : ℕ) (r : Reading) (report : Report) → length lines ≤ i → Reached (take i (texts lines)) r → r.place ≡ place.Between → report ≡ report_of r → IsReport (texts lines) report
good_end lines i r report l h e s =
    let count = length_texts lines in
    let whole : take i (texts lines) ≡ texts lines = take_whole (texts lines) i (omega (arith, l, count)) in
    subst (λ q. IsReport (texts lines) q) (sym s) (reached_whole (texts lines) r (subst (λ t. Reached t r) whole h) e)

-- ---- line numbers are small
count_bytes : (ls : List Line) → length ls ≤ bytes_in ls
count_bytes [] = omega arith
count_bytes (l ∷ ls) = let ih = count_bytes ls in omega (arith, ih)

title_first : (x : Item) → MayFollow 0 place.Title x → 16 ≤ length (item_line x)
title_first (Title version) m = omega arith
title_first (Period p) m = absurd m
title_first (Behaviour name mode) m = absurd m
title_first (Op op) m = absurd m
title_first (Edge i j) m = absurd m
title_first (Cost cost) m = absurd m
title_first (Flow amount bound) m = absurd m
title_first (Cycle bound) m = absurd m
title_first End m = absurd m

first_long : (xs : List Item) (line : Line) (rest : List Line) → AllFollow start xs → map item_line xs ≡ line ∷ rest → 16 ≤ length line
first_long [] line rest m e = absurd cc
first_long (x ∷ xs) line rest m e = let a : item_line x ≡ line = cc in subst (λ l. 16 ≤ length l) a (title_first x m.0)

pub place_fits : (lines : List Line) (i : ℕ) (r : Reading) → Reached (take i lines) r → i ≤ length lines → bytes_in lines ≤ 2 ^ 32 → i + 2 < 2 ^ 32
place_fits lines zero r h l b = lit< tt
place_fits [] (suc i) r h l b = absurd (omega (arith, l))
place_fits (line ∷ lines) (suc i) r h l b =
    let long : 16 ≤ length line = first_long h.items line (take i lines) h.follow h.are in
    let few = count_bytes lines in
    omega (arith, long, few, l, b)

pub place_fits_in : (lines : List (Bor Line)) (i j : ℕ) (r : Reading) → Reached (take i (texts lines)) r → j ≤ i → j ≤ length lines → bytes_in (texts lines) ≤ 2 ^ 32 → i ≤ length lines → j + 2 < 2 ^ 32
place_fits_in lines i j r h a l b c = let few = place_fits (texts lines) i r h (omega (arith, c, length_texts lines)) b in omega (arith, few, a)

-- ---- the lines of a text
join_bytes : (ls : List Line) → bytes_in ls ≤ length (join_with_byte 10 ls) + 1
join_bytes [] = omega arith
join_bytes (x ∷ []) = omega arith
join_bytes (x ∷ y ∷ ls) = let ih = join_bytes (y ∷ ls) in omega (arith, ih, length-append x (10 ∷ join_with_byte 10 (y ∷ ls)))

without_bytes : (ls : List Line) → bytes_in (without_last_empty ls) ≤ bytes_in ls
without_bytes [] = omega arith
without_bytes ([] ∷ []) = omega arith
without_bytes ([] ∷ y ∷ ls) = let ih = without_bytes (y ∷ ls) in omega (arith, ih)
without_bytes ((b ∷ x) ∷ ls) = let ih = without_bytes ls in omega (arith, ih)

behind_bytes : (ls : List Line) → bytes_in (behind_refusal ls) ≤ bytes_in ls
behind_bytes [] = omega arith
behind_bytes (x ∷ ls) = by_test (is_refusal x) where
  by_test : (b : Bool) → bytes_in (if b then ls else x ∷ ls) ≤ bytes_in (x ∷ ls)
  by_test true = omega arith
  by_test false = omega arith

pub text_bytes : (bytes : List ℕ) → length bytes < 2 ^ 32 → bytes_in (behind_refusal (lines_of bytes)) ≤ 2 ^ 32
text_bytes bytes h =
    let a = behind_bytes (lines_of bytes) in
    let b = without_bytes (slice_split (λ b. b == 10) bytes) in
    let c = join_bytes (slice_split (λ b. b == 10) bytes) in
    let d = ap length (join_with_byte-slice_split 10 bytes) in
    omega (arith, a, b, c, d, h)

pub first_small : (ls : List Line) → first_line ls ≤ 2
first_small [] = omega arith
first_small (x ∷ ls) = by_test (is_refusal x) where
  by_test : (b : Bool) → (if b then 2 else 1) ≤ 2
  by_test true = omega arith
  by_test false = omega arith

-- ---- a last empty line
without_more : (x y : Line) (ls : List Line) → without_last_empty (x ∷ y ∷ ls) ≡ x ∷ without_last_empty (y ∷ ls)
without_more [] y ls = refl
without_more (b ∷ x) y ls = refl

pub last_dropped : (lines : List (Bor Line)) (n : ℕ) (d : Bor Line) → length lines ≡ suc n → length (get_or lines n d).now ≡ 0 → texts (take n lines) ≡ without_last_empty (texts lines)
last_dropped [] n d l e = absurd (omega (arith, l))
last_dropped (v ∷ []) zero d l e = only v.now e where
  only : (x : Line) → length x ≡ 0 → [] ≡ without_last_empty (x ∷ [])
  only [] e = refl
  only (b ∷ x) e = absurd (omega (arith, e))
last_dropped (v ∷ []) (suc n) d l e = absurd (omega (arith, l))
last_dropped (v ∷ u ∷ lines) zero d l e = absurd (omega (arith, l))
last_dropped (v ∷ u ∷ lines) (suc n) d l e = ap (λ t. v.now ∷ t) (last_dropped (u ∷ lines) n d (omega (arith, l)) e) ∙ sym (without_more v.now u.now (texts lines))

pub last_kept : (lines : List (Bor Line)) (n : ℕ) (d : Bor Line) → length lines ≡ suc n → length (get_or lines n d).now ≢ 0 → texts lines ≡ without_last_empty (texts lines)
last_kept [] n d l e = absurd (omega (arith, l))
last_kept (v ∷ []) zero d l e = only v.now e where
  only : (x : Line) → length x ≢ 0 → x ∷ [] ≡ without_last_empty (x ∷ [])
  only [] e = absurd (e refl)
  only (b ∷ x) e = refl
last_kept (v ∷ []) (suc n) d l e = absurd (omega (arith, l))
last_kept (v ∷ u ∷ lines) zero d l e = absurd (omega (arith, l))
last_kept (v ∷ u ∷ lines) (suc n) d l e = ap (λ t. v.now ∷ t) (last_kept (u ∷ lines) n d (omega (arith, l)) e) ∙ sym (without_more v.now u.now (texts lines))

-- ---- what is said of the text
one_report : (a b : Report) → IsInForm a → IsInForm b → report_lines a ≡ report_lines b → a ≡ b
one_report a b f g e =
    let items : report_items a ≡ report_items b = lines_one (report_items a) (report_items b) (report_each a f) (report_each b g) (sym (report_are a) ∙ e ∙ report_are b) in
    let same : reading a.version a.period a.blocks place.Between ≡ reading b.version b.period b.blocks place.Between = sym (report_leads a f).comes ∙ ap (λ l. run start l) items ∙ (report_leads b g).comes in
    ap report_of same

pub same_report : (bytes : List ℕ) (lines : List Line) (a b : Report) → lines ≡ behind_refusal (lines_of bytes) → IsInForm a → report_lines a ≡ lines → IsReportText bytes b → a ≡ b
same_report bytes lines a b e f s t = one_report a b f t.in_form (s ∙ e ∙ t.lines)

pub is_text : (bytes : List ℕ) (lines : List Line) (a : Report) → lines ≡ behind_refusal (lines_of bytes) → IsInForm a → report_lines a ≡ lines → IsReportText bytes a
is_text bytes lines a e f s = record { lines = sym e ∙ sym s; in_form = f }

begin_report : (r : Report) (ls : List Line) (k : ℕ) → IsInForm r → ls ≡ report_lines r → BeginReport (take k ls)
begin_report r ls k f e = record { report = r; in_form = f; rest = drop k ls; are = sym e ∙ sym (take_drop ls k) } where
  take_drop : (ls : List Line) (k : ℕ) → take k ls ++ drop k ls ≡ ls
  take_drop [] zero = refl
  take_drop [] (suc k) = refl
  take_drop (l ∷ ls) zero = refl
  take_drop (l ∷ ls) (suc k) = ap (λ t. l ∷ t) (take_drop ls k)

split_place : (k n : ℕ) → k ≤ n → (k < n) ⊎ (k ≡ n)
split_place k n h = grind arith

-- no text is a report and has a bad line
pub not_both : (bytes : List ℕ) (r : Report) (n : ℕ) → IsReportText bytes r → IsBadLine bytes n → ⊥
not_both bytes r n t b = elim (split_place b.before (length (behind_refusal (lines_of bytes))) b.place) [
  | inl h ↦ b.next h (begin_report r (behind_refusal (lines_of bytes)) (suc b.before) t.in_form t.lines)
  | inr h ↦ b.end h r t
]

begin_shorter : (ls : List Line) (j k : ℕ) → j ≤ k → BeginReport (take k ls) → BeginReport (take j ls)
begin_shorter ls j k h b = record { report = b.report; in_form = b.in_form; rest = drop j (take k ls) ++ b.rest; are = b.are ∙ ap (λ l. l ++ b.rest) (sym (parts ls j k h)) ∙ append_assoc (take j ls) (drop j (take k ls)) b.rest } where
  parts : (ls : List Line) (j k : ℕ) → j ≤ k → take j ls ++ drop j (take k ls) ≡ take k ls
  parts [] zero zero h = refl
  parts [] zero (suc k) h = refl
  parts [] (suc j) zero h = refl
  parts [] (suc j) (suc k) h = refl
  parts (l ∷ ls) zero k h = refl
  parts (l ∷ ls) (suc j) zero h = absurd (omega (arith, h))
  parts (l ∷ ls) (suc j) (suc k) h = ap (λ t. l ∷ t) (parts ls j k (omega (arith, h)))

compare : (a b : ℕ) → (a < b) ⊎ ((b < a) ⊎ (a ≡ b))
compare a b = grind arith

not_less : (bytes : List ℕ) (m n : ℕ) (a : IsBadLine bytes m) (b : IsBadLine bytes n) → a.before < b.before → ⊥
not_less bytes m n a b h = a.next (omega (arith, h, b.place)) (begin_shorter (behind_refusal (lines_of bytes)) (suc a.before) b.before h b.front)

one_bad : (bytes : List ℕ) (m n : ℕ) → IsBadLine bytes m → IsBadLine bytes n → m ≡ n
one_bad bytes m n a b = elim (compare a.before b.before) [
  | inl h ↦ absurd (not_less bytes m n a b h)
  | inr g ↦ elim g [ inl h ↦ absurd (not_less bytes n m b a h) | inr h ↦ a.number ∙ ap (λ k. first_line (lines_of bytes) + k) h ∙ sym b.number ]
]

bad_line : (bytes : List ℕ) (n : ℕ) → IsBadAt (behind_refusal (lines_of bytes)) (first_line (lines_of bytes)) n → IsBadLine bytes n
bad_line bytes n b = record { before = b.before; number = b.number; place = b.bad.place; front = b.bad.front; next = b.bad.next; end = λ all r t. b.bad.end all r t.in_form (sym t.lines) }

pub told_line : (bytes : List ℕ) (lines : List Line) (first : ℕ) (e : CertErr) → lines ≡ behind_refusal (lines_of bytes) → first ≡ first_line (lines_of bytes) → TellsLine lines first e → TellsLine (behind_refusal (lines_of bytes)) (first_line (lines_of bytes)) e
told_line bytes lines first e l f t = subst (λ q. TellsLine q (first_line (lines_of bytes)) e) l (subst (λ k. TellsLine lines k e) f t)

abbrev Told : List ℕ → CertErr → Type 0
Told bytes e = TellsLine (behind_refusal (lines_of bytes)) (first_line (lines_of bytes)) e

pub err_only : (bytes : List ℕ) (e : CertErr) → Told bytes e → (r : Report) → IsReportText bytes r → e ≡ err.Memory
err_only bytes (err.Line n) t r is = absurd (not_both bytes r n is (bad_line bytes n t))
err_only bytes (err.Dep n) t r is = absurd t
err_only bytes (err.Window n) t r is = absurd t
err_only bytes (err.Chain n) t r is = absurd t
err_only bytes (err.Balance n) t r is = absurd t
err_only bytes (err.Value n) t r is = absurd t
err_only bytes (err.NotPositive n) t r is = absurd t
err_only bytes (err.NotClosed n) t r is = absurd t
err_only bytes err.Memory t r is = refl

pub err_refused : (bytes : List ℕ) (e : CertErr) → Told bytes e → e ≢ err.Memory → (n : ℕ) × (e ≡ err.Line n) × IsBadLine bytes n
err_refused bytes (err.Line n) t other = (n, refl, bad_line bytes n t)
err_refused bytes (err.Dep n) t other = absurd t
err_refused bytes (err.Window n) t other = absurd t
err_refused bytes (err.Chain n) t other = absurd t
err_refused bytes (err.Balance n) t other = absurd t
err_refused bytes (err.Value n) t other = absurd t
err_refused bytes (err.NotPositive n) t other = absurd t
err_refused bytes (err.NotClosed n) t other = absurd t
err_refused bytes err.Memory t other = absurd (other refl)

pub err_refuses : (bytes : List ℕ) (e : CertErr) → Told bytes e → (n : ℕ) → IsBadLine bytes n → (e ≡ err.Line n) ⊎ (e ≡ err.Memory)
err_refuses bytes (err.Line m) t n b = inl (ap (λ k. err.Line k) (one_bad bytes m n (bad_line bytes m t) b))
err_refuses bytes (err.Dep m) t n b = absurd t
err_refuses bytes (err.Window m) t n b = absurd t
err_refuses bytes (err.Chain m) t n b = absurd t
err_refuses bytes (err.Balance m) t n b = absurd t
err_refuses bytes (err.Value m) t n b = absurd t
err_refuses bytes (err.NotPositive m) t n b = absurd t
err_refuses bytes (err.NotClosed m) t n b = absurd t
err_refuses bytes err.Memory t n b = inr refl

err_same : {A E : Type 0} (e f : E) (r : Result A E) → r ≡ Err e → r ≡ Err f → e ≡ f
err_same e f r a b = cc

pub err_moved : (A B : Type 0) {E : Type 0} (e f g : E) → ((r : Result A E) × (r ≡ Err e) × ((r ≡ Err f) ⊎ (r ≡ Err g))) → (s : Result B E) → s ≡ Err e → (s ≡ Err f) ⊎ (s ≡ Err g)
err_moved A B e f g h s is = elim h.2 [ inl x ↦ inl (is ∙ ap (λ k. Err k) (err_same e f h.0 h.1 x)) | inr x ↦ inr (is ∙ ap (λ k. Err k) (err_same e g h.0 h.1 x)) ]

-- ---- the text that is printed
plain_items : (xs : List Item) → EachItem xs → AllPlain (map item_line xs)
plain_items [] w = tt
plain_items (x ∷ xs) w = (plain_item x w.0, plain_items xs w.1)

without_end : (ls : List Line) → without_last_empty (ls ++ [] ∷ []) ≡ ls
without_end [] = refl
without_end ([] ∷ []) = refl
without_end ([] ∷ y ∷ ls) = ap (λ l. [] ∷ l) (without_end (y ∷ ls))
without_end ((b ∷ x) ∷ ls) = ap (λ l. (b ∷ x) ∷ l) (without_end ls)

pub printed : (text : List ℕ) (r : Report) → IsInForm r → text ≡ text_of (report_lines r) → IsReportText text r
printed text r f e =
    let lines : lines_of text ≡ report_lines r =
    ap lines_of (e ∙ ap text_of (report_are r))
    ∙ ap without_last_empty (split_text (map item_line (report_items r)) (plain_items (report_items r) (report_each r f)))
    ∙ without_end (map item_line (report_items r))
    ∙ sym (report_are r) in
    record { lines = ap behind_refusal lines; in_form = f }
