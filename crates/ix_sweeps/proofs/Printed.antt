-- The reports of a sweep have the form of reports, the check of a report finds no fault in their texts, and texts one behind the other.
use Rattle.std.proofs.Common.{◌≡◌, ◌∙◌, sym, ap, subst, refl, ℕ, ◌+◌, ◌*◌, ◌<◌, ◌≤◌, Bool, true, false, cond, List, [], ◌∷◌, ◌++◌, length, take, get_or, append_assoc, Option, Some, None, arith}
use Rattle.std.specs.Prelude.{All, nat_le}
use Rattle.std.specs.List.{flat_map}
use Rattle.std.proofs.lemmas.Bool.Decides.{nat_tests}
use Rattle.std.proofs.lemmas.Grind.{flat_map-append}
use Rattle.std.proofs.lemmas.List.{append-nil, flat_map_more, take_more}
use Rattle.std.proofs.lemmas.List.Elements.{All-nil, All-cons, All-head, All-tail, All-append}
use Rattle.ix_extension.specs.Extensions.{ExtensionTree}
use Rattle.ix_behaviour.specs.declared.which.Which.{Which}
use Rattle.ix_graph.specs.declared.graph.Graph.{Graph}
use Rattle.ix_sheet.specs.declared.sheet.Sheet.{Sheet}
use Rattle.ix_sheet.specs.Sheets.{IsValidSheet}
use Rattle.ix_cert.specs.declared.report.Report.{Report}
use Rattle.ix_cert.specs.declared.report.ReportBlock.{ReportBlock}
use Rattle.ix_cert.specs.Layout.{IsInForm}
use Rattle.ix_cert.specs.Certificates.{IsFaultless}
use Rattle.ix_cert.proofs.Outcomes.{printed}
use Rattle.ix_reports.specs.Blocks.{IsSound}
use Rattle.ix_sweep.specs.Periods.{at_period, IsPeriodOf, periods_of, refuted_at, allowed}
use Rattle.ix_sweep.proofs.Later.{valid_at}
use Rattle.ix_sweep.proofs.Widest.{refuted_in_range}
use Rattle.ix_schedules.specs.Scheduling.{behaviours_of, name_at, is_block}
use Rattle.ix_schedules.specs.ScheduleText.{alone}
use Rattle.ix_schedules.proofs.Sound.{alone_in_form, alone_faultless}
use Rattle.ix_sweeps.specs.declared.sweeping.Swept.{Swept}
use Rattle.ix_sweeps.specs.Sweeping.{AreReportsAt, IsRefuted, IsSweptBy, IsSwept, AreSwept}
use Rattle.ix_sweeps.specs.SweepText.{head_text, report_text, below_in, reports_in, swept_text, AreInForm, AreFaultless, IsSweepText}

-- ---- a report alone
pub record IsRight (r : Report) : Type 0 where
  pub in_form : IsInForm r
  pub faultless : IsFaultless (report_text r)

alone_right : (sheet : Sheet) (said : ReportBlock) → IsValidSheet sheet → IsSound sheet.weighted sheet.period said → IsRight (alone sheet said)
alone_right sheet said good sound =
    let form = alone_in_form sheet said good sound in
    record { in_form = form; faultless = alone_faultless sheet said (report_text (alone sheet said)) sound (printed (report_text (alone sheet said)) (alone sheet said) form refl) }

report_right : (sheet : Sheet) (period : ℕ) (said : ReportBlock) (r : Report) → IsValidSheet (at_period sheet period) → IsSound sheet.weighted period said → r ≡ alone (at_period sheet period) said → IsRight r
report_right sheet period said r good sound e = subst IsRight (sym e) (alone_right (at_period sheet period) said good sound)

-- a period of a sheet
abbrev IsOfSheet : ℕ → Type 0
IsOfSheet q = (1 ≤ q) × (q ≤ 1000000)

doubled : (p : ℕ) → 1 ≤ p → (1 ≤ 2 * p) × (1 ≤ 4 * p)
doubled p h = (omega (arith, h), omega (arith, h))

le_true : (q : ℕ) → nat_le q 1000000 ≡ true → q ≤ 1000000
le_true q e = grind (arith, nat_tests)

one_kept : (t : Bool) (q : ℕ) (qs : List ℕ) → nat_le q 1000000 ≡ t → 1 ≤ q → All IsOfSheet qs → All IsOfSheet (cond t (q ∷ qs) qs)
one_kept true q qs e some rest = All-cons IsOfSheet q qs (some, le_true q e) rest
one_kept false q qs e some rest = rest

kept_in_range : (qs : List ℕ) → All (λ q. 1 ≤ q) qs → All IsOfSheet (allowed qs)
kept_in_range [] a = All-nil IsOfSheet
kept_in_range (q ∷ qs) a = one_kept (nat_le q 1000000) q (allowed qs) refl (All-head (λ z. 1 ≤ z) q qs a) (kept_in_range qs (All-tail (λ z. 1 ≤ z) q qs a))

periods_in_range : (g : Graph) (sheet : Sheet) (block : Bool) (period : Option ℕ) → IsPeriodOf g sheet block period → All IsOfSheet (periods_of period)
periods_in_range g sheet block None h = All-nil IsOfSheet
periods_in_range g sheet block (Some p) h =
    let some = h.period_is.some in
    let more = doubled p some in
    kept_in_range (p ∷ 2 * p ∷ 4 * p ∷ [])
    (All-cons (λ q. 1 ≤ q) p (2 * p ∷ 4 * p ∷ []) some (All-cons (λ q. 1 ≤ q) (2 * p) (4 * p ∷ []) more.0 (All-cons (λ q. 1 ≤ q) (4 * p) [] more.1 (All-nil (λ q. 1 ≤ q)))))

reports_right : (name : List ℕ) (g : Graph) (sheet : Sheet) (block : Bool) (ps : List ℕ) (rs : List Report) → IsValidSheet sheet → All IsOfSheet ps → AreReportsAt name g sheet block ps rs → All IsRight rs
reports_right name g sheet block [] [] good all h = All-nil IsRight
reports_right name g sheet block [] (r ∷ rs) good all h = absurd h
reports_right name g sheet block (p ∷ ps) [] good all h = absurd h
reports_right name g sheet block (p ∷ ps) (r ∷ rs) good all h =
    let inside = All-head IsOfSheet p ps all in
    All-cons IsRight r rs (report_right sheet p h.0.said r (valid_at sheet p good inside.0 inside.1) h.0.reported.sound h.0.report_is)
    (reports_right name g sheet block ps rs good (All-tail IsOfSheet p ps all) h.1)

below_right : (name : List ℕ) (g : Graph) (sheet : Sheet) (block : Bool) (o : Option ℕ) (r : Option Report) → IsValidSheet sheet → ((q : ℕ) → o ≡ Some q → IsOfSheet q) → IsRefuted name g sheet block o r → All IsRight (below_in r)
below_right name g sheet block None None good inside h = All-nil IsRight
below_right name g sheet block None (Some r) good inside h = absurd h
below_right name g sheet block (Some q) None good inside h = absurd h
below_right name g sheet block (Some q) (Some r) good inside h =
    let at = inside q refl in
    All-cons IsRight r [] (report_right sheet q h.said r (valid_at sheet q good at.0 at.1) h.without.sound h.report_is) (All-nil IsRight)

pub said_right : (name : List ℕ) (g : Graph) (sheet : Sheet) (block : Bool) (s : Swept) → IsValidSheet sheet → IsSweptBy name g sheet block s → All IsRight (reports_in s)
said_right name g sheet block s good h =
    All-append IsRight s.reports (below_in s.below)
    (reports_right name g sheet block (periods_of s.period) s.reports good (periods_in_range g sheet block s.period h.period_is) h.reports_are)
    (below_right name g sheet block (refuted_at s.period) s.below good (λ q e. refuted_in_range g sheet block s.period q h.period_is e) h.below_is)

each_in_form : (rs : List Report) → All IsRight rs → All IsInForm rs
each_in_form [] a = All-nil IsInForm
each_in_form (r ∷ rs) a = All-cons IsInForm r rs (All-head IsRight r rs a).in_form (each_in_form rs (All-tail IsRight r rs a))

each_faultless : (rs : List Report) → All IsRight rs → All (λ r. IsFaultless (report_text r)) rs
each_faultless [] a = All-nil (λ r. IsFaultless (report_text r))
each_faultless (r ∷ rs) a = All-cons (λ r. IsFaultless (report_text r)) r rs (All-head IsRight r rs a).faultless (each_faultless rs (All-tail IsRight r rs a))

-- ---- of one behaviour, and of all
pub swept_faultless : (x : ExtensionTree) (sheet : Sheet) (w : Which) (s : Swept) → IsValidSheet sheet → IsSwept x sheet w s → AreFaultless s
swept_faultless x sheet w s good h = each_faultless (reports_in s) (said_right (name_at x w) h.graph sheet (is_block w) s good h.said)

abbrev IsWritten : Swept → Type 0
IsWritten s = All IsInForm (reports_in s)

pub all_in_form : (x : ExtensionTree) (sheet : Sheet) (ws : List Which) (ss : List Swept) → IsValidSheet sheet → AreSwept x sheet ws ss → AreInForm ss
all_in_form x sheet [] [] good h = All-nil IsWritten
all_in_form x sheet [] (s ∷ ss) good h = absurd h
all_in_form x sheet (w ∷ ws) [] good h = absurd h
all_in_form x sheet (w ∷ ws) (s ∷ ss) good h =
    All-cons IsWritten s ss (each_in_form (reports_in s) (said_right (name_at x w) h.0.graph sheet (is_block w) s good h.0.said)) (all_in_form x sheet ws ss good h.1)

all_faultless : (x : ExtensionTree) (sheet : Sheet) (ws : List Which) (ss : List Swept) → IsValidSheet sheet → AreSwept x sheet ws ss → All AreFaultless ss
all_faultless x sheet [] [] good h = All-nil AreFaultless
all_faultless x sheet [] (s ∷ ss) good h = absurd h
all_faultless x sheet (w ∷ ws) [] good h = absurd h
all_faultless x sheet (w ∷ ws) (s ∷ ss) good h =
    All-cons AreFaultless s ss (swept_faultless x sheet w s good h.0) (all_faultless x sheet ws ss good h.1)

-- the text of all
pub text_is : (x : ExtensionTree) (sheet : Sheet) (ss : List Swept) (text : List ℕ) → IsValidSheet sheet → AreSwept x sheet (behaviours_of x) ss → text ≡ flat_map swept_text ss → IsSweepText x sheet text
text_is x sheet ss text good h e = record { sweeps = ss; swept = h; printed = e; faultless = all_faultless x sheet (behaviours_of x) ss good h }

-- ---- one behind the other
-- one more piece, after those up to a place
pub piece_more : {X : Type 0} (f : X → List ℕ) (before now next : List ℕ) (xs : List X) (k : ℕ) (d : X) → k < length xs → now ≡ before ++ flat_map f (take k xs) → next ≡ now ++ f (get_or xs k d) → next ≡ before ++ flat_map f (take (k + 1) xs)
piece_more f before now next xs k d h so_far e =
    e ∙ ap (λ l. l ++ f (get_or xs k d)) so_far ∙ flat_map_more f before (take k xs) (get_or xs k d) ∙ ap (λ l. before ++ flat_map f l) (sym (take_more xs k d h))

-- the line, the reports of schedules and the last report
pub swept_written : (s : Swept) (before first second last head : List ℕ) (r : Option Report) → head ≡ head_text s.name s.period → first ≡ before ++ head → second ≡ first ++ flat_map report_text s.reports → r ≡ s.below →
    last ≡ second ++ flat_map report_text (below_in r) → last ≡ before ++ swept_text s
swept_written s before first second last head r hd one two is three =
    three ∙ ap (λ l. l ++ flat_map report_text (below_in r)) (two ∙ ap (λ l. l ++ flat_map report_text s.reports) one)
    ∙ append_assoc (before ++ head) (flat_map report_text s.reports) (flat_map report_text (below_in r))
    ∙ append_assoc before head (flat_map report_text s.reports ++ flat_map report_text (below_in r))
    ∙ ap (λ l. before ++ (head ++ l)) (sym (flat_map-append report_text s.reports (below_in r)))
    ∙ ap (λ l. before ++ (l ++ flat_map report_text (s.reports ++ below_in r))) hd
    ∙ ap (λ (o : Option Report). before ++ (head_text s.name s.period ++ flat_map report_text (s.reports ++ below_in o))) is

-- the same where there is a last report
pub written_some : (s : Swept) (before first second last head : List ℕ) (r : Report) → head ≡ head_text s.name s.period → first ≡ before ++ head → second ≡ first ++ flat_map report_text s.reports → s.below ≡ Some r →
    last ≡ second ++ report_text r → last ≡ before ++ swept_text s
written_some s before first second last head r hd one two is three =
    swept_written s before first second last head (Some r) hd one two (sym is) (three ∙ ap (λ l. second ++ l) (sym (append-nil (report_text r))))

-- ---- the reports of a behaviour, apart
front_of : (P : Report → Type 0) (xs ys : List Report) → All P (xs ++ ys) → All P xs
front_of P [] ys a = All-nil P
front_of P (x ∷ xs) ys a = All-cons P x xs (All-head P x (xs ++ ys) a) (front_of P xs ys (All-tail P x (xs ++ ys) a))

rest_of : (P : Report → Type 0) (xs ys : List Report) → All P (xs ++ ys) → All P ys
rest_of P [] ys a = a
rest_of P (x ∷ xs) ys a = rest_of P xs ys (All-tail P x (xs ++ ys) a)

pub schedules_in_form : (s : Swept) → All IsInForm (reports_in s) → All IsInForm s.reports
schedules_in_form s a = front_of IsInForm s.reports (below_in s.below) a

pub last_in_form : (s : Swept) (r : Report) → s.below ≡ Some r → All IsInForm (reports_in s) → IsInForm r
last_in_form s r is a =
    let last : All IsInForm (below_in (Some r)) = subst (λ o. All IsInForm (below_in o)) is (rest_of IsInForm s.reports (below_in s.below) a) in
    All-head IsInForm r [] last
