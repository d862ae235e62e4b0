-- The check of a report finds no fault in the text of a report whose parts have none, also behind a line of a refusal.
use Rattle.std.proofs.Common.{◌≡◌, ◌∙◌, sym, ap, refl, ℕ, ◌+◌, ◌≤◌, ◌<◌, ◌^◌, ◌==◌, lit≤, lit<, Bool, List, [], ◌∷◌, ◌++◌, append_assoc, true, false, arith}
use Rattle.std.specs.Prelude.{All, codes, decimal, nat_lt}
use Rattle.std.specs.List.{list_all, flat_map, slice_split}
use Rattle.std.proofs.lemmas.Bool.{and_parts}
use Rattle.std.proofs.lemmas.Bool.Decides.{nat_tests}
use Rattle.std.proofs.lemmas.List.Elements.{All-nil, All-cons, All-head, All-tail}
use Rattle.std.proofs.lemmas.List.Splits.{slice_split_at}
use Rattle.ix_extension.specs.Extensions.{ExtensionTree}
use Rattle.ix_behaviour.specs.declared.which.Which.{Which}
use Rattle.ix_sheet.specs.declared.sheet.Sheet.{Sheet}
use Rattle.ix_sheet.specs.Sheets.{IsValidSheet}
use Rattle.ix_cert.specs.declared.report.Report.{Report}
use Rattle.ix_cert.specs.declared.report.ReportBlock.{ReportBlock}
use Rattle.ix_cert.specs.Layout.{Line, is_weighted, IsName, is_letter, is_name_byte, field, block_lines, lines_of, without_last_empty, first_line, behind_refusal, is_refusal, report_lines, IsBlockInForm, IsInForm, IsReportText}
use Rattle.ix_lines.specs.Lines.{text_of}
use Rattle.ix_cert.specs.Faults.{Step, HasNoFault, block_count, steps_in, steps_from}
use Rattle.ix_cert.specs.Certificates.{IsFaultless}
use Rattle.ix_cert.proofs.Outcomes.{printed}
use Rattle.ix_lines.proofs.Cuts.{Shown, shown_decimal}
use Rattle.ix_reports.specs.Blocks.{version_by, IsSound}
use Rattle.ix_schedules.specs.Scheduling.{behaviours_of, AreReported, IsReport}
use Rattle.ix_schedules.specs.ScheduleText.{no_schedule_line, alone}

-- ---- steps
no_fault_join : (xs ys : List Step) → HasNoFault xs → HasNoFault ys → HasNoFault (xs ++ ys)
no_fault_join [] ys a b = b
no_fault_join (x ∷ xs) ys a b = (a.0, no_fault_join xs ys a.1 b)

no_fault_from : (weighted : Bool) (period : ℕ) (bs : List ReportBlock) (first : ℕ) → All (IsSound weighted period) bs → HasNoFault (steps_from bs first)
no_fault_from weighted period [] first a = tt
no_fault_from weighted period (b ∷ bs) first a =
    no_fault_join (steps_in b.mode b first) (steps_from bs (first + block_count b)) ((All-head (IsSound weighted period) b bs a).faultless first) (no_fault_from weighted period bs (first + block_count b) (All-tail (IsSound weighted period) b bs a))

in_form : (weighted : Bool) (period : ℕ) (bs : List ReportBlock) → All (IsSound weighted period) bs → All (IsBlockInForm weighted period) bs
in_form weighted period [] a = All-nil (IsBlockInForm weighted period)
in_form weighted period (b ∷ bs) a = All-cons (IsBlockInForm weighted period) b bs (All-head (IsSound weighted period) b bs a).in_form (in_form weighted period bs (All-tail (IsSound weighted period) b bs a))

sound_each : (x : ExtensionTree) (sheet : Sheet) (ws : List Which) (bs : List ReportBlock) → AreReported x sheet ws bs → All (IsSound sheet.weighted sheet.period) bs
sound_each x sheet [] [] r = All-nil (IsSound sheet.weighted sheet.period)
sound_each x sheet [] (b ∷ bs) r = absurd r
sound_each x sheet (w ∷ ws) [] r = absurd r
sound_each x sheet (w ∷ ws) (b ∷ bs) r = All-cons (IsSound sheet.weighted sheet.period) b bs r.0.said.sound (sound_each x sheet ws bs r.1)

version_low : (weighted : Bool) → (1 ≤ version_by weighted) × (version_by weighted ≤ 2)
version_low true = (lit≤ tt, lit≤ tt)
version_low false = (lit≤ tt, lit≤ tt)

version_tells : (weighted : Bool) → is_weighted (version_by weighted) ≡ weighted
version_tells true = refl
version_tells false = refl

report_form : (sheet : Sheet) (r : Report) → IsValidSheet sheet → r.version ≡ version_by sheet.weighted → r.period ≡ sheet.period → All (IsSound sheet.weighted sheet.period) r.blocks → IsInForm r
report_form sheet r good v e a = record {
  some_version = rw v (version_low sheet.weighted).0;
  most_version = rw v (version_low sheet.weighted).1;
  some_period = rw e good.some_period;
  most_period = rw e good.most_period;
  blocks = rw (v, e, version_tells sheet.weighted) (in_form sheet.weighted sheet.period r.blocks a);
}

pub report_in_form : (x : ExtensionTree) (sheet : Sheet) (r : Report) → IsValidSheet sheet → IsReport x sheet r → IsInForm r
report_in_form x sheet r good h = report_form sheet r good h.version_is h.period_is (sound_each x sheet (behaviours_of x) r.blocks h.reported)

pub report_faultless : (x : ExtensionTree) (sheet : Sheet) (r : Report) (text : List ℕ) → IsReport x sheet r → IsReportText text r → IsFaultless text
report_faultless x sheet r text h t = record {
  report = r;
  text = t;
  faultless = no_fault_from sheet.weighted sheet.period r.blocks (first_line (lines_of text) + 2) (sound_each x sheet (behaviours_of x) r.blocks h.reported);
}

one_sound : (sheet : Sheet) (b : ReportBlock) → IsSound sheet.weighted sheet.period b → All (IsSound sheet.weighted sheet.period) (b ∷ [])
one_sound sheet b s = All-cons (IsSound sheet.weighted sheet.period) b [] s (All-nil (IsSound sheet.weighted sheet.period))

pub alone_in_form : (sheet : Sheet) (b : ReportBlock) → IsValidSheet sheet → IsSound sheet.weighted sheet.period b → IsInForm (alone sheet b)
alone_in_form sheet b good s = report_form sheet (alone sheet b) good refl refl (one_sound sheet b s)

pub alone_faultless : (sheet : Sheet) (b : ReportBlock) (text : List ℕ) → IsSound sheet.weighted sheet.period b → IsReportText text (alone sheet b) → IsFaultless text
alone_faultless sheet b text s t = record {
  report = alone sheet b;
  text = t;
  faultless = no_fault_from sheet.weighted sheet.period (b ∷ []) (first_line (lines_of text) + 2) (one_sound sheet b s);
}

-- ---- behind a line of a refusal
no_feed_byte : (b : ℕ) → nat_lt 10 b ≡ true → (b == 10) ≡ false
no_feed_byte b e = grind (arith, nat_tests)

no_feed : (l : Line) → list_all (nat_lt 10) l ≡ true → All (λ b. (b == 10) ≡ false) l
no_feed [] e = All-nil (λ b. (b == 10) ≡ false)
no_feed (b ∷ l) e = let p = and_parts (nat_lt 10 b) (list_all (nat_lt 10) l) e in All-cons (λ b. (b == 10) ≡ false) b l (no_feed_byte b p.0) (no_feed l p.1)

name_byte : (b : ℕ) → is_name_byte b ≡ true → nat_lt 10 b ≡ true
name_byte b e = grind (arith, nat_tests)

letter_byte : (b : ℕ) → is_letter b ≡ true → nat_lt 10 b ≡ true
letter_byte b e = grind (arith, nat_tests)

name_bytes : (n : Line) → list_all is_name_byte n ≡ true → list_all (nat_lt 10) n ≡ true
name_bytes [] e = refl
name_bytes (b ∷ n) e = let p = and_parts (is_name_byte b) (list_all is_name_byte n) e in rw (name_byte b p.0, name_bytes n p.1) refl

name_plain : (n : Line) → IsName n → list_all (nat_lt 10) n ≡ true
name_plain [] h = absurd h
name_plain (b ∷ n) h = rw (letter_byte b h.0, name_bytes n h.1) refl

line_plain : (n : Line) → IsName n → list_all (nat_lt 10) (no_schedule_line n) ≡ true
unfolding no_schedule_line
line_plain n h = name_plain n h

line_refuses : (n : Line) → is_refusal (no_schedule_line n) ≡ true
unfolding no_schedule_line
line_refuses n = refl

some_line : (n : Line) (ls : List Line) → without_last_empty (no_schedule_line n ∷ ls) ≡ no_schedule_line n ∷ without_last_empty ls
unfolding no_schedule_line
some_line n ls = refl

lines_behind : (n text : List ℕ) → IsName n → lines_of ((no_schedule_line n ++ 10 ∷ []) ++ text) ≡ no_schedule_line n ∷ lines_of text
lines_behind n text h =
    let l = no_schedule_line n in
    ap lines_of (append_assoc l (10 ∷ []) text)
    ∙ ap without_last_empty (slice_split_at (λ b. b == 10) l 10 text (no_feed l (line_plain n h)) refl)
    ∙ some_line n (slice_split (λ b. b == 10) text)

abbrev title : ℕ → Line
title version = codes "longnail report" ++ field version

shown_byte : (b : ℕ) → 32 < b → nat_lt 10 b ≡ true
shown_byte b h = grind (arith, nat_tests)

shown_plain : (w : Line) → Shown w → list_all (nat_lt 10) w ≡ true
shown_plain [] h = refl
shown_plain (b ∷ w) h = rw (shown_byte b h.0, shown_plain w h.1) refl

small_number : (n most : ℕ) → n ≤ most → most < 2 ^ 64 → n < 2 ^ 64
small_number n most h l = omega arith

title_plain : (version : ℕ) → version ≤ 2 → list_all (nat_lt 10) (title version) ≡ true
title_plain version h = shown_plain (decimal version) (shown_decimal version (small_number version 2 h (lit< tt)))

first_is_title : (version : ℕ) (rest : List ℕ) → version ≤ 2 → lines_of ((title version ++ 10 ∷ []) ++ rest) ≡ title version ∷ without_last_empty (slice_split (λ b. b == 10) rest)
first_is_title version rest h =
    ap lines_of (append_assoc (title version) (10 ∷ []) rest)
    ∙ ap without_last_empty (slice_split_at (λ b. b == 10) (title version) 10 rest (no_feed (title version) (title_plain version h)) refl)

-- the lines of a report's text are those of the report
lines_are : (r : Report) → IsInForm r → lines_of (text_of (report_lines r)) ≡ report_lines r
lines_are r f =
    let rest = text_of ((codes "period" ++ field r.period) ∷ flat_map (block_lines (is_weighted r.version)) r.blocks) in
    let t = printed (text_of (report_lines r)) r f refl in
    let first : lines_of (text_of (report_lines r)) ≡ title r.version ∷ without_last_empty (slice_split (λ b. b == 10) rest) = first_is_title r.version rest f.most_version in
    first ∙ ap behind_refusal (sym first) ∙ t.lines

refusal_behind : (l : Line) (ls : List Line) → is_refusal l ≡ true → behind_refusal (l ∷ ls) ≡ ls
refusal_behind l ls e = rw e refl

-- the text of a report behind a line that refuses is that of the report
report_behind : (n : List ℕ) (r : Report) → IsName n → IsInForm r → IsReportText ((no_schedule_line n ++ 10 ∷ []) ++ text_of (report_lines r)) r
report_behind n r h f = record {
  lines = ap behind_refusal (lines_behind n (text_of (report_lines r)) h) ∙ refusal_behind (no_schedule_line n) (lines_of (text_of (report_lines r))) (line_refuses n) ∙ lines_are r f;
  in_form = f;
}

pub behind_faultless : (sheet : Sheet) (b : ReportBlock) (text : List ℕ) → IsValidSheet sheet → IsSound sheet.weighted sheet.period b → text ≡ (no_schedule_line b.name ++ 10 ∷ []) ++ text_of (report_lines (alone sheet b)) → IsFaultless text
behind_faultless sheet b text good s e = rw e (record {
  report = alone sheet b;
  text = report_behind b.name (alone sheet b) s.in_form.named (alone_in_form sheet b good s);
  faultless = no_fault_from sheet.weighted sheet.period (b ∷ []) (first_line (lines_of ((no_schedule_line b.name ++ 10 ∷ []) ++ text_of (report_lines (alone sheet b)))) + 2) (one_sound sheet b s);
})

-- the line with the report behind it, by their parts
pub behind_text : (sheet : Sheet) (b : ReportBlock) (n m text : List ℕ) (r : Report) → n ≡ b.name → m ≡ text_of (report_lines r) → r ≡ alone sheet b → text ≡ (no_schedule_line n ++ 10 ∷ []) ++ m
    → text ≡ (no_schedule_line b.name ++ 10 ∷ []) ++ text_of (report_lines (alone sheet b))
behind_text sheet b n m text r named printed is e =
    e ∙ ap (λ l. (no_schedule_line l ++ 10 ∷ []) ++ m) named ∙ ap (λ t. (no_schedule_line b.name ++ 10 ∷ []) ++ t) (printed ∙ ap (λ (q : Report). text_of (report_lines q)) is)
