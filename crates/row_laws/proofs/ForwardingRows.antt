-- The rows of the run that adds five and seven on cores that forward are lawful, and those that differ in one thing are not.
use Rattle.std.proofs.Common.{◌≡◌, ℕ, [], ◌∷◌, Option, Some, None, true, false, refl, sym, ◌∙◌, inl, inr}
use Rattle.std.specs.Prelude.{get_or}
use Rattle.ix_bits.specs.BaseTable.{base_patterns}
use Rattle.rv_asks.specs.declared.asks.Asks.{Asks}
use Rattle.rv_asks.specs.Asks.{asks_with, blank_outline}
use Rattle.rv_core.specs.declared.Shape.{Shape}
use Rattle.rv_isa.specs.Table.{row_of as base_row, format_of, base_formats}
use Rattle.rv_isa.specs.Fields.{fields_of}
use Rattle.rv_isa.specs.Decoded.{decoded}
use Rattle.rv_seq.specs.declared.decoded.Decoded.{Decoded}
use Rattle.rv_seq.specs.declared.decoded.Decoded.TheVariants as D
use Rattle.rv_seq.specs.Decoding.{decoded_in}
use Rattle.rv_seq.specs.WordEffects.{effect_of, over, blocks_effect}
use Rattle.rv_lawful.specs.LawfulTrace.{fetch_address, next_serial, WaitsForOperand, Lawful}
use Rattle.rv_lawful.specs.Outstanding.{units_after}
use Rattle.rv_lawful.specs.Sight.{SpawnsNothing}
use Rattle.rv_seq.specs.Bare.{bare}
use Rattle.rv_seq.specs.Commits.{commit_of, applied}
use Rattle.rv_seq.specs.Runs.{run_with}
use Rattle.rv_seq.specs.States.{first}
use Rattle.rv_seq.specs.Steps.{attempted, step}
use Rattle.rv_trace.specs.Trace.{newest, is_flushed, is_retired, place}
use Rattle.rv_trace.specs.declared.row.Hold.TheVariants.{Operand}
use Rattle.row_laws.specs.Adding.{adding_image, sum}
use Rattle.row_laws.specs.Forwarding.{adding_on, short, short_0, short_1, short_2, short_3, short_4, short_two, short_three, short_four, short_rows, IsUnlawfulShort, never_forwarded, long, long_0, long_1, long_2, long_3, long_4, long_5, long_6, long_7, long_three, long_four, long_rows, IsUnlawfulLong, forwarded_early, waits_for_forwarded, waits_longer}
use Rattle.row_laws.specs.Hands.{on_core, three_forwarding, five_forwarding}
use Rattle.row_laws.proofs.Stages.{true_not_false, no_custom, idle}
use Rattle.row_laws.proofs.CalmTests.{IsCalm, is_withheld, withheld_then, waits_then}
use Rattle.row_laws.proofs.CalmRows.{Judged, no_rows, next_row}

-- no instruction of the base set spawns, writes a custom register late or goes on in the last stage
pub record IsPlain (a : Asks) : Type 0 where
  pub spawns : SpawnsNothing a
  pub tail : a.tail ≡ 0
  pub unlate : (r : ℕ) → get_or a.late_customs r false ≡ false

pub plain : (shape : Shape) (word : ℕ) (o : Option Decoded) → IsPlain (asks_with shape [] (λ n. None) (blank_outline shape []) word o)
plain shape word None = record { spawns = record { x = refl; customs = λ r. no_custom r; unit = refl }; tail = refl; unlate = λ r. no_custom r }
plain shape word (Some (D.Base b)) = record { spawns = record { x = refl; customs = λ r. no_custom r; unit = refl }; tail = refl; unlate = λ r. no_custom r }
plain shape word (Some (D.Own n)) = record { spawns = record { x = refl; customs = λ r. no_custom r; unit = refl }; tail = refl; unlate = λ r. no_custom r }

calm : (shape : Shape) → IsCalm (on_core shape (adding_on shape))
calm shape = record {
  spawns = λ word. (plain shape word (decoded_in bare word)).spawns;
  tail = λ word. (plain shape word (decoded_in bare word)).tail;
  unlate = λ word r. (plain shape word (decoded_in bare word)).unlate r;
}

-- Three stages

short_judged_0 : Judged short adding_image (short_0 ∷ [])
unfolding fetch_address next_serial is_flushed is_retired place units_after step run_with decoded_in attempted effect_of over blocks_effect commit_of first applied decoded base_row base_patterns fields_of format_of base_formats
short_judged_0 =
    next_row short adding_image (calm three_forwarding) [] short_0 (no_rows short adding_image) refl
    (record { form = record { behind = refl; listed = refl; ascending = tt }; moves = (refl, (refl, (refl, tt))); units = refl; taken = refl; tests = refl; redirect = refl; stop = refl })

short_judged_1 : Judged short adding_image (short_1 ∷ short_0 ∷ [])
unfolding fetch_address next_serial is_flushed is_retired place units_after step run_with decoded_in attempted effect_of over blocks_effect commit_of first applied decoded base_row base_patterns fields_of format_of base_formats
short_judged_1 =
    next_row short adding_image (calm three_forwarding) (short_0 ∷ []) short_1 short_judged_0 refl
    (record { form = record { behind = refl; listed = refl; ascending = tt }; moves = (refl, (refl, (refl, tt))); units = refl; taken = refl; tests = refl; redirect = refl; stop = refl })

short_judged_2 : Judged short adding_image (short_2 ∷ short_two)
unfolding fetch_address next_serial is_flushed is_retired place units_after step run_with decoded_in attempted effect_of over blocks_effect commit_of first applied decoded base_row base_patterns fields_of format_of base_formats
short_judged_2 =
    next_row short adding_image (calm three_forwarding) short_two short_2 short_judged_1 refl
    (record { form = record { behind = refl; listed = refl; ascending = tt }; moves = (refl, (refl, (refl, tt))); units = refl; taken = refl; tests = refl; redirect = refl; stop = refl })

short_judged_3 : Judged short adding_image (short_3 ∷ short_three)
unfolding fetch_address next_serial is_flushed is_retired place units_after step run_with decoded_in attempted effect_of over blocks_effect commit_of first applied decoded base_row base_patterns fields_of format_of base_formats
short_judged_3 =
    next_row short adding_image (calm three_forwarding) short_three short_3 short_judged_2 refl
    (record { form = record { behind = refl; listed = refl; ascending = tt }; moves = (refl, (refl, (refl, tt))); units = refl; taken = refl; tests = refl; redirect = refl; stop = refl })

short_judged_4 : Judged short adding_image (short_4 ∷ short_four)
unfolding fetch_address next_serial is_flushed is_retired place units_after step run_with decoded_in attempted effect_of over blocks_effect commit_of first applied decoded base_row base_patterns fields_of format_of base_formats
short_judged_4 =
    next_row short adding_image (calm three_forwarding) short_four short_4 short_judged_3 refl
    (record { form = record { behind = refl; listed = refl; ascending = tt }; moves = (refl, (refl, (refl, tt))); units = refl; taken = refl; tests = refl; redirect = refl; stop = refl })

pub short_lawful : Lawful (λ places. short) short_rows
short_lawful = short_judged_4.lawful

-- what the second one writes is passed on to the third
seven_passed : is_withheld true short (newest never_forwarded) 1 ≡ false
unfolding decoded_in decoded base_row base_patterns fields_of format_of base_formats
seven_passed = refl

pub never_forwarded_refused : IsUnlawfulShort never_forwarded
never_forwarded_refused h = elim ((h.0.holds 1 (sum (Some (Operand 2 1))) refl).shown (Operand 2 1) refl) [
  | inl w ↦ true_not_false (sym (withheld_then true short (newest never_forwarded) 1 w.withheld) ∙ seven_passed)
  | inr b ↦ cc (b.0)
]

-- Five stages

long_judged_0 : Judged long adding_image (long_0 ∷ [])
unfolding fetch_address next_serial is_flushed is_retired place units_after step run_with decoded_in attempted effect_of over blocks_effect commit_of first applied decoded base_row base_patterns fields_of format_of base_formats
long_judged_0 =
    next_row long adding_image (calm five_forwarding) [] long_0 (no_rows long adding_image) refl
    (record { form = record { behind = refl; listed = refl; ascending = tt }; moves = (refl, (refl, (refl, (refl, (refl, tt))))); units = refl; taken = refl; tests = refl; redirect = refl; stop = refl })

long_judged_1 : Judged long adding_image (long_1 ∷ long_0 ∷ [])
unfolding fetch_address next_serial is_flushed is_retired place units_after step run_with decoded_in attempted effect_of over blocks_effect commit_of first applied decoded base_row base_patterns fields_of format_of base_formats
long_judged_1 =
    next_row long adding_image (calm five_forwarding) (long_0 ∷ []) long_1 long_judged_0 refl
    (record { form = record { behind = refl; listed = refl; ascending = tt }; moves = (refl, (refl, (refl, (refl, (refl, tt))))); units = refl; taken = refl; tests = refl; redirect = refl; stop = refl })

long_judged_2 : Judged long adding_image (long_2 ∷ long_1 ∷ long_0 ∷ [])
unfolding fetch_address next_serial is_flushed is_retired place units_after step run_with decoded_in attempted effect_of over blocks_effect commit_of first applied decoded base_row base_patterns fields_of format_of base_formats
long_judged_2 =
    next_row long adding_image (calm five_forwarding) (long_1 ∷ long_0 ∷ []) long_2 long_judged_1 refl
    (record { form = record { behind = refl; listed = refl; ascending = tt }; moves = (refl, (refl, (refl, (refl, (refl, tt))))); units = refl; taken = refl; tests = refl; redirect = refl; stop = refl })

long_judged_3 : Judged long adding_image (long_3 ∷ long_three)
unfolding fetch_address next_serial is_flushed is_retired place units_after step run_with decoded_in attempted effect_of over blocks_effect commit_of first applied decoded base_row base_patterns fields_of format_of base_formats
long_judged_3 =
    next_row long adding_image (calm five_forwarding) long_three long_3 long_judged_2 refl
    (record { form = record { behind = refl; listed = refl; ascending = tt }; moves = (refl, (refl, (refl, (refl, (refl, tt))))); units = refl; taken = refl; tests = refl; redirect = refl; stop = refl })

long_judged_4 : Judged long adding_image (long_4 ∷ long_four)
unfolding fetch_address next_serial is_flushed is_retired place units_after step run_with decoded_in attempted effect_of over blocks_effect commit_of first applied decoded base_row base_patterns fields_of format_of base_formats
long_judged_4 =
    next_row long adding_image (calm five_forwarding) long_four long_4 long_judged_3 refl
    (record { form = record { behind = refl; listed = refl; ascending = tt }; moves = (refl, (refl, (refl, (refl, (refl, tt))))); units = refl; taken = refl; tests = refl; redirect = refl; stop = refl })

long_judged_5 : Judged long adding_image (long_5 ∷ long_4 ∷ long_four)
unfolding fetch_address next_serial is_flushed is_retired place units_after step run_with decoded_in attempted effect_of over blocks_effect commit_of first applied decoded base_row base_patterns fields_of format_of base_formats
long_judged_5 =
    next_row long adding_image (calm five_forwarding) (long_4 ∷ long_four) long_5 long_judged_4 refl
    (record { form = record { behind = refl; listed = refl; ascending = tt }; moves = (refl, (refl, (refl, (refl, (refl, tt))))); units = refl; taken = refl; tests = refl; redirect = refl; stop = refl })

long_judged_6 : Judged long adding_image (long_6 ∷ long_5 ∷ long_4 ∷ long_four)
unfolding fetch_address next_serial is_flushed is_retired place units_after step run_with decoded_in attempted effect_of over blocks_effect commit_of first applied decoded base_row base_patterns fields_of format_of base_formats
long_judged_6 =
    next_row long adding_image (calm five_forwarding) (long_5 ∷ long_4 ∷ long_four) long_6 long_judged_5 refl
    (record { form = record { behind = refl; listed = refl; ascending = tt }; moves = (refl, (refl, (refl, (refl, (refl, tt))))); units = refl; taken = refl; tests = refl; redirect = refl; stop = refl })

long_judged_7 : Judged long adding_image (long_7 ∷ long_6 ∷ long_5 ∷ long_4 ∷ long_four)
unfolding fetch_address next_serial is_flushed is_retired place units_after step run_with decoded_in attempted effect_of over blocks_effect commit_of first applied decoded base_row base_patterns fields_of format_of base_formats
long_judged_7 =
    next_row long adding_image (calm five_forwarding) (long_6 ∷ long_5 ∷ long_4 ∷ long_four) long_7 long_judged_6 refl
    (record { form = record { behind = refl; listed = refl; ascending = tt }; moves = (refl, (refl, (refl, (refl, (refl, tt))))); units = refl; taken = refl; tests = refl; redirect = refl; stop = refl })

pub long_lawful : Lawful (λ places. long) long_rows
long_lawful = long_judged_7.lawful

-- what the second one writes is not passed on while it is at EX
sum_waits : WaitsForOperand long long_three (newest forwarded_early) 1 (sum None) 2 1
unfolding is_flushed is_retired decoded_in decoded base_row base_patterns fields_of format_of base_formats
sum_waits = waits_then long long_three (newest forwarded_early) 1 (sum None) 2 1 refl

pub forwarded_early_refused : IsUnlawfulLong forwarded_early
forwarded_early_refused h = idle long long_three (newest forwarded_early) 1 (sum None) (Operand 2 1) h refl refl refl sum_waits

-- what the first one writes is, as it stands behind EX, and in the next row so is what the second one writes
five_passed : is_withheld true long (newest waits_for_forwarded) 0 ≡ false
unfolding decoded_in decoded base_row base_patterns fields_of format_of base_formats
five_passed = refl

passed_behind : is_withheld true long (newest waits_longer) 1 ≡ false
unfolding decoded_in decoded base_row base_patterns fields_of format_of base_formats
passed_behind = refl

pub waits_for_forwarded_refused : IsUnlawfulLong waits_for_forwarded
waits_for_forwarded_refused h = elim ((h.0.holds 1 (sum (Some (Operand 1 0))) refl).shown (Operand 1 0) refl) [
  | inl w ↦ true_not_false (sym (withheld_then true long (newest waits_for_forwarded) 0 w.withheld) ∙ five_passed)
  | inr b ↦ cc (b.0)
]

pub waits_longer_refused : IsUnlawfulLong waits_longer
waits_longer_refused h = elim ((h.0.holds 1 (sum (Some (Operand 2 1))) refl).shown (Operand 2 1) refl) [
  | inl w ↦ true_not_false (sym (withheld_then true long (newest waits_longer) 1 w.withheld) ∙ passed_behind)
  | inr b ↦ cc (b.0)
]
