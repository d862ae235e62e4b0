-- What is told of a refusal, as a text.
use Rattle.std.proofs.Common.{◌≡◌, ◌∙◌, ap, ℕ, List, [], ◌∷◌, ◌++◌, inl, inr}
use Rattle.ix_extension.specs.Extensions.{ExtensionTree}
use Rattle.ix_behaviour.specs.declared.which.Which.{Which}
use Rattle.ix_sheet.specs.declared.sheet.Sheet.{Sheet}
use Rattle.ix_cert.specs.declared.report.ReportBlock.{ReportBlock}
use Rattle.ix_cert.specs.Layout.{report_lines}
use Rattle.ix_lines.specs.Lines.{text_of}
use Rattle.ix_cert.specs.Certificates.{IsFaultless}
use Rattle.ix_reports.specs.Blocks.{IsSound}
use Rattle.ix_schedules.specs.declared.scheduling.ScheduleErr.TheVariants.{TooManyOps, NoSchedule}
use Rattle.ix_schedules.specs.Scheduling.{behaviours_of, IsSchedulable, AtFirst, IsRefusedAs, IsFirstRefused}
use Rattle.ix_schedules.specs.ScheduleText.{IsTooManyText, IsNoScheduleText, no_schedule_line, too_many_line, alone}

first_weaker : (Before P Q : Which → Type 0) → ((w : Which) → P w → Q w) → (ws : List Which) → AtFirst Before P ws → AtFirst Before Q ws
first_weaker Before P Q f [] h = h
first_weaker Before P Q f (w ∷ ws) (inl h) = inl (f w h)
first_weaker Before P Q f (w ∷ ws) (inr h) = inr (h.0, first_weaker Before P Q f ws h.1)

pub large_told : (x : ExtensionTree) (sheet : Sheet) (name text : List ℕ) → IsFirstRefused x sheet (behaviours_of x) (TooManyOps name) → text ≡ too_many_line name ++ 10 ∷ [] → AtFirst (IsSchedulable x sheet) (IsTooManyText x text) (behaviours_of x)
large_told x sheet name text h e =
    first_weaker (IsSchedulable x sheet) (IsRefusedAs x sheet (TooManyOps name)) (IsTooManyText x text)
    (λ w r. record { large = r.0; printed = e ∙ ap (λ n. too_many_line n ++ 10 ∷ []) r.1 }) (behaviours_of x) h

pub without_told : (x : ExtensionTree) (sheet : Sheet) (b : ReportBlock) (text : List ℕ) → IsFirstRefused x sheet (behaviours_of x) (NoSchedule b) → text ≡ text_of (no_schedule_line b.name ∷ report_lines (alone sheet b)) → IsFaultless text → AtFirst (IsSchedulable x sheet) (IsNoScheduleText x sheet text) (behaviours_of x)
without_told x sheet b text h e sound =
    first_weaker (IsSchedulable x sheet) (IsRefusedAs x sheet (NoSchedule b)) (IsNoScheduleText x sheet text)
    (λ w r. record { block = b; without = r; printed = e ∙ ap (λ n. text_of (no_schedule_line n ∷ report_lines (alone sheet b))) r.said.says.name_is; faultless = sound }) (behaviours_of x) h

-- a behaviour that is not scheduled first has a part that is sound
pub first_sound : (x : ExtensionTree) (sheet : Sheet) (b : ReportBlock) (ws : List Which) → AtFirst (IsSchedulable x sheet) (IsRefusedAs x sheet (NoSchedule b)) ws → IsSound sheet.weighted sheet.period b
first_sound x sheet b [] h = absurd h
first_sound x sheet b (w ∷ ws) (inl h) = h.said.sound
first_sound x sheet b (w ∷ ws) (inr h) = first_sound x sheet b ws h.1
