-- What the assembly of a source, and the scheduling, the building and the sweeping of an extension, answers.
use Rattle.std.proofs.Common.{◌≡◌, ℕ, List, [], ◌∷◌, Option, Some, None, refl, ◌⊎◌, inl, inr}
use Rattle.std.specs.Prelude.{codes}
use Rattle.ix_extension.specs.Extensions.{ExtensionTree}
use Rattle.rv_text.specs.RunText.{run_text}
use Rattle.rv_asm.specs.ImageText.{image_text}
use Rattle.rv_asm.specs.Sources.{Assembles, IsRefusedAs}
use Rattle.rv_asm.specs.declared.source.AsmErr.{AsmErr}
use Rattle.rv_asm.specs.declared.source.AsmErr.TheVariants as A
use Rattle.ix_sheet.specs.declared.sheet.Sheet.{Sheet}
use Rattle.ix_schedules.specs.declared.text.TextErr.{TextErr}
use Rattle.ix_schedules.specs.ScheduleText.{IsScheduleText, IsRefusedText as IsRefusedSchedule}
use Rattle.ix_words.specs.declared.status.Status.{Status}
use Rattle.ix_words.specs.declared.status.Status.TheVariants.{Ok as ok_status, Memory, Source, Extension as extension_status, Trace, Barrel as barrel_status}
use Rattle.rv_audit.specs.declared.auditing.AuditErr.{AuditErr}
use Rattle.ix_modules.specs.Modules.{IsModulesText}
use Rattle.ix_schedules.specs.Scheduling.{behaviours_of}
use Rattle.ix_sweeps.specs.declared.sweeping.SweepErr.TheVariants as W
use Rattle.ix_sweeps.specs.Sweeping.{IsFirstLarge}
use Rattle.ix_sweeps.specs.SweepText.{IsSweepText}
use Rattle.ix_words.specs.declared.command.Command.{Command}
use Rattle.ix_words.specs.declared.command.Command.TheVariants.{Assemble, Schedule, Build, Sweep, Seq, Bench, Audit, Barrel}
use Rattle.ix_words.specs.declared.command.RunForm.{RunForm}
use Rattle.ix_words.specs.declared.command.RunForm.TheVariants.{Rows, Interrupted, Ports}
use Rattle.ix_words.specs.Readings.{Reading, extension_read, sheet_read, source_read, image_read, waits_read, lines_read, trace_read, number_read}
use Rattle.ix_tool.specs.BarrelOutput.{IsBarrelRun, IsTightFor, tight_line}
use Rattle.ix_tool.specs.CommandOutput.{command_in, run_values, HasLines, Writes, IsToldAs, Schedules, Answered, IsExtensionRun, IsDrawnRun, IsAuditedRun, IsFaultyRun, source_line, fault_line}

module _ (x : ExtensionTree) (bytes : List ℕ) (before now : Option (List ℕ)) (faults faults_now : ℕ) (result : Status) where
  pub image_answered : (words : List ℕ) → Assembles x bytes words → (((result ≡ Memory) × (now ≡ before)) ⊎ Writes ok_status (image_text words) before now faults faults_now result)
      → Answered Assemble (extension_read x ∷ source_read bytes ∷ []) before now faults faults_now result
  image_answered words h (inl memory) = inl memory
  image_answered words h (inr w) = inr (ok_status, image_text words, inr (refl, (words, h, refl)), w)

  pub line_answered : (e : AsmErr) → (e ≡ A.Memory → ⊥) → IsRefusedAs x bytes e → (((result ≡ Memory) × (now ≡ before)) ⊎ Writes Source (source_line e) before now faults faults_now result)
      → Answered Assemble (extension_read x ∷ source_read bytes ∷ []) before now faults faults_now result
  line_answered e some h (inl memory) = inl memory
  line_answered e some h (inr w) =
      inr (
        Source,
        source_line e,
        inl (inl (record { command_is = refl; extension = x; source = bytes; values_are = refl; error = e; no_memory = some; refused = h; status_is = refl; line_is = refl })),
        w,
      )

run_schedules : (form : RunForm) → Schedules (command_in form)
run_schedules Rows = tt
run_schedules Interrupted = tt
run_schedules Ports = tt

module _ (x : ExtensionTree) (sheet : Sheet) (before now : Option (List ℕ)) (faults faults_now : ℕ) (result : Status) where
  pub report_answered : (text : List ℕ) → IsScheduleText x sheet text → Writes ok_status text before now faults faults_now result → Answered Schedule (extension_read x ∷ sheet_read sheet ∷ []) before now faults faults_now result
  report_answered text h w = inr (ok_status, text, inr (refl, h), w)

  pub modules_answered : (text : List ℕ) → IsModulesText x sheet text → Writes ok_status text before now faults faults_now result → Answered Build (extension_read x ∷ sheet_read sheet ∷ []) before now faults faults_now result
  modules_answered text h w = inr (ok_status, text, inr (refl, h), w)

  pub behaviour_answered : (command : Command) (others : List Reading) → Schedules command → (e : TextErr) (status : Status) (text : List ℕ) → IsRefusedSchedule x sheet e → IsToldAs e status text → Writes status text before now faults faults_now result
      → Answered command (extension_read x ∷ sheet_read sheet ∷ others) before now faults faults_now result
  behaviour_answered command others schedules e status text h told w =
      inr (status, text, inl (inr (inl (record { schedules = schedules; extension = x; sheet = sheet; others = others; values_are = refl; error = e; refused = h; told = told }))), w)

  -- the refusal of a run
  pub run_refused : (form : RunForm) (image waits : List ℕ) (lines : Option (List ℕ)) (cycles : ℕ) (e : TextErr) (status : Status) (text : List ℕ) → IsRefusedSchedule x sheet e → IsToldAs e status text → Writes status text before now faults faults_now result
      → Answered (command_in form) (run_values x sheet image waits lines cycles) before now faults faults_now result
  run_refused form image waits None cycles e status text h told w = behaviour_answered (command_in form) (image_read image ∷ waits_read waits ∷ number_read cycles ∷ []) (run_schedules form) e status text h told w
  run_refused form image waits (Some lines) cycles e status text h told w =
      behaviour_answered (command_in form) (image_read image ∷ waits_read waits ∷ lines_read lines ∷ number_read cycles ∷ []) (run_schedules form) e status text h told w

  pub sweep_answered : (text : List ℕ) → IsSweepText x sheet text → Writes ok_status text before now faults faults_now result → Answered Sweep (extension_read x ∷ sheet_read sheet ∷ []) before now faults faults_now result
  sweep_answered text h w = inr (ok_status, text, inr (refl, h), w)

  pub large_answered : (line : List ℕ) → IsFirstLarge x (behaviours_of x) (W.TooManyOps line) → Writes extension_status line before now faults faults_now result → Answered Sweep (extension_read x ∷ sheet_read sheet ∷ []) before now faults faults_now result
  large_answered line h w =
      inr (extension_status, line, inl (inr (inr (inl (record { command_is = refl; extension = x; sheet = sheet; values_are = refl; refused = h; status_is = refl })))), w)

  pub run_answered : (form : RunForm) (image waits : List ℕ) (lines : Option (List ℕ)) (cycles : ℕ) (text : List ℕ) → HasLines form lines → IsExtensionRun form x sheet image waits lines cycles text → Writes ok_status text before now faults faults_now result
      → Answered (command_in form) (run_values x sheet image waits lines cycles) before now faults faults_now result
  run_answered Rows image waits None cycles text l h w =
      inr (ok_status, text, inr (refl, record { extension = x; sheet = sheet; image = image; waits = waits; cycles = cycles; values_are = refl; runs = h }), w)
  run_answered Rows image waits (Some lines) cycles text l h w = absurd l
  run_answered Interrupted image waits None cycles text l h w = absurd l
  run_answered Interrupted image waits (Some lines) cycles text l h w =
      inr (ok_status, text, inr (refl, record { extension = x; sheet = sheet; image = image; waits = waits; lines = lines; cycles = cycles; values_are = refl; runs = h }), w)
  run_answered Ports image waits None cycles text l h w =
      inr (ok_status, text, inr (refl, record { extension = x; sheet = sheet; image = image; waits = waits; cycles = cycles; values_are = refl; runs = h }), w)
  run_answered Ports image waits (Some lines) cycles text l h w = absurd l

  pub bench_answered : (number count : ℕ) (text : List ℕ) → IsDrawnRun x sheet number count text → Writes ok_status text before now faults faults_now result
      → Answered Bench (extension_read x ∷ sheet_read sheet ∷ number_read number ∷ number_read count ∷ []) before now faults faults_now result
  bench_answered number count text h w =
      inr (ok_status, text, inr (refl, record { extension = x; sheet = sheet; number = number; count = count; values_are = refl; runs = h }), w)

  pub audit_answered : (image waits trace : List ℕ) → IsAuditedRun x sheet image waits trace → Writes ok_status (codes "yes\n") before now faults faults_now result
      → Answered Audit (extension_read x ∷ sheet_read sheet ∷ image_read image ∷ waits_read waits ∷ trace_read trace ∷ []) before now faults faults_now result
  audit_answered image waits trace h w =
      inr (ok_status, codes "yes\n", inr (refl, record { extension = x; sheet = sheet; image = image; waits = waits; trace = trace; values_are = refl; audited = h; text_is = refl }), w)

  pub fault_answered : (image waits trace : List ℕ) (e : AuditErr) → IsFaultyRun x sheet image waits trace e → Writes Trace (fault_line e) before now faults faults_now result
      → Answered Audit (extension_read x ∷ sheet_read sheet ∷ image_read image ∷ waits_read waits ∷ trace_read trace ∷ []) before now faults faults_now result
  fault_answered image waits trace e h w =
      inr (
        Trace,
        fault_line e,
        inl (inr (inr (inr (inl (record { command_is = refl; extension = x; sheet = sheet; image = image; waits = waits; trace = trace; values_are = refl; error = e; faulty = h; status_is = refl; line_is = refl }))))),
        w,
      )

  pub barrel_answered : (first second : List ℕ) (cycles : ℕ) (text : List ℕ) → IsBarrelRun x sheet first second cycles text → Writes ok_status text before now faults faults_now result
      → Answered Barrel (extension_read x ∷ sheet_read sheet ∷ image_read first ∷ image_read second ∷ number_read cycles ∷ []) before now faults faults_now result
  barrel_answered first second cycles text h w =
      inr (ok_status, text, inr (refl, record { extension = x; sheet = sheet; first = first; second = second; cycles = cycles; values_are = refl; runs = h }), w)

  pub tight_answered : (others : List Reading) (name : List ℕ) → IsTightFor x sheet name → Writes barrel_status (tight_line name) before now faults faults_now result
      → Answered Barrel (extension_read x ∷ sheet_read sheet ∷ others) before now faults faults_now result
  tight_answered others name h w =
      inr (
        barrel_status,
        tight_line name,
        inl (inr (inr (inr (inr (record { command_is = refl; extension = x; sheet = sheet; others = others; values_are = refl; name = name; tight = h; status_is = refl; line_is = refl }))))),
        w,
      )

module _ (x : ExtensionTree) (before now : Option (List ℕ)) (faults faults_now : ℕ) (result : Status) where
  pub steps_answered : (image : List ℕ) (steps : ℕ) → (((result ≡ Memory) × (now ≡ before)) ⊎ Writes ok_status (run_text x image steps) before now faults faults_now result)
      → Answered Seq (extension_read x ∷ image_read image ∷ number_read steps ∷ []) before now faults faults_now result
  steps_answered image steps (inl memory) = inl memory
  steps_answered image steps (inr w) = inr (ok_status, run_text x image steps, inr (refl, refl), w)
