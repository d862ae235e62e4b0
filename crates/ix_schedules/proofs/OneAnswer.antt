-- An extension has a report, or one behaviour that is not scheduled first, for one cause.
use Rattle.std.proofs.Common.{◌≡◌, ◌≢◌, sym, subst, refl, ℕ, ◌<◌, ◌≤◌, List, [], ◌∷◌, length, arith, inl, inr}
use Rattle.ix_extension.specs.Extensions.{ExtensionTree}
use Rattle.ix_slots.specs.Found.{entries_of}
use Rattle.ix_graph.specs.declared.graph.Graph.{Graph}
use Rattle.ix_behaviour.specs.declared.which.Which.{Which}
use Rattle.ix_sheet.specs.declared.sheet.Sheet.{Sheet}
use Rattle.ix_sheet.specs.declared.problem.Problem.{Problem}
use Rattle.ix_sheet.specs.Schedules.{HasSchedule}
use Rattle.ix_modes.specs.Modes.{FitsWidest}
use Rattle.ix_cert.specs.declared.report.ReportBlock.{ReportBlock}
use Rattle.ix_graph_laws.specs.Operations.{operations_at}
use Rattle.ix_schedules.specs.declared.text.TextErr.{TextErr}
use Rattle.ix_schedules.specs.declared.text.TextErr.TheVariants.{TooManyOps, NoSchedule, Memory}
use Rattle.ix_schedules.specs.Scheduling.{behaviours_of, is_block, IsWithout, IsTooLarge, IsSchedulable, AreReported, AtFirst}
use Rattle.ix_schedules.specs.ScheduleText.{IsScheduleText, IsTooManyText, IsNoScheduleText, IsRefusedText}
use Rattle.ix_schedules.proofs.OneGraph.{one_graph}

too_many : (n : ℕ) → n ≤ 256 → 256 < n → ⊥
too_many n few large = omega (arith, few, large)

pub not_large : (x : ExtensionTree) (sheet : Sheet) (w : Which) → IsSchedulable x sheet w → IsTooLarge x w → ⊥
not_large x sheet w s large = too_many (length (operations_at x w)) s.graph_is.few large

pub not_without : (x : ExtensionTree) (sheet : Sheet) (w : Which) (b : ReportBlock) → IsSchedulable x sheet w → IsWithout x sheet w b → ⊥
not_without x sheet w b s none =
    let u = none.said.none in
    let same : s.graph ≡ none.graph = one_graph x w (entries_of x.tables) s.graph none.graph s.graph_is none.graph_is in
    let fits : FitsWidest none.graph sheet (is_block w) = subst (λ (g : Graph). FitsWidest g sheet (is_block w)) same s.fits in
    u.none (subst (λ (p : Problem). HasSchedule p) (sym u.problem_is) (fits u.widest u.widest_is))

pub large_or_without : (x : ExtensionTree) (sheet : Sheet) (w : Which) (b : ReportBlock) → IsTooLarge x w → IsWithout x sheet w b → ⊥
large_or_without x sheet w b large none = too_many (length (operations_at x w)) none.graph_is.few large

-- ---- lists
none_first : (x : ExtensionTree) (sheet : Sheet) (Here : Which → Type 0) → ((w : Which) → IsSchedulable x sheet w → Here w → ⊥) → (ws : List Which) (bs : List ReportBlock) → AreReported x sheet ws bs → AtFirst (IsSchedulable x sheet) Here ws → ⊥
none_first x sheet Here apart [] bs r f = f
none_first x sheet Here apart (w ∷ ws) [] r f = r
none_first x sheet Here apart (w ∷ ws) (b ∷ bs) r (inl here) = apart w (record { graph = r.0.graph; graph_is = r.0.graph_is; fits = r.0.said.fits }) here
none_first x sheet Here apart (w ∷ ws) (b ∷ bs) r (inr f) = none_first x sheet Here apart ws bs r.1 f.1

two_first : (x : ExtensionTree) (sheet : Sheet) (P Q : Which → Type 0) → ((w : Which) → IsSchedulable x sheet w → P w → ⊥) → ((w : Which) → IsSchedulable x sheet w → Q w → ⊥) → ((w : Which) → P w → Q w → ⊥)
    → (ws : List Which) → AtFirst (IsSchedulable x sheet) P ws → AtFirst (IsSchedulable x sheet) Q ws → ⊥
two_first x sheet P Q p q both [] f g = f
two_first x sheet P Q p q both (w ∷ ws) (inl f) (inl g) = both w f g
two_first x sheet P Q p q both (w ∷ ws) (inl f) (inr g) = p w g.0 f
two_first x sheet P Q p q both (w ∷ ws) (inr f) (inl g) = q w f.0 g
two_first x sheet P Q p q both (w ∷ ws) (inr f) (inr g) = two_first x sheet P Q p q both ws f.1 g.1

-- ---- texts
pub large_apart : (x : ExtensionTree) (sheet : Sheet) (text : List ℕ) (w : Which) → IsSchedulable x sheet w → IsTooManyText x text w → ⊥
large_apart x sheet text w s t = not_large x sheet w s t.large

pub without_apart : (x : ExtensionTree) (sheet : Sheet) (text : List ℕ) (w : Which) → IsSchedulable x sheet w → IsNoScheduleText x sheet text w → ⊥
without_apart x sheet text w s t = not_without x sheet w t.block s t.without

pub scheduled_not_refused : (x : ExtensionTree) (sheet : Sheet) (text : List ℕ) (e : TextErr) → e ≢ Memory → IsScheduleText x sheet text → IsRefusedText x sheet e → ⊥
scheduled_not_refused x sheet text (TooManyOps line) some s r = none_first x sheet (IsTooManyText x line) (large_apart x sheet line) (behaviours_of x) s.report.blocks s.reports.reported r
scheduled_not_refused x sheet text (NoSchedule line) some s r = none_first x sheet (IsNoScheduleText x sheet line) (without_apart x sheet line) (behaviours_of x) s.report.blocks s.reports.reported r
scheduled_not_refused x sheet text Memory some s r = some refl

pub one_refusal : (x : ExtensionTree) (sheet : Sheet) (a b : List ℕ) → IsRefusedText x sheet (TooManyOps a) → IsRefusedText x sheet (NoSchedule b) → ⊥
one_refusal x sheet a b f g =
    two_first x sheet (IsTooManyText x a) (IsNoScheduleText x sheet b) (large_apart x sheet a) (without_apart x sheet b) (λ w p q. large_or_without x sheet w q.block p.large q.without) (behaviours_of x) f g
