-- Where the modules of an extension have a text, no behaviour is refused.
use Rattle.std.proofs.Common.{◌≡◌, ◌≢◌, refl, ℕ, suc, List, [], ◌∷◌, Some, inl, inr, arith}
use Rattle.std.specs.Prelude.{slice_get}
use Rattle.std.proofs.lemmas.Option.{slice_get_within}
use Rattle.ix_extension.specs.Extensions.{ExtensionTree, view_extension}
use Rattle.ix_net.specs.declared.netlist.Net.{Net}
use Rattle.ix_behaviour.specs.declared.which.Which.{Which}
use Rattle.ix_sheet.specs.declared.sheet.Sheet.{Sheet}
use Rattle.ix_sheet.specs.Sheets.{IsValidSheet}
use Rattle.ix_plan.specs.declared.design.Plan.{Plan}
use Rattle.ix_plan.specs.declared.design.Design.{Design}
use Rattle.ix_standing.specs.Standing.{behaviours_of, AreBuilt, Stands}
use Rattle.ix_schedules.specs.declared.text.TextErr.TheVariants.{TooManyOps, NoSchedule, Memory}
use Rattle.ix_schedules.specs.declared.text.TextErr.{TextErr}
use Rattle.ix_schedules.specs.Scheduling.{IsSchedulable, AtFirst}
use Rattle.ix_schedules.specs.ScheduleText.{IsTooManyText, IsNoScheduleText, IsRefusedText}
use Rattle.ix_schedules.proofs.OneAnswer.{large_apart, without_apart}
use Rattle.ix_design.proofs.Turns.{some_at}
use Rattle.ix_design.proofs.Widest.{can_be}
use Rattle.ix_modules.specs.Modules.{ModulesLaw}

none_first : (Before Here : Which → Type 0) → ((w : Which) → Before w → Here w → ⊥) → (ws : List Which) → ((k : ℕ) (w : Which) → slice_get ws k ≡ Some w → Before w) → AtFirst Before Here ws → ⊥
none_first Before Here apart [] each f = f
none_first Before Here apart (w ∷ ws) each (inl here) = apart w (each 0 w refl) here
none_first Before Here apart (w ∷ ws) each (inr f) = none_first Before Here apart ws (λ k v e. each (suc k) v e) f.1

each_can_be : (x : ExtensionTree) (sheet : Sheet) (plans : List Plan) (nets : List Net) → IsValidSheet sheet → AreBuilt x sheet plans nets → (k : ℕ) (w : Which) → slice_get (behaviours_of x) k ≡ Some w → IsSchedulable x sheet w
each_can_be x sheet plans nets valid built k w e =
    let few = slice_get_within (behaviours_of x) k w e in
    let plan_count = built.plan_count in
    let net_count = built.net_count in
    let p = some_at plans k (omega (arith, few, plan_count)) in
    let n = some_at nets k (omega (arith, few, net_count)) in
    can_be x sheet w p.0 n.0 valid (built.each k w p.0 n.0 e p.1 n.1)

-- where each behaviour has a plan and a net, none is refused
none_refused : (x : ExtensionTree) (sheet : Sheet) (plans : List Plan) (nets : List Net) (e : TextErr) → e ≢ Memory → IsValidSheet sheet → AreBuilt x sheet plans nets → IsRefusedText x sheet e → ⊥
none_refused x sheet plans nets (TooManyOps line) some valid built r = none_first (IsSchedulable x sheet) (IsTooManyText x line) (large_apart x sheet line) (behaviours_of x) (each_can_be x sheet plans nets valid built) r
none_refused x sheet plans nets (NoSchedule line) some valid built r = none_first (IsSchedulable x sheet) (IsNoScheduleText x sheet line) (without_apart x sheet line) (behaviours_of x) (each_can_be x sheet plans nets valid built) r
none_refused x sheet plans nets Memory some valid built r = some refl

pub built_not_refused : ModulesLaw
built_not_refused x sheet text e some h r = none_refused x sheet h.plans h.nets e some h.valid h.built r

-- a design stands for no extension with a behaviour that is refused
pub design_not_refused : (d : Design) (e : TextErr) → e ≢ Memory → Stands d → IsRefusedText (view_extension d.extension) d.sheet e → ⊥
design_not_refused d e some h r = none_refused (view_extension d.extension) d.sheet d.plans d.nets e some h.sheet h.built r
