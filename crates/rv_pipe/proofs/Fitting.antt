-- The nets of a design that stands fit its plans.
use Rattle.std.proofs.Common.{◌≡◌, ◌∙◌, sym, refl, ap, ℕ, suc, pred, List, [], ◌∷◌, length, Some}
use Rattle.std.specs.Prelude.{slice_get}
use Rattle.ix_extension.specs.Extensions.{ExtensionTree, view_extension}
use Rattle.ix_behaviour.specs.declared.which.Which.{Which}
use Rattle.ix_net.specs.declared.netlist.Net.{Net}
use Rattle.ix_plan.specs.declared.design.Plan.{Plan}
use Rattle.ix_plan.specs.declared.design.Design.{Design}
use Rattle.ix_sheet.specs.declared.sheet.Sheet.{Sheet}
use Rattle.ix_standing.specs.Standing.{IsBuilt, Stands, behaviours_of}
use Rattle.rv_nets.specs.Kept.{AreFitting}

abbrev EachIsBuilt : ExtensionTree → Sheet → List Which → List Plan → List Net → Type 0
EachIsBuilt x sheet ws plans nets = (k : ℕ) (w : Which) (p : Plan) (n : Net) → slice_get ws k ≡ Some w → slice_get plans k ≡ Some p → slice_get nets k ≡ Some n → IsBuilt x sheet w p n

fits_each : (x : ExtensionTree) (sheet : Sheet) (ws : List Which) (plans : List Plan) (nets : List Net) → length plans ≡ length ws → length nets ≡ length ws → EachIsBuilt x sheet ws plans nets → AreFitting sheet.shape plans nets
fits_each x sheet [] [] [] e f each = tt
fits_each x sheet [] (p ∷ plans) nets e f each = cc
fits_each x sheet [] [] (net ∷ nets) e f each = cc
fits_each x sheet (w ∷ ws) [] nets e f each = cc
fits_each x sheet (w ∷ ws) (p ∷ plans) [] e f each = cc
fits_each x sheet (w ∷ ws) (p ∷ plans) (net ∷ nets) e f each =
    let built = each 0 w p net refl refl refl in (
      built.valid,
      built.serves.inputs,
      fits_each x sheet ws plans nets (ap pred e) (ap pred f) (λ k. each (suc k)),
    )

pub fitting : (d : Design) → Stands d → AreFitting d.sheet.shape d.plans d.nets
fitting d stands = fits_each (view_extension d.extension) d.sheet (behaviours_of (view_extension d.extension)) d.plans d.nets stands.built.plan_count stands.built.net_count stands.built.each

pub as_many : (d : Design) → Stands d → length d.plans ≡ length d.nets
as_many d stands = stands.built.plan_count ∙ sym stands.built.net_count
