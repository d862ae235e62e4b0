-- A design without behaviours stands.
use Rattle.std.proofs.Common.{◌≡◌, ℕ, List, [], ◌∷◌, length, map, Some, None, slice_get, refl, sym, ap, subst, ◌∙◌}
use Rattle.ix_net.specs.declared.netlist.Net.{Net}
use Rattle.ix_plan.specs.declared.design.Plan.{Plan}
use Rattle.ix_plan.specs.declared.design.Design.{Design}
use Rattle.ix_sheet.specs.declared.sheet.Sheet.{Sheet}
use Rattle.ix_sheet.specs.Sheets.{IsValidSheet}
use Rattle.ix_tree.specs.declared.extension.Extension.{Extension}
use Rattle.ix_tree.specs.declared.token.Span.{Span}
use Rattle.ix_tree.specs.TypedTrees.{TypedTextTree}
use Rattle.ix_extension.specs.Extensions.{ExtensionTree, view_extension}
use Rattle.ix_extension.specs.WellFormed.{IsOf, IsWellFormed}
use Rattle.ix_behaviour.specs.declared.which.Which.{Which}
use Rattle.ix_standing.specs.Standing.{AreBuilt, Stands, behaviours_of}
use Rattle.rv_seq.specs.Bare.{bare}

empty_text : TypedTextTree
empty_text = record { span = record { from = 0; to = 0 }; name = []; sections = [] }

empty_is : IsOf empty_text bare
unfolding empty_text
empty_is = record { typed = refl; sound = refl; parts = refl }

none_there : {B : Type 0} (k : ℕ) (p : Plan) → slice_get [] k ≡ Some p → B
none_there k p e = absurd cc

none_built : (sheet : Sheet) → AreBuilt bare sheet [] []
none_built sheet = record { plan_count = refl; net_count = refl; each = λ k w p n a b c. none_there k p b }

pub plain_stands : (x : Extension) (sheet : Sheet) → view_extension x ≡ bare → IsValidSheet sheet → Stands (record { extension = x; sheet = sheet; plans = []; nets = [] })
plain_stands x sheet e valid =
    record {
      well_formed = (empty_text, subst (λ y. IsOf empty_text y) (sym e) empty_is);
      sheet = valid;
      built = subst (λ y. AreBuilt y sheet [] []) (sym e) (none_built sheet);
    }
