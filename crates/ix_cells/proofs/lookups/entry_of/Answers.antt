use Rattle.std.proofs.Common.{◌≡◌, List, [], ◌∷◌, Option, Some, get_or, ap, sym, ◌∙◌, subst, refl, length}
use Rattle.std.specs.Prelude.{slice_get}
use Rattle.std.proofs.lemmas.Option.{slice_get_read, slice_get_within}
use Rattle.ix_bits.specs.declared.number.Bits.{Bits}
use Rattle.ix_mean.specs.GraphValues.{by_entry}
use Rattle.ix_cells.specs.Growth.{Adds}
use Rattle.ix_cells.specs.Operands.{wire_of}
use Rattle.ix_cells.proofs.Forms.{if_ok}
use Rattle.ix_cells.proofs.lookups.entry_of.Goals as goal

pub returns : goal.returns
returns c =
    let P : List (List Bits) → Type 0 = λ ts. c.index-as_slice-table.result ≡ get_or ts c.args.table c.index-as_slice-table.result in
    let at : slice_get c.args.graph.now.tables c.args.table ≡ Some c.index-as_slice-table.result =
    slice_get_read c.args.graph.now.tables (length c.args.graph.now.tables) c.args.table c.index-as_slice-table.result refl
    (slice_get_within c.args.graph.now.tables c.args.table c.requires.0 c.requires.1) (subst P c.as_slice.ensures c.index-as_slice-table.is) in
    let e : slice_get c.args.graph.now.tables c.args.table ≡ Some c.as_slice-entries.result.now = at ∙ ap Some (sym c.as_slice-entries.ensures) in
    if_ok c.looked_up.result _ _
    (λ r p. subst (λ (o : Option (List Bits)). Adds (wire_of c.args.index ∷ []) c.args.net.now c.looked_up.new.net r c.args.ty.width (λ see. by_entry o (see c.args.index.signal ∷ []))) (sym e) p) c.looked_up.ensures
