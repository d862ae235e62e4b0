use Rattle.std.proofs.Common.{◌≡◌, ℕ, Some, length, arith, ap, sym, subst, ◌∙◌}
use Rattle.std.specs.Prelude.{slice_get}
use Rattle.std.specs.BTreeMap.{get}
use Rattle.std.specs.Ordering.{nat_cmp}
use Rattle.std.proofs.lemmas.Option.{slice_get-get_or}
use Rattle.ix_bits.specs.declared.number.Bits.{Bits}
use Rattle.ix_cells.specs.Tables.{AddsNext}
use Rattle.ix_cells.proofs.Forms.{if_ok}
use Rattle.ix_cells.proofs.WireLists.{next_constant, next_shared}
use Rattle.ix_cells.proofs.lookups.leaf.Goals as goal

pub returns-in-Some : goal.returns-in-Some
returns-in-Some c = λ width wide.
    let es = c.args.entries.now in
    let ws = c.args.wires.now in
    let e = c.index-entries-next.result in
    let next : slice_get es (length ws) ≡ Some e = slice_get-get_or es (length ws) _ c.requires.more ∙ ap Some (sym c.index-entries-next.is) in
    let found : get nat_cmp c.args.places.now e.raw ≡ Some c.in-Some.place = sym c.get.ensures.value ∙ sym c.copied.ensures ∙ c.in-Some.is in
    next_shared c.args.net.now ws es width c.in-Some.place e _ (slice_get-get_or ws c.in-Some.place _ (omega (arith, c.if-place-next.true))) next (c.requires.places e.raw c.in-Some.place found).1

pub returns-in_default : goal.returns-in_default
returns-in_default c =
    let es = c.args.entries.now in
    let ws = c.args.wires.now in
    let e = c.index-entries-next.result in
    let next : slice_get es (length ws) ≡ Some e = slice_get-get_or es (length ws) _ c.requires.more ∙ ap Some (sym c.index-entries-next.is) in
    if_ok c.constant.result _ _
    (λ r q width wide.
    let same : e.width ≡ width = ap (λ (b : Bits). b.width) c.index-entries-next.is ∙ wide (length ws) _ c.requires.more in
    let A : ℕ → Type 0 = λ w. AddsNext c.args.net.now c.constant.new.net ws es w r in
    subst A same (next_constant c.args.net.now c.constant.new.net ws es e r next q))
    c.constant.ensures
