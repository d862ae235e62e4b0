use Rattle.std.proofs.Common.{◌≡◌, ℕ, ◌-◌, ◌^◌, ◌<◌, List, [], ◌∷◌, length, map, get_or, arith, ap, sym, ◌∙◌, subst, All, Some}
use Rattle.std.specs.Prelude.{slice_get}
use Rattle.std.proofs.lemmas.Option.{slice_get-get_or}
use Rattle.ix_bits.specs.declared.number.Bits.{Bits}
use Rattle.ix_cells.specs.declared.signal.Wire.{Wire}
use Rattle.ix_cells.specs.Tables.{AddsAll, Levels}
use Rattle.ix_cells.proofs.WireLists.{entry_at, lookup_first, lookup_next, lookup_done, count_next}
use Rattle.ix_cells.proofs.lookups.looked_up.Goals as goal

pub loop-place-init : goal.loop-place-init
loop-place-init c =
    let z : c.args.index.width - 0 ≡ c.args.index.width = omega arith in
    let e : 2 ^ (c.args.index.width - 0) ≡ 2 ^ c.args.index.width = ap (λ n. 2 ^ n) z in
    record {
      count = omega (arith, e, c.requires.enough, c.in_ok-wires.ensures.0);
      all = lookup_first (map (λ (e : Bits). e.raw) c.args.entries.now) c.args.index c.args.net.now c.constants.new.net c.in_ok-wires.wires.items c.args.width c.in_ok-wires.ensures.1;
    }

pub level-requires-clause-wide : goal.level-requires-clause-wide
level-requires-clause-wide c =
    let P : List Wire → Type 0 = λ ws. All (λ (w : Wire). w.width ≡ c.args.width) ws in
    subst P (sym c.deref.ensures.value) (λ k d l. c.loop-place.invariant.all.wide k (get_or c.loop-place.wires.items k d) (slice_get-get_or c.loop-place.wires.items k d l))

pub loop-place-preserved : goal.loop-place-preserved
loop-place-preserved c =
    let P : List Wire → Type 0 = λ ws. Levels c.loop-place.net c.level.new.net ws c.args.index c.loop-place.place c.in_ok-wires-2.wires.items in
    let l : Levels c.loop-place.net c.level.new.net c.loop-place.wires.items c.args.index c.loop-place.place c.in_ok-wires-2.wires.items = subst P c.deref.ensures.value c.in_ok-wires-2.ensures in
    record {
      count = count_next (length c.loop-place.wires.items) (length c.in_ok-wires-2.wires.items) c.args.index.width c.loop-place.place (omega arith) c.loop-place.invariant.count l.count;
      all = lookup_next (map (λ (e : Bits). e.raw) c.args.entries.now) c.args.index c.args.net.now c.loop-place.net c.level.new.net c.loop-place.wires.items c.in_ok-wires-2.wires.items c.args.width c.loop-place.place
          c.loop-place.invariant.all l;
    }

pub returns : goal.returns
returns c =
    let e : c.loop-place.place ≡ c.args.index.width = omega arith in
    let z : c.args.index.width - c.loop-place.place ≡ 0 = omega arith in
    let o : 2 ^ (c.args.index.width - c.loop-place.place) ≡ 1 = ap (λ n. 2 ^ n) z in
    let some : 0 < length c.loop-place.wires.items = omega (arith, o, c.loop-place.invariant.count) in
    let at : slice_get c.loop-place.wires.items 0 ≡ Some c.index.result.now = slice_get-get_or c.loop-place.wires.items 0 c.index.result.now some ∙ ap Some (sym c.index.ensures) in
    let A : ℕ → Type 0 = λ n. AddsAll (c.args.index ∷ []) c.args.net.now c.loop-place.net c.loop-place.wires.items c.args.width (entry_at (map (λ (e : Bits). e.raw) c.args.entries.now) c.args.index n) in
    lookup_done (map (λ (e : Bits). e.raw) c.args.entries.now) c.args.index c.args.net.now c.loop-place.net c.index.result.now c.loop-place.wires.items c.args.width at (subst A e c.loop-place.invariant.all)
