use Rattle.std.proofs.Common.{◌≡◌, ◌∙◌, sym, ap, Some, length, map, arith}
use Rattle.std.proofs.lemmas.List.{length-map}
use Rattle.ix_net.specs.Signals.{place_of}
use Rattle.ix_net.specs.Tables.{port_of}
use Rattle.ix_net.proofs.TableLemmas.{place_within, width_of_signal}
use Rattle.ix_net.proofs.tables.Table.declared.Goals as goal

pub index-requires : goal.index-requires
index-requires c =
    let xs = c.self.inside.signals.items in
    let at : place_of c.args.self.now c.args.name.now ≡ Some c.in_ok-place.place = sym c.find.ensures ∙ c.in_ok-place.was in
    let l = place_within c.args.self.now c.args.name.now c.in_ok-place.place at in
    let same : map port_of xs ≡ c.args.self.now = c.self.view_is in
    let size : length c.args.self.now ≡ length xs = sym (ap length same) ∙ length-map xs port_of in
    omega (arith, l, size, c.self.inside.signals.ok.0)

pub returns : goal.returns
returns c =
    let at : place_of c.args.self.now c.args.name.now ≡ Some c.in_ok-place.place = sym c.find.ensures ∙ c.in_ok-place.was in
    (at, width_of_signal c.self.inside.signals.items c.args.self.now c.args.name.now c.in_ok-place.place c.index.result.now c.self.view_is c.index.ensures at)
