use Rattle.std.proofs.Common.{◌≡◌, ◌<◌, List, Some, length, sym, ◌∙◌, subst, ap, get_or, arith}
use Rattle.std.specs.Prelude.{slice_get}
use Rattle.std.proofs.lemmas.List.{length-map}
use Rattle.std.proofs.lemmas.Option.{slice_get-get_or, MatchOption-at_some, MatchOption-at_none}
use Rattle.ix_net.specs.declared.netlist.Cell.{Cell}
use Rattle.ix_net.specs.Forms.{operands}
use Rattle.ix_vread.specs.Graphs.{HasNoLoop, IsFirstOnLoop, graph_of, read_by, cell_of}
use Rattle.ix_vread.proofs.Naming.{first_from, loopless_from}
use Rattle.ix_vread.proofs.first.first_loop.Goals as goal

pub returns-in-Some : goal.returns-in-Some
returns-in-Some c =
    let cells : List Cell = c.args.net.now.cells in
    let made : c.in_ok-graph.graph.items ≡ graph_of cells = c.in_ok-graph.ensures ∙ ap graph_of c.as_slice.ensures in
    let h : IsFirstOnLoop c.deref.result.now c.in-Some.cell = MatchOption-at_some (HasNoLoop c.deref.result.now) (IsFirstOnLoop c.deref.result.now) c.in-Some.cell c.in-Some.is c.in_ok-cell.ensures in
    let f : IsFirstOnLoop c.in_ok-graph.graph.items c.in-Some.cell = subst (λ g. IsFirstOnLoop g c.in-Some.cell) c.deref.ensures.value h in
    let within : c.in-Some.cell < length cells = omega (arith, f.within, ap length made, length-map cells (λ (x : Cell). read_by (cell_of cells) (operands x.form))) in
    let here : c.index-as_slice-cell.result ≡ get_or cells c.in-Some.cell c.index-as_slice-cell.result = c.index-as_slice-cell.is ∙ ap (λ xs. get_or xs c.in-Some.cell c.index-as_slice-cell.result) c.as_slice-in-Some.ensures in
    let at : slice_get cells c.in-Some.cell ≡ Some c.index-as_slice-cell.result = slice_get-get_or cells c.in-Some.cell c.index-as_slice-cell.result within ∙ ap Some (sym here) in
    first_from c.args.net.now c.in_ok-graph.graph.items c.in-Some.cell c.index-as_slice-cell.result c.in_ok-name-in-Some.name made c.requires f at (ap (λ (x : Cell). x.target) c.index-as_slice-cell.is ∙ sym (c.in_ok-name-in-Some.ensures ∙ c.as_str.ensures.text))

pub returns : goal.returns
returns c =
    let cells : List Cell = c.args.net.now.cells in
    let made : c.in_ok-graph.graph.items ≡ graph_of cells = c.in_ok-graph.ensures ∙ ap graph_of c.as_slice.ensures in
    let h : HasNoLoop c.deref.result.now = MatchOption-at_none (HasNoLoop c.deref.result.now) (IsFirstOnLoop c.deref.result.now) c.in-None.is c.in_ok-cell.ensures in
    loopless_from c.args.net.now c.in_ok-graph.graph.items made c.requires (subst HasNoLoop c.deref.ensures.value h)
