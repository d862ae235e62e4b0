use Rattle.std.proofs.Common.{◌≡◌, ◌∙◌, ap, sym, ℕ, List, Option, Some}
use Rattle.ix_tree.specs.declared.typed.TypedExprKind.{TypedExprKind}
use Rattle.ix_tree.specs.TypedView.{typed_view, typed_kind}
use Rattle.ix_mean.specs.ByName.{Entries, table_in}
use Rattle.ix_slots.specs.Found.{entries_of, table_at}
use Rattle.ix_slots.specs.Made.{made_entry, made_index}
use Rattle.ix_slots.proofs.Finding.{with_patterns, table_found}
use Rattle.ix_slots.proofs.expression.indexed.Goals as goal

pub returns-in-Some : goal.returns-in-Some
returns-in-Some c = λ ty base index.
    let ns = c.args.names.now in
    let x = c.args.x.now in
    let y = typed_view c.args.at.now in
    let named = sym c.in-Some.is ∙ c.table.ensures ∙ ap (λ (n : List ℕ). table_at ns.tables n) c.as_str-in-Name-default.ensures.text in
    let found : table_in 0 ns.tables c.in-Name-default.n ≡ Some (with_patterns (entries_of ns.tables) c.in-Some.table) = table_found ns.tables c.in-Name-default.n (Some c.in-Some.table) named in
    ap (λ (o : Option Entries). made_entry o ty base y index) (sym found)
    ∙ ap (λ (k : TypedExprKind). made_index ns ty (typed_kind x.span x.ty k) base y index) (sym c.in-Name-default.is-0)
