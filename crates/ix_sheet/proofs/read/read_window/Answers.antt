use Rattle.std.proofs.Common.{◌≡◌, ◌∙◌, sym, ap, true, get_or, [], Some, codes}
use Rattle.std.specs.Prelude.{is_some, option_and_then}
use Rattle.toml.specs.Data.{get_member}
use Rattle.toml.specs.View.{table_view}
use Rattle.ix_graph.specs.Kinds.{kind_words}
use Rattle.ix_sheet.specs.Datasheets.{section, window_given, window_or}
use Rattle.ix_sheet.specs.Sheets.{native_windows_of, window_at}
use Rattle.ix_sheet.proofs.Documents.{given_inside, window_value}
use Rattle.ix_sheet.proofs.read.read_window.Goals as goal

pub returns-in-Some-clause-value : goal.returns-in-Some-clause-value
returns-in-Some-clause-value c =
    let doc = table_view c.args.doc.now in
    let given : option_and_then window_given (get_member (get_or kind_words c.args.number []) (section (codes "window") doc)) ≡ Some c.in-Some.window =
    rw (← c.kind_word.ensures.value) (sym c.in-Some.ensures)
    in
    let inside = given_inside doc (native_windows_of c.args.shape) c.args.number c.in-Some.window c.requires.below c.requires.passed given in
    let some : is_some c.window_inside.result ≡ true = c.window_inside.ensures.some ∙ rw c.native_windows.ensures inside in
    c.unwrap_or.ensures
    ∙ (window_value c.window_inside.result (get_or c.native_windows.result c.args.number (0, 0)) c.in-Some.window c.window_inside.ensures.is some
    ∙ sym (ap (window_or (window_at (native_windows_of c.args.shape) c.args.number)) given))
