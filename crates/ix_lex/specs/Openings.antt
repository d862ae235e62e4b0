-- The form that an opening stands for.
use Rattle.std.specs.Prelude.{Option, Some, None}
use Rattle.ix_tree.specs.Lexing.{Form, space, line_comment, comment, word, text, number, symbol}
use Rattle.ix_lex.specs.declared.part.Opening.{Opening}
use Rattle.ix_lex.specs.declared.part.Opening.TheVariants.{Space, Line, Comment, Word, Text, Number, Symbol, Slash}

abbrev pub opening_form : Opening → Option Form
opening_form Space = Some space
opening_form Line = Some line_comment
opening_form Comment = Some comment
opening_form Word = Some word
opening_form Text = Some text
opening_form Number = Some number
opening_form Symbol = Some symbol
opening_form Slash = None
