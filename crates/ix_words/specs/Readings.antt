-- What a word of a command is read as, wherever its value lies in memory (this project's choice).
use Rattle.std.specs.Prelude.{ℕ, List}
use Rattle.ix_extension.specs.Extensions.{ExtensionTree, view_extension}
use Rattle.ix_sheet.specs.declared.sheet.Sheet.{Sheet}
use Rattle.ix_words.specs.declared.value.Value.{Value}
use Rattle.ix_words.specs.declared.value.Value.TheVariants as value

-- a number, the words of an image, a report in which no fault was found, an extension, a datasheet, the bytes of a source, the waits of a memory, the rows in which an
-- interrupt line is raised, or the bytes of the text of a trace
pub data Reading : Type 0 where
  number_read : ℕ → Reading
  image_read : List ℕ → Reading
  report_read : Reading
  extension_read : ExtensionTree → Reading
  sheet_read : Sheet → Reading
  source_read : List ℕ → Reading
  waits_read : List ℕ → Reading
  lines_read : List ℕ → Reading
  trace_read : List ℕ → Reading

-- what a value of the code is
abbrev pub reading_of : Value → Reading
reading_of (value.Number n) = number_read n
reading_of (value.Image image) = image_read image
reading_of value.Report = report_read
reading_of (value.Extension x) = extension_read (view_extension x)
reading_of (value.Sheet sheet) = sheet_read sheet
reading_of (value.Source bytes) = source_read bytes
reading_of (value.Waits waits) = waits_read waits
reading_of (value.Lines lines) = lines_read lines
reading_of (value.Trace bytes) = trace_read bytes
