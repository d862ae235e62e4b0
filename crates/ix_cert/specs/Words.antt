-- What is told of a line that fails, in words (this project's choice).
use Rattle.std.specs.Prelude.{ℕ, List, codes}
use Rattle.ix_cert.specs.declared.report.CertErr.{CertErr}
use Rattle.ix_cert.specs.declared.report.CertErr.TheVariants.{Line, Dep, Window, Chain, Balance, Value, NotPositive, NotClosed, Memory}

-- the number of the line that fails; want of memory names none
abbrev pub line_number : CertErr → ℕ
line_number (Line n) = n
line_number (Dep n) = n
line_number (Window n) = n
line_number (Chain n) = n
line_number (Balance n) = n
line_number (Value n) = n
line_number (NotPositive n) = n
line_number (NotClosed n) = n
line_number Memory = 0

-- the word for what fails
abbrev pub kind_word : CertErr → List ℕ
kind_word (Line n) = codes "Line"
kind_word (Dep n) = codes "Dep"
kind_word (Window n) = codes "Window"
kind_word (Chain n) = codes "Chain"
kind_word (Balance n) = codes "Balance"
kind_word (Value n) = codes "Value"
kind_word (NotPositive n) = codes "NotPositive"
kind_word (NotClosed n) = codes "NotClosed"
kind_word Memory = codes "Memory"
