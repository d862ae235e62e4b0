-- The line of a refused extension: the rule that is broken, and where or by which instructions (this project's choice).
use Rattle.std.specs.Prelude.{ℕ, List, [], ◌++◌, Bool, true, false, codes, decimal}
use Rattle.ix_tree.specs.declared.token.Span.{Span}
use Rattle.ix_lex.specs.declared.error.LexErr.{LexErr}
use Rattle.ix_lex.specs.declared.error.LexErr.TheVariants as L
use Rattle.ix_unroll.specs.declared.error.UnrollErr.{UnrollErr}
use Rattle.ix_unroll.specs.declared.error.UnrollErr.TheVariants as U
use Rattle.ix_check_parts.specs.declared.error.CheckErr.{CheckErr}
use Rattle.ix_check_parts.specs.declared.error.CheckErr.TheVariants as C
use Rattle.ix_elab.specs.declared.error.FrontErr.{FrontErr}
use Rattle.ix_elab.specs.declared.error.FrontErr.TheVariants as F
use Rattle.ix_io.specs.Out.{hex_digits}

-- what the line begins with
unfoldable pub front : List ℕ → List ℕ
front rule = codes "refused Extension " ++ rule

-- a rule alone
abbrev pub rule_line : List ℕ → List ℕ
rule_line rule = front rule ++ codes "\n"

-- the first and the last place, in bytes
abbrev pub span_line : List ℕ → Span → List ℕ
span_line rule s = front rule ++ (codes " " ++ (decimal s.from ++ (codes " " ++ (decimal s.to ++ codes "\n"))))

-- the instruction
abbrev pub name_line : List ℕ → List ℕ → List ℕ
name_line rule a = front rule ++ (codes " " ++ (a ++ codes "\n"))

-- an instruction and a word; two instructions and a word
abbrev pub word_end : ℕ → List ℕ
word_end word = codes " " ++ (hex_digits 8 word ++ codes "\n")

abbrev pub word_line : List ℕ → List ℕ → ℕ → List ℕ
word_line rule a word = front rule ++ (codes " " ++ (a ++ word_end word))

abbrev pub pair_line : List ℕ → List ℕ → List ℕ → ℕ → List ℕ
pair_line rule a b word = front rule ++ (codes " " ++ (a ++ (codes " " ++ (b ++ word_end word))))

-- the place of a byte, as that of nothing
abbrev pub byte_line : List ℕ → ℕ → List ℕ
byte_line rule at = span_line rule (record { from = at; to = at })

-- each error's line; want of memory has none
abbrev pub lex_line : LexErr → List ℕ
lex_line (L.BadByte at) = byte_line (codes "BadByte") at
lex_line (L.Unclosed at) = byte_line (codes "Unclosed") at
lex_line (L.BadNumber at) = byte_line (codes "BadNumber") at
lex_line L.Memory = []

abbrev pub parse_line : Span → Bool → List ℕ
parse_line s true = span_line (codes "Deep") s
parse_line s false = span_line (codes "At") s

abbrev pub unroll_line : UnrollErr → List ℕ
unroll_line (U.Bound s) = span_line (codes "Bound") s
unroll_line (U.Turns s) = span_line (codes "Turns") s
unroll_line (U.Assigned s) = span_line (codes "Assigned") s
unroll_line (U.Size s) = span_line (codes "Size") s
unroll_line U.Memory = []

abbrev pub check_line : CheckErr → List ℕ
check_line (C.Unknown s) = span_line (codes "Unknown") s
check_line (C.Twice s) = span_line (codes "Twice") s
check_line (C.Narrow s) = span_line (codes "Narrow") s
check_line (C.TooWide s) = span_line (codes "TooWide") s
check_line (C.Mixed s) = span_line (codes "Mixed") s
check_line (C.Range s) = span_line (codes "Range") s
check_line (C.Index s) = span_line (codes "Index") s
check_line (C.ReadAfterWrite s) = span_line (codes "ReadAfterWrite") s
check_line (C.DoubleWrite s) = span_line (codes "DoubleWrite") s
check_line (C.SecondAccess s) = span_line (codes "SecondAccess") s
check_line (C.InSpawn s) = span_line (codes "InSpawn") s
check_line (C.Rom s) = span_line (codes "Rom") s
check_line C.Memory = []

-- the line of a refusal
abbrev pub refusal_line : FrontErr → List ℕ
refusal_line (F.Lex e) = lex_line e
refusal_line (F.Parse s deep) = parse_line s deep
refusal_line (F.Unroll e) = unroll_line e
refusal_line (F.Check e) = check_line e
refusal_line (F.EncodingWidth a) = name_line (codes "EncodingWidth") a
refusal_line (F.FieldTwice a) = name_line (codes "FieldTwice") a
refusal_line F.TooMany = rule_line (codes "TooMany")
refusal_line (F.BaseOverlap a word) = word_line (codes "BaseOverlap") a word
refusal_line (F.Overlap a b word) = pair_line (codes "Overlap") a b word
refusal_line F.TwoPcBlocks = rule_line (codes "TwoPcBlocks")
refusal_line F.Memory = []
