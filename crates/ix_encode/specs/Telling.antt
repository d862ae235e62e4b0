-- What the encoder answers, against the rules that a text breaks.
use Rattle.std.specs.Prelude.{◌≡◌, Option, Some, None, Result, Ok, Err}
use Rattle.ix_tree.specs.declared.typed.TypedInstr.{TypedInstr}
use Rattle.ix_extension.specs.Encodings.{AreInWord, bits_of}
use Rattle.ix_encode.specs.declared.error.EncodeErr.{EncodeErr}
use Rattle.ix_encode.specs.declared.error.EncodeErr.TheVariants as E
use Rattle.ix_extension.specs.Faults.{Fault, encoding_width, field_twice, too_many, base_overlap, overlap, two_pc_blocks}

-- the rule that an error tells; none where memory was not found
abbrev pub fault_of : EncodeErr → Option Fault
fault_of (E.EncodingWidth a) = Some (encoding_width a)
fault_of (E.FieldTwice a) = Some (field_twice a)
fault_of E.TooMany = Some too_many
fault_of (E.BaseOverlap a word) = Some (base_overlap a word)
fault_of (E.Overlap a b word) = Some (overlap a b word)
fault_of E.TwoPcBlocks = Some two_pc_blocks
fault_of E.Memory = None

-- this rule is the first that is broken
abbrev pub IsFault : Option Fault → Option Fault → Type 0
IsFault None first = Unit {0}
IsFault (Some f) first = first ≡ Some f

abbrev pub Tells : EncodeErr → Option Fault → Type 0
Tells e first = IsFault (fault_of e) first

-- no rule is broken, or the first one is told
abbrev pub Finds : Result Unit EncodeErr → Option Fault → Type 0
Finds (Ok u) first = first ≡ None
Finds (Err e) first = Tells e first

-- an instruction whose pieces are the 32 bits of a word
abbrev pub IsWhole : TypedInstr → Type 0
IsWhole x = AreInWord x.pieces × (bits_of x.pieces ≡ 32)

-- an instruction whose pieces have no bit past a word
abbrev pub HasWord : TypedInstr → Type 0
HasWord x = AreInWord x.pieces
