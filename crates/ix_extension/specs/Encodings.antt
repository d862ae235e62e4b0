-- The encoding of an instruction: its pieces stand side by side in a word of 32 bits, the last one ending at bit 0
-- (CoreDSL 2, instruction encodings; that no piece has bits past 31 is this project's choice).
use Rattle.std.specs.List.{list_any}
use Rattle.std.specs.Prelude.{ℕ, ◌+◌, ◌-◌, ◌*◌, ◌^◌, ◌≤◌, List, [], ◌∷◌, Bool, false, ◌&&◌, ◌||◌, nat_le, All}
use Rattle.ix_tree.specs.declared.extension.Piece.{Piece}
use Rattle.ix_tree.specs.declared.section.PieceText.{PieceText}
use Rattle.ix_tree.specs.declared.section.PieceKind.{PieceKind}
use Rattle.ix_tree.specs.declared.section.PieceKind.TheVariants as P
use Rattle.ix_tree.specs.Lexing.{same_bytes}

-- the piece's low bit is not above its high one, and that is not past 31
abbrev pub IsInWord : PieceKind → Type 0
IsInWord (P.Fixed b) = Unit {0}
IsInWord (P.Field n hi lo) = (lo ≤ hi) × (hi ≤ 31)

abbrev pub AreInWord : List PieceText → Type 0
AreInWord ps = All (λ p. IsInWord p.kind) ps

-- how many bits a piece has
abbrev pub width_of : PieceKind → ℕ
width_of (P.Fixed b) = b.width
width_of (P.Field n hi lo) = hi - lo + 1

-- how many bits the pieces have
abbrev pub bits_of : List PieceText → ℕ
bits_of [] = 0
bits_of (p ∷ ps) = width_of p.kind + bits_of ps

-- the bits of a piece that are fixed, and what they are
abbrev pub fixed_bits : PieceKind → ℕ
fixed_bits (P.Fixed b) = 2 ^ b.width - 1
fixed_bits (P.Field n hi lo) = 0

abbrev pub fixed_value : PieceKind → ℕ
fixed_value (P.Fixed b) = b.raw
fixed_value (P.Field n hi lo) = 0

-- the fixed bits of the word, as those that are 1
abbrev pub mask_of : List PieceText → ℕ
mask_of [] = 0
mask_of (p ∷ ps) = fixed_bits p.kind * 2 ^ bits_of ps + mask_of ps

-- what the fixed bits of the word are
abbrev pub match_of : List PieceText → ℕ
match_of [] = 0
match_of (p ∷ ps) = fixed_value p.kind * 2 ^ bits_of ps + match_of ps

-- where the pieces of fields stand: the lowest bit of one lies behind all pieces on its right
abbrev pub placed : PieceKind → ℕ → List Piece → List Piece
placed (P.Fixed b) at rest = rest
placed (P.Field n hi lo) at rest = record { field = n; hi = hi; lo = lo; at = at } ∷ rest

abbrev pub pieces_of : List PieceText → List Piece
pieces_of [] = []
pieces_of (p ∷ ps) = placed p.kind (bits_of ps) (pieces_of ps)

-- two pieces give one bit of a field
abbrev pub gives_again : PieceKind → PieceKind → Bool
gives_again (P.Field n hi lo) (P.Field m h l) = same_bytes n m && (nat_le lo h && nat_le l hi)
gives_again _ _ = false

-- one bit of a field is given twice
abbrev pub has_field_twice : List PieceText → Bool
has_field_twice [] = false
has_field_twice (p ∷ ps) = list_any (λ q. gives_again p.kind q.kind) ps || has_field_twice ps
