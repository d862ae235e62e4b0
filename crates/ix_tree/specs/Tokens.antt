-- The reserved words and the symbols, and the kinds of token that they are (this project's profile of CoreDSL 2).
use Rattle.std.specs.Prelude.{ℕ, List, [], ◌∷◌, codes}
use Rattle.ix_tree.specs.declared.token.TokenKind.{TokenKind}
use Rattle.ix_tree.specs.declared.token.TokenKind.TheVariants.{Word, Symbol}

-- the reserved words, in the order of their numbers
abbrev pub words : List (List ℕ)
words =
    codes "InstructionSet" ∷ codes "extends" ∷ codes "RV32I" ∷ codes "architectural_state" ∷ codes "instructions" ∷ codes "always"
    ∷ codes "register" ∷ codes "const" ∷ codes "encoding" ∷ codes "assembly" ∷ codes "behavior" ∷ codes "signed" ∷ codes "unsigned"
    ∷ codes "int" ∷ codes "bool" ∷ codes "if" ∷ codes "else" ∷ codes "for" ∷ codes "spawn" ∷ codes "PC" ∷ codes "X" ∷ codes "MEM"
    ∷ codes "true" ∷ codes "false" ∷ []

-- the symbols, in the order of their numbers
abbrev pub symbols : List (List ℕ)
symbols =
    codes "{" ∷ codes "}" ∷ codes "[" ∷ codes "]" ∷ codes "(" ∷ codes ")" ∷ codes ";" ∷ codes "," ∷ codes ":" ∷ codes "::" ∷ codes "="
    ∷ codes "+=" ∷ codes "-=" ∷ codes "*=" ∷ codes "&=" ∷ codes "|=" ∷ codes "^=" ∷ codes "<<=" ∷ codes ">>=" ∷ codes "++" ∷ codes "--"
    ∷ codes "?" ∷ codes "||" ∷ codes "&&" ∷ codes "|" ∷ codes "^" ∷ codes "&" ∷ codes "==" ∷ codes "!=" ∷ codes "<" ∷ codes "<="
    ∷ codes ">" ∷ codes ">=" ∷ codes "<<" ∷ codes ">>" ∷ codes "+" ∷ codes "-" ∷ codes "*" ∷ codes "~" ∷ codes "!" ∷ []

-- ---- the kinds by name
abbrev pub instruction_set : TokenKind
instruction_set = Word 0

abbrev pub extends_word : TokenKind
extends_word = Word 1

abbrev pub rv32i_word : TokenKind
rv32i_word = Word 2

abbrev pub architectural_state : TokenKind
architectural_state = Word 3

abbrev pub instructions_word : TokenKind
instructions_word = Word 4

abbrev pub always_word : TokenKind
always_word = Word 5

abbrev pub register_word : TokenKind
register_word = Word 6

abbrev pub const_word : TokenKind
const_word = Word 7

abbrev pub encoding_word : TokenKind
encoding_word = Word 8

abbrev pub assembly_word : TokenKind
assembly_word = Word 9

abbrev pub behavior_word : TokenKind
behavior_word = Word 10

abbrev pub signed_word : TokenKind
signed_word = Word 11

abbrev pub unsigned_word : TokenKind
unsigned_word = Word 12

abbrev pub int_word : TokenKind
int_word = Word 13

abbrev pub bool_word : TokenKind
bool_word = Word 14

abbrev pub if_word : TokenKind
if_word = Word 15

abbrev pub else_word : TokenKind
else_word = Word 16

abbrev pub for_word : TokenKind
for_word = Word 17

abbrev pub spawn_word : TokenKind
spawn_word = Word 18

abbrev pub pc_word : TokenKind
pc_word = Word 19

abbrev pub x_word : TokenKind
x_word = Word 20

abbrev pub mem_word : TokenKind
mem_word = Word 21

abbrev pub true_word : TokenKind
true_word = Word 22

abbrev pub false_word : TokenKind
false_word = Word 23

abbrev pub open_brace : TokenKind
open_brace = Symbol 0

abbrev pub close_brace : TokenKind
close_brace = Symbol 1

abbrev pub open_square : TokenKind
open_square = Symbol 2

abbrev pub close_square : TokenKind
close_square = Symbol 3

abbrev pub open_round : TokenKind
open_round = Symbol 4

abbrev pub close_round : TokenKind
close_round = Symbol 5

abbrev pub semicolon : TokenKind
semicolon = Symbol 6

abbrev pub comma : TokenKind
comma = Symbol 7

abbrev pub colon : TokenKind
colon = Symbol 8

abbrev pub double_colon : TokenKind
double_colon = Symbol 9

abbrev pub equals : TokenKind
equals = Symbol 10

abbrev pub plus_plus : TokenKind
plus_plus = Symbol 19

abbrev pub minus_minus : TokenKind
minus_minus = Symbol 20

abbrev pub question : TokenKind
question = Symbol 21

abbrev pub less : TokenKind
less = Symbol 29

abbrev pub greater : TokenKind
greater = Symbol 31

abbrev pub minus : TokenKind
minus = Symbol 36

abbrev pub tilde : TokenKind
tilde = Symbol 38

abbrev pub bang : TokenKind
bang = Symbol 39
