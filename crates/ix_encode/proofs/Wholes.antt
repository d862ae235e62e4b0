-- Instructions of a typed text, whose pieces are the 32 bits of a word where no width is refused.
use Rattle.std.proofs.Common.{◌≡◌, refl, sym, subst, List, [], ◌∷◌, map, None, Some, Option, cond, true, false, Bool, nat_eq}
use Rattle.std.specs.Prelude.{All}
use Rattle.std.proofs.lemmas.Bool.{eqb-true}
use Rattle.std.proofs.lemmas.List.Elements.{All-nil, All-cons, All-head, All-tail}
use Rattle.ix_tree.specs.declared.typed.TypedInstr.{TypedInstr}
use Rattle.ix_tree.specs.TypedTrees.{TypedInstrTree}
use Rattle.ix_tree.specs.TypedView.{typed_instr}
use Rattle.ix_extension.specs.Encodings.{bits_of}
use Rattle.ix_extension.specs.Laws as L
use Rattle.ix_extension.specs.Faults.{Fault, or_fault, width_fault, encoding_width}
use Rattle.ix_encode.specs.Telling.{HasWord, IsWhole}

all_viewed : (xs : List TypedInstr) → All L.HasWord (map typed_instr xs) → All HasWord xs
all_viewed [] h = All-nil HasWord
all_viewed (x ∷ xs) h =
    All-cons HasWord x xs (All-head L.HasWord (typed_instr x) (map typed_instr xs) h) (all_viewed xs (All-tail L.HasWord (typed_instr x) (map typed_instr xs) h))

pub instrs_in_word : (xs : List TypedInstr) (all : List TypedInstrTree) → map typed_instr xs ≡ all → All L.HasWord all → All HasWord xs
instrs_in_word xs all e h = all_viewed xs (subst (λ z. All L.HasWord z) (sym e) h)

width_passed : (b : Bool) (f : Fault) (rest : Option Fault) (G : Type 0) → (b ≡ true → rest ≡ None → G) → cond b rest (Some f) ≡ None → G
width_passed true f rest G h e = h refl e
width_passed false f rest G h e = cc

all_whole : (xs : List TypedInstr) → All HasWord xs → width_fault (map typed_instr xs) ≡ None → All IsWhole xs
all_whole [] h e = All-nil IsWhole
all_whole (x ∷ xs) h e =
    width_passed (nat_eq (bits_of x.pieces) 32) (encoding_width x.name) (width_fault (map typed_instr xs)) _ (λ t r.
    All-cons IsWhole x xs (All-head HasWord x xs h, eqb-true (bits_of x.pieces) 32 t) (all_whole xs (All-tail HasWord x xs h) r)) e

first_none : (o p : Option Fault) → or_fault o p ≡ None → o ≡ None
first_none None p e = refl
first_none (Some f) p e = cc

pub instrs_whole : (xs : List TypedInstr) (p : Option Fault) → All HasWord xs → or_fault (width_fault (map typed_instr xs)) p ≡ None → All IsWhole xs
instrs_whole xs p h e = all_whole xs h (first_none (width_fault (map typed_instr xs)) p e)
