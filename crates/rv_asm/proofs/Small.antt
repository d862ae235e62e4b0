-- The numbers of registers are below 32, operand by operand.
use Rattle.std.proofs.Common.{◌≡◌, sym, refl, subst, ℕ, ◌%◌, ◌<◌, List, [], ◌∷◌, length, Bool, true, false, Option, Some, None, ◌==◌, arith}
use Rattle.std.specs.Prelude.{Ok, Err, if◌then◌else◌, option_map}
use Rattle.std.specs.List.{position}
use Rattle.ix_tree.specs.Lexing.{same_bytes}
use Rattle.rv_asm_text.specs.Lines.{indexed_of}
use Rattle.rv_asm_text.specs.Names.{register_names, register_at, register_of}
use Rattle.rv_asm_text.specs.Numbers.{number_of}
use Rattle.rv_asm.specs.declared.form.Form.{Form}
use Rattle.rv_asm.specs.declared.form.Form.TheVariants as F
use Rattle.rv_asm.specs.declared.label.Target.{Target}
use Rattle.rv_asm.specs.declared.label.Target.TheVariants as T
use Rattle.rv_asm.specs.declared.reading.OperandKind.{OperandKind}
use Rattle.rv_asm.specs.declared.reading.OperandKind.TheVariants as K
use Rattle.rv_asm.specs.declared.reading.Operands.{Operands}
use Rattle.rv_asm.specs.declared.reading.Unread.TheVariants as U
use Rattle.rv_asm.specs.Labels.{Places, target_of}
use Rattle.rv_asm.specs.Readings.{AreRegisters, Read, taken, behind, with_target, start_of, read_operand, read_each, read_operands}

-- ---- registers
place_below : (place : ℕ) → register_at place < 32
place_below place = by_test (place == 64) where
  by_test : (b : Bool) → (if b then 8 else place % 32) < 32
  by_test true = omega arith
  by_test false = omega arith

some_below : (o : Option ℕ) (r : ℕ) → option_map register_at o ≡ Some r → r < 32
some_below None r h = absurd cc
some_below (Some place) r h = let e : register_at place ≡ r = cc in subst (λ (k : ℕ). k < 32) e (place_below place)

register_below : (text : List ℕ) (r : ℕ) → register_of text ≡ Some r → r < 32
unfolding register_of
register_below text r h = some_below (position (λ name. same_bytes name text) register_names) r h

-- ---- what is small where it is read
abbrev IsSmall : Read → Type 0
IsSmall (Ok o) = AreRegisters o
IsSmall (Err e) = Unit {0}

taken_small : {X : Type 0} (o : Option X) (next : X → Read) → ((x : X) → o ≡ Some x → IsSmall (next x)) → IsSmall (taken o next)
taken_small None next h = tt
taken_small (Some x) next h = h x refl

target_small : (t : Target) (o : Operands) → AreRegisters o → IsSmall (with_target t o)
target_small T.Bad o s = tt
target_small T.Unknown o s = tt
target_small (T.By n) o s = record { rd = s.rd; rs1 = s.rs1; rs2 = s.rs2 }

operand_small : (places : Places) (at : ℕ) (kind : OperandKind) (text : List ℕ) (o : Operands) → AreRegisters o → IsSmall (read_operand places at kind text o)
operand_small places at K.Rd text o s =
    taken_small (register_of text) (λ r. Ok (record { rd = r; rs1 = o.rs1; rs2 = o.rs2; number = o.number })) (λ r e. record { rd = register_below text r e; rs1 = s.rs1; rs2 = s.rs2 })
operand_small places at K.Rs1 text o s =
    taken_small (register_of text) (λ r. Ok (record { rd = o.rd; rs1 = r; rs2 = o.rs2; number = o.number })) (λ r e. record { rd = s.rd; rs1 = register_below text r e; rs2 = s.rs2 })
operand_small places at K.Rs2 text o s =
    taken_small (register_of text) (λ r. Ok (record { rd = o.rd; rs1 = o.rs1; rs2 = r; number = o.number })) (λ r e. record { rd = s.rd; rs1 = s.rs1; rs2 = register_below text r e })
operand_small places at K.Number text o s =
    taken_small (number_of text) (λ n. Ok (record { rd = o.rd; rs1 = o.rs1; rs2 = o.rs2; number = n })) (λ n e. record { rd = s.rd; rs1 = s.rs1; rs2 = s.rs2 })
operand_small places at K.Target text o s = target_small (target_of places at text) o s
operand_small places at K.Indexed text o s =
    taken_small (indexed_of text) (λ parts. taken (register_of parts.1) (λ r. taken (number_of parts.0) (λ n. Ok (record { rd = o.rd; rs1 = r; rs2 = o.rs2; number = n }))))
    (λ parts d. taken_small (register_of parts.1) (λ r. taken (number_of parts.0) (λ n. Ok (record { rd = o.rd; rs1 = r; rs2 = o.rs2; number = n })))
    (λ r e. taken_small (number_of parts.0) (λ n. Ok (record { rd = o.rd; rs1 = r; rs2 = o.rs2; number = n })) (λ n f. record { rd = s.rd; rs1 = register_below parts.1 r e; rs2 = s.rs2 })))

behind_small : (r : Read) (next : Operands → Read) → IsSmall r → ((o : Operands) → AreRegisters o → IsSmall (next o)) → IsSmall (behind r next)
behind_small (Ok o) next s h = h o s
behind_small (Err e) next s h = tt

each_small : (places : Places) (at : ℕ) (kinds : List OperandKind) (texts : List (List ℕ)) (o : Operands) → AreRegisters o → IsSmall (read_each places at kinds texts o)
each_small places at [] texts o s = s
each_small places at (k ∷ ks) [] o s = tt
each_small places at (k ∷ ks) (text ∷ texts) o s =
    behind_small (read_operand places at k text o) (λ p. read_each places at ks texts p) (operand_small places at k text o s) (λ p q. each_small places at ks texts p q)

-- ---- the start of a form
start_small : (f : Form) → AreRegisters (start_of f)
unfolding start_of
start_small F.Registers = record { rd = omega arith; rs1 = omega arith; rs2 = omega arith }
start_small F.Number = record { rd = omega arith; rs1 = omega arith; rs2 = omega arith }
start_small F.Load = record { rd = omega arith; rs1 = omega arith; rs2 = omega arith }
start_small F.Store = record { rd = omega arith; rs1 = omega arith; rs2 = omega arith }
start_small F.Branch = record { rd = omega arith; rs1 = omega arith; rs2 = omega arith }
start_small F.Upper = record { rd = omega arith; rs1 = omega arith; rs2 = omega arith }
start_small F.Jump = record { rd = omega arith; rs1 = omega arith; rs2 = omega arith }
start_small F.JumpRegister = record { rd = omega arith; rs1 = omega arith; rs2 = omega arith }
start_small F.Fence = record { rd = omega arith; rs1 = omega arith; rs2 = omega arith }
start_small F.Bare = record { rd = omega arith; rs1 = omega arith; rs2 = omega arith }
start_small F.Move = record { rd = omega arith; rs1 = omega arith; rs2 = omega arith }
start_small F.Goto = record { rd = omega arith; rs1 = omega arith; rs2 = omega arith }
start_small F.Return = record { rd = omega arith; rs1 = omega arith; rs2 = omega arith }
start_small F.Word = record { rd = omega arith; rs1 = omega arith; rs2 = omega arith }

counted_small : (b : Bool) (r : Read) → IsSmall r → IsSmall (if b then r else Err U.Line)
counted_small true r s = s
counted_small false r s = tt

small_of : (r : Read) (o : Operands) → IsSmall r → r ≡ Ok o → AreRegisters o
small_of (Ok p) o s e = let same : p ≡ o = cc in subst AreRegisters same s
small_of (Err u) o s e = absurd cc

-- what operands name behind the start of a form are registers
pub read_small : (places : Places) (at : ℕ) (f : Form) (kinds : List OperandKind) (texts : List (List ℕ)) (s o : Operands) → s ≡ start_of f → read_operands places at kinds texts s ≡ Ok o → AreRegisters o
read_small places at f kinds texts s o h e =
    small_of (read_operands places at kinds texts s) o
    (counted_small (length texts == length kinds) (read_each places at kinds texts s) (each_small places at kinds texts s (subst AreRegisters (sym h) (start_small f)))) e
