-- From the cells of a kind to those of an operation.
use Rattle.std.proofs.Common.{◌≡◌, ℕ, List, [], ◌∷◌, Option, Some, length, map, refl, ap, sym, ◌∙◌, subst}
use Rattle.std.proofs.lemmas.Option.{same_Some}
use Rattle.std.proofs.lemmas.List.{length-map}
use Rattle.ix_bits.specs.declared.number.Ty.{Ty}
use Rattle.ix_bits.specs.declared.number.Bits.{Bits}
use Rattle.ix_bits.specs.declared.operator.BinOp.{BinOp}
use Rattle.ix_bits.specs.Operators.{pattern_of, value_of}
use Rattle.ix_graph.specs.declared.args.Arg.{Arg}
use Rattle.ix_graph.specs.declared.graph.Graph.{Graph}
use Rattle.ix_graph.specs.declared.kind.Kind.{Kind}
use Rattle.ix_graph.specs.declared.kind.Kind.TheVariants.{RdInstr, RdRS1, RdRS2, RdPC, RdCustReg, RdMem, WrRD, WrPC, WrCustReg, WrMem, Add, Sub, Mul, And, Or, Xor, Not, Neg, Shl, Shr, Eq, Ne, Lt, Le, Gt, Ge, Land, Lor, Lnot, Concat, Range, Cast, Mux, Rom}
use Rattle.ix_graph.specs.Graphs.{IsTyped, TakesTwo, IsBinaryResult, arg_type}
use Rattle.ix_mean.specs.GraphValues.{kind_value, by_two}
use Rattle.ix_mean.specs.Terms.{binary_of, operator_number}
use Rattle.ix_net.specs.declared.netlist.Net.{Net}
use Rattle.ix_cells.specs.declared.signal.Wire.{Wire}
use Rattle.ix_cells.specs.declared.operand.Operand.{Operand}
use Rattle.ix_cells.specs.Growth.{Adds}
use Rattle.ix_cells.specs.Operands.{wire_of, two_shown}
use Rattle.ix_cells.proofs.Growing.{with_value}

-- the type of an operand, as graphs say it
abbrev pub typed_as : Operand → Option Ty
typed_as o = Some o.ty

-- a kind that is an operator takes two operands of its types
typed_two : (g : Graph) (kind : Kind) (op : BinOp) (args : List Arg) (ty : Ty) → binary_of kind ≡ Some op → IsTyped g kind args ty → TakesTwo g.ops args (λ a b. IsBinaryResult op a b ty)
typed_two g RdInstr op args ty e t = absurd (cc)
typed_two g RdRS1 op args ty e t = absurd (cc)
typed_two g RdRS2 op args ty e t = absurd (cc)
typed_two g RdPC op args ty e t = absurd (cc)
typed_two g (RdCustReg n) op args ty e t = absurd (cc)
typed_two g RdMem op args ty e t = absurd (cc)
typed_two g WrRD op args ty e t = absurd (cc)
typed_two g WrPC op args ty e t = absurd (cc)
typed_two g (WrCustReg n) op args ty e t = absurd (cc)
typed_two g WrMem op args ty e t = absurd (cc)
typed_two g Add op args ty e t = (let P : BinOp → Type 0 = λ o. TakesTwo g.ops args (λ a b. IsBinaryResult o a b ty) in subst P (same_Some _ op e) t)
typed_two g Sub op args ty e t = (let P : BinOp → Type 0 = λ o. TakesTwo g.ops args (λ a b. IsBinaryResult o a b ty) in subst P (same_Some _ op e) t)
typed_two g Mul op args ty e t = (let P : BinOp → Type 0 = λ o. TakesTwo g.ops args (λ a b. IsBinaryResult o a b ty) in subst P (same_Some _ op e) t)
typed_two g And op args ty e t = (let P : BinOp → Type 0 = λ o. TakesTwo g.ops args (λ a b. IsBinaryResult o a b ty) in subst P (same_Some _ op e) t)
typed_two g Or op args ty e t = (let P : BinOp → Type 0 = λ o. TakesTwo g.ops args (λ a b. IsBinaryResult o a b ty) in subst P (same_Some _ op e) t)
typed_two g Xor op args ty e t = (let P : BinOp → Type 0 = λ o. TakesTwo g.ops args (λ a b. IsBinaryResult o a b ty) in subst P (same_Some _ op e) t)
typed_two g Not op args ty e t = absurd (cc)
typed_two g Neg op args ty e t = absurd (cc)
typed_two g Shl op args ty e t = (let P : BinOp → Type 0 = λ o. TakesTwo g.ops args (λ a b. IsBinaryResult o a b ty) in subst P (same_Some _ op e) t)
typed_two g Shr op args ty e t = (let P : BinOp → Type 0 = λ o. TakesTwo g.ops args (λ a b. IsBinaryResult o a b ty) in subst P (same_Some _ op e) t)
typed_two g Eq op args ty e t = (let P : BinOp → Type 0 = λ o. TakesTwo g.ops args (λ a b. IsBinaryResult o a b ty) in subst P (same_Some _ op e) t)
typed_two g Ne op args ty e t = (let P : BinOp → Type 0 = λ o. TakesTwo g.ops args (λ a b. IsBinaryResult o a b ty) in subst P (same_Some _ op e) t)
typed_two g Lt op args ty e t = (let P : BinOp → Type 0 = λ o. TakesTwo g.ops args (λ a b. IsBinaryResult o a b ty) in subst P (same_Some _ op e) t)
typed_two g Le op args ty e t = (let P : BinOp → Type 0 = λ o. TakesTwo g.ops args (λ a b. IsBinaryResult o a b ty) in subst P (same_Some _ op e) t)
typed_two g Gt op args ty e t = (let P : BinOp → Type 0 = λ o. TakesTwo g.ops args (λ a b. IsBinaryResult o a b ty) in subst P (same_Some _ op e) t)
typed_two g Ge op args ty e t = (let P : BinOp → Type 0 = λ o. TakesTwo g.ops args (λ a b. IsBinaryResult o a b ty) in subst P (same_Some _ op e) t)
typed_two g Land op args ty e t = (let P : BinOp → Type 0 = λ o. TakesTwo g.ops args (λ a b. IsBinaryResult o a b ty) in subst P (same_Some _ op e) t)
typed_two g Lor op args ty e t = (let P : BinOp → Type 0 = λ o. TakesTwo g.ops args (λ a b. IsBinaryResult o a b ty) in subst P (same_Some _ op e) t)
typed_two g Lnot op args ty e t = absurd (cc)
typed_two g Concat op args ty e t = (let P : BinOp → Type 0 = λ o. TakesTwo g.ops args (λ a b. IsBinaryResult o a b ty) in subst P (same_Some _ op e) t)
typed_two g (Range hi lo) op args ty e t = absurd (cc)
typed_two g Cast op args ty e t = absurd (cc)
typed_two g Mux op args ty e t = absurd (cc)
typed_two g (Rom n) op args ty e t = absurd (cc)

kind_two : (tables : List (List Bits)) (kind : Kind) (op : BinOp) (types : List (Option Ty)) (raws : List ℕ) (ty : Ty) → binary_of kind ≡ Some op → kind_value tables kind types raws ty ≡ by_two kind types raws ty
unfolding kind_value
kind_two tables RdInstr op types raws ty e = absurd (cc)
kind_two tables RdRS1 op types raws ty e = absurd (cc)
kind_two tables RdRS2 op types raws ty e = absurd (cc)
kind_two tables RdPC op types raws ty e = absurd (cc)
kind_two tables (RdCustReg n) op types raws ty e = absurd (cc)
kind_two tables RdMem op types raws ty e = absurd (cc)
kind_two tables WrRD op types raws ty e = absurd (cc)
kind_two tables WrPC op types raws ty e = absurd (cc)
kind_two tables (WrCustReg n) op types raws ty e = absurd (cc)
kind_two tables WrMem op types raws ty e = absurd (cc)
kind_two tables Add op types raws ty e = refl
kind_two tables Sub op types raws ty e = refl
kind_two tables Mul op types raws ty e = refl
kind_two tables And op types raws ty e = refl
kind_two tables Or op types raws ty e = refl
kind_two tables Xor op types raws ty e = refl
kind_two tables Not op types raws ty e = absurd (cc)
kind_two tables Neg op types raws ty e = absurd (cc)
kind_two tables Shl op types raws ty e = refl
kind_two tables Shr op types raws ty e = refl
kind_two tables Eq op types raws ty e = refl
kind_two tables Ne op types raws ty e = refl
kind_two tables Lt op types raws ty e = refl
kind_two tables Le op types raws ty e = refl
kind_two tables Gt op types raws ty e = refl
kind_two tables Ge op types raws ty e = refl
kind_two tables Land op types raws ty e = refl
kind_two tables Lor op types raws ty e = refl
kind_two tables Lnot op types raws ty e = absurd (cc)
kind_two tables Concat op types raws ty e = refl
kind_two tables (Range hi lo) op types raws ty e = absurd (cc)
kind_two tables Cast op types raws ty e = absurd (cc)
kind_two tables Mux op types raws ty e = absurd (cc)
kind_two tables (Rom n) op types raws ty e = absurd (cc)

module _ (g : Graph) (kind : Kind) (op : BinOp) (args : List Arg) (ty : Ty) (os : List Operand)
    (e : binary_of kind ≡ Some op) (t : IsTyped g kind args ty) (types : map typed_as os ≡ map (arg_type g.ops) args)
  where
    pub two_count : length os ≡ 2
    two_count = (let p = typed_two g kind op args ty e t in sym (length-map os typed_as) ∙ ap length (types ∙ p.2))

    pub two_typed : (x y : Operand) → os ≡ x ∷ y ∷ [] → IsBinaryResult op x.ty y.ty ty
    two_typed x y eo =
        let p = typed_two g kind op args ty e t in
        let all : Some x.ty ∷ Some y.ty ∷ [] ≡ Some p.0 ∷ Some p.1 ∷ [] = sym (ap (map typed_as) eo) ∙ types ∙ p.2 in
        let left : x.ty ≡ p.0 = cc in
        let right : y.ty ≡ p.1 = cc in
        let P : Ty → Type 0 = λ u. IsBinaryResult op u y.ty ty in
        let Q : Ty → Type 0 = λ u. IsBinaryResult op p.0 u ty in
        subst P (sym left) (subst Q (sym right) p.3)

-- at an operator, and at the width of its result
pub at_op :
    {needs : List Wire} {old new : Net} {r : Wire} (a b : Operand) (op o : BinOp) (v w : ℕ) → op ≡ o → v ≡ w → Adds needs old new r v (two_shown o a b v)
    → Adds needs old new r w (two_shown op a b w)
at_op {needs} {old} {new} {r} a b op o v w eo ew p =
    let P : BinOp → Type 0 = λ z. Adds needs old new r w (two_shown z a b w) in
    let Q : ℕ → Type 0 = λ z. Adds needs old new r z (two_shown o a b z) in
    subst P (sym eo) (subst Q ew p)

pub on_operands :
    (tables : List (List Bits)) (kind k : Kind) (types : List (Option Ty)) (os xs : List Operand) (old new : Net) (r : Wire) (ty : Ty) → kind ≡ k → os ≡ xs → map typed_as os ≡ types
    → Adds (map wire_of xs) old new r ty.width (λ see. kind_value tables k (map typed_as xs) (map (λ (o : Operand). see o.signal) xs) ty)
    → Adds (map wire_of os) old new r ty.width (λ see. kind_value tables kind types (map (λ (o : Operand). see o.signal) os) ty)
on_operands tables kind k types os xs old new r ty ek eo et p =
    let A : Kind → Type 0 = λ z. Adds (map wire_of xs) old new r ty.width (λ see. kind_value tables z (map typed_as xs) (map (λ (o : Operand). see o.signal) xs) ty) in
    let B : List Operand → Type 0 = λ z. Adds (map wire_of z) old new r ty.width (λ see. kind_value tables kind (map typed_as z) (map (λ (o : Operand). see o.signal) z) ty) in
    let C : List (Option Ty) → Type 0 = λ z. Adds (map wire_of os) old new r ty.width (λ see. kind_value tables kind z (map (λ (o : Operand). see o.signal) os) ty) in
    subst C et (subst B (sym eo) (subst A (sym ek) p))

pub on_two :
    (tables : List (List Bits)) (kind : Kind) (op : BinOp) (types : List (Option Ty)) (os : List Operand) (x y : Operand) (old new : Net) (r : Wire) (ty : Ty)
    → binary_of kind ≡ Some op → os ≡ x ∷ y ∷ [] → map typed_as os ≡ types
    → Adds (wire_of x ∷ wire_of y ∷ []) old new r ty.width (two_shown op x y ty.width)
    → Adds (map wire_of os) old new r ty.width (λ see. kind_value tables kind types (map (λ (o : Operand). see o.signal) os) ty)
on_two tables kind op types os x y old new r ty e eo et p =
    on_operands tables kind kind types os (x ∷ y ∷ []) old new r ty refl eo et
    (with_value
    (λ see fit. sym (kind_two tables kind op (Some x.ty ∷ Some y.ty ∷ []) (see x.signal ∷ see y.signal ∷ []) ty e
    ∙ ap (λ z. pattern_of ty.width (operator_number z x.ty (value_of x.ty (see x.signal)) y.ty (value_of y.ty (see y.signal)))) e)) p)
