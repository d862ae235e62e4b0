-- Operands for the arguments of an operation.
use Rattle.std.proofs.Common.{◌≡◌, ℕ, List, [], ◌∷◌, ◌++◌, Some, map, arith, refl, ap, sym, ◌∙◌, subst, All}
use Rattle.std.specs.Prelude.{option_map}
use Rattle.std.proofs.lemmas.Option.{same_Some}
use Rattle.std.proofs.lemmas.List.{length-append, get_or_append_left}
use Rattle.std.proofs.lemmas.List.Elements.{All-contains, Contains-push}
use Rattle.ix_bits.specs.declared.number.Ty.{Ty}
use Rattle.ix_graph.specs.declared.args.Arg.{Arg}
use Rattle.ix_graph.specs.declared.args.Arg.TheVariants as arg
use Rattle.ix_graph.specs.declared.graph.Op.{Op}
use Rattle.ix_graph.specs.Graphs.{arg_type}
use Rattle.ix_net.specs.declared.netlist.Net.{Net}
use Rattle.ix_cells.specs.declared.signal.Signal.{Signal}
use Rattle.ix_cells.specs.declared.signal.Wire.{Wire}
use Rattle.ix_cells.specs.declared.operand.Operand.{Operand}
use Rattle.ix_netgen.specs.declared.kept.Kept.{Kept}
use Rattle.ix_cells.specs.Operands.{wire_of}
use Rattle.ix_cells.specs.Growth.{Adds, Extends, AreWires}
use Rattle.ix_netgen.specs.Standing.{Timetable, Tells, IsSound, Keeps, IsHeld}
use Rattle.ix_netgen.specs.KeptWires.{IsOperand, AreOperands, IsSupplied, IsArgReady, Supplies}
use Rattle.ix_netgen.proofs.BankLemmas.{tells_grow, keeps_same, keeps_on, adds_keeps}

wire_same : (v : Wire) (s : Signal) (n : ℕ) → s ≡ v.signal → n ≡ v.width → v ≡ record { signal = s; width = n }
wire_same v s n e f = (let r : record { signal = s; width = n } ≡ v = ap (λ x. let y : Wire = record { signal = x; width = n } in y) e ∙ ap (λ x. let y : Wire = record { signal = v.signal; width = x } in y) f in sym r)

pub held_grows : {p : Timetable} {old new : Net} {k from t width : ℕ} {ws : List Wire} → Extends old new → IsHeld p old k from t width ws → IsHeld p new k from t width ws
held_grows e h = record { wire = h.wire; at = h.at; tells = tells_grow e h.tells; wide = h.wide }

pub operand_grows : {p : Timetable} {old new : Net} {t : ℕ} {a : Arg} {o : Operand} → Extends old new → IsOperand p old t a o → IsOperand p new t a o
operand_grows e h = record { typed = h.typed; tells = tells_grow e h.tells }

pub operands_grow : (p : Timetable) {old new : Net} → Extends old new → (t : ℕ) (args : List Arg) (os : List Operand) → AreOperands p old t args os → AreOperands p new t args os
operands_grow p e t [] [] h = tt
operands_grow p e t [] (o ∷ os) h = absurd h
operands_grow p e t (a ∷ args) [] h = absurd h
operands_grow p e t (a ∷ args) (o ∷ os) h = (operand_grows e h.0, operands_grow p e t args os h.1)

operands_push : (p : Timetable) (net : Net) (t : ℕ) (args : List Arg) (a : Arg) (os : List Operand) (o : Operand) → AreOperands p net t args os → IsOperand p net t a o → AreOperands p net t (args ++ a ∷ []) (os ++ o ∷ [])
operands_push p net t [] a [] o h g = (g, tt)
operands_push p net t [] a (x ∷ os) o h g = absurd h
operands_push p net t (b ∷ args) a [] o h g = absurd h
operands_push p net t (b ∷ args) a (x ∷ os) o h g = (h.0, operands_push p net t args a os o h.1 g)

pub operand_types : (p : Timetable) (net : Net) (t : ℕ) (args : List Arg) (os : List Operand) → AreOperands p net t args os → map (λ (o : Operand). Some o.ty) os ≡ map (arg_type p.graph.ops) args
operand_types p net t [] [] h = refl
operand_types p net t [] (o ∷ os) h = absurd h
operand_types p net t (a ∷ args) [] h = absurd h
operand_types p net t (a ∷ args) (o ∷ os) h = (let e = h.0.typed in let r = operand_types p net t args os h.1 in cc)

pub operand_wires : (p : Timetable) (net : Net) (t : ℕ) (args : List Arg) (os : List Operand) → AreOperands p net t args os → AreWires net (map wire_of os)
operand_wires p net t [] [] h = tt
operand_wires p net t [] (o ∷ os) h = absurd h
operand_wires p net t (a ∷ args) [] h = absurd h
operand_wires p net t (a ∷ args) (o ∷ os) h = (h.0.tells.wire, operand_wires p net t args os h.1)

pub ready_grows : (p : Timetable) {old new : Net} → Extends old new → (kept : List Kept) (t : ℕ) (a : Arg) → IsArgReady p old kept t a → IsArgReady p new kept t a
ready_grows p e kept t (arg.Op j) h = (h.0, h.1, h.2, h.3, h.4, held_grows e h.5)
ready_grows p e kept t (arg.Const ty bits) h = h

-- what was supplied shows the argument
pub supplied_right :
    (p : Timetable) (hi : ℕ) (old new : Net) (kept : List Kept) (t : ℕ) (a : Arg) (o : Operand)
    → IsSound p hi old → IsSupplied p.graph.ops kept t a old new o → IsArgReady p old kept t a → Keeps p old new × IsOperand p new t a o
supplied_right p hi old new kept t (arg.Op j) o sound s r =
    let x : Op = r.0 in
    let w : Kept = r.1 in
    let h : IsHeld p old j w.from t x.ty.width w.wires.items = r.5 in
    let f = s.1.shown w r.3 in
    let same : f.0 ≡ h.wire = same_Some f.0 h.wire (sym f.1 ∙ h.at) in
    let ty : o.ty ≡ x.ty = s.1.typed x r.2 in
    let wire : h.wire ≡ wire_of o = wire_same h.wire o.signal o.ty.width (f.2 ∙ ap (λ (v : Wire). v.signal) same) (ap (λ (z : Ty). z.width) ty ∙ sym h.wide) in
    let T : Wire → Type 0 = λ v. Tells p old t v (λ terms. terms j) in
    let N : Net → Type 0 = λ n. Keeps p old n × IsOperand p n t (arg.Op j) o in
    let operand : IsOperand p old t (arg.Op j) o = record { typed = ap Some ty ∙ sym (ap (option_map (λ (z : Op). z.ty)) r.2); tells = subst T wire h.tells } in
    subst N (sym s.0) (keeps_same p old, operand)
supplied_right p hi old new kept t (arg.Const ty bits) o sound s r =
    let v : Wire = s.1.0 in
    let a : Adds [] old new v bits.width (λ see. bits.raw) = s.1.2 in
    let wire : v ≡ wire_of o = wire_same v o.signal o.ty.width s.1.1 (ap (λ (z : Ty). z.width) s.0 ∙ sym r ∙ sym a.wide) in
    let T : Wire → Type 0 = λ w. Tells p new t w (λ terms. bits.raw) in
    let told : Tells p new t v (λ terms. bits.raw) = record { wire = (a.sound sound.nodes tt).1; shows = λ terms means value width x scene. a.gives value width sound.nodes tt x } in
    (adds_keeps tt a, record { typed = ap Some s.0; tells = subst T wire told })

pub supplies_none : (ops : List Op) (kept : List Kept) (t : ℕ) (net : Net) → Supplies ops kept t [] net net []
supplies_none ops kept t net p hi e sound ready = (keeps_same p net, tt)

pub supplies_next :
    (ops : List Op) (kept : List Kept) (t : ℕ) (args : List Arg) (a : Arg) (old mid new : Net) (os : List Operand) (o : Operand)
    → Supplies ops kept t args old mid os → IsSupplied ops kept t a mid new o → Supplies ops kept t (args ++ a ∷ []) old new (os ++ o ∷ [])
supplies_next ops kept t args a old mid new os o h s p hi e sound ready =
    let front : All (IsArgReady p old kept t) args = λ i d l. (let P : Arg → Type 0 = IsArgReady p old kept t in subst P (get_or_append_left args (a ∷ []) d i l) (ready i d (omega (arith, length-append args (a ∷ []))))) in
    let prev = h p hi e sound front in
    let last : IsArgReady p old kept t a = All-contains (IsArgReady p old kept t) (args ++ a ∷ []) a ready (Contains-push args a) in
    let S : List Op → Type 0 = λ xs. IsSupplied xs kept t a mid new o in
    let one = supplied_right p hi mid new kept t a o (prev.0.sound hi sound) (subst S (sym e) s) (ready_grows p prev.0.extends kept t a last) in
    (keeps_on prev.0 one.0, operands_push p new t args a os o (operands_grow p one.0.extends t args os prev.1) one.1)
