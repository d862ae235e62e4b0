-- The outputs of a generated net.
use Rattle.std.proofs.Common.{◌≡◌, ℕ, ◌+◌, ◌<◌, ◌≤◌, ◌^◌, zero, suc, List, [], ◌∷◌, ◌++◌, Option, Some, None, unwrap_or, length, map, get_or, arith, refl, ap, sym, ◌∙◌, subst, Contains}
use Rattle.std.specs.Prelude.{slice_get}
use Rattle.std.specs.Option.{option_map}
use Rattle.std.proofs.lemmas.Option.{same_Some, slice_get_within}
use Rattle.std.proofs.lemmas.List.{map-append}
use Rattle.std.proofs.lemmas.List.Elements.{Contains-append_left, Contains-append_right, All-contains}
use Rattle.ix_bits.specs.declared.number.Ty.{Ty}
use Rattle.ix_graph.specs.declared.args.Arg.{Arg}
use Rattle.ix_graph.specs.declared.args.Arg.TheVariants as arg
use Rattle.ix_graph.specs.declared.graph.Op.{Op}
use Rattle.ix_graph.specs.Graphs.{arg_type}
use Rattle.ix_net.specs.declared.netlist.Net.{Net}
use Rattle.ix_net.specs.declared.netlist.Cell.{Cell}
use Rattle.ix_net.specs.declared.netlist.Form.TheVariants.{Copy}
use Rattle.ix_net.specs.Signals.{cell_port}
use Rattle.ix_net.specs.Forms.{result_of}
use Rattle.ix_net.specs.Valid.{IsWidth}
use Rattle.ix_net.proofs.NetLemmas.{slice_get_some}
use Rattle.ix_ports.specs.declared.letter.Letter.{Letter}
use Rattle.ix_ports.specs.Ports.{letters_of, arg_width, letter_ports, write_ports}
use Rattle.ix_cells.specs.declared.signal.Signal.{Signal}
use Rattle.ix_cells.specs.declared.signal.Signal.TheVariants.{Output}
use Rattle.ix_cells.specs.declared.operand.Operand.{Operand}
use Rattle.ix_netgen.specs.declared.kept.Kept.{Kept}
use Rattle.ix_cells.specs.Naming.{name_of, IsBounded}
use Rattle.ix_net.specs.Declarations.{Has}
use Rattle.ix_cells.specs.Growth.{IsKnown, Extends}
use Rattle.ix_netgen.specs.Standing.{Timetable, ShowsOutputs}
use Rattle.ix_netgen.specs.KeptWires.{IsOperand, AreOperands, IsKept, IsStage}
use Rattle.ix_netgen.specs.Outputs.{out_cell, op_cells, op_ports, all_cells, all_ports}
use Rattle.ix_cells.proofs.Growing.{explains_before}
use Rattle.ix_netgen.proofs.BankLemmas.{scene_before}

-- the operands of operations of which the first has the number k
abbrev pub AreAllOperands : Timetable → Net → List Op → List Kept → Type 0
AreAllOperands p net [] kept = Unit {0}
AreAllOperands p net (op ∷ ops) [] = Unit {0}
AreAllOperands p net (op ∷ ops) (w ∷ ws) = ((t : ℕ) × AreOperands p net t op.args w.operands.items) × AreAllOperands p net ops ws

pub all_operands :
    (p : Timetable) (net : Net) (ops : List Op) (kept : List Kept)
    → ((j : ℕ) (op : Op) (w : Kept) → slice_get ops j ≡ Some op → slice_get kept j ≡ Some w → (t : ℕ) × AreOperands p net t op.args w.operands.items) → AreAllOperands p net ops kept
all_operands p net [] kept h = tt
all_operands p net (op ∷ ops) [] h = tt
all_operands p net (op ∷ ops) (w ∷ ws) h = (h 0 op w refl refl, all_operands p net ops ws (λ j. h (suc j)))

-- ---- ports
operand_width : (ops : List Op) (a : Arg) (ty : Ty) → Some ty ≡ arg_type ops a → ty.width ≡ arg_width ops a
operand_width ops (arg.Const t bits) ty e = ap (λ (z : Ty). z.width) (same_Some ty t e)
operand_width ops (arg.Op n) ty e = go (slice_get ops n) e
  where
    go : (o : Option Op) → Some ty ≡ option_map (λ (op : Op). op.ty) o → ty.width ≡ unwrap_or (option_map (λ (op : Op). op.ty.width) o) 0
    go None h = absurd (cc)
    go (Some op) h = ap (λ (z : Ty). z.width) (same_Some ty op.ty h)

op_ports_right : (p : Timetable) (net : Net) (t k : ℕ) (ls : List Letter) (args : List Arg) (os : List Operand) → AreOperands p net t args os → op_ports k ls os ≡ letter_ports p.graph.ops k ls args
op_ports_right p net t k [] args os h = refl
op_ports_right p net t k (l ∷ ls) [] [] h = refl
op_ports_right p net t k (l ∷ ls) [] (o ∷ os) h = absurd h
op_ports_right p net t k (l ∷ ls) (a ∷ args) [] h = absurd h
op_ports_right p net t k (l ∷ ls) (a ∷ args) (o ∷ os) h =
    let w = operand_width p.graph.ops a o.ty h.0.typed in
    let r = op_ports_right p net t k ls args os h.1 in
    cc

pub all_ports_right : (p : Timetable) (net : Net) (k : ℕ) (ops : List Op) (kept : List Kept) → length kept ≡ length ops → AreAllOperands p net ops kept → all_ports k ops kept ≡ write_ports p.graph.ops k ops
all_ports_right p net k [] kept e h = refl
all_ports_right p net k (op ∷ ops) [] e h = absurd (omega arith)
all_ports_right p net k (op ∷ ops) (w ∷ ws) e h =
    let a = op_ports_right p net h.0.0 k (letters_of op.kind) op.args w.operands.items h.0.1 in
    let b = all_ports_right p net (k + 1) ops ws (omega arith) h.1 in
    cc

op_ports_cells : (k : ℕ) (ls : List Letter) (os : List Operand) → map cell_port (op_cells k ls os) ≡ op_ports k ls os
op_ports_cells k [] os = refl
op_ports_cells k (l ∷ ls) [] = refl
op_ports_cells k (l ∷ ls) (o ∷ os) = (let r = op_ports_cells k ls os in cc)

pub all_ports_cells : (k : ℕ) (ops : List Op) (kept : List Kept) → map cell_port (all_cells k ops kept) ≡ all_ports k ops kept
all_ports_cells k [] kept = refl
all_ports_cells k (op ∷ ops) [] = refl
all_ports_cells k (op ∷ ops) (w ∷ ws) =
    map-append cell_port (op_cells k (letters_of op.kind) w.operands.items) (all_cells (k + 1) ops ws)
    ∙ (let a = op_ports_cells k (letters_of op.kind) w.operands.items in let b = all_ports_cells (k + 1) ops ws in cc)

-- ---- cells
pub record IsOut (mid : Net) (c : Cell) : Type 0 where
  pub number : ℕ
  pub letter : Letter
  pub named : c.target ≡ name_of (Output number letter)
  pub bound : number < 2 ^ 64
  pub source : Signal
  pub form : c.form ≡ Copy (name_of source)
  pub known : IsKnown (length mid.cells) source
  pub bounded : IsBounded source
  pub has : Has mid (name_of source) c.width
  pub wide : IsWidth c.width

abbrev pub AreOuts : Net → List Cell → Type 0
AreOuts mid [] = Unit {0}
AreOuts mid (c ∷ cs) = IsOut mid c × AreOuts mid cs

outs_append : (mid : Net) (cs ds : List Cell) → AreOuts mid cs → AreOuts mid ds → AreOuts mid (cs ++ ds)
outs_append mid [] ds h g = g
outs_append mid (c ∷ cs) ds h g = (h.0, outs_append mid cs ds h.1 g)

op_outs : (p : Timetable) (mid : Net) (t k : ℕ) (ls : List Letter) (args : List Arg) (os : List Operand) → k < 2 ^ 64 → AreOperands p mid t args os → AreOuts mid (op_cells k ls os)
unfolding name_of
op_outs p mid t k [] args os b h = tt
op_outs p mid t k (l ∷ ls) args [] b h = tt
op_outs p mid t k (l ∷ ls) [] (o ∷ os) b h = absurd h
op_outs p mid t k (l ∷ ls) (a ∷ args) (o ∷ os) b h = (
  record {
    number = k;
    letter = l;
    named = refl;
    bound = b;
    source = o.signal;
    form = refl;
    known = h.0.tells.wire.known;
    bounded = h.0.tells.wire.bounded;
    has = h.0.tells.wire.has;
    wide = h.0.tells.wire.wide;
  },
  op_outs p mid t k ls args os b h.1,
)

pub all_outs : (p : Timetable) (mid : Net) (k : ℕ) (ops : List Op) (kept : List Kept) → k + length ops ≤ 2 ^ 64 → AreAllOperands p mid ops kept → AreOuts mid (all_cells k ops kept)
all_outs p mid k [] kept l h = tt
all_outs p mid k (op ∷ ops) [] l h = tt
all_outs p mid k (op ∷ ops) (w ∷ ws) l h =
    outs_append mid (op_cells k (letters_of op.kind) w.operands.items) (all_cells (k + 1) ops ws)
    (op_outs p mid h.0.0 k (letters_of op.kind) op.args w.operands.items (omega arith) h.0.1) (all_outs p mid (k + 1) ops ws (omega arith) h.1)

pub out_at : (mid : Net) (cs : List Cell) → AreOuts mid cs → (i : ℕ) (c : Cell) → slice_get cs i ≡ Some c → IsOut mid c
out_at mid [] h i c g = absurd (cc)
out_at mid (x ∷ cs) h zero c g = (let P : Cell → Type 0 = λ z. IsOut mid z in subst P (same_Some x c g) h.0)
out_at mid (x ∷ cs) h (suc i) c g = out_at mid cs h.1 i c g

-- ---- what outputs show
in_op : (k : ℕ) (ls : List Letter) (os : List Operand) (j : ℕ) (l : Letter) (o : Operand) → slice_get ls j ≡ Some l → slice_get os j ≡ Some o → Contains (op_cells k ls os) (out_cell k l o)
in_op k [] os j l o h g = absurd (cc)
in_op k (m ∷ ls) [] j l o h g = absurd (cc)
in_op k (m ∷ ls) (x ∷ os) zero l o h g =
    (let a : m ≡ l = same_Some m l h in let b : x ≡ o = same_Some x o g in
    let P : Cell → Type 0 = λ z. Contains (out_cell k m x ∷ op_cells k ls os) z in
    let here : Contains (out_cell k m x ∷ op_cells k ls os) (out_cell k m x) = (0, omega arith, refl) in
    let same : out_cell k m x ≡ out_cell k l o = ap (λ z. out_cell k z x) a ∙ ap (λ z. out_cell k l z) b in
    subst P same here)
in_op k (m ∷ ls) (x ∷ os) (suc j) l o h g = (let r = in_op k ls os j l o h g in (suc r.0, omega (arith, r.1), r.2))

in_all : (k0 : ℕ) (ops : List Op) (kept : List Kept) (j k : ℕ) (op : Op) (w : Kept) (c : Cell) → k ≡ k0 + j → slice_get ops j ≡ Some op → slice_get kept j ≡ Some w → Contains (op_cells k (letters_of op.kind) w.operands.items) c → Contains (all_cells k0 ops kept) c
in_all k0 [] kept j k op w c e h g m = absurd (cc)
in_all k0 (x ∷ ops) [] j k op w c e h g m = absurd (cc)
in_all k0 (x ∷ ops) (y ∷ ys) zero k op w c e h g m =
    let at : k ≡ k0 = omega arith in
    let a : op ≡ x = same_Some op x (sym h) in
    let b : w ≡ y = same_Some w y (sym g) in
    let P : ℕ → Type 0 = λ i. Contains (op_cells i (letters_of op.kind) w.operands.items) c in
    let Q : Op → Type 0 = λ z. Contains (op_cells k0 (letters_of z.kind) w.operands.items) c in
    let R : Kept → Type 0 = λ z. Contains (op_cells k0 (letters_of x.kind) z.operands.items) c in
    Contains-append_left (op_cells k0 (letters_of x.kind) y.operands.items) (all_cells (k0 + 1) ops ys) c (subst R b (subst Q a (subst P at m)))
in_all k0 (x ∷ ops) (y ∷ ys) (suc j) k op w c e h g m =
    Contains-append_right (op_cells k0 (letters_of x.kind) y.operands.items) (all_cells (k0 + 1) ops ys) c (in_all (k0 + 1) ops ys j k op w c (omega arith) h g m)

operand_at : (p : Timetable) (net : Net) (t : ℕ) (args : List Arg) (os : List Operand) → AreOperands p net t args os → (j : ℕ) (a : Arg) → slice_get args j ≡ Some a → (o : Operand) × (slice_get os j ≡ Some o) × IsOperand p net t a o
operand_at p net t [] [] h j a g = absurd (cc)
operand_at p net t [] (o ∷ os) h j a g = absurd h
operand_at p net t (x ∷ args) [] h j a g = absurd h
operand_at p net t (x ∷ args) (o ∷ os) h zero a g = (let P : Arg → Type 0 = λ z. IsOperand p net t z o in (o, refl, subst P (same_Some x a g) h.0))
operand_at p net t (x ∷ args) (o ∷ os) h (suc j) a g = operand_at p net t args os h.1 j a g

pub outputs_show : (p : Timetable) (last : ℕ) (mid net : Net) (kept : List Kept) → IsStage p last (length p.graph.ops) mid kept → Extends mid net → net.cells ≡ mid.cells ++ all_cells 0 p.graph.ops kept → ShowsOutputs p net
outputs_show p last mid net kept stage e cells k op at j letter a hl ha terms means value width x scene =
    let w = slice_get_some kept k (omega (arith, stage.count, slice_get_within p.graph.ops k op at)) in
    let r : IsKept p last mid k op w.0 = stage.right k op w.0 at w.1 in
    let o = operand_at p mid (get_or p.times k 0) op.args w.0.operands.items r.operands j a ha in
    let within : Contains (all_cells 0 p.graph.ops kept) (out_cell k letter o.0) = in_all 0 p.graph.ops kept k k op w.0 (out_cell k letter o.0) (omega arith) at w.1 (in_op k (letters_of op.kind) w.0.operands.items j letter o.0 hl o.1) in
    let P : List Cell → Type 0 = λ cs. Contains cs (out_cell k letter o.0) in
    let there : Contains net.cells (out_cell k letter o.0) = subst P (sym cells) (Contains-append_right mid.cells (all_cells 0 p.graph.ops kept) (out_cell k letter o.0) within) in
    All-contains (λ (c : Cell). value c.target ≡ result_of value width c.width c.form) net.cells (out_cell k letter o.0) x.holds there
    ∙ o.2.tells.shows terms means value width (explains_before e value width x) (scene_before e scene)
