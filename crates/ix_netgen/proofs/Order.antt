-- The names of all signals of a generated net stand in order.
use Rattle.std.proofs.Common.{◌≡◌, ℕ, ◌+◌, ◌-◌, ◌*◌, ◌<◌, ◌≤◌, ◌^◌, zero, suc, List, [], ◌∷◌, ◌++◌, length, map, arith, refl, ap, sym, ◌∙◌, subst}
use Rattle.std.specs.List.{range_with_len}
use Rattle.std.proofs.lemmas.List.{map-append}
use Rattle.ix_graph.specs.declared.kind.Kind.{Kind}
use Rattle.ix_graph.specs.declared.kind.Kind.TheVariants.{RdMem, WrRD, WrPC, WrCustReg, WrMem}
use Rattle.ix_graph.specs.declared.graph.Op.{Op}
use Rattle.ix_net.specs.declared.netlist.Net.{Net}
use Rattle.ix_net.specs.declared.netlist.Port.{Port}
use Rattle.ix_net.specs.declared.netlist.Cell.{Cell}
use Rattle.ix_net.specs.declared.netlist.Bank.{Bank}
use Rattle.ix_net.specs.Signals.{signals, cell_port, bank_port}
use Rattle.ix_net.specs.Valid.{names}
use Rattle.ix_ports.specs.declared.letter.Letter.{Letter}
use Rattle.ix_ports.specs.declared.letter.Letter.TheVariants.{Address, Value, Condition}
use Rattle.ix_graph.specs.declared.role.Role.{Role}
use Rattle.ix_graph.specs.declared.role.Role.TheVariants.{Read, Compute, Write}
use Rattle.ix_graph.specs.Roles.{role_of}
use Rattle.ix_ports.specs.Ports.{letters_of, enable_port, enable_ports, read_port, read_ports, input_ports, last_from}
use Rattle.ix_cells.specs.declared.signal.Signal.TheVariants.{Enable, Input, Node, Output, Register}
use Rattle.ix_cells.specs.declared.operand.Operand.{Operand}
use Rattle.ix_netgen.specs.declared.kept.Kept.{Kept}
use Rattle.ix_cells.specs.Naming.{name_of, code, Ascends, letter_rank}
use Rattle.ix_cells.specs.Growth.{AreNodes}
use Rattle.ix_netgen.specs.Outputs.{op_cells, all_cells}
use Rattle.ix_netgen.proofs.InOrder.{ascends_low, ascends_append}
use Rattle.ix_netgen.proofs.BankLemmas.{ascends_more}

pub names_append : (xs ys : List Port) → names (xs ++ ys) ≡ names xs ++ names ys
names_append xs ys = map-append (λ (p : Port). p.name) xs ys

enables_ascend : (a n : ℕ) → a + n ≤ 2 ^ 64 → Ascends a (a + n) (names (map enable_port (range_with_len a n)))
unfolding code name_of
enables_ascend a zero l = omega arith
enables_ascend a (suc n) l = (Enable a, refl, omega arith, omega arith, ascends_more (a + 1) (a + 1 + n) (a + suc n) (names (map enable_port (range_with_len (a + 1) n))) (enables_ascend (a + 1) n (omega arith)) (omega arith))

input_first : (k hi : ℕ) (xs : List (List ℕ)) → k < 2 ^ 64 → Ascends (2 ^ 80 + (k + 1)) hi xs → Ascends (2 ^ 80 + k) hi (Rattle.ix_ports.specs.Ports.input_name k ∷ xs)
unfolding code name_of
input_first k hi xs b h = (Input k, refl, b, omega arith, ascends_low (2 ^ 80 + (k + 1)) (2 ^ 80 + k + 1) hi xs (omega arith) h)

reads_ascend : (k : ℕ) (ops : List Op) → k + length ops ≤ 2 ^ 64 → Ascends (2 ^ 80 + k) (2 ^ 80 + (k + length ops)) (names (read_ports k ops))
reads_ascend k [] l = omega arith
reads_ascend k (op ∷ ops) l = one (role_of op.kind) (ascends_more (2 ^ 80 + (k + 1)) (2 ^ 80 + (k + 1 + length ops)) (2 ^ 80 + (k + suc (length ops))) (names (read_ports (k + 1) ops)) (reads_ascend (k + 1) ops (omega arith)) (omega arith))
  where
    one : (r : Role) → Ascends (2 ^ 80 + (k + 1)) (2 ^ 80 + (k + suc (length ops))) (names (read_ports (k + 1) ops)) → Ascends (2 ^ 80 + k) (2 ^ 80 + (k + suc (length ops))) (names (read_port k op r ++ read_ports (k + 1) ops))
    one Read h = input_first k (2 ^ 80 + (k + suc (length ops))) (names (read_ports (k + 1) ops)) (omega arith) h
    one Compute h = ascends_low (2 ^ 80 + (k + 1)) (2 ^ 80 + k) (2 ^ 80 + (k + suc (length ops))) (names (read_ports (k + 1) ops)) (omega arith) h
    one Write h = ascends_low (2 ^ 80 + (k + 1)) (2 ^ 80 + k) (2 ^ 80 + (k + suc (length ops))) (names (read_ports (k + 1) ops)) (omega arith) h

pub inputs_ascend : (rd : ℕ) (ops : List Op) (times : List ℕ) → last_from rd times ≤ 255 → length ops ≤ 256 → rd ≤ last_from rd times → Ascends 0 (code (Node 0)) (names (input_ports rd ops times))
unfolding code
inputs_ascend rd ops times l few low =
    let last = last_from rd times in
    let P : List (List ℕ) → Type 0 = λ ns. Ascends 0 (2 * 2 ^ 80 + 0) ns in
    subst P (sym (names_append (enable_ports rd last) (read_ports 0 ops)))
    (ascends_append 0 (rd + (last - rd)) (2 ^ 80 + 0) (2 * 2 ^ 80 + 0) (names (enable_ports rd last)) (names (read_ports 0 ops)) (omega arith)
    (ascends_low rd 0 (rd + (last - rd)) (names (enable_ports rd last)) (omega arith) (enables_ascend rd (last - rd) (omega arith)))
    (ascends_more (2 ^ 80 + 0) (2 ^ 80 + (0 + length ops)) (2 * 2 ^ 80 + 0) (names (read_ports 0 ops)) (reads_ascend 0 ops (omega arith)) (omega arith)))

pub nodes_ascend : (net : Net) (n : ℕ) (cs : List Cell) → AreNodes net n cs → Ascends (code (Node n)) (code (Node (n + length cs))) (names (map cell_port cs))
unfolding code
nodes_ascend net n [] h = omega arith
nodes_ascend net n (c ∷ cs) h = (
  Node n,
  h.0,
  h.1.bound,
  omega arith,
  ascends_low (2 * 2 ^ 80 + (n + 1)) (2 * 2 ^ 80 + n + 1) (2 * 2 ^ 80 + (n + suc (length cs))) (names (map cell_port cs)) (omega arith)
      (ascends_more (2 * 2 ^ 80 + (n + 1)) (2 * 2 ^ 80 + (n + 1 + length cs)) (2 * 2 ^ 80 + (n + suc (length cs))) (names (map cell_port cs)) (nodes_ascend net (n + 1) cs h.2) (omega arith)),
)

pub nodes_few : (net : Net) (n : ℕ) (cs : List Cell) → n ≤ 2 ^ 64 → AreNodes net n cs → n + length cs ≤ 2 ^ 64
nodes_few net n [] l h = omega arith
nodes_few net n (c ∷ cs) l h = (let r = nodes_few net (n + 1) cs (omega (arith, h.1.bound)) h.2 in omega arith)

-- letters in order
abbrev Rise : ℕ → List Letter → Type 0
Rise r [] = r ≤ 3
Rise r (l ∷ ls) = (r ≤ letter_rank l) × Rise (letter_rank l + 1) ls

letters_rise : (kind : Kind) → Rise 0 (letters_of kind)
letters_rise RdMem = (omega arith, (omega arith, omega arith))
letters_rise WrRD = (omega arith, (omega arith, omega arith))
letters_rise WrPC = (omega arith, (omega arith, omega arith))
letters_rise (WrCustReg register) = (omega arith, (omega arith, omega arith))
letters_rise WrMem = (omega arith, (omega arith, (omega arith, omega arith)))
letters_rise kind = omega arith

rank_few : (l : Letter) → letter_rank l ≤ 2
rank_few Address = omega arith
rank_few Value = omega arith
rank_few Condition = omega arith

op_ascend : (k r : ℕ) (ls : List Letter) (os : List Operand) → k < 2 ^ 64 → Rise r ls → Ascends (3 * 2 ^ 80 + (256 * k + r)) (3 * 2 ^ 80 + (256 * k + 3)) (names (map cell_port (op_cells k ls os)))
unfolding code name_of
op_ascend k r [] os b h = omega (arith, h)
op_ascend k r (l ∷ ls) [] b h = omega (arith, h.0, rank_few l)
op_ascend k r (l ∷ ls) (o ∷ os) b h = (
  Output k l,
  refl,
  b,
  omega (arith, h.0),
  ascends_low (3 * 2 ^ 80 + (256 * k + (letter_rank l + 1))) (3 * 2 ^ 80 + (256 * k + letter_rank l) + 1) (3 * 2 ^ 80 + (256 * k + 3)) (names (map cell_port (op_cells k ls os))) (omega arith)
      (op_ascend k (letter_rank l + 1) ls os b h.1),
)

pub outs_ascend : (k : ℕ) (ops : List Op) (kept : List Kept) → k + length ops ≤ 2 ^ 64 → Ascends (3 * 2 ^ 80 + 256 * k) (3 * 2 ^ 80 + 256 * (k + length ops)) (names (map cell_port (all_cells k ops kept)))
outs_ascend k [] kept l = omega arith
outs_ascend k (op ∷ ops) [] l = omega arith
outs_ascend k (op ∷ ops) (w ∷ ws) l =
    let here = op_cells k (letters_of op.kind) w.operands.items in
    let rest = all_cells (k + 1) ops ws in
    let P : List (List ℕ) → Type 0 = λ ns. Ascends (3 * 2 ^ 80 + 256 * k) (3 * 2 ^ 80 + 256 * (k + suc (length ops))) ns in
    subst P (sym (ap names (map-append cell_port here rest) ∙ names_append (map cell_port here) (map cell_port rest)))
    (ascends_append (3 * 2 ^ 80 + 256 * k) (3 * 2 ^ 80 + (256 * k + 3)) (3 * 2 ^ 80 + 256 * (k + 1)) (3 * 2 ^ 80 + 256 * (k + suc (length ops))) (names (map cell_port here)) (names (map cell_port rest)) (omega arith)
    (ascends_low (3 * 2 ^ 80 + (256 * k + 0)) (3 * 2 ^ 80 + 256 * k) (3 * 2 ^ 80 + (256 * k + 3)) (names (map cell_port here)) (omega arith) (op_ascend k 0 (letters_of op.kind) w.operands.items (omega arith) (letters_rise op.kind)))
    (ascends_more (3 * 2 ^ 80 + 256 * (k + 1)) (3 * 2 ^ 80 + 256 * (k + 1 + length ops)) (3 * 2 ^ 80 + 256 * (k + suc (length ops))) (names (map cell_port rest)) (outs_ascend (k + 1) ops ws (omega arith)) (omega arith)))

pub bank_targets : (bs : List Bank) → names (map bank_port bs) ≡ map (λ (b : Bank). b.target) bs
bank_targets [] = refl
bank_targets (b ∷ bs) = ap (λ z. b.target ∷ z) (bank_targets bs)

-- all together
pub signals_ascend :
    (net mid : Net) (rd hi : ℕ) (ops : List Op) (times : List ℕ) (kept : List Kept) → last_from rd times ≤ 255 → length ops ≤ 256 → rd ≤ last_from rd times
    → net.inputs ≡ input_ports rd ops times → AreNodes mid 0 mid.cells → net.cells ≡ mid.cells ++ all_cells 0 ops kept
    → Ascends (code (Register 0 0)) hi (map (λ (b : Bank). b.target) net.banks) → Ascends 0 hi (names (signals net))
unfolding code
signals_ascend net mid rd hi ops times kept l few low ei nodes ec banks =
    let P : List Port → Type 0 = λ i. Ascends 0 (2 * 2 ^ 80 + 0) (names i) in
    let a : Ascends 0 (2 * 2 ^ 80 + 0) (names net.inputs) = subst P (sym ei) (inputs_ascend rd ops times l few low) in
    let bound = nodes_few mid 0 mid.cells (omega arith) nodes in
    let C : List (List ℕ) → Type 0 = λ ns. Ascends (2 * 2 ^ 80 + 0) (4 * 2 ^ 80) ns in
    let b : Ascends (2 * 2 ^ 80 + 0) (4 * 2 ^ 80) (names (map cell_port net.cells)) =
    subst C (sym (ap (λ (cs : List Cell). names (map cell_port cs)) ec ∙ ap names (map-append cell_port mid.cells (all_cells 0 ops kept)) ∙ names_append (map cell_port mid.cells) (map cell_port (all_cells 0 ops kept))))
    (ascends_append (2 * 2 ^ 80 + 0) (2 * 2 ^ 80 + (0 + length mid.cells)) (3 * 2 ^ 80 + 256 * 0) (4 * 2 ^ 80) (names (map cell_port mid.cells)) (names (map cell_port (all_cells 0 ops kept))) (omega arith)
    (nodes_ascend mid 0 mid.cells nodes)
    (ascends_more (3 * 2 ^ 80 + 256 * 0) (3 * 2 ^ 80 + 256 * (0 + length ops)) (4 * 2 ^ 80) (names (map cell_port (all_cells 0 ops kept))) (outs_ascend 0 ops kept (omega arith)) (omega arith))) in
    let D : List (List ℕ) → Type 0 = λ ns. Ascends (4 * 2 ^ 80 + (256 * 0 + 0)) hi ns in
    let d : Ascends (4 * 2 ^ 80 + (256 * 0 + 0)) hi (names (map bank_port net.banks)) = subst D (sym (bank_targets net.banks)) banks in
    let W : List (List ℕ) → Type 0 = λ ns. Ascends 0 hi ns in
    subst W (sym (names_append (net.inputs ++ map cell_port net.cells) (map bank_port net.banks) ∙ ap (λ z. z ++ names (map bank_port net.banks)) (names_append net.inputs (map cell_port net.cells))))
    (ascends_append 0 (4 * 2 ^ 80) (4 * 2 ^ 80 + (256 * 0 + 0)) hi (names net.inputs ++ names (map cell_port net.cells)) (names (map bank_port net.banks)) (omega arith)
    (ascends_append 0 (2 * 2 ^ 80 + 0) (2 * 2 ^ 80 + 0) (4 * 2 ^ 80) (names net.inputs) (names (map cell_port net.cells)) (omega arith) a b) d)
