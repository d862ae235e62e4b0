-- What was generated is valid and serves.
use Rattle.std.proofs.Common.{◌≡◌, ◌≢◌, ◌||◌, ℕ, ◌+◌, ◌-◌, ◌<◌, ◌≤◌, zero, suc, List, [], ◌∷◌, ◌++◌, Some, length, map, get_or, arith, refl, ap, sym, ◌∙◌, subst, All, AllPairs, Contains, IsTrue}
use Rattle.std.specs.Prelude.{slice_get}
use Rattle.std.specs.List.{range_with_len}
use Rattle.std.proofs.lemmas.List.{append-nil}
use Rattle.std.proofs.lemmas.Option.{same_Some}
use Rattle.std.proofs.lemmas.List.FromFn.{length-map-range_with_len, get_or-map-range_with_len}
use Rattle.std.proofs.lemmas.List.Elements.{All-append, All-map, All-weaker, Contains-append_left, Contains-append_right, All-from_recursion, All-nil}
use Rattle.ix_graph.specs.declared.graph.Op.{Op}
use Rattle.ix_graph.specs.Graphs.{IsValidGraph}
use Rattle.ix_net.specs.declared.netlist.Net.{Net}
use Rattle.ix_net.specs.declared.netlist.Port.{Port}
use Rattle.ix_net.specs.declared.netlist.Cell.{Cell}
use Rattle.ix_net.specs.declared.netlist.Bank.{Bank}
use Rattle.ix_net.specs.Name.{is_letter, is_mark}
use Rattle.ix_net.specs.Signals.{signals, cell_port}
use Rattle.ix_net.specs.Valid.{IsValid, IsWidth, names}
use Rattle.ix_graph.specs.declared.role.Role.{Role}
use Rattle.ix_graph.specs.declared.role.Role.TheVariants.{Read, Compute, Write}
use Rattle.ix_graph.specs.Roles.{role_of}
use Rattle.ix_ports.specs.Ports.{module_name, input_name, last_from, enable_port, enable_ports, read_port, read_ports, input_ports}
use Rattle.ix_plan.specs.Service.{Serves}
use Rattle.ix_cells.specs.declared.signal.Signal.TheVariants.{Register}
use Rattle.ix_netgen.specs.declared.kept.Kept.{Kept}
use Rattle.ix_cells.specs.Naming.{code, Ascends}
use Rattle.ix_cells.specs.Growth.{Extends, AreNodes}
use Rattle.ix_netgen.specs.Standing.{Timetable, IsRightBank}
use Rattle.ix_netgen.specs.KeptWires.{IsStage, IsBegun, IsStart}
use Rattle.ix_netgen.specs.Outputs.{all_cells, all_ports, Puts}
use Rattle.ix_netgen.proofs.BankLemmas.{has_input, right_grows}
use Rattle.ix_netgen.proofs.PortLemmas.{rd_le_last}
use Rattle.ix_netgen.proofs.InOrder.{ascends_apart}
use Rattle.ix_netgen.proofs.Order.{signals_ascend, outs_ascend}
use Rattle.ix_netgen.proofs.Emitted.{AreAllOperands, AreOuts, all_operands, all_ports_right, all_ports_cells, all_outs, outputs_show}
use Rattle.ix_netgen.proofs.Validity.{valid_net, apart}
use Rattle.ix_netgen.proofs.Lives.{shows_always}

pub last_most : (rd : ℕ) (ts : List ℕ) → rd ≤ 64 → All (λ t. t ≤ 64) ts → last_from rd ts ≤ 64
last_most rd [] l h = l
last_most rd (t ∷ ts) l h = (let a = h 0 0 (omega arith) in let b = last_most rd ts l (λ k d m. h (suc k) d (omega arith)) in omega arith)

has_enable : (rd last t : ℕ) → rd ≤ t → t < last → Contains (enable_ports rd last) (enable_port t)
has_enable rd last t a b =
    (t - rd, omega (arith, length-map-range_with_len enable_port rd (last - rd)), get_or-map-range_with_len enable_port rd (last - rd) (t - rd) t (enable_port t) (omega arith) (omega arith))

has_read : (k : ℕ) (ops : List Op) (j : ℕ) (op : Op) → slice_get ops j ≡ Some op → role_of op.kind ≡ Read → Contains (read_ports k ops) (record { name = input_name (k + j); width = op.ty.width })
has_read k [] j op h e = absurd (cc)
has_read k (x ∷ ops) zero op h e =
    let s : x ≡ op = same_Some x op h in
    let at : k ≡ k + 0 = omega arith in
    let port : ℕ → Port = λ i. record { name = input_name i; width = op.ty.width } in
    let R : Role → Type 0 = λ r. Contains (read_port k op r ++ read_ports (k + 1) ops) (port k) in
    let here : Contains (port k ∷ read_ports (k + 1) ops) (port k) = (0, omega arith, refl) in
    let X : Op → Type 0 = λ z. Contains (read_port k z (role_of z.kind) ++ read_ports (k + 1) ops) (port k) in
    let K : ℕ → Type 0 = λ i. Contains (read_ports k (x ∷ ops)) (port i) in
    subst K at (subst X (sym s) (subst R (sym e) here))
has_read k (x ∷ ops) (suc j) op h e =
    let r = has_read (k + 1) ops j op h e in
    let at : k + 1 + j ≡ k + suc j = omega arith in
    let P : ℕ → Type 0 = λ i. Contains (read_ports k (x ∷ ops)) (record { name = input_name i; width = op.ty.width }) in
    subst P at (Contains-append_right (read_port k x (role_of x.kind)) (read_ports (k + 1) ops) (record { name = input_name (k + 1 + j); width = op.ty.width }) r)

pub stage_first : (p : Timetable) (last : ℕ) (name : List ℕ) (net : Net) → last ≡ last_from p.shape.rd p.times → IsStart name p.shape.rd last p.graph.ops net → IsStage p last 0 net []
stage_first p last name net e s =
    let C : List Cell → Type 0 = λ cs. AreNodes net 0 cs in
    let B : List Bank → Type 0 = λ bs. All (IsRightBank p net) bs in
    let N : List Bank → Type 0 = λ bs. Ascends (code (Register 0 0)) (code (Register 0 0)) (map (λ (b : Bank). b.target) bs) in
    let I : Port → List Port → Type 0 = λ q is. Contains is q in
    record {
      sound = record { nodes = subst C (sym s.no_cells) tt; banks = subst B (sym s.no_banks) (All-nil (IsRightBank p net)); bank_names = subst N (sym s.no_banks) (omega arith); no_outputs = s.no_outputs };
      enables = λ t a b. subst (I (enable_port t)) (sym s.inputs) (Contains-append_left (enable_ports p.shape.rd last) (read_ports 0 p.graph.ops) (enable_port t) (has_enable p.shape.rd last t a b));
      reads = λ j op h r.
          (let q : Port = record { name = input_name j; width = op.ty.width } in
          let z : 0 + j ≡ j = omega arith in
          let P : ℕ → Type 0 = λ i. Contains (read_ports 0 p.graph.ops) (record { name = input_name i; width = op.ty.width }) in
          has_input net q (subst (I q) (sym s.inputs) (Contains-append_right (enable_ports p.shape.rd last) (read_ports 0 p.graph.ops) q (subst P z (has_read 0 p.graph.ops j op h r)))));
      count = refl;
      right = λ j op w h g. absurd (cc);
    }

reads_wide : (k : ℕ) (ops : List Op) → All (λ (q : Port). IsWidth q.width) (read_ports k ops)
reads_wide k [] = All-nil (λ (q : Port). IsWidth q.width)
reads_wide k (op ∷ ops) = All-append (λ (q : Port). IsWidth q.width) (read_port k op (role_of op.kind)) (read_ports (k + 1) ops) (one (role_of op.kind)) (reads_wide (k + 1) ops)
  where
    one : (r : Role) → All (λ (q : Port). IsWidth q.width) (read_port k op r)
    one Read = All-from_recursion (λ (q : Port). IsWidth q.width) (read_port k op Read) (record { some = op.ty.some_width; most = op.ty.most_width }, tt)
    one Compute = All-nil (λ (q : Port). IsWidth q.width)
    one Write = All-nil (λ (q : Port). IsWidth q.width)

inputs_wide : (rd last : ℕ) (ops : List Op) → All (λ (q : Port). IsWidth q.width) (enable_ports rd last ++ read_ports 0 ops)
inputs_wide rd last ops =
    All-append (λ (q : Port). IsWidth q.width) (enable_ports rd last) (read_ports 0 ops)
    (All-map (λ (q : Port). IsWidth q.width) enable_port (range_with_len rd (last - rd)) (λ k d l. record { some = omega arith; most = omega arith })) (reads_wide 0 ops)

module _ (p : Timetable) (last : ℕ) (name : List ℕ) (start mid net : Net) (kept : List Kept) (valid : IsValidGraph p.graph) (is_last : last ≡ last_from p.shape.rd p.times) (most : last < 255)
    (s : IsStart name p.shape.rd last p.graph.ops start) (b : IsBegun p last (length p.graph.ops) start mid kept) (u : Puts mid net (all_cells 0 p.graph.ops kept) (all_ports 0 p.graph.ops kept))
    (fit : All (λ c. IsTrue (is_letter c || is_mark c)) name)
  where
    grown : Extends mid net
    grown = record { named = u.named; inputs = u.inputs; cells = all_cells 0 p.graph.ops kept; cells_are = u.cells_are; banks = []; banks_are = u.banks ∙ sym (append-nil mid.banks) }

    named : net.name ≡ module_name name
    named = u.named ∙ b.extends.named ∙ s.named

    inputs : net.inputs ≡ enable_ports p.shape.rd last ++ read_ports 0 p.graph.ops
    inputs = u.inputs ∙ b.extends.inputs ∙ s.inputs

    inputs_right : net.inputs ≡ input_ports p.shape.rd p.graph.ops p.times
    inputs_right = inputs ∙ ap (λ l. enable_ports p.shape.rd l ++ read_ports 0 p.graph.ops) is_last

    right : All (IsRightBank p net) net.banks
    right =
        let P : List Bank → Type 0 = λ bs. All (IsRightBank p net) bs in
        subst P (sym u.banks) (All-weaker (IsRightBank p mid) (IsRightBank p net) (right_grows grown) mid.banks b.stage.sound.banks)

    operands : AreAllOperands p mid p.graph.ops kept
    operands = all_operands p mid p.graph.ops kept (λ j op w h g. (get_or p.times j 0, (b.stage.right j op w h g).operands))

    ports : net.outputs ≡ all_ports 0 p.graph.ops kept
    ports = u.ports_are ∙ ap (λ z. z ++ all_ports 0 p.graph.ops kept) b.stage.sound.no_outputs

    abbrev hi : ℕ
    hi = code (Register (length p.graph.ops) 0)

    order : Ascends 0 hi (names (signals net))
    order =
        let N : List Bank → Type 0 = λ bs. Ascends (code (Register 0 0)) hi (map (λ (x : Bank). x.target) bs) in
        let low = rd_le_last p.shape.rd p.times in
        signals_ascend net mid p.shape.rd hi p.graph.ops p.times kept (omega arith) valid.few low inputs_right b.stage.sound.nodes u.cells_are (subst N (sym u.banks) b.stage.sound.bank_names)

    outs : AreOuts mid (all_cells 0 p.graph.ops kept)
    outs = all_outs p mid 0 p.graph.ops kept (omega (arith, valid.few)) operands

    pub finish_valid : IsValid net
    finish_valid =
        let W : List Port → Type 0 = λ is. All (λ (q : Port). IsWidth q.width) is in
        let A : List Port → Type 0 = λ os. AllPairs (λ x y. x ≢ y) (names os) in
        valid_net p net mid (all_cells 0 p.graph.ops kept) hi name b.stage.sound.nodes outs u.cells_are grown named order right
        (subst W (sym inputs) (inputs_wide p.shape.rd last p.graph.ops)) (ports ∙ sym (all_ports_cells 0 p.graph.ops kept))
        (subst A (all_ports_cells 0 p.graph.ops kept ∙ sym ports)
        (ascends_apart _ _ (names (map cell_port (all_cells 0 p.graph.ops kept))) (outs_ascend 0 p.graph.ops kept (omega (arith, valid.few))))) fit

    pub finish_serves : Serves p.shape name p.graph p.times net
    finish_serves = record {
      named = named;
      inputs = inputs_right;
      outputs = ports ∙ all_ports_right p mid 0 p.graph.ops kept b.stage.count operands;
      shows = shows_always p net (apart p net mid (all_cells 0 p.graph.ops kept) hi name b.stage.sound.nodes outs u.cells_are grown named order) right
          (outputs_show p last mid net kept b.stage grown u.cells_are);
    }
