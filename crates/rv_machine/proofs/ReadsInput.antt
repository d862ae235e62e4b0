-- The input of an operation that reads has what the row drives there, and that is its term's value where the token of its time reads it.
use Rattle.std.proofs.Common.{◌≡◌, ℕ, zero, suc, ◌+◌, ◌-◌, ◌%◌, ◌^◌, ◌<◌, List, [], ◌∷◌, ◌++◌, length, Option, Some, Bool, false, refl, sym, ap, subst, ◌∙◌, arith}
use Rattle.std.specs.Prelude.{slice_get, if◌then◌else◌}
use Rattle.std.specs.List.{range_with_len}
use Rattle.std.proofs.lemmas.List.{length-map}
use Rattle.std.proofs.lemmas.Option.{same_Some, slice_get_within}
use native.Mathlib.Nat.{mod-eq_of_lt}
use Rattle.ix_graph.specs.declared.graph.Op.{Op}
use Rattle.ix_graph.specs.declared.graph.Graph.{Graph}
use Rattle.ix_graph.specs.declared.role.Role.{Role}
use Rattle.ix_graph.specs.declared.role.Role.TheVariants.{Read, Compute, Write}
use Rattle.ix_graph.specs.Roles.{role_of}
use Rattle.ix_graph_laws.specs.GraphEffects.{numbers_of, read_raw, values_under}
use Rattle.ix_graph_laws.specs.Laws.{HasValues}
use Rattle.ix_mean.specs.GraphValues.{MeansAs}
use Rattle.ix_mean.specs.Meaning.{Inputs}
use Rattle.ix_net.specs.declared.netlist.Net.{Net}
use Rattle.ix_net.specs.declared.netlist.Port.{Port}
use Rattle.ix_net.specs.Signals.{signals, place_of}
use Rattle.ix_net.specs.Valid.{IsValid}
use Rattle.ix_net.specs.Valuation.{inputs_of, value_of}
use Rattle.ix_net.proofs.NetLemmas.{signal_input, place_of-at}
use Rattle.ix_net.proofs.FitLemmas.{value_at_place}
use Rattle.ix_net.proofs.ValidLemmas.{apart_of}
use Rattle.ix_plan.specs.declared.design.Plan.{Plan}
use Rattle.ix_plan.specs.Service.{result_time}
use Rattle.ix_ports.specs.Ports.{input_name, enable_port, enable_ports, read_port, read_ports, input_ports, last_from}
use Rattle.rv_ports.specs.declared.modules.Module.{Module}
use Rattle.rv_ports.specs.declared.shown.Seat.{Seat}
use Rattle.rv_ports.specs.declared.shown.Shown.{Shown}
use Rattle.rv_ports.specs.Inputs.{bit, enable_value, enable_values, read_by, carried, token_at, read_value, input_of, read_values, inputs_by}
use Rattle.rv_machine.proofs.InputsOver.{input_at}

-- ---- places of lists

behind_at : {A : Type 0} (xs ys : List A) (k : ℕ) (y : A) → slice_get ys k ≡ Some y → slice_get (xs ++ ys) (length xs + k) ≡ Some y
behind_at [] ys k y e = (let z : 0 + k ≡ k = omega arith in ap (slice_get ys) z ∙ e)
behind_at (x ∷ xs) ys k y e = (let z : suc (length xs) + k ≡ suc (length xs + k) = omega arith in ap (λ i. slice_get (x ∷ (xs ++ ys)) i) z ∙ behind_at xs ys k y e)

-- a port and a value at one place
record IsPair (ports : List Port) (values : List ℕ) (name : List ℕ) (v : ℕ) : Type 0 where
  place : ℕ
  port : Port
  there : slice_get ports place ≡ Some port
  name_is : port.name ≡ name
  value_is : slice_get values place ≡ Some v

module _ (m : Module) (times : List ℕ) (w : Shown) where
  here : (k : ℕ) (op : Op) (ports : List Port) (values : List ℕ) (r : Role) → r ≡ Read → IsPair (read_port k op r ++ ports) (input_of m times w k op r ++ values) (input_name k) (read_value m times w k op)
  here k op ports values Read e = record { place = 0; port = record { name = input_name k; width = op.ty.width }; there = refl; name_is = refl; value_is = refl }
  here k op ports values Compute e = cc
  here k op ports values Write e = cc

  further : (k : ℕ) (x : Op) (ports : List Port) (values : List ℕ) (name : List ℕ) (v : ℕ) (r : Role) → IsPair ports values name v → IsPair (read_port k x r ++ ports) (input_of m times w k x r ++ values) name v
  further k x ports values name v Read h = record { place = suc h.place; port = h.port; there = h.there; name_is = h.name_is; value_is = h.value_is }
  further k x ports values name v Compute h = h
  further k x ports values name v Write h = h

  pair : (k : ℕ) (ops : List Op) (j : ℕ) (op : Op) → slice_get ops j ≡ Some op → role_of op.kind ≡ Read → IsPair (read_ports k ops) (read_values m times w k ops) (input_name (k + j)) (read_value m times w (k + j) op)
  pair k [] j op e r = cc
  pair k (x ∷ ops) zero op e r =
      let same : x ≡ op = same_Some x op e in
      let z : k ≡ k + 0 = omega arith in
      subst (λ i. IsPair (read_ports k (x ∷ ops)) (read_values m times w k (x ∷ ops)) (input_name i) (read_value m times w i op)) z
      (subst (λ (y : Op). IsPair (read_ports k (y ∷ ops)) (read_values m times w k (y ∷ ops)) (input_name k) (read_value m times w k op)) (sym same)
      (here k op (read_ports (k + 1) ops) (read_values m times w (k + 1) ops) (role_of op.kind) r))
  pair k (x ∷ ops) (suc j) op e r =
      let z : k + 1 + j ≡ k + suc j = omega arith in
      subst (λ i. IsPair (read_ports k (x ∷ ops)) (read_values m times w k (x ∷ ops)) (input_name i) (read_value m times w i op)) z
      (further k x (read_ports (k + 1) ops) (read_values m times w (k + 1) ops) (input_name (k + 1 + j)) (read_value m times w (k + 1 + j) op) (role_of x.kind) (pair (k + 1) ops j op e r))

-- in a valid net whose inputs are those of the module, an input of a read has the value that is driven
pub read_at : (m : Module) (p : Plan) (w : Shown) (net : Net) (values : List ℕ) → IsValid net → net.inputs ≡ input_ports m.shape.rd p.graph.ops p.times → inputs_of net values ≡ inputs_by m p w
    → (j : ℕ) (op : Op) → slice_get p.graph.ops j ≡ Some op → role_of op.kind ≡ Read → value_of net values (input_name j) ≡ read_value m p.times w j op
unfolding inputs_by
read_at m p w net values valid ports driven j op e r =
    let z : 0 + j ≡ j = omega arith in
    let both = subst (λ i. IsPair (read_ports 0 p.graph.ops) (read_values m p.times w 0 p.graph.ops) (input_name i) (read_value m p.times w i op)) z (pair m p.times w 0 p.graph.ops j op e r) in
    let range = range_with_len m.shape.rd (last_from m.shape.rd p.times - m.shape.rd) in
    let front = enable_ports m.shape.rd (last_from m.shape.rd p.times) in
    let long : length front ≡ length (enable_values m p.times w) = length-map range enable_port ∙ sym (length-map range (λ t. bit (enable_value m w t))) in
    let at : slice_get net.inputs (length front + both.place) ≡ Some both.port = ap (λ (l : List Port). slice_get l (length front + both.place)) ports ∙ behind_at front (read_ports 0 p.graph.ops) both.place both.port both.there in
    let value : slice_get (inputs_by m p w) (length front + both.place) ≡ Some (read_value m p.times w j op) =
    ap (λ n. slice_get (enable_values m p.times w ++ read_values m p.times w 0 p.graph.ops) (n + both.place)) long
    ∙ behind_at (enable_values m p.times w) (read_values m p.times w 0 p.graph.ops) both.place (read_value m p.times w j op) both.value_is in
    let place : place_of (signals net) (input_name j) ≡ Some (length front + both.place) =
    ap (λ name. place_of (signals net) name) (sym both.name_is) ∙ place_of-at (signals net) (apart_of net valid.distinct) (length front + both.place) both.port (signal_input net (length front + both.place) both.port at) in
    value_at_place net values (input_name j) (length front + both.place) place
    ∙ input_at net values (inputs_by m p w) (length front + both.place) (read_value m p.times w j op) driven (slice_get_within net.inputs (length front + both.place) both.port at) value

-- ---- terms

-- where the token of its time reads what the term gives, the input has the term's value
pub carries_one : (m : Module) (times : List ℕ) (w : Shown) (j : ℕ) (op : Op) (s : Seat) (v : ℕ) → token_at m (result_time m.shape times j op) w.seats ≡ Some s → s.silent ≡ false → read_by w s op.kind % 2 ^ op.ty.width ≡ v
    → read_value m times w j op ≡ v
carries_one m times w j op s v e speaks same =
    ap (λ (o : Option Seat). carried w op.kind o % 2 ^ op.ty.width) e
    ∙ ap (λ (b : Bool). (if b then 0 else read_by w s op.kind) % 2 ^ op.ty.width) speaks
    ∙ same

-- the term of a read is what the core gives, and fits
pub record IsReadTerm (g : Graph) (i : Inputs) (j : ℕ) (op : Op) : Type 0 where
  pub gives : values_under g i j ≡ read_raw i op.kind op.ty (numbers_of g (values_under g i) op)
  pub fits : values_under g i j % 2 ^ op.ty.width ≡ values_under g i j

pub read_term : (g : Graph) (i : Inputs) → HasValues g i → (j : ℕ) (op : Op) → slice_get g.ops j ≡ Some op → role_of op.kind ≡ Read → IsReadTerm g i j op
read_term g i h j op e r =
    let less : values_under g i j < 2 ^ op.ty.width = subst (λ (z : Role). MeansAs z g (values_under g i) j op) r (h.meaning j op e) in
    record { gives = h.reads j op e r; fits = mod-eq_of_lt less }
