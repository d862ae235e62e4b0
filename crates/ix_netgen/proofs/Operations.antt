-- The cells and banks of one operation.
use Rattle.std.proofs.Common.{◌≡◌, ◌≢◌, ⊎_elim, ℕ, ◌+◌, ◌-◌, ◌<◌, ◌≤◌, ◌^◌, zero, suc, true, cond, List, [], ◌∷◌, ◌++◌, Option, Some, length, map, get_or, arith, refl, ap, sym, ◌∙◌, subst, All, Contains}
use Rattle.std.specs.Prelude.{slice_get, IfSome}
use Rattle.std.proofs.lemmas.Bool.{cases_lt, eq-eqb, cond_both}
use Rattle.std.proofs.lemmas.Option.{same_Some, slice_get_within}
use Rattle.std.proofs.lemmas.List.{get_or_default, length_push}
use Rattle.ix_graph.specs.declared.kind.Kind.{Kind}
use Rattle.ix_graph.specs.declared.kind.Kind.TheVariants.{RdInstr, RdRS1, RdRS2, RdPC, RdCustReg, RdMem, WrRD, WrPC, WrCustReg, WrMem}
use Rattle.ix_graph.specs.declared.args.Arg.{Arg}
use Rattle.ix_graph.specs.declared.args.Arg.TheVariants as arg
use Rattle.ix_graph.specs.declared.graph.Op.{Op}
use Rattle.ix_graph.specs.Graphs.{IsValidGraph, IsArgument, IsWrite, arg_type}
use Rattle.ix_net.specs.declared.netlist.Net.{Net}
use Rattle.ix_net.specs.declared.netlist.Bank.{Bank}
use Rattle.ix_net.proofs.NetLemmas.{slice_get_some}
use Rattle.ix_graph.specs.declared.role.Role.{Role}
use Rattle.ix_graph.specs.declared.role.Role.TheVariants.{Read, Compute, Write}
use Rattle.ix_graph.specs.Roles.{role_of}
use Rattle.ix_ports.specs.Ports.{input_name, last_from}
use Rattle.ix_mean.specs.GraphValues.{arg_raw, kind_value, MeansAs}
use Rattle.ix_sheet.specs.Behaviours.{latency_of}
use Rattle.ix_plan.specs.Service.{result_time}
use Rattle.ix_cells.specs.declared.signal.Signal.TheVariants.{Input, Register}
use Rattle.ix_cells.specs.declared.signal.Wire.{Wire}
use Rattle.ix_cells.specs.declared.operand.Operand.{Operand}
use Rattle.ix_netgen.specs.declared.kept.Kept.{Kept}
use Rattle.ix_cells.specs.Naming.{name_of, code}
use Rattle.ix_cells.specs.Operands.{wire_of}
use Rattle.ix_sheet.specs.Behaviours.{names_op}
use Rattle.ix_netgen.specs.Uses.{uses_until}
use Rattle.std.specs.List.{list_any}
use Rattle.std.proofs.lemmas.List.Folds.{list_any-from_Any}
use Rattle.ix_net.specs.Declarations.{Explains}
use Rattle.ix_cells.specs.Growth.{Adds, Extends}
use Rattle.ix_netgen.specs.Standing.{HasEnable, Timetable, Scene, Tells, IsSound, Keeps, IsHeld, Holds}
use Rattle.ix_netgen.specs.KeptWires.{AreOperands, IsInReach, IsArgReady, Supplies, MayHold, ResultsAs, IsKept, IsStage, IsTimed, IsMade}
use Rattle.ix_cells.proofs.Growing.{has_grows, explains_before, extends_on, extends_same}
use Rattle.ix_netgen.proofs.BankLemmas.{enable_grows, scene_before, adds_keeps, ascends_more, slice_get-left, slice_get-last}
use Rattle.ix_netgen.proofs.Supplied.{operands_grow, operand_wires, operand_types, held_grows}

write_role : (kind : Kind) → role_of kind ≡ Write → IsWrite kind
write_role RdInstr e = absurd (cc)
write_role RdRS1 e = absurd (cc)
write_role RdRS2 e = absurd (cc)
write_role RdPC e = absurd (cc)
write_role (RdCustReg register) e = absurd (cc)
write_role RdMem e = absurd (cc)
write_role WrRD e = tt
write_role WrPC e = tt
write_role (WrCustReg register) e = tt
write_role WrMem e = tt
write_role kind e = absurd (cc)

compute_latency : (s : Rattle.rv_core.specs.declared.Shape.Shape) (kind : Kind) → role_of kind ≡ Compute → latency_of s kind ≡ 0
compute_latency s RdMem e = absurd (cc)
compute_latency s kind e = refl

pub last_from-le : (rd : ℕ) (times : List ℕ) (k : ℕ) → k < length times → get_or times k 0 ≤ last_from rd times
last_from-le rd [] k l = absurd (omega arith)
last_from-le rd (t ∷ ts) zero l = omega arith
last_from-le rd (t ∷ ts) (suc k) l = (let h = last_from-le rd ts k (omega arith) in omega arith)

-- the values that operands show are those of the arguments
pub shown_raws :
    (p : Timetable) (net : Net) (t : ℕ) (args : List Arg) (os : List Operand) → AreOperands p net t args os → (terms : ℕ → ℕ) → Rattle.ix_mean.specs.GraphValues.IsMeaning p.graph terms
    → (value width : List ℕ → ℕ) → Explains net value width → Scene p net terms t value → map (λ (o : Operand). value (name_of o.signal)) os ≡ map (arg_raw terms) args
shown_raws p net t [] [] h terms means value width x scene = refl
shown_raws p net t [] (o ∷ os) h terms means value width x scene = absurd h
shown_raws p net t (a ∷ args) [] h terms means value width x scene = absurd h
shown_raws p net t (a ∷ args) (o ∷ os) h terms means value width x scene =
    let e = h.0.tells.shows terms means value width x scene in
    let r = shown_raws p net t args os h.1 terms means value width x scene in
    cc

-- an argument is used by then
used_by : (k : ℕ) (ops : List Op) (times : List ℕ) (i : ℕ) (op : Op) → i < length times → slice_get ops i ≡ Some op → Contains op.args (arg.Op k) → get_or times i 0 ≤ uses_until k ops times
used_by k [] times i op l h c = absurd (cc)
used_by k (x ∷ ops) [] i op l h c = absurd (omega arith)
used_by k (x ∷ ops) (t ∷ ts) zero op l h c =
    let same : op ≡ x = same_Some op x (sym h) in
    let P : Op → Type 0 = λ z. list_any (names_op k) z.args ≡ true in
    let yes_it_is : list_any (names_op k) x.args ≡ true = subst P same (list_any-from_Any (names_op k) op.args (c.0, arg.Op k, c.1, c.2, eq-eqb k k refl)) in
    rw yes_it_is (omega arith)
used_by k (x ∷ ops) (t ∷ ts) (suc i) op l h c = (let r = used_by k ops ts i op (omega arith) h c in omega arith)

use_within : (rd k : ℕ) (ops : List Op) (times : List ℕ) → uses_until k ops times ≤ last_from rd times
use_within rd k [] times = omega arith
use_within rd k (x ∷ ops) [] = omega arith
use_within rd k (x ∷ ops) (t ∷ ts) =
    let r = use_within rd k ops ts in
    let c : cond (list_any (names_op k) x.args) t 0 ≤ t = cond_both (list_any (names_op k) x.args) t 0 (λ n. n ≤ t) (λ e. omega arith) (λ e. omega arith) in
    omega arith

pub until_few : (p : Timetable) (last k : ℕ) → last ≡ last_from p.shape.rd p.times → last < 255 → uses_until k p.graph.ops p.times < 255
until_few p last k e l = (let r = use_within p.shape.rd k p.graph.ops p.times in omega arith)

module _ (p : Timetable) (last k : ℕ) (op : Op) (valid : IsValidGraph p.graph) (timed : IsTimed p) (is_last : last ≡ last_from p.shape.rd p.times) (at : slice_get p.graph.ops k ≡ Some op) where
  within : k < length p.graph.ops
  within = slice_get_within p.graph.ops k op at

  -- the last time at which the result is used
  abbrev until : ℕ
  until = uses_until k p.graph.ops p.times

  until_last : until ≤ last
  until_last = (let r = use_within p.shape.rd k p.graph.ops p.times in omega arith)

  from_rd : p.shape.rd ≤ get_or p.times k 0
  from_rd = timed.from_rd k 0 (omega (arith, within, timed.count))

  bounded : k < 2 ^ 64
  bounded = omega (arith, within, valid.few)

  ready_of : (net : Net) (kept : List Kept) → IsStage p last k net kept → (a : Arg) → Contains op.args a → IsArgument p.graph.ops k a → IsArgReady p net kept (get_or p.times k 0) a
  ready_of net kept stage (arg.Const ty bits) c h = h
  ready_of net kept stage (arg.Op j) c h =
      let x = slice_get_some p.graph.ops j (omega (arith, h.0, within)) in
      let w = slice_get_some kept j (omega (arith, h.0, stage.count)) in
      let r : IsKept p last net j x.0 w.0 = stage.right j x.0 w.0 x.1 w.1 in
      let P : Option Op → Type 0 = λ o. IfSome o (λ z. IsWrite z.kind → ⊥) in
      let reads : IsWrite x.0.kind → ⊥ = subst P x.1 h.1 in
      let early : w.0.from ≤ get_or p.times k 0 = (let e = timed.edges k j op x.0 at c x.1 in let f = r.from in omega arith) in
      (x.0, w.0, x.1, w.1, early, r.held (λ e. reads (write_role x.0.kind e)) (get_or p.times k 0) early (used_by j p.graph.ops p.times k op (omega (arith, within, timed.count)) at c))

  pub args_ready : (net : Net) (kept : List Kept) → IsStage p last k net kept → All (IsArgReady p net kept (get_or p.times k 0)) op.args
  args_ready net kept stage i d l =
      ready_of net kept stage (get_or op.args i d) (i, l, get_or_default op.args i (get_or op.args i d) d l) ((valid.ops k op at).arguments i d l)

  reach_of : (net : Net) (kept : List Kept) (t : ℕ) (a : Arg) → IsArgReady p net kept t a → IsInReach p.graph.ops kept t a
  reach_of net kept t (arg.Const ty bits) h = tt
  reach_of net kept t (arg.Op j) h = (h.0, h.1, h.2, h.3, h.4, slice_get_within h.1.wires.items (t - h.1.from) h.5.wire h.5.at)

  pub args_in_reach : (net : Net) (kept : List Kept) → IsStage p last k net kept → All (IsInReach p.graph.ops kept (get_or p.times k 0)) op.args
  args_in_reach net kept stage i d l = reach_of net kept (get_or p.times k 0) (get_or op.args i d) (args_ready net kept stage i d l)

  -- a wire that shows the result is held
  record IsDone (mid new : Net) (from width : ℕ) (ws : List Wire) : Type 0 where
    extends : Extends mid new
    sound : IsSound p (code (Register (k + 1) 0)) new
    held : (t : ℕ) → from ≤ t → t ≤ until → IsHeld p new k from t width ws

  module _ (few : last < 255) (mid new : Net) (w : Wire) (from : ℕ) (ws : List Wire) (rd : p.shape.rd ≤ from) (enables : (t : ℕ) → p.shape.rd ≤ t → t < last → HasEnable mid t)
      (told : Tells p mid from w (λ terms. terms k)) (sound : IsSound p (code (Register k 0)) mid)
    where
      wider : (hi : ℕ) (net : Net) → IsSound p hi net → hi ≤ code (Register (k + 1) 0) → IsSound p (code (Register (k + 1) 0)) net
      wider hi net s l = record {
        nodes = s.nodes;
        banks = s.banks;
        bank_names = ascends_more (code (Register 0 0)) hi (code (Register (k + 1) 0)) (map (λ (b : Bank). b.target) net.banks) s.bank_names l;
        no_outputs = s.no_outputs;
      }

      done : MayHold k w from until mid new ws → IsDone mid new from w.width ws
      unfolding code
      done m =
          let u = until_last in
          ⊎_elim
          (λ (past : until < from). (let e : new ≡ mid = m.past past in
          let D : Net → Type 0 = λ n. IsDone mid n from w.width ws in
          let d : IsDone mid mid from w.width ws =
          record { extends = extends_same mid; sound = wider (code (Register k 0)) mid sound (omega arith); held = λ t a b. absurd (omega arith) } in
          subst D (sym e) d))
          (λ (some : from ≤ until). (let h : Holds k w from until mid new ws = m.holds some in
          let r = h.held p (code (Register k 0)) rd bounded (omega arith) (λ t a b. enables t (omega arith) (omega arith)) told sound (omega arith) in
          let d : IsDone mid new from w.width ws = record { extends = h.extends; sound = wider (code (Register k until) + 1) new r.0 (omega arith); held = r.1 } in d))
          (cases_lt until from)

  module _ (few : last < 255) (old mid : Net) (kept : List Kept) (os : List Operand) (stage : IsStage p last k old kept) (supplied : Supplies p.graph.ops kept (get_or p.times k 0) op.args old mid os) where
    supply : Keeps p old mid × AreOperands p mid (get_or p.times k 0) op.args os
    supply = supplied p (code (Register k 0)) refl stage.sound (args_ready old kept stage)

    enabled : (net : Net) → Extends mid net → (t : ℕ) → p.shape.rd ≤ t → t < last → HasEnable net t
    enabled net e t a b = enable_grows e t (enable_grows supply.0.extends t (stage.enables t a b))

    -- an input that carries the result
    read_tells : (from : ℕ) → role_of op.kind ≡ Read → from ≡ result_time p.shape p.times k op → Tells p mid from (record { signal = Input k; width = op.ty.width }) (λ terms. terms k)
    unfolding name_of
    read_tells from role e = record {
      wire = record { has = has_grows supply.0.extends (input_name k) op.ty.width (stage.reads k op at role); known = tt; bounded = bounded; wide = record { some = op.ty.some_width; most = op.ty.most_width } };
      shows = λ terms means value width x scene. scene.carried k op at role (sym e);
    }

    -- cells that make the result
    made_tells :
        (net : Net) (r : Wire) → role_of op.kind ≡ Compute
        → Adds (map wire_of os) mid net r op.ty.width (λ see. kind_value p.graph.tables op.kind (map (arg_type p.graph.ops) op.args) (map (λ (o : Operand). see o.signal) os) op.ty)
        → Tells p net (get_or p.times k 0) r (λ terms. terms k)
    made_tells net r role a =
        let sound = supply.0.sound (code (Register k 0)) stage.sound in
        let wires = operand_wires p mid (get_or p.times k 0) op.args os supply.1 in
        record {
          wire = (a.sound sound.nodes wires).1;
          shows = λ terms means value width x scene.
              (let M : Role → Type 0 = λ z. MeansAs z p.graph terms k op in
              let meant = subst M role (means k op at) in
              let raws = shown_raws p mid (get_or p.times k 0) op.args os supply.1 terms means value width (explains_before a.extends value width x) (scene_before a.extends scene) in
              a.gives value width sound.nodes wires x ∙ ap (λ z. kind_value p.graph.tables op.kind (map (arg_type p.graph.ops) op.args) z op.ty) raws ∙ sym meant);
        }

    kept_of : (new : Net) (from : ℕ) (ws : List Wire) (o : Kept) → Extends mid new → o.from ≡ result_time p.shape p.times k op → o.operands.items ≡ os
        → (role_of op.kind ≢ Write → (t : ℕ) → o.from ≤ t → t ≤ until → IsHeld p new k o.from t op.ty.width o.wires.items) → IsSound p (code (Register (k + 1) 0)) new → IsMade p last k old new o
    kept_of new from ws o e f same held sound =
        let O : List Operand → Type 0 = λ z. AreOperands p new (get_or p.times k 0) op.args z in
        let right : IsKept p last new k op o = record { from = f; held = held; operands = subst O (sym same) (operands_grow p e (get_or p.times k 0) op.args os supply.1) } in
        let K : Op → Type 0 = λ z. IsKept p last new k z o in
        record { extends = extends_on supply.0.extends e; sound = sound; right = λ z h. subst K (same_Some op z (sym at ∙ h)) right }

    made_as :
        (role : Role) (new : Net) (o : Kept) → role_of op.kind ≡ role → o.from ≡ get_or p.times k 0 + latency_of p.shape op.kind → o.operands.items ≡ os
        → ResultsAs role p.graph op k os o.from until mid new o.wires.items → IsMade p last k old new o
    unfolding code
    made_as Write new o e f same h =
        let sound = supply.0.sound (code (Register k 0)) stage.sound in
        let N : Net → Type 0 = λ n. IsMade p last k old n o in
        let wide : IsSound p (code (Register (k + 1) 0)) mid =
        record {
          nodes = sound.nodes;
          banks = sound.banks;
          bank_names = ascends_more (code (Register 0 0)) (code (Register k 0)) (code (Register (k + 1) 0)) (map (λ (b : Bank). b.target) mid.banks) sound.bank_names (omega arith);
          no_outputs = sound.no_outputs;
        } in
        subst N (sym h) (kept_of mid o.from o.wires.items o (extends_same mid) f same (λ n. absurd (n e)) wide)
    made_as Read new o e f same h =
        let sound = supply.0.sound (code (Register k 0)) stage.sound in
        let rd : p.shape.rd ≤ o.from = (let b = from_rd in omega arith) in
        let d = done few mid new (record { signal = Input k; width = op.ty.width }) o.from o.wires.items rd (enabled mid (extends_same mid)) (read_tells o.from e f) sound h in
        kept_of new o.from o.wires.items o d.extends f same (λ n. d.held) d.sound
    made_as Compute new o e f same h =
        let sound = supply.0.sound (code (Register k 0)) stage.sound in
        let net : Net = h.0 in
        let r : Wire = h.1 in
        let keeps : Keeps p mid net = adds_keeps (operand_wires p mid (get_or p.times k 0) op.args os supply.1) h.2 in
        let z = compute_latency p.shape op.kind e in
        let here : get_or p.times k 0 ≡ o.from = omega (arith, f, z) in
        let T : ℕ → Type 0 = λ t. Tells p net t r (λ terms. terms k) in
        let rd : p.shape.rd ≤ o.from = (let b = from_rd in omega arith) in
        let d = done few net new r o.from o.wires.items rd (enabled net keeps.extends) (subst T here (made_tells net r e h.2)) (keeps.sound (code (Register k 0)) sound) h.3 in
        let H : ℕ → Type 0 = λ w. (t : ℕ) → o.from ≤ t → t ≤ until → IsHeld p new k o.from t w o.wires.items in
        kept_of new o.from o.wires.items o (extends_on keeps.extends d.extends) f same (λ n. subst H h.2.wide d.held) d.sound

  pub operation_made :
      last < 255 → (old mid new : Net) (kept : List Kept) (os : List Operand) → IsStage p last k old kept → Supplies p.graph.ops kept (get_or p.times k 0) op.args old mid os
      → (o : Kept) → o.from ≡ get_or p.times k 0 + latency_of p.shape op.kind → o.operands.items ≡ os
      → ResultsAs (role_of op.kind) p.graph op k os o.from until mid new o.wires.items → IsMade p last k old new o
  operation_made few old mid new kept os stage supplied o f same h = made_as few old mid kept os stage supplied (role_of op.kind) new o refl f same h

  -- the types of the operands
  pub supplied_types :
      (old mid : Net) (kept : List Kept) (os : List Operand) → IsStage p last k old kept → Supplies p.graph.ops kept (get_or p.times k 0) op.args old mid os
      → map (λ (o : Operand). Some o.ty) os ≡ map (arg_type p.graph.ops) op.args
  supplied_types old mid kept os stage supplied = operand_types p mid (get_or p.times k 0) op.args os (supplied p (code (Register k 0)) refl stage.sound (args_ready old kept stage)).1

-- from stage to stage
pub stage_next :
    (p : Timetable) (last k : ℕ) (old new : Net) (kept : List Kept) (w : Kept) → IsStage p last k old kept → IsMade p last k old new w → IsStage p last (k + 1) new (kept ++ w ∷ [])
stage_next p last k old new kept w s m = record {
  sound = m.sound;
  enables = λ t a b. enable_grows m.extends t (s.enables t a b);
  reads = λ j op h e. has_grows m.extends (input_name j) op.ty.width (s.reads j op h e);
  count = (let e = length_push kept w in omega (arith, s.count));
  right = λ j op x h g.
      ⊎_elim
      (λ (before : j < k). (let y = slice_get_some kept j (omega (arith, s.count)) in
      let same : x ≡ y.0 = same_Some x y.0 (sym g ∙ slice_get-left kept (w ∷ []) j y.0 y.1) in
      let K : Kept → Type 0 = λ z. IsKept p last new j op z in
      subst K (sym same) (kept_grows m.extends (s.right j op y.0 h y.1))))
      (λ (here : k ≤ j). (let l = slice_get_within (kept ++ w ∷ []) j x g in
      let e = length_push kept w in
      let at : j ≡ k = omega (arith, s.count) in
      let i : length kept ≡ j = omega (arith, s.count) in
      let same : w ≡ x = same_Some w x (sym (slice_get-last kept w) ∙ ap (slice_get (kept ++ w ∷ [])) i ∙ g) in
      let K : Kept → Type 0 = λ z. IsKept p last new j op z in
      let J : ℕ → Type 0 = λ i. IsKept p last new i op w in
      let O : ℕ → Type 0 = λ i. slice_get p.graph.ops i ≡ Some op in
      subst K same (subst J (sym at) (m.right op (subst O at h)))))
      (cases_lt j k);
}
  where
    kept_grows : {n0 n1 : Net} {i : ℕ} {op : Op} {x : Kept} → Extends n0 n1 → IsKept p last n0 i op x → IsKept p last n1 i op x
    kept_grows {n0} {n1} {i} {op} {x} e r = record { from = r.from; held = λ n t a b. held_grows e (r.held n t a b); operands = operands_grow p e (get_or p.times i 0) op.args x.operands.items r.operands }
