-- What an instruction sees of a state is in the range of its types, and its graph has values there.
use Rattle.std.proofs.Common.{◌≡◌, ap, subst, ℕ, zero, suc, ◌+◌, ◌^◌, ◌<◌, arith, List, [], ◌∷◌, map, get_or, Some}
use Rattle.std.specs.Prelude.{slice_get, IfSome}
use Rattle.std.proofs.lemmas.Nat.{pow_pos}
use Rattle.ix_bits.specs.declared.number.Ty.{Ty}
use Rattle.ix_bits.specs.declared.number.Bits.{Bits}
use Rattle.ix_graph.specs.declared.kind.Kind.TheVariants as k
use Rattle.ix_graph.specs.declared.graph.Op.{Op}
use Rattle.ix_graph.specs.declared.graph.Graph.{Graph}
use Rattle.ix_extension.specs.Extensions.{ExtensionTree}
use Rattle.ix_extension.specs.WellFormed.{IsOf}
use Rattle.ix_tree.specs.TypedTrees.{TypedTextTree}
use Rattle.ix_mean.specs.declared.evaluate.State.{State}
use Rattle.ix_mean.specs.Core.{u1, u32}
use Rattle.ix_mean.specs.Given.{HasWidths, inputs_of, raw_seen}
use Rattle.ix_mean.specs.Typing.{AreInputs}
use Rattle.ix_behaviour.specs.declared.which.Which.{Which}
use Rattle.ix_behaviour.specs.declared.which.Which.TheVariants as W
use Rattle.ix_behaviour.specs.Behaviours.{HasBehaviour, stored_type, type_of_register, statement_at, targets_at}
use Rattle.ix_graph_laws.specs.Laws.{ValidLaw, GraphEffectLaw, ValuesLaw}
use Rattle.ix_graph_laws.specs.Operations.{IsGraphOf}
use Rattle.ix_plan.specs.declared.design.Plan.{Plan}
use Rattle.ix_sheet.specs.declared.sheet.Sheet.{Sheet}
use Rattle.ix_standing.specs.Standing.{IsPlanned}
use Rattle.rv_seq.specs.Memory.{peeked}
use Rattle.rv_seq.specs.WordEffects.{AreWide}
use Rattle.rv_isa.specs.Fields.{rs1_of, rs2_of}
use Rattle.rv_seq.specs.States.{state_at, inputs_at}
use Rattle.rv_engine.specs.Settings.{Setting, tree_of}
use Rattle.rv_machine.specs.Placed.{run, IsReady}
use Rattle.rv_machine.proofs.ReadsAsked.{ReadsCustoms}
use Rattle.rv_machine.proofs.ReadsLoad.{OneLoad}

-- the laws of graphs that all rests on
pub record GraphLaws : Type 0 where
  pub valid : ValidLaw
  pub effect : GraphEffectLaw
  pub values : ValuesLaw
  -- a behaviour's graph has at most one load
  pub alone : (t : TypedTextTree) (x : ExtensionTree) (w : Which) (g : Graph) → IsOf t x → HasBehaviour x w → IsGraphOf x w g → OneLoad g
  -- and that of a block reads no operand and no memory
  pub blocks : (t : TypedTextTree) (x : ExtensionTree) (n : ℕ) (g : Graph) → IsOf t x → HasBehaviour x (W.Block n) → IsGraphOf x (W.Block n) g → (j : ℕ) (op : Op) → slice_get g.ops j ≡ Some op → ReadsCustoms op.kind

pub graph_of : (x : ExtensionTree) (sheet : Sheet) (w : Which) (p : Plan) → IsPlanned x sheet w p → IsGraphOf x w p.graph
graph_of x sheet w p h = record { ops = h.graph.ops; few = h.graph.few; flags = h.graph.flags; tables_are = h.graph.tables_are }

-- ---- what is seen is in range

custom_below : (xs : List Bits) (r w : ℕ) → IfSome (slice_get xs r) (λ b. b.width ≡ w) → get_or (map raw_seen xs) r 0 < 2 ^ w
custom_below [] r w h = pow_pos w
custom_below (x ∷ xs) zero w h = subst (λ (n : ℕ). x.raw < 2 ^ n) h x.in_width
custom_below (x ∷ xs) (suc r) w h = custom_below xs r w h

word_below : (word : ℕ) (ty : Ty) → word < 2 ^ 32 → ty.width ≡ 32 → word < 2 ^ ty.width
word_below word ty h e = rw e h

fits : (s : State) (types : List Ty) (m : ℕ → ℕ → ℕ) → s.word < 2 ^ 32 → s.rs1 < 2 ^ 32 → s.rs2 < 2 ^ 32 → s.pc < 2 ^ 32 → HasWidths types s.custom → AreInputs types (inputs_of s m)
fits s types m a b c d h k.RdInstr ty t = word_below s.word ty a (ap (λ (u : Ty). u.width) t)
fits s types m a b c d h k.RdRS1 ty t = word_below s.rs1 ty b (ap (λ (u : Ty). u.width) t)
fits s types m a b c d h k.RdRS2 ty t = word_below s.rs2 ty c (ap (λ (u : Ty). u.width) t)
fits s types m a b c d h k.RdPC ty t = word_below s.pc ty d (ap (λ (u : Ty). u.width) t)
fits s types m a b c d h (k.RdCustReg r) ty t = rw t.1 (custom_below s.custom r (get_or types (3 + r) u1).width (h.widths r))
fits s types m a b c d h _ ty t = absurd t

behind_three : (a b c : Ty) (ts : List Ty) (r : ℕ) → get_or ts r u1 ≡ get_or (a ∷ b ∷ c ∷ ts) (3 + r) u1
behind_three a b c ts r = let e : suc (suc (suc r)) ≡ 3 + r = omega arith in ap (λ (n : ℕ). get_or (a ∷ b ∷ c ∷ ts) n u1) e

wide_targets : (x : ExtensionTree) (w : Which) (custom : List Bits) → AreWide x custom → HasWidths (targets_at x w) custom
wide_targets x w custom h =
    record {
      widths = λ r.
          subst (λ (ty : Ty). IfSome (slice_get custom r) (λ b. b.width ≡ ty.width))
          (behind_three (stored_type (statement_at x w)) u32 u32 (map type_of_register x.registers) r) (h.widths r);
    }

-- what the instruction of a word sees at a place of the run
pub run_inputs : (s : Setting) → IsReady s → (w : Which) (word q : ℕ) → word < 2 ^ 32 → AreInputs (targets_at (tree_of s) w) (inputs_at word (run s q))
run_inputs s ready w word q few =
    fits (state_at word (run s q)) (targets_at (tree_of s) w) (peeked (run s q).mem) few (ready.words q (rs1_of word)) (ready.words q (rs2_of word)) (ready.pcs q)
    (wide_targets (tree_of s) w (run s q).custom (ready.wide q))
