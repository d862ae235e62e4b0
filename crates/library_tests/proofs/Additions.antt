-- The graph of an addition of two operands is valid: what the tests run on.
use Rattle.std.proofs.Common.{◌≡◌, ℕ, zero, suc, ◌∙◌, Bool, true, false, List, [], ◌∷◌, Some, None, slice_get, refl, sym, subst, arith, ◌⊎◌, inl, inr}
use Rattle.std.specs.Prelude.{All, IfSome}
use Rattle.std.proofs.lemmas.List.Elements.{All-nil, All-cons}
use Rattle.ix_bits.specs.declared.number.Ty.{Ty}
use Rattle.ix_bits.specs.declared.number.Bits.{Bits}
use Rattle.ix_graph.specs.declared.kind.Kind.TheVariants.{RdRS1, RdRS2, Add, Cast, WrRD}
use Rattle.ix_graph.specs.declared.args.Arg.TheVariants as arg
use Rattle.ix_graph.specs.declared.graph.Op.{Op}
use Rattle.ix_graph.specs.declared.graph.Graph.{Graph}
use Rattle.ix_graph.specs.Graphs.{IsArgument, IsUnsigned, IsBinaryResult, IsValidOp, IsFlagOf, HasOneWidth, IsValidGraph}
use Rattle.ix_bits.specs.ResultTypes.{common_width}
use Rattle.ix_bits.specs.declared.operator.BinOp.TheVariants as binary
use Rattle.std.proofs.lemmas.Option.{slice_get_past}

module _ (first second sum word bit flag : Ty) (set : Bits) where
  abbrev pub ops_of : List Op
  ops_of =
      record { kind = RdRS1; args = []; ty = first }
      ∷ record { kind = RdRS2; args = []; ty = second }
      ∷ record { kind = Add; args = arg.Op 0 ∷ arg.Op 1 ∷ []; ty = sum }
      ∷ record { kind = Cast; args = arg.Op 2 ∷ []; ty = word }
      ∷ record { kind = WrRD; args = arg.Op 3 ∷ arg.Const flag set ∷ []; ty = bit }
      ∷ []

  abbrev pub graph_of : Graph
  graph_of = record { ops = ops_of; spawned = false ∷ false ∷ false ∷ false ∷ false ∷ []; tables = [] }

  some_same : (a b : Op) → Some a ≡ Some b → a ≡ b
  some_same a b e = cc

  none_some : (b : Op) → None ≡ Some b → ⊥
  none_some b e = cc

  no_write : (k : ℕ) (flag : Bool) (op : Op) → flag ≡ false → IsFlagOf op flag
  no_write k flag op e t = absurd (let clash : false ≡ true = sym e ∙ t in cc)

  none_at : (k : ℕ) → slice_get ops_of (suc (suc (suc (suc (suc k))))) ≡ None
  none_at k = slice_get_past ops_of (suc (suc (suc (suc (suc k))))) (omega arith)

  module _ (fs : first.signed ≡ false) (fw : first.width ≡ 32) (es : second.signed ≡ false) (ew : second.width ≡ 32)
      (ws : word.signed ≡ false) (ww : word.width ≡ 32) (ss : sum.signed ≡ false) (sw : sum.width ≡ 33) (bs : bit.signed ≡ false) (bw : bit.width ≡ 1)
      (gs : flag.signed ≡ false) (gw : flag.width ≡ 1) (cw : set.width ≡ 1) where
    is_word : IsUnsigned 32 word
    is_word = record { unsigned = ws; wide = ww }

    is_bit : IsUnsigned 1 bit
    is_bit = record { unsigned = bs; wide = bw }

    common : common_width first second ≡ 32
    common = rw (fs, fw, es, ew) refl

    is_sum : IsBinaryResult binary.Add first second sum
    is_sum = record {
      exists = record { unmixed = refl; narrow = omega (arith, common) };
      signed = rw (fs, es, ss) refl;
      width = sw ∙ rw (common) refl;
    }

    reads : (k : ℕ) (op : Op) → (op.kind ≡ RdRS1) ⊎ (op.kind ≡ RdRS2) → op.args ≡ [] → IsUnsigned 32 op.ty → IsValidOp graph_of k op
    reads k op (inl kind) args ty = record { arguments = subst (All (IsArgument ops_of k)) (sym args) (All-nil (IsArgument ops_of k)); typed = rw kind (args, ty) }
    reads k op (inr kind) args ty = record { arguments = subst (All (IsArgument ops_of k)) (sym args) (All-nil (IsArgument ops_of k)); typed = rw kind (args, ty) }

    adds : IsValidOp graph_of 2 (record { kind = Add; args = arg.Op 0 ∷ arg.Op 1 ∷ []; ty = sum })
    adds = record {
      arguments = All-cons (IsArgument ops_of 2) (arg.Op 0) (arg.Op 1 ∷ []) (omega arith, λ w. w)
          (All-cons (IsArgument ops_of 2) (arg.Op 1) [] (omega arith, λ w. w) (All-nil (IsArgument ops_of 2)));
      typed = (first, second, refl, is_sum);
    }

    casts : IsValidOp graph_of 3 (record { kind = Cast; args = arg.Op 2 ∷ []; ty = word })
    casts = record {
      arguments = All-cons (IsArgument ops_of 3) (arg.Op 2) [] (omega arith, λ w. w) (All-nil (IsArgument ops_of 3));
      typed = (sum, refl, tt);
    }

    writes : IsValidOp graph_of 4 (record { kind = WrRD; args = arg.Op 3 ∷ arg.Const flag set ∷ []; ty = bit })
    writes = record {
      arguments = All-cons (IsArgument ops_of 4) (arg.Op 3) (arg.Const flag set ∷ []) (omega arith, λ w. w)
          (All-cons (IsArgument ops_of 4) (arg.Const flag set) [] (cw ∙ sym gw) (All-nil (IsArgument ops_of 4)));
      typed = ((word, flag, refl, (is_word, record { unsigned = gs; wide = gw })), is_bit);
    }

    valid_ops : (k : ℕ) (op : Op) → slice_get ops_of k ≡ Some op → IsValidOp graph_of k op
    valid_ops zero op e = let same = some_same _ op e in subst (IsValidOp graph_of 0) same (reads 0 _ (inl refl) refl (record { unsigned = fs; wide = fw }))
    valid_ops (suc zero) op e = let same = some_same _ op e in subst (IsValidOp graph_of 1) same (reads 1 _ (inr refl) refl (record { unsigned = es; wide = ew }))
    valid_ops (suc (suc zero)) op e = let same = some_same _ op e in subst (IsValidOp graph_of 2) same adds
    valid_ops (suc (suc (suc zero))) op e = let same = some_same _ op e in subst (IsValidOp graph_of 3) same casts
    valid_ops (suc (suc (suc (suc zero)))) op e = let same = some_same _ op e in subst (IsValidOp graph_of 4) same writes
    valid_ops (suc (suc (suc (suc (suc k))))) op e = absurd (none_some op (sym (none_at k) ∙ e))

    unspawned : (k : ℕ) (op : Op) → slice_get ops_of k ≡ Some op → IfSome (slice_get graph_of.spawned k) (IsFlagOf op)
    unspawned zero op e = no_write 0 false op refl
    unspawned (suc zero) op e = no_write 1 false op refl
    unspawned (suc (suc zero)) op e = no_write 2 false op refl
    unspawned (suc (suc (suc zero))) op e = no_write 3 false op refl
    unspawned (suc (suc (suc (suc zero)))) op e = no_write 4 false op refl
    unspawned (suc (suc (suc (suc (suc k))))) op e = absurd (none_some op (sym (none_at k) ∙ e))

    pub addition_is_valid : IsValidGraph graph_of
    addition_is_valid = record { few = omega arith; flags = refl; ops = valid_ops; spawned = unspawned; tables = All-nil HasOneWidth }
