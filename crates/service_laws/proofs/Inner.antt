-- A net that names an inner cell like an enable loses the output of a token that is held.
use Rattle.std.proofs.Common.{◌≡◌, ℕ, zero, suc, ◌+◌, ◌<◌, ◌^◌, List, [], ◌∷◌, Some, length, get_or, arith, refl, ap, sym, ◌∙◌, subst, All}
use Rattle.std.specs.Prelude.{slice_get, codes}
use Rattle.std.specs.Fmt.{digits}
use Rattle.rv_core.specs.declared.Shape.{Shape}
use Rattle.ix_bits.specs.declared.number.Bits.{Bits}
use Rattle.ix_bits.specs.declared.number.Ty.{Ty}
use Rattle.ix_graph.specs.declared.args.Arg.{Arg}
use Rattle.ix_graph.specs.declared.args.Arg.TheVariants.{Const}
use Rattle.ix_graph.specs.declared.graph.Op.{Op}
use Rattle.ix_graph.specs.declared.graph.Graph.{Graph}
use Rattle.ix_graph.specs.declared.kind.Kind.{Kind}
use Rattle.ix_graph.specs.declared.kind.Kind.TheVariants.{WrRD}
use Rattle.ix_graph.specs.declared.role.Role.{Role}
use Rattle.ix_graph.specs.declared.role.Role.TheVariants.{Read, Write}
use Rattle.ix_graph.specs.Roles.{role_of}
use Rattle.ix_mean.specs.GraphValues.{IsMeaning, MeansAs}
use Rattle.ix_net.specs.declared.netlist.Cell.{Cell}
use Rattle.ix_net.specs.Valuation.{IsValuation, value_of, right_side}
use Rattle.ix_net.specs.Run.{IsRun, cycle_at}
use Rattle.ix_ports.specs.declared.letter.Letter.TheVariants.{Condition}
use Rattle.ix_ports.specs.Ports.{letters_of}
use Rattle.ix_plan.specs.Service.{Moves, IsLife, Carries, Serves}
use Rattle.service_laws.specs.InnerEnable.{inner_net, InnerEnableLaw}

module _ (shape : Shape) (g : Graph) (op : Op) (one number : Bits) (tv tc : Ty) (rd : shape.rd ≡ 1) (ops : g.ops ≡ op ∷ []) (kind : op.kind ≡ WrRD) (args : op.args ≡ Const tv number ∷ Const tc one ∷ []) (is_one : one.raw ≡ 1) (wide : number.width ≡ 32) where
  -- the one operation is a write
  only : (k : ℕ) (o : Op) → slice_get g.ops k ≡ Some o → role_of o.kind ≡ Write
  only k o e = at k (ap (λ (l : List Op). slice_get l k) (sym ops) ∙ e) where
    at : (k : ℕ) → slice_get (op ∷ []) k ≡ Some o → role_of o.kind ≡ Write
    at zero q = let same : op ≡ o = cc in ap (λ (p : Op). role_of p.kind) (sym same) ∙ ap role_of kind
    at (suc k) q = cc

  means : IsMeaning g (λ k. 0)
  means k o e = subst (λ (r : Role). MeansAs r g (λ k. 0) k o) (sym (only k o e)) tt

  never : (t : ℕ) (values : List ℕ) → Carries shape g (2 ∷ []) (inner_net one number) (λ k. 0) t values
  never t values k o e read time = absurd (apart (sym (only k o e) ∙ read)) where
    apart : Write ≡ Read → ⊥
    apart q = cc

  -- a token comes, goes to time 2, and is held there
  abbrev cycles : List (List ℕ)
  cycles = (1 ∷ 1 ∷ number.raw ∷ 0 ∷ 0 ∷ []) ∷ (0 ∷ 1 ∷ number.raw ∷ 1 ∷ 1 ∷ []) ∷ (0 ∷ 1 ∷ number.raw ∷ 0 ∷ 0 ∷ []) ∷ []

  fits : number.raw < 2 ^ 32
  fits = subst (λ w. number.raw < 2 ^ w) wide number.in_width

  values : (en came : ℕ) → en < 2 ^ 1 → came < 2 ^ 1 → IsValuation (inner_net one number) (en ∷ 1 ∷ number.raw ∷ came ∷ came ∷ [])
  values en came a b = record { fit = (a, (omega arith, (fits, (b, (b, tt))))); holds = holds } where
    holds : All (λ (c : Cell). value_of (inner_net one number) (en ∷ 1 ∷ number.raw ∷ came ∷ came ∷ []) c.target ≡ right_side (inner_net one number) (en ∷ 1 ∷ number.raw ∷ came ∷ came ∷ []) c) (inner_net one number).cells
    holds zero d l = sym is_one
    holds (suc zero) d l = refl
    holds (suc (suc zero)) d l = refl
    holds (suc (suc (suc k))) d l = absurd (omega (arith, l))

  run : IsRun (inner_net one number) cycles
  run = (values 1 0 (omega arith) (omega arith), refl, (values 0 1 (omega arith) (omega arith), refl, (values 0 0 (omega arith) (omega arith), refl, tt)))

  abbrev life : List ℕ
  life = 1 ∷ 2 ∷ 2 ∷ []

  lives : IsLife (inner_net one number) shape.rd cycles 0 life
  unfolding digits
  lives = record { within = omega arith; starts = sym rd; moves = moves } where
    zero_one : ◌≡◌ {A = ℕ} 0 1 → ⊥
    zero_one q = omega (arith, q)

    moves : (k : ℕ) → k + 1 < length life → Moves (inner_net one number) shape.rd (cycle_at cycles (0 + k)) (get_or life k 0) (get_or life (k + 1) 0)
    moves zero l = record { goes = λ e. refl; stays = λ ne. absurd (ne refl); alone = λ ne lt. absurd (ne refl) }
    moves (suc zero) l = record { goes = λ e. absurd (zero_one e); stays = λ ne. refl; alone = λ ne lt e. zero_one e }
    moves (suc (suc k)) l = absurd (omega (arith, l))

  lost : Serves shape (codes "a") g (2 ∷ []) (inner_net one number) → ⊥
  unfolding digits
  lost s = omega (arith, gone, is_one) where
    gone : ◌≡◌ {A = ℕ} 0 one.raw
    gone =
        s.shows (λ k. 0) means cycles run 0 life lives 2 (omega arith) (λ m l ne. never (get_or life m 0) (cycle_at cycles (0 + m))) (never (get_or life 2 0) (cycle_at cycles (0 + 2)))
        0 op (ap (λ (l : List Op). slice_get l 0) ops) refl 1 Condition (Const tc one) (ap (λ (k : Kind). slice_get (letters_of k) 1) kind) (ap (λ (l : List Arg). slice_get l 1) args)

pub inner_enable : InnerEnableLaw
inner_enable shape g op one number tv tc rd ops kind args is_one wide s = lost shape g op one number tv tc rd ops kind args is_one wide s
