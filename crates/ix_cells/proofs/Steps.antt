-- One addition after another: two wires and then a cell of both.
use Rattle.std.proofs.Common.{◌≡◌, ℕ, List, [], ◌∷◌, ap, ◌∙◌}
use Rattle.ix_net.specs.declared.netlist.Net.{Net}
use Rattle.ix_cells.specs.declared.signal.Signal.{Signal}
use Rattle.ix_cells.specs.declared.signal.Wire.{Wire}
use Rattle.ix_cells.specs.Growth.{IsWire, AreWires, AreNodes, AreSeen, Adds, seen}
use Rattle.ix_cells.specs.Pairs.{AddsPair}
use Rattle.ix_cells.proofs.Growing.{extends_on, wire_grows, explains_before, seen_from}

-- one wire from one operand, and another from another
pub pair_of :
    {n0 n1 n2 : Net} {a b x y : Wire} {w : ℕ} {f g : (Signal → ℕ) → ℕ}
    → Adds (a ∷ []) n0 n1 x w f → Adds (b ∷ []) n1 n2 y w g → AddsPair (a ∷ b ∷ []) n0 n2 x y w f g
pair_of {n0} {n1} {n2} {a} {b} {x} {y} {w} {f} {g} xa xb = record {
  extends = extends_on xa.extends xb.extends;
  same_banks = xb.same_banks ∙ xa.same_banks;
  same_outputs = xb.same_outputs ∙ xa.same_outputs;
  left_wide = xa.wide;
  right_wide = xb.wide;
  nodes = λ n h. (second n h).0;
  left = λ n h. wire_grows xb.extends x (xa.sound n (h.0, tt)).1;
  right = λ n h. (second n h).1;
  left_gives = λ value wide n h e. xa.gives value wide n (h.0, tt) (explains_before xb.extends value wide e);
  right_gives = λ value wide n h e. xb.gives value wide (xa.sound n (h.0, tt)).0 (wire_grows xa.extends b h.1.0, tt) e;
}
  where
    second : AreNodes n0 0 n0.cells → AreWires n0 (a ∷ b ∷ []) → AreNodes n2 0 n2.cells × IsWire n2 y
    second n h = xb.sound (xa.sound n (h.0, tt)).0 (wire_grows xa.extends b h.1.0, tt)

-- an addition after a pair
pub pair_then :
    {needs pn nb : List Wire} {n0 n1 n2 : Net} {x y r : Wire} {w v : ℕ} {f g h k : (Signal → ℕ) → ℕ}
    → AddsPair pn n0 n1 x y w f g → Adds nb n1 n2 r v h
    → (AreWires n0 needs → AreWires n0 pn)
    → (AreWires n0 needs → ((u : Wire) → IsWire n0 u → IsWire n1 u) → IsWire n1 x → IsWire n1 y → AreWires n1 nb)
    → ((see : Signal → ℕ) → AreSeen see needs → see x.signal ≡ f see → see y.signal ≡ g see → h see ≡ k see)
    → Adds needs n0 n2 r v k
pair_then {needs} {pn} {nb} {n0} {n1} {n2} {x} {y} {r} {w} {v} {f} {g} {h} {k} p q first second same = record {
  extends = extends_on p.extends q.extends;
  same_banks = q.same_banks ∙ p.same_banks;
  same_outputs = q.same_outputs ∙ p.same_outputs;
  wide = q.wide;
  sound = λ n t. q.sound (p.nodes n (first t)) (ready n t);
  gives = λ value wide n t e.
      (let before = explains_before q.extends value wide e in
      let here = seen_from value wide (explains_before p.extends value wide before) needs t in
      q.gives value wide (p.nodes n (first t)) (ready n t) e
      ∙ same (seen value) here (p.left_gives value wide n (first t) before) (p.right_gives value wide n (first t) before));
}
  where
    ready : AreNodes n0 0 n0.cells → AreWires n0 needs → AreWires n1 nb
    ready n t = second t (wire_grows p.extends) (p.left n (first t)) (p.right n (first t))

-- a cell of both wires of a pair
pub two_then :
    {n0 n1 n2 : Net} {a b x y r : Wire} {w v : ℕ} {f g k : (Signal → ℕ) → ℕ} (m : ℕ → ℕ → ℕ)
    → AddsPair (a ∷ b ∷ []) n0 n1 x y w f g → Adds (x ∷ y ∷ []) n1 n2 r v (λ see. m (see x.signal) (see y.signal))
    → ((see : Signal → ℕ) → AreSeen see (a ∷ b ∷ []) → m (f see) (g see) ≡ k see)
    → Adds (a ∷ b ∷ []) n0 n2 r v k
two_then {x = x} {y = y} {f = f} m p q same =
    pair_then p q (λ t. t) (λ t up l r. (l, (r, tt)))
    (λ see fit ex ey. ap (λ z. m z (see y.signal)) ex ∙ ap (m (f see)) ey ∙ same see fit)

-- two needs turned round
pub turned_round :
    {n0 n1 : Net} {a b r : Wire} {w : ℕ} {f g : (Signal → ℕ) → ℕ} → ((see : Signal → ℕ) → f see ≡ g see)
    → Adds (b ∷ a ∷ []) n0 n1 r w f → Adds (a ∷ b ∷ []) n0 n1 r w g
turned_round same p = record {
  extends = p.extends;
  same_banks = p.same_banks;
  same_outputs = p.same_outputs;
  wide = p.wide;
  sound = λ nodes t. p.sound nodes (t.1.0, (t.0, tt));
  gives = λ value wide nodes t x. p.gives value wide nodes (t.1.0, (t.0, tt)) x ∙ same (seen value);
}
