-- The inputs of a behaviour's module.
use Rattle.std.proofs.Common.{◌≡◌, ℕ, ◌+◌, ◌-◌, ◌<◌, ◌≤◌, suc, List, [], ◌∷◌, ◌++◌, map, arith, ap, sym, ◌∙◌}
use Rattle.std.specs.List.{range_with_len}
use Rattle.std.proofs.lemmas.List.{append_assoc}
use Rattle.ix_net.specs.declared.netlist.Port.{Port}
use Rattle.ix_ports.specs.Ports.{last_from, enable_port}

pub rd_le_last : (rd : ℕ) (ts : List ℕ) → rd ≤ last_from rd ts
rd_le_last rd [] = omega arith
rd_le_last rd (t ∷ ts) = (let h = rd_le_last rd ts in omega arith)

pub enables_next :
    (xs ys e : List Port) (t last : ℕ) → t < last → ys ≡ xs ++ enable_port t ∷ [] → xs ++ map enable_port (range_with_len t (last - t)) ≡ e
    → ys ++ map enable_port (range_with_len (t + 1) (last - (t + 1))) ≡ e
enables_next xs ys e t last l h prev =
    let n : last - t ≡ suc (last - (t + 1)) = omega arith in
    ap (λ z. z ++ map enable_port (range_with_len (t + 1) (last - (t + 1)))) h
    ∙ append_assoc xs (enable_port t ∷ []) (map enable_port (range_with_len (t + 1) (last - (t + 1))))
    ∙ ap (λ z. xs ++ map enable_port (range_with_len t z)) (sym n) ∙ prev
