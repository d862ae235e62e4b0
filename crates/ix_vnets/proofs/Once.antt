-- A module has one net at most.
use Rattle.std.proofs.Common.{◌≡◌, List, [], ◌∷◌, refl, ap, sym, ◌∙◌}
use Rattle.std.specs.Prelude.{Contains}
use Rattle.std.specs.List.{AllZip}
use Rattle.ix_net.specs.declared.netlist.Port.{Port}
use Rattle.ix_net.specs.declared.netlist.Net.{Net}
use Rattle.ix_net.specs.declared.netlist.Cell.{Cell}
use Rattle.ix_net.specs.declared.netlist.Bank.{Bank}
use Rattle.ix_net.specs.Signals.{cell_port, bank_port}
use Rattle.ix_verilog.specs.declared.source.Source.{Source}
use Rattle.ix_verilog.specs.declared.source.Assign.{Assign}
use Rattle.ix_verilog.specs.declared.source.Update.{Update}
use Rattle.ix_verilog.specs.Subset.{declared}
use Rattle.ix_vnets.specs.Names.{AllOnce, said_in}
use Rattle.ix_vnets.specs.Finished.{IsFinished}
use Rattle.ix_vnets.specs.Nets.{IsCellOf, IsBankOf, IsMadeOf}
use Rattle.ix_vnets.proofs.One.{one_side}
use Rattle.ix_vnets.proofs.Bridging.{port_once, assigned_in, register_in, apart_of, form_is}

cell_same : (c d : Cell) → c.target ≡ d.target → c.width ≡ d.width → c.form ≡ d.form → c ≡ d
cell_same c d t w f =
    ap (λ x. let r : Cell = record { target = x; width = c.width; form = c.form } in r) t ∙ ap (λ x. let r : Cell = record { target = d.target; width = x; form = c.form } in r) w
    ∙ ap (λ x. let r : Cell = record { target = d.target; width = d.width; form = x } in r) f

abbrev to_update : Bank → Update
to_update b = record { enable = b.enable; target = b.target; source = b.source }

bank_same : (b d : Bank) → to_update b ≡ to_update d → b.width ≡ d.width → b ≡ d
bank_same b d u w =
    ap (λ (x : Update). let r : Bank = record { target = x.target; width = b.width; enable = x.enable; source = x.source } in r) u
    ∙ ap (λ x. let r : Bank = record { target = d.target; width = x; enable = d.enable; source = d.source } in r) w

net_same : (n m : Net) → n.name ≡ m.name → n.inputs ≡ m.inputs → n.cells ≡ m.cells → n.banks ≡ m.banks → n.outputs ≡ m.outputs → n ≡ m
net_same n m a b c d e =
    ap (λ x. let r : Net = record { name = x; inputs = n.inputs; cells = n.cells; banks = n.banks; outputs = n.outputs } in r) a
    ∙ ap (λ x. let r : Net = record { name = m.name; inputs = x; cells = n.cells; banks = n.banks; outputs = n.outputs } in r) b
    ∙ ap (λ x. let r : Net = record { name = m.name; inputs = m.inputs; cells = x; banks = n.banks; outputs = n.outputs } in r) c
    ∙ ap (λ x. let r : Net = record { name = m.name; inputs = m.inputs; cells = m.cells; banks = x; outputs = n.outputs } in r) d
    ∙ ap (λ x. let r : Net = record { name = m.name; inputs = m.inputs; cells = m.cells; banks = m.banks; outputs = x } in r) e

zip_same : {X Y : Type 0} (R : X → Y → Type 0) (xs : List X) (ys zs : List Y) → ((x : X) (y z : Y) → R x y → R x z → y ≡ z) → AllZip R xs ys → AllZip R xs zs → ys ≡ zs
zip_same R [] [] [] f h k = refl
zip_same R [] [] (z ∷ zs) f h k = absurd k
zip_same R [] (y ∷ ys) zs f h k = absurd h
zip_same R (x ∷ xs) [] zs f h k = absurd h
zip_same R (x ∷ xs) (y ∷ ys) [] f h k = absurd k
zip_same R (x ∷ xs) (y ∷ ys) (z ∷ zs) f h k = ap (λ q. q ∷ ys) (f x y z h.0 k.0) ∙ ap (λ q. z ∷ q) (zip_same R xs ys zs f h.1 k.1)

module _ (s : Source) (fin : IsFinished s) (once : AllOnce (said_in s)) where
  port_same : (p q : Port) → Contains (declared s) p → Contains (declared s) q → p.name ≡ q.name → p ≡ q
  port_same p q = port_once (declared s) (apart_of s once) p q

  one_cell : (a : Assign) (c d : Cell) → IsCellOf s a c → IsCellOf s a d → c ≡ d
  one_cell a c d h k =
      let t : c.target ≡ d.target = h.target ∙ sym k.target in
      let p : cell_port c ≡ cell_port d = port_same (cell_port c) (cell_port d) (assigned_in s (cell_port c) h.declared_so) (assigned_in s (cell_port d) k.declared_so) t in
      cell_same c d t (ap (λ (x : Port). x.width) p) (one_side a.right c.form d.form (form_is s fin a c h) (form_is s fin a d k))

  one_bank : (u : Update) (b d : Bank) → IsBankOf s u b → IsBankOf s u d → b ≡ d
  one_bank u b d h k =
      let e : to_update b ≡ to_update d = h.is ∙ sym k.is in
      let p : bank_port b ≡ bank_port d = port_same (bank_port b) (bank_port d) (register_in s (bank_port b) h.declared_so) (register_in s (bank_port d) k.declared_so) (ap (λ (x : Update). x.target) e) in
      bank_same b d e (ap (λ (x : Port). x.width) p)

  pub one_made : (n m : Net) → IsMadeOf s n → IsMadeOf s m → n ≡ m
  one_made n m h k =
      net_same n m (h.named ∙ sym k.named) (h.inputs ∙ sym k.inputs) (zip_same (IsCellOf s) s.assigns n.cells m.cells one_cell h.cells k.cells) (zip_same (IsBankOf s) s.updates n.banks m.banks one_bank h.banks k.banks) (h.outputs ∙ sym k.outputs)
