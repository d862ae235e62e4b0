-- Each output, wire and register is driven.
use Rattle.std.proofs.Common.{◌≡◌, List, map, Bool, true, false, sym, ◌∙◌, subst}
use Rattle.std.specs.Prelude.{All, Contains, IsTrue, ◌↔◌}
use Rattle.std.proofs.lemmas.Bool.{true≢false}
use Rattle.std.proofs.lemmas.List.Elements.{All-append, All-contains, Contains-append_left, Contains-append_right}
use Rattle.ix_net.specs.declared.netlist.Port.{Port}
use Rattle.ix_verilog.specs.declared.source.Source.{Source}
use Rattle.ix_verilog.specs.declared.source.Assign.{Assign}
use Rattle.ix_verilog.specs.declared.source.Update.{Update}
use Rattle.ix_verilog.specs.Subset.{IsDriven, assigned}
use Rattle.ix_verilog.proofs.Pairs.{all_of}

abbrev pub AreAssigned : List Assign → List Port → Type 0
AreAssigned xs ports = All (λ (p : Port). Contains (map (λ (a : Assign). a.target) xs) p.name) ports

abbrev pub AreUpdated : List Update → List Port → Type 0
AreUpdated xs ports = All (λ (p : Port). Contains (map (λ (u : Update). u.target) xs) p.name) ports

-- the same of lists that are the same
pub assigned_moved : (xs ys : List Assign) (ps qs : List Port) (b : Bool) → xs ≡ ys → ps ≡ qs → IsTrue b ↔ AreAssigned xs ps → IsTrue b ↔ AreAssigned ys qs
assigned_moved xs ys ps qs b e f h = subst (λ z. IsTrue b ↔ AreAssigned z qs) e (subst (λ z. IsTrue b ↔ AreAssigned xs z) f h)

pub updated_moved : (xs ys : List Update) (ps qs : List Port) (b : Bool) → xs ≡ ys → ps ≡ qs → IsTrue b ↔ AreUpdated xs ps → IsTrue b ↔ AreUpdated ys qs
updated_moved xs ys ps qs b e f h = subst (λ z. IsTrue b ↔ AreUpdated z qs) e (subst (λ z. IsTrue b ↔ AreUpdated xs z) f h)

outputs_of : (s : Source) → IsDriven s → AreAssigned s.assigns s.outputs
outputs_of s d =
    let P : Port → Type 0 = λ p. Contains (map (λ (a : Assign). a.target) s.assigns) p.name in
    all_of P s.outputs (λ p c. All-contains P (assigned s) p d.assigns (Contains-append_left s.outputs s.wires p c))

wires_of : (s : Source) → IsDriven s → AreAssigned s.assigns s.wires
wires_of s d =
    let P : Port → Type 0 = λ p. Contains (map (λ (a : Assign). a.target) s.assigns) p.name in
    all_of P s.wires (λ p c. All-contains P (assigned s) p d.assigns (Contains-append_right s.outputs s.wires p c))

pub no_outputs : (s : Source) (a : Bool) → IsTrue a ↔ AreAssigned s.assigns s.outputs → a ≡ false → IsTrue false ↔ IsDriven s
no_outputs s a h f = ((λ t. absurd (true≢false (sym t))), λ d. absurd (true≢false (sym (h.1 (outputs_of s d)) ∙ f)))

pub no_wires : (s : Source) (a : Bool) → IsTrue a ↔ AreAssigned s.assigns s.wires → a ≡ false → IsTrue false ↔ IsDriven s
no_wires s a h f = ((λ t. absurd (true≢false (sym t))), λ d. absurd (true≢false (sym (h.1 (wires_of s d)) ∙ f)))

pub driven_iff : (s : Source) (a b c : Bool) → IsTrue a ↔ AreAssigned s.assigns s.outputs → a ≡ true → IsTrue b ↔ AreAssigned s.assigns s.wires → b ≡ true → IsTrue c ↔ AreUpdated s.updates s.registers → IsTrue c ↔ IsDriven s
driven_iff s a b c h e k f m =
    let P : Port → Type 0 = λ p. Contains (map (λ (x : Assign). x.target) s.assigns) p.name in
    ((λ t. record { assigns = All-append P s.outputs s.wires (h.0 e) (k.0 f); updates = m.0 t }), λ d. m.1 d.updates)
