-- Cells and banks by the map of widths are those of the module.
use Rattle.std.proofs.Common.{◌≡◌, ◌≢◌, inl, inr, ℕ, ◌≤◌, List, [], ◌∷◌, ◌++◌, Option, Some, ap, sym, ◌∙◌, subst, arith}
use Rattle.std.specs.Prelude.{Contains, All, AllPairs}
use Rattle.std.proofs.lemmas.Option.{same_Some}
use Rattle.std.proofs.lemmas.List.Elements.{All-contains, Contains-append_left, Contains-append_right}
use Rattle.ix_net.specs.declared.netlist.Port.{Port}
use Rattle.ix_net.specs.declared.netlist.Cell.{Cell}
use Rattle.ix_net.specs.declared.netlist.Bank.{Bank}
use Rattle.ix_net.specs.declared.netlist.Form.{Form}
use Rattle.ix_net.specs.declared.netlist.Form.TheVariants.{Hex, Copy, Add, Sub, Mul, And, Or, Xor, Not, Eq, Lt, LtSigned, Join, Range, Choose}
use Rattle.ix_net.specs.Signals.{cell_port, bank_port}
use Rattle.ix_net.specs.Forms.{Fits}
use Rattle.ix_net.specs.Valid.{names}
use Rattle.ix_net.specs.Declarations.{FormFits}
use Rattle.ix_net.proofs.FormFits.{fits_from}
use Rattle.ix_verilog.specs.declared.source.Source.{Source}
use Rattle.ix_verilog.specs.declared.source.Assign.{Assign}
use Rattle.ix_verilog.specs.declared.source.Update.{Update}
use Rattle.ix_verilog.specs.Words.{Word}
use Rattle.ix_verilog.specs.Subset.{assigned, declared, Names, MayDeclare}
use Rattle.ix_verilog.proofs.Pairs.{pairs_head, pairs_tail, contains_mapped, head_case, mapped_back}
use Rattle.ix_vnets.specs.Names.{AllOnce, said_in}
use Rattle.ix_vnets.specs.Forms.{IsFormOf, IsWithin}
use Rattle.ix_vnets.proofs.One.{one_side}
use Rattle.ix_vnets.specs.Widths.{Has}
use Rattle.ix_vnets.specs.WidthTables.{Map, found, AreApart, Holds}
use Rattle.ix_vnets.specs.Finished.{IsFinished}
use Rattle.ix_vnets.specs.Nets.{IsCellOf, IsBankOf}
use Rattle.ix_vnets.specs.Tables.{IsCellBy, IsBankBy, HasCell}

-- ports of one name are one
pub port_once : (ps : List Port) → AllPairs (λ x y. x ≢ y) (names ps) → (p q : Port) → Contains ps p → Contains ps q → p.name ≡ q.name → p ≡ q
port_once [] h p q c d e = absurd (omega (arith, c.1))
port_once (r ∷ ps) h p q c d e = elim (head_case r ps p c) [
  | inl a ↦ elim (head_case r ps q d) [
    | inl b ↦ sym a ∙ b
    | inr b ↦ absurd (pairs_head (λ x y. x ≢ y) r.name (names ps) h q.name (contains_mapped (λ (z : Port). z.name) ps q b) (ap (λ (z : Port). z.name) a ∙ e))
  ]
  | inr a ↦ elim (head_case r ps q d) [
    | inl b ↦ absurd (pairs_head (λ x y. x ≢ y) r.name (names ps) h p.name (contains_mapped (λ (z : Port). z.name) ps p a) (ap (λ (z : Port). z.name) b ∙ sym e))
    | inr b ↦ port_once ps (pairs_tail (λ x y. x ≢ y) r.name (names ps) h) p q a b e
  ]
]

-- widths that a table gives agree with what is known of names
pub fits_to : (has : List ℕ → ℕ → Type 0) (width : List ℕ → Option ℕ) → ((n : List ℕ) (w : ℕ) → width n ≡ Some w → has n w) → (w : ℕ) (f : Form) → Fits width w f → FormFits has w f
fits_to has width g w (Hex d) h = h
fits_to has width g w (Copy a) h = g a w h
fits_to has width g w (Add a b) h = (g a w h.0, g b w h.1)
fits_to has width g w (Sub a b) h = (g a w h.0, g b w h.1)
fits_to has width g w (Mul a b) h = (g a w h.0, g b w h.1)
fits_to has width g w (And a b) h = (g a w h.0, g b w h.1)
fits_to has width g w (Or a b) h = (g a w h.0, g b w h.1)
fits_to has width g w (Xor a b) h = (g a w h.0, g b w h.1)
fits_to has width g w (Not a) h = g a w h
fits_to has width g w (Eq a b) h = (h.0, (h.1.0, g a h.1.0 h.1.1, g b h.1.0 h.1.2))
fits_to has width g w (Lt a b) h = (h.0, (h.1.0, g a h.1.0 h.1.1, g b h.1.0 h.1.2))
fits_to has width g w (LtSigned a b) h = (h.0, (h.1.0, g a h.1.0 h.1.1, g b h.1.0 h.1.2))
fits_to has width g w (Join a b) h = (h.0, h.1, g a h.0 h.2, g b h.1 h.3, h.4)
fits_to has width g w (Range a hi lo) h = (h.0, g a h.0 h.1, h.2, h.3, h.4)
fits_to has width g w (Choose c a b) h = (g c 1 h.0, g a w h.1, g b w h.2)

within : (ports : List Port) → All MayDeclare ports → (w : ℕ) (f : Form) → FormFits (Has ports) w f → IsWithin f
within ports h w (Range a hi lo) f = (let m : MayDeclare (record { name = a; width = f.0 }) = All-contains MayDeclare ports (record { name = a; width = f.0 }) h f.1 in let k : f.0 ≤ 128 = m.1.most in (omega (arith, k, f.3), omega (arith, k, f.2, f.3)))
within ports h w (Hex d) f = tt
within ports h w (Copy a) f = tt
within ports h w (Add a b) f = tt
within ports h w (Sub a b) f = tt
within ports h w (Mul a b) f = tt
within ports h w (And a b) f = tt
within ports h w (Or a b) f = tt
within ports h w (Xor a b) f = tt
within ports h w (Not a) f = tt
within ports h w (Eq a b) f = tt
within ports h w (Lt a b) f = tt
within ports h w (LtSigned a b) f = tt
within ports h w (Join a b) f = tt
within ports h w (Choose c a b) f = tt

-- what is driven and what registers are declared
pub assigned_in : (s : Source) (p : Port) → Contains (assigned s) p → Contains (declared s) p
assigned_in s p c = Contains-append_left (s.inputs ++ assigned s) s.registers p (Contains-append_right s.inputs (assigned s) p c)

pub register_in : (s : Source) (p : Port) → Contains s.registers p → Contains (declared s) p
register_in s p c = Contains-append_right (s.inputs ++ assigned s) s.registers p c

pub input_in : (s : Source) (p : Port) → Contains s.inputs p → Contains (declared s) p
input_in s p c = Contains-append_left (s.inputs ++ assigned s) s.registers p (Contains-append_left s.inputs (assigned s) p c)

pub apart_of : (s : Source) → AllOnce (said_in s) → AreApart (declared s)
apart_of s o = pairs_tail (λ x y. x ≢ y) s.name (names (declared s)) o.0

-- a name with a width, of one of these
one_of : (ps qs : List Port) → AllPairs (λ x y. x ≢ y) (names ps) → ((p : Port) → Contains qs p → Contains ps p) → (n : Word) (w : ℕ) → Names qs n → Has ps n w → Contains qs (record { name = n; width = w })
one_of ps qs apart sub n w c h =
    let r = mapped_back (λ (p : Port). p.name) qs n c in
    let same : r.0 ≡ record { name = n; width = w } = port_once ps apart r.0 (record { name = n; width = w }) (sub r.0 r.1) h r.2 in
    subst (Contains qs) same r.1

-- no cell goes with a right side that does not fit
pub no_cell : (m : Map) (a : Assign) (w : ℕ) (f : Form) → found m a.target ≡ Some w → IsFormOf a.right f → (Fits (found m) w f → ⊥) → HasCell m a → ⊥
no_cell m a w f e i never h =
    let form : f ≡ h.0.form = one_side a.right f h.0.form i h.1.form in
    let wide : w ≡ h.0.width = same_Some w h.0.width (sym e ∙ h.1.wide) in
    never (subst (λ z. Fits (found m) z f) (sym wide) (subst (Fits (found m) h.0.width) (sym form) h.1.fits))

-- the right side of a cell that fits
pub form_is : (s : Source) → IsFinished s → (a : Assign) (c : Cell) → IsCellOf s a c → IsFormOf a.right c.form
form_is s fin a c h = record {
  is = h.right;
  within = within (declared s) fin.declares c.width c.form h.fits;
}

module _ (s : Source) (m : Map) (fin : IsFinished s) (once : AllOnce (said_in s)) (holds : AreApart (declared s) → Holds (declared s) m) where
  table : Holds (declared s) m
  table = holds (apart_of s once)

  pub cell_to : (a : Assign) → Contains s.assigns a → (c : Cell) → IsCellBy m a c → IsCellOf s a c
  cell_to a i c h =
      let has : Has (declared s) a.target c.width = (table a.target c.width).0 h.wide in
      let at : Names (assigned s) a.target = All-contains (λ (x : Assign). Names (assigned s) x.target) s.assigns a fin.assigns i in
      let p : Contains (assigned s) (record { name = a.target; width = c.width }) = one_of (declared s) (assigned s) (apart_of s once) (assigned_in s) a.target c.width at has in
      record {
        target = h.target;
        right = h.form.is;
        declared_so = subst (λ n. Contains (assigned s) (record { name = n; width = c.width })) (sym h.target) p;
        fits = fits_to (Has (declared s)) (found m) (λ n w. (table n w).0) c.width c.form h.fits;
      }

  pub cell_from : (a : Assign) (c : Cell) → IsCellOf s a c → IsCellBy m a c
  cell_from a c h = record {
    target = h.target;
    wide = subst (λ n. found m n ≡ Some c.width) h.target ((table c.target c.width).1 (assigned_in s (cell_port c) h.declared_so));
    form = form_is s fin a c h;
    fits = fits_from (Has (declared s)) (found m) (λ n w. (table n w).1) c.width c.form h.fits;
  }

  pub bank_to : (u : Update) → Contains s.updates u → (b : Bank) → IsBankBy m u b → IsBankOf s u b
  bank_to u i b h =
      let t : b.target ≡ u.target = ap (λ (x : Update). x.target) h.is in
      let e : b.enable ≡ u.enable = ap (λ (x : Update). x.enable) h.is in
      let r : b.source ≡ u.source = ap (λ (x : Update). x.source) h.is in
      let at : Names s.registers u.target = All-contains (λ (x : Update). Names s.registers x.target) s.updates u fin.updates i in
      let p : Contains s.registers (record { name = u.target; width = b.width }) = one_of (declared s) s.registers (apart_of s once) (register_in s) u.target b.width at ((table u.target b.width).0 h.wide) in
      record {
        is = h.is;
        declared_so = subst (λ n. Contains s.registers (record { name = n; width = b.width })) (sym t) p;
        enable = subst (λ n. Has (declared s) n 1) (sym e) ((table u.enable 1).0 h.enable);
        source = subst (λ n. Has (declared s) n b.width) (sym r) ((table u.source b.width).0 h.source);
      }

  pub bank_from : (u : Update) (b : Bank) → IsBankOf s u b → IsBankBy m u b
  bank_from u b h =
      let t : b.target ≡ u.target = ap (λ (x : Update). x.target) h.is in
      let e : b.enable ≡ u.enable = ap (λ (x : Update). x.enable) h.is in
      let r : b.source ≡ u.source = ap (λ (x : Update). x.source) h.is in
      record {
        is = h.is;
        wide = subst (λ n. found m n ≡ Some b.width) t ((table b.target b.width).1 (register_in s (bank_port b) h.declared_so));
        enable = subst (λ n. found m n ≡ Some 1) e ((table b.enable 1).1 h.enable);
        source = subst (λ n. found m n ≡ Some b.width) r ((table b.source b.width).1 h.source);
      }
