-- Right sides whose widths agree, for names that are given by what is known of them.
use Rattle.std.proofs.Common.{◌≡◌, ℕ, List, Option, Some}
use Rattle.std.specs.List.{AllByRecursion}
use Rattle.ix_net.specs.declared.netlist.Form.{Form}
use Rattle.ix_net.specs.declared.netlist.Form.TheVariants.{Hex, Copy, Add, Sub, Mul, And, Or, Xor, Not, Eq, Lt, LtSigned, Join, Range, Choose}
use Rattle.ix_net.specs.Declarations.{FormFits}
use Rattle.ix_net.specs.Forms.{operands, Fits}

-- what is known of names may grow
pub form_fits_more : (has has' : List ℕ → ℕ → Type 0) → ((n : List ℕ) (w : ℕ) → has n w → has' n w) → (w : ℕ) (f : Form) → FormFits has w f → FormFits has' w f
form_fits_more has has' g w (Hex d) h = h
form_fits_more has has' g w (Copy a) h = g a w h
form_fits_more has has' g w (Add a b) h = (g a w h.0, g b w h.1)
form_fits_more has has' g w (Sub a b) h = (g a w h.0, g b w h.1)
form_fits_more has has' g w (Mul a b) h = (g a w h.0, g b w h.1)
form_fits_more has has' g w (And a b) h = (g a w h.0, g b w h.1)
form_fits_more has has' g w (Or a b) h = (g a w h.0, g b w h.1)
form_fits_more has has' g w (Xor a b) h = (g a w h.0, g b w h.1)
form_fits_more has has' g w (Not a) h = g a w h
form_fits_more has has' g w (Eq a b) h = (h.0, (h.1.0, g a h.1.0 h.1.1, g b h.1.0 h.1.2))
form_fits_more has has' g w (Lt a b) h = (h.0, (h.1.0, g a h.1.0 h.1.1, g b h.1.0 h.1.2))
form_fits_more has has' g w (LtSigned a b) h = (h.0, (h.1.0, g a h.1.0 h.1.1, g b h.1.0 h.1.2))
form_fits_more has has' g w (Join a b) h = (h.0, h.1, g a h.0 h.2, g b h.1 h.3, h.4)
form_fits_more has has' g w (Range a hi lo) h = (h.0, g a h.0 h.1, h.2, h.3, h.4)
form_fits_more has has' g w (Choose c a b) h = (g c 1 h.0, g a w h.1, g b w h.2)

-- what is known of names agrees with the widths that a table gives
pub fits_from : (has : List ℕ → ℕ → Type 0) (width : List ℕ → Option ℕ) → ((n : List ℕ) (w : ℕ) → has n w → width n ≡ Some w) → (w : ℕ) (f : Form) → FormFits has w f → Fits width w f
fits_from has width g w (Hex d) h = h
fits_from has width g w (Copy a) h = g a w h
fits_from has width g w (Add a b) h = (g a w h.0, g b w h.1)
fits_from has width g w (Sub a b) h = (g a w h.0, g b w h.1)
fits_from has width g w (Mul a b) h = (g a w h.0, g b w h.1)
fits_from has width g w (And a b) h = (g a w h.0, g b w h.1)
fits_from has width g w (Or a b) h = (g a w h.0, g b w h.1)
fits_from has width g w (Xor a b) h = (g a w h.0, g b w h.1)
fits_from has width g w (Not a) h = g a w h
fits_from has width g w (Eq a b) h = (h.0, (h.1.0, g a h.1.0 h.1.1, g b h.1.0 h.1.2))
fits_from has width g w (Lt a b) h = (h.0, (h.1.0, g a h.1.0 h.1.1, g b h.1.0 h.1.2))
fits_from has width g w (LtSigned a b) h = (h.0, (h.1.0, g a h.1.0 h.1.1, g b h.1.0 h.1.2))
fits_from has width g w (Join a b) h = (h.0, h.1, g a h.0 h.2, g b h.1 h.3, h.4)
fits_from has width g w (Range a hi lo) h = (h.0, g a h.0 h.1, h.2, h.3, h.4)
fits_from has width g w (Choose c a b) h = (g c 1 h.0, g a w h.1, g b w h.2)

-- the name has some width
abbrev pub HasSome : (List ℕ → ℕ → Type 0) → List ℕ → Type 0
HasSome has n = (w : ℕ) × has n w

-- each name on a right side has some width
pub operands_have : (has : List ℕ → ℕ → Type 0) (w : ℕ) (f : Form) → FormFits has w f → AllByRecursion (HasSome has) (operands f)
operands_have has w (Hex d) h = tt
operands_have has w (Copy a) h = ((w, h), tt)
operands_have has w (Add a b) h = ((w, h.0), ((w, h.1), tt))
operands_have has w (Sub a b) h = ((w, h.0), ((w, h.1), tt))
operands_have has w (Mul a b) h = ((w, h.0), ((w, h.1), tt))
operands_have has w (And a b) h = ((w, h.0), ((w, h.1), tt))
operands_have has w (Or a b) h = ((w, h.0), ((w, h.1), tt))
operands_have has w (Xor a b) h = ((w, h.0), ((w, h.1), tt))
operands_have has w (Not a) h = ((w, h), tt)
operands_have has w (Eq a b) h = ((h.1.0, h.1.1), ((h.1.0, h.1.2), tt))
operands_have has w (Lt a b) h = ((h.1.0, h.1.1), ((h.1.0, h.1.2), tt))
operands_have has w (LtSigned a b) h = ((h.1.0, h.1.1), ((h.1.0, h.1.2), tt))
operands_have has w (Join a b) h = ((h.0, h.2), ((h.1, h.3), tt))
operands_have has w (Range a hi lo) h = ((h.0, h.1), tt)
operands_have has w (Choose c a b) h = ((1, h.0), ((w, h.1), ((w, h.2), tt)))
