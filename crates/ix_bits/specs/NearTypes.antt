-- Types from a signedness and a width (CoreDSL 2, integer types; 128 bits at most are this project's choice).
use Rattle.std.specs.Prelude.{ℕ, max, min, Bool, true, ◌&&◌, if◌then◌else◌, nat_le, Option, Some, None}
use Rattle.std.proofs.Common.{lit≤}
use Rattle.std.proofs.Math.Nat.{le-max_left, max-le, min-le_right}
use Rattle.ix_bits.specs.declared.number.Ty.{Ty}

-- the type of this signedness and of the width from 1 to 128 that is next to the given one
abbrev pub type_near : Bool → ℕ → Ty
type_near signed width =
    record {
      signed = signed;
      width = max 1 (min width 128);
      some_width = le-max_left 1 (min width 128);
      most_width = max-le (lit≤ tt) (min-le_right width 128);
    }

-- the type of this signedness and width, which there is for widths from 1 to 128
abbrev pub type_with : Bool → ℕ → Option Ty
type_with signed width = if nat_le 1 width && nat_le width 128 then Some (type_near signed width) else None

-- the type `int`, of 32 bits
abbrev pub int_type : Ty
int_type = record { signed = true; width = 32; some_width = lit≤ tt; most_width = lit≤ tt }
