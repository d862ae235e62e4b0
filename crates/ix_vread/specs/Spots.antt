-- Places of lines, as the code finds them.
use Rattle.std.specs.Prelude.{ℕ, List, filter}
use Rattle.ix_verilog.specs.declared.token.Token.{Token}
use Rattle.ix_verilog.specs.Subset.{place_of_token}
use Rattle.ix_vread.specs.Told.{begins_drive}

-- where the line of widths with this number, from 0, begins
abbrev pub drive_place : List Token → ℕ → ℕ
drive_place tokens number = place_of_token 0 number (filter begins_drive tokens)
