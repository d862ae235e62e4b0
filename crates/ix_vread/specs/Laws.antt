-- No text that denotes nets is refused.
use Rattle.std.specs.Prelude.{◌≡◌, ℕ, List, Result, Ok, Err}
use Rattle.ix_net.specs.declared.netlist.Net.{Net}
use Rattle.ix_verilog.specs.Subset.{Denotes}
use Rattle.ix_vread.specs.declared.error.VErr.{VErr}
use Rattle.ix_vread.specs.declared.error.VErr.TheVariants.{Memory}
use Rattle.ix_vread.specs.Told.{IsTold}

-- but for want of memory
abbrev pub DenotedIsNotRefused : Type 0
DenotedIsNotRefused = (text : List ℕ) (nets : List Net) (error : VErr) → Denotes text nets → IsTold text error → error ≡ Memory

-- the answer is these nets, or want of memory
abbrev pub IsRead : Result (List Net) VErr → List Net → Type 0
IsRead (Ok read) nets = read ≡ nets
IsRead (Err error) nets = error ≡ Memory
