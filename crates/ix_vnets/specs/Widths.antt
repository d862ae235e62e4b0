-- Names with their widths (IEEE 1364-2005, 5.4, expression bit lengths).
use Rattle.std.specs.Prelude.{ℕ, List, Contains}
use Rattle.ix_net.specs.declared.netlist.Port.{Port}
use Rattle.ix_verilog.specs.Words.{Word}

-- the ports have the name with this width
abbrev pub Has : List Port → Word → ℕ → Type 0
Has ports n w = Contains ports (record { name = n; width = w })
