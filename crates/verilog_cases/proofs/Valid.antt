-- Nets that a text denotes are valid.
use Rattle.std.proofs.Common.{List, [], ◌∷◌, ℕ}
use Rattle.std.specs.Prelude.{All}
use Rattle.std.specs.List.{AllZip, AllByRecursion}
use Rattle.std.proofs.lemmas.List.Elements.{All-from_recursion}
use Rattle.ix_net.specs.declared.netlist.Net.{Net}
use Rattle.ix_net.specs.Valid.{IsValid}
use Rattle.ix_verilog.specs.declared.source.Source.{Source}
use Rattle.ix_verilog.specs.Subset.{Denotes, IsNetOf}

valid_each : (ss : List Source) (ns : List Net) → AllZip IsNetOf ss ns → AllByRecursion IsValid ns
valid_each [] [] h = tt
valid_each [] (n ∷ ns) h = absurd h
valid_each (s ∷ ss) [] h = absurd h
valid_each (s ∷ ss) (n ∷ ns) h = (h.0.valid, valid_each ss ns h.1)

pub valid_all : (text : List ℕ) (ns : List Net) → Denotes text ns → All IsValid ns
valid_all text ns d = All-from_recursion IsValid ns (valid_each d.modules ns d.nets_of)
