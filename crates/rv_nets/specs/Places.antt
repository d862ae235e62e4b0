-- Where the ports of a design stand by number: in which module, and as which port of it (this project's choice).
use Rattle.std.specs.Prelude.{ℕ, zero, suc, List, [], ◌∷◌, ◌++◌, length}
use Rattle.rv_nets.specs.declared.modules.Place.{Place}
use Rattle.rv_nets.specs.Modules.{Driver, own_ports}

-- the ports from i on of the module with the number n, so many
abbrev pub places_from : ℕ → ℕ → ℕ → List Place
places_from n i zero = []
places_from n i (suc count) = record { driver = n; port = i } ∷ places_from n (suc i) count

-- those of all modules, of which the first has the number n
abbrev pub places_of : ℕ → List Driver → List Place
places_of n [] = []
places_of n (s ∷ drivers) = places_from n 0 (length (own_ports s)) ++ places_of (suc n) drivers
