-- Names that are found, or are not.
use Rattle.std.proofs.Common.{◌≡◌, refl, Option, Some, None}
use Rattle.std.specs.Prelude.{option_map}
use Rattle.ix_mean.specs.ByName.{Numbered}
use Rattle.ix_mean.specs.Resolving.{Slot}
use Rattle.ix_slots.specs.Kept.{place_of}
use Rattle.ix_slots.specs.Found.{custom_of, numbered}

pub no_slot : (o : Option Slot) → None ≡ option_map place_of o → o ≡ None
no_slot None e = refl
no_slot (Some l) e = cc

pub custom_back : (o : Option Numbered) → option_map numbered (option_map custom_of o) ≡ o
custom_back None = refl
custom_back (Some r) = refl
