-- A front of a told file that grows by the part that a read places.
use Rattle.std.proofs.Common.{◌≡◌, ℕ, ◌+◌, ◌≤◌, List, ◌++◌, length, take, drop, Option, None, Some, IfSome, refl, arith, length-append}
use Rattle.std.proofs.lemmas.List.{length-take-le}
use Rattle.std.proofs.Math.Seq.{take-add}
use Rattle.ix_io.specs.Shelf.{NamedFiles, Places, told_file}

-- the bytes are the front of a told file
abbrev pub IsFront : Option (List ℕ) → List ℕ → Type 0
IsFront told bytes = IfSome told (λ file. bytes ≡ take (length bytes) file)

-- the front, and n bytes that were read behind it into a slice
front_more : (file front slice : List ℕ) (n : ℕ) → front ≡ take (length front) file → n ≤ length slice
    → take n slice ≡ take n (drop (length front) file)
    → front ++ take n slice ≡ take (length (front ++ take n slice)) file
front_more file front slice n is within part =
    let len : length (front ++ take n slice) ≡ length front + n
    = omega (arith, length-append front (take n slice), length-take-le n slice within) in
    rw (len, take-add (length front) n file, ← part, ← is) refl

pub IsFront_more : (told : Option (List ℕ)) (front slice : List ℕ) (n : ℕ) → IsFront told front
    → Places told (length front) n slice → IsFront told (front ++ take n slice)
IsFront_more None front slice n is places = tt
IsFront_more (Some file) front slice n is places = front_more file front slice n is places.within places.bytes

-- the same over a shelf whose told files are those of before
pub IsFront_read : (before now : Option NamedFiles) (name front slice : List ℕ) (from n : ℕ) → now ≡ before → from ≡ length front
    → IsFront (told_file before name) front → Places (told_file now name) from n slice
    → IsFront (told_file before name) (front ++ take n slice)
IsFront_read before now name front slice from n kept at is places =
    IsFront_more (told_file before name) front slice n is (rw (kept, at) at places)
