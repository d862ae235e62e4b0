-- Images of words (the limit is this project's choice).
use Rattle.std.specs.Prelude.{ℕ}

-- the greatest count of words of an image
abbrev pub most_words : ℕ
most_words = 65536
