use Rattle.ix_bits.proofs.Results.{ones_of}
use Rattle.ix_encode.proofs.encoding.fixed_bits.Goals as goal

-- src/encoding.rt:38:37
pub returns-in-Fixed : goal.returns-in-Fixed
returns-in-Fixed c = rw c.in-Fixed.is (ones_of c.in-Fixed.bits.width c.in-Fixed.bits.most_width)
