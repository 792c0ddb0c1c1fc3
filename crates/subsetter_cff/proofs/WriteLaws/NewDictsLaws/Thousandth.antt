-- The text of 0.001.
use Rattle.std.proofs.Common.{◌≡◌, [], ◌∷◌, Some, refl}
use Rattle.std.specs.Prelude.{pos, negsuc}
use Rattle.subsetter_base.specs.Bytes.{byte}
use Rattle.subsetter_cffdata.specs.Reals.Decimals.{text_at, real_of, unsigned_real, real_at}
use Rattle.subsetter_cffdata.specs.Numerals.Numbers.{real_from, real_number_at}

pub thousandth_read : real_number_at (30 ∷ 10 ∷ 0 ∷ 31 ∷ []) ≡ Some (record { mantissa = pos 1; power = negsuc 2 }, [])
unfolding byte real_from real_at text_at real_of unsigned_real
thousandth_read = refl
