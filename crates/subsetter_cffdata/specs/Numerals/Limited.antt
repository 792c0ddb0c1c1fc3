-- Numbers up to 2 ^ 31, the greatest size of a signed number of 32 bits.
use Rattle.std.specs.Prelude.{ℕ, nat_le, if◌then◌else◌, Option, Some, None}

unfoldable pub limited : ℕ → Option ℕ
limited n = if nat_le n 2147483648 then Some n else None
