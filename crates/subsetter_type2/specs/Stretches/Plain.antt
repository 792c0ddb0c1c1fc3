-- Tokens of one or two bytes that are their own flat form.
use Rattle.std.specs.Prelude.{ℕ, Option, Some, None, Bool, true, false, nat_lt, if◌then◌else◌}
use Rattle.subsetter_type2.specs.declared.token.Effect.{Effect}
use Rattle.subsetter_type2.specs.declared.token.Effect.TheVariants.{CountsStems, Draws, CallsLocal, CallsGlobal}
use Rattle.subsetter_type2.specs.declared.token.Effect.TheVariants.{Returns, Ends, Masks}
use Rattle.subsetter_type2.specs.Token.{one_byte_effect}

abbrev pub draws : Option Effect → Bool
draws None = false
draws (Some CountsStems) = false
draws (Some Draws) = true
draws (Some CallsLocal) = false
draws (Some CallsGlobal) = false
draws (Some Returns) = false
draws (Some Ends) = false
draws (Some Masks) = false

-- a number of one or two bytes begins with this byte, or an operator that takes all operands
unfoldable pub is_plain : ℕ → Bool
is_plain first = if nat_lt first 32 then draws (one_byte_effect first) else nat_lt first 255
