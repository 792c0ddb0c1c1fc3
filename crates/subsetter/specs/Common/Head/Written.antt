-- `head` of a subset (OpenType, "head"), and the plain way to it.
use Rattle.std.specs.Prelude.{ℕ, Bool, List, length, slice_range, codes, Option, Some, None, Result, Ok, Err, nat_lt}
use Rattle.std.specs.Prelude.{if◌then◌else◌}
use Rattle.subsetter_base.specs.declared.error.Error.{Error}
use Rattle.subsetter_base.specs.declared.error.Error.TheVariants.{MalformedFont}
use Rattle.subsetter_sfnt.specs.Fields.Head.{head_with}

-- `head` with the box that it has (bytes 36 to 44)
abbrev pub head_bytes : Bool → List ℕ → List ℕ
head_bytes long head = head_with long (slice_range head 36 44) head

-- nothing without `head`, which under 52 bytes has no indexToLocFormat
abbrev pub head_in : Option (List ℕ) → Bool → Result (Option (List ℕ)) Error
head_in None long = Ok None
head_in (Some head) long = if nat_lt (length head) 52 then Err MalformedFont else Ok (Some (head_bytes long head))

-- `head` of a subset with the format of loca, from the tables that a look-up finds; a font without loca has the short
-- one
abbrev pub head_of : (List ℕ → Option (List ℕ)) → Bool → Result (Option (List ℕ)) Error
head_of find long = head_in (find (codes "head")) long
