-- The numbers and tags that words write.
use Rattle.std.specs.Prelude.{ℕ, ◌==◌, ◌&&◌, ◌^◌, nat_lt, if◌then◌else◌, List, length, Option, Some, None}
use Rattle.std.specs.Str.{all_ascii_digits}
use Rattle.std.specs.Str.Parse.{digits_value}
use Rattle.subsetter_base.specs.declared.tag.Tag.{Tag}

-- the number that one or more ASCII digits write, if it has at most `bits` bits
abbrev pub number_in_bits : ℕ → List ℕ → Option ℕ
number_in_bits bits word =
    if nat_lt 0 (length word) && all_ascii_digits word && nat_lt (digits_value 10 word) (2 ^ bits)
    then Some (digits_value 10 word)
    else None

-- a tag has four bytes
abbrev pub tag_of : List ℕ → Option Tag
tag_of word = if length word == 4 then Some (record { 0 = word }) else None
