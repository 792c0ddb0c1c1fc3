-- Bytes of a text in JSON (RFC 8259).
use Rattle.std.specs.Prelude.{ℕ, ◌+◌, ◌-◌, ◌*◌, ◌==◌, ◌&&◌, ◌||◌, nat_lt, nat_le, Bool, if◌then◌else◌, List, [], ◌∷◌}
use Rattle.std.specs.Prelude.{drop, Option, Some, None}
use Rattle.std.specs.List.{before_first, position_or_len}
use Rattle.subset_args.specs.Listing.Lists.{is_blank}

-- the bytes after the white space at the front: ws (section 2) is space, horizontal tab, line feed and carriage return
abbrev pub skip_ws : List ℕ → List ℕ
skip_ws [] = []
skip_ws (b ∷ bytes) = if is_blank b then skip_ws bytes else b ∷ bytes

-- the structural characters (section 2): [ { ] } : ,
abbrev pub is_structural : ℕ → Bool
is_structural b = (b == 91 || (b == 123 || b == 93)) || (b == 125 || (b == 58 || b == 44))

-- what ends a literal name or a number: white space, a structural character, or a quotation mark
abbrev pub ends_word : ℕ → Bool
ends_word b = is_blank b || (is_structural b || b == 34)

-- the word at the front, and the bytes after it
abbrev pub word : List ℕ → List ℕ
word bytes = before_first ends_word bytes

abbrev pub past_word : List ℕ → List ℕ
past_word bytes = drop (position_or_len ends_word bytes) bytes

-- the bytes after this one, if it is first
abbrev pub following : ℕ → List ℕ → Option (List ℕ)
following b [] = None
following b (x ∷ bytes) = if x == b then Some bytes else None

-- ---- escapes (section 7)

-- the byte that a letter after a backslash means: \" \\ \/ \b \f \n \r \t
unfoldable pub escaped : ℕ → Option ℕ
escaped e =
    if e == 34 then Some 34
    else if e == 92 then Some 92
    else if e == 47 then Some 47
    else if e == 98 then Some 8
    else if e == 102 then Some 12
    else if e == 110 then Some 10
    else if e == 114 then Some 13
    else if e == 116 then Some 9
    else None

-- HEXDIG, in either case
unfoldable pub hex_digit : ℕ → Option ℕ
hex_digit b =
    if nat_le 48 b && nat_le b 57 then Some (b - 48)
    else if nat_le 65 b && nat_le b 70 then Some (b - 65 + 10)
    else if nat_le 97 b && nat_le b 102 then Some (b - 97 + 10)
    else None

-- the first half of a surrogate pair, and the second
abbrev pub is_high : ℕ → Bool
is_high unit = nat_le 55296 unit && nat_lt unit 56320

abbrev pub is_low : ℕ → Bool
is_low unit = nat_le 56320 unit && nat_lt unit 57344

-- the character of a surrogate pair
abbrev pub paired : ℕ → ℕ → ℕ
paired high low = 65536 + (high - 55296) * 1024 + (low - 56320)
