-- Characters that a line of a message may have (Unicode, UnicodeData.txt and PropList.txt).
use Rattle.std.specs.Prelude.{ℕ, ◌==◌, ◌&&◌, ◌||◌, not, nat_le, nat_lt, Bool, if◌then◌else◌}

-- General_Category Cc
abbrev pub is_control : ℕ → Bool
is_control c = nat_lt c 32 || (nat_le 127 c && nat_lt c 160)

-- General_Category Zl and Zp
abbrev pub is_separator : ℕ → Bool
is_separator c = c == 0x2028 || c == 0x2029

-- Bidi_Control
abbrev pub is_direction : ℕ → Bool
is_direction c =
    (c == 0x061C || (nat_le 0x200E c && nat_le c 0x200F))
    || ((nat_le 0x202A c && nat_le c 0x202E) || (nat_le 0x2066 c && nat_le c 0x2069))

abbrev pub is_plain : ℕ → Bool
is_plain c = not (is_control c || (is_separator c || is_direction c))

-- for the others there is U+FFFD
abbrev pub plain : ℕ → ℕ
plain c = if is_plain c then c else 0xFFFD

-- a byte as it is shown: a printable one of ASCII, and `?` for another
abbrev pub shown : ℕ → ℕ
shown b = if nat_le 32 b && nat_lt b 127 then b else 63
