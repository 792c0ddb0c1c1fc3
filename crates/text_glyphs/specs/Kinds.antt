-- Characters that show nothing of their own.
use Rattle.std.specs.Prelude.{ℕ, ◌%◌, ◌==◌, ◌&&◌, ◌||◌, nat_le, nat_lt, Bool}
use Rattle.std.specs.List.{prefix_len}
use Rattle.text_glyphs.specs.declared.tables.TheConstants.{BOUNDS}

-- how many of the table's first bounds are at most a character
unfoldable pub bounds_up_to : ℕ → ℕ
bounds_up_to c = prefix_len (λ bound. nat_le bound c) BOUNDS

-- a default ignorable (Unicode, 5.21, Default_Ignorable_Code_Point): the table has where they begin and where others
-- begin, in turn
abbrev pub is_ignorable : ℕ → Bool
is_ignorable c = bounds_up_to c % 2 == 1

-- a control (Unicode, 23.1, General_Category Cc)
abbrev pub is_control : ℕ → Bool
is_control c = nat_lt c 0x20 || (nat_le 0x7F c && nat_lt c 0xA0)

-- a variation selector (Unicode, 23.4)
abbrev pub is_selector : ℕ → Bool
is_selector c =
    (nat_le 0xFE00 c && nat_le c 0xFE0F)
    || ((nat_le 0xE0100 c && nat_le c 0xE01EF) || ((nat_le 0x180B c && nat_le c 0x180D) || c == 0x180F))
