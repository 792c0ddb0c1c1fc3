-- A charstring whose width says another advance (Technical Note 5176, section 15 "Private DICT Data"; Technical Note
-- 5177, section 3.1 "Type 2 Charstring Organization").
use Rattle.std.specs.Prelude.{ℕ, nat_lt, ◌&&◌, Bool, true, false, if◌then◌else◌, int_le, List, [], ◌++◌, Option, Some}
use Rattle.std.specs.Prelude.{None, option_map, ℤ, pos, negsuc, ◌+ℤ◌, ◌-ℤ◌}
use Rattle.std.specs.Ordering.{int_eq}
use Rattle.subsetter_base.specs.Options.{◌>>=◌}
use Rattle.subsetter_cffdata.specs.declared.numerals.charstring_number.CharStringNumber.{CharStringNumber}
use Rattle.subsetter_cffdata.specs.declared.numerals.charstring_number.CharStringNumber.TheVariants.{Integer}
use Rattle.subsetter_cffdata.specs.Numerals.CharStringNumber.{whole_of, written}
use Rattle.pdf_widths.specs.Opening.{Opening, opening_of}
use Rattle.pdf_widths.specs.declared.defaults.Defaults.{Defaults}

-- the advance that a width says: without one defaultWidthX, else the sum with nominalWidthX
abbrev pub advance_of : Defaults → Option CharStringNumber → Option ℤ
advance_of d None = d.default
advance_of d (Some number) = do
  whole ← whole_of number
  nominal ← d.nominal
  Some (nominal +ℤ whole)

abbrev pub is_advance : Option ℤ → ℕ → Bool
is_advance None advance = false
is_advance (Some said) advance = int_eq said (pos advance)

-- a whole number of 16 bits
abbrev pub short : ℤ → Option CharStringNumber
short v = if int_le (negsuc 32767) v && int_le v (pos 32767) then Some (Integer v) else None

abbrev pub difference : Option ℤ → ℕ → Option CharStringNumber
difference nominal advance = nominal >>= λ n. short (pos advance -ℤ n)

-- the width that says an advance: none for defaultWidthX, else the difference from nominalWidthX
abbrev pub wanted : Defaults → ℕ → Option (Option CharStringNumber)
wanted d advance =
    if is_advance (advance_of d None) advance then Some None else option_map Some (difference d.nominal advance)

-- the stack holds 48 numbers (appendix B)
abbrev pub has_room : Option CharStringNumber → ℕ → Bool
has_room None operands = true
has_room (Some number) operands = nat_lt operands 48

-- the new width, and what is after the old one
pub record Change : Type 0 where
  pub width : Option CharStringNumber
  pub body : List ℕ

abbrev pub change_by : Defaults → ℕ → Opening → Option Change
change_by d advance o =
    if is_advance (advance_of d o.width) advance then None
    else (wanted d advance >>= λ width. if has_room width o.operands then Some (record { width = width; body = o.body })
    else None)

-- none where the width says the advance, or no width can say it
unfoldable pub change_of : Defaults → ℕ → List ℕ → Option Change
change_of d advance charstring = opening_of charstring >>= change_by d advance

abbrev pub width_text : Option CharStringNumber → List ℕ
width_text None = []
width_text (Some number) = written number

abbrev pub text : Change → List ℕ
text c = width_text c.width ++ c.body
