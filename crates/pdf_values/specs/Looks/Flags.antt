-- Flags (ISO 32000-1, Table 123).
use Rattle.std.specs.Prelude.{◌≡◌, ℕ, ◌+◌, Bool, true, false, not, ◌&&◌, ◌||◌, ◌==◌, nat_le, if◌then◌else◌, List}
use Rattle.std.specs.Prelude.{Option, ℤ, pos}
use Rattle.std.specs.Option.{option_map_or}
use Rattle.std.specs.Ordering.{int_eq}
use Rattle.pdf_values.specs.Fields.{has_bit}
use Rattle.subsetter_sfnt.specs.Fields.Os2.{family_class, b_family_type, b_serif_style, fs_selection}
use Rattle.pdf_values.specs.Head.{sets_bit}
use Rattle.subsetter_sfnt.specs.Fields.Post.{is_fixed_pitch}
use Rattle.subsetter_sfnt.specs.Fields.Head.{mac_style}

-- whether a field that is said passes a test
abbrev pub passes : (ℕ → Bool) → Option ℕ → Bool
passes test o = option_map_or test o false

-- whether all advances are equal
abbrev pub is_fixed : Option (List ℕ) → Bool
is_fixed post = passes (λ n. not (n == 0)) (is_fixed_pitch post)

-- the classes of serif faces
abbrev pub is_serif_class : ℕ → Bool
is_serif_class c = (nat_le 1 c && nat_le c 5) || c == 7

-- panose: a Latin text face with a serif style from cove to triangle
abbrev pub is_serif_face : Option (List ℕ) → Bool
is_serif_face os2 =
    passes (λ n. n == 2) (b_family_type os2) && passes (λ n. nat_le 2 n && nat_le n 10) (b_serif_style os2)

-- panose: a Latin hand written face
abbrev pub is_script_face : Option (List ℕ) → Bool
is_script_face os2 = passes (λ n. n == 3) (b_family_type os2)

-- class 0 says nothing, and panose is asked
abbrev pub has_serifs : Option (List ℕ) → Bool
has_serifs os2 = passes (λ c. is_serif_class c || (c == 0 && is_serif_face os2)) (family_class os2)

-- sFamilyClass 10 is scripts
abbrev pub is_script : Option (List ℕ) → Bool
is_script os2 = passes (λ c. c == 10 || (c == 0 && is_script_face os2)) (family_class os2)

-- bit 0 of fsSelection is italic, bit 9 oblique; where `OS/2` doesn't say, bit 1 of macStyle is italic
abbrev pub is_slanted : Option (List ℕ) → Option (List ℕ) → Bool
is_slanted os2 head = option_map_or (λ n. has_bit n 0 || has_bit n 9) (fs_selection os2) (sets_bit (mac_style head) 1)

abbrev pub flag : Bool → ℕ → ℕ
flag b n = if b then n else 0

-- FixedPitch is 1, Serif 2, Script 8, Italic 64; Symbolic, 4, is always set, as codes are a font's own
abbrev pub flags_by : Option (List ℕ) → Option (List ℕ) → Bool → ℕ
flags_by post os2 italic =
    4 + flag (is_fixed post) 1 + flag (has_serifs os2) 2 + flag (is_script os2) 8 + flag italic 64

-- a font is italic that is called so, or leans
abbrev pub is_italic : Option (List ℕ) → Option (List ℕ) → ℤ → Bool
is_italic os2 head angle = is_slanted os2 head || not (int_eq angle (pos 0))

-- Symbolic is set, and Nonsymbolic, 32, isn't
pub record IsFlags (n : ℕ) : Type 0 where
  pub symbolic : has_bit n 2 ≡ true
  pub not_nonsymbolic : has_bit n 5 ≡ false
