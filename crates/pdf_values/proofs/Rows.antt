-- Worked rows of the definitions: the values of two fonts made for this, and of tables that are cut.
use Rattle.std.proofs.Common.{◌≡◌, ℕ, ◌+◌, ◌-◌, ◌*◌, true, false, List, [], ◌∷◌, take, Option, Some, None, refl, pos, negsuc}
use Rattle.std.specs.Prelude.{nat_lt, if◌then◌else◌, codes}
use Rattle.std.specs.Option.{option_map}
use Rattle.subsetter_variation.specs.Nearest.{nearest}
use Rattle.pdf_values.specs.Looks.Bounds.{bounds_of}
use Rattle.pdf_values.specs.Looks.Flags.{flags_by, is_italic}
use Rattle.pdf_values.specs.Head.{units_per_em}
use Rattle.pdf_values.specs.Looks.Heights.{first_moved, height, heights_by, heights_of, line_of, other_line, source_line}
use Rattle.pdf_values.specs.Movement.{varied}
use Rattle.pdf_values.specs.Looks.ItalicAngle.{angle, angle_of}
use Rattle.pdf_values.specs.Name.{postscript_name, string_from}
use Rattle.pdf_values.specs.Permission.{permission, unsaid, is_permitted}
use Rattle.pdf_values.specs.Rounding.{thousandths, lowered, raised}
use Rattle.pdf_values.specs.Looks.Weight.{weight_of, font_weight, stem_v}
use Rattle.pdf_values.specs.declared.looks.bounds.Bounds.TheVariants.{Font, Kept}
use Rattle.pdf_values.specs.declared.permission.Rights.TheVariants.{AsSaid, Held}
use Rattle.pdf_values.specs.declared.permission.Usage.TheVariants.{Editable, PreviewAndPrint}

-- bytes in hexadecimal
abbrev digit : ℕ → ℕ
digit c = if nat_lt c 58 then c - 48 else c - 87

abbrev hex : List ℕ → List ℕ
hex (a ∷ b ∷ rest) = (16 * digit a + digit b) ∷ hex rest
hex (a ∷ []) = []
hex [] = []

abbrev regular_head : Option (List ℕ)
regular_head = Some (hex (codes "000100000001000044b01bf25f0f3cf50003080000000000d693a40000000000d693a4000000fed4079c076c00000003000200000000"))

abbrev regular_hhea : Option (List ℕ)
regular_hhea = Some (hex (codes "00010000073efe4e0000080000000001079c00010000000000000000000000000000000c"))

abbrev regular_os2 : Option (List ℕ)
regular_os2 = Some (hex (codes "0004050d015e000500080000000000000000000000000000000000000000020000000000000000000000000000034200000000000000000000003f3f3f3f00400041ffff05dcfe0c000007d001f4000000000000000003e80581000000200000"))

abbrev regular_post : Option (List ℕ)
regular_post = Some (hex (codes "00030000fff6999a000000000000000000000000000000000000000000000000"))

abbrev regular_name : Option (List ℕ)
regular_name = Some (hex (codes "00000003002a0003000104090001000800000003000104090002000e0008000300010409000600180016004d0061006400650052006500670075006c00610072004d006100640065002d0052006500670075006c00610072"))

abbrev bold_head : Option (List ℕ)
bold_head = Some (hex (codes "00010000000100009ec859b35f0f3cf5000303e800000000d693a40000000000d693a4000000ff6e03b703a000000003000200000000"))

abbrev bold_hhea : Option (List ℕ)
bold_hhea = Some (hex (codes "0001000000000000000003e80000000003b700010000000000000000000000000000000c"))

abbrev bold_os2 : Option (List ℕ)
bold_os2 = Some (hex (codes "000102770007000501040000000000000000000000000000000000000000000000000000000000000000000000034200000000000000000000003f3f3f3f00200041ffff0320ff380000038400fa0000000000000000"))

abbrev bold_post : Option (List ℕ)
bold_post = Some (hex (codes "0003000000000000000000000000000100000000000000000000000000000000"))

abbrev bold_name : Option (List ℕ)
bold_name = Some (hex (codes "00000003002a000300010409000100080000000300010409000200080008000300010409000600120010004d0061006400650042006f006c0064004d006100640065002d0042006f006c0064"))

-- ---- outlines of TrueType

pub regular_permission : permission regular_os2 ≡ record { usage = Editable; subsetting = true; outlines = true }
regular_permission = refl

pub regular_heights : heights_of None regular_hhea regular_os2 regular_head None None (units_per_em regular_head) ≡ record { ascent = pos 905; descent = negsuc 211; cap_height = pos 688; x_height = Some (pos 488) }
unfolding thousandths nearest varied source_line first_moved other_line line_of height heights_by
regular_heights = refl

pub regular_angle : angle regular_post ≡ negsuc 9399
unfolding thousandths nearest
regular_angle = refl

pub regular_flags : flags_by regular_post regular_os2 (is_italic regular_os2 regular_head (angle regular_post)) ≡ 70
unfolding thousandths nearest
regular_flags = refl

pub regular_weight : weight_of regular_os2 regular_head ≡ 350
regular_weight = refl

pub regular_font_weight : font_weight 350 ≡ 400
regular_font_weight = refl

pub regular_stem : stem_v None 350 ≡ 64
regular_stem = refl

pub regular_bounds : bounds_of Font regular_head None (units_per_em regular_head) ≡ record { x_min = pos 0; y_min = negsuc 146; x_max = pos 952; y_max = pos 928 }
unfolding lowered raised
regular_bounds = refl

pub regular_is_named : postscript_name regular_name None ≡ codes "Made-Regular"
unfolding string_from
regular_is_named = refl

-- ---- outlines of CFF, lines that `hhea` doesn't say, `OS/2` of version 1

pub bold_permission : permission bold_os2 ≡ record { usage = PreviewAndPrint; subsetting = true; outlines = true }
bold_permission = refl

pub bold_is_permitted : is_permitted (permission bold_os2) AsSaid ≡ true
bold_is_permitted = refl

-- the same fsType in version 2
abbrev second_os2 : Option (List ℕ)
second_os2 = Some (hex (codes "00020277000700050104"))

pub second_permission : permission second_os2 ≡ record { usage = PreviewAndPrint; subsetting = false; outlines = true }
second_permission = refl

pub second_is_refused : is_permitted (permission second_os2) AsSaid ≡ false
second_is_refused = refl

pub second_is_held : is_permitted (permission second_os2) Held ≡ true
second_is_held = refl

pub bold_heights : heights_of None bold_hhea bold_os2 bold_head None None (units_per_em bold_head) ≡ record { ascent = pos 800; descent = negsuc 199; cap_height = pos 800; x_height = None }
unfolding thousandths nearest varied source_line first_moved other_line line_of height heights_by
bold_heights = refl

pub bold_flags : flags_by bold_post bold_os2 (is_italic bold_os2 bold_head (angle bold_post)) ≡ 5
unfolding thousandths nearest
bold_flags = refl

pub bold_weight : weight_of bold_os2 bold_head ≡ 700
bold_weight = refl

pub bold_bounds : bounds_of Font bold_head None (units_per_em bold_head) ≡ record { x_min = pos 0; y_min = negsuc 145; x_max = pos 951; y_max = pos 928 }
unfolding lowered raised
bold_bounds = refl

pub bold_is_named : postscript_name bold_name None ≡ codes "Made-Bold"
unfolding string_from
bold_is_named = refl

-- ---- fonts that say little

pub nothing_is_unsaid : permission None ≡ unsaid
nothing_is_unsaid = refl

pub nothing_has_units : units_per_em None ≡ 1000
nothing_has_units = refl

pub nothing_has_heights : heights_of None None None None None None 1000 ≡ record { ascent = pos 0; descent = pos 0; cap_height = pos 0; x_height = None }
unfolding thousandths nearest varied source_line first_moved other_line line_of height heights_by
nothing_has_heights = refl

pub nothing_has_flags : flags_by None None (is_italic None None (pos 0)) ≡ 4
nothing_has_flags = refl

-- `post` says -32767.5 degrees; the last angles, of 90 degrees less a 65536th, and the first numbers that aren't
pub damaged_has_no_angle : angle (Some (hex (codes "0003000080008000"))) ≡ pos 0
damaged_has_no_angle = refl

pub last_angles : angle_of (pos 5898239) ∷ angle_of (negsuc 5898238) ∷ angle_of (pos 5898240) ∷ angle_of (negsuc 5898239) ∷ [] ≡ pos 90000 ∷ negsuc 89999 ∷ pos 0 ∷ pos 0 ∷ []
unfolding thousandths nearest
last_angles = refl

pub nothing_weighs : weight_of None None ≡ 400
nothing_weighs = refl

pub nothing_has_no_box : bounds_of Font None None 1000 ≡ record { x_min = pos 0; y_min = pos 0; x_max = pos 0; y_max = pos 0 }
unfolding lowered raised
nothing_has_no_box = refl

pub nothing_has_no_name : postscript_name None None ≡ []
nothing_has_no_name = refl

-- `OS/2` cut before fsType, and before fsSelection
pub cut_is_unsaid : permission (option_map (take 9) bold_os2) ≡ unsaid
cut_is_unsaid = refl

pub cut_still_weighs : weight_of (option_map (take 9) bold_os2) None ≡ 700
cut_still_weighs = refl

pub cut_has_heights : heights_of None bold_hhea (option_map (take 62) bold_os2) bold_head None (Some (pos 500)) 1000 ≡ record { ascent = pos 928; descent = negsuc 145; cap_height = pos 928; x_height = Some (pos 500) }
unfolding thousandths nearest varied source_line first_moved other_line line_of height heights_by
cut_has_heights = refl

-- bit 7 of fsSelection
pub typographic_heights : heights_of None regular_hhea (Some (hex (codes "0004050d015e000500080000000000000000000000000000000000000000020000000000000000000000000000034200000000000000000000003f3f3f3f00c00041ffff05dcfe0c000007d001f4000000000000000003e80581000000200000"))) regular_head None None 2048 ≡ record { ascent = pos 732; descent = negsuc 243; cap_height = pos 688; x_height = Some (pos 488) }
unfolding thousandths nearest varied source_line first_moved other_line line_of height heights_by
typographic_heights = refl

-- the box of the kept glyphs is chosen, and replaces one without a width
pub kept_bounds : bounds_of Kept regular_head (Some (record { x_min = negsuc 0; y_min = pos 0; x_max = pos 1; y_max = pos 2048 })) 2048 ≡ record { x_min = negsuc 0; y_min = pos 0; x_max = pos 1; y_max = pos 1000 }
unfolding lowered raised
kept_bounds = refl

pub flat_bounds : bounds_of Font (Some (hex (codes "00010000000100005f360e455f0f3cf50003080000000000d693a40000000000d693a4000005fed40005076c00000003000200000000"))) (Some (record { x_min = pos 1; y_min = pos 1; x_max = pos 2; y_max = pos 2 })) 1000 ≡ record { x_min = pos 1; y_min = pos 1; x_max = pos 2; y_max = pos 2 }
unfolding lowered raised
flat_bounds = refl

-- halves go up
pub half_above : thousandths (pos 1) 2000 ≡ pos 1
unfolding thousandths nearest
half_above = refl

pub half_below : thousandths (negsuc 0) 2000 ≡ pos 0
unfolding thousandths nearest
half_below = refl

-- old classes, and one that is too great
pub ninth_class : weight_of (Some (hex (codes "000000000009"))) None ≡ 900
ninth_class = refl

pub great_class : weight_of (Some (hex (codes "0000000003e9"))) None ≡ 1000
great_class = refl

pub half_a_hundred : font_weight 250 ≡ 300
half_a_hundred = refl

-- a Macintosh name, a Windows name in German, and one in English, which is taken unless its string is cut
abbrev three_names : List ℕ
three_names = hex (codes "00000003002a0001000000000006000100000003000104070006000200010003000104090006000200034d00440045")

pub english_is_taken : postscript_name (Some three_names) None ≡ codes "E"
unfolding string_from
english_is_taken = refl

pub german_is_taken : postscript_name (Some (take 46 three_names)) None ≡ codes "D"
unfolding string_from
german_is_taken = refl

pub macintosh_is_taken : postscript_name (Some (take 44 three_names)) None ≡ codes "M"
unfolding string_from
macintosh_is_taken = refl

pub index_is_taken : postscript_name (Some (take 42 three_names)) (Some (codes "Made Bold")) ≡ codes "MadeBold"
unfolding string_from
index_is_taken = refl
