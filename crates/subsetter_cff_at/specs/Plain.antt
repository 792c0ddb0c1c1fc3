-- The plain way to make a CFF table of a CFF2 table at coordinates: its parts, with the error that is returned where
-- they can't be made.
use Rattle.std.specs.Prelude.{ℕ, ◌+◌, nat_lt, min, Bool, is_some, ℤ, pos, List, [], ◌∷◌, length, map, slice_get}
use Rattle.std.specs.Prelude.{unwrap_or, Option, Some, None, Result, Ok}
use Rattle.std.specs.List.{list_any}
use Rattle.std.specs.Option.{ok_or}
use Rattle.subsetter_base.specs.Bytes.{◌>>=◌}
use Rattle.subsetter_base.specs.declared.error.Error.{Error}
use Rattle.subsetter_base.specs.declared.error.Error.TheVariants.{MalformedFont, OverflowError}
use Rattle.subsetter_cffdata.specs.Numerals.Numbers.{Number}
use Rattle.subsetter_cff.specs.Read.Opened.{check}
use Rattle.subsetter_blend.specs.Runs.Machine.{Setting}
use Rattle.subsetter_blend.specs.Resolved.{resolved}
use Rattle.subsetter_boxes.specs.CharstringBox.{charstring_box}
use Rattle.subsetter_boxes.specs.Joined.{font_box, least_box}
use Rattle.subsetter_points.specs.declared.bounds.Bounds.{Bounds}
use Rattle.subsetter_cff2.specs.Cff2.{Cff2, cff2_parts}
use Rattle.subsetter_cff2.specs.Made2.{NewDict, new_dicts, new_parts, made_of}
use Rattle.subsetter_cff2.specs.PrivateDicts.Private2.{font_dict_number, char_string}
use Rattle.subsetter_cff2.specs.Selection.UsedDicts.{counted_dicts, index_in}
use Rattle.subsetter_cff2.specs.Variation.{Variation, optional_variation, font_scalars}
use Rattle.subsetter_cff_at.specs.Request.{Request}
use Rattle.subsetter_cff_at.specs.Units.{top_matrix}

-- ---- the font dicts of the requested glyphs (OpenType, "CFF2": "FDSelect")
-- how many font dicts there are; FDSelect names those below 65536
abbrev pub dict_bound : Cff2 → ℕ
dict_bound cff = min (length cff.dicts) 65536

-- the number of a glyph's font dict, if there is that font dict
unfoldable pub dict_number : Cff2 → ℕ → Result ℕ Error
dict_number cff glyph = do
  number ← ok_or (font_dict_number cff glyph) MalformedFont
  check (nat_lt number (dict_bound cff)) MalformedFont (Ok number)

-- a glyph that isn't requested has none
abbrev pub number_if : Cff2 → ℕ → Option ℕ → Result (Option ℕ) Error
number_if cff glyph None = Ok None
number_if cff glyph (Some advance) = dict_number cff glyph >>= λ number. Ok (Some number)

-- those of glyphs from one on
abbrev pub numbers_from : Cff2 → ℕ → List (Option ℕ) → Result (List (Option ℕ)) Error
numbers_from cff glyph [] = Ok []
numbers_from cff glyph (one ∷ more) = do
  first ← number_if cff glyph one
  rest ← numbers_from cff (glyph + 1) more
  Ok (first ∷ rest)

-- the numbers that are there
abbrev pub with_number : Option ℕ → List ℕ → List ℕ
with_number None numbers = numbers
with_number (Some number) numbers = number ∷ numbers

abbrev pub present : List (Option ℕ) → List ℕ
present [] = []
present (one ∷ more) = with_number one (present more)

-- ---- charstrings (OpenType, "CFF2 CharString Format")
-- what a charstring under a private dict may call, and the scalars of regions
abbrev pub setting : Cff2 → Option Variation → List (Option (List ℕ)) → Setting
setting cff v locals =
    record { library = record { global = cff.subroutines; local = locals }; scalars = font_scalars v }

-- of a glyph under a private dict, with its advance: a number of a charstring has 16 bits
unfoldable pub glyph_text : Cff2 → Option Variation → ℕ → ℕ → NewDict → ℕ → ℕ → Result (List ℕ) Error
glyph_text cff v tokens depth dict glyph advance =
    check (nat_lt advance 32768) OverflowError
    (ok_or (char_string cff glyph) MalformedFont
    >>= resolved (setting cff v dict.subroutines) tokens depth dict.data_index (pos advance))

-- of one of the new private dicts
unfoldable pub placed_text : Cff2 → Option Variation → ℕ → ℕ → List NewDict → ℕ → ℕ → ℕ → Result (List ℕ) Error
placed_text cff v tokens depth dicts place glyph advance =
    ok_or (slice_get dicts place) MalformedFont >>= λ dict. glyph_text cff v tokens depth dict glyph advance

-- a glyph that isn't requested has none
abbrev pub text_if : Cff2 → Option Variation → ℕ → ℕ → List NewDict → ℕ → ℕ → Option ℕ → Result (Option (List ℕ)) Error
text_if cff v tokens depth dicts place glyph None = Ok None
text_if cff v tokens depth dicts place glyph (Some advance) =
    placed_text cff v tokens depth dicts place glyph advance >>= λ text. Ok (Some text)

-- those of glyphs from one on, under the private dicts at these places
abbrev pub texts_from : Cff2 → Option Variation → ℕ → ℕ → List NewDict → List ℕ → ℕ → List (Option ℕ)
    → Result (List (Option (List ℕ))) Error
texts_from cff v tokens depth dicts places glyph [] = Ok []
texts_from cff v tokens depth dicts [] glyph (one ∷ more) = Ok []
texts_from cff v tokens depth dicts (place ∷ places) glyph (one ∷ more) = do
  first ← text_if cff v tokens depth dicts place glyph one
  rest ← texts_from cff v tokens depth dicts places (glyph + 1) more
  Ok (first ∷ rest)

-- endchar, for a glyph that isn't requested
abbrev pub no_glyph : List ℕ
no_glyph = 14 ∷ []

abbrev pub filled : Option (List ℕ) → List ℕ
filled text = unwrap_or text no_glyph

abbrev pub all_filled : List (Option (List ℕ)) → List (List ℕ)
all_filled texts = map filled texts

-- how many bytes the charstrings of the requested glyphs have
abbrev pub text_size : Option (List ℕ) → ℕ
text_size None = 0
text_size (Some text) = length text

abbrev pub texts_size : List (Option (List ℕ)) → ℕ
texts_size [] = 0
texts_size (one ∷ more) = text_size one + texts_size more

-- ---- the whole
pub record Drawn : Type 0 where
  pub dicts : List NewDict
  -- the place of each glyph's private dict among them
  pub places : List ℕ
  pub texts : List (Option (List ℕ))

unfoldable pub drawn : Cff2 → Option Variation → ℕ → ℕ → List (Option ℕ) → Result Drawn Error
drawn cff v tokens depth glyphs = do
  numbers ← numbers_from cff 0 glyphs
  used ← counted_dicts (dict_bound cff) (present numbers)
  dicts ← new_dicts cff v used
  texts ← texts_from cff v tokens depth dicts (map (index_in used) numbers) 0 glyphs
  Ok (record { dicts = dicts; places = map (index_in used) numbers; texts = texts })

-- the boxes of these charstrings, and FontBBox: the least box around them, 0 where nothing is drawn
abbrev pub text_boxes : List (Option (List ℕ)) → List (Option Bounds)
text_boxes texts = map charstring_box (all_filled texts)

unfoldable pub drawn_box : Drawn → List ℤ
drawn_box d = font_box (least_box (text_boxes d.texts))

-- a table that is opened: its parts, FontMatrix, and what varies
pub record Opened : Type 0 where
  pub cff : Cff2
  pub matrix : Option (List Number)
  pub variation : Option Variation

unfoldable pub opened : List ℕ → Request → Result Opened Error
opened bytes r = do
  cff ← ok_or (cff2_parts bytes (length r.at)) MalformedFont
  matrix ← ok_or (top_matrix cff r.units) MalformedFont
  variation ← ok_or (optional_variation cff.store r.at) MalformedFont
  Ok (record { cff = cff; matrix = matrix; variation = variation })

unfoldable pub drawn_of : List ℕ → Request → ℕ → ℕ → Result Drawn Error
drawn_of bytes r tokens depth = opened bytes r >>= λ o. drawn o.cff o.variation tokens depth r.glyphs

abbrev pub parts_of : Opened → Drawn → Result (List ℕ) Error
parts_of o d = made_of (new_parts o.matrix (drawn_box d) d.dicts d.places (all_filled d.texts))

-- a glyph is requested
unfoldable pub some_requested : List (Option ℕ) → Bool
some_requested glyphs = list_any is_some glyphs

-- the table, where a glyph is requested
unfoldable pub made_table : List ℕ → Request → ℕ → ℕ → Result (List ℕ) Error
made_table bytes r tokens depth =
    check (some_requested r.glyphs) MalformedFont
    (opened bytes r >>= λ o. drawn o.cff o.variation tokens depth r.glyphs >>= parts_of o)
