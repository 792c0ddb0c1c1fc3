-- A new font whose `head` has the box of the kept glyphs (OpenType, "head", "Table Directory", "Calculating
-- Checksums").
use Rattle.std.specs.Prelude.{◌≡◌, ◌⊎◌, ℕ, ◌+◌, ◌*◌, ◌/◌, ◌&&◌, nat_le, is_some, Bool, if◌then◌else◌, List, [], ◌∷◌}
use Rattle.std.specs.Prelude.{◌++◌, length, take, drop, codes, Option, Some, None, ℤ}
use Rattle.std.specs.Int.{w16, w32, cast_unsigned, to_be_bytes}
use Rattle.std.specs.Option.{option_and_then, option_map, option_map_or}
use Rattle.subsetter_sfnt.specs.Laying.Checksum.{checksum}
use Rattle.subsetter_sfnt.specs.Container.{IsSoundContainer}
use Rattle.subsetter_sfnt.specs.Laying.Rows.{FontTables, present, rows, tags}
use Rattle.subsetter_sfnt.specs.Laying.Written.{adjustment, file as laid_out, kind_word}
use Rattle.subsetter_sfnt.specs.Read.{directory_records, find_record, records_at, table_in}
use Rattle.subsetter_sfnt.specs.declared.face.TableRecord.{TableRecord}
use Rattle.subsetter_sfnt.specs.declared.flavor.FontFlavor.{FontFlavor}
use Rattle.pdf_values.specs.declared.looks.bounds.Bounds.{Bounds}
use Rattle.pdf_values.specs.declared.looks.bounds.Bounds.TheVariants.{Font, Kept}
use Rattle.pdf_values.specs.declared.looks.bounds.GlyphBox.{GlyphBox}
use Rattle.pdf_source.specs.declared.boxed.HeadPlace.{HeadPlace}

-- ---- what is wanted

-- a signed number of two bytes
abbrev pub int16_bytes : ℤ → List ℕ
int16_bytes z = to_be_bytes w16 (cast_unsigned w16 z)

-- xMin, yMin, xMax and yMax
abbrev pub box_bytes : GlyphBox → List ℕ
box_bytes b = int16_bytes b.x_min ++ int16_bytes b.y_min ++ int16_bytes b.x_max ++ int16_bytes b.y_max

-- `head` with a box in its bytes 36 to 44
abbrev pub with_box : List ℕ → List ℕ → List ℕ
with_box box head = take 36 head ++ box ++ drop 44 head

-- where it has these bytes
abbrev pub if_room : List ℕ → List ℕ → List ℕ
if_room box head = if nat_le 44 (length head) then with_box box head else head

-- the tables of a font, of which `head` has a box
abbrev pub boxed_tables : GlyphBox → FontTables → FontTables
boxed_tables b t = record t { head = option_map (if_room (box_bytes b)) t.head }

-- two files that differ in sixteen bytes: a checksum in the directory, and in `head` checkSumAdjustment, and xMin,
-- yMin, xMax and yMax
pub record Differ (x y : List ℕ) : Type 0 where
  pub front : List ℕ
  pub between : List ℕ
  pub middle : List ℕ
  pub rest : List ℕ
  pub sum : List ℕ
  pub other_sum : List ℕ
  pub word : List ℕ
  pub other_word : List ℕ
  pub box : List ℕ
  pub other_box : List ℕ
  pub one : x ≡ front ++ (sum ++ (between ++ (word ++ (middle ++ (box ++ rest)))))
  pub other : y ≡ front ++ (other_sum ++ (between ++ (other_word ++ (middle ++ (other_box ++ rest)))))
  pub sums : (length sum ≡ 4) × (length other_sum ≡ 4)
  pub words : (length word ≡ 4) × (length other_word ≡ 4)
  pub boxes : (length box ≡ 8) × (length other_box ≡ 8)

-- of a file of tables and a box the file of the same tables, of which `head` has the box
pub record IsBoxed (b : GlyphBox) (old new : List ℕ) : Type 0 where
  pub kind : FontFlavor
  pub tables : FontTables
  pub old_is : old ≡ laid_out (kind_word kind) (present (rows tables))
  pub new_is : new ≡ laid_out (kind_word kind) (present (rows (boxed_tables b tables)))
  -- directory, checksums and padding are right
  pub sound : IsSoundContainer new (kind_word kind) (tags (present (rows tables)))
  pub differ : (old ≡ new) ⊎ Differ old new

-- ---- in a file

-- bytes in place of others, from an offset on
abbrev pub put : ℕ → List ℕ → List ℕ → List ℕ
put at bytes file = take at file ++ bytes ++ drop (at + length bytes) file

-- `head` with zeros in checkSumAdjustment and with a box
abbrev pub blank : HeadPlace → List ℕ → List ℕ → List ℕ
blank p box file = put (p.offset + 36) box (put (p.offset + 8) (0 ∷ 0 ∷ 0 ∷ 0 ∷ []) file)

-- with its checksum in the directory
abbrev pub summed : HeadPlace → List ℕ → List ℕ
summed p file = put (p.record_at + 4) (to_be_bytes w32 (checksum (take p.size (drop p.offset file)))) file

-- and with the adjustment of the whole file
abbrev pub settled : HeadPlace → List ℕ → List ℕ
settled p file = put (p.offset + 8) (to_be_bytes w32 (adjustment (checksum file))) file

-- whether the bytes that are put are in a file of this length
abbrev pub is_in : HeadPlace → ℕ → Bool
is_in p n = nat_le 44 p.size && (nat_le (p.offset + p.size) n && nat_le (p.record_at + 8) n)

abbrev pub boxed_at : HeadPlace → List ℕ → List ℕ → List ℕ
boxed_at p box file = if is_in p (length file) then settled p (summed p (blank p box file)) else file

-- ---- where `head` is

abbrev pub one_if : Bool → ℕ
one_if there = if there then 1 else 0

-- tags ascend: the record of `head` is after those of `CFF `, `cvt `, `fpgm` and `glyf`
abbrev pub records_before : (List ℕ → Option (List ℕ)) → ℕ
records_before find =
    one_if (is_some (find (codes "CFF ")))
    + (one_if (is_some (find (codes "cvt ")))
    + (one_if (is_some (find (codes "fpgm"))) + one_if (is_some (find (codes "glyf")))))

abbrev pub place_of : ℕ → TableRecord → HeadPlace
place_of before r = record { record_at = 12 + 16 * before; offset = r.offset; size = r.length }

abbrev pub place_by : List ℕ → List ℕ → Option HeadPlace
place_by file directory =
    option_map (place_of (records_before (table_in file directory)))
    (find_record (codes "head") (directory_records (length directory / 16) directory))

unfoldable pub head_place : List ℕ → Option HeadPlace
head_place file = option_and_then (place_by file) (records_at file 0)

-- ---- the whole

unfoldable pub boxed : GlyphBox → List ℕ → List ℕ
boxed b file = option_map_or (λ p. boxed_at p (box_bytes b) file) (head_place file) file

abbrev pub boxed_if : Option GlyphBox → List ℕ → List ℕ
boxed_if None file = file
boxed_if (Some b) file = boxed b file

-- the box of the kept glyphs, where FontBBox is to hold these
abbrev pub head_box : Bounds → Option GlyphBox → Option GlyphBox
head_box Font kept = None
head_box Kept kept = kept
