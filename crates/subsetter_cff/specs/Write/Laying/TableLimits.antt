-- What is checked while a new table is written: no real is too long, an offset has 31 bits, an INDEX has 32.
use Rattle.std.specs.Prelude.{ℕ, ◌+◌, ◌^◌, ◌&&◌, nat_lt, if◌then◌else◌, Bool, true, false, List, [], ◌∷◌, length}
use Rattle.std.specs.Prelude.{Result, Ok}
use Rattle.std.specs.List.{concat}
use Rattle.subsetter_base.specs.Bytes.{◌>>=◌}
use Rattle.subsetter_base.specs.declared.error.Error.{Error}
use Rattle.subsetter_base.specs.declared.error.Error.TheVariants.{OverflowError}
use Rattle.subsetter_cffdata.specs.Indexes.Index.{index}
use Rattle.subsetter_cffdata.specs.Numerals.Numbers.{Number}
use Rattle.subsetter_cff.specs.declared.write.laying.table.TableParts.{TableParts}
use Rattle.subsetter_cff.specs.Write.Laying.FrontDraft.{named_bytes}
use Rattle.subsetter_cff.specs.Write.Laying.Layout.{FontDict, charset_bytes, select_bytes, privates, private_bytes}
use Rattle.subsetter_cff.specs.Write.Laying.Layout.{font_dicts_from}
use Rattle.subsetter_cff.specs.Write.Laying.PartsView.{select_of_table, top_by}
use Rattle.subsetter_cff.specs.Read.Opened.{check}
use Rattle.subsetter_cff.specs.Write.NewDicts.WrittenNumbers.{any_long, entry_numbers}
use Rattle.subsetter_cff.specs.Write.Laying.TableBy.{front_size, new_dicts}

-- goes on where a limit is kept
abbrev pub limit : Bool → Result (Unit {0}) Error
limit b = check b OverflowError (Ok tt)

-- none of the numbers is a real that is too long
abbrev pub short : List Number → Bool
short xs = if any_long xs then false else true

-- an offset of a DICT is at most 2147483647
abbrev pub is_offset : ℕ → Bool
is_offset n = nat_lt n (2 ^ 31)

abbrev pub has_index : List (List ℕ) → Bool
has_index items = nat_lt (length items) 65536 && nat_lt (length (concat items) + 1) (2 ^ 32)

-- of the matrix and the box of a top dict
unfoldable pub numbers_limits : List Number → List Number → Result (Unit {0}) Error
numbers_limits matrix box = limit (short matrix) >>= λ first. limit (short box)

-- of the front: the numbers of the top dict, its length, the strings, and the whole
unfoldable pub front_limits : List (List ℕ) → TableParts → Result (Unit {0}) Error
front_limits texts t = do
  numbers ← numbers_limits (top_by texts t).matrix (top_by texts t).box
  top ← limit (is_offset (length (named_bytes (top_by texts t)) + 33))
  indexed ← limit (has_index texts)
  limit (is_offset (front_size texts t))

-- of a font dict whose private dict is at a place
unfoldable pub dict_limits : ℕ → FontDict → Result (Unit {0}) Error
dict_limits place f = do
  private ← limit (short (entry_numbers f.private))
  end ← limit (is_offset (place + length (private_bytes f)))
  limit (short f.matrix)

-- of font dicts whose private dicts follow one another from a place on
abbrev pub dicts_limits : ℕ → List FontDict → Result (Unit {0}) Error
dicts_limits place [] = Ok tt
dicts_limits place (f ∷ fs) = dict_limits place f >>= λ first. dicts_limits (place + length (private_bytes f)) fs

-- of what is after a front of a size
unfoldable pub pieces_limits : List (List ℕ) → TableParts → ℕ → ℕ → Result (Unit {0}) Error
pieces_limits texts t glyphs size = do
  place ← limit (is_offset (size + length (charset_bytes glyphs)))
  dicts ← dicts_limits (size + length (charset_bytes glyphs)) (new_dicts t)
  limit (has_index (font_dicts_from texts (size + length (charset_bytes glyphs)) (new_dicts t)))

-- of the places of pieces after a front of a size
unfoldable pub offset_limits : ℕ → ℕ → ℕ → ℕ → ℕ → Result (Unit {0}) Error
offset_limits size charset private select dicts = do
  privates ← limit (is_offset (size + charset))
  after_privates ← limit (is_offset (size + charset + private))
  after_select ← limit (is_offset (size + charset + private + select))
  limit (is_offset (size + charset + private + select + dicts))

-- of what is after the front
unfoldable pub laid_limits : List (List ℕ) → TableParts → ℕ → ℕ → Result (Unit {0}) Error
laid_limits texts t glyphs size =
    let charset = length (charset_bytes glyphs) in
    let private = length (privates (new_dicts t)) in
    let select = length (select_bytes glyphs (select_of_table t.numbers)) in
    let dicts = length (index (font_dicts_from texts (size + charset) (new_dicts t))) in
    pieces_limits texts t glyphs size >>= λ pieces. offset_limits size charset private select dicts

unfoldable pub table_limits : List (List ℕ) → TableParts → ℕ → Result (Unit {0}) Error
table_limits texts t glyphs = do
  front ← front_limits texts t
  laid ← laid_limits texts t glyphs (front_size texts t)
  limit (nat_lt (length t.char_strings.items + 1) (2 ^ 32))
