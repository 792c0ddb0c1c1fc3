-- A table that was laid out is read afresh as its parts.
use Rattle.std.proofs.Common.{◌≡◌, ℕ, ◌+◌, ◌<◌, ◌≤◌, ◌^◌, List, [], ◌∷◌, ◌++◌, map, length, drop, Option, Some, None, refl, ap, arith, ◌∙◌, append_assoc, length-append}
use Rattle.std.specs.Prelude.{slice_get, slice_index, codes, true}
use Rattle.std.proofs.lemmas.List.{length-map}
use Rattle.std.proofs.lemmas.Option.{slice_get-map, slice_get-get_or}
use Rattle.subsetter_cffdata.specs.Indexes.Index.{index}
use Rattle.subsetter_cffdata.specs.Numerals.Numbers.{as_i32, in_i32}
use Rattle.subsetter_cffdata.specs.Dicts.Dict.{entries, dict}
use Rattle.subsetter_cffdata.specs.Numerals.Values.{value}
use Rattle.subsetter_cffdata.proofs.IndexesLaws.Indexes.{index_again}
use Rattle.subsetter_cffdata.proofs.DictsLaws.Dicts.{dict_again}
use Rattle.subsetter_cff.specs.Read.Entries.Lookup.{last_of}
use Rattle.subsetter_cff.specs.Read.Strings.{FontString, standard_strings, string_by}
use Rattle.subsetter_cff.specs.Read.Cff.{Cff, at_offset, char_strings, is_cid_keyed}
use Rattle.subsetter_cff.specs.Read.Charset.{cid_of}
use Rattle.subsetter_cff.specs.Read.FdArray.FontDicts.{font_dicts, selected, font_dict_select, font_dict_number, font_dict_of}
use Rattle.subsetter_cff.specs.Read.FdArray.Private.{private_at, private_of}
use Rattle.subsetter_cff.specs.Read.Entries.Matrices.{own_matrix as own_matrix_of, stated_matrices, font_dict_name}
use Rattle.subsetter_cff.specs.Read.FdArray.Keying.{keying_by, keying}
use Rattle.subsetter_cff.specs.Read.Entries.Operators.{charset_operator, char_strings_operator, font_dicts_operator, font_dict_select_operator}
use Rattle.subsetter_cff.specs.Write.Laying.Layout.{FontDict, Select, First, Numbers, Parts, given_strings, strings, integer, private_bytes, privates, entries_of_font_dict, font_dicts_from, font_dicts_of, select_of, table_offsets, charset_offset, privates_offset, fd_select_offset, fd_array_offset, char_strings_offset, cff_table}
use Rattle.subsetter_cff.specs.Write.Laying.Fits.{Fits, FitsString, FitsFontDict, FitsSelect}
use Rattle.subsetter_cff.specs.Write.Laying.ReadsAs.{IsForEach, number_in, font_dict_in, adobe_identity, GlyphReadsAs, ReadsAs, LaidOutIsRead}
use Rattle.subsetter_cff.proofs.WriteLaws.StringsLaws.Strings.{IsNamed, stay_first, get_at, copyright_named, notice_named, font_name_named, font_dict_named, string_operand_is, string_again, custom_again}
use Rattle.subsetter_cff.proofs.ReadLaws.EntriesLaws.Lookups.{number_if}
use Rattle.subsetter_cff.proofs.WriteLaws.NewDictsLaws.Tops.{registry_is, charset_is, char_strings_is, font_dicts_is, select_is, matrix_is, box_is, copyright_is, notice_is, font_name_is}
use Rattle.subsetter_cff.proofs.WriteLaws.LayingLaws.Places.{charset_stands, select_stands, font_dicts_stand, char_strings_stand, before_privates, length-before_privates, privates_in_table}
use Rattle.subsetter_cff.proofs.WriteLaws.GlyphsLaws.Charsets.{charset_again, seen, select_again, select_of_first, select_of_each}
use Rattle.subsetter_cff.proofs.WriteLaws.LayingLaws.Sizes.{char_strings_fit, font_dicts_fit, font_dict_fits}
use Rattle.subsetter_cff.proofs.WriteLaws.LayingLaws.Fronts.{laid_out, parts_read}
use Rattle.subsetter_cff.proofs.WriteLaws.NewDictsLaws.FontDicts.{Found, found, readable_all, all_at, offset_operand_is, font_dict_entries, own_matrix, own_name, private_again, private_named}

-- ---- what the offsets lead to
at_place : (cff : Cff) (operator : List ℕ) (n : ℕ) → last_of operator cff.top ≡ Some (integer n ∷ []) → n < 2 ^ 31 → at_offset cff operator ≡ Some (drop n cff.bytes)
unfolding at_offset
at_place cff operator n is lt = rw (is, offset_operand_is n lt) refl

pub chars_read : (p : Parts) → Fits p → char_strings (laid_out p) ≡ Some (map Some p.char_strings)
unfolding char_strings
chars_read p fits =
    let stands = char_strings_stand p in
    rw (at_place (laid_out p) char_strings_operator (char_strings_offset p) (char_strings_is p (table_offsets p)) fits.offset, stands.1, index_again p.char_strings (char_strings_fit p fits) stands.0) refl

cid_read : (p : Parts) → Fits p → (glyph : ℕ) → glyph < length p.char_strings → cid_of (laid_out p) glyph ≡ Some glyph
unfolding cid_of
cid_read p fits glyph lt =
    let stands = charset_stands p in
    rw (at_place (laid_out p) charset_operator (charset_offset p) (charset_is p (table_offsets p)) (omega (arith, fits.offset)), stands.1) (charset_again (length p.char_strings) glyph stands.0 fits.glyph_count lt)

pub dicts_read : (p : Parts) → Fits p → font_dicts (laid_out p) ≡ Some (map entries (font_dicts_from (strings p) (privates_offset p) p.font_dicts))
unfolding font_dicts font_dicts_of
dicts_read p fits =
    let items = font_dicts_from (strings p) (privates_offset p) p.font_dicts in
    let stands = font_dicts_stand p in
    rw (at_place (laid_out p) font_dicts_operator (fd_array_offset p) (font_dicts_is p (table_offsets p)) (omega (arith, fits.offset)), stands.1, index_again items (font_dicts_fit p fits) stands.0)
    (ap (λ (xs : List (List ℕ)). Some (map entries xs)) (readable_all items))

-- ---- the font dict of a glyph
-- what FDSelect is read as
pub record Selects (p : Parts) : Type 0 where
  pub rest : List ℕ
  pub is : font_dict_select (laid_out p) ≡ Some (seen p.select (length p.char_strings) rest)

of_each : (s : Select) (glyphs count : ℕ) → FitsSelect glyphs count s → IsForEach glyphs s
of_each First glyphs count fits = tt
of_each (Numbers numbers) glyphs count fits = fits.0

pub select_read : (p : Parts) → Fits p → Selects p
unfolding font_dict_select
select_read p fits =
    let stands = select_stands p in
    let count : length (map Some p.char_strings) ≡ length p.char_strings = length-map p.char_strings Some in
    record {
      rest = stands.0;
      is = rw (chars_read p fits, at_place (laid_out p) font_dict_select_operator (fd_select_offset p) (select_is p (table_offsets p)) (omega (arith, fits.offset)), stands.1, count)
          (select_again p.select (length p.char_strings) stands.0 (of_each p.select (length p.char_strings) (length p.font_dicts) fits.select));
    }

number_selected : (s : Select) (glyphs count glyph : ℕ) (rest : List ℕ) → FitsSelect glyphs count s → glyphs ≤ 65535 → glyph < glyphs → selected (seen s glyphs rest) glyph ≡ Some (number_in s glyph)
number_selected First glyphs count glyph rest fits few lt = select_of_first glyphs glyph rest few lt
number_selected (Numbers numbers) glyphs count glyph rest fits few lt = select_of_each numbers glyphs glyph rest (omega (arith, fits.0))

pub number_read : (p : Parts) → Fits p → (glyph : ℕ) → glyph < length p.char_strings → font_dict_number (laid_out p) glyph ≡ Some (number_in p.select glyph)
unfolding font_dict_number
number_read p fits glyph lt =
    let select = select_read p fits in
    rw select.is (number_selected p.select (length p.char_strings) (length p.font_dicts) glyph select.rest fits.select fits.glyph_count lt)

number_inside : (s : Select) (glyphs count glyph : ℕ) → FitsSelect glyphs count s → glyph < glyphs → number_in s glyph < count
number_inside First glyphs count glyph fits lt = omega (arith, fits)
number_inside (Numbers numbers) glyphs count glyph fits lt = all_at (λ n. n < count) numbers glyph (slice_index numbers glyph) fits.1 (slice_get-get_or numbers glyph 0 (omega (arith, fits.0)))

-- ---- strings
pub string_if : (p : Parts) (o : Option FontString) → FitsString o → length (strings p) + standard_strings ≤ 65536 → IsNamed p o → string_by (map Some (strings p)) (number_if (strings p) o) ≡ Some o
string_if p None fits few named = refl
string_if p (Some t) fits few named = string_again p t fits few named

-- Adobe and Identity are the first two
first_two : (p : Parts) → (more : List (List ℕ)) × (strings p ≡ codes "Adobe" ∷ codes "Identity" ∷ more)
unfolding strings
first_two p = stay_first (codes "Adobe" ∷ codes "Identity" ∷ []) (given_strings p)

keying_read : (p : Parts) → keying (laid_out p) ≡ Some adobe_identity
unfolding keying keying_by as_i32 in_i32
keying_read p =
    let two = first_two p in
    let adobe = custom_again (strings p) (codes "Adobe") 0 (ap (λ (l : List (List ℕ)). slice_get l 0) two.1) in
    let identity = custom_again (strings p) (codes "Identity") 1 (ap (λ (l : List (List ℕ)). slice_get l 1) two.1) in
    rw (registry_is p (table_offsets p), string_operand_is 391 (omega arith), adobe, string_operand_is 392 (omega arith), identity) refl

get_dict : (p : Parts) → Fits p → (glyph : ℕ) → glyph < length p.char_strings → (f : FontDict) × (font_dict_in p glyph ≡ Some f)
get_dict p fits glyph lt = get_at p.font_dicts (number_in p.select glyph) (number_inside p.select (length p.char_strings) (length p.font_dicts) glyph fits.select lt)

pub regroup : (a b c d e : List ℕ) → a ++ ((b ++ (c ++ d)) ++ e) ≡ (a ++ b) ++ (c ++ (d ++ e))
regroup a b c d e = simp append_assoc

-- ---- a glyph
module _ (p : Parts) (fits : Fits p) (glyph : ℕ) (lt : glyph < length p.char_strings) (f : FontDict) (is : font_dict_in p glyph ≡ Some f) where
  ss : List (List ℕ)
  ss = strings p

  own : Found (strings p) (privates_offset p) p.font_dicts (number_in p.select glyph) f
  own = found (strings p) (privates_offset p) p.font_dicts (number_in p.select glyph) f is

  place : ℕ
  place = privates_offset p + length own.front

  own_fits : FitsFontDict f
  own_fits = all_at FitsFontDict p.font_dicts (number_in p.select glyph) f fits.font_dicts is

  private_length : length own.front + length (private_bytes f) ≤ length (privates p.font_dicts)
  private_length = omega (arith, ap length own.is, length-append own.front (private_bytes f ++ own.back), length-append (private_bytes f) own.back)

  all_entries_again : entries (dict (entries_of_font_dict (strings p) (privates_offset p + length own.front) f)) ≡ font_dict_entries (strings p) (privates_offset p + length own.front) f
  all_entries_again = dict_again (entries_of_font_dict (strings p) (privates_offset p + length own.front) f)
      (font_dict_fits (strings p) (privates_offset p + length own.front) f own_fits fits.string_count (omega (arith, fits.offset, private_length)) (omega (arith, fits.offset, private_length)))

  dict_read : font_dict_of (laid_out p) glyph ≡ Some (font_dict_entries (strings p) (privates_offset p + length own.front) f)
  unfolding font_dict_of
  dict_read = rw (number_read p fits glyph lt, dicts_read p fits, slice_get-map entries (font_dicts_from (strings p) (privates_offset p) p.font_dicts) (number_in p.select glyph), own.dict_is) (ap Some all_entries_again)

  keyed : is_cid_keyed (laid_out p) ≡ true
  keyed = rw (registry_is p (table_offsets p)) refl

  private_there : private_at (cff_table p) (font_dict_entries (strings p) (privates_offset p + length own.front) f) ≡ Some (record { entries = f.private; subroutines = [] })
  private_there =
      let before = before_privates p ++ own.front in
      let after = select_of p ++ (font_dicts_of p ++ index p.char_strings) in
      let split : cff_table p ≡ before ++ (private_bytes f ++ (own.back ++ after)) =
      privates_in_table p ∙ ap (λ (l : List ℕ). before_privates p ++ (l ++ after)) own.is ∙ regroup (before_privates p) own.front (private_bytes f) own.back after in
      private_named (strings p) (cff_table p) (privates_offset p + length own.front) f _ (omega (arith, fits.offset, private_length)) (omega (arith, fits.offset, private_length))
      (private_again (cff_table p) before (own.back ++ after) (privates_offset p + length own.front) f own_fits split (omega (arith, length-before_privates p, length-append (before_privates p) own.front)))

  private_read : private_of (laid_out p) glyph ≡ Some (record { entries = f.private; subroutines = [] })
  unfolding private_of
  private_read = rw (keyed, dict_read) private_there

  matrices_read : stated_matrices (laid_out p) glyph ≡ Some (map value p.matrix, map value f.matrix)
  unfolding stated_matrices own_matrix_of
  matrices_read = rw (keyed, dict_read, matrix_is p (table_offsets p), own_matrix (strings p) (privates_offset p + length own.front) f) refl

  name_read : font_dict_name (laid_out p) glyph ≡ Some f.name
  unfolding font_dict_name
  name_read = rw (keyed, dict_read, own_name (strings p) (privates_offset p + length own.front) f)
      (string_if p f.name own_fits.name fits.string_count (font_dict_named p (number_in p.select glyph) f is))

  pub glyph_read : GlyphReadsAs p (laid_out p) glyph
  glyph_read = record { cid = cid_read p fits glyph lt; font_dict = f; font_dict_is = is; font_dict_number_is = number_read p fits glyph lt; private = private_read; leads_nowhere = own_fits.no_subroutines; matrices_are = matrices_read; font_dict_name_is = name_read }

-- ---- the whole
pub reads_as : (p : Parts) → Fits p → ReadsAs p (laid_out p)
reads_as p fits = record {
  keyed = keying_read p;
  names = refl;
  copyright = ap (string_by (map Some (strings p))) (copyright_is p (table_offsets p)) ∙ string_if p p.copyright fits.copyright fits.string_count (copyright_named p);
  notice = ap (string_by (map Some (strings p))) (notice_is p (table_offsets p)) ∙ string_if p p.notice fits.notice fits.string_count (notice_named p);
  font_name = ap (string_by (map Some (strings p))) (font_name_is p (table_offsets p)) ∙ string_if p p.font_name fits.font_name fits.string_count (font_name_named p);
  box = box_is p (table_offsets p);
  charstrings = chars_read p fits;
  no_subroutines = refl;
  glyphs = λ glyph lt. glyph_read p fits glyph lt (get_dict p fits glyph lt).0 (get_dict p fits glyph lt).1;
}

pub laid_out_is_read : LaidOutIsRead
laid_out_is_read p fits = record { cff = laid_out p; read = parts_read p fits; reads = reads_as p fits }
