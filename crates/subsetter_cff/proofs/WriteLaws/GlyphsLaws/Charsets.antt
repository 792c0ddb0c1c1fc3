-- The charset and FDSelect that are laid out, read again.
use Rattle.std.proofs.Common.{◌≡◌, ℕ, zero, suc, ◌-◌, ◌<◌, ◌≤◌, List, ◌∷◌, ◌++◌, length, Some, refl, ap, arith, sym}
use Rattle.std.specs.Prelude.{slice_index}
use Rattle.std.specs.Int.{w16, to_be_bytes}
use Rattle.std.proofs.lemmas.Bool.{lt-ltb, le-ltb, le-leb}
use Rattle.std.proofs.lemmas.Option.{slice_get-get_or}
use Rattle.subsetter_cffdata.specs.Bytes.{card}
use Rattle.subsetter_cffdata.proofs.NumeralsLaws.Cards.{byte_again, part_again, card_again, be_bytes2}
use Rattle.subsetter_cff.specs.Read.Charset.{in_ranges as in_charset_ranges, in_format, in_charset}
use Rattle.subsetter_cff.specs.Read.FdArray.FontDicts.{FontDictSelect, Each, Ranges, select_at, selected, in_ranges}
use Rattle.subsetter_cff.specs.Write.Laying.ReadsAs.{IsForEach, CharsetIsRead, SelectIsRead}
use Rattle.subsetter_cff.specs.Write.Laying.Layout.{Select, First, Numbers, charset_bytes, select_bytes}

two : (n : ℕ) (rest : List ℕ) → n < 65536 → card 2 (to_be_bytes w16 n ++ rest) ≡ Some (n, rest)
two n rest lt = card_again 2 n refl (be_bytes2 n lt) rest

-- ---- the charset
one_range : (glyph last : ℕ) (rest : List ℕ) → last < 65536 → glyph ≤ last → in_charset_ranges (suc glyph) glyph (to_be_bytes w16 1 ++ (to_be_bytes w16 last ++ rest)) ≡ Some (suc glyph)
unfolding in_charset_ranges
one_range glyph last rest lt le =
    rw (two 1 (to_be_bytes w16 last ++ rest) (omega arith), two last rest lt, le-leb glyph last le) (ap Some (omega arith))

pub charset_again : (glyphs glyph : ℕ) (rest : List ℕ) → glyphs ≤ 65535 → glyph < glyphs → in_charset (charset_bytes glyphs ++ rest) glyph ≡ Some glyph
unfolding charset_bytes in_charset in_format
charset_again glyphs zero rest few lt = refl
charset_again glyphs (suc glyph) rest few lt =
    let more = le-ltb glyphs 2 (omega arith) in
    rw (more, byte_again 2 (to_be_bytes w16 1 ++ (to_be_bytes w16 (glyphs - 2) ++ rest))) (one_range glyph (glyphs - 2) rest (omega arith) (omega arith))

-- ---- FDSelect
abbrev pub seen : Select → ℕ → List ℕ → FontDictSelect
seen First glyphs rest = Ranges (to_be_bytes w16 1 ++ (to_be_bytes w16 0 ++ (0 ∷ (to_be_bytes w16 glyphs ++ rest))))
seen (Numbers numbers) glyphs rest = Each numbers

pub select_again : (s : Select) (glyphs : ℕ) (rest : List ℕ) → IsForEach glyphs s → select_at glyphs (select_bytes glyphs s ++ rest) ≡ Some (seen s glyphs rest)
unfolding select_at select_bytes
select_again First glyphs rest h = rw (byte_again 3 (to_be_bytes w16 1 ++ (to_be_bytes w16 0 ++ (0 ∷ (to_be_bytes w16 glyphs ++ rest))))) refl
select_again (Numbers numbers) glyphs rest h = rw (byte_again 0 (numbers ++ rest), part_again numbers glyphs (sym h) rest) refl

pub select_of_first : (glyphs glyph : ℕ) (rest : List ℕ) → glyphs ≤ 65535 → glyph < glyphs → selected (seen First glyphs rest) glyph ≡ Some 0
unfolding selected in_ranges
select_of_first glyphs glyph rest few lt =
    let from = to_be_bytes w16 0 ++ (0 ∷ (to_be_bytes w16 glyphs ++ rest)) in
    rw (two 1 from (omega arith), two 0 (0 ∷ (to_be_bytes w16 glyphs ++ rest)) (omega arith), byte_again 0 (to_be_bytes w16 glyphs ++ rest), two glyphs rest (omega arith), le-leb 0 glyph (omega arith), lt-ltb glyph glyphs lt) refl

pub select_of_each : (numbers : List ℕ) (glyphs glyph : ℕ) (rest : List ℕ) → glyph < length numbers → selected (seen (Numbers numbers) glyphs rest) glyph ≡ Some (slice_index numbers glyph)
unfolding selected
select_of_each numbers glyphs glyph rest lt = slice_get-get_or numbers glyph 0 lt

-- ---- as laws
pub charset_is_read : CharsetIsRead
charset_is_read glyphs glyph rest few lt = charset_again glyphs glyph rest few lt

pub select_is_read : SelectIsRead
select_is_read First glyphs glyph rest each few lt = rw (select_again First glyphs rest each) (select_of_first glyphs glyph rest few lt)
select_is_read (Numbers numbers) glyphs glyph rest each few lt = rw (select_again (Numbers numbers) glyphs rest each) (select_of_each numbers glyphs glyph rest (omega (arith, each)))
