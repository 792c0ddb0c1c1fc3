-- Format 4: ranges of characters below 65536, with glyphs in a row or in a list (OpenType, "cmap", "Format 4: Segment
-- mapping to delta values").
use Rattle.std.specs.Prelude.{ℕ, zero, suc, ◌+◌, ◌-◌, ◌*◌, ◌/◌, ◌%◌, ◌==◌, nat_le, if◌then◌else◌, List, Option, Some}
use Rattle.std.specs.Prelude.{None}
use Rattle.std.specs.Option.{option_and_then, option_map}
use Rattle.subsetter_base.specs.Bytes.{number}

-- how many segments there are: segCountX2 is at byte 6
abbrev pub segment_count : List ℕ → Option ℕ
segment_count table = option_map (λ twice. twice / 2) (number table 6 2)

-- endCode of segment i; the list is at byte 14
abbrev pub end_code : List ℕ → ℕ → Option ℕ
end_code table i = number table (14 + 2 * i) 2

-- startCode, idDelta and idRangeOffset of segment i of n: lists that follow, after two bytes of padding
abbrev pub start_code : List ℕ → ℕ → ℕ → Option ℕ
start_code table n i = number table (16 + 2 * n + 2 * i) 2

abbrev pub id_delta : List ℕ → ℕ → ℕ → Option ℕ
id_delta table n i = number table (16 + 4 * n + 2 * i) 2

-- where idRangeOffset of segment i is
abbrev pub id_range_offset_at : ℕ → ℕ → ℕ
id_range_offset_at n i = 16 + 6 * n + 2 * i

-- a glyph and a delta, modulo 65536
abbrev pub shifted : ℕ → ℕ → ℕ
shifted glyph delta = (glyph + delta) % 65536

-- the glyph of a number in glyphIdArray, where 0 means none
abbrev pub listed : ℕ → ℕ → Option ℕ
listed glyph delta = if glyph == 0 then None else Some (shifted glyph delta)

-- the glyph of a character at a distance from the start of its segment: by idDelta alone where idRangeOffset is 0, and
-- else by the number in glyphIdArray that is this far after that offset
abbrev pub glyph_at : List ℕ → ℕ → ℕ → ℕ → ℕ → ℕ → Option ℕ
glyph_at table place offset delta c start =
    if offset == 0 then Some (shifted c delta)
    else option_and_then (λ glyph. listed glyph delta) (number table (place + offset + 2 * (c - start)) 2)

-- the glyph of a character in segment i, whose end isn't below it
abbrev pub in_segment : List ℕ → ℕ → ℕ → ℕ → Option ℕ
in_segment table n i c =
    option_and_then (λ start.
    option_and_then (λ delta.
    option_and_then (λ offset.
    if nat_le start c then glyph_at table (id_range_offset_at n i) offset delta c start else None)
    (number table (id_range_offset_at n i) 2)) (id_delta table n i)) (start_code table n i)

-- the glyph of a character by the next segments from segment i on, of n in all: that of the first whose end isn't below
-- it
unfoldable pub by_segments : List ℕ → ℕ → ℕ → ℕ → ℕ → Option ℕ
by_segments table n zero i c = None
by_segments table n (suc more) i c =
    option_and_then (λ end. if nat_le c end then in_segment table n i c else by_segments table n more (i + 1) c)
    (end_code table i)

-- the glyph of a character by a table of format 4
abbrev pub glyph_by_segments : List ℕ → ℕ → Option ℕ
glyph_by_segments table c = option_and_then (λ n. by_segments table n n 0 c) (segment_count table)
