-- The names of glyphs in `post` (OpenType, "post").
use Rattle.std.specs.Prelude.{ℕ, zero, suc, ◌+◌, ◌-◌, ◌*◌, ◌==◌, nat_le, nat_lt, if◌then◌else◌, List, [], ◌∷◌, length}
use Rattle.std.specs.Prelude.{take, drop, get_or, Option, Some, None}
use Rattle.std.specs.Option.{option_and_then, option_map_or}
use Rattle.subsetter_base.specs.Bytes.{number}
use Rattle.glyph_names.specs.Standard.{macintosh_names}

-- the Pascal string at the front, a length byte and its bytes, and what follows it; none where it is cut
abbrev pub first_string : List ℕ → Option (List ℕ × List ℕ)
first_string [] = None
first_string (len ∷ bytes) = if nat_le len (length bytes) then Some (take len bytes, drop len bytes) else None

-- the next n of these strings, as far as they are there
unfoldable pub pascal_strings : ℕ → List ℕ → List (List ℕ)
pascal_strings zero bytes = []
pascal_strings (suc n) bytes = option_map_or (λ s. s.0 ∷ pascal_strings n s.1) (first_string bytes) []

-- the bytes after the indexes, which the count at byte 32 says
abbrev pub past_indexes : List ℕ → List ℕ
past_indexes post = option_map_or (λ count. drop (34 + 2 * count) post) (number post 32 2) []

-- the font's own names: as an index has 16 bits, and those below 258 are of the Macintosh, 65,278 can be named
abbrev pub own_names : List ℕ → List (List ℕ)
own_names post = pascal_strings 65278 (past_indexes post)

-- the name of an index, by the names of the Macintosh and the font's own
abbrev pub name_of_index : List (List ℕ) → List (List ℕ) → ℕ → List ℕ
name_of_index macintosh own index = if nat_lt index 258 then get_or macintosh index [] else get_or own (index - 258) []

-- version 2.0: the indexes begin at byte 34
abbrev pub name_by_index : List (List ℕ) → List (List ℕ) → List ℕ → ℕ → ℕ → List ℕ
name_by_index macintosh own post glyph count =
    if nat_lt glyph count then option_map_or (name_of_index macintosh own) (number post (34 + 2 * glyph) 2) [] else []

-- version 1.0 has the names of the Macintosh; a version that isn't 1.0 or 2.0 has none that are read
abbrev pub name_by_version : List (List ℕ) → List (List ℕ) → List ℕ → ℕ → ℕ → List ℕ
name_by_version macintosh own post glyph version =
    if version == 0x00010000 then get_or macintosh glyph []
    else (if version == 0x00020000 then option_map_or (name_by_index macintosh own post glyph) (number post 32 2) []
    else [])

-- the name of a glyph; an empty one where there is none
abbrev pub name_by_names : List (List ℕ) → List (List ℕ) → List ℕ → ℕ → List ℕ
name_by_names macintosh own post glyph = option_map_or (name_by_version macintosh own post glyph) (number post 0 4) []

unfoldable pub post_name : List ℕ → ℕ → List ℕ
post_name post glyph = name_by_names macintosh_names (own_names post) post glyph
