-- What a face is, as lines and as one JSON object (RFC 8259).
use Rattle.std.specs.Prelude.{ℕ, ◌/◌, ◌%◌, ◌==◌, not, Bool, true, false, List, [], ◌∷◌, ◌++◌, map, Option, Some, None}
use Rattle.std.specs.Prelude.{codes, decimal}
use Rattle.std.specs.Option.{option_copied}
use Rattle.subsetter_base.specs.declared.tag.Tag.{Tag}
use Rattle.plain_text.specs.Characters.{shown}
use Rattle.subset_lines.specs.Faces.Outlines.{outlines_line, outlines_members}
use Rattle.subset_lines.specs.Faces.Pictures.{pictures_line, pictures_member}
use Rattle.subset_lines.specs.Objects.Json.{number_or_null}
use Rattle.plain_text.specs.Quoted.{quoted}
use Rattle.subset_lines.specs.declared.faces.info.face.Info.{Info}

-- ---- what its maker permits (OpenType, "OS/2", "fsType")

-- a bit, by its mask
abbrev pub has_bit : ℕ → ℕ → Bool
has_bit bits mask = not (bits / mask % 2 == 0)

abbrev pub word_if : Bool → List ℕ → List (List ℕ)
word_if true word = word ∷ []
word_if false word = []

-- none of the bits 1 to 3 is installable embedding
abbrev pub words_of_bits : ℕ → List (List ℕ)
words_of_bits bits =
    ((((word_if (bits % 16 / 2 == 0) (codes "installable embedding")
    ++ word_if (has_bit bits 2) (codes "restricted license embedding"))
    ++ word_if (has_bit bits 4) (codes "preview and print embedding"))
    ++ word_if (has_bit bits 8) (codes "editable embedding"))
    ++ word_if (has_bit bits 256) (codes "no subsetting"))
    ++ word_if (has_bit bits 512) (codes "bitmap embedding only")

abbrev pub permission_words : Option ℕ → List (List ℕ)
permission_words None = []
permission_words (Some bits) = words_of_bits bits

-- ---- lines

unfoldable pub permission_line : List ℕ → List ℕ
permission_line word = codes "permission " ++ word ++ codes "\n"

abbrev pub permission_lines : List (List ℕ) → List ℕ
permission_lines [] = []
permission_lines (word ∷ words) = permission_line word ++ permission_lines words

abbrev pub glyphs_line : Option ℕ → List ℕ
glyphs_line None = codes "glyphs not given\n"
glyphs_line (Some count) = codes "glyphs " ++ decimal count ++ codes "\n"

unfoldable pub counts_lines : ℕ → ℕ → List ℕ
counts_lines faces bytes = codes "faces " ++ decimal faces ++ codes "\nbytes " ++ decimal bytes ++ codes "\n"

abbrev pub reason_line : Option (List ℕ) → List ℕ
reason_line None = []
reason_line (Some reason) = codes "reason: " ++ reason ++ codes "\n"

-- what `subset` returns for all glyphs
abbrev pub refusal_lines : Option (List ℕ) → Option (List ℕ) → List ℕ
refusal_lines None reason = codes "subset accepts every glyph\n"
refusal_lines (Some refusal) reason = codes "subset refuses: " ++ refusal ++ codes "\n" ++ reason_line reason

-- `table glyf 46248`
unfoldable pub table_line : Tag → ℕ → List ℕ
table_line tag size = codes "table " ++ map shown tag.0 ++ codes " " ++ decimal size ++ codes "\n"

abbrev pub table_lines : List (Tag × ℕ) → List ℕ
table_lines [] = []
table_lines (t ∷ tables) = table_line t.0 t.1 ++ table_lines tables

abbrev pub head_lines : Info → List (List ℕ) → List ℕ
head_lines info words =
    outlines_line info.outlines info.is_variable ++ counts_lines info.faces info.bytes ++ glyphs_line info.glyphs
    ++ pictures_line info.pictures.now ++ permission_lines words
    ++ refusal_lines (option_copied info.refusal) (option_copied info.reason)

abbrev pub info_lines : Info → List ℕ
info_lines info = head_lines info (permission_words info.permission) ++ table_lines info.tables.now

-- ---- JSON

-- strings, with a text before the first and a comma between each two
abbrev pub strings : List ℕ → List (List ℕ) → List ℕ
strings before [] = []
strings before (word ∷ words) = (before ++ quoted word) ++ strings (codes ",") words

abbrev pub string_or_null : Option (List ℕ) → List ℕ
string_or_null None = codes "null"
string_or_null (Some text) = quoted text

unfoldable pub table_object : Tag → ℕ → List ℕ
table_object tag size =
    codes "{\"tag\":" ++ quoted (map shown tag.0) ++ codes ",\"bytes\":" ++ decimal size ++ codes "}"

abbrev pub table_objects : List ℕ → List (Tag × ℕ) → List ℕ
table_objects before [] = []
table_objects before (t ∷ tables) = (before ++ table_object t.0 t.1) ++ table_objects (codes ",") tables

unfoldable pub counts_members : Info → List ℕ
counts_members info =
    codes ",\"faces\":" ++ decimal info.faces ++ codes ",\"bytes\":" ++ decimal info.bytes ++ codes ",\"glyphs\":"
    ++ number_or_null info.glyphs

unfoldable pub refusal_members : Info → List (List ℕ) → List ℕ
refusal_members info words =
    codes ",\"permission\":[" ++ strings [] words
    ++ (codes "],\"refusal\":" ++ string_or_null (option_copied info.refusal)
    ++ codes ",\"reason\":" ++ string_or_null (option_copied info.reason))

abbrev pub info_members : Info → List (List ℕ) → List ℕ
info_members info words =
    outlines_members info.outlines info.is_variable ++ counts_members info ++ pictures_member info.pictures.now
    ++ refusal_members info words ++ codes ",\"tables\":[" ++ table_objects [] info.tables.now ++ codes "]}\n"

abbrev pub info_json : Info → List ℕ
info_json info = info_members info (permission_words info.permission)
