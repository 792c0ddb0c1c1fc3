-- What a JSON object says of a PDF.
use Rattle.std.specs.Prelude.{ℕ, List, [], ◌++◌, codes, decimal}
use Rattle.subset_lines.specs.Objects.Json.{numbers_from}
use Rattle.plain_text.specs.Quoted.{quoted}

-- the member, with a comma before it: its bytes, the name of its font, and the code of each glyph in order
abbrev pub pdf_member : ℕ → List ℕ → List ℕ → List ℕ
pdf_member size name codes_of =
    codes ",\"pdf\":{\"size\":" ++ decimal size ++ codes ",\"font\":" ++ quoted name
    ++ codes ",\"codes\":[" ++ numbers_from [] codes_of ++ codes "]}"
