-- The plain way to subset `post`, with the error that is returned for each fault.
use Rattle.std.specs.Prelude.{ℕ, ◌+◌, ◌-◌, List, [], ◌∷◌, ◌++◌, map, get_or, count_by, codes, Option, Some, None}
use Rattle.std.specs.Prelude.{Result, Ok, Err, nat_lt, nat_le, ◌==◌, if◌then◌else◌}
use Rattle.std.specs.Option.{ok_or}
use Rattle.std.specs.Int.{w16, to_be_bytes}
use Rattle.subsetter_base.specs.Bytes.{◌>>=◌, number}
use Rattle.subsetter_base.specs.declared.error.Error.{Error}
use Rattle.subsetter_base.specs.declared.error.Error.TheVariants.{MalformedFont, OverflowError}
use Rattle.subsetter.specs.declared.common.post.read.Version2Table.{Version2Table}
use Rattle.subsetter.specs.Common.Post.Read.{PostTable, post_table, glyph_index, name_of_index, names_in, pascal_bytes}
use Rattle.subsetter.specs.Common.Post.Read.{post_bytes}

-- what the code's table means
abbrev pub seen_post : Version2Table → PostTable
seen_post t = record { header = t.header.now; indexes = t.glyph_indexes; names_data = t.names_data.now }

-- the indexes of glyphs
abbrev pub indexes_of : PostTable → List ℕ → Result (List ℕ) Error
indexes_of t [] = Ok []
indexes_of t (g ∷ gs) = do
  i ← ok_or (glyph_index t g) MalformedFont
  is ← indexes_of t gs
  Ok (i ∷ is)

-- how many of them are of the font's own names
abbrev pub custom_count : List ℕ → ℕ
custom_count is = count_by (λ i. nat_le 258 i) is

-- the new indexes, of which k own ones came before
abbrev pub new_indexes : ℕ → List ℕ → List ℕ
new_indexes k [] = []
new_indexes k (i ∷ is) =
    if nat_lt i 258 then to_be_bytes w16 i ++ new_indexes k is else to_be_bytes w16 (258 + k) ++ new_indexes (k + 1) is

-- the entry of an index of an own name
abbrev pub entry_of : List (List ℕ) → ℕ → List ℕ
entry_of names i = if nat_lt i 258 then [] else pascal_bytes (get_or names (i - 258) [])

-- an index has 16 bits, of which 258 numbers are the standard names'
unfoldable pub post_of_indexes : PostTable → List ℕ → Result (List ℕ) Error
post_of_indexes t is =
    if nat_le (custom_count is) 65278 then Ok (post_bytes t.header (map (name_of_index (names_in t.names_data)) is))
    else Err OverflowError

unfoldable pub subset_glyph_names : PostTable → List ℕ → Result (List ℕ) Error
subset_glyph_names t order = do
  is ← indexes_of t order
  post_of_indexes t is

unfoldable pub post_of_table : List ℕ → List ℕ → Result (List ℕ) Error
post_of_table bytes order = do
  version ← ok_or (number bytes 0 4) MalformedFont
  if version == 0x00020000 then (ok_or (post_table bytes) MalformedFont >>= λ t. subset_glyph_names t order)
      else Ok bytes

-- a font without the table has none
unfoldable pub new_post : Option (List ℕ) → List ℕ → Result (Option (List ℕ)) Error
new_post None order = Ok None
new_post (Some bytes) order = post_of_table bytes order >>= λ new. Ok (Some new)

abbrev pub post_of : (List ℕ → Option (List ℕ)) → List ℕ → Result (Option (List ℕ)) Error
post_of find order = new_post (find (codes "post")) order
