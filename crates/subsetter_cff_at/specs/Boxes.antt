-- The boxes of the glyphs of a table, read afresh (Technical Note 5176, section 14).
use Rattle.std.specs.Prelude.{ℕ, List, [], map, Option, Some, None}
use Rattle.subsetter_base.specs.Options.{◌>>=◌}
use Rattle.subsetter_cff.specs.Read.Cff.{cff_parts, char_strings}
use Rattle.subsetter_boxes.specs.CharstringBox.{charstring_box}
use Rattle.subsetter_points.specs.declared.bounds.Bounds.{Bounds}

-- of the entries of its CharStrings INDEX
abbrev pub entry_boxes : List (Option (List ℕ)) → List (Option Bounds)
entry_boxes entries = map (λ entry. entry >>= charstring_box) entries

-- none of a table that can't be read
abbrev pub boxes_in : Option (List (Option (List ℕ))) → List (Option Bounds)
boxes_in None = []
boxes_in (Some entries) = entry_boxes entries

unfoldable pub table_boxes : List ℕ → List (Option Bounds)
table_boxes table = boxes_in (cff_parts table >>= char_strings)
