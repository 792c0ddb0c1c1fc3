-- What the text of a file requests, by what the file has.
use Rattle.std.specs.Prelude.{◌≡◌, ◌⊎◌, ℕ, List, map, Option, Some, None}
use Rattle.std.specs.Str.{IsUtf8}
use Rattle.subset_args.specs.Listing.Lists.{FileList, as_comma, ends_in, glyphs_in_file}
use Rattle.subset_args.specs.Listing.Characters.{codes_in, file_characters, file_text, without_line_ends}
use Rattle.subset_args.specs.declared.listing.lists.FileKind.{FileKind}
use Rattle.subset_args.specs.declared.listing.lists.FileKind.TheVariants.{Glyphs, Characters, Text}

-- numbers and ranges of glyphs or of characters, or a text
abbrev pub list_in : FileKind → List ℕ → Option FileList
list_in Glyphs text = glyphs_in_file text
list_in Characters text = file_characters text
list_in Text text = Some (file_text text)

-- why a file's text can't be read: it isn't UTF-8
abbrev pub IsNotText : FileKind → List ℕ → Type 0
IsNotText Glyphs text = ¬ (IsUtf8 (map as_comma text))
IsNotText Characters text = ¬ (IsUtf8 (map as_comma text))
IsNotText Text text = ¬ (IsUtf8 text) ⊎ ¬ (IsUtf8 (without_line_ends text))

-- a wrong part of such a text: no UTF-8, or no number and no range; where a text is wanted it is the whole one
abbrev pub IsWrongIn : FileKind → List ℕ → List ℕ → Type 0
IsWrongIn Glyphs text part = ¬ (IsUtf8 part) ⊎ (ends_in part ≡ None)
IsWrongIn Characters text part = ¬ (IsUtf8 part) ⊎ (codes_in part ≡ None)
IsWrongIn Text text part = part ≡ text
