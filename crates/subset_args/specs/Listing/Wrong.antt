-- What is wrong with a list that an argument writes, first.
use Rattle.std.specs.Prelude.{ℕ, if◌then◌else◌, ◌==◌, List, [], ◌∷◌, Option, Some, None, is_some, codes}
use Rattle.std.specs.List.{slice_split, before_first}
use Rattle.subset_args.specs.Coordinates.{has_byte, is_equals, coordinate_in}
use Rattle.subset_args.specs.Listing.Lists.{ends_in, descends}
use Rattle.subset_args.specs.Listing.Characters.{codes_in, codes_descend}
use Rattle.subset_args.specs.Mistakes.{Fault}
use Rattle.subset_args.specs.Words.{number_in_bits, tag_of}
use Rattle.subset_args.specs.declared.listing.wrong.Listing.{Listing}
use Rattle.subset_args.specs.declared.listing.wrong.Listing.TheVariants as list
use Rattle.subset_args.specs.declared.mistakes.Wrong.{Wrong}
use Rattle.subset_args.specs.declared.mistakes.Wrong.TheVariants.{Glyph, Part, Descends, Codes, CodesDescend}
use Rattle.subset_args.specs.declared.mistakes.Wrong.TheVariants.{Coordinate, Tag as WrongTag, TooMany}

-- a part is wrong so, if it isn't right
abbrev pub wrong_if : {A : Type 0} → Wrong → Option A → Option Wrong
wrong_if wrong None = Some wrong
wrong_if wrong (Some found) = None

-- an empty part lists no glyph
abbrev pub wrong_glyphs : List ℕ → Option Wrong
wrong_glyphs [] = None
wrong_glyphs (b ∷ part) = if descends (b ∷ part) then Some Descends else wrong_if Part (ends_in (b ∷ part))

abbrev pub wrong_codes : List ℕ → Option Wrong
wrong_codes [] = None
wrong_codes (b ∷ part) = if codes_descend (b ∷ part) then Some CodesDescend else wrong_if Codes (codes_in (b ∷ part))

-- a tag is before the equals sign
abbrev pub wrong_setting : List ℕ → Wrong
wrong_setting name = if is_some (tag_of name) then Coordinate else WrongTag

abbrev pub wrong_coordinate : List ℕ → Option Wrong
wrong_coordinate part =
    if is_some (coordinate_in part) then None
    else (if has_byte is_equals part then Some (wrong_setting (before_first is_equals part)) else Some Coordinate)

abbrev pub wrong_part : Listing → List ℕ → Option Wrong
wrong_part list.Numbers part = wrong_if Glyph (number_in_bits 16 part)
wrong_part list.Glyphs part = wrong_glyphs part
wrong_part list.Codes part = wrong_codes part
wrong_part list.Coordinates part = wrong_coordinate part

-- the option that has the list
abbrev pub list_option : Listing → List ℕ
list_option list.Numbers = codes "GID"
list_option list.Glyphs = codes "--gids"
list_option list.Codes = codes "--unicodes"
list_option list.Coordinates = codes "--at"

-- the first wrong part; where none is, the list is too long
abbrev pub first_wrong : Listing → List (List ℕ) → Fault
first_wrong listing [] = record { wrong = TooMany; word = list_option listing }
first_wrong listing (part ∷ parts) =
    elim (wrong_part listing part)
    [ Some wrong ↦ record { wrong = wrong; word = part } | None ↦ first_wrong listing parts ]

abbrev pub list_fault : Listing → List ℕ → Fault
list_fault listing text = first_wrong listing (slice_split (λ b. b == 44) text)
