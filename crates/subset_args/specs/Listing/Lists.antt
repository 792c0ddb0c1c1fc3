-- The glyphs that a file lists.
use Rattle.std.specs.Prelude.{ℕ, zero, suc, ◌+◌, ◌-◌, ◌==◌, ◌&&◌, ◌||◌, not, nat_le, nat_lt, Bool, true, false}
use Rattle.std.specs.Prelude.{if◌then◌else◌, List, [], ◌∷◌, ◌++◌, map, filter, length, Option, Some, None, codes}
use Rattle.std.specs.Option.{option_map, option_and_then}
use Rattle.std.specs.List.{slice_split, before_first, after_first, position_or_len}
use Rattle.std.specs.Str.{bytes_eq}
use Rattle.subset_args.specs.Words.{number_in_bits}

-- a blank, a tab, a line feed or a carriage return
abbrev pub is_blank : ℕ → Bool
is_blank b = b == 32 || (b == 9 || (b == 10 || b == 13))

-- blanks and line ends divide as commas (44) do
abbrev pub as_comma : ℕ → ℕ
as_comma b = if is_blank b then 44 else b

-- n numbers, from the first on
abbrev pub counting : ℕ → ℕ → List ℕ
counting first zero = []
counting first (suc n) = first ∷ counting (first + 1) n

-- the ends of a range
pub record Ends : Type 0 where
  pub first : ℕ
  pub last : ℕ

abbrev pub is_dash : ℕ → Bool
is_dash b = b == 45

-- ends that are in order
abbrev pub in_order : ℕ → ℕ → Option Ends
in_order first last = if nat_le first last then Some (record { first = first; last = last }) else None

-- the ends of a range `36-38`
abbrev pub ends_of_range : List ℕ → Option Ends
ends_of_range part =
    option_and_then (λ first. option_and_then (in_order first) (number_in_bits 16 (after_first is_dash part)))
    (number_in_bits 16 (before_first is_dash part))

-- the ends that a part writes, where one number is both
abbrev pub ends_in : List ℕ → Option Ends
ends_in part =
    if nat_lt (position_or_len is_dash part) (length part) then ends_of_range part
    else option_map (λ glyph. record { first = glyph; last = glyph }) (number_in_bits 16 part)

-- two numbers, of which the one is less
abbrev pub is_less : Option ℕ → Option ℕ → Bool
is_less (Some one) (Some other) = nat_lt one other
is_less (Some one) None = false
is_less None other = false

-- a range whose ends are numbers, and not in order
abbrev pub descends : List ℕ → Bool
descends part =
    if nat_lt (position_or_len is_dash part) (length part)
    then is_less (number_in_bits 16 (after_first is_dash part)) (number_in_bits 16 (before_first is_dash part))
    else false

-- all numbers between two ends, and these
abbrev pub between : Ends → List ℕ
between ends = counting ends.first (ends.last + 1 - ends.first)

-- the glyphs that a part lists: none where it is empty
abbrev pub part_glyphs : List ℕ → Option (List ℕ)
part_glyphs [] = Some []
part_glyphs (b ∷ part) = option_map between (ends_in (b ∷ part))

-- the glyphs that parts list, in order
abbrev pub parts_glyphs : List (List ℕ) → Option (List ℕ)
parts_glyphs [] = Some []
parts_glyphs (part ∷ parts) =
    option_and_then (λ glyphs. option_map (λ more. glyphs ++ more) (parts_glyphs parts)) (part_glyphs part)

-- how many numbers are between two ends, with these
abbrev pub size : Option Ends → ℕ
size None = 0
size (Some ends) = ends.last + 1 - ends.first

-- whether the ranges of parts have at most `most` numbers in all
abbrev pub fits : (List ℕ → Option Ends) → ℕ → List (List ℕ) → Bool
fits ends most [] = true
fits ends most (part ∷ parts) = nat_le (size (ends part)) most && fits ends (most - size (ends part)) parts

-- what parts list, if that is 2,000,000 numbers at most
abbrev pub few : (List ℕ → Option Ends) → (List (List ℕ) → Option (List ℕ)) → List (List ℕ) → Option (List ℕ)
few ends listed parts = if fits ends 2000000 parts then listed parts else None

-- the parts of a text between commas, blanks and line ends
abbrev pub parts : List ℕ → List (List ℕ)
parts text = slice_split (λ b. b == 44) (map as_comma text)

-- whether a text is `*`, but for blanks and line ends
abbrev pub is_star : List ℕ → Bool
is_star text = bytes_eq (filter (λ b. not (is_blank b)) text) (codes "*")

-- every glyph of the face, these, or those of these characters or of a text
pub data FileList : Type 0 where
  every : FileList
  these : List ℕ → FileList
  characters : List ℕ → FileList
  text_of : List ℕ → FileList

-- the glyphs that an argument lists: numbers and ranges with commas, or `*`
abbrev pub argument_list : List ℕ → Option FileList
argument_list text =
    if bytes_eq text (codes "*") then Some every
    else option_map these (few ends_in parts_glyphs (slice_split (λ b. b == 44) text))

-- the glyphs that the text of a file lists: numbers and ranges, or `*`
abbrev pub glyphs_in_file : List ℕ → Option FileList
glyphs_in_file text = if is_star text then Some every else option_map these (few ends_in parts_glyphs (parts text))
