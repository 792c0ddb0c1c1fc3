-- The characters that an argument or a file lists, as `U+0041-005A,20AC`.
use Rattle.std.specs.Prelude.{ℕ, ◌==◌, ◌^◌, ◌&&◌, ◌||◌, not, nat_lt, Bool, true, false, if◌then◌else◌, List, [], ◌∷◌}
use Rattle.std.specs.Prelude.{◌++◌, filter, length, Option, Some, None, codes}
use Rattle.std.specs.Option.{option_map, option_and_then}
use Rattle.std.specs.List.{slice_split, before_first, after_first, position_or_len}
use Rattle.std.specs.Char.{digit_value}
use Rattle.std.specs.Str.{bytes_eq}
use Rattle.std.specs.Str.Parse.{digits_value}
use Rattle.subset_args.specs.Listing.Lists.{Ends, is_dash, in_order, is_less, between, few, parts, FileList, characters}
use Rattle.subset_args.specs.Listing.Lists.{text_of}
use Rattle.subsetter_base.specs.Texts.{is_scalar}

-- ---- a code of Unicode, in hexadecimal digits

abbrev pub all_hex : List ℕ → Bool
all_hex [] = true
all_hex (b ∷ bs) = nat_lt (digit_value b) 16 && all_hex bs

-- the number that one or more hexadecimal digits write, if it has at most 32 bits
abbrev pub hex_in_32 : List ℕ → Option ℕ
hex_in_32 word =
    if nat_lt 0 (length word) && all_hex word && nat_lt (digits_value 16 word) (2 ^ 32) then Some (digits_value 16 word)
    else None

-- the same, if it is at most 10FFFF
abbrev pub hex_in : List ℕ → Option ℕ
hex_in word = option_and_then (λ code. if nat_lt code 0x110000 then Some code else None) (hex_in_32 word)

abbrev pub is_plus : ℕ → Bool
is_plus b = b == 43

-- `U+` may be before it, or `u+`
abbrev pub is_mark : List ℕ → Bool
is_mark word = bytes_eq word (codes "U") || bytes_eq word (codes "u")

abbrev pub marked : List ℕ → List ℕ → Option ℕ
marked mark digits = if is_mark mark then hex_in digits else None

abbrev pub code_in : List ℕ → Option ℕ
code_in word =
    if nat_lt (position_or_len is_plus word) (length word)
    then marked (before_first is_plus word) (after_first is_plus word)
    else hex_in word

-- ---- lists of characters

-- the ends of a range `U+0041-005A`
abbrev pub codes_of_range : List ℕ → Option Ends
codes_of_range part =
    option_and_then (λ first. option_and_then (in_order first) (code_in (after_first is_dash part)))
    (code_in (before_first is_dash part))

-- the ends that a part writes, where one code is both
abbrev pub codes_in : List ℕ → Option Ends
codes_in part =
    if nat_lt (position_or_len is_dash part) (length part) then codes_of_range part
    else option_map (λ code. record { first = code; last = code }) (code_in part)

-- a range whose ends are codes, and not in order
abbrev pub codes_descend : List ℕ → Bool
codes_descend part =
    if nat_lt (position_or_len is_dash part) (length part)
    then is_less (code_in (after_first is_dash part)) (code_in (before_first is_dash part))
    else false

-- the characters between two ends, and these
abbrev pub characters_between : Ends → List ℕ
characters_between ends = filter is_scalar (between ends)

-- the characters that a part lists: none where it is empty
abbrev pub part_characters : List ℕ → Option (List ℕ)
part_characters [] = Some []
part_characters (b ∷ part) = option_map characters_between (codes_in (b ∷ part))

-- the characters that parts list, in order
abbrev pub parts_characters : List (List ℕ) → Option (List ℕ)
parts_characters [] = Some []
parts_characters (part ∷ parts) =
    option_and_then (λ found. option_map (λ more. found ++ more) (parts_characters parts)) (part_characters part)

-- the characters that an argument lists, with a comma (44) between each two parts
abbrev pub argument_characters : List ℕ → Option FileList
argument_characters text = option_map characters (few codes_in parts_characters (slice_split (λ b. b == 44) text))

-- the characters that the text of a file lists: commas, blanks and line ends are between the parts
abbrev pub file_characters : List ℕ → Option FileList
file_characters text = option_map characters (few codes_in parts_characters (parts text))

-- ---- a text

-- a line feed or a carriage return
abbrev pub is_line_end : ℕ → Bool
is_line_end b = b == 10 || b == 13

-- a file's text without its line ends
abbrev pub without_line_ends : List ℕ → List ℕ
without_line_ends text = filter (λ b. not (is_line_end b)) text

abbrev pub file_text : List ℕ → FileList
file_text text = text_of (without_line_ends text)
