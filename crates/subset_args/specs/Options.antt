-- The options, and what they choose.
use Rattle.std.specs.Prelude.{Bool, true, false, if◌then◌else◌, ℕ, ◌==◌, ◌||◌, nat_lt, List, [], ◌∷◌, ◌++◌, length}
use Rattle.std.specs.Prelude.{Option, Some, None, Result, Ok, codes, is_some}
use Rattle.std.specs.Str.{bytes_eq}
use Rattle.subset_args.specs.Words.{number_in_bits}
use Rattle.subset_args.specs.Limits.{Bounds, limits_in}
use Rattle.std.specs.Option.{option_map}
use Rattle.subset_args.specs.Mistakes.{Fault, refused, or_refused, ◌>>=◌}
use Rattle.subset_args.specs.declared.mistakes.Wrong.TheVariants as wrong
use Rattle.subset_args.specs.declared.mistakes.Wrong.TheVariants.{Twice}
use Rattle.subset_args.specs.declared.options.names.Switch.{Switch}
use Rattle.subset_args.specs.declared.options.names.Switch.TheVariants.{Widths, NoHinting, NoNames, NoGlyphNames, Small}
use Rattle.subset_args.specs.declared.options.names.Switch.TheVariants.{Json, Quiet, Verbose, Vertical, Strict}
use Rattle.subset_args.specs.declared.options.names.Switch.TheVariants.{AllowBlank}
use Rattle.subset_args.specs.declared.options.names.Setting.{Setting}
use Rattle.subset_args.specs.declared.options.names.Setting.TheVariants.{Limits, GidsFile, Text, At, Gids, FaceIndex}
use Rattle.subset_args.specs.declared.options.names.Setting.TheVariants.{Output, TextFile, Unicodes, UnicodesFile, Pdf}
use Rattle.subset_args.specs.declared.options.names.Setting.TheVariants.{Codes, Rights, MostInput}
use Rattle.subset_args.specs.declared.options.names.Coding.{Coding}
use Rattle.subset_args.specs.declared.options.names.Coding.TheVariants.{Consecutive, Source as InSource}
use Rattle.subset_args.specs.declared.options.names.Coding.TheVariants.{Text as EachText}
use Rattle.subset_args.specs.declared.options.names.Kind.{Kind}
use Rattle.subset_args.specs.declared.options.names.Kind.TheVariants.{Switch as IsSwitch, Setting as IsSetting, Help}
use Rattle.subset_args.specs.declared.options.names.Kind.TheVariants.{Version, End, Place}
use Rattle.subset_args.specs.declared.options.chosen.Switches.{Switches}
use Rattle.subset_args.specs.declared.listing.lists.FileKind.{FileKind}
use Rattle.subset_args.specs.declared.listing.lists.FileKind.TheVariants.{Glyphs as OfGlyphs}
use Rattle.subset_args.specs.declared.listing.lists.FileKind.TheVariants.{Characters as OfCharacters, Text as OfText}

-- the option without a value that an argument is
unfoldable pub switch_of : List ℕ → Option Switch
switch_of word =
    if bytes_eq word (codes "--widths") then Some Widths
    else if bytes_eq word (codes "--no-hinting") then Some NoHinting
    else if bytes_eq word (codes "--no-names") then Some NoNames
    else if bytes_eq word (codes "--no-glyph-names") then Some NoGlyphNames
    else if bytes_eq word (codes "--small") then Some Small
    else if bytes_eq word (codes "--json") then Some Json
    else if bytes_eq word (codes "--quiet") then Some Quiet
    else if bytes_eq word (codes "--verbose") then Some Verbose
    else if bytes_eq word (codes "--vertical") then Some Vertical
    else if bytes_eq word (codes "--strict") then Some Strict
    else if bytes_eq word (codes "--allow-blank") then Some AllowBlank
    else None

-- the option that a value follows, which an argument is
unfoldable pub setting_of : List ℕ → Option Setting
setting_of word =
    if bytes_eq word (codes "--limits") then Some Limits
    else if bytes_eq word (codes "--gids-file") then Some GidsFile
    else if bytes_eq word (codes "--text") then Some Text
    else if bytes_eq word (codes "--at") then Some At
    else if bytes_eq word (codes "--gids") then Some Gids
    else if bytes_eq word (codes "--face-index") then Some FaceIndex
    else if bytes_eq word (codes "--output-file") then Some Output
    else if bytes_eq word (codes "-o") then Some Output
    else if bytes_eq word (codes "--text-file") then Some TextFile
    else if bytes_eq word (codes "--unicodes") then Some Unicodes
    else if bytes_eq word (codes "--unicodes-file") then Some UnicodesFile
    else if bytes_eq word (codes "--pdf") then Some Pdf
    else if bytes_eq word (codes "--codes") then Some Codes
    else if bytes_eq word (codes "--rights") then Some Rights
    else if bytes_eq word (codes "--most-input") then Some MostInput
    else None

-- what an argument that is neither is
abbrev pub other_kind : List ℕ → Kind
other_kind word =
    if bytes_eq word (codes "--help") then Help
    else if bytes_eq word (codes "-h") then Help
    else if bytes_eq word (codes "--version") then Version
    else if bytes_eq word (codes "--") then End
    else Place

-- what an argument before IN is
abbrev pub first_of : Option Switch → Option Setting → Kind → Kind
first_of (Some switch) setting other = IsSwitch switch
first_of None (Some setting) other = IsSetting setting
first_of None None other = other

unfoldable pub kind_of : List ℕ → Kind
kind_of word = first_of (switch_of word) (setting_of word) (other_kind word)

-- whether an option without a value was given
abbrev pub is_on : Switch → Switches → Bool
is_on Widths all = all.widths
is_on NoHinting all = all.no_hinting
is_on NoNames all = all.no_names
is_on NoGlyphNames all = all.no_glyph_names
is_on Small all = all.small
is_on Json all = all.json
is_on Quiet all = all.quiet
is_on Verbose all = all.verbose
is_on Vertical all = all.vertical
is_on Strict all = all.strict
is_on AllowBlank all = all.allow_blank

-- with one that is given
abbrev pub switched_on : Switch → Switches → Switches
switched_on Widths all = record all { widths = true }
switched_on NoHinting all = record all { no_hinting = true }
switched_on NoNames all = record all { no_names = true }
switched_on NoGlyphNames all = record all { no_glyph_names = true }
switched_on Small all = record all { small = true }
switched_on Json all = record all { json = true }
switched_on Quiet all = record all { quiet = true }
switched_on Verbose all = record all { verbose = true }
switched_on Vertical all = record all { vertical = true }
switched_on Strict all = record all { strict = true }
switched_on AllowBlank all = record all { allow_blank = true }

-- where the glyphs are found that an option requests: in a file, by the characters of a text, or in a list of glyphs or
-- of characters
pub data GlyphSource : Type 0 where
  in_file : FileKind → List ℕ → GlyphSource
  by_text : List ℕ → GlyphSource
  in_list : List ℕ → GlyphSource
  in_codes : List ℕ → GlyphSource

-- a number for each of the options
abbrev pub option_number : GlyphSource → ℕ
option_number (in_list list) = 0
option_number (in_file OfGlyphs name) = 1
option_number (by_text text) = 2
option_number (in_file OfText name) = 3
option_number (in_codes list) = 4
option_number (in_file OfCharacters name) = 5

abbrev pub is_given : List GlyphSource → ℕ → Bool
is_given [] number = false
is_given (source ∷ sources) number = option_number source == number || is_given sources number

-- with a further place, where none is there of its option: there are six of these
abbrev pub if_room : List GlyphSource → GlyphSource → Option (List GlyphSource)
if_room sources source = if nat_lt (length sources) 6 then Some (sources ++ source ∷ []) else None

abbrev pub with_more : GlyphSource → List GlyphSource → Option (List GlyphSource)
with_more source sources = if is_given sources (option_number source) then None else if_room sources source

-- what the options choose
pub record Choice : Type 0 where
  pub switches : Switches
  pub limits : Option Bounds
  -- in the order of the options
  pub sources : List GlyphSource
  pub at : Option (List ℕ)
  pub output : Option (List ℕ)
  pub index : Option ℕ
  pub most_input : Option ℕ
  -- the file of a PDF, how its glyphs get codes, and whether the user holds the rights to embed the font
  pub pdf : Option (List ℕ)
  pub coding : Option Coding
  pub is_held : Bool

-- nothing
abbrev pub no_choice : Choice
no_choice =
    record {
      switches = record {
        widths = false;
        no_hinting = false;
        no_names = false;
        no_glyph_names = false;
        small = false;
        json = false;
        quiet = false;
        verbose = false;
        vertical = false;
        strict = false;
        allow_blank = false;
      };
      limits = None;
      sources = [];
      at = None;
      output = None;
      index = None;
      most_input = None;
      pdf = None;
      coding = None;
      is_held = false;
    }

-- with an option without a value
abbrev pub with_switch : Switch → List ℕ → Choice → Result Choice Fault
with_switch switch word choice =
    if is_on switch choice.switches then refused Twice word
    else Ok (record choice { switches = switched_on switch choice.switches })

-- how the glyphs of a PDF get codes
abbrev pub coding_in : List ℕ → Option Coding
coding_in word =
    if bytes_eq word (codes "consecutive") then Some Consecutive
    else if bytes_eq word (codes "source") then Some InSource
    else if bytes_eq word (codes "text") then Some EachText
    else None

abbrev pub holds_rights : List ℕ → Bool
holds_rights word = bytes_eq word (codes "held")

-- what follows an option that is given once
abbrev pub once : Bool → List ℕ → Result Choice Fault → Result Choice Fault
once given word more = if given then refused Twice word else more

-- with a further place where glyphs are found
abbrev pub with_source : List ℕ → GlyphSource → Choice → Result Choice Fault
with_source word source choice =
    or_refused Twice word
    (option_map (λ sources. record choice { sources = sources }) (with_more source choice.sources))

-- with an option and its value
abbrev pub with_setting : Setting → List ℕ → List ℕ → Choice → Result Choice Fault
with_setting Limits word value choice =
    once (is_some choice.limits) word
    (or_refused wrong.Limits value (limits_in value) >>= λ limits. Ok (record choice { limits = Some limits }))
with_setting GidsFile word value choice = with_source word (in_file OfGlyphs value) choice
with_setting Text word value choice = with_source word (by_text value) choice
with_setting At word value choice = once (is_some choice.at) word (Ok (record choice { at = Some value }))
with_setting Gids word value choice = with_source word (in_list value) choice
with_setting FaceIndex word value choice =
    once (is_some choice.index) word
    (or_refused wrong.FaceIndex value (number_in_bits 32 value) >>= λ index. Ok (record choice { index = Some index }))
with_setting Output word value choice = once (is_some choice.output) word (Ok (record choice { output = Some value }))
with_setting TextFile word value choice = with_source word (in_file OfText value) choice
with_setting Unicodes word value choice = with_source word (in_codes value) choice
with_setting UnicodesFile word value choice = with_source word (in_file OfCharacters value) choice
with_setting Pdf word value choice = once (is_some choice.pdf) word (Ok (record choice { pdf = Some value }))
with_setting Codes word value choice =
    once (is_some choice.coding) word
    (or_refused wrong.Coding value (coding_in value) >>= λ coding. Ok (record choice { coding = Some coding }))
with_setting Rights word value choice =
    once choice.is_held word
    (if holds_rights value then Ok (record choice { is_held = true }) else refused wrong.Rights value)
with_setting MostInput word value choice =
    once (is_some choice.most_input) word (or_refused wrong.MostInput value (number_in_bits 32 value)
    >>= λ most. Ok (record choice { most_input = Some most }))
