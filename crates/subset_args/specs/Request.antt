-- What the arguments after the program's name ask for, or what is wrong with them first.
use Rattle.std.specs.Prelude.{ℕ, ℤ, Bool, true, false, not, nat_lt, ◌&&◌, ◌||◌, ◌==◌, if◌then◌else◌, List, [], ◌∷◌, map}
use Rattle.std.specs.Prelude.{length, Option, Some, None, codes, is_some, Result, Ok, Err}
use Rattle.std.specs.Option.{option_map, option_and_then}
use Rattle.std.specs.List.{slice_split}
use Rattle.std.specs.Str.{bytes_eq}
use Rattle.subset_args.specs.Words.{number_in_bits}
use Rattle.subsetter_base.specs.declared.tag.Tag.{Tag}
use Rattle.subset_args.specs.Coordinates.{has_byte, is_equals, coordinates_in}
use Rattle.subset_args.specs.Forms.{Asked, Options, helped, versioned, chosen, looks_like_option, topic_of, is_batch}
use Rattle.subset_args.specs.Forms.{is_option, wrong_after, wrong_pdf, parsed, asked, joined_batch, taken}
use Rattle.subset_args.specs.Limits.{Bounds}
use Rattle.subset_args.specs.Listing.Lists.{FileList, every, these, characters, text_of, argument_list}
use Rattle.subset_args.specs.Listing.Characters.{argument_characters}
use Rattle.subset_args.specs.Listing.Wrong.{list_fault}
use Rattle.subset_args.specs.Mistakes.{Fault, refused, or_fault, unless, or_instead, ◌>>=◌}
use Rattle.subset_args.specs.Options.{GlyphSource, in_file, by_text, in_list, in_codes, Choice, kind_of, no_choice}
use Rattle.subset_args.specs.declared.listing.lists.FileKind.{FileKind}
use Rattle.subset_args.specs.declared.listing.lists.FileKind.TheVariants.{Glyphs as OfGlyphs}
use Rattle.subset_args.specs.declared.listing.lists.FileKind.TheVariants.{Characters as OfCharacters, Text as OfText}
use Rattle.subset_args.specs.declared.listing.wrong.Listing.TheVariants.{Numbers, Glyphs, Codes, Coordinates}
use Rattle.subset_args.specs.declared.mistakes.Wrong.TheVariants.{NoInput, NoGlyphs, InputTwice, Unknown, AfterShown}
use Rattle.subset_args.specs.declared.mistakes.Wrong.TheVariants.{Index, NoBatchFile, AfterBatch}
use Rattle.subset_args.specs.declared.options.chosen.PdfChoice.{PdfChoice}
use Rattle.subset_args.specs.declared.options.chosen.Switches.{Switches}
use Rattle.subset_args.specs.declared.jobs.command.Topic.{Topic}

-- the values, if there is one at each place
abbrev pub all_some : List (Option ℕ) → Option (List ℕ)
all_some [] = Some []
all_some (x ∷ xs) = option_and_then (λ y. option_map (λ ys. y ∷ ys) (all_some xs)) x

-- the glyphs of a list with a comma (44) between each two
abbrev pub glyph_list : List ℕ → Option (List ℕ)
glyph_list text = all_some (map (number_in_bits 16) (slice_split (λ b. b == 44) text))

-- which glyphs are requested: these, every one, those of these characters, or those that are found there
pub data RequestedGlyphs : Type 0 where
  listed : List ℕ → RequestedGlyphs
  every_glyph : RequestedGlyphs
  of_characters : List ℕ → RequestedGlyphs
  from : GlyphSource → RequestedGlyphs

-- where on its axes a variable font is requested: at coordinates, or at the named instance of a name
pub data Position : Type 0 where
  at_coordinates : List (Tag × ℤ) → Position
  at_instance : List ℕ → Position

-- a text without an equals sign is a name
abbrev pub is_name : List ℕ → Bool
is_name text = nat_lt 0 (length text) && not (has_byte is_equals text)

abbrev pub position_in : List ℕ → Option Position
position_in text = if is_name text then Some (at_instance text) else option_map at_coordinates (coordinates_in text)

-- a PDF that is requested: its file, and how it is made
pub record PdfRequest : Type 0 where
  pub file : List ℕ
  pub choice : PdfChoice

-- what a run that makes a subset is to do
pub record Request : Type 0 where
  pub switches : Switches
  pub limits : Option Bounds
  pub input : List ℕ
  -- the file of the new font; it may be missing where a PDF is requested
  pub output : Option (List ℕ)
  pub index : ℕ
  -- the most bytes of the input, if that is given
  pub most_input : Option ℕ
  -- one after another
  pub glyphs : List RequestedGlyphs
  -- where on the axes of a variable font, if that is specified
  pub position : Option Position
  pub pdf : Option PdfRequest
  -- whether an option requests the glyphs
  pub by_option : Bool

-- what a run is to do
pub data Command : Type 0 where
  help : Command
  version : Command
  subset : Request → Command
  -- to do what the lines of a file request
  batch : List ℕ → Command
  -- to show the axes of a face, or what it is, as JSON or not: its file and its index
  show : Topic → Bool → List ℕ → ℕ → Command

-- the glyphs of a list
abbrev pub of_list : FileList → RequestedGlyphs
of_list every = every_glyph
of_list (these glyphs) = listed glyphs
of_list (characters found) = of_characters found
of_list (text_of text) = from (by_text text)

-- which glyphs an option requests
abbrev pub requested_by : GlyphSource → Result RequestedGlyphs Fault
requested_by (in_file kind name) = Ok (from (in_file kind name))
requested_by (by_text text) = Ok (from (by_text text))
requested_by (in_list text) = or_fault (list_fault Glyphs text) (option_map of_list (argument_list text))
requested_by (in_codes text) = or_fault (list_fault Codes text) (option_map of_list (argument_characters text))

-- those of each option, in order
abbrev pub each_requested : List GlyphSource → Result (List RequestedGlyphs) Fault
each_requested [] = Ok []
each_requested (source ∷ sources) =
    requested_by source >>= λ glyphs. each_requested sources >>= λ more. Ok (glyphs ∷ more)

-- which glyphs are asked for: those that an argument lists, or those of the options, one after another
abbrev pub requested : Option (List ℕ) → List GlyphSource → Result (List RequestedGlyphs) Fault
requested (Some list) sources =
    or_fault (list_fault Numbers list) (option_map (λ glyphs. listed glyphs ∷ []) (glyph_list list))
requested None [] = refused NoGlyphs []
requested None (source ∷ sources) = each_requested (source ∷ sources)

-- whether an argument means standard input or output
abbrev pub is_stream : List ℕ → Bool
is_stream word = bytes_eq word (codes "-")

-- whether the glyphs are listed in standard input
abbrev pub is_in_stream : RequestedGlyphs → Bool
is_in_stream (listed glyphs) = false
is_in_stream every_glyph = false
is_in_stream (of_characters found) = false
is_in_stream (from (in_file kind name)) = is_stream name
is_in_stream (from (by_text text)) = false
is_in_stream (from (in_list text)) = false
is_in_stream (from (in_codes text)) = false

abbrev pub lists_in_stream : List RequestedGlyphs → Bool
lists_in_stream [] = false
lists_in_stream (glyphs ∷ more) = is_in_stream glyphs || lists_in_stream more

-- the option for a file
abbrev pub file_option : FileKind → List ℕ
file_option OfGlyphs = codes "--gids-file"
file_option OfCharacters = codes "--unicodes-file"
file_option OfText = codes "--text-file"

-- what standard input has, if it is a file of glyphs
abbrev pub stream_kind : GlyphSource → Option FileKind
stream_kind (in_file kind name) = if is_stream name then Some kind else None
stream_kind (by_text text) = None
stream_kind (in_list text) = None
stream_kind (in_codes text) = None

-- the first file that is standard input, where that is taken before
abbrev pub wrong_stream : Bool → List GlyphSource → Option Fault
wrong_stream is_taken [] = None
wrong_stream is_taken (source ∷ sources) = elim (stream_kind source) [
  | Some kind ↦ if is_taken then Some (record { wrong = InputTwice; word = file_option kind })
      else wrong_stream true sources
  | None ↦ wrong_stream is_taken sources
]

-- the position that is requested, if any
abbrev pub position_option : Option (List ℕ) → Result (Option Position) Fault
position_option None = Ok None
position_option (Some text) = or_fault (list_fault Coordinates text) (option_map (λ p. Some p) (position_in text))

-- ---- the PDF that is requested, if any

-- how it is made
abbrev pub pdf_choice : Choice → PdfChoice
pdf_choice choice =
    record {
      vertical = choice.switches.vertical;
      coding = choice.coding;
      is_held = choice.is_held;
      allow_blank = choice.switches.allow_blank;
    }

abbrev pub pdf_of : Choice → Option PdfRequest
pdf_of choice = option_map (λ file. record { file = file; choice = pdf_choice choice }) choice.pdf

-- ---- what is requested

abbrev pub request_with : Asked → List RequestedGlyphs → Option Position → Request
request_with a glyphs at =
    record {
      switches = a.choice.switches;
      limits = a.choice.limits;
      input = a.input;
      output = a.output;
      index = a.index;
      most_input = a.choice.most_input;
      glyphs = glyphs;
      position = at;
      pdf = pdf_of a.choice;
      by_option = not (is_some a.listed);
    }

-- where no file is written twice
abbrev pub request_at : Asked → List RequestedGlyphs → Result Request Fault
request_at a glyphs =
    position_option a.choice.at >>= λ at. unless (wrong_pdf a.choice a.output) (Ok (request_with a glyphs at))

-- and standard input isn't read twice
unfoldable pub request_of : Asked → Result Request Fault
request_of a =
    unless (wrong_stream (is_stream a.input) a.choice.sources) (requested a.listed a.choice.sources >>= request_at a)

-- what the arguments from IN on ask for
abbrev pub request_from : Choice → Bool → List (List ℕ) → Result Request Fault
request_from choice is_ended words = asked choice is_ended words >>= request_of

-- what the options and the arguments after them ask for
abbrev pub command_of : Options → Result Command Fault
command_of helped = Ok help
command_of versioned = Ok version
command_of (chosen choice is_ended words) = request_from choice is_ended words >>= λ r. Ok (subset r)

unfoldable pub command_by_options : List (List ℕ) → Result Command Fault
command_by_options words = parsed None no_choice false words >>= command_of

-- ---- what is shown

-- an option is in the place of IN
unfoldable pub instead_of : List ℕ → Fault → Fault
instead_of input fault =
    if not (looks_like_option input) then fault
    else (if is_option (kind_of input) || is_some (topic_of input) then record { wrong = AfterShown; word = input }
    else record { wrong = Unknown; word = input })

-- what is wrong with an INDEX that is no number: it may be an option
abbrev pub no_index : List ℕ → Fault
no_index index =
    if is_some (wrong_after index) then record { wrong = AfterShown; word = index }
    else record { wrong = Index; word = index }

-- what is shown by the arguments `FONT [INDEX]`, with or without JSON; INDEX is 0 where it isn't given
abbrev pub shown_of : Topic → Bool → List (List ℕ) → Result Command Fault
shown_of topic json [] = refused NoInput []
shown_of topic json (input ∷ []) = Ok (show topic json input 0)
shown_of topic json (input ∷ index ∷ []) =
    or_fault (instead_of input (no_index index))
    (option_map (show topic json input) (number_in_bits 32 index))
shown_of topic json (input ∷ index ∷ word ∷ words) = Err (instead_of input (record { wrong = AfterShown; word = word }))

-- `--json` may be before them
abbrev pub shown_by : Topic → List (List ℕ) → Result Command Fault
shown_by topic [] = refused NoInput []
shown_by topic (word ∷ words) =
    if bytes_eq word (codes "--json") then shown_of topic true words else shown_of topic false (word ∷ words)

-- ---- the whole

-- the file after `--batch`, alone
abbrev pub batch_of : List (List ℕ) → Result Command Fault
batch_of [] = refused NoBatchFile []
batch_of (file ∷ []) = Ok (batch file)
batch_of (file ∷ word ∷ words) = refused AfterBatch word

-- without `--batch` and a value: `--axes [--json] FONT [INDEX]`, `--info` in its place, or the making of a subset
abbrev pub command_without : List ℕ → List (List ℕ) → Result Command Fault
command_without word words = elim (topic_of word) [
  | Some topic ↦ shown_by topic words
  | None ↦ command_by_options (word ∷ words)
]

-- what the arguments request: `--batch FILE`, `--batch=FILE`, or that
abbrev pub command : List (List ℕ) → Result Command Fault
command [] = command_by_options []
command (word ∷ words) = if is_batch word then batch_of words else (elim (joined_batch word (word ∷ words)) [
  | Some file ↦ batch_of (file ∷ words)
  | None ↦ command_without word words
])

-- the same, as a person types them: where they request nothing, and an option is the value of another, that is what is
-- wrong
abbrev pub typed : List (List ℕ) → Result Command Fault
typed words = or_instead (taken words) (command words)
