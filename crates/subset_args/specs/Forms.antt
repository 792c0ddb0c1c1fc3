-- The arguments, read from left to right: the plain form `[OPTIONS] IN OUT INDEX [GID[,GID..]]`, else IN with options
-- before and after it.
use Rattle.std.specs.Prelude.{ℕ, Bool, true, false, not, ◌&&◌, ◌||◌, ◌==◌, nat_lt, if◌then◌else◌, List, [], ◌∷◌, length}
use Rattle.std.specs.Prelude.{slice_index, Option, Some, None, codes, is_some, Result, Ok, Err, unwrap_or}
use Rattle.std.specs.Option.{option_map, option_or}
use Rattle.std.specs.List.{before_first, after_first}
use Rattle.std.specs.Char.{is_ascii_digit}
use Rattle.std.specs.Result.{is_ok}
use Rattle.std.specs.Str.{bytes_eq}
use Rattle.subset_args.specs.Words.{number_in_bits}
use Rattle.subset_args.specs.Coordinates.{has_byte, is_equals}
use Rattle.subset_args.specs.Mistakes.{Fault, refused, or_refused, unless, ◌>>=◌}
use Rattle.subset_args.specs.Nearest.{front}
use Rattle.subset_args.specs.Options.{Choice, no_choice, setting_of, kind_of, with_switch, with_setting}
use Rattle.subset_args.specs.declared.jobs.command.Topic.{Topic}
use Rattle.subset_args.specs.declared.jobs.command.Topic.TheVariants.{Axes, Info}
use Rattle.subset_args.specs.declared.mistakes.Wrong.{Wrong}
use Rattle.subset_args.specs.declared.mistakes.Wrong.TheVariants.{NoInput, NoOutput, NoIndex, NoGlyphs, Further, Late}
use Rattle.subset_args.specs.declared.mistakes.Wrong.TheVariants.{ShownLate, BatchLate, Unknown, NoValue, BesideOption}
use Rattle.subset_args.specs.declared.mistakes.Wrong.TheVariants.{Index, Glyph, BesideInput, NoSource, NoPdf}
use Rattle.subset_args.specs.declared.mistakes.Wrong.TheVariants.{OutputTwice, Taken}
use Rattle.subset_args.specs.declared.options.names.Setting.{Setting}
use Rattle.subset_args.specs.declared.options.names.Kind.{Kind}
use Rattle.subset_args.specs.declared.options.names.Kind.TheVariants.{Switch as IsSwitch, Setting as IsSetting, Help}
use Rattle.subset_args.specs.declared.options.names.Kind.TheVariants.{Version, End, Place}

-- ---- words

-- what a first argument shows, if it is `--axes` or `--info`
abbrev pub topic_of : List ℕ → Option Topic
topic_of word =
    if bytes_eq word (codes "--axes") then Some Axes else (if bytes_eq word (codes "--info") then Some Info else None)

-- whether the first argument is `--batch`
abbrev pub is_batch : List ℕ → Bool
is_batch word = bytes_eq word (codes "--batch")

-- it begins with a minus (45), and has more
abbrev pub looks_like_option : List ℕ → Bool
looks_like_option word = nat_lt 1 (length word) && (slice_index word 0 == 45)

-- an option, the word that it is, and its value
pub record Given : Type 0 where
  pub setting : Setting
  pub word : List ℕ
  pub value : List ℕ

-- an option that a value follows, and that has a long name
abbrev pub long_setting : List ℕ → Option Setting
long_setting word = if bytes_eq word (codes "-o") then None else setting_of word

-- an option and its value in one word, `--name=value`
abbrev pub joined : List ℕ → Option Given
joined word =
    if has_byte is_equals word
    then option_map (λ s.
    record { setting = s; word = before_first is_equals word; value = after_first is_equals word })
    (long_setting (before_first is_equals word))
    else None

-- `--axes`, `--info` and `--batch`, also with its value in one word, come first
abbrev pub not_first : List ℕ → Option Wrong
not_first word =
    if is_some (topic_of word) then Some ShownLate else (if is_batch (front word) then Some BatchLate else None)

-- what is wrong with an argument that is no other option, by itself
abbrev pub wrong_place : List ℕ → Option Wrong
wrong_place word = option_or (not_first word) (if looks_like_option word then Some Unknown else None)

-- ---- OUT and a PDF

-- whether both are one file, by their names
abbrev pub is_same : Option (List ℕ) → Option (List ℕ) → Bool
is_same (Some one) (Some other) = bytes_eq one other
is_same (Some one) None = false
is_same None other = false

-- an option that says how a PDF is made, and there is none
abbrev pub without_pdf : Choice → Option Fault
without_pdf choice =
    if choice.switches.vertical then Some (record { wrong = NoPdf; word = codes "--vertical" })
    else if is_some choice.coding then Some (record { wrong = NoPdf; word = codes "--codes" })
    else if choice.is_held then Some (record { wrong = NoPdf; word = codes "--rights" })
    else if choice.switches.allow_blank then Some (record { wrong = NoPdf; word = codes "--allow-blank" })
    else None

-- no file is written twice
abbrev pub wrong_file : Option (List ℕ) → List ℕ → Option Fault
wrong_file output file = if is_same output (Some file) then Some (record { wrong = OutputTwice; word = file }) else None

abbrev pub wrong_pdf : Choice → Option (List ℕ) → Option Fault
wrong_pdf choice output = elim choice.pdf [ Some file ↦ wrong_file output file | None ↦ without_pdf choice ]

-- ---- the plain form

-- what is requested, in either form: IN, OUT if it is given, INDEX, and the list of glyphs that is an argument of its
-- own
pub record Asked : Type 0 where
  pub choice : Choice
  pub input : List ℕ
  pub output : Option (List ℕ)
  pub index : ℕ
  pub listed : Option (List ℕ)

-- none where an option says OUT or INDEX
abbrev pub names_position : Choice → Bool
names_position choice = is_some choice.output || is_some choice.index

-- a list of glyphs begins with a digit
abbrev pub begins_with_digit : List ℕ → Bool
begins_with_digit [] = false
begins_with_digit (b ∷ text) = is_ascii_digit b

abbrev pub numbers : List ℕ → Result (Option (List ℕ)) Fault
numbers list = if begins_with_digit list then Ok (Some list) else refused Glyph list

-- whether options request glyphs
abbrev pub are_given : Choice → Bool
are_given choice = nat_lt 0 (length choice.sources)

-- the list of glyphs after INDEX, which options may have in its place
abbrev pub listed_after : Bool → List (List ℕ) → Result (Option (List ℕ)) Fault
listed_after false [] = refused NoGlyphs []
listed_after false (list ∷ []) = numbers list
listed_after true [] = Ok None
listed_after true (word ∷ []) = refused BesideOption word
listed_after false (list ∷ word ∷ words) = refused Further word
listed_after true (other ∷ word ∷ words) = refused Further word

-- IN, OUT and INDEX, and what is after them
abbrev pub plain_with : Choice → List ℕ → List ℕ → ℕ → List (List ℕ) → Result Asked Fault
plain_with choice input output index words =
    listed_after (are_given choice) words
    >>= λ listed. unless (wrong_pdf choice (Some output))
    (Ok (record { choice = choice; input = input; output = Some output; index = index; listed = listed }))

abbrev pub plain_at : Choice → List ℕ → List ℕ → List (List ℕ) → Result Asked Fault
plain_at choice input output [] = refused NoIndex []
plain_at choice input output (index ∷ words) =
    or_refused Index index (number_in_bits 32 index) >>= λ i. plain_with choice input output i words

-- the arguments from IN on, in the plain form
unfoldable pub plain : Choice → List (List ℕ) → Result Asked Fault
plain choice [] = refused NoInput []
plain choice (input ∷ []) = refused NoOutput []
plain choice (input ∷ output ∷ words) =
    if names_position choice then refused BesideInput output else plain_at choice input output words

-- ---- options

-- what the options before arguments that are none say: that help or the version is wanted, or what is chosen, and
-- whether `--` is before these arguments
pub data Options : Type 0 where
  helped : Options
  versioned : Options
  chosen : Choice → Bool → List (List ℕ) → Options

-- a value in the same word, where the arguments from it on aren't of the plain form: then it is IN
abbrev pub joined_at : Choice → Bool → List ℕ → List (List ℕ) → Option Given
joined_at choice is_after word words = if not is_after && is_ok (plain choice words) then None else joined word

-- help and the version aren't wanted after IN
abbrev pub unless_after : Bool → List ℕ → Options → Result Options Fault
unless_after is_after word options = if is_after then refused Late word else Ok options

-- the options before IN, or after it, besides what is chosen already; where an option is before them, the first
-- argument is its value
abbrev pub parsed : Option (Setting × List ℕ) → Choice → Bool → List (List ℕ) → Result Options Fault
parsed (Some option) choice is_after [] = refused NoValue option.1
parsed (Some option) choice is_after (value ∷ words) =
    with_setting option.0 option.1 value choice >>= λ more. parsed None more is_after words
parsed None choice is_after [] = Ok (chosen choice false [])
parsed None choice is_after (word ∷ words) = elim (kind_of word) [
  | IsSwitch switch ↦ with_switch switch word choice >>= λ more. parsed None more is_after words
  | IsSetting setting ↦ parsed (Some (setting, word)) choice is_after words
  | Help ↦ unless_after is_after word helped
  | Version ↦ unless_after is_after word versioned
  | End ↦ Ok (chosen choice true words)
  | Place ↦ elim (joined_at choice is_after word (word ∷ words)) [
    | Some given ↦ with_setting given.setting given.word given.value choice >>= λ more. parsed None more is_after words
    | None ↦ Ok (chosen choice false (word ∷ words))
  ]
]

-- the file of `--batch=FILE`, where the arguments from it on aren't of the plain form: then it is IN
abbrev pub joined_batch : List ℕ → List (List ℕ) → Option (List ℕ)
joined_batch word words =
    if has_byte is_equals word
    then if is_batch (before_first is_equals word) && not (is_ok (plain no_choice words))
    then Some (after_first is_equals word)
    else None
    else None

-- ---- IN with options before and after it

-- whether an option says where the new font or a PDF goes
abbrev pub has_output : Choice → Bool
has_output choice = is_some choice.output || is_some choice.pdf

abbrev pub free : Choice → List ℕ → Result Asked Fault
free choice input =
    if not (has_output choice) then refused NoOutput []
    else if not (are_given choice) then refused NoSource []
    else Ok
    (record { choice = choice; input = input; output = choice.output; index = unwrap_or choice.index 0; listed = None })

-- ---- what is wrong where neither form is right

-- whether an argument is an option, with its value in the same word or without it
abbrev pub is_option : Kind → Bool
is_option (IsSwitch switch) = true
is_option (IsSetting setting) = true
is_option Help = true
is_option Version = true
is_option End = false
is_option Place = false

-- an option after IN, as `--axes` and `--batch` are
abbrev pub wrong_after : List ℕ → Option Wrong
wrong_after word = if is_option (kind_of word) || is_some (joined word) then Some Late else not_first word

-- the first of these
abbrev pub first_late : List (List ℕ) → Option Fault
first_late [] = None
first_late (word ∷ words) =
    elim (wrong_after word) [ Some wrong ↦ Some (record { wrong = wrong; word = word }) | None ↦ first_late words ]

-- whether an argument says OUT or INDEX, as `-o`, `-oFILE` or `--face-index=0`
abbrev pub says_position : List ℕ → Bool
says_position word =
    bytes_eq (front word) (codes "--output-file")
    || (bytes_eq (front word) (codes "--face-index")
    || (nat_lt 1 (length word) && (slice_index word 0 == 45 && slice_index word 1 == 111)))

abbrev pub say_position : List (List ℕ) → Bool
say_position [] = false
say_position (word ∷ words) = says_position word || say_position words

-- a second argument is beside IN: an option says OUT or INDEX; or else the plain form is meant, which is wrong so, or
-- has an option after IN
abbrev pub beside_input : Fault → Choice → List (List ℕ) → List ℕ → List (List ℕ) → Fault
beside_input fault choice following word words =
    if names_position choice || say_position words then record { wrong = BesideInput; word = word }
    else unwrap_or (first_late following) fault

-- what is wrong with an argument in the place of IN or after it, by itself: none where it is after `--`
abbrev pub wrong_at : Bool → List ℕ → Option Wrong
wrong_at is_ended word = if is_ended then None else wrong_place word

abbrev pub second : Fault → Choice → Bool → List (List ℕ) → List ℕ → List (List ℕ) → Fault
second fault choice is_ended following word words =
    elim (wrong_at is_ended word)
    [ Some wrong ↦ record { wrong = wrong; word = word } | None ↦ beside_input fault choice following word words ]

-- ---- both forms

-- IN with all options, and the arguments after these
abbrev pub before : Fault → Choice → Bool → List ℕ → List (List ℕ) → List (List ℕ) → Result Asked Fault
before fault choice is_ended input following [] = free choice input
before fault choice is_ended input following (word ∷ words) = Err (second fault choice is_ended following word words)

-- IN is alone beside the options after it
abbrev pub alone : Fault → List ℕ → List (List ℕ) → Options → Result Asked Fault
alone fault input following helped = Err fault
alone fault input following versioned = Err fault
alone fault input following (chosen choice is_ended words) = before fault choice is_ended input following words

-- the options after IN; there are none after `--`
abbrev pub parsed_after : Choice → Bool → List (List ℕ) → Result Options Fault
parsed_after choice is_ended words = if is_ended then Ok (chosen choice true words) else parsed None choice true words

-- the arguments from IN on, where they aren't of the plain form
abbrev pub from_input : Fault → Choice → Bool → List (List ℕ) → Result Asked Fault
from_input fault choice is_ended [] = Err fault
from_input fault choice is_ended (input ∷ words) =
    elim (wrong_at is_ended input)
    [ Some wrong ↦ refused wrong input | None ↦ parsed_after choice is_ended words >>= alone fault input words ]

-- the arguments from IN on
unfoldable pub asked : Choice → Bool → List (List ℕ) → Result Asked Fault
asked choice is_ended words =
    elim (plain choice words) [ Ok found ↦ Ok found | Err fault ↦ from_input fault choice is_ended words ]

-- ---- what is wrong where an option is the value of another

-- no word after it is an option
abbrev pub ends_options : List ℕ → Bool
ends_options word = bytes_eq word (codes "--") || is_some (not_first word)

-- the first option whose value is one, too: what follows an option is its value, whatever it looks like
abbrev pub taken : List (List ℕ) → Option Fault
taken [] = None
taken (word ∷ []) = None
taken (word ∷ value ∷ words) = elim (setting_of word) [
  | Some setting ↦ if is_some (wrong_after value) then Some (record { wrong = Taken setting; word = value })
      else taken words
  | None ↦ if ends_options word then None else taken (value ∷ words)
]
