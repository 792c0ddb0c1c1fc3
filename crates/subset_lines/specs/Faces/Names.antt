-- The name of a named instance (OpenType, "name").
use Rattle.std.specs.Prelude.{◌≡◌, ℕ, zero, suc, nat_eq, ◌+◌, ◌*◌, ◌==◌, ◌&&◌, ◌||◌, nat_le, nat_lt, Bool}
use Rattle.std.specs.Prelude.{if◌then◌else◌, List, [], ◌∷◌, ◌++◌, take, drop, Option, Some, None, codes}
use Rattle.std.specs.HashMap.{HashMap, get}
use Rattle.std.specs.Option.{option_map, option_and_then, unwrap_or}
use Rattle.std.specs.Char.{encode_utf8}
use Rattle.subsetter_base.specs.Bytes.{be, range, number}
use Rattle.subset_lines.specs.declared.faces.names.Kind.{Kind}
use Rattle.subset_lines.specs.declared.faces.names.Kind.TheVariants.{English, Windows, Unicode}
use Rattle.subsetter_sfnt.specs.Fields.Name.{name_record_of}
use Rattle.subsetter_sfnt.specs.declared.fields.name.NameRecord.{NameRecord}
use Rattle.subsetter_base.specs.Options.{first_of}
use Rattle.plain_text.specs.Characters.{is_plain}

-- ---- which record

-- the uint16 at a place of a record
abbrev pub word : List ℕ → ℕ → ℕ
word bytes at = be (take 2 (drop at bytes))

-- Windows (3) has UTF-16 in the encodings 1 and 10
abbrev pub is_windows : List ℕ → Bool
is_windows bytes = word bytes 0 == 3 && (word bytes 2 == 1 || word bytes 2 == 10)

-- of Windows in American English, of Windows, of Unicode (0)
abbrev pub serves : Kind → List ℕ → Bool
serves English bytes = is_windows bytes && word bytes 4 == 0x0409
serves Windows bytes = is_windows bytes
serves Unicode bytes = word bytes 0 == 0

abbrev pub is_name : Kind → ℕ → List ℕ → Bool
is_name kind id bytes = word bytes 6 == id && serves kind bytes

-- the first of the next n records that has a name of a kind
abbrev pub first_name : Kind → ℕ → ℕ → List ℕ → ℕ → Option (List ℕ)
first_name kind id zero table at = None
first_name kind id (suc n) table at =
    option_and_then (λ bytes. if is_name kind id bytes then Some bytes else first_name kind id n table (at + 12))
    (range table at 12)

-- the records begin at byte 6: the best kind that there is
abbrev pub best_name : ℕ → ℕ → List ℕ → Option (List ℕ)
best_name id count table =
    first_of (first_name English id count table 6)
    (first_of (first_name Windows id count table 6) (first_name Unicode id count table 6))

-- how many records a table says that it has
abbrev pub count_in : List ℕ → ℕ
count_in table = unwrap_or (number table 2 2) 0

-- a record, if it has a name of a kind
abbrev pub record_if : Kind → ℕ → List ℕ → Option NameRecord
record_if kind id bytes = if is_name kind id bytes then Some (name_record_of bytes) else None

-- a map has the first record of each name of a kind
abbrev pub AreFirst : {S : Type 0} → Kind → ℕ → List ℕ → HashMap ℕ NameRecord S → Type 0
AreFirst kind count table records =
    (id : ℕ) → get nat_eq records id ≡ option_map name_record_of (first_name kind id count table 6)

-- ---- its text

-- the string of a record, in the storage
abbrev pub string_of : List ℕ → ℕ → List ℕ → Option (List ℕ)
string_of table storage bytes = range table (storage + word bytes 10) (word bytes 8)

-- the same by what was read of the record
abbrev pub string_by : List ℕ → ℕ → NameRecord → Option (List ℕ)
string_by table storage record_read = range table (storage + record_read.string_offset) record_read.length

-- a name, if the table has it
unfoldable pub string_for : List ℕ → ℕ → Option (List ℕ)
string_for table id =
    option_and_then (λ storage. option_and_then (string_of table storage) (best_name id (count_in table) table))
    (number table 4 2)

-- the name of a number, if there is one
abbrev pub name_of : List ℕ → Option ℕ → Option (List ℕ)
name_of table id = option_and_then (string_for table) id

-- a code unit is a character that a line may have, but for half of a pair
abbrev pub is_text : ℕ → Bool
is_text unit = is_plain unit && (nat_lt unit 0xD800 || nat_le 0xE000 unit)

-- these are shown as U+FFFD, so that a line stays one
abbrev pub character_of : ℕ → ℕ
character_of unit = if is_text unit then unit else 0xFFFD

-- code units of two bytes as text
abbrev pub text_of_units : List ℕ → List ℕ
text_of_units (a ∷ b ∷ bytes) = encode_utf8 (character_of (a * 256 + b)) ++ text_of_units bytes
text_of_units (a ∷ []) = []
text_of_units [] = []

-- a name after a blank, if there is one
abbrev pub after_instance : Option (List ℕ) → List ℕ
after_instance None = []
after_instance (Some bytes) = codes " " ++ text_of_units bytes
