-- What values of the code mean, and what functions that take memory return.
use Rattle.std.specs.Prelude.{◌≡◌, ℕ, List, [], ◌∷◌, map, String, string_bytes, Result, Ok, Err}
use Rattle.std.specs.Char.{encode_utf8}
use Rattle.std.specs.Global.{Global}
use Rattle.subset_batch.specs.declared.fault.Fault.{Fault}
use Rattle.subset_batch.specs.declared.fault.Fault.TheVariants.{Expected, Unknown, Twice}
use Rattle.subset_batch.specs.declared.fault.Unread.{Unread}
use Rattle.subset_batch.specs.declared.fault.Unread.TheVariants as unread
use Rattle.subset_batch.specs.declared.json.characters.Character.{Character}
use Rattle.subset_batch.specs.declared.json.characters.Character.TheVariants.{Byte, Scalar}
use Rattle.subset_batch.specs.declared.values.Value.{Value}
use Rattle.subset_batch.specs.declared.values.Value.TheVariants.{Absent, Present, Text, Texts}
use Rattle.subset_batch.specs.declared.members.Member.{Member}
use Rattle.subset_batch.specs.declared.lines.Line.{Line}
use Rattle.subset_batch.specs.Members as said
use Rattle.subset_batch.specs.Reading as reading

abbrev pub fault_view : Fault → reading.Fault
fault_view (Expected wanted left) = reading.expected wanted left
fault_view (Unknown name left) = reading.unknown (string_bytes name) left
fault_view (Twice name) = reading.twice (string_bytes name)

-- the reading fails so, unless memory ran out
abbrev pub Fails : {Y : Type 0} → Unread → Result Y reading.Fault → Type 0
Fails unread.OutOfMemory read = Unit {0}
Fails (unread.Fault fault) read = read ≡ Err (fault_view fault)

-- the result, seen by view, is what the reading gives, unless memory ran out
abbrev pub Gives : {X Y : Type 0} → (X → Y) → Result X Unread → Result Y reading.Fault → Type 0
Gives view (Ok x) read = read ≡ Ok (view x)
Gives view (Err e) read = Fails e read

-- the bytes of a character
abbrev pub character_view : Character → List ℕ
character_view (Byte b) = b ∷ []
character_view (Scalar c) = encode_utf8 c

abbrev pub value_view : Value → said.Value
value_view Absent = said.absent
value_view Present = said.present
value_view (Text t) = said.text (string_bytes t)
value_view (Texts ts) = said.texts (map (λ t. string_bytes t) ts.items)

abbrev pub member_view : Member → said.Member
member_view m = record { name = string_bytes m.name; value = value_view m.value }

abbrev pub members_view : List Member → List said.Member
members_view members = map member_view members

abbrev pub words_view : List (String Global) → List (List ℕ)
words_view words = map (λ t. string_bytes t) words

abbrev pub line_view : Line → ℕ × List ℕ
line_view line = (line.number, line.bytes.now)

abbrev pub lines_view : List Line → List (ℕ × List ℕ)
lines_view lines = map line_view lines
