-- The names of a font by their IDs, and its PostScript name, ID 6 (OpenType, "name - Naming Table").
use Rattle.std.specs.Prelude.{◌≡◌, ◌<◌, true, All, ℕ, zero, suc, ◌+◌, ◌*◌, ◌==◌, ◌&&◌, nat_le, Bool, not, if◌then◌else◌}
use Rattle.std.specs.Prelude.{List, [], ◌∷◌, filter, codes, Option, Some, None}
use Rattle.std.specs.List.{list_any}
use Rattle.std.specs.Option.{option_and_then, option_map_or, option_or}
use Rattle.subsetter_base.specs.Bytes.{range, number}
use Rattle.subsetter_base.specs.Options.{◌>>=◌}
use Rattle.pdf_values.specs.declared.naming.Kind.{Kind}
use Rattle.pdf_values.specs.declared.naming.Kind.TheVariants.{WindowsEnglish, Windows, Unicode, MacintoshRoman}
use Rattle.subsetter_sfnt.specs.Fields.Name.{name_record_of}
use Rattle.subsetter_sfnt.specs.declared.fields.name.NameRecord.{NameRecord}
use Rattle.subsetter_base.specs.Texts.{or_else}

-- platform 0 is Unicode, 1 is Macintosh, whose encoding 0 is Roman, and 3 is Windows, whose language 1033 is English of
-- the United States
abbrev pub is_of : Kind → NameRecord → Bool
is_of WindowsEnglish r = r.platform_id == 3 && r.language_id == 1033
is_of Windows r = r.platform_id == 3
is_of Unicode r = r.platform_id == 0
is_of MacintoshRoman r = r.platform_id == 1 && r.encoding_id == 0

-- the string of the record at a place, if it is a name of a kind with this ID; strings are in the storage
abbrev pub string_at : Kind → ℕ → List ℕ → ℕ → ℕ → Option (List ℕ)
string_at kind id name storage at =
    option_and_then (λ bytes. let r = name_record_of bytes in
    if r.name_id == id && is_of kind r then range name (storage + r.string_offset) r.length else None)
    (range name at 12)

-- the first such string of that many records from a place on
unfoldable pub string_from : Kind → ℕ → List ℕ → ℕ → ℕ → ℕ → Option (List ℕ)
string_from kind id name storage zero at = None
string_from kind id name storage (suc n) at =
    option_or (string_at kind id name storage at) (string_from kind id name storage n (at + 12))

-- count is at byte 2, storageOffset at byte 4, and the records after it
abbrev pub string_of : Kind → ℕ → List ℕ → Option (List ℕ)
string_of kind id name = do
  count ← number name 2 2
  storage ← number name 4 2
  string_from kind id name storage count 6

-- a character that a PostScript name has: printable ASCII but ten
abbrev pub is_name_character : ℕ → Bool
is_name_character b = nat_le 33 b && nat_le b 126 && not (list_any (λ c. b == c) (codes "[](){}<>/%"))

-- those of a string of bytes, and of one in UTF-16BE, which has two bytes for each
abbrev pub plain_text : List ℕ → List ℕ
plain_text bytes = filter is_name_character bytes

abbrev pub wide_text : List ℕ → List ℕ
wide_text [] = []
wide_text (b ∷ []) = []
wide_text (high ∷ low ∷ bytes) = if high == 0 && is_name_character low then low ∷ wide_text bytes else wide_text bytes

-- strings of Windows and Unicode are in UTF-16BE
abbrev pub text_of : Kind → List ℕ → List ℕ
text_of MacintoshRoman bytes = plain_text bytes
text_of kind bytes = wide_text bytes

abbrev pub text_in : Kind → ℕ → Option (List ℕ) → List ℕ
text_in kind id name = option_map_or (text_of kind) (option_and_then (string_of kind id) name) []

-- the name of an ID in `name`: of Windows in English, else of Windows, else of Unicode, else of Macintosh
abbrev pub table_name : ℕ → Option (List ℕ) → List ℕ
table_name id name =
    or_else (or_else (or_else (text_in WindowsEnglish id name) (text_in Windows id name)) (text_in Unicode id name))
    (text_in MacintoshRoman id name)

-- that of ID 6, else the first of the Name INDEX of `CFF `
abbrev pub postscript_name : Option (List ℕ) → Option (List ℕ) → List ℕ
postscript_name name cff = or_else (table_name 6 name) (option_map_or plain_text cff [])

-- a text of such characters alone
abbrev pub IsNameText : List ℕ → Type 0
IsNameText text = All (λ b. is_name_character b ≡ true) text

-- the string of one of the n records from a place on, and none before it has such a string
pub record IsFirstString (kind : Kind) (id : ℕ) (name : List ℕ) (storage n at : ℕ) (string : List ℕ) : Type 0 where
  pub index : ℕ
  pub inside : index < n
  pub stands : string_at kind id name storage (at + 12 * index) ≡ Some string
  pub before : (j : ℕ) → j < index → string_at kind id name storage (at + 12 * j) ≡ None

-- a search gives the first string, and nothing only where no record has one
abbrev pub FirstIsTaken : Type 0
FirstIsTaken =
    (kind : Kind) (id : ℕ) (name : List ℕ) (storage n at : ℕ) (string : List ℕ)
    → string_from kind id name storage n at ≡ Some string
    → IsFirstString kind id name storage n at string

abbrev pub NoneIsPassed : Type 0
NoneIsPassed =
    (kind : Kind) (id : ℕ) (name : List ℕ) (storage n at : ℕ) → string_from kind id name storage n at ≡ None → (j : ℕ)
    → j < n
    → string_at kind id name storage (at + 12 * j) ≡ None
