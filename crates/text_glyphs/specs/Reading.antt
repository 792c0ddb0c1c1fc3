-- How a text is read without shaping: entries of glyphs, each with a part of the text, and places of what the font
-- lacks.
use Rattle.std.specs.Prelude.{ℕ, suc, ◌+◌, ◌==◌, ◌&&◌, ◌||◌, not, Bool, false, if◌then◌else◌, List, [], ◌∷◌, ◌++◌}
use Rattle.std.specs.Prelude.{Option, Some, None}
use Rattle.std.specs.Option.{option_and_then, option_map, unwrap_or}
use Rattle.subsetter_base.specs.Bytes.{first_number}
use Rattle.text_glyphs.specs.Choice.{Chosen, character_glyph, chosen}
use Rattle.text_glyphs.specs.Kinds.{is_control, is_ignorable, is_selector}
use Rattle.text_glyphs.specs.Sequences.{sequence_glyph, sequences_of}
use Rattle.text_glyphs.specs.declared.reading.Begun.{Begun}
use Rattle.text_glyphs.specs.declared.reading.Entry.{Entry}

-- the tables of a `cmap` that are used
pub record Source : Type 0 where
  pub table : Chosen
  pub sequences : Option (List ℕ)

abbrev pub with_sequences_of : List ℕ → Chosen → Source
with_sequences_of cmap table = record { table = table; sequences = sequences_of cmap }

abbrev pub source_of : List ℕ → Option Source
source_of cmap = option_map (with_sequences_of cmap) (chosen cmap)

-- the glyph of a character and the one after it, if that is a selector and the font has another glyph for the two
abbrev pub if_sequence : Source → ℕ → ℕ → Option ℕ
if_sequence s c next =
    option_and_then (λ table. if is_selector next then sequence_glyph table c next else None) s.sequences

abbrev pub sequence_before : Source → ℕ → List ℕ → Option ℕ
sequence_before s c rest = option_and_then (if_sequence s c) (first_number rest)

-- the glyph of each character of a text: that of its sequence, or its own
abbrev pub glyphs_in : Source → List ℕ → List ℕ
glyphs_in s [] = []
glyphs_in s (c ∷ rest) = unwrap_or (sequence_before s c rest) (character_glyph s.table c) ∷ glyphs_in s rest

-- how many default ignorables a text begins with
abbrev pub ignorables_in : List ℕ → ℕ
ignorables_in [] = 0
ignorables_in (c ∷ rest) = if is_ignorable c then suc (ignorables_in rest) else 0

-- A control has no entry, and the text begins anew after it. A default ignorable has none: it is text of the entry
-- before it, or else of the one after it.
abbrev pub is_entry : ℕ → Bool
is_entry c = not (is_control c || is_ignorable c)

abbrev pub entry_at : Begun → ℕ → ℕ → List ℕ → ℕ → Option Entry
entry_at b at c rest g =
    if is_entry c then Some (record { glyph = g; start = b.from; end = at + 1 + ignorables_in rest }) else None

-- where the text of the next entry begins, after a character at a place: after it, but for default ignorables that no
-- entry is before
abbrev pub next_begun : Begun → ℕ → ℕ → Begun
next_begun b at c =
    if is_ignorable c && not b.follows then b else record { follows = not (is_control c); from = at + 1 }

abbrev pub listed : {A : Type 0} → Option A → List A
listed None = []
listed (Some x) = x ∷ []

-- the entries of a text from a place on, by the glyph of each character
abbrev pub entries_from : Begun → ℕ → List ℕ → List ℕ → List Entry
entries_from b at [] glyphs = []
entries_from b at (c ∷ rest) [] = []
entries_from b at (c ∷ rest) (g ∷ glyphs) =
    listed (entry_at b at c rest g) ++ entries_from (next_begun b at c) (at + 1) rest glyphs

abbrev pub at_front : Begun
at_front = record { follows = false; from = 0 }

abbrev pub entries_of : Source → List ℕ → List Entry
entries_of s text = entries_from at_front 0 text (glyphs_in s text)

-- the places of what the font lacks: each control, and each character that has an entry and no glyph
abbrev pub missing_at : ℕ → ℕ → ℕ → Option ℕ
missing_at at c g = if is_control c || (is_entry c && g == 0) then Some at else None

abbrev pub missing_from : ℕ → List ℕ → List ℕ → List ℕ
missing_from at [] glyphs = []
missing_from at (c ∷ rest) [] = []
missing_from at (c ∷ rest) (g ∷ glyphs) = listed (missing_at at c g) ++ missing_from (at + 1) rest glyphs

abbrev pub missing_in : Source → List ℕ → List ℕ
missing_in s text = missing_from 0 text (glyphs_in s text)
