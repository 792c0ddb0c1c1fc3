-- The glyphs to keep, one after another, and the characters that request them.
use Rattle.std.specs.Prelude.{ℕ, ◌==◌, ◌&&◌, nat_le, if◌then◌else◌, List, [], ◌∷◌, ◌++◌, map, filter, length}
use Rattle.std.specs.Prelude.{slice_index, slice_range, Option, Some, None}
use Rattle.text_glyphs.specs.Choice.{character_glyph}
use Rattle.text_glyphs.specs.Reading.{Source, entries_of, is_entry, missing_in}
use Rattle.text_glyphs.specs.declared.reading.Entry.{Entry}
use Rattle.subset_task.specs.declared.making.requested.Picked.{Picked as InCode}

-- the old numbers; the character of each, if it is requested by one; the texts of all, one after another, and how many
-- characters of these each has; and the characters that the face lacks
pub record Picked : Type 0 where
  pub glyphs : List ℕ
  pub characters : List (Option ℕ)
  pub text : List ℕ
  pub lengths : List ℕ
  pub missing : List ℕ

abbrev pub picked_view : InCode → Picked
picked_view p =
    record {
      glyphs = p.glyphs.items;
      characters = p.characters.items;
      text = p.text.items;
      lengths = p.lengths.items;
      missing = p.missing.items;
    }

abbrev pub nothing : Picked
nothing = record { glyphs = []; characters = []; text = []; lengths = []; missing = [] }

-- glyphs after others
abbrev pub both : Picked → Picked → Picked
both a b =
    record {
      glyphs = a.glyphs ++ b.glyphs;
      characters = a.characters ++ b.characters;
      text = a.text ++ b.text;
      lengths = a.lengths ++ b.lengths;
      missing = a.missing ++ b.missing;
    }

-- glyphs that are requested by number: none has a text
abbrev pub bare : List ℕ → Picked
bare numbers =
    record {
      glyphs = numbers;
      characters = map (λ glyph. None) numbers;
      text = [];
      lengths = map (λ glyph. 0) numbers;
      missing = [];
    }

-- ---- by a text, which is read without shaping

-- the text of an entry
abbrev pub part : List ℕ → Entry → List ℕ
part text entry =
    if nat_le entry.start entry.end && nat_le entry.end (length text) then slice_range text entry.start entry.end
    else []

abbrev pub texts_of : List ℕ → List Entry → List ℕ
texts_of text [] = []
texts_of text (entry ∷ entries) = part text entry ++ texts_of text entries

abbrev pub of_entries : List ℕ → List Entry → List ℕ → Picked
of_entries text entries missing =
    record {
      glyphs = map (λ entry. entry.glyph) entries;
      characters = map (λ c. Some c) (filter is_entry text);
      text = texts_of text entries;
      lengths = map (λ entry. length (part text entry)) entries;
      missing = map (slice_index text) missing;
    }

unfoldable pub of_text : Source → List ℕ → Picked
of_text source text = of_entries text (entries_of source text) (missing_in source text)

-- ---- by characters, each by itself

-- those whose glyph is 0
abbrev pub lacking : List ℕ → List ℕ → List ℕ
lacking [] glyphs = []
lacking (c ∷ characters) [] = []
lacking (c ∷ characters) (g ∷ glyphs) = if g == 0 then c ∷ lacking characters glyphs else lacking characters glyphs

abbrev pub of_characters : Source → List ℕ → Picked
of_characters source given =
    record {
      glyphs = map (character_glyph source.table) given;
      characters = map (λ c. Some c) given;
      text = given;
      lengths = map (λ c. 1) given;
      missing = lacking given (map (character_glyph source.table) given);
    }
