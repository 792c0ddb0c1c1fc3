-- How a text that is read without shaping is handed to C: in two buffers of the caller, by sizes and a status.
use Rattle.std.specs.Prelude.{◌≡◌, ◌⊎◌, ◌≤◌, ℕ, List, length, Some}
use Rattle.subsetter_base.specs.declared.error.Error.{Error}
use Rattle.subsetter_sfnt.specs.Read.{Font}
use Rattle.text_glyphs.specs.Faces.{face_source}
use Rattle.text_glyphs.specs.Reading.{Source, entries_of, missing_in}
use Rattle.text_glyphs.specs.declared.reading.Entry.{Entry}
use Rattle.text_glyphs.specs.declared.reading.ReadText.{ReadText}
use Rattle.subsetter_c.specs.Answers.Handed.{begun_with}
use Rattle.subsetter_c.specs.Answers.Status.{no_cmap, status_of, too_small}
use Rattle.subsetter_c.specs.Documents.PdfGlyphs.{HasNoCmap, IsGlyphRefusal, IsUnread}
use Rattle.subsetter_c.specs.declared.documents.reading.ReadSizes.{ReadSizes}

pub record ReadBuffers : Type 0 where
  pub entries : List Entry
  pub missing : List ℕ

-- each list fits its buffer
pub record ReadFits (r : ReadText) (before : ReadBuffers) : Type 0 where
  pub entries : length r.entries.items ≤ length before.entries
  pub missing : length r.missing.items ≤ length before.missing

-- each list is at the front of its buffer
abbrev pub read_begun : ReadText → ReadBuffers → ReadBuffers
read_begun r before =
    record { entries = begun_with r.entries.items before.entries; missing = begun_with r.missing.items before.missing }

abbrev pub read_sizes : ReadText → ReadSizes
read_sizes r = record { entries = length r.entries.items; missing = length r.missing.items }

abbrev pub no_read_sizes : ReadSizes
no_read_sizes = record { entries = 0; missing = 0 }

-- what is read of which `Is` holds, or an error of which `Why` holds, is handed over: the buffers before and after, the
-- sizes, and the status
pub data IsReadHanded (Is : ReadText → Type 0) (Why : Error → Type 0) (before after : ReadBuffers) (told : ReadSizes)
    (status : ℕ) : Type 0 where
  whole : (r : ReadText) → Is r → ReadFits r before → after ≡ read_begun r before → told ≡ read_sizes r → status ≡ 0
      → IsReadHanded Is Why before after told status
  -- a buffer is too small
  short : (r : ReadText) → Is r → ¬ (ReadFits r before) → after ≡ before → told ≡ read_sizes r → status ≡ too_small
      → IsReadHanded Is Why before after told status
  refused : (e : Error) → Why e → after ≡ before → told ≡ no_read_sizes → status ≡ status_of e
      → IsReadHanded Is Why before after told status

-- nothing is handed over, for the reason of a status
pub record IsNothingRead (why : ℕ) (before after : ReadBuffers) (told : ReadSizes) (status : ℕ) : Type 0 where
  pub unchanged : after ≡ before
  pub none : told ≡ no_read_sizes
  pub status_is : status ≡ why

-- the entries of a text by tables, and the places of what they lack
pub record IsReadBy (s : Source) (text : List ℕ) (r : ReadText) : Type 0 where
  pub entries_are : r.entries.items ≡ entries_of s text
  pub missing_are : r.missing.items ≡ missing_in s text

-- the same by the tables of a font
pub record IsReadOf (font : Font) (text : List ℕ) (r : ReadText) : Type 0 where
  pub opens : (e : Error) → ¬ (IsUnread font e)
  pub source : Source
  pub found : face_source font ≡ Some source
  pub are : IsReadBy source text r

-- a text is handed over that is read, or the reason why there is none
abbrev pub IsReadMade : Font → List ℕ → ReadBuffers → ReadBuffers → ReadSizes → ℕ → Type 0
IsReadMade font text before after told status =
    (HasNoCmap font × IsNothingRead no_cmap before after told status)
    ⊎ IsReadHanded (IsReadOf font text) (IsGlyphRefusal font) before after told status
