-- How a subset with its CIDs and widths is handed to C: in three buffers of the caller, by sizes and a status.
use Rattle.std.specs.Prelude.{◌≡◌, ◌⊎◌, ◌≤◌, ℕ, List, length, Option}
use Rattle.subsetter_base.specs.declared.error.Error.{Error}
use Rattle.subsetter_sfnt.specs.Fault.{HasOpeningFault}
use Rattle.subsetter_sfnt.specs.Read.{Font}
use Rattle.cid_embed.specs.Embed.{HasEmbedFaultWithin, IsEmbeddingAnswer, HasNoEmbeddingWithin}
use Rattle.subsetter.specs.Bound.{IsWithin}
use Rattle.cid_embed.specs.declared.embedding.Embedded.{Embedded}
use Rattle.subsetter_c.specs.Answers.Handed.{begun_with, IsOutOfMemory}
use Rattle.subsetter_c.specs.Answers.Status.{status_of, too_small}
use Rattle.subsetter_c.specs.declared.answers.handing.Sizes.{Sizes}

pub record Buffers : Type 0 where
  pub font : List ℕ
  pub cids : List ℕ
  pub widths : List ℕ

-- each list fits its buffer
pub record Fits (e : Embedded) (before : Buffers) : Type 0 where
  pub font : length e.font.items ≤ length before.font
  pub cids : length e.cids.items ≤ length before.cids
  pub widths : length e.widths.items ≤ length before.widths

-- each list is at the front of its buffer
abbrev pub all_begun : Embedded → Buffers → Buffers
all_begun e before =
    record {
      font = begun_with e.font.items before.font;
      cids = begun_with e.cids.items before.cids;
      widths = begun_with e.widths.items before.widths;
    }

abbrev pub sizes_of : Embedded → Sizes
sizes_of e = record { font = length e.font.items; cids = length e.cids.items; widths = length e.widths.items }

abbrev pub no_sizes : Sizes
no_sizes = record { font = 0; cids = 0; widths = 0 }

-- all of which `Is` holds, or an error of which `Why` holds, is handed over: the buffers before and after, the sizes
-- that are told, and the status
pub data AreHandedOver (Is : Embedded → Type 0) (Why : Error → Type 0) (before after : Buffers) (told : Sizes)
    (status : ℕ) : Type 0 where
  -- each list is at the front of its buffer
  whole : (e : Embedded) → Is e → Fits e before → after ≡ all_begun e before → told ≡ sizes_of e → status ≡ 0
      → AreHandedOver Is Why before after told status
  -- a buffer is too small, all are unchanged, and the exact sizes are told
  short : (e : Embedded) → Is e → ¬ (Fits e before) → after ≡ before → told ≡ sizes_of e → status ≡ too_small
      → AreHandedOver Is Why before after told status
  -- the buffers are unchanged
  refused : (e : Error) → Why e → after ≡ before → told ≡ no_sizes → status ≡ status_of e
      → AreHandedOver Is Why before after told status

abbrev pub lists_of : Embedded → Buffers
lists_of e = record { font = e.font.items; cids = e.cids.items; widths = e.widths.items }

-- what is returned
pub record IsSoundEmbedding (bound : Option ℕ) (tokens depth : ℕ) (font : Font) (glyphs : List ℕ) (e : Embedded)
    : Type 0 where
  pub answer : IsEmbeddingAnswer tokens depth font glyphs e
  -- any answer for the same glyphs of the font, within these limits or others, is these three lists: so is what a
  -- second call returns
  pub same : (more deeper : ℕ) (other : Embedded) → IsEmbeddingAnswer more deeper font glyphs other
      → lists_of e ≡ lists_of other
  -- its font is no longer than it may be
  pub within : IsWithin bound e.font.items

-- why nothing is returned: memory ran out, or there is a fault, and then no call returns anything
abbrev pub IsEmbeddingRefusal : Option ℕ → ℕ → ℕ → Font → List ℕ → Error → Type 0
IsEmbeddingRefusal bound tokens depth font glyphs why =
    IsOutOfMemory (HasOpeningFault font) why
    ⊎ (((order : List ℕ) × HasEmbedFaultWithin bound tokens depth font glyphs order why)
    × HasNoEmbeddingWithin bound tokens depth font glyphs)

-- nothing is handed over, for the reason of a status
pub record AreNoneHanded (why : ℕ) (before after : Buffers) (told : Sizes) (status : ℕ) : Type 0 where
  pub unchanged : after ≡ before
  pub none : told ≡ no_sizes
  pub status_is : status ≡ why

-- a subset with its CIDs and widths is handed over
abbrev pub IsEmbeddingHanded : Option ℕ → ℕ → ℕ → Font → List ℕ → Buffers → Buffers → Sizes → ℕ → Type 0
IsEmbeddingHanded bound tokens depth font glyphs =
    AreHandedOver (IsSoundEmbedding bound tokens depth font glyphs) (IsEmbeddingRefusal bound tokens depth font glyphs)
