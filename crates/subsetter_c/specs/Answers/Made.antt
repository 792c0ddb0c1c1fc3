-- How lists are handed to C in memory of the library: by where they are and how long they are, and a status.
use Rattle.std.specs.Prelude.{◌≡◌, ℕ, List, [], Option}
use Rattle.subsetter_base.specs.declared.error.Error.{Error}
use Rattle.subsetter_sfnt.specs.Read.{Font}
use Rattle.cid_embed.specs.declared.embedding.Embedded.{Embedded}
use Rattle.subsetter_c.specs.Answers.Embedding.{Buffers, lists_of, IsSoundEmbedding, IsEmbeddingRefusal}
use Rattle.subsetter_c.specs.Answers.Handed.{IsSoundSubset, IsRefusal}
use Rattle.subsetter_c.specs.Answers.Status.{status_of}
use Rattle.subsetter_c.specs.declared.answers.making.Made.{Made}

-- the lists that are handed over
abbrev pub lists_in : Made → Buffers
lists_in made = record { font = made.font.now; cids = made.cids.now; widths = made.widths.now }

abbrev pub only_font : List ℕ → Buffers
only_font bytes = record { font = bytes; cids = []; widths = [] }

-- lists of which `Is` holds, or an error of which `Why` holds, are handed over: the lists, and the status
pub data IsMade (Is : Buffers → Type 0) (Why : Error → Type 0) (made : Buffers) (status : ℕ) : Type 0 where
  whole : Is made → status ≡ 0 → IsMade Is Why made status
  -- all are empty
  refused : (e : Error) → Why e → made ≡ only_font [] → status ≡ status_of e → IsMade Is Why made status

-- no lists are handed over, for the reason of a status
pub record IsNothingMade (why : ℕ) (made : Buffers) (status : ℕ) : Type 0 where
  pub empty : made ≡ only_font []
  pub status_is : status ≡ why

-- bytes of which `Is` holds, without CIDs and widths
abbrev pub IsFontMade : (List ℕ → Type 0) → (Error → Type 0) → Buffers → ℕ → Type 0
IsFontMade Is Why = IsMade (λ made. (bytes : List ℕ) × Is bytes × (made ≡ only_font bytes)) Why

-- how a subset is handed over in memory of the library, or the status that says why there is none
abbrev pub IsSubsetMade : Option ℕ → ℕ → ℕ → Font → List ℕ → Buffers → ℕ → Type 0
IsSubsetMade bound tokens depth font glyphs =
    IsFontMade (IsSoundSubset bound tokens depth font glyphs) (IsRefusal bound tokens depth font glyphs)

-- a subset with its CIDs and widths
abbrev pub IsEmbeddingMade : Option ℕ → ℕ → ℕ → Font → List ℕ → Buffers → ℕ → Type 0
IsEmbeddingMade bound tokens depth font glyphs =
    IsMade (λ made. (e : Embedded) × IsSoundEmbedding bound tokens depth font glyphs e × (made ≡ lists_of e))
    (IsEmbeddingRefusal bound tokens depth font glyphs)
