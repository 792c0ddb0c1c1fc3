-- Kept glyphs in memory: the flattened charstrings one after the other.
use Rattle.std.specs.Prelude.{◌≡◌, ℕ, ◌+◌, List, [], ◌∷◌, ◌++◌, length, map, Result, Ok}
use Rattle.std.specs.List.{concat}
use Rattle.subsetter_base.specs.Bytes.{◌>>=◌}
use Rattle.std.specs.Option.{ok_or}
use Rattle.subsetter_base.specs.declared.error.Error.{Error}
use Rattle.subsetter_base.specs.declared.error.Error.TheVariants.{MalformedFont}
use Rattle.subsetter_base.specs.Gives.{following}
use Rattle.subsetter_type2.specs.Flat.{flat_form}
use Rattle.subsetter_cffdata.specs.Indexes.Index.{offsets}
use Rattle.subsetter_cff.specs.declared.write.glyphs.kept_glyphs.Kept.{Kept}
use Rattle.subsetter_cff.specs.declared.write.glyphs.kept_glyphs.KeptGlyphs.{KeptGlyphs}
use Rattle.subsetter_cff.specs.Read.Cff.{Cff, char_string}
use Rattle.subsetter_cff.specs.Read.GlyphTrace.{library}
use Rattle.subsetter_cff.specs.Write.Plain.{KeptGlyph, source_number, kept_glyph, kept_glyphs}
use Rattle.subsetter_cff.specs.Read.FdArray.Private.{private_of}

abbrev pub kept_view : Kept → KeptGlyph
kept_view k = record { number = k.number; bytes = k.bytes.items }

abbrev pub numbers_of : List KeptGlyph → List ℕ
numbers_of kept = map (λ (k : KeptGlyph). k.number) kept

abbrev pub texts_of : List KeptGlyph → List (List ℕ)
texts_of kept = map (λ (k : KeptGlyph). k.bytes) kept

-- how many bytes the charstrings of kept glyphs have
abbrev pub texts_size : List KeptGlyph → ℕ
texts_size kept = length (concat (texts_of kept))

-- the glyphs that are held in memory; each end is the offset that an INDEX gives
pub record AreKept (kept : List KeptGlyph) (k : KeptGlyphs) : Type 0 where
  pub numbers : k.numbers.items ≡ numbers_of kept
  pub char_strings : k.char_strings.items ≡ concat (texts_of kept)
  pub ends : k.ends.items ≡ offsets 1 (texts_of kept)

-- the kept glyphs with one more
pub record IsPut (old new : KeptGlyphs) (g : KeptGlyph) : Type 0 where
  pub numbers : new.numbers.items ≡ old.numbers.items ++ g.number ∷ []
  pub char_strings : new.char_strings.items ≡ old.char_strings.items ++ g.bytes
  pub ends : new.ends.items ≡ old.ends.items ++ (length new.char_strings.items + 1) ∷ []

-- all glyphs that were kept
pub record AreAllKept (cff : Cff) (tokens depth : ℕ) (glyphs : List ℕ) (k : KeptGlyphs) : Type 0 where
  pub kept : List KeptGlyph
  pub are : kept_glyphs cff tokens depth glyphs ≡ Ok kept
  pub shown : AreKept kept k

-- a glyph whose charstring comes after others
unfoldable pub kept_past : List ℕ → Cff → ℕ → ℕ → ℕ → Result KeptGlyph Error
kept_past front cff tokens depth glyph = do
  number ← ok_or (source_number cff glyph) MalformedFont
  private ← ok_or (private_of cff glyph) MalformedFont
  charstring ← ok_or (char_string cff glyph) MalformedFont
  bytes ← following front (flat_form (library cff private) tokens depth charstring)
  Ok (record { number = number; bytes = bytes })

-- one glyph more was kept
pub record KeepsNext (cff : Cff) (tokens depth glyph : ℕ) (old new : KeptGlyphs) : Type 0 where
  pub one : KeptGlyph
  pub is : kept_glyph cff tokens depth glyph ≡ Ok one
  pub put : IsPut old new one

-- glyphs before those of a result
abbrev pub with_kept : List KeptGlyph → Result (List KeptGlyph) Error → Result (List KeptGlyph) Error
with_kept front read = read >>= λ more. Ok (front ++ more)
