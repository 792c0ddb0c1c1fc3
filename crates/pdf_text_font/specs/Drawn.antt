-- What draws the codes of a text: the program, and with TrueType outlines the map from CIDs to its glyphs (ISO 32000-1,
-- 9.7.4.2).
use Rattle.std.specs.Prelude.{◌≡◌, ◌⊎◌, ◌<◌, ◌+◌, ◌&&◌, ℕ, Bool, true, false, List, [], ◌∷◌, length, map, slice_get}
use Rattle.std.specs.Prelude.{codes, Option, Some, None, unwrap_or, Err, pos}
use Rattle.std.specs.List.{list_all}
use Rattle.std.specs.Ordering.{int_eq}
use Rattle.subsetter_base.specs.Options.{◌>>=◌}
use Rattle.subsetter_base.specs.declared.error.Error.{Error}
use Rattle.subsetter_base.specs.declared.error.Error.TheVariants.{MalformedFont, OverflowError}
use Rattle.subsetter_sfnt.specs.Fields.Maxp.{num_glyphs}
use Rattle.subsetter_sfnt.specs.Plain.{opened}
use Rattle.subsetter_sfnt.specs.Read.{as_font, stored}
use Rattle.own_glyphs.specs.Own.{HasOwnGlyphs}
use Rattle.own_glyphs.specs.Refused.{IsRefused}
use Rattle.own_glyphs.specs.declared.glyph.OwnGlyph.{OwnGlyph}
use Rattle.own_glyphs.specs.declared.glyph.Part.{Part}
use Rattle.cff_repeats.specs.Laws.{HasFigures}
use Rattle.cff_repeats.specs.Repeats.{with_repeats}
use Rattle.pdf_widths.specs.Laws.{HaveWidths}
use Rattle.pdf_widths.specs.Tables.{with_widths}
use Rattle.pdf_text.specs.declared.values.ProgramKind.{ProgramKind}
use Rattle.pdf_text.specs.declared.values.ProgramKind.TheVariants.{TrueType, BareCff, OpenType}
use Rattle.pdf_text_font.specs.GlyphMap.{map_bytes}
use Rattle.pdf_text_font.specs.declared.pairs.Drawing.{Drawing}
use Rattle.pdf_text_font.specs.declared.pairs.Drawing.TheVariants.{Glyph, Own, Nothing}

-- ---- TrueType outlines

-- how many glyphs there are, by `maxp`
abbrev pub count_by : (List ℕ → Option (List ℕ)) → Option ℕ
count_by find = find (codes "maxp") >>= num_glyphs

abbrev pub glyph_count : List ℕ → Option ℕ
glyph_count file = count_by (stored (as_font file))

-- why that isn't found
abbrev pub IsUncounted : List ℕ → Error → Type 0
IsUncounted file e = (opened (as_font file) ≡ Err e) ⊎ ((e ≡ MalformedFont) × (glyph_count file ≡ None))

-- the glyphs of a file, and after them others, of which the first `owns` are own ones; a map leads there
pub record HasMore (file : List ℕ) (others : List OwnGlyph) (owns : ℕ) (ds : List Drawing) (program : List ℕ)
    (map : Option (List ℕ)) : Type 0 where
  pub glyphs : HasOwnGlyphs file others program
  pub number : ℕ
  pub number_is : glyph_count file ≡ Some number
  pub map_is : map ≡ Some (map_bytes number owns ds)

-- the glyphs of a file, to which a map leads
pub record HasNoMore (file : List ℕ) (ds : List Drawing) (program : List ℕ) (map : Option (List ℕ)) : Type 0 where
  pub same : program ≡ file
  pub map_is : map ≡ Some (map_bytes 0 0 ds)

abbrev pub AreMapped : List ℕ → List OwnGlyph → ℕ → List Drawing → List ℕ → Option (List ℕ) → Type 0
AreMapped file [] owns ds program map = HasNoMore file ds program map
AreMapped file (o ∷ others) owns ds program map = HasMore file (o ∷ others) owns ds program map

-- why others don't come after them, each reason with its error
pub data IsUnmapped (file : List ℕ) (others : List OwnGlyph) (owns : ℕ) : Error → Type 0 where
  uncounted : {e : Error} → IsUncounted file e → IsUnmapped file others owns e
  -- more than 65,535 glyphs
  crowded : (number : ℕ) → glyph_count file ≡ Some number → 65535 < number + owns
      → IsUnmapped file others owns OverflowError
  -- the file gets no others
  refused : {e : Error} → IsRefused file others e → IsUnmapped file others owns e

-- ---- outlines in `CFF `, which have no map: an own glyph is a glyph at the origin, or a blank, with another width

abbrev pub is_still : List Part → Bool
is_still [] = true
is_still (p ∷ []) = int_eq p.x (pos 0) && int_eq p.y (pos 0)
is_still (p ∷ q ∷ ps) = false

abbrev pub are_still : List OwnGlyph → Bool
are_still others = list_all (λ (o : OwnGlyph). is_still o.parts.now) others

abbrev pub part_glyph : List Part → Option ℕ
part_glyph [] = None
part_glyph (p ∷ ps) = Some p.glyph

abbrev pub own_figure : List OwnGlyph → ℕ → Option ℕ
own_figure others k = slice_get others k >>= λ (o : OwnGlyph). part_glyph o.parts.now

abbrev pub figure_of : List OwnGlyph → Drawing → Option ℕ
figure_of others (Glyph n) = Some n
figure_of others (Own k) = own_figure others k
figure_of others Nothing = None

abbrev pub figures_of : List OwnGlyph → List Drawing → List (Option ℕ)
figures_of others ds = map (figure_of others) ds

abbrev pub with_advances : List ℕ → List ℕ → List ℕ
with_advances advances cff = unwrap_or (with_widths cff advances) cff

-- of each code the charstring of its figure, whose CID is the code, with its advance
pub record AreRepeated (cff : List ℕ) (others : List OwnGlyph) (advances : List ℕ) (ds : List Drawing)
    (program : List ℕ) (map : Option (List ℕ)) : Type 0 where
  pub still : are_still others ≡ true
  pub again : List ℕ
  pub figures : HasFigures (figures_of others ds) cff again
  pub exact : program ≡ with_advances advances again
  -- read afresh it is that table, or says the same but for widths, which are these advances
  pub widths : (program ≡ again) ⊎ HaveWidths advances again program
  pub none : map ≡ None

pub data IsUnrepeated (cff : List ℕ) (others : List OwnGlyph) (ds : List Drawing) : Error → Type 0 where
  moved : are_still others ≡ false → IsUnrepeated cff others ds OverflowError
  unrepeated : {e : Error} → with_repeats cff (figures_of others ds) ≡ Err e → IsUnrepeated cff others ds e

-- ---- both

-- each code draws its glyph of a subset, or one of others that come after these, of which the first `owns` are own
-- ones; in the program codes have these advances
abbrev pub AreDrawn : ProgramKind → List ℕ → List OwnGlyph → ℕ → List ℕ → List Drawing → List ℕ → Option (List ℕ)
    → Type 0
AreDrawn TrueType subset others owns advances ds program map = AreMapped subset others owns ds program map
AreDrawn BareCff subset others owns advances ds program map = AreRepeated subset others advances ds program map
AreDrawn OpenType subset others owns advances ds program map = AreRepeated subset others advances ds program map

-- why they aren't drawn, each reason with its error; with TrueType outlines only others can be refused
abbrev pub HasDrawingFault : ProgramKind → List ℕ → List OwnGlyph → ℕ → List Drawing → Error → Type 0
HasDrawingFault TrueType subset others owns ds e = (0 < length others) × IsUnmapped subset others owns e
HasDrawingFault BareCff subset others owns ds e = IsUnrepeated subset others ds e
HasDrawingFault OpenType subset others owns ds e = IsUnrepeated subset others ds e
