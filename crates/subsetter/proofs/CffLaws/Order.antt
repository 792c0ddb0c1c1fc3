-- The glyphs of a subset with a CFF table: the given ones.
use Rattle.std.proofs.Common.{◌≡◌, ℕ, Bool, cond, List, [], Option, Some, None, refl, sym, ap}
use Rattle.std.specs.Prelude.{codes, is_some, Contains, not, ◌==◌}
use Rattle.std.proofs.lemmas.List.{append-nil}
use Rattle.subsetter_base.specs.Bytes.{number}
use Rattle.subsetter_base.specs.Indexes.{IsWithoutRepeats}
use Rattle.subsetter_base.proofs.Options.{some_not_none}
use Rattle.subsetter_base.specs.Options.{◌>>=◌}
use Rattle.subsetter_sfnt.specs.declared.flavor.FontFlavor.TheVariants.{TrueType, Cff}
use Rattle.subsetter_sfnt.specs.Read.{Font, table, flavor}
use Rattle.subsetter.specs.Glyf.Read.{Outlines, outlines_in, outlines, outline, outline_in}
use Rattle.subsetter.specs.Glyf.Reaching.Reach.{IsReachable, IsGlyphOrder, given, step}
use Rattle.std.specs.Option.{option_and_then}

without_glyf : (o p : Option (List ℕ)) → cond (is_some o) (Some TrueType) (cond (is_some p) (Some Cff) None) ≡ Some Cff → o ≡ None
without_glyf None p h = refl
without_glyf (Some x) p h = absurd cc

pub no_glyf : (font : Font) → flavor font ≡ Some Cff → table font (codes "glyf") ≡ None
no_glyf font h = without_glyf (table font (codes "glyf")) (table font (codes "CFF ")) h

-- the tables of outlines, of which loca, glyf and head are found
abbrev outlines_by : Bool → Option (List ℕ) → Option (List ℕ) → Option (List ℕ) → Option Outlines
outlines_by hinting l g h = do
  loca ← l
  glyf ← g
  head ← h
  format ← number head 50 2
  Some (record { loca = loca; glyf = glyf; head = head; long = not (format == 0); hinting = hinting })

pub no_outlines : (font : Font) → table font (codes "glyf") ≡ None → outlines font ≡ None
unfolding outlines_in
no_outlines font h = by (table font (codes "loca")) (table font (codes "glyf")) (table font (codes "head")) h
  where
    by : (l g head : Option (List ℕ)) → g ≡ None → outlines_by font.extras.hinting l g head ≡ None
    by None g head h = refl
    by (Some loca) None head h = refl
    by (Some loca) (Some glyf) head h = absurd cc

pub no_outline : (font : Font) (g : ℕ) → table font (codes "glyf") ≡ None → outline font g ≡ None
no_outline font g h = ap (option_and_then (λ t. outline_in t g)) (no_outlines font h)

module _ (font : Font) (glyphs : List ℕ) (without : table font (codes "glyf") ≡ None) where
  reached : (g : ℕ) → IsReachable font glyphs g → Contains glyphs g
  reached g (given q c) = c
  reached h (step g q bytes r e c) = absurd (some_not_none (outline font g) bytes e (no_outline font g without))

  pub given_order : IsWithoutRepeats glyphs → IsGlyphOrder font glyphs glyphs
  given_order once = record { others = []; begins = sym (append-nil glyphs); once = once; members = λ g. (λ c. given g c, reached g) }
