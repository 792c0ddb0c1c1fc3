-- Own glyphs have their parts.
use Rattle.std.proofs.Common.{◌≡◌, ℕ, List, [], ◌∷◌, ◌++◌, length, map, take, drop, refl, ap, ◌∙◌}
use Rattle.own_glyphs.specs.declared.glyph.Part.{Part}
use Rattle.pdf_figures.specs.declared.ink.OwnInk.{OwnInk}
use Rattle.pdf_figures.specs.declared.ink.Placed.{Placed}
use Rattle.pdf_text_font.specs.Laws.{OwnGlyphsAreKept}
use Rattle.pdf_text_font.specs.Own.{Added, all_parts, own_by, part_by, parts_by}

module _ (number : ℕ → ℕ) where
  abbrev numbered : List Placed → List Part
  numbered ps = map (λ (p : Placed). part_by p (number p.glyph)) ps

  by_number : (ps : List Placed) → parts_by ps (map (λ (p : Placed). number p.glyph) ps) ≡ numbered ps
  by_number [] = refl
  by_number (p ∷ ps) = ap (λ (l : List Part). part_by p (number p.glyph) ∷ l) (by_number ps)

  first_parts : (ps qs : List Placed) → take (length ps) (numbered (ps ++ qs)) ≡ numbered ps
  first_parts [] qs = refl
  first_parts (p ∷ ps) qs = ap (λ (l : List Part). part_by p (number p.glyph) ∷ l) (first_parts ps qs)

  later_parts : (ps qs : List Placed) → drop (length ps) (numbered (ps ++ qs)) ≡ numbered qs
  later_parts [] qs = refl
  later_parts (p ∷ ps) qs = later_parts ps qs

  kept : (own : List OwnInk) → own_by own (numbered (all_parts own)) ≡ map (λ (o : OwnInk). record { parts = numbered o.parts.items; advance = o.advance }) own
  kept [] = refl
  kept (o ∷ own) =
      ap (λ (l : List Part). record { parts = l; advance = o.advance } ∷ own_by own (drop (length o.parts.items) (numbered (o.parts.items ++ all_parts own)))) (first_parts o.parts.items (all_parts own))
      ∙ ap (λ (l : List Part). record { parts = numbered o.parts.items; advance = o.advance } ∷ own_by own l) (later_parts o.parts.items (all_parts own))
      ∙ ap (λ (l : List Added). record { parts = numbered o.parts.items; advance = o.advance } ∷ l) (kept own)

pub own_glyphs_are_kept : OwnGlyphsAreKept
own_glyphs_are_kept number own = ap (own_by own) (by_number number (all_parts own)) ∙ kept number own
