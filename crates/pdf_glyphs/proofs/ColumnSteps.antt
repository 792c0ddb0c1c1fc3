-- Columns of glyphs that have a width.
use Rattle.std.proofs.Common.{◌≡◌, ℕ, ◌≤◌, min, List, [], ◌∷◌, ◌++◌, length, drop, ℤ, Option, refl, sym, ap, ◌∙◌, inl, inr, arith}
use Rattle.std.proofs.lemmas.Bool.{cases_lt}
use Rattle.std.proofs.lemmas.List.{append-nil, drop_all}
use Rattle.pdf_text.specs.declared.metrics.columns.Column.{Column}
use Rattle.pdf_glyphs.specs.HeightVariation.{Variation}
use Rattle.pdf_glyphs.specs.Vertical.{Vertical, columns_from}

no_widths : (t : Vertical) (v : Option Variation) (tops : List ℤ) (k : ℕ) (glyphs : List ℕ) → columns_from t v tops k glyphs [] ≡ []
no_widths t v tops k [] = refl
no_widths t v tops k (g ∷ gs) = refl

none_left : (t : Vertical) (v : Option Variation) (tops : List ℤ) (glyphs widths : List ℕ) (index : ℕ) → min (length glyphs) (length widths) ≤ index → columns_from t v tops index (drop index glyphs) (drop index widths) ≡ []
none_left t v tops glyphs widths index past = elim (cases_lt index (length glyphs)) [
  | inl lt ↦
      let end : length widths ≤ index = omega (arith, lt, past) in
      ap (columns_from t v tops index (drop index glyphs)) (drop_all index widths end) ∙ no_widths t v tops index (drop index glyphs)
  | inr end ↦ ap (λ (gs : List ℕ). columns_from t v tops index gs (drop index widths)) (drop_all index glyphs end)
]

-- no glyph is left that has one
pub columns_done : (t : Vertical) (v : Option Variation) (tops : List ℤ) (glyphs widths : List ℕ) (index : ℕ) (made total : List Column) → min (length glyphs) (length widths) ≤ index → made ++ columns_from t v tops index (drop index glyphs) (drop index widths) ≡ total → made ≡ total
columns_done t v tops glyphs widths index made total past h =
    sym (append-nil made) ∙ sym (ap (λ (rest : List Column). made ++ rest) (none_left t v tops glyphs widths index past)) ∙ h
