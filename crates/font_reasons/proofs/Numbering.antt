-- Whether the given glyphs leave a number for glyph 0.
use Rattle.std.proofs.Common.{◌≡◌, ℕ, ◌≤◌, cond, List, [], ◌∷◌, length, None, Some, sym, ap, subst, ◌∙◌, inl, inr}
use Rattle.std.proofs.lemmas.Bool.{cases_lt, lt-ltb, le-ltb}
use Rattle.subsetter_base.specs.Indexes.{with_glyphs, HasAllAboveZero}
use Rattle.subsetter_base.proofs.GlyphLemmas.{room_left_for_zero}
use Rattle.font_reasons.specs.Explained.{numbered}

module _ (glyphs : List ℕ) where
  pub none_left : HasAllAboveZero glyphs → None ≡ numbered glyphs
  none_left all = elim (cases_lt 65535 (length (with_glyphs (0 ∷ []) glyphs))) [
    | inl more ↦ sym (ap (λ b. cond b None (Some (with_glyphs (0 ∷ []) glyphs))) (lt-ltb 65535 (length (with_glyphs (0 ∷ []) glyphs)) more))
    | inr few ↦ absurd (room_left_for_zero glyphs few all)
  ]

  pub some_left : (mapper : List ℕ) → mapper ≡ with_glyphs (0 ∷ []) glyphs → length mapper ≤ 65535 → Some mapper ≡ numbered glyphs
  some_left mapper is few =
      ap Some is
      ∙ sym (ap (λ b. cond b None (Some (with_glyphs (0 ∷ []) glyphs))) (le-ltb 65535 (length (with_glyphs (0 ∷ []) glyphs)) (subst (λ (l : List ℕ). length l ≤ 65535) is few)))
