use Rattle.std.proofs.Common.{◌≡◌, ◌∙◌, ◌++◌, ◌∷◌, [], ◌+◌, ap, sym, length, ℕ, List, ℤ}
use Rattle.std.specs.List.{range_with_len}
use Rattle.std.proofs.lemmas.List.{length-map}
use Rattle.subsetter_variation.specs.Glyphs.Movement.{IsOutline}
use Rattle.subsetter_instance.specs.Glyphs.Components.{offset_x, offset_xs}
use Rattle.subsetter_instance.proofs.GlyphsLaws.Joins.{offsets_outline}
use Rattle.subsetter_instance.proofs.glyphs.composite.moved_offsets.Goals as goal

same : (xs ys us vs : List ℤ) (es fs : List ℕ) → xs ≡ us → ys ≡ vs → es ≡ fs → IsOutline (record { xs = us; ys = vs; ends = fs }) → IsOutline (record { xs = xs; ys = ys; ends = es })
same xs ys us vs es fs a b e h = rw (a, b, e) h

pub moved-answer-requires-clause-outline : goal.moved-answer-requires-clause-outline
moved-answer-requires-clause-outline c =
    let cs = c.args.components.now in
    let n : length cs ≡ length (offset_xs cs) = sym (length-map cs (λ d. offset_x d.arguments)) in
    same _ _ _ _ _ _
    (c.deref.ensures.value ∙ c.in_ok-offsets.ensures.xs)
    (c.deref-2.ensures.value ∙ c.in_ok-offsets.ensures.ys)
    (c.deref-3.ensures.value ∙ c.in_ok-ends.ensures ∙ ap (λ (k : ℕ). range_with_len 0 (length cs) ++ k ∷ (k + 1) ∷ (k + 2) ∷ (k + 3) ∷ []) n)
    (offsets_outline cs c.requires.few)
