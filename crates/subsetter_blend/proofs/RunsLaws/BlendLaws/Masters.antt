-- What a blend gives at the default and at a master.
use Rattle.std.proofs.Common.{◌≡◌, ℕ, ◌*◌, ◌<◌, ℤ, pos, negsuc, ◌+ℤ◌, ◌*ℤ◌, List, [], ◌∷◌, ◌++◌, length, get_or, drop, All, refl, sym, ap, ◌∙◌, arith}
use Rattle.std.proofs.lemmas.Int.{ints}
use Rattle.std.proofs.lemmas.List.{get_or-drop, length-drop}
use Rattle.std.proofs.lemmas.List.Elements.{All-head, All-tail}
use Rattle.std.proofs.lemmas.List.FromFn.{fill_by_all}
use Rattle.std.proofs.Math.IntN.{zero-*ℤ}
use Rattle.subsetter_variation.specs.Nearest.{nearest}
use Rattle.subsetter_variation.proofs.GlyphsLaws.Turning.{nearest_zero}
use Rattle.subsetter_blend.specs.Runs.Blend.{share, varied, result_at}
use Rattle.subsetter_blend.specs.Laws.{IsDefaultAtDefault, IsExactAtMaster}

share_zero : (s d : ℤ) → s ≡ pos 0 → share s d ≡ pos 0
unfolding share
share_zero s d e = nearest_zero (s *ℤ d) 1073741824 (ap (λ (z : ℤ). z *ℤ d) e ∙ zero-*ℤ d)

share_unit : (d : ℤ) → share (pos 1073741824) d ≡ d
unfolding share nearest
share_unit (pos n) = ap pos (omega arith)
share_unit (negsuc n) = grind (arith, ints)

plus_zero : (z : ℤ) → z +ℤ pos 0 ≡ z
plus_zero z = omega (arith, ints)

pub varied_default : (v : ℤ) (scalars deltas : List ℤ) → All (λ s. s ≡ pos 0) scalars → varied v scalars deltas ≡ v
varied_default v [] deltas h = refl
varied_default v (s ∷ scalars) [] h = refl
varied_default v (s ∷ scalars) (d ∷ deltas) h =
    ap (λ (z : ℤ). varied (v +ℤ z) scalars deltas) (share_zero s d (All-head (λ s. s ≡ pos 0) s scalars h))
    ∙ ap (λ (z : ℤ). varied z scalars deltas) (plus_zero v)
    ∙ varied_default v scalars deltas (All-tail (λ s. s ≡ pos 0) s scalars h)

pub is_default_at_default : IsDefaultAtDefault
is_default_at_default scalars defaults deltas h =
    sym (fill_by_all (result_at scalars defaults deltas) defaults (length defaults) (pos 0) refl (λ k l. sym (varied_default (get_or defaults k (pos 0)) scalars (drop (k * length scalars) deltas) h)))

varied_master : (v : ℤ) (before after deltas : List ℤ) → All (λ s. s ≡ pos 0) before → All (λ s. s ≡ pos 0) after → length before < length deltas
    → varied v (before ++ pos 1073741824 ∷ after) deltas ≡ v +ℤ get_or deltas (length before) (pos 0)
varied_master v before after [] b a l = absurd (omega arith)
varied_master v [] after (d ∷ deltas) b a l = ap (λ (z : ℤ). varied (v +ℤ z) after deltas) (share_unit d) ∙ varied_default (v +ℤ d) after deltas a
varied_master v (s ∷ before) after (d ∷ deltas) b a l =
    ap (λ (z : ℤ). varied (v +ℤ z) (before ++ pos 1073741824 ∷ after) deltas) (share_zero s d (All-head (λ s. s ≡ pos 0) s before b))
    ∙ ap (λ (z : ℤ). varied z (before ++ pos 1073741824 ∷ after) deltas) (plus_zero v)
    ∙ varied_master v before after deltas (All-tail (λ s. s ≡ pos 0) s before b) a (omega arith)

pub is_exact_at_master : IsExactAtMaster
is_exact_at_master before after defaults deltas i b a l =
    let at : ℕ = i * length (before ++ pos 1073741824 ∷ after) in
    varied_master (get_or defaults i (pos 0)) before after (drop at deltas) b a (omega (arith, length-drop at deltas))
    ∙ ap (λ (z : ℤ). get_or defaults i (pos 0) +ℤ z) (get_or-drop at deltas (length before) (pos 0))
