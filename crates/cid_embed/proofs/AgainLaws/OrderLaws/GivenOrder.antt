-- The glyphs of a subset with a CFF table are the given ones, in their order.
use Rattle.std.proofs.Common.{◌≡◌, ℕ, zero, suc, ◌<◌, List, [], ◌∷◌, length, get_or, Some, None, sym, subst, ◌∙◌, arith}
use Rattle.std.specs.Prelude.{codes, Contains}
use Rattle.std.specs.List.{AllByRecursion}
use Rattle.subsetter_base.specs.Indexes.{IsWithoutRepeats}
use Rattle.subsetter_base.proofs.Options.{some_not_none}
use Rattle.subsetter_cff.specs.Write.Again.{composed}
use Rattle.subsetter_sfnt.specs.declared.flavor.FontFlavor.TheVariants.{Cff}
use Rattle.subsetter_sfnt.specs.Read.{Font, table, flavor}
use Rattle.subsetter.specs.Glyf.Read.{outline}
use Rattle.subsetter.specs.Glyf.Reaching.Reach.{IsReachable, given, step, IsGlyphOrder}
use Rattle.subsetter.proofs.CffLaws.Order.{no_glyf, no_outline, given_order}
use Rattle.cid_embed.proofs.AgainLaws.OrderLaws.Distinct.{apart, without_repeats}
use Rattle.cid_embed.proofs.AgainLaws.OrderLaws.OneOrder.{one_order}
use Rattle.cid_embed.proofs.AgainLaws.OrderLaws.Places.{AreAt}

reached : (font : Font) (glyphs : List ℕ) (g : ℕ) → table font (codes "glyf") ≡ None → IsReachable font glyphs g → Contains glyphs g
reached font glyphs g without (given _ c) = c
reached font glyphs h without (step g _ bytes r e c) = absurd (some_not_none (outline font g) bytes e (no_outline font g without))

pub only_given : (font : Font) (glyphs order : List ℕ) → flavor font ≡ Some Cff → IsGlyphOrder font glyphs order → order ≡ glyphs
only_given font glyphs order kind o = one_order font glyphs (λ g r. reached font glyphs g (no_glyf font kind) r) order o

-- ---- glyphs of a subset

pub each_of : (n : ℕ) (xs : List ℕ) → AllByRecursion (λ g. g < n) xs → (i : ℕ) → i < length xs → get_or xs i 0 < n
each_of n [] all i lt = absurd (omega arith)
each_of n (x ∷ xs) all zero lt = all.0
each_of n (x ∷ xs) all (suc i) lt = each_of n xs all.1 i (omega (arith, lt))

pub all_of : (n : ℕ) (xs : List ℕ) → ((i : ℕ) → i < length xs → get_or xs i 0 < n) → AllByRecursion (λ g. g < n) xs
all_of n [] h = tt
all_of n (x ∷ xs) h = (h 0 (omega arith), all_of n xs (λ i lt. h (suc i) (omega (arith, lt))))

-- glyphs of the first font, each once
pub composed_once : (first second order : List ℕ) → IsWithoutRepeats first → IsWithoutRepeats second → AreAt first second order → IsWithoutRepeats order
composed_once first second order once twice at =
    without_repeats order
    (λ i j li lj same.
    let a : i < length second = omega (arith, li, at.size) in
    let b : j < length second = omega (arith, lj, at.size) in
    apart second twice i j a b (apart first once (get_or second i 0) (get_or second j 0) (at.within i a) (at.within j b) (sym (at.nth i a) ∙ same ∙ at.nth j b)))

-- and so they are the order of the subset of the subset
pub composed_order : (font : Font) (first more second : List ℕ) → flavor font ≡ Some Cff → IsWithoutRepeats (composed first second) → second ≡ more → IsGlyphOrder font (composed first more) (composed first second)
composed_order font first more second kind once same = subst (λ (l : List ℕ). IsGlyphOrder font (composed first l) (composed first second)) same (given_order font (composed first second) (no_glyf font kind) once)
