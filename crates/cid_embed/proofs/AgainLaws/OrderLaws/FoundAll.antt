-- All glyphs of a subset are found in order: none leads to a further one.
use Rattle.std.proofs.Common.{◌≡◌, ℕ, suc, Bool, cond, List, [], ◌∷◌, ◌++◌, length, Option, Some, None, refl, sym, ap, subst, ◌∙◌, append_assoc, arith}
use Rattle.std.specs.Prelude.{Contains, not}
use Rattle.std.proofs.lemmas.List.{append-nil}
use Rattle.subsetter_base.proofs.GlyphLemmas.{Contains-index}
use Rattle.subsetter_sfnt.specs.Read.{Font, as_font}
use Rattle.subsetter.specs.Glyf.Reaching.Closure.{components_in, others_in, Finds, all_found, follows}
use Rattle.subsetter.specs.Glyf.Read.{Outlines, outlines, outline_in}
use Rattle.subsetter.proofs.GlyfLaws.ReachingLaws.Unfold.{outline_is}
use Rattle.subsetter_cff.specs.Write.Again.{AreAll}
use Rattle.cid_embed.proofs.AgainLaws.ByKind.{IsOutlineSubset}
use Rattle.cid_embed.proofs.AgainLaws.OrderLaws.Closed.{component_below}
use Rattle.cid_embed.proofs.AgainLaws.OrderLaws.OneOrder.{among_all, below_all}

-- numbers that are all in a list
none_other : (order numbers : List ℕ) → ((h : ℕ) → Contains numbers h → Contains order h) → others_in order numbers ≡ []
none_other order [] among = refl
none_other order (h ∷ numbers) among =
    let here = Contains-index order h (among h (0, omega arith, refl)) in
    ap (λ (b : Bool). cond (not b) (h ∷ others_in order numbers) (others_in order numbers)) here
    ∙ none_other order numbers (λ k c. among k (suc c.0, omega (arith, c.1), c.2))

module _ (t : Outlines) (all : List ℕ) where
  -- one glyph more is followed
  one_more : (rest : List ℕ) (g : ℕ) → others_in all (components_in (outline_in t g)) ≡ [] → Finds t all rest [] all → Finds t all (rest ++ g ∷ []) [] all
  one_more rest g none f = follows rest g refl refl (subst (λ waiting. Finds t all rest waiting all) (sym none) f)

  all_more : (rest left : List ℕ) → ((g : ℕ) → Contains left g → others_in all (components_in (outline_in t g)) ≡ []) → Finds t all rest [] all → Finds t all (rest ++ left) [] all
  all_more rest [] none f = subst (λ l. Finds t all l [] all) (sym (append-nil rest)) f
  all_more rest (g ∷ left) none f =
      subst (λ l. Finds t all l [] all) (append_assoc rest (g ∷ []) left) (all_more (rest ++ g ∷ []) left (λ h c. none h (suc c.0, omega (arith, c.1), c.2)) (one_more rest g (none g (0, omega arith, refl)) f))

module _ (font : Font) (glyphs out : List ℕ) (s : IsOutlineSubset font glyphs out) (all : List ℕ) (a : AreAll (length s.order) all) (t : Outlines) (read : outlines (as_font out) ≡ Some t) where
  none_further : (g : ℕ) → Contains all g → (o : Option (List ℕ)) → outline_in t g ≡ o → others_in all (components_in o) ≡ []
  none_further g c None is = refl
  none_further g c (Some bytes) is =
      none_other all (components_in (Some bytes)) (λ h d. among_all (length s.order) all a h (component_below font glyphs out s g h bytes (below_all (length s.order) all a g c) (outline_is (as_font out) t g read ∙ is) d))

  pub found_all : Finds t all all [] all
  found_all = all_more t all [] all (λ g c. none_further g c (outline_in t g) refl) (all_found refl refl refl)
