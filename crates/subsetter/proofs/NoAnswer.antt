-- What is refused, but for want of memory, has no answer.
use Rattle.std.proofs.Common.{◌≡◌, ℕ, List, [], Option, Some, refl, sym, subst, ◌⊎◌, inl, inr}
use Rattle.std.specs.Prelude.{codes, IsSome}
use Rattle.subsetter_base.specs.declared.error.Error.{Error}
use Rattle.subsetter_base.specs.declared.error.Error.TheVariants.{MalformedFont, OutOfMemory}
use Rattle.subsetter_base.proofs.Results.{named_ok}
use Rattle.subsetter_sfnt.specs.declared.flavor.FontFlavor.TheVariants.{Cff}
use Rattle.subsetter.specs.Answer.{HasNoAnswer}
use Rattle.subsetter.specs.Bound.{HasNoAnswerWithin}
use Rattle.subsetter.specs.Fault as faults
use Rattle.subsetter.specs.Fault.{HasFault}
use Rattle.subsetter.specs.Glyf.Reaching.Closure.{Finds}
use Rattle.subsetter.specs.Glyf.Read.{Outlines, outlines}
use Rattle.subsetter_sfnt.specs.Fault.{HasOpeningFault}
use Rattle.subsetter_sfnt.specs.Read.{Font, table, flavor}
use Rattle.subsetter.specs.Truetype.Answered.{IsRefused, no_memory, unread, unclosed, unmade, unlaid, past}
use Rattle.subsetter.proofs.CffLaws.Order.{no_glyf, no_outlines}
use Rattle.subsetter.proofs.GlyfLaws.Fault.{tables_refused, closure_refused, order_in}
use Rattle.subsetter.proofs.GlyfLaws.ReachingLaws.Found.{same_found}
use Rattle.subsetter.proofs.TruetypeLaws.Bound.{is_beyond, none_within}
use Rattle.subsetter.proofs.TruetypeLaws.Fault.{tables_not_made, not_laid_out}
use Rattle.subsetter.proofs.TwoLimits.{only_given}

module _ (tokens depth : ℕ) (font : Font) (glyphs : List ℕ) where
  pub not_opened : (e : Error) → HasOpeningFault font e → HasNoAnswer tokens depth font glyphs
  not_opened e f out a = a.clean e (faults.in_opening f)

  -- a fault for the order in which the glyphs are found, which is that of each answer
  for_found : (e : Error) (t : Outlines) (order : List ℕ) → outlines font ≡ Some t → Finds t order glyphs [] glyphs → HasFault tokens depth font glyphs order e → HasNoAnswer tokens depth font glyphs
  for_found e t order read found f out a = a.clean e (subst (λ (l : List ℕ). HasFault tokens depth font glyphs l e) (same_found t order a.subset.keeps.order glyphs [] glyphs found (a.found t read)) f)

  pub no_truetype : (bound : Option ℕ) (e : Error) → IsSome (table font (codes "glyf")) → IsRefused font.extras.hinting (table font) bound glyphs e → (e ≡ OutOfMemory) ⊎ HasNoAnswerWithin bound tokens depth font glyphs
  no_truetype bound e there no_memory = inl refl
  no_truetype bound e there (unread h) = inr (λ out within a. a.clean e (faults.in_outlines (tables_refused font glyphs e there h)))
  no_truetype bound e there (unclosed t h stops) =
      elim (closure_refused font glyphs t e (named_ok (outlines font) MalformedFont t h) stops) [
        | inl m ↦ inl m
        | inr f ↦ inr (λ out within a. a.clean e (faults.in_outlines f))
      ]
  no_truetype bound e there (unmade t order h o found k) =
      let read = named_ok (outlines font) MalformedFont t h in
      inr (λ out within a. for_found e t order read found (tables_not_made tokens depth font glyphs order t read (order_in font glyphs order t read o) e k) out a)
  no_truetype bound e there (unlaid t order ts h o found k l) =
      let read = named_ok (outlines font) MalformedFont t h in
      inr (λ out within a. for_found e t order read found (not_laid_out tokens depth font glyphs order t read (order_in font glyphs order t read o) ts e k l) out a)
  no_truetype bound e there (past most set longer) = inr (none_within bound tokens depth font glyphs (is_beyond tokens depth font glyphs there bound most set longer))

  -- a charstring leads to no further glyph
  pub no_charstrings : (e : Error) → flavor font ≡ Some Cff → HasFault tokens depth font glyphs glyphs e → HasNoAnswer tokens depth font glyphs
  no_charstrings e kind f out a = a.clean e (subst (λ (l : List ℕ). HasFault tokens depth font glyphs l e) (sym (only_given font glyphs (no_outlines font (no_glyf font kind)) a.subset.keeps.order a.subset.keeps.is_order)) f)
