-- A glyph that a subset doesn't have is a fault in it.
use Rattle.std.proofs.Common.{◌≡◌, ℕ, ◌≤◌, List, length, Option, Some, None, refl, ◌∙◌, arith}
use Rattle.std.specs.Prelude.{Contains}
use Rattle.subsetter_base.specs.declared.error.Error.TheVariants.{MalformedFont}
use Rattle.subsetter.specs.Fault as faults
use Rattle.subsetter.specs.Fault.{HasFault}
use Rattle.subsetter_sfnt.specs.Read.{Font, as_font}
use Rattle.subsetter.specs.Glyf.Fault.{no_outline}
use Rattle.subsetter.specs.Glyf.Reaching.Reach.{given}
use Rattle.subsetter.specs.Glyf.Read.{Outlines, outline_in}
use Rattle.subsetter.proofs.GlyfLaws.ReachingLaws.Unfold.{outline_is}
use Rattle.subsetter.proofs.GlyfLaws.Back.{has_entry}
use Rattle.cid_embed.proofs.AgainLaws.ByKind.{IsOutlineSubset}
use Rattle.cid_embed.proofs.AgainLaws.OutlinesLaws.Truetype.{glyf_there}

none_past : (t : Outlines) (g : ℕ) (o : Option (List ℕ)) → outline_in t g ≡ o → ((bytes : List ℕ) → outline_in t g ≡ Some bytes → ⊥) → outline_in t g ≡ None
none_past t g None is never = is
none_past t g (Some bytes) is never = absurd (never bytes is)

pub unknown_outline : (tokens depth : ℕ) (font : Font) (glyphs out more order : List ℕ) (g : ℕ) (first : IsOutlineSubset font glyphs out) → Contains more g → length first.order ≤ g → HasFault tokens depth (as_font out) more order MalformedFont
unknown_outline tokens depth font glyphs out more order g first among past =
    let t = first.drawn.count.tables in
    let none : outline_in t g ≡ None = none_past t g (outline_in t g) refl (λ bytes is. let lt = has_entry t (length first.order) g bytes first.drawn.count.entries is in omega (arith, lt, past)) in
    faults.in_outlines (no_outline g (glyf_there font glyphs out first) (given g among) (outline_is (as_font out) t g first.drawn.count.read ∙ none))
