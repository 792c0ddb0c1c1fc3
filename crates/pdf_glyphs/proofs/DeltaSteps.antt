-- What is known of each glyph of a list.
use Rattle.std.proofs.Common.{◌≡◌, ◌<◌, ℕ, List, length, map, get_or, Option, Some, None, Result, Err, ℤ, ap, ◌∙◌}
use Rattle.std.proofs.lemmas.List.{get_or-map}
use Rattle.std.proofs.lemmas.Option.{unwrap_or-slice_get}
use Rattle.subsetter_base.specs.declared.error.Error.{Error}
use Rattle.subsetter_base.specs.declared.error.Error.TheVariants.{MalformedFont}
use Rattle.subsetter_variation.specs.Items.Advances.{advance_or_fault, origin_or_fault}
use Rattle.pdf_glyphs.specs.HeightVariation.{AreDeltasBy, IsHeightBy, IsOriginBy, Variation, known_at}
use Rattle.pdf_glyphs.specs.declared.heights.Deltas.{Deltas}

one_of : (f : ℕ → Result ℤ Error) (glyphs : List ℕ) (known : List (Result ℤ Error)) (k : ℕ) → known ≡ map f glyphs → k < length glyphs → known_at known k ≡ f (get_or glyphs k 0)
one_of f glyphs known k are lt =
    ap (λ (l : List (Result ℤ Error)). known_at l k) are
    ∙ unwrap_or-slice_get (map f glyphs) k (Err MalformedFont)
    ∙ get_or-map f glyphs k 0 (Err MalformedFont) lt

pub height_known : (v : Option Variation) (glyphs : List ℕ) (deltas : Deltas) (k : ℕ) (d : Result ℤ Error) → AreDeltasBy v glyphs deltas → k < length glyphs → d ≡ known_at deltas.heights.items k → IsHeightBy v (get_or glyphs k 0) d
height_known None glyphs deltas k d are lt is = tt
height_known (Some it) glyphs deltas k d are lt is = is ∙ one_of (advance_or_fault it.vvar it.at) glyphs deltas.heights.items k are.heights lt

pub origin_known : (v : Option Variation) (glyphs : List ℕ) (deltas : Deltas) (k : ℕ) (d : Result ℤ Error) → AreDeltasBy v glyphs deltas → k < length glyphs → d ≡ known_at deltas.origins.items k → IsOriginBy v (get_or glyphs k 0) d
origin_known None glyphs deltas k d are lt is = tt
origin_known (Some it) glyphs deltas k d are lt is = is ∙ one_of (origin_or_fault it.vvar it.at) glyphs deltas.origins.items k are.origins lt
