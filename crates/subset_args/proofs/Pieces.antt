-- What options request, one after another.
use Rattle.std.proofs.Common.{◌≡◌, List, [], ◌∷◌, ◌++◌, Result, Ok, Err, refl, sym, ap, ◌∙◌, append_assoc}
use Rattle.subset_args.specs.Mistakes.{Fault, Fails, ◌>>=◌}
use Rattle.subset_args.specs.Options.{GlyphSource}
use Rattle.subset_args.specs.Request.{RequestedGlyphs, requested_by, each_requested}
use Rattle.subset_args.specs.declared.mistakes.Unread.{Unread}
use Rattle.subset_args.specs.declared.mistakes.Unread.TheVariants.{OutOfMemory, Mistake}

-- what is requested after others
abbrev pub in_front : List RequestedGlyphs → Result (List RequestedGlyphs) Fault → Result (List RequestedGlyphs) Fault
in_front before (Ok more) = Ok (before ++ more)
in_front before (Err e) = Err e

nothing_before : (r : Result (List RequestedGlyphs) Fault) → in_front [] r ≡ r
nothing_before (Ok more) = refl
nothing_before (Err e) = refl

one_more : (before : List RequestedGlyphs) (glyphs : RequestedGlyphs) (r : Result (List RequestedGlyphs) Fault) → in_front before (r >>= λ more. Ok (glyphs ∷ more)) ≡ in_front (before ++ glyphs ∷ []) r
one_more before glyphs (Ok more) = ap Ok (sym (append_assoc before (glyphs ∷ []) more))
one_more before glyphs (Err e) = refl

-- what is left, after one more option
pub after_one : (before : List RequestedGlyphs) (glyphs : RequestedGlyphs) (source : GlyphSource) (sources : List GlyphSource) (total : Result (List RequestedGlyphs) Fault) → requested_by source ≡ Ok glyphs → in_front before (each_requested (source ∷ sources)) ≡ total → in_front (before ++ glyphs ∷ []) (each_requested sources) ≡ total
after_one before glyphs source sources total h t = sym (one_more before glyphs (each_requested sources)) ∙ (ap (λ (r : Result RequestedGlyphs Fault). in_front before (r >>= λ g. each_requested sources >>= λ more. Ok (g ∷ more))) (sym h) ∙ t)

-- an option that requests nothing leaves nothing requested
pub failed_at : (e : Unread) (before : List RequestedGlyphs) (source : GlyphSource) (sources : List GlyphSource) (total : Result (List RequestedGlyphs) Fault) → Fails e (requested_by source) → in_front before (each_requested (source ∷ sources)) ≡ total → Fails e total
failed_at OutOfMemory before source sources total h t = tt
failed_at (Mistake m) before source sources total h t = sym t ∙ ap (λ (r : Result RequestedGlyphs Fault). in_front before (r >>= λ g. each_requested sources >>= λ more. Ok (g ∷ more))) h
