use Rattle.std.proofs.Common.{inl, inr, refl}
use Rattle.subsetter_sfnt.specs.declared.extras.Extras.{Extras}
use Rattle.subsetter_sfnt.specs.Read.{Font}
use Rattle.subsetter_c.specs.Answers.Made.{lists_in}
use Rattle.subsetter_c.specs.Settings.{settings_of, IsSoundSubsetAt, IsRefusalAt, IsSubsetMadeAt}
use Rattle.subsetter_c.proofs.AnswersLaws.Made.{font_made}
use Rattle.subsetter_c.proofs.Asked.{at_asked}
use Rattle.subsetter_c.proofs.variations.subsetter_make_subset_at_by_words.Goals as goal

pub returns-in-Some : goal.returns-in-Some
returns-in-Some c =
    let font : Extras → Font = λ x. record { bytes = c.args.font.now; index = c.args.index; extras = x } in
    let bound = c.in-Some.options.limits.bytes in
    let tokens = c.in-Some.options.limits.tokens in
    let depth = c.in-Some.options.limits.depth in
    let asked = font c.in-Some.options.extras in
    let settings = settings_of c.args.coordinates.now in
    let glyphs = c.args.glyphs.now in
    inr (
      c.in-Some.ensures.0,
      at_asked (λ b t d x. IsSubsetMadeAt b t d (font x) settings glyphs (lists_in c.make_subset.new.made) c.make_subset.result) c.args.options.now c.in-Some.options c.in-Some.ensures.1
          (font_made (IsSoundSubsetAt bound tokens depth asked settings glyphs) (IsRefusalAt bound tokens depth asked settings glyphs) c.subset_for.result (lists_in c.make_subset.new.made) c.make_subset.result c.subset_for.ensures.ok c.subset_for.ensures.err c.make_subset.ensures),
    )

pub returns-in-None : goal.returns-in-None
returns-in-None c = inl (c.in-None.ensures, record { empty = c.nothing.ensures; status_is = refl })
