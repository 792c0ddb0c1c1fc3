use Rattle.std.proofs.Common.{◌≡◌, ℕ, false, length, Option, Vec, Global, ap, subst, ◌∙◌, arith}
use Rattle.std.specs.Prelude.{IfOk, IfErr}
use Rattle.subsetter_base.specs.Within.{is_past}
use Rattle.subsetter_base.specs.declared.error.Error.TheVariants.{Unimplemented}
use Rattle.subsetter_sfnt.specs.FontAt.{tables_of}
use Rattle.subsetter_sfnt.specs.Opening.{flavor_of, font_opened}
use Rattle.subsetter_sfnt.specs.Read.{Font}
use Rattle.subsetter_sfnt.proofs.Laws.Opening.{by_steps, flavored_as}
use Rattle.subsetter.specs.Truetype.Answered.{IsRefused}
use Rattle.subsetter.proofs.Headline.{unflavored, of_truetype, of_cff}
use Rattle.subsetter.proofs.NoInstructions.{bare_if_promised}
use Rattle.subsetter.proofs.subsetting.subset_opened.Goals as goal

pub returns-in-TrueType-clause-promise : goal.returns-in-TrueType-clause-promise
returns-in-TrueType-clause-promise c =
    let o = c.args.opened.now in
    let limits = c.args.limits.now in
    let font : Font = font_opened o in
    let steps = by_steps font o.face.records.now o.outlines c.requires.finds in
    let kind = flavored_as font o.face.records.now o.outlines c.requires.finds ∙ ap flavor_of c.in-TrueType.is in
    let fits = subst (λ (b : Option ℕ). IfOk c.subset_truetype.result (λ v. is_past b (length v.items) ≡ false)) c.bytes.ensures c.subset_truetype.ensures.within in
    let refused = subst (λ (b : Option ℕ). IfErr c.subset_truetype.result (λ e. IsRefused o.face.extras.hinting (tables_of o.face) b c.args.mapper.now e)) c.bytes.ensures c.subset_truetype.ensures.err in
    of_truetype {X = Vec ℕ Global} (λ v. v.items) limits.bytes limits.tokens limits.depth font c.args.mapper.now o.face.records.now steps.0 c.requires.bytes c.num_gids-count.ensures.first c.subset_truetype.result fits kind c.subset_truetype.ensures.ok refused

pub returns-in-Cff-clause-promise : goal.returns-in-Cff-clause-promise
returns-in-Cff-clause-promise c =
    let o = c.args.opened.now in
    let limits = c.args.limits.now in
    let font : Font = font_opened o in
    let steps = by_steps font o.face.records.now o.outlines c.requires.finds in
    let kind = flavored_as font o.face.records.now o.outlines c.requires.finds ∙ ap flavor_of c.in-Cff.is in
    of_cff {X = Vec ℕ Global} (λ v. v.items) limits.bytes limits.tokens limits.depth font c.args.mapper.now o.face.records.now steps.0 c.requires.bytes c.num_gids-count.ensures.first c.subset_cff.result c.subset_cff.ensures.within kind (omega (arith, c.depth-depth.ensures.above, c.depth-depth.ensures.value)) c.num_gids-count.ensures.few c.num_gids-count.ensures.once c.subset_cff.ensures.gives

pub returns-in-Cff2-clause-promise : goal.returns-in-Cff2-clause-promise
returns-in-Cff2-clause-promise c =
    let o = c.args.opened.now in
    let limits = c.args.limits.now in
    let font : Font = font_opened o in
    let steps = by_steps font o.face.records.now o.outlines c.requires.finds in
    let kind = flavored_as font o.face.records.now o.outlines c.requires.finds ∙ ap flavor_of c.in-Cff2.is in
    unflavored {X = Vec ℕ Global} (λ v. v.items) limits.bytes limits.tokens limits.depth font c.args.mapper.now o.face.records.now Unimplemented steps.0 kind

pub returns-in-TrueType-clause-bare : goal.returns-in-TrueType-clause-bare
returns-in-TrueType-clause-bare c =
    let limits = c.args.limits.now in
    bare_if_promised {X = Vec ℕ Global} (λ v. v.items) limits.bytes limits.tokens limits.depth (font_opened c.args.opened.now) c.args.mapper.now c.requires.bytes c.subset_truetype.result (returns-in-TrueType-clause-promise c)

pub returns-in-Cff-clause-bare : goal.returns-in-Cff-clause-bare
returns-in-Cff-clause-bare c =
    let limits = c.args.limits.now in
    bare_if_promised {X = Vec ℕ Global} (λ v. v.items) limits.bytes limits.tokens limits.depth (font_opened c.args.opened.now) c.args.mapper.now c.requires.bytes c.subset_cff.result (returns-in-Cff-clause-promise c)
