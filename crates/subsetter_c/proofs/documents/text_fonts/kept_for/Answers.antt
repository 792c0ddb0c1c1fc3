use Rattle.std.proofs.Common.{List, subst, ◌∙◌, ℤ}
use Rattle.subsetter_base.specs.Gives.{Gives}
use Rattle.subsetter_base.specs.declared.tag.Tag.{Tag}
use Rattle.subsetter_sfnt.specs.Extras.{all_extras}
use Rattle.subsetter_sfnt.specs.FontAt.{font_at}
use Rattle.subsetter_c.specs.Documents.TextFonts.{chosen_by, kept_seen}
use Rattle.subsetter_c.proofs.documents.text_fonts.kept_for.Goals as goal

pub returns-clause-seen : goal.returns-clause-seen
returns-clause-seen c =
    subst (λ (s : List (Tag × ℤ)). Gives kept_seen c.kept_at.result (chosen_by c.args.makes c.args.options.now.direction c.args.options.now.limits (font_at c.args.font.now c.args.index all_extras) s)) (c.deref.ensures.value ∙ c.in_ok-settings.ensures.ok) c.kept_at.ensures.seen
