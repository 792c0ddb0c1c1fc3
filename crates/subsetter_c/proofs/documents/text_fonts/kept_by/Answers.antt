use Rattle.std.proofs.Common.{Bool, subst}
use Rattle.subsetter_base.specs.Gives.{Gives}
use Rattle.subsetter_sfnt.specs.Extras.{all_extras}
use Rattle.subsetter_sfnt.specs.FontAt.{font_at}
use Rattle.subsetter_c.specs.Documents.TextFonts.{chosen_by, kept_seen}
use Rattle.subsetter_c.specs.Settings.{settings_of}
use Rattle.subsetter_c.proofs.documents.text_fonts.kept_by.Goals as goal

pub returns-clause-seen : goal.returns-clause-seen
returns-clause-seen c =
    subst (λ (b : Bool). Gives kept_seen c.kept_for.result (chosen_by b c.args.options.now.direction c.args.options.now.limits (font_at c.args.font.now c.args.index all_extras) (settings_of c.args.coordinates.now))) c.are_made-makes.ensures c.kept_for.ensures.seen
