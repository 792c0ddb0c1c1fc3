use Rattle.own_choice.specs.Choosing.{chosen_seen, own_choice}
use Rattle.subsetter_sfnt.specs.Extras.{all_extras}
use Rattle.subsetter_sfnt.specs.FontAt.{font_at}
use Rattle.subsetter_c.proofs.DocumentsLaws.Runs.{gives_kept}
use Rattle.subsetter_c.proofs.documents.text_fonts.kept_choice.Goals as goal

pub returns-clause-seen : goal.returns-clause-seen
returns-clause-seen c =
    gives_kept (own_choice (font_at c.args.font.now c.args.index all_extras) c.args.settings.now c.args.options.now.limits.tokens) (chosen_seen c.in_ok-found.found) c.kept_with.result c.in_ok-found.ensures c.kept_with.ensures.seen c.kept_with.ensures.err
