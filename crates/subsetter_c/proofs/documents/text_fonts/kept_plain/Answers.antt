use Rattle.std.proofs.Common.{Result, Ok, ap}
use Rattle.subsetter_base.specs.Bytes.{◌>>=◌}
use Rattle.subsetter_base.specs.declared.error.Error.{Error}
use Rattle.subsetter_sfnt.specs.Extras.{all_extras}
use Rattle.subsetter_sfnt.specs.FontAt.{font_at}
use Rattle.text_metrics.specs.Metrics.{Metrics, metrics_seen}
use Rattle.subsetter_c.specs.Documents.TextFonts.{plain_by, without_own}
use Rattle.subsetter_c.proofs.DocumentsLaws.Runs.{gives_kept}
use Rattle.subsetter_c.proofs.documents.text_fonts.kept_plain.Goals as goal

pub returns-clause-seen : goal.returns-clause-seen
returns-clause-seen c =
    gives_kept (plain_by c.args.options.now.direction c.args.options.now.limits (font_at c.args.font.now c.args.index all_extras) c.args.settings.now) (without_own (metrics_seen c.in_ok-found.found)) c.kept_of.result
    (ap (λ (r : Result Metrics Error). r >>= (λ m. Ok (without_own m))) c.in_ok-found.ensures) c.kept_of.ensures.seen c.kept_of.ensures.err
