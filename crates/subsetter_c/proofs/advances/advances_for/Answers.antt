use Rattle.std.proofs.Common.{List, subst, ◌∙◌, ℤ}
use Rattle.subsetter_base.specs.Gives.{Gives}
use Rattle.subsetter_base.specs.declared.tag.Tag.{Tag}
use Rattle.subsetter_sfnt.specs.Extras.{all_extras}
use Rattle.subsetter_sfnt.specs.FontAt.{font_at}
use Rattle.font_advances.specs.Advances.{advances_of, advances_seen}
use Rattle.subsetter_c.proofs.advances.advances_for.Goals as goal

pub returns : goal.returns
returns c = subst (λ (s : List (Tag × ℤ)). Gives advances_seen c.advances.result (advances_of (font_at c.args.font.now c.args.index all_extras) s c.args.limits.now.tokens c.args.glyphs.now)) (c.deref.ensures.value ∙ c.in_ok-settings.ensures.ok) c.advances.ensures.value
