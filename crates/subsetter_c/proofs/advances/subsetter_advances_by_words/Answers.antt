use Rattle.std.proofs.Common.{ℕ, subst}
use Rattle.subsetter_sfnt.specs.Extras.{all_extras}
use Rattle.subsetter_sfnt.specs.FontAt.{font_at}
use Rattle.font_advances.specs.Advances.{advances_of}
use Rattle.subsetter_c.specs.Advances.{AreAdvancesOf, Buffers, buffers}
use Rattle.subsetter_c.specs.Settings.{settings_of}
use Rattle.subsetter_c.proofs.AdvancesLaws.{read_as}
use Rattle.subsetter_c.proofs.advances.subsetter_advances_by_words.Goals as goal

pub returns-in-Some-clause-unknown : goal.returns-in-Some-clause-unknown
returns-in-Some-clause-unknown c = λ no. absurd (no c.in-Some.ensures.0)

pub returns-in-Some-clause-handed : goal.returns-in-Some-clause-handed
returns-in-Some-clause-handed c = λ known.
    let before : Buffers = buffers c.args.widths.now c.args.heights.now c.args.units_per_em.now in
    let after : Buffers = buffers c.hand_advances.new.widths c.hand_advances.new.heights c.hand_advances.new.units_per_em in
    let reading = λ (tokens : ℕ). advances_of (font_at c.args.font.now c.args.index all_extras) (settings_of c.args.coordinates.now) tokens c.args.glyphs.now in
    subst (λ (tokens : ℕ). AreAdvancesOf (reading tokens) before after c.hand_advances.result) c.in-Some.ensures.1.tokens (read_as c.advances_for.result (reading c.in-Some.options.limits.tokens) before after c.hand_advances.result c.advances_for.ensures c.hand_advances.ensures)

pub returns-in-None-clause-handed : goal.returns-in-None-clause-handed
returns-in-None-clause-handed c = λ known. absurd (c.in-None.ensures known)
