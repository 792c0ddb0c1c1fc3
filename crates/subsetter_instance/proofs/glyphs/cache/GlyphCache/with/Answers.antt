use Rattle.std.proofs.Common.{◌≡◌, Ok, sym, subst, rules}
use Rattle.subsetter_instance.specs.Glyphs.Unfolded.{IsInReach, Unfolded, unfolded}
use Rattle.subsetter_instance.proofs.GlyphsLaws.KeptLemmas.{takes_steps, with_glyph}
use Rattle.subsetter_instance.proofs.glyphs.cache.GlyphCache.with.Goals as goal

pub overflow_sub-before : goal.overflow_sub-before
overflow_sub-before c = takes_steps c.args.depth c.args.source.now c.args.at.now c.args.before c.args.glyph c.args.outline c.args.after (search rules) c.requires.unfolded

pub returns : goal.returns
returns c =
    let same = sym c.in_ok-outline.ensures in
    let is = subst (λ (u : Unfolded). unfolded c.args.depth c.args.source.now c.args.at.now c.args.before c.args.glyph ≡ Ok (u, c.args.after)) same c.requires.unfolded in
    with_glyph c.args.depth c.args.source.now c.args.at.now c.args.before c.args.glyph c.in_ok-outline.outline c.args.after c.in_ok-places.places.items _ (search rules) is (subst IsInReach same c.requires.reach) (search rules)
