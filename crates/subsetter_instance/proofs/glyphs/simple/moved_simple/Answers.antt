use Rattle.std.proofs.Common.{◌≡◌, length, rules, ℕ, List, ℤ}
use Rattle.subsetter_variation.specs.Glyphs.Movement.{IsOutline}
use Rattle.subsetter_instance.proofs.GlyphsLaws.Ends.{phantom_outline}
use Rattle.subsetter_instance.proofs.glyphs.simple.moved_simple.Goals as goal

same : (xs ys us vs : List ℤ) (es fs : List ℕ) → xs ≡ us → ys ≡ vs → es ≡ fs → IsOutline (record { xs = us; ys = vs; ends = fs }) → IsOutline (record { xs = xs; ys = ys; ends = es })
same xs ys us vs es fs a b e h = rw (a, b, e) h

pub moved-answer-requires-clause-outline : goal.moved-answer-requires-clause-outline
moved-answer-requires-clause-outline c =
    let es = c.args.ends.now in
    let n : c.len.result ≡ length c.args.xs.items = search rules in
    same _ _ _ _ _ _
    (search rules)
    (search rules)
    (search rules)
    (phantom_outline es c.args.xs.items c.args.ys.items c.requires.sound c.requires.as_many c.requires.few)
