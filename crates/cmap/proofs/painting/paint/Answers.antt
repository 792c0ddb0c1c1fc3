use Rattle.std.proofs.Common.{◌≡◌, ◌≤◌, ◌<◌, ◌+◌, ◌-◌, ℕ, List, ap, sym, ◌∙◌, subst, arith, get_or, set}
use Rattle.std.specs.Option.{unwrap_or}
use Rattle.cmap.specs.Groups.{Group, group_of, in_range, by_groups}
use Rattle.cmap.specs.Painting.{IsPainted}
use Rattle.cmap.specs.Passed.{IsLeading}
use Rattle.cmap.proofs.PaintSteps.{glyph_here, painted_next, painted_on, painted_one, walked_on, walked_one}
use Rattle.cmap.proofs.painting.paint.Goals as goal

pub loop-at-init : goal.loop-at-init
loop-at-init c =
    let e = c.first_open-at.ensures in
    record {
      painted = painted_on _ _ _ _ _ c.requires.before c.first_open-at.new.next.items e.leading e.len e.still_open e.still_passed;
      start = e.bounds;
      inside = omega (arith, e.inside, e.len, c.requires.before.places);
      itself = e.open;
      walked = e.passed;
    }

pub loop-at-preserved : goal.loop-at-preserved
loop-at-preserved c =
    let e = c.first_open-at-in-loop-at.ensures in
    let g = c.group_of-group.result in
    let v = c.loop-at.invariant in
    let low : (group_of c.args.bytes.now).start ≤ c.loop-at.at = subst (λ (k : Group). k.start ≤ c.loop-at.at) c.group_of-group.ensures (omega (arith, c.min-first.ensures, v.start)) in
    let high : c.loop-at.at ≤ (group_of c.args.bytes.now).end = subst (λ (k : Group). c.loop-at.at ≤ k.end) c.group_of-group.ensures (omega arith) in
    let glyph = glyph_here c.args.table.now c.args.count c.args.place c.loop-at.next.items c.loop-at.glyphs.items v.painted c.args.bytes.now c.requires.inside c.requires.group c.loop-at.at c.loop-at-test.true v.itself low high in
    let value : c.unwrap_or.result ≡ unwrap_or (by_groups c.args.table.now c.args.count 16 c.loop-at.at) 0 =
    c.unwrap_or.ensures ∙ ap (λ m. unwrap_or m 0) (c.glyph_of.ensures ∙ ap (λ (k : Group). in_range (k.glyph + (c.loop-at.at - k.start))) c.group_of-group.ensures ∙ glyph) in
    let leading : IsLeading (set c.loop-at.next.items c.loop-at.at (c.loop-at.at + 1)) = subst IsLeading c.pass.ensures.value c.pass.ensures.leading in
    let one = painted_one c.args.table.now c.args.count c.args.place c.loop-at.next.items c.loop-at.glyphs.items v.painted c.loop-at.at c.unwrap_or.result c.loop-at-test.true v.itself value leading in
    let now = subst (λ (k : List ℕ). IsPainted c.args.table.now c.args.count c.args.place k (set c.loop-at.glyphs.items c.loop-at.at c.unwrap_or.result)) (sym c.pass.ensures.value) one in
    let one_walked : (q : ℕ) → c.min-first.result ≤ q → q < c.loop-at.at + 1 → q < get_or c.pass.new.next.items q 0 =
    subst (λ (k : List ℕ). (q : ℕ) → c.min-first.result ≤ q → q < c.loop-at.at + 1 → q < get_or k q 0) (sym c.pass.ensures.value)
    (walked_one c.args.table.now c.args.count c.args.place c.loop-at.next.items c.loop-at.glyphs.items v.painted c.loop-at.at c.unwrap_or.result c.loop-at-test.true v.itself value c.min-first.result v.walked) in
    record {
      painted = painted_on _ _ _ _ _ now c.first_open-at-in-loop-at.new.next.items e.leading e.len e.still_open e.still_passed;
      start = omega (arith, e.bounds, v.start);
      inside = omega (arith, e.inside, e.len, now.places);
      itself = e.open;
      walked = walked_on c.pass.new.next.items c.first_open-at-in-loop-at.new.next.items c.min-first.result (c.loop-at.at + 1) c.first_open-at-in-loop-at.result one_walked (λ q h. e.still_passed q (omega (arith, h, now.places, c.loop-at-test.true))) e.passed;
    }

pub returns-else-at-group : goal.returns-else-at-group
returns-else-at-group c =
    let v = c.loop-at.invariant in
    painted_next c.args.table.now c.args.count c.args.place c.loop-at.next.items c.loop-at.glyphs.items v.painted c.args.bytes.now c.requires.inside c.requires.group c.min-first.result c.loop-at.at
    (subst (λ (k : Group). c.min-first.result ≤ k.start) c.group_of-group.ensures (omega (arith, c.min-first.ensures)))
    v.walked
    (subst (λ (k : Group). (q : ℕ) → q < 1114112 → q ≤ k.end → q < c.loop-at.at) c.group_of-group.ensures (λ q h m. omega (arith, c.if-at-group.false)))

pub returns-after-loop-at : goal.returns-after-loop-at
returns-after-loop-at c =
    let v = c.loop-at.invariant in
    painted_next c.args.table.now c.args.count c.args.place c.loop-at.next.items c.loop-at.glyphs.items v.painted c.args.bytes.now c.requires.inside c.requires.group c.min-first.result c.loop-at.at
    (subst (λ (k : Group). c.min-first.result ≤ k.start) c.group_of-group.ensures (omega (arith, c.min-first.ensures)))
    v.walked
    (λ q h m. omega (arith, c.loop-at-test.false))
