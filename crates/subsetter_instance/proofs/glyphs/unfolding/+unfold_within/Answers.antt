use Rattle.std.proofs.Common.{◌≡◌, ◌-◌, ◌+◌, ◌≤◌, ℕ, [], drop, length, Ok, ap, sym, subst, ◌∙◌, arith, pos}
use Rattle.std.specs.Prelude.{slice_index_or}
use Rattle.std.proofs.lemmas.List.{drop_all, same_from_push}
use Rattle.std.proofs.lemmas.Result.{err_from_is_err_and}
use Rattle.subsetter_base.specs.Gives.{Fails}
use Rattle.subsetter_instance.specs.Glyphs.Cache.{IsKept, KeptGlyph}
use Rattle.subsetter_instance.specs.Glyphs.Unfolded.{Composite, Unfolded, joined, unfolded, with_component}
use Rattle.subsetter_instance.specs.declared.glyphs.levels.Level.{Level}
use Rattle.subsetter_instance.proofs.GlyphsLaws.Joins.{component_fails, joined_end, joined_step, placing_fails}
use Rattle.subsetter_instance.proofs.GlyphsLaws.KeptLemmas.{found_is}
use Rattle.subsetter_instance.proofs.glyphs.unfolding.+unfold_within.Goals.{in-Some-find+in_ok-work, in_default-find+in_ok-unfold_within+in_ok-place_part}
use Rattle.subsetter_instance.proofs.glyphs.unfolding.+unfold_within.Goals as goal

pub returns-in_err-work-clause-value : goal.returns-in_err-work-clause-value
returns-in_err-work-clause-value t c =
    let l = c.loop-k.work.level in
    let q = l.composite in
    let k = c.loop-k.k in
    let is = subst (IsKept c.args.source.now c.args.at.now) (sym c.found.view_is) (c.in-Some-find.ensures.kept c.args.source.now c.args.at.now c.loop-k.invariant.kept) in
    let number = ap (λ (g : KeptGlyph). g.glyph) c.found.view_is ∙ c.in-Some-find.ensures.number in
    let enough = subst (λ (g : KeptGlyph). g.cost ≤ c.loop-k.work.left) (sym c.found.view_is) c.in-Some-find.ensures.cost in
    let here = found_is c.args.source.now c.args.at.now _ (c.args.depth - 1) c.loop-k.work.left c.component-component.result.glyph is c.in-Some-find.ensures.deep number enough in
    let p = err_from_is_err_and c.from_residual-in_err-work.result c.from_residual-in_err-work.ensures.1 in
    rw (p.1, p.2) (placing_fails (unfolded (c.args.depth - 1) c.args.source.now c.args.at.now) (drop k q.components) (drop (k + 1) q.components) c.component-component.result k q.xs q.ys l.all c.found.inside.outline c.loop-k.work.left (c.loop-k.work.left - c.found.inside.cost) _ _ c.component-component.ensures c.loop-k.invariant.value here c.in_err-work.ensures.value)

pub returns-in_err-unfold_within-clause-value : goal.returns-in_err-unfold_within-clause-value
returns-in_err-unfold_within-clause-value t c =
    let l = c.loop-k.work.level in
    let q = l.composite in
    let k = c.loop-k.k in
    let p = err_from_is_err_and c.from_residual-in_err-unfold_within.result c.from_residual-in_err-unfold_within.ensures.1 in
    rw (p.1, p.2) (component_fails (unfolded (c.args.depth - 1) c.args.source.now c.args.at.now) (drop k q.components) (drop (k + 1) q.components) c.component-component.result k q.xs q.ys l.all c.loop-k.work.left _ _ c.component-component.ensures c.loop-k.invariant.value c.in_err-unfold_within.ensures.value)

pub returns-in_err-place_part-clause-value : goal.returns-in_err-place_part-clause-value
returns-in_err-place_part-clause-value t c =
    let l = c.loop-k.work.level in
    let q = l.composite in
    let k = c.loop-k.k in
    let u = c.unfold_within.new.work in
    let m = c.component-component.result in
    let fails = subst (λ (x : Level). Fails c.in_err-place_part.field-0.0 (with_component m (slice_index_or x.composite.xs k (pos 0)) (slice_index_or x.composite.ys k (pos 0)) x.all u.part u.left)) c.in_ok-unfold_within.ensures.level c.in_err-place_part.ensures.value in
    let p = err_from_is_err_and c.from_residual-in_err-place_part.result c.from_residual-in_err-place_part.ensures.1 in
    rw (p.1, p.2) (placing_fails (unfolded (c.args.depth - 1) c.args.source.now c.args.at.now) (drop k q.components) (drop (k + 1) q.components) m k q.xs q.ys l.all u.part c.loop-k.work.left u.left _ _ c.component-component.ensures c.loop-k.invariant.value c.in_ok-unfold_within.ensures.value fails)

pub loop-k-preserved : goal.loop-k-preserved
loop-k-preserved t c =
    let l = c.loop-k.work.level in
    let q = l.composite in
    let k = c.loop-k.k in
    let m = c.component-component.result in
    let child = unfolded (c.args.depth - 1) c.args.source.now c.args.at.now in
    elim c.match-find.branch [
      | in-Some-find+in_ok-work w ↦
          let is = subst (IsKept c.args.source.now c.args.at.now) (sym w.found.view_is) (w.in-Some-find.ensures.kept c.args.source.now c.args.at.now c.loop-k.invariant.kept) in
          let number = ap (λ (g : KeptGlyph). g.glyph) w.found.view_is ∙ w.in-Some-find.ensures.number in
          let enough = subst (λ (g : KeptGlyph). g.cost ≤ c.loop-k.work.left) (sym w.found.view_is) w.in-Some-find.ensures.cost in
          let here = found_is c.args.source.now c.args.at.now _ (c.args.depth - 1) c.loop-k.work.left m.glyph is w.in-Some-find.ensures.deep number enough in
          let v = w.place.new.self in
          let same = w.place.ensures.composite in
          record {
            value = rw w.work-is (ap (λ (x : Composite). joined child (drop (k + 1) x.components) (k + 1) x.xs x.ys (v.all, w.in_ok-work.field-0)) same
                ∙ sym (joined_step child (drop k q.components) (drop (k + 1) q.components) m k q.xs q.ys l.all v.all c.loop-k.work.left (c.loop-k.work.left - w.found.inside.cost) w.in_ok-work.field-0 w.found.inside.outline c.component-component.ensures here w.in_ok-work.ensures.value)
                ∙ c.loop-k.invariant.value);
            count = rw w.work-is (c.loop-k.invariant.count ∙ ap (λ (x : Composite). length x.components) (sym same));
            bound = rw w.work-is w.in_ok-work.ensures.bound;
            kept = rw w.work-is c.loop-k.invariant.kept;
            outer = rw w.work-is c.loop-k.invariant.outer;
          }
      | in_default-find+in_ok-unfold_within+in_ok-place_part w ↦
          let u = w.unfold_within.new.work in
          let v = w.place_part.new.self in
          let level = w.in_ok-unfold_within.ensures.level in
          let same = w.place_part.ensures.composite ∙ ap (λ (x : Level). x.composite) level in
          let placed = subst (λ (x : Level). with_component m (slice_index_or x.composite.xs k (pos 0)) (slice_index_or x.composite.ys k (pos 0)) x.all u.part u.left ≡ Ok (v.level.all, v.left)) level w.in_ok-place_part.ensures.value in
          record {
            value = rw w.work-is (ap (λ (x : Composite). joined child (drop (k + 1) x.components) (k + 1) x.xs x.ys (v.level.all, v.left)) same
                ∙ sym (joined_step child (drop k q.components) (drop (k + 1) q.components) m k q.xs q.ys l.all v.level.all c.loop-k.work.left u.left v.left u.part c.component-component.ensures w.in_ok-unfold_within.ensures.value placed)
                ∙ c.loop-k.invariant.value);
            count = rw w.work-is (c.loop-k.invariant.count ∙ ap (λ (x : Composite). length x.components) (sym same));
            bound = rw w.work-is w.in_ok-place_part.ensures.bound;
            kept = rw w.work-is w.in_ok-place_part.ensures.kept;
            outer = rw w.work-is (w.place_part.ensures.outer ∙ w.in_ok-unfold_within.ensures.outer ∙ c.loop-k.invariant.outer);
          }
    ]

pub returns-clause-value : goal.returns-clause-value
returns-clause-value t c =
    let w = c.loop-k.work in
    let q = w.level.composite in
    let none : drop c.loop-k.k q.components ≡ [] = drop_all c.loop-k.k q.components (omega (arith, c.loop-k.invariant.count, c.loop-k-test.false)) in
    sym c.loop-k.invariant.value
    ∙ joined_end (unfolded (c.args.depth - 1) c.args.source.now c.args.at.now) (drop c.loop-k.k q.components) c.loop-k.k q.xs q.ys (w.level.all, w.left) none
    ∙ ap (λ (u : Unfolded). Ok (u, w.left)) (sym c.end.ensures.part)
    ∙ ap (λ (n : ℕ). Ok (c.end.new.self.part, n)) (sym c.end.ensures.left)

pub returns-clause-level : goal.returns-clause-level
returns-clause-level t c = (same_from_push _ _ _ _ (sym c.end.ensures.outer ∙ c.loop-k.invariant.outer)).1

pub returns-clause-outer : goal.returns-clause-outer
returns-clause-outer t c = (same_from_push _ _ _ _ (sym c.end.ensures.outer ∙ c.loop-k.invariant.outer)).0
