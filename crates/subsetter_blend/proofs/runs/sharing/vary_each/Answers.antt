use Rattle.std.proofs.Common.{◌≡◌, ◌≢◌, ◌<◌, ◌*◌, ◌∙◌, length, get_or, pos, ap, sym, refl, arith, rules, below_more, get_or-set_other, get_or-set_same, FitsSigned, w64, true, false}
use Rattle.std.proofs.lemmas.Int.{to_z-of_z}
use Rattle.std.proofs.lemmas.List.{length-drop}
use Rattle.std.proofs.lemmas.List.Elements.{All-set}
use Rattle.std.proofs.lemmas.List.FromFn.{fill_by_all}
use Rattle.subsetter_blend.specs.Runs.Blend.{result_at, scalars_in}
use Rattle.subsetter_blend.specs.Runs.Number.{IsWithin, is_within}
use Rattle.subsetter_blend.proofs.RunsLaws.Blends.{one_outside, rest_more, result_is, room_for, within_from}
use Rattle.subsetter_blend.proofs.runs.sharing.vary_each.Goals as goal

pub split_at-requires : goal.split_at-requires
split_at-requires g c =
    let i = c.loop-i.i in
    let lt : i < length c.args.defaults.now = omega (arith, c.loop-i.auto.defaults) in
    omega (arith, ap length c.loop-i.invariant.rest, length-drop (i * c.args.count) c.args.deltas.now, room_for (length c.args.defaults.now) i c.args.count (length c.args.deltas.now) lt c.requires.deltas)

pub returns-then-not-is_within-clause-err : goal.returns-then-not-is_within-clause-err
returns-then-not-is_within-clause-err g c =
    let ss = scalars_in (g.R.Regions.scalars c.args.regions.now c.args.data_index) in
    let i = c.loop-i.i in
    let f : FitsSigned w64 c.vary-value.result = search rules in
    let h : FitsSigned w64 (get_or c.loop-i.defaults i (pos 0)) = search rules in
    let value = simp to_z-of_z at c.vary-value.ensures in
    let is = result_is ss c.args.defaults.now c.loop-i.defaults c.args.deltas.now c.loop-i.rest.now c.split_at.result.0.now i c.args.count c.vary-value.result c.requires.regions (c.loop-i.invariant.kept i (omega arith)) c.loop-i.invariant.rest c.split_at.ensures.front value in
    let outside : is_within c.vary-value.result ≡ false = sym (simp to_z-of_z at c.is_within.ensures) ∙ c.if-not-is_within.true in
    (refl, one_outside (result_at ss c.args.defaults.now c.args.deltas.now) 0 (length c.args.defaults.now) i i (omega arith) (omega arith) (sym (ap is_within is) ∙ outside))

pub loop-i-preserved : goal.loop-i-preserved
loop-i-preserved g c =
    let ss = scalars_in (g.R.Regions.scalars c.args.regions.now c.args.data_index) in
    let i = c.loop-i.i in
    let f : FitsSigned w64 c.vary-value.result = search rules in
    let h : FitsSigned w64 (get_or c.loop-i.defaults i (pos 0)) = search rules in
    let here = to_z-of_z w64 c.vary-value.result f in
    let value = simp to_z-of_z at c.vary-value.ensures in
    let lt : i < length c.loop-i.defaults = omega (arith, c.loop-i.auto.defaults) in
    let is = result_is ss c.args.defaults.now c.loop-i.defaults c.args.deltas.now c.loop-i.rest.now c.split_at.result.0.now i c.args.count c.vary-value.result c.requires.regions (c.loop-i.invariant.kept i (omega arith)) c.loop-i.invariant.rest c.split_at.ensures.front value in
    let inside : is_within c.vary-value.result ≡ true = sym (simp to_z-of_z at c.is_within.ensures) ∙ c.if-not-is_within.false in
    record {
      written = below_more _ _
          (λ j l. let ne : j ≢ i = omega arith in rw get_or-set_other (c.loop-i.invariant.written j l))
          (rw get_or-set_same (here ∙ is));
      kept = λ j l. let ne : j ≢ i = omega arith in rw get_or-set_other (c.loop-i.invariant.kept j (omega arith));
      within = All-set IsWithin c.loop-i.defaults i _ (rw here (within_from c.vary-value.result inside)) c.loop-i.invariant.within;
      rest = rest_more c.loop-i.rest.now c.split_at.result.1.now c.args.deltas.now i c.args.count c.loop-i.invariant.rest c.split_at.ensures.back;
    }

pub returns-clause-ok : goal.returns-clause-ok
returns-clause-ok g c =
    fill_by_all (result_at (scalars_in (g.R.Regions.scalars c.args.regions.now c.args.data_index)) c.args.defaults.now c.args.deltas.now) c.loop-i.defaults (length c.args.defaults.now) (pos 0) c.loop-i.auto.defaults
    (λ k l. c.loop-i.invariant.written k (omega arith))
