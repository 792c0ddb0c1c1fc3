use Rattle.std.proofs.Common.{◌≢◌, ◌<◌, ◌∙◌, length, None, arith, below_more, get_or-set_other, get_or-set_same}
use Rattle.std.proofs.lemmas.List.Elements.{All-set}
use Rattle.std.proofs.lemmas.List.FromFn.{fill_by_all}
use Rattle.subsetter_blend.specs.Runs.Blend.{scalars_in}
use Rattle.subsetter_cff2.specs.PrivateDicts.Blend.{result_at}
use Rattle.subsetter_cff2.specs.PrivateDicts.Held.{IsHeld}
use Rattle.subsetter_cff2.specs.Variation.{data_scalars}
use Rattle.subsetter_cff2.proofs.PrivateDictsLaws.Sharing.{result_is}
use Rattle.subsetter_cff2.proofs.private_dicts.blend.vary_each.Goals as goal

pub loop-i-preserved : goal.loop-i-preserved
loop-i-preserved c =
    let ss = scalars_in (data_scalars c.args.variation.now c.args.outer) in
    let i = c.loop-i.i in
    let lt : i < length c.loop-i.defaults = omega (arith, c.loop-i.auto.defaults) in
    let is = result_is ss c.args.defaults.now c.loop-i.defaults c.args.deltas.now i c.args.count c.vary-value.result c.requires.regions (c.loop-i.invariant.kept i (omega arith)) c.vary-value.ensures in
    record {
      written = below_more _ _
          (λ j l. let ne : j ≢ i = omega arith in rw get_or-set_other (c.loop-i.invariant.written j l))
          (rw get_or-set_same (c.held.ensures.value ∙ is));
      kept = λ j l. let ne : j ≢ i = omega arith in rw get_or-set_other (c.loop-i.invariant.kept j (omega arith));
      held = All-set IsHeld c.loop-i.defaults i _ c.held.ensures.held c.loop-i.invariant.held;
    }

pub returns-clause-value : goal.returns-clause-value
returns-clause-value c =
    fill_by_all (result_at (scalars_in (data_scalars c.args.variation.now c.args.outer)) c.args.defaults.now c.args.deltas.now) c.loop-i.defaults (length c.args.defaults.now) None c.loop-i.auto.defaults
    (λ k l. c.loop-i.invariant.written k (omega arith))
