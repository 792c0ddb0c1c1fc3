use Rattle.std.proofs.Common.{arith}
use Rattle.subsetter_blend.specs.Runs.Blend.{scalars_in}
use Rattle.subsetter_cff2.specs.Variation.{data_scalars}
use Rattle.subsetter_cff2.proofs.PrivateDictsLaws.Stacks2.{stacked_view, held_in}
use Rattle.subsetter_cff2.proofs.private_dicts.blend.blend_from.Goals as goal

pub returns-clause-value : goal.returns-clause-value
returns-clause-value c =
    stacked_view (scalars_in (data_scalars c.args.variation.now c.args.outer)) c.args.all.now c.vary_front.new.all c.args.end c.args.n c.args.base (omega (arith, c.requires.enough)) c.requires.inside c.vary_front.ensures.value

pub returns-clause-held : goal.returns-clause-held
returns-clause-held c = held_in c.args.base _ c.args.all.now c.vary_front.new.all c.requires.held c.vary_front.ensures.held
