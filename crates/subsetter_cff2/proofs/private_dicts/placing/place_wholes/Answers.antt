use Rattle.std.proofs.Common.{◌∙◌, arith, map, ℤ, Option}
use Rattle.subsetter_cffdata.specs.Numerals.Numbers.{Integer}
use Rattle.subsetter_cffdata.specs.Views.{number_of}
use Rattle.subsetter_blend.specs.Runs.Number.{whole}
use Rattle.subsetter_cff2.specs.PrivateDicts.PrivateAt.{known}
use Rattle.subsetter_cff2.proofs.Lists2.{put_all, twice}
use Rattle.subsetter_cff2.proofs.private_dicts.placing.place_wholes.Goals as goal

pub returns : goal.returns
returns c =
    put_all number_of (λ (o : Option ℤ). Integer (whole (known o))) c.loop-i.numbers c.args.parts.now c.loop-i.i (omega (arith, c.requires.same, c.loop-i.auto.numbers)) (omega (arith, c.requires.same)) c.loop-i.invariant
    ∙ twice (λ (z : ℤ). Integer (whole z)) known c.args.parts.now
    ∙ twice Integer whole (map known c.args.parts.now)
