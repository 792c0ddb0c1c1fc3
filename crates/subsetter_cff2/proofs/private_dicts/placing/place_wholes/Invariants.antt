use Rattle.std.proofs.Common.{◌≡◌, take, map}
use Rattle.subsetter_cffdata.specs.Numerals.Numbers.{Integer}
use Rattle.subsetter_cffdata.specs.Views.{number_of}
use Rattle.subsetter_blend.specs.Runs.Number.{whole}
use Rattle.subsetter_cff2.specs.PrivateDicts.PrivateAt.{known}
use Rattle.subsetter_cff2.proofs.private_dicts.placing.place_wholes.Given as goal

abbrev pub invariant-loop-i : goal.invariant-loop-i
invariant-loop-i l = map number_of (take l.i l.numbers) ≡ map (λ o. Integer (whole (known o))) (take l.i l.parts)
