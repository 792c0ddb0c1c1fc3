use Rattle.std.proofs.Common.{◌<◌, length, get_or, refl, arith, rules, FitsSigned, w64}
use Rattle.std.proofs.lemmas.Int.{to_z-of_z}
use Rattle.subsetter_blend.specs.Runs.Small.{IsSmall}
use Rattle.subsetter_blend.proofs.RunsLaws.Smalls.{small_more, smalls_more}
use Rattle.subsetter_blend.proofs.runs.operands.Operands.push_all_small.Goals as goal

pub loop-count-preserved : goal.loop-count-preserved
loop-count-preserved c =
    let bytes = c.args.bytes.now in
    let k = c.loop-count.count in
    let less : k < length bytes = omega arith in
    let f : FitsSigned w64 c.small_in_parts.result = search rules in
    let pushed = simp to_z-of_z at c.push.ensures in
    let is : IsSmall (get_or bytes k 0) = record { low = omega arith; high = omega arith } in
    record {
      pushed = small_more c.args.self.now c.loop-count.self c.push.new.self bytes k (get_or bytes k 0) c.small_in_parts.result less refl c.small_in_parts.ensures.value c.loop-count.invariant.pushed pushed;
      small = smalls_more bytes k (get_or bytes k 0) less refl is c.loop-count.invariant.small;
    }
