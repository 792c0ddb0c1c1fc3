use Rattle.std.proofs.Common.{◌≤◌, arith, take, length, length-take}
use Rattle.subsetter_cffdata.proofs.RealsLaws.RealTexts.{has_text, fits_some, on_any}
use Rattle.subsetter_cffdata.proofs.reals.real_number.RealNumberWriteable.write.Goals as goal

pub returns-clause-again : goal.returns-clause-again
returns-clause-again c =
    let r = c.args.self.now in
    let ds = take r.len r.digits in
    let short : length ds ≤ 64 = omega (arith, length-take r.len r.digits, r.within) in
    on_any c.extend.result (has_text r.negative ds r.power r.plain short (fits_some _ _ c.in-Some.ensures.value).1)
