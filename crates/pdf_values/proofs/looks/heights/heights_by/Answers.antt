use Rattle.std.proofs.Common.{rules, w32}
use mir.Val.{SFits}
use Rattle.std.proofs.lemmas.Int.{to_z-of_z}
use Rattle.pdf_values.specs.Looks.Heights.{heights_by}
use Rattle.pdf_values.proofs.looks.heights.heights_by.Goals as goal

pub returns-clause-value : goal.returns-clause-value
unfolding heights_by
returns-clause-value c =
    let ascent : SFits w32 c.ascent_in.result = search rules in
    let descent : SFits w32 c.descent_in_thousandths.result = search rules in
    let cap : SFits w32 c.cap_in.result = search rules in
    simp to_z-of_z (cc)
