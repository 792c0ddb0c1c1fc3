use Rattle.std.proofs.Common.{◌≤◌, ◌∙◌, refl}
use Rattle.subsetter_type2.proofs.StretchesLaws.Stretches.{stretch_holds, stretch_leads, some_tokens}
use Rattle.subsetter_type2.proofs.runs.output.Output.take_stretch.Goals as goal

pub invariant_of-self-2 : goal.invariant_of-self-2
invariant_of-self-2 c =
    let sound = c.find_stretch-stretch.ensures.sound in
    let some : 1 ≤ c.find_stretch-stretch.result.tokens = some_tokens _ _ sound.moves c.if-stretch-eq0.false in
    let come = c.find_stretch-stretch.ensures.comes _ _ _ c.self.invariant.stands in
    stretch_holds _ _ _ _ _ _ _ _ _ _ come c.in_ok-extend_from_slice.ensures.items (c.len-before.ensures ∙ c.self.inside.bytes.ok.0) c.settled_after-self-inside.ensures refl some

pub returns-clause-leads : goal.returns-clause-leads
returns-clause-leads c =
    let come = c.find_stretch-stretch.ensures.comes _ _ _ c.self.invariant.stands in
    rw (← c.self.view_is)
    (stretch_leads _ _ _ _ _ _ _ _ _ come c.in_ok-extend_from_slice.ensures.items (c.len-before.ensures ∙ c.self.inside.bytes.ok.0) c.settled_after-self-inside.ensures)
