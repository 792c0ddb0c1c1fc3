use Rattle.std.proofs.Common.{ℤ, ◌∙◌, List, refl, sym, ap, rules, FitsSigned, w64}
use Rattle.std.proofs.lemmas.Int.{to_z-of_z}
use Rattle.subsetter_blend.specs.Runs.Blend.{blended, scalars_in}
use Rattle.subsetter_blend.specs.Runs.MachineView.{registers_of}
use Rattle.subsetter_blend.proofs.RunsLaws.Acts.{blend_done}
use Rattle.subsetter_blend.proofs.runs.machine.Machine.blend.Goals as goal

pub returns : goal.returns
returns g c =
    let scalars = g.R.Regions.scalars c.args.regions.now in
    let r = registers_of c.args.self.now in
    let f : FitsSigned w64 c.in_ok-last.last = search rules in
    let natural = sym (simp to_z-of_z at c.natural_in.ensures) ∙ c.in_ok-n.ensures.ok_part in
    blend_done scalars c.args.rest.now r (scalars r.data_index) c.in_ok-count.count c.in_ok-n.n c.in_ok-last.last c.blend.new.self
    refl (sym c.count.ensures.value ∙ c.in_ok-count.ensures.ok_part)
    (sym c.pop.ensures.value ∙ c.in_ok-last.ensures.ok_part) natural
    (ap (λ (l : List ℤ). blended (scalars_in (scalars r.data_index)) c.in_ok-n.n l) (sym c.pop.ensures.rest) ∙ c.in_ok-blend.ensures.ok)
    c.in_ok-blend.ensures.within
