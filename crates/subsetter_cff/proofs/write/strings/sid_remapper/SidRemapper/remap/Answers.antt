use Rattle.subsetter_base.specs.Texts.{views}
use Rattle.subsetter_cff.proofs.WriteLaws.StringsLaws.StringPlaces.{once_after}
use Rattle.subsetter_cff.proofs.write.strings.sid_remapper.SidRemapper.remap.Goals as goal

pub invariant_of-self : goal.invariant_of-self
invariant_of-self c = record { few = c.put_string.ensures.few; once = once_after _ (views c.self.inside.strings.items) _ c.args.string.now c.self.invariant.once c.put_string.ensures.texts }
