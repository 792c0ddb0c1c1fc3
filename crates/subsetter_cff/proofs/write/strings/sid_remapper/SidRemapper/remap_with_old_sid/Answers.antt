use Rattle.std.proofs.Common.{◌≡◌, ◌++◌, ◌∷◌, [], None, sym, ap, ◌∙◌}
use Rattle.std.proofs.lemmas.Slice.{pushed}
use Rattle.subsetter_cff.specs.Write.Strings.SidRemapping.{Remapped, new_number, with_old}
use Rattle.subsetter_base.specs.Texts.{views}
use Rattle.subsetter_cff.proofs.WriteLaws.StringsLaws.StringPlaces.{new_noted, old_noted, once_after}
use Rattle.subsetter_cff.proofs.write.strings.sid_remapper.SidRemapper.remap_with_old_sid.Goals as goal

pub invariant_of-self-2 : goal.invariant_of-self-2
invariant_of-self-2 c = record { few = c.put_string.ensures.few; once = once_after _ (views c.self.inside.strings.items) _ c.args.string.now c.self.invariant.once c.put_string.ensures.texts }

pub returns-clause-all : goal.returns-clause-all
returns-clause-all c =
    let pairs = c.self.inside.known.items in
    let absent : None ≡ new_number pairs c.args.sid.0 = c.in_default.ensures ∙ ap (λ (r : Remapped). new_number r.known c.args.sid.0) (sym c.self.view_is) in
    let known : c.push.new.self.items ≡ pairs ++ (c.args.sid.0, c.in_ok-new.new.0) ∷ [] = pushed ((c.args.sid.0, c.in_ok-new.new.0) ∷ []) c.reserve.ensures.items c.unwrap.ensures c.push.ensures.items in
    let r : Remapped = record { texts = views c.self.inside.strings.items; known = pairs } in
    old_noted r (views c.put_string.new.strings.items) c.push.new.self.items c.args.sid.0 c.in_ok-new.new.0 c.args.string.now absent c.in_ok-new.ensures.texts c.in_ok-new.ensures.number known
    ∙ ap (λ (r : Remapped). with_old r c.args.sid.0 c.args.string.now) c.self.view_is

pub returns-clause-number : goal.returns-clause-number
returns-clause-number c =
    let pairs = c.self.inside.known.items in
    let absent : None ≡ new_number pairs c.args.sid.0 = c.in_default.ensures ∙ ap (λ (r : Remapped). new_number r.known c.args.sid.0) (sym c.self.view_is) in
    let known : c.push.new.self.items ≡ pairs ++ (c.args.sid.0, c.in_ok-new.new.0) ∷ [] = pushed ((c.args.sid.0, c.in_ok-new.new.0) ∷ []) c.reserve.ensures.items c.unwrap.ensures c.push.ensures.items in
    new_noted pairs c.push.new.self.items c.args.sid.0 c.in_ok-new.new.0 absent known
