use Rattle.std.proofs.Common.{◌∙◌, ap, sym, subst, length}
use Rattle.std.specs.Prelude.{Ok, Result}
use Rattle.std.proofs.lemmas.Bool.{ltb-true, ltb-false}
use Rattle.subsetter_base.specs.Gives.{Gives}
use Rattle.subsetter_base.specs.declared.error.Error.{Error}
use Rattle.subsetter_cff.specs.Write.Laying.Layout.{FontDict}
use Rattle.subsetter_cff.specs.Write.Laying.PartsView.{font_dict_view}
use Rattle.subsetter_cff.proofs.WriteLaws.LayingLaws.PartsMade.{only_is, no_dict_there, dict_is, found_at}
use Rattle.subsetter_cff.proofs.write.laying.parts.new_font_dict.Goals as goal

pub returns-in-None : goal.returns-in-None
returns-in-None c = only_is c.args.source.now c.args.number c.requires c.in-None.is ∙ ap (λ (f : FontDict). Ok f) (sym c.only_dict.ensures)

pub returns-in_default : goal.returns-in_default
returns-in_default c =
    no_dict_there c.args.source.now c.in-Some.parts c.args.number c.deref.result.now c.requires c.in-Some.is c.deref.ensures.value (ltb-false c.args.number (length c.deref.result.now) (sym c.in_default.ensures.lookup.0))

pub returns-in-Some-get : goal.returns-in-Some-get
returns-in-Some-get c =
    let at = found_at c.deref.result.now c.in-Some.parts.font_dicts.items c.args.number c.in-Some-get.font_dict.now c.deref.ensures.value (ltb-true c.args.number (length c.deref.result.now) (sym c.in-Some-get.ensures.lookup.0)) c.in-Some-get.ensures.lookup.1 in
    subst (λ (r : Result FontDict Error). Gives font_dict_view c.new_dict_of.result r) (dict_is c.args.source.now c.in-Some.parts c.args.number c.in-Some-get.font_dict.now c.requires c.in-Some.is at) c.new_dict_of.ensures
