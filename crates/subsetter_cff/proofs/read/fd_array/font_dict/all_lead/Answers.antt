use Rattle.std.proofs.Common.{◌<◌, length, arith, sym, ◌∙◌, ap, ℕ, List}
use Rattle.subsetter_cffdata.specs.Dicts.Dict.{entries}
use Rattle.subsetter_cffdata.specs.Dicts.ParserView.{left}
use Rattle.subsetter_cffdata.specs.Views.{operator_of}
use Rattle.subsetter_cff.specs.Read.Opened.{all_lead}
use Rattle.subsetter_cff.proofs.ReadLaws.FdArrayLaws.LeadingEntries.{lead_next, lead_end}
use Rattle.subsetter_cff.proofs.ReadLaws.EntriesLaws.LastEntries.{fails_all, passes}
use Rattle.subsetter_cff.proofs.WriteLaws.NewDictsLaws.Rewriting.{shorter}
use Rattle.subsetter_cff.proofs.read.fd_array.font_dict.all_lead.Goals as goal

pub returns-then-not-leads_here : goal.returns-then-not-leads_here
returns-then-not-leads_here c =
    fails_all _ _ _ (lead_next c.args.offsets.now _ _ (operator_of c.in-Some.operator) (left c.parse_next.new.self) _ c.in-Some.ensures.value (c.in-Some.ensures.room ∙ c.loop-operator.invariant.room) c.in-Some.ensures.entry ∙ c.loop-operator.invariant.lead) (sym c.leads_here.ensures.value ∙ c.if-not-leads_here.true)

pub loop-operator-smaller : goal.loop-operator-smaller
loop-operator-smaller c =
    let less = shorter (left c.loop-operator.parser) (operator_of c.in-Some.operator) (left c.parse_next.new.self) c.in-Some.ensures.value in
    let now : length (left c.leads_here.new.parser) < length (left c.loop-operator.parser) = omega (arith, less, ap length c.leads_here.ensures.left) in
    now

pub loop-operator-preserved : goal.loop-operator-preserved
loop-operator-preserved c = record {
  lead =
      ap (λ (l : List ℕ). all_lead c.args.offsets.now (entries l)) c.leads_here.ensures.left
      ∙ passes _ _ _ (lead_next c.args.offsets.now _ _ (operator_of c.in-Some.operator) (left c.parse_next.new.self) _ c.in-Some.ensures.value (c.in-Some.ensures.room ∙ c.loop-operator.invariant.room) c.in-Some.ensures.entry ∙ c.loop-operator.invariant.lead) (sym c.leads_here.ensures.value ∙ c.if-not-leads_here.false);
  room = c.leads_here.ensures.room ∙ (c.in-Some.ensures.room ∙ c.loop-operator.invariant.room);
}

pub returns : goal.returns
returns c = sym (lead_end c.args.offsets.now (left c.loop-operator.parser) c.in_default.ensures.value) ∙ c.loop-operator.invariant.lead
