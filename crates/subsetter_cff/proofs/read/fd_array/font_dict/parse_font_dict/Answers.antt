use Rattle.std.proofs.Common.{◌∙◌, sym}
use Rattle.subsetter_cffdata.specs.Dicts.Dict.{entries}
use Rattle.subsetter_cff.specs.Read.FdArray.FontDictFaults.{wrong_entry}
use Rattle.subsetter_cff.proofs.ReadLaws.FdArrayLaws.LeadingEntries.{nowhere_stands, no_font_dict_fault, last_there}
use Rattle.subsetter_cff.proofs.read.fd_array.font_dict.parse_font_dict.Goals as goal

pub returns-in_err-entries-clause-fault : goal.returns-in_err-entries-clause-fault
returns-in_err-entries-clause-fault c = rw c.from_residual.ensures (wrong_entry c.in_err-entries.ensures.fault)

pub returns-then-not-all_lead-clause-fault : goal.returns-then-not-all_lead-clause-fault
returns-then-not-all_lead-clause-fault c = nowhere_stands c.args.offsets.now (entries c.args.dict.now) (sym c.all_lead.ensures ∙ c.if-not-all_lead.true)

pub returns-in_err-private-clause-fault : goal.returns-in_err-private-clause-fault
returns-in_err-private-clause-fault c =
    rw c.from_residual-in_err-private.ensures
    (absurd (last_there c.args.offsets.now (entries c.args.dict.now) (sym c.all_lead.ensures ∙ c.if-not-all_lead.false) c.in_err-private.ensures))

pub returns-clause-sound : goal.returns-clause-sound
returns-clause-sound c = no_font_dict_fault c.args.offsets.now (entries c.args.dict.now) c.in_ok-entries.ensures.sound (sym c.all_lead.ensures ∙ c.if-not-all_lead.false)
