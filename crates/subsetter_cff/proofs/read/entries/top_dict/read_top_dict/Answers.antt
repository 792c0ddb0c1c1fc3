use Rattle.std.proofs.Common.{sym, ◌∙◌}
use Rattle.subsetter_cffdata.specs.Dicts.Dict.{entries}
use Rattle.subsetter_cff.specs.Read.Entries.OperandDemands.{top_demands}
use Rattle.subsetter_cff.proofs.ReadLaws.EntriesLaws.EntryFaults.{all_wrong}
use Rattle.subsetter_cff.proofs.ReadLaws.EntriesLaws.EntrySound.{no_wrong}
use Rattle.subsetter_cff.proofs.read.entries.top_dict.read_top_dict.Goals as goal

pub returns-clause-sound : goal.returns-clause-sound
returns-clause-sound c = λ met. no_wrong top_demands (entries c.args.dict.now) (sym c.read_entries.ensures.met ∙ met)

pub returns-clause-fault : goal.returns-clause-fault
returns-clause-fault c = λ broken. all_wrong top_demands (entries c.args.dict.now) (sym c.read_entries.ensures.met ∙ broken)
