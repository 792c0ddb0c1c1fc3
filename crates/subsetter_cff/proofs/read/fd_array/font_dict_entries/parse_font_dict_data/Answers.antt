use Rattle.std.proofs.Common.{sym, ◌∙◌}
use Rattle.subsetter_cffdata.specs.Dicts.Dict.{entries}
use Rattle.subsetter_cff.specs.Read.Entries.OperandDemands.{font_dict_demands}
use Rattle.subsetter_cff.proofs.ReadLaws.EntriesLaws.EntryFaults.{all_wrong}
use Rattle.subsetter_cff.proofs.ReadLaws.EntriesLaws.EntrySound.{no_wrong}
use Rattle.subsetter_cff.proofs.read.fd_array.font_dict_entries.parse_font_dict_data.Goals as goal

pub returns-then-not-read_entries-clause-fault : goal.returns-then-not-read_entries-clause-fault
returns-then-not-read_entries-clause-fault c = all_wrong font_dict_demands (entries c.args.dict.now) (sym c.read_entries.ensures.met ∙ c.if-not-read_entries.true)

pub returns-clause-sound : goal.returns-clause-sound
returns-clause-sound c = no_wrong font_dict_demands (entries c.args.dict.now) (sym c.read_entries.ensures.met ∙ c.if-not-read_entries.false)
