use Rattle.subsetter_sfnt.specs.Extras.{all_extras}
use Rattle.subset_font.proofs.FacesLaws.Showing.{shows_of}
use Rattle.subset_font.proofs.faces.info.write_parts.Goals as goal

pub returns-clause-ok : goal.returns-clause-ok
returns-clause-ok g c = shows_of c.args.json (record { bytes = c.args.font.now; index = c.args.index; extras = all_extras }) _ _ c.info_of-info.result c.write_shown.result c.requires.header c.info_of-info.ensures c.write_shown.ensures.ok
