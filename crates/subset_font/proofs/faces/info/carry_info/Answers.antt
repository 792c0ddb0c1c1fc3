use Rattle.subset_font.proofs.FacesLaws.Showing.{shown_of_read, fault_of_read}
use Rattle.subset_font.proofs.faces.info.carry_info.Goals as goal

pub returns-clause-ok : goal.returns-clause-ok
returns-clause-ok g c = shown_of_read (g.R.Read.remaining c.args.reader.now) c.in_ok-font.font.items c.deref.result.now c.args.index c.args.json _ _ c.show_info-shown.result c.in_ok-font.ensures.bytes c.deref.ensures.value c.show_info-shown.ensures.ok

pub returns-clause-err : goal.returns-clause-err
returns-clause-err g c = fault_of_read (g.R.Read.remaining c.args.reader.now) c.in_ok-font.font.items c.deref.result.now c.args.index c.show_info-shown.result c.in_ok-font.ensures.bytes c.deref.ensures.value c.show_info-shown.ensures.err
