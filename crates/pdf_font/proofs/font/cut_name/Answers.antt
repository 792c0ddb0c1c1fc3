use Rattle.std.proofs.Common.{rules, ◌≡◌, ◌-◌, ◌++◌, [], codes, take}
use Rattle.pdf_text.proofs.Pieces.{four_after_nothing}
use Rattle.pdf_text.specs.SubsetName.{tag_of}
use Rattle.pdf_font.proofs.font.cut_name.Goals as goal

pub returns-clause-ok : goal.returns-clause-ok
returns-clause-ok c =
    let front : c.extend_from_slice.new.self.items ≡ c.new-cut.result.items ++ take (c.args.room - 10) c.args.name.now = search rules in
    let hyphen : c.extend_from_slice-2.new.self.items ≡ c.extend_from_slice.new.self.items ++ codes "-" = search rules in
    let letters : c.extend_from_slice-3.new.self.items ≡ c.extend_from_slice-2.new.self.items ++ tag_of c.args.name.now = search rules in
    let dots : c.extend_from_slice-4.new.self.items ≡ c.extend_from_slice-3.new.self.items ++ codes "..." = search rules in
    let none : c.new-cut.result.items ≡ [] = search rules in
    four_after_nothing c.new-cut.result.items (take (c.args.room - 10) c.args.name.now) (codes "-") (tag_of c.args.name.now) (codes "...") c.extend_from_slice.new.self.items c.extend_from_slice-2.new.self.items c.extend_from_slice-3.new.self.items c.extend_from_slice-4.new.self.items none front hyphen letters dots
