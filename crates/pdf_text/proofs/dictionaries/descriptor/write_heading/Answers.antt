use Rattle.std.specs.Prelude.{codes, decimal, ◌++◌}
use Rattle.pdf_text.specs.Numbers.{thousandths}
use Rattle.pdf_text.specs.Dictionaries.Entries.{entry, array}
use Rattle.pdf_text.proofs.Written.{five_written}
use Rattle.pdf_text.proofs.dictionaries.descriptor.write_heading.Goals as goal

pub returns-clause-ok : goal.returns-clause-ok
returns-clause-ok c =
    let d = c.args.descriptor in
    five_written c.args.text.now.items (codes "/Type /FontDescriptor ") (entry (codes "FontName") (codes "/" ++ d.font_name.now)) (entry (codes "Flags") (decimal d.flags)) (entry (codes "FontBBox") (array d.bounds)) (entry (codes "ItalicAngle") (thousandths d.italic_angle))
    c.extend_from_slice.new.self.items c.write_name.new.text.items c.write_number.new.text.items c.write_numbers.new.text.items c.write_angle.new.text.items
    c.in_ok-extend_from_slice.ensures.items c.in_ok-write_name.ensures.ok c.in_ok-write_number.ensures.ok c.in_ok-write_numbers.ensures.ok c.in_ok-write_angle.ensures.ok
