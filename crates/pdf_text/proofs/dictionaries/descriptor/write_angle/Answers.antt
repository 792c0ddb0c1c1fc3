use Rattle.std.proofs.Common.{◌++◌, ℤ, ap, ◌∙◌, rules, w32}
use Rattle.std.proofs.lemmas.Int.{to_z-of_z}
use Rattle.std.specs.Prelude.{codes}
use mir.Val.{SFits}
use Rattle.pdf_text.specs.Numbers.{thousandths}
use Rattle.pdf_text.proofs.Written.{three_written}
use Rattle.pdf_text.proofs.dictionaries.descriptor.write_angle.Goals as goal

pub returns-clause-ok : goal.returns-clause-ok
returns-clause-ok c =
    let fits : SFits w32 c.args.descriptor.italic_angle = search rules in
    three_written c.args.text.now.items (codes "/ItalicAngle ") (thousandths c.args.descriptor.italic_angle) (codes " ") c.extend_from_slice.new.self.items c.write_thousandths.new.text.items c.extend_from_slice-2.new.self.items
    c.in_ok-extend_from_slice.ensures.items
    (c.in_ok-write_thousandths.ensures.ok ∙ ap (λ (z : ℤ). c.extend_from_slice.new.self.items ++ thousandths z) (to_z-of_z w32 c.args.descriptor.italic_angle fits))
    c.in_ok-extend_from_slice-2.ensures.items
