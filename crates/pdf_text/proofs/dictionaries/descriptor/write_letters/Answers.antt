use Rattle.std.proofs.Common.{◌++◌, ℤ, ap, ◌∙◌, rules, w32}
use Rattle.std.proofs.lemmas.Int.{to_z-of_z}
use Rattle.std.specs.Prelude.{codes}
use mir.Val.{SFits}
use Rattle.std.specs.Fmt.{signed_decimal}
use Rattle.pdf_text.specs.Dictionaries.Descriptor.{x_height_entry}
use Rattle.pdf_text.specs.Dictionaries.Entries.{entry}
use Rattle.pdf_text.proofs.Pieces.{two_written}
use Rattle.pdf_text.proofs.dictionaries.descriptor.write_letters.Goals as goal

pub returns-clause-ok : goal.returns-clause-ok
returns-clause-ok c =
    let fits : SFits w32 c.args.descriptor.cap_height = search rules in
    two_written c.args.text.now.items (entry (codes "CapHeight") (signed_decimal c.args.descriptor.cap_height)) (x_height_entry c.args.descriptor.x_height) c.write_signed.new.text.items c.write_x_height.new.text.items
    (c.in_ok-write_signed.ensures.ok ∙ ap (λ (z : ℤ). c.args.text.now.items ++ entry (codes "CapHeight") (signed_decimal z)) (to_z-of_z w32 c.args.descriptor.cap_height fits))
    c.in_ok-write_x_height.ensures.ok
