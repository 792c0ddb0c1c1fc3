use Rattle.std.proofs.Common.{◌++◌, List, ℕ, ℤ, ap, ◌∙◌, rules, w32}
use Rattle.std.proofs.lemmas.Int.{to_z-of_z}
use Rattle.std.specs.Prelude.{codes}
use Rattle.std.specs.Fmt.{signed_decimal}
use mir.Val.{SFits}
use Rattle.pdf_text.proofs.Written.{five_written}
use Rattle.pdf_text.proofs.metrics.columns.write_column.Goals as goal

pub returns-clause-ok : goal.returns-clause-ok
returns-clause-ok c =
    let a : SFits w32 c.args.column.advance = search rules in
    let x : SFits w32 c.args.column.x = search rules in
    let y : SFits w32 c.args.column.y = search rules in
    five_written c.args.text.now.items (signed_decimal c.args.column.advance) (codes " ") (signed_decimal c.args.column.x) (codes " ") (signed_decimal c.args.column.y)
    c.write_integer.new.text.items c.extend_from_slice.new.self.items c.write_integer-2.new.text.items c.extend_from_slice-2.new.self.items c.write_integer-3.new.text.items
    (c.in_ok-write_integer.ensures.ok ∙ ap (λ (z : ℤ). c.args.text.now.items ++ signed_decimal z) (to_z-of_z w32 c.args.column.advance a))
    c.in_ok-extend_from_slice.ensures.items
    (c.in_ok-write_integer-2.ensures.ok ∙ ap (λ (z : ℤ). c.extend_from_slice.new.self.items ++ signed_decimal z) (to_z-of_z w32 c.args.column.x x))
    c.in_ok-extend_from_slice-2.ensures.items
    (c.in_ok-write_integer-3.ensures.ok ∙ ap (λ (z : ℤ). c.extend_from_slice-2.new.self.items ++ signed_decimal z) (to_z-of_z w32 c.args.column.y y))
