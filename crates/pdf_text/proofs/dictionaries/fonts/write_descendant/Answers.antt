use Rattle.std.proofs.Common.{◌++◌, List, ℕ, sym, ap, ◌∙◌, append_assoc}
use Rattle.std.specs.Prelude.{codes}
use Rattle.pdf_text.specs.Dictionaries.Entries.{reference}
use Rattle.pdf_text.proofs.Written.{three_written}
use Rattle.pdf_text.proofs.dictionaries.fonts.write_descendant.Goals as goal

pub returns-clause-ok : goal.returns-clause-ok
returns-clause-ok c =
    three_written c.args.text.now.items (codes "/DescendantFonts [") (reference c.args.n) (codes "] ") c.extend_from_slice.new.self.items c.write_reference_to.new.text.items c.extend_from_slice-2.new.self.items
    c.in_ok-extend_from_slice.ensures.items c.in_ok-write_reference_to.ensures.ok c.in_ok-extend_from_slice-2.ensures.items
    ∙ ap (λ (l : List ℕ). c.args.text.now.items ++ (codes "/DescendantFonts [" ++ l)) (sym (append_assoc (reference c.args.n) (codes "]") (codes " ")))
