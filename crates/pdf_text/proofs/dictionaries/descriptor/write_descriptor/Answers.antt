use Rattle.std.proofs.Common.{◌++◌, List, ℕ, Bool, ap, ◌∙◌}
use Rattle.std.specs.Prelude.{is_some}
use Rattle.pdf_text.specs.Dictionaries.Descriptor.{heading_entries, height_entries, weight_entries, program_key, cid_set_entry}
use Rattle.pdf_text.specs.Dictionaries.Entries.{entry, reference}
use Rattle.pdf_text.proofs.Written.{five_written}
use Rattle.pdf_text.proofs.dictionaries.descriptor.write_descriptor.Goals as goal

pub returns-clause-ok : goal.returns-clause-ok
returns-clause-ok c =
    let v = c.args.values in
    let r = c.args.references in
    five_written c.args.text.now.items (heading_entries v.descriptor) (height_entries v.descriptor) (weight_entries v.descriptor) (entry (program_key v.kind) (reference r.program)) (cid_set_entry (is_some v.cid_set) r.cid_set)
    c.write_heading.new.text.items c.write_heights.new.text.items c.write_weight.new.text.items c.write_reference.new.text.items c.write_cid_set.new.text.items
    c.in_ok-write_heading.ensures.ok c.in_ok-write_heights.ensures.ok c.in_ok-write_weight.ensures.ok
    (c.in_ok-write_reference.ensures.ok ∙ ap (λ (k : List ℕ). c.write_weight.new.text.items ++ entry k (reference r.program)) c.program_key.ensures)
    (c.in_ok-write_cid_set.ensures.ok ∙ ap (λ (b : Bool). c.write_reference.new.text.items ++ cid_set_entry b r.cid_set) c.is_some.ensures)
