use Rattle.std.proofs.Common.{List, ℕ, ◌++◌, ap, ◌∙◌}
use Rattle.std.proofs.lemmas.Result.{on_ok_weaker}
use Rattle.own_glyphs.proofs.Steps.{composite_written}
use Rattle.own_glyphs.proofs.composite.write_outline.Goals as goal

pub returns-clause-ok : goal.returns-clause-ok
returns-clause-ok c =
    let written = composite_written c.args.parts.now c.args.bounds c.args.out.now.items c.extend_from_slice.new.self.items c.extend_from_slice-2.new.self.items c.write_components.new.out.items c.if-is_empty.ensures
    c.in_ok-extend_from_slice.ensures.items (c.in_ok-extend_from_slice-2.ensures.items ∙ ap (λ (b : List ℕ). c.extend_from_slice.new.self.items ++ b) c.bounds_bytes.ensures) in
    on_ok_weaker c.write_components.result written c.write_components.ensures.ok
