use Rattle.std.proofs.Common.{[], ◌++◌, ℕ, List, take, drop, ap, ◌∙◌}
use Rattle.std.specs.Prelude.{slice_range}
use Rattle.std.proofs.lemmas.List.{take_rest}
use Rattle.subsetter_base.proofs.Lists.{five_written}
use Rattle.subsetter_instance.specs.Tables.Lines.{line_bytes}
use Rattle.subsetter_instance.proofs.tables.lines.moved_hhea.Goals as goal

pub returns : goal.returns
returns c =
    let h = c.args.hhea.now in
    five_written [] (take 4 h) (line_bytes c.args.lines) (slice_range h 10 18) (line_bytes c.args.caret) (drop 24 h) _ _ _ _ _ (c.in_ok-extend_from_slice.ensures.items ∙ ap (λ (l : List ℕ). l ++ take 4 h) c.in_ok-new.ensures.items) c.in_ok-write_lines.ensures
    c.in_ok-extend_from_slice-2.ensures.items c.in_ok-write_lines-2.ensures (c.in_ok-extend_from_slice-3.ensures.items ∙ ap (λ (l : List ℕ). c.write_lines-2.new.out.items ++ l) (take_rest h 24))
