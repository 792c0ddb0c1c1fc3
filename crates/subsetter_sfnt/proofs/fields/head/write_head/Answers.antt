use Rattle.std.proofs.Common.{◌∷◌, [], ◌++◌, ℕ, List, take, drop, ap, ◌∙◌}
use Rattle.std.specs.Prelude.{slice_range}
use Rattle.std.proofs.lemmas.List.{take_rest}
use Rattle.subsetter_sfnt.specs.Fields.Head.{format_bytes}
use Rattle.subsetter_sfnt.proofs.Laws.FieldsLaws.HeadLaws.{seven_written}
use Rattle.subsetter_sfnt.proofs.fields.head.write_head.Goals as goal

pub returns-clause-items : goal.returns-clause-items
returns-clause-items c =
    let h = c.args.head.now in
    seven_written c.args.out.now.items (take 8 h) (0 ∷ 0 ∷ 0 ∷ 0 ∷ []) (slice_range h 12 36) c.args.bounds.now (slice_range h 44 50) (format_bytes c.args.long) (drop 52 h) _ _ _ _ _ _ _
    c.put.ensures.items c.put-2.ensures.items c.put-3.ensures.items c.put-4.ensures.items c.put-5.ensures.items c.write_format.ensures.items (c.put-6.ensures.items ∙ ap (λ (l : List ℕ). c.write_format.new.out.items ++ l) (take_rest h 52))
