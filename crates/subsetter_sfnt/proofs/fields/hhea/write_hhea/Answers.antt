use Rattle.std.proofs.Common.{◌++◌, ℕ, List, take, drop, ap, ◌∙◌}
use Rattle.std.specs.Prelude.{slice_range}
use Rattle.std.specs.Int.{w16, to_be_bytes}
use Rattle.std.proofs.lemmas.List.{take_rest}
use Rattle.subsetter_base.proofs.Lists.{five_written}
use Rattle.subsetter_sfnt.proofs.fields.hhea.write_hhea.Goals as goal

pub returns-clause-items : goal.returns-clause-items
returns-clause-items c =
    let h = c.args.hhea.now in
    five_written c.args.out.now.items (take 10 h) c.args.extremes.now (slice_range h 18 34) (to_be_bytes w16 c.args.count) (drop 36 h) _ _ _ _ _ c.put.ensures.items c.put-2.ensures.items c.put-3.ensures.items
    (c.put-4.ensures.items ∙ ap (λ (l : List ℕ). c.put-3.new.out.items ++ l) c.to_be_bytes.ensures) (c.put-5.ensures.items ∙ ap (λ (l : List ℕ). c.put-4.new.out.items ++ l) (take_rest h 36))
