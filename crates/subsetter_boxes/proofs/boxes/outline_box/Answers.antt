use Rattle.std.proofs.Common.{Option, Ok, sym, ap, ◌∙◌, rules}
use Rattle.subsetter_points.specs.declared.bounds.Bounds.{Bounds}
use Rattle.subsetter_boxes.proofs.Runs.{outline_found, outline_lost}
use Rattle.subsetter_boxes.proofs.boxes.outline_box.Goals as goal

pub returns-in-Ok-clause-value : goal.returns-in-Ok-clause-value
returns-in-Ok-clause-value c =
    ap (λ (b : Option Bounds). Ok b)
    (sym (c.bounds.ensures ∙ outline_found c.no_subroutines.result c.no_subroutines-2.result c.in-Some.limits.tokens c.in-Some.limits.depth c.args.charstring.now c.new-following.result _ c.no_subroutines.ensures c.no_subroutines-2.ensures (search rules) (search rules) c.new-following.ensures c.in-Ok.ensures))

pub returns-in_ok-unless_memory-in-Err-clause-value : goal.returns-in_ok-unless_memory-in-Err-clause-value
returns-in_ok-unless_memory-in-Err-clause-value c =
    ap (λ (b : Option Bounds). Ok b)
    (outline_lost c.no_subroutines.result c.no_subroutines-2.result c.in-Some.limits.tokens c.in-Some.limits.depth c.args.charstring.now c.new-following.result c.in-Err.error c.no_subroutines.ensures c.no_subroutines-2.ensures (search rules) (search rules) c.new-following.ensures (c.in-Err.ensures c.in_ok-unless_memory-in-Err.ensures.ok))
