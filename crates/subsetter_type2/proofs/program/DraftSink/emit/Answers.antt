use Rattle.std.proofs.Common.{◌≡◌, List, ◌++◌, ◌∷◌, [], ap, ◌∙◌, rules}
use Rattle.std.proofs.lemmas.List.{nil_from_length}
use Rattle.subsetter_type2.specs.declared.program.Instruction.{Instruction}
use Rattle.subsetter_type2.specs.declared.program.Instruction.TheVariants as instruction
use Rattle.subsetter_type2.proofs.ProgramLemmas.{drawn_masked, drawn_plain}
use Rattle.subsetter_type2.proofs.program.DraftSink.emit.Goals as goal

pub returns-in_ok-push-2-clause-ok : goal.returns-in_ok-push-2-clause-ok
returns-in_ok-push-2-clause-ok c =
    let m = instruction.HintMask c.args.mask in
    rw (← c.self.view_is)
    (drawn_masked c.self.inside.program _ _ c.self.inside.operands _ c.args.operator c.args.mask c.self.invariant c.pop_all-operands.ensures.left
    (c.in_ok-push-2.ensures.ok ∙ ap (λ (p : List Instruction). p ++ m ∷ []) c.in_ok-push.ensures.ok))

pub returns-else-not-is_empty-clause-ok : goal.returns-else-not-is_empty-clause-ok
returns-else-not-is_empty-clause-ok c =
    let none : c.args.mask.now ≡ [] = nil_from_length c.args.mask.now (search rules) in
    rw (← c.self.view_is)
    (drawn_plain c.self.inside.program _ _ c.self.inside.operands _ c.args.operator c.args.mask.now c.self.invariant c.pop_all-operands.ensures.left c.in_ok-push.ensures.ok none)
