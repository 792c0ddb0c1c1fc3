use Rattle.std.proofs.Common.{◌∙◌, ◌++◌, List, [], ℕ, ap, append_assoc}
use Rattle.subsetter_type2.proofs.RunsLaws.OutputLemmas.{holds_none, stands_settled, written_is, settles}
use Rattle.subsetter_type2.proofs.runs.output.OutputSink.emit.Goals as goal

pub invariant_of-self : goal.invariant_of-self
invariant_of-self c = rw c.in_err-append_operator.ensures.unchanged c.self.invariant

pub invariant_of-self-in_err-extend_from_slice : goal.invariant_of-self-in_err-extend_from_slice
invariant_of-self-in_err-extend_from_slice c =
    rw c.in_err-extend_from_slice.ensures.items (holds_none _ _ _ _ (stands_settled _ _ (c.len-self-inside.ensures ∙ c.append_operator.new.bytes.ok.0)))

pub invariant_of-self-2 : goal.invariant_of-self-2
invariant_of-self-2 c = holds_none _ _ _ _ (stands_settled _ _ (c.len-self-inside-2.ensures ∙ c.extend_from_slice.new.self.ok.0))

pub returns-clause-ok : goal.returns-clause-ok
returns-clause-ok c =
    let all = c.in_ok-extend_from_slice.ensures.items ∙ ap (λ (b : List ℕ). b ++ c.args.mask.now) c.in_ok-append_operator.ensures.ok ∙ append_assoc c.self.inside.bytes.items _ _ in
    rw (← c.self.view_is)
    (written_is _ _ _ _ (stands_settled _ _ (c.len-self-inside-2.ensures ∙ c.extend_from_slice.new.self.ok.0))
    ∙ ap (λ (b : List ℕ). record { settled = b; operands = [] }) (all ∙ settles _ _ _ _ _ c.self.invariant.stands))
