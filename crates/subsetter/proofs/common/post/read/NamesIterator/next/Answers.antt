use Rattle.std.proofs.Common.{length, ap, sym, ◌∙◌, ◌∷◌, arith, ℕ}
use Rattle.subsetter.specs.Common.Post.Read.{names_in}
use Rattle.subsetter.proofs.CommonLaws.PostLaws.Indexes.{first_name}
use Rattle.subsetter.proofs.common.post.read.NamesIterator.next.Goals as goal

pub returns-clause-steps : goal.returns-clause-steps
returns-clause-steps c =
    let rest = c.in_ok-len.rest.now in
    ap names_in (sym c.self.view_is) ∙ first_name c.self.inside.rest.now rest c.from-len.result (c.in_ok-len.ensures.cases.0 ∙ ap (λ (n : ℕ). n ∷ rest) (sym c.from-len.ensures)) c.if-len-rest.false

pub returns-clause-goes : goal.returns-clause-goes
returns-clause-goes c =
    let fewer = ap length (returns-clause-steps c) in
    record { on = λ _. (tt, tt, omega (arith, fewer)); keeps = tt; rests = λ _. tt }
