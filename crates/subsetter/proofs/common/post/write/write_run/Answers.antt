use Rattle.std.proofs.Common.{◌≡◌, ◌++◌, List, ℕ, OnOk, subst}
use Rattle.subsetter.proofs.common.post.write.write_run.Goals as goal

pub returns-in-Some-clause-ok : goal.returns-in-Some-clause-ok
returns-in-Some-clause-ok c = subst (λ (l : List ℕ). OnOk c.extend-in-Some.result (c.extend-in-Some.new.self ≡ c.args.w.now ++ l)) c.in-Some.ensures c.extend-in-Some.ensures.ok
