use Rattle.std.proofs.Common.{◌≡◌, ℕ, List, [], ◌∷◌, ◌++◌, OnOk, sym, subst}
use Rattle.subsetter.proofs.GlyfLaws.Woven.{asked_empty}
use Rattle.subsetter.proofs.glyf.outlines.OutlineList.push_simple.Goals as goal

pub returns-in-empty-clause-ok : goal.returns-in-empty-clause-ok
returns-in-empty-clause-ok c = subst (λ (l : List ℕ). OnOk c.push_empty.result (c.push_empty.new.self.items ≡ c.args.self.now.items ++ l ∷ [])) (sym (asked_empty c.args.self.now.hinting c.args.outline.now c.in-empty.len_below)) c.push_empty.ensures.ok
