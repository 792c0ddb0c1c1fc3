use Rattle.std.proofs.Common.{◌≡◌, ℕ, List, sym, subst}
use Rattle.std.specs.Prelude.{IfSome}
use Rattle.subsetter.specs.Common.Post.Marks.{AreMarks, ArePlaces, step_of, run_bytes}
use Rattle.subsetter.specs.Common.Post.Read.{names_in}
use Rattle.subsetter.proofs.common.post.marks.NameList.entries.Goals as goal

pub run_in-requires-clause-marks : goal.run_in-requires-clause-marks
run_in-requires-clause-marks c =
    let all = c.self.inside.all.now in
    subst (AreMarks (step_of c.self.inside.is_dense) all (names_in all)) (sym c.deref.ensures.value) c.self.invariant.marks

pub run_in-requires-clause-places : goal.run_in-requires-clause-places
run_in-requires-clause-places c = λ d. subst (ArePlaces (names_in c.self.inside.all.now)) (sym c.deref.ensures.value) (c.self.invariant.places d)

pub returns : goal.returns
returns c = subst (λ (names : List (List ℕ)). IfSome c.run_in.result (λ run. run.now ≡ run_bytes names c.args.from c.args.count)) c.self.view_is c.run_in.ensures
