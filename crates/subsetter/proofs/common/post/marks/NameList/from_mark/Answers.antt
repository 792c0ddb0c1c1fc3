use Rattle.std.proofs.Common.{ℕ, List, drop, length, refl, ap, sym, ◌∙◌}
use Rattle.std.proofs.lemmas.Bool.{ltb-true}
use Rattle.std.proofs.lemmas.Option.{slice_get_read}
use Rattle.std.specs.Prelude.{slice_get}
use Rattle.subsetter.specs.Common.Post.Read.{names_in}
use Rattle.subsetter.proofs.CommonLaws.PostLaws.Marks.{from_mark, mark_is}
use Rattle.subsetter.specs.Common.Post.Marks.{step_of}
use Rattle.subsetter.proofs.common.post.marks.NameList.from_mark.Goals as goal

pub from_offset-requires : goal.from_offset-requires
from_offset-requires c =
    let here = slice_get_read c.deref.result.now (length c.deref.result.now) c.mark_of-place.result.0 c.in-Some.mark.now refl (ltb-true _ _ (sym c.in-Some.ensures.lookup.0)) c.in-Some.ensures.lookup.1 in
    let all = c.self.inside.all.now in
    (mark_is (step_of c.self.inside.is_dense) all (names_in all) c.self.inside.marks.items c.mark_of-place.result.0 c.in-Some.mark.now c.self.invariant.marks (ap (λ l. slice_get l c.mark_of-place.result.0) (sym c.deref.ensures.value) ∙ here)).1

pub returns-in-Some : goal.returns-in-Some
returns-in-Some c =
    let here = slice_get_read c.deref.result.now (length c.deref.result.now) c.mark_of-place.result.0 c.in-Some.mark.now refl (ltb-true _ _ (sym c.in-Some.ensures.lookup.0)) c.in-Some.ensures.lookup.1 in
    let all = c.self.inside.all.now in
    ap (λ (l : List ℕ). drop (c.mark_of-place.result.1) (names_in l)) c.from_offset.ensures ∙ from_mark (step_of c.self.inside.is_dense) all c.self.inside.marks.items c.args.number c.mark_of-place.result.0 c.mark_of-place.result.1 c.in-Some.mark.now c.mark_of-place.ensures c.self.invariant.marks (ap (λ l. slice_get l c.mark_of-place.result.0) (sym c.deref.ensures.value) ∙ here) ∙ ap (drop c.args.number) c.self.view_is
