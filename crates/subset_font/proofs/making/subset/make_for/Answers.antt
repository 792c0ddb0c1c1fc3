use Rattle.std.proofs.Common.{ℕ, List, sym, subst}
use Rattle.subsetter_sfnt.specs.FontAt.{font_at}
use Rattle.subset_font.specs.Making.Made.{font_of, IsTaken}
use Rattle.subset_font.proofs.MakingLaws.Making.{made_of_taken, refused_of_taken}
use Rattle.subset_font.proofs.making.subset.make_for.Goals as goal

pub returns-in-Ok-None-clause-ok : goal.returns-in-Ok-None-clause-ok
returns-in-Ok-None-clause-ok c =
    let task = c.args.task.now in
    let bytes = c.args.font.now in
    let taken = subst (λ (l : List ℕ). IsTaken task bytes l (font_of task bytes)) c.deref.ensures.value (rw c.in-Ok-None.field-0-is at c.in-Ok-None.ensures.ok) in
    made_of_taken task bytes c.args.picked c.requires (font_of task bytes) taken c.make_face.result c.make_face.ensures.kept c.make_face.ensures.ok

pub returns-in-Ok-None-clause-err : goal.returns-in-Ok-None-clause-err
returns-in-Ok-None-clause-err c =
    let task = c.args.task.now in
    let bytes = c.args.font.now in
    let taken = subst (λ (l : List ℕ). IsTaken task bytes l (font_of task bytes)) c.deref.ensures.value (rw c.in-Ok-None.field-0-is at c.in-Ok-None.ensures.ok) in
    refused_of_taken task bytes c.args.picked c.requires (font_of task bytes) taken c.make_face.result c.make_face.ensures.err

pub returns-in-Ok-Some-clause-ok : goal.returns-in-Ok-Some-clause-ok
returns-in-Ok-Some-clause-ok c =
    let task = c.args.task.now in
    let bytes = c.args.font.now in
    let file = c.deref-in-Ok-Some.result.now in
    let made = rw c.in-Ok-Some.field-0-is at c.in-Ok-Some.ensures.ok in
    let same = subst (λ (b : List ℕ). IsTaken task bytes c.deref.result.now (font_at b 0 task.options.extras)) (sym c.deref-in-Ok-Some.ensures.value) made in
    let taken = subst (λ (l : List ℕ). IsTaken task bytes l (font_at file 0 task.options.extras)) c.deref.ensures.value same in
    made_of_taken task bytes c.args.picked c.requires (font_at file 0 task.options.extras) taken c.make_face-in-Ok-Some.result c.make_face-in-Ok-Some.ensures.kept c.make_face-in-Ok-Some.ensures.ok

pub returns-in-Ok-Some-clause-err : goal.returns-in-Ok-Some-clause-err
returns-in-Ok-Some-clause-err c =
    let task = c.args.task.now in
    let bytes = c.args.font.now in
    let file = c.deref-in-Ok-Some.result.now in
    let made = rw c.in-Ok-Some.field-0-is at c.in-Ok-Some.ensures.ok in
    let same = subst (λ (b : List ℕ). IsTaken task bytes c.deref.result.now (font_at b 0 task.options.extras)) (sym c.deref-in-Ok-Some.ensures.value) made in
    let taken = subst (λ (l : List ℕ). IsTaken task bytes l (font_at file 0 task.options.extras)) c.deref.ensures.value same in
    refused_of_taken task bytes c.args.picked c.requires (font_at file 0 task.options.extras) taken c.make_face-in-Ok-Some.result c.make_face-in-Ok-Some.ensures.err
