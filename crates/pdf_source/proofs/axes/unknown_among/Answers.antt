use Rattle.std.proofs.Common.{◌+◌, List, ◌++◌, Vec, Global, drop, take, sym, ap, ◌∙◌}
use Rattle.subsetter_base.specs.declared.tag.Tag.{Tag}
use Rattle.pdf_source.specs.UnknownAxes.{unknown_after}
use Rattle.pdf_source.proofs.AxisSteps.{listed_next, passed_next, unknown_done}
use Rattle.pdf_source.proofs.axes.unknown_among.Goals.{then-is_listed+in_ok-push, else-is_listed}
use Rattle.pdf_source.proofs.axes.unknown_among.Goals as goal

pub loop-place-preserved : goal.loop-place-preserved
loop-place-preserved c =
    let k = c.loop-place.place in
    let settings = c.args.settings.now in
    let following : List Tag = unknown_after c.args.axes.now (take (k + 1) settings) (drop (k + 1) settings) in
    elim c.if-is_listed.branch [
      | then-is_listed+in_ok-push w ↦
          (ap (λ (v : Vec Tag Global). v.items ++ following) w.unknown-is ∙ ap (λ (l : List Tag). l ++ following) w.in_ok-push.ensures.items
          ∙ listed_next c.args.axes.now settings k _ c.loop-place-test.true c.loop-place.unknown.items _ c.loop-place.invariant (sym c.is_listed.ensures ∙ w.if-is_listed.true))
      | else-is_listed w ↦
          (ap (λ (v : Vec Tag Global). v.items ++ following) w.unknown-is
          ∙ passed_next c.args.axes.now settings k _ c.loop-place-test.true c.loop-place.unknown.items _ c.loop-place.invariant (sym c.is_listed.ensures ∙ w.if-is_listed.false))
    ]

pub returns-clause-ok : goal.returns-clause-ok
returns-clause-ok c = unknown_done c.args.axes.now c.args.settings.now c.loop-place.place c.loop-place.unknown.items _ c.loop-place-test.false c.loop-place.invariant
