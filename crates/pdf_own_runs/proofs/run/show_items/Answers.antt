use Rattle.std.proofs.Common.{◌∙◌, refl}
use Rattle.pdf_operators.specs.declared.places.Font.{Font}
use Rattle.pdf_own_runs.specs.Fonts.{IsWithOwn}
use Rattle.pdf_own_runs.proofs.WithOwn.{items_refused, items_shown, with_own}
use Rattle.pdf_own_runs.proofs.run.show_items.Goals as goal

pub returns-clause-shown : goal.returns-clause-shown
returns-clause-shown c =
    let all : Font = record { units = c.args.font.units; metrics = c.deref.result; inked = c.deref-2.result } in
    let w : IsWithOwn c.args.font c.args.inked.now c.args.own.now all =
    with_own c.args.font all c.args.inked.now c.args.own.now c.args.count c.requires.count refl (c.deref.ensures.value ∙ c.in_ok-metrics.ensures.ok) (c.deref-2.ensures.value ∙ c.in_ok-inked.ensures.ok) in
    items_shown _ c.show_run.result c.args.font all c.args.inked.now c.args.own.now c.args.direction c.args.order c.args.size c.args.pairs.now c.show_run.new.pairs c.args.items.now w
    c.show_run.ensures.text c.show_run.ensures.shown c.show_run.ensures.valid c.show_run.ensures.pairs c.show_run.ensures.coded

pub returns-clause-err : goal.returns-clause-err
returns-clause-err c =
    let all : Font = record { units = c.args.font.units; metrics = c.deref.result; inked = c.deref-2.result } in
    let w : IsWithOwn c.args.font c.args.inked.now c.args.own.now all =
    with_own c.args.font all c.args.inked.now c.args.own.now c.args.count c.requires.count refl (c.deref.ensures.value ∙ c.in_ok-metrics.ensures.ok) (c.deref-2.ensures.value ∙ c.in_ok-inked.ensures.ok) in
    items_refused c.show_run.result c.args.font all c.args.inked.now c.args.own.now c.args.direction c.args.order c.args.pairs.now c.show_run.new.pairs c.args.items.now w c.show_run.ensures.err
