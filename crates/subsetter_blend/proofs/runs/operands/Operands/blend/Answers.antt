use Rattle.std.proofs.Common.{◌≡◌, ◌+◌, ◌-◌, ◌*◌, ◌∙◌, ℤ, List, length, Some, ap, sym, refl, arith, length-take}
use Rattle.std.proofs.lemmas.Result.{err_from_is_err_and}
use Rattle.subsetter_blend.specs.Runs.Blend.{scalars_in}
use Rattle.subsetter_blend.proofs.RunsLaws.Stacks.{blended_is, stacked_view, stacked_held, stacked_fault}
use Rattle.subsetter_blend.proofs.runs.operands.Operands.blend.Goals as goal

pub returns-in_err-vary_front-clause-err : goal.returns-in_err-vary_front-clause-err
returns-in_err-vary_front-clause-err g c =
    let ss = scalars_in (g.R.Regions.scalars c.args.regions.now c.args.data_index) in
    let p = err_from_is_err_and c.from_residual.result c.from_residual.ensures.1 in
    let len = c.self.inside.len in
    let base = len - c.args.n * (c.args.count + 1) in
    let long : length c.args.self.now ≡ len = sym (ap length c.self.view_is) ∙ omega (arith, length-take {A = ℤ}, c.self.told, c.self.invariant.few) in
    rw (p.1, p.2, c.in_err-vary_front.ensures.err.0, blended_is ss c.args.self.now c.args.n c.args.count len c.requires.regions long c.if-n-count.false)
    (refl, stacked_fault ss c.self.inside.items c.args.self.now c.vary_front.new.all len c.args.n base c.self.view_is (omega arith) (omega (arith, c.self.told, c.self.invariant.few)) c.self.invariant c.in_err-vary_front.ensures.err.1)

pub invariant_of-self-2 : goal.invariant_of-self-2
invariant_of-self-2 g c =
    let ss = scalars_in (g.R.Regions.scalars c.args.regions.now c.args.data_index) in
    let len = c.self.inside.len in
    stacked_held ss c.self.inside.items c.args.self.now c.vary_front.new.all len c.args.n (len - c.args.n * (c.args.count + 1)) c.self.view_is (omega arith) (omega (arith, c.self.told, c.self.invariant.few)) c.in_ok-vary_front.ensures.ok c.in_ok-vary_front.ensures.within c.self.invariant

pub returns-clause-ok : goal.returns-clause-ok
returns-clause-ok g c =
    let ss = scalars_in (g.R.Regions.scalars c.args.regions.now c.args.data_index) in
    let len = c.self.inside.len in
    let long : length c.args.self.now ≡ len = sym (ap length c.self.view_is) ∙ omega (arith, length-take {A = ℤ}, c.self.told, c.self.invariant.few) in
    blended_is ss c.args.self.now c.args.n c.args.count len c.requires.regions long c.if-n-count.false
    ∙ ap (λ (l : List ℤ). Some l) (sym (stacked_view ss c.self.inside.items c.args.self.now c.vary_front.new.all len c.args.n (len - c.args.n * (c.args.count + 1)) c.self.view_is (omega arith) (omega (arith, c.self.told, c.self.invariant.few)) c.in_ok-vary_front.ensures.ok))

pub returns-clause-within : goal.returns-clause-within
returns-clause-within g c = (invariant_of-self-2 g c).within
