use Rattle.std.proofs.Common.{◌≡◌, ◌∙◌, ap, sym, FitsSigned, w16}
use Rattle.std.proofs.lemmas.Int.{to_z-of_z}
use Rattle.std.proofs.lemmas.Result.{err_from_is_err_and}
use Rattle.subsetter_blend.specs.Runs.Machine.{run_all}
use Rattle.subsetter_blend.specs.Runs.MachineView.{setting_of}
use Rattle.subsetter_blend.specs.Resolved.{resolved}
use Rattle.subsetter_blend.specs.Writing.Written.{Fitted, fitted, fitted_start}
use Rattle.subsetter_blend.proofs.WritingLaws.FittingLaws.Resolved.{run_fails, run_gives}
use Rattle.subsetter_blend.proofs.resolving.resolve_in.Goals as goal

pub returns-in_err-run_in : goal.returns-in_err-run_in
unfolding resolved
returns-in_err-run_in g c =
    let p = err_from_is_err_and c.from_residual-in_err-run_in.result c.from_residual-in_err-run_in.ensures.1 in
    let f : FitsSigned w16 c.args.advance = c.ranges.advance in
    let start : c.in_ok-fitting.fitting ≡ fitted_start c.args.advance = c.in_ok-fitting.ensures.ok ∙ ap fitted_start (to_z-of_z w16 c.args.advance f) in
    let setting = setting_of c.args.subroutines.now (g.R.Regions.scalars c.args.regions.now) in
    rw (p.1, p.2)
    (run_fails _ _ (λ ne. ap (λ (x : Fitted). run_all fitted setting c.args.limits.now.tokens c.args.limits.now.depth c.args.data_index c.args.charstring.now x) (sym start) ∙ c.in_err-run_in.ensures ne))

pub returns : goal.returns
unfolding resolved
returns g c =
    let f : FitsSigned w16 c.args.advance = c.ranges.advance in
    let start : c.in_ok-fitting.fitting ≡ fitted_start c.args.advance = c.in_ok-fitting.ensures.ok ∙ ap fitted_start (to_z-of_z w16 c.args.advance f) in
    let setting = setting_of c.args.subroutines.now (g.R.Regions.scalars c.args.regions.now) in
    run_gives (λ bytes. bytes.items) _ c.run_in.new.sink c.finish.result
    (ap (λ (x : Fitted). run_all fitted setting c.args.limits.now.tokens c.args.limits.now.depth c.args.data_index c.args.charstring.now x) (sym start) ∙ c.in_ok-run_in.ensures)
    c.finish.ensures.ok c.finish.ensures.err
