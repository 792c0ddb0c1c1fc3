use Rattle.std.proofs.Common.{ℕ, Global, Vec, Err, sym, ap, subst, ◌∙◌}
use Rattle.std.proofs.lemmas.Result.{err_from_is_err_and}
use Rattle.subsetter_sfnt.specs.Extras.{all_extras}
use Rattle.subsetter_sfnt.specs.FontAt.{font_at}
use Rattle.subsetter_instance.specs.Promise.{IsInstancePromised}
use Rattle.subsetter_instance.proofs.Opened.{closed_promise, made_promise}
use Rattle.subsetter_instance.proofs.instancing.instance.Goals as goal

pub returns-in_err-face : goal.returns-in_err-face
returns-in_err-face c =
    let p = err_from_is_err_and c.from_residual.result c.from_residual.ensures.1 in
    let font = font_at c.args.«data».now c.args.index all_extras in
    record {
      promise =
          subst (λ r. IsInstancePromised (λ v. v.items) c.args.steps font c.args.coordinates.now c.args.mapper.now r) (sym (p.1 ∙ ap Err p.2))
          (closed_promise {V = Vec ℕ Global} (λ v. v.items) font c.args.coordinates.now c.args.mapper.now c.args.steps c.in_err-face.field-0.0 c.in_err-face.ensures.err);
    }

pub returns : goal.returns
returns c =
    let font = font_at c.args.«data».now c.args.index all_extras in
    let o = c.in_ok-face.ensures in
    record {
      promise =
          made_promise (λ v. v.items) c.make.result font c.in_ok-face.face.records.now c.in_ok-face.face.«data».now c.args.coordinates.now c.args.mapper.now c.args.steps o.bytes o.same o.opened o.flavor c.make.ensures;
    }
