use Rattle.std.proofs.Common.{inl}
use Rattle.subset_font.proofs.RefusalsLaws.Failing.{not_output, all_ok, made_by_known, unmade_by_known, kept_before, why_written}
use Rattle.subset_font.proofs.making.carried.carry_out.Goals as goal

pub returns-in-Ok-clause-ok : goal.returns-in-Ok-clause-ok
returns-in-Ok-clause-ok g c =
    let made = made_by_known c.args.plan.now (g.R.Read.remaining c.args.reader.now) c.in_ok-font.font.items c.deref.result.now c.in-Ok.outcome c.in_ok-font.ensures.bytes c.deref.ensures.value c.in-Ok.ensures.ok in
    all_ok c.emit.result _ _ _ _ (λ p w t. record { outcome = c.in-Ok.outcome; is_made = made; is_shown = p; is_written = w; is_reported = t }) c.emit.ensures.page c.emit.ensures.font c.emit.ensures.lines

pub returns-in-Ok-clause-written : goal.returns-in-Ok-clause-written
returns-in-Ok-clause-written g c =
    let made = made_by_known c.args.plan.now (g.R.Read.remaining c.args.reader.now) c.in_ok-font.font.items c.deref.result.now c.in-Ok.outcome c.in_ok-font.ensures.bytes c.deref.ensures.value c.in-Ok.ensures.ok in
    λ h. record { outcome = c.in-Ok.outcome; is_made = made; is_written = c.emit.ensures.written h }

pub returns-in-Err-clause-written : goal.returns-in-Err-clause-written
returns-in-Err-clause-written g c =
    let unmade = unmade_by_known c.args.plan.now (g.R.Read.remaining c.args.reader.now) c.in_ok-font.font.items c.deref.result.now c.in-Err.failure c.in_ok-font.ensures.bytes c.deref.ensures.value c.in-Err.ensures.err in
    λ h. absurd (not_output c.args.plan.now (g.R.Read.remaining c.args.reader.now) c.in-Err.failure unmade h)

pub returns-in-Err-clause-err : goal.returns-in-Err-clause-err
returns-in-Err-clause-err g c = inl (unmade_by_known c.args.plan.now (g.R.Read.remaining c.args.reader.now) c.in_ok-font.font.items c.deref.result.now c.in-Err.failure c.in_ok-font.ensures.bytes c.deref.ensures.value c.in-Err.ensures.err)

pub returns-in-Ok-clause-page_kept : goal.returns-in-Ok-clause-page_kept
returns-in-Ok-clause-page_kept g c = kept_before c.emit.result _ c.emit.ensures.err

pub returns-in-Ok-clause-output_kept : goal.returns-in-Ok-clause-output_kept
returns-in-Ok-clause-output_kept g c = kept_before c.emit.result _ c.emit.ensures.err

pub returns-in-Ok-clause-lines_kept : goal.returns-in-Ok-clause-lines_kept
returns-in-Ok-clause-lines_kept g c = kept_before c.emit.result _ c.emit.ensures.err

pub returns-in-Ok-clause-err : goal.returns-in-Ok-clause-err
returns-in-Ok-clause-err g c = why_written c.args.plan.now (g.R.Read.remaining c.args.reader.now) c.emit.result c.emit.ensures.err
