use Rattle.std.proofs.Common.{true, sym, ◌∙◌}
use Rattle.std.proofs.lemmas.Result.{err_from_is_err_and}
use Rattle.subsetter_base.proofs.Results.{done_is, ok_not_err}
use Rattle.subsetter_sfnt.specs.Extras.{all_extras}
use Rattle.subsetter_sfnt.specs.FontAt.{font_at}
use Rattle.subsetter_variable.specs.DefaultLocation.{IsAtDefault}
use Rattle.subsetter_variable.proofs.Static.{unplaced, not_made, not_so}
use Rattle.subsetter_variable.proofs.default_location.moved_instance.Goals as goal

pub returns-in_err-at_default-clause-err : goal.returns-in_err-at_default-clause-err
returns-in_err-at_default-clause-err c =
    let p = err_from_is_err_and c.from_residual.result c.from_residual.ensures.1 in
    rw (p.1, p.2) (unplaced (font_at c.args.«data».now c.args.index all_extras) c.args.coordinates.now c.args.mapper.now c.args.steps c.in_err-at_default.field-0.0 c.in_err-at_default.ensures.err)

pub returns-in_err-at_default-clause-without_memory : goal.returns-in_err-at_default-clause-without_memory
returns-in_err-at_default-clause-without_memory c = λ none. absurd (ok_not_err c.is_at_default.result true c.in_err-at_default.field-0.0 (c.is_at_default.ensures.without_memory none) c.in_err-at_default.was)

pub returns-then-at_default-clause-ok : goal.returns-then-at_default-clause-ok
returns-then-at_default-clause-ok c = c.in_ok-at_default.ensures.ok.0 c.if-at_default.true

pub returns-in_err-file-clause-err : goal.returns-in_err-file-clause-err
returns-in_err-file-clause-err c =
    let p = err_from_is_err_and c.from_residual-in_err-file.result c.from_residual-in_err-file.ensures.1 in
    let font = font_at c.args.«data».now c.args.index all_extras in
    let not = not_so c.in_ok-at_default.at_default (IsAtDefault font c.args.coordinates.now) c.in_ok-at_default.ensures.ok c.if-at_default.false in
    rw (p.1, p.2) (not_made font c.args.coordinates.now c.args.mapper.now c.args.steps c.in_err-file.field-0.0 not c.in_err-file.ensures.promise.err)

pub returns-in_err-file-clause-without_memory : goal.returns-in_err-file-clause-without_memory
returns-in_err-file-clause-without_memory c = λ none.
    let is_true = done_is c.in_ok-at_default.at_default true (sym c.in_ok-at_default.was ∙ c.is_at_default.ensures.without_memory none) in
    let is_false = c.if-at_default.false in
    absurd cc

pub returns-clause-ok : goal.returns-clause-ok
returns-clause-ok c =
    let font = font_at c.args.«data».now c.args.index all_extras in
    (not_so c.in_ok-at_default.at_default (IsAtDefault font c.args.coordinates.now) c.in_ok-at_default.ensures.ok c.if-at_default.false, c.in_ok-file.ensures.promise.exact.instance)

pub returns-clause-clean : goal.returns-clause-clean
returns-clause-clean c = c.in_ok-file.ensures.promise.exact.clean

pub returns-clause-without_memory : goal.returns-clause-without_memory
returns-clause-without_memory c = λ none.
    let is_true = done_is c.in_ok-at_default.at_default true (sym c.in_ok-at_default.was ∙ c.is_at_default.ensures.without_memory none) in
    let is_false = c.if-at_default.false in
    absurd cc
