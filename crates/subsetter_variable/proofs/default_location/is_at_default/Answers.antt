use Rattle.std.proofs.Common.{ℕ, List, Option, Ok, sym, ap, subst, ◌∙◌}
use Rattle.std.proofs.lemmas.Result.{err_from_is_err_and}
use Rattle.subsetter_base.specs.Gives.{Fails}
use Rattle.subsetter_sfnt.specs.Extras.{all_extras}
use Rattle.subsetter_sfnt.specs.FontAt.{font_at}
use Rattle.subsetter_instance.specs.Source.{normalized_coordinates}
use Rattle.subsetter_variable.proofs.Stands.{without_outlines, unopened, by_place, no_place_by, find_is, none_found, one_found, still_there}
use Rattle.subsetter_variable.proofs.default_location.is_at_default.Goals as goal

pub returns-in_default-clause-ok : goal.returns-in_default-clause-ok
returns-in_default-clause-ok c = unopened (font_at c.args.«data».now c.args.index all_extras) c.args.coordinates.now c.in_default.field-0 c.in_default.ensures.err

pub returns-then-is_none-clause-ok : goal.returns-then-is_none-clause-ok
returns-then-is_none-clause-ok c =
    let font = font_at c.args.«data».now c.args.index all_extras in
    without_outlines font c.args.coordinates.now (none_found font c.in-Ok.face.records.now c.in-Ok.face.«data».now c.in-Ok.ensures.ok.1 c.in-Ok.ensures.ok.0 c.stored.result c.stored.ensures c.if-is_none.ensures)

pub returns-in_err-at-clause-err : goal.returns-in_err-at-clause-err
returns-in_err-at-clause-err c =
    let p = err_from_is_err_and c.from_residual.result c.from_residual.ensures.1 in
    let font = font_at c.args.«data».now c.args.index all_extras in
    let there = one_found font c.in-Ok.face.records.now c.in-Ok.face.«data».now c.in-Ok.ensures.ok.1 c.in-Ok.ensures.ok.0 c.stored.result c.stored.ensures c.if-is_none.ensures in
    let fails = subst (λ (find : List ℕ → Option (List ℕ)). Fails c.in_err-at.field-0.0 (normalized_coordinates find c.args.coordinates.now)) (find_is font c.in-Ok.face.records.now c.in-Ok.face.«data».now c.in-Ok.ensures.ok.1 c.in-Ok.ensures.ok.0) c.in_err-at.ensures in
    rw (p.1, p.2) (no_place_by font c.args.coordinates.now there c.in_err-at.field-0.0 fails)

pub returns-in_err-at-clause-without_memory : goal.returns-in_err-at-clause-without_memory
returns-in_err-at-clause-without_memory c =
    let font = font_at c.args.«data».now c.args.index all_extras in
    still_there font (one_found font c.in-Ok.face.records.now c.in-Ok.face.«data».now c.in-Ok.ensures.ok.1 c.in-Ok.ensures.ok.0 c.stored.result c.stored.ensures c.if-is_none.ensures) c.from_residual.result

pub returns-clause-ok : goal.returns-clause-ok
returns-clause-ok c =
    let font = font_at c.args.«data».now c.args.index all_extras in
    let there = one_found font c.in-Ok.face.records.now c.in-Ok.face.«data».now c.in-Ok.ensures.ok.1 c.in-Ok.ensures.ok.0 c.stored.result c.stored.ensures c.if-is_none.ensures in
    let placed = ap (λ (find : List ℕ → Option (List ℕ)). normalized_coordinates find c.args.coordinates.now) (sym (find_is font c.in-Ok.face.records.now c.in-Ok.face.«data».now c.in-Ok.ensures.ok.1 c.in-Ok.ensures.ok.0)) ∙ c.in_ok-at.ensures in
    by_place font c.args.coordinates.now there c.in_ok-at.at.items c.are_zero.result placed (rw c.deref.ensures.value at c.are_zero.ensures)

pub returns-clause-without_memory : goal.returns-clause-without_memory
returns-clause-without_memory c =
    let font = font_at c.args.«data».now c.args.index all_extras in
    still_there font (one_found font c.in-Ok.face.records.now c.in-Ok.face.«data».now c.in-Ok.ensures.ok.1 c.in-Ok.ensures.ok.0 c.stored.result c.stored.ensures c.if-is_none.ensures) (Ok c.are_zero.result)
