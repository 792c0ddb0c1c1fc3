use Rattle.std.proofs.Common.{◌∙◌, ◌+◌, ◌<◌, ℕ, List, Option, None, get_or, length, drop, ap, sym, arith}
use Rattle.std.proofs.lemmas.List.{drop_all, drop_more}
use Rattle.std.proofs.lemmas.Result.{err_from_is_err_and}
use Rattle.subsetter_cff2.specs.Cff2View.{cff2_of}
use Rattle.subsetter_cff_at.specs.Plain.{number_if, numbers_from}
use Rattle.subsetter_cff_at.specs.View.{with_numbers}
use Rattle.subsetter_cff_at.proofs.Steps.{next_number, number_fails, as_fails, last_number}
use Rattle.subsetter_cff_at.proofs.numbers.find_numbers.Goals as goal

pub loop-glyph-preserved : goal.loop-glyph-preserved
loop-glyph-preserved c =
    let cff = cff2_of c.args.table.now in
    let gs = c.args.glyphs.now in
    let i = c.loop-glyph.glyph in
    let front = c.loop-glyph.numbers.items in
    let lt : i < length gs = omega arith in
    ap (λ (l : List (Option ℕ)). with_numbers l (numbers_from cff (i + 1) (drop (i + 1) gs))) c.in_ok-push.ensures.items
    ∙ next_number cff i (get_or gs i None) (drop (i + 1) gs) front c.in_ok-number.number (numbers_from cff 0 gs)
    (ap (λ (l : List (Option ℕ)). with_numbers front (numbers_from cff i l)) (sym (drop_more gs i None lt)) ∙ c.loop-glyph.invariant) (sym c.in_ok-number.ensures)

pub returns-in_err-number : goal.returns-in_err-number
returns-in_err-number c =
    let cff = cff2_of c.args.table.now in
    let gs = c.args.glyphs.now in
    let i = c.loop-glyph.glyph in
    let front = c.loop-glyph.numbers.items in
    let lt : i < length gs = omega arith in
    let p = err_from_is_err_and c.from_residual-in_err-number.result c.from_residual-in_err-number.ensures.1 in
    rw (p.1, p.2) (number_fails cff i (get_or gs i None) (drop (i + 1) gs) front c.in_err-number.field-0.0 (numbers_from cff 0 gs)
    (ap (λ (l : List (Option ℕ)). with_numbers front (numbers_from cff i l)) (sym (drop_more gs i None lt)) ∙ c.loop-glyph.invariant)
    (as_fails c.in_err-number.field-0.0 (number_if cff i (get_or gs i None)) c.in_err-number.ensures))

pub returns : goal.returns
returns c =
    let cff = cff2_of c.args.table.now in
    let gs = c.args.glyphs.now in
    let i = c.loop-glyph.glyph in
    let front = c.loop-glyph.numbers.items in
    last_number cff i front (numbers_from cff 0 gs) (ap (λ (l : List (Option ℕ)). with_numbers front (numbers_from cff i l)) (sym (drop_all i gs (omega (arith, c.loop-glyph-test.false)))) ∙ c.loop-glyph.invariant)
