use Rattle.std.proofs.Common.{rules, ◌≡◌, ◌≤◌, ◌++◌, ◌∙◌, List, ℕ, ℤ, to_z, of_z, w32, arith, ap, sym, take, length, length-take}
use Rattle.subsetter_cffdata.specs.Reals.Decimals.{signs, unsigned_text}
use Rattle.subsetter_cffdata.specs.Reals.TextSteps.{fitting}
use Rattle.subsetter_cffdata.proofs.RealsLaws.RealTexts.{text_is, characters_of}
use Rattle.subsetter_cffdata.proofs.reals.real_number.RealNumber.text.Goals as goal

pub returns-clause-value : goal.returns-clause-value
returns-clause-value c =
    let r = c.args.self.now in
    let ds = take r.len r.digits in
    let short : length ds ≤ 64 = omega (arith, length-take r.len r.digits, r.within) in
    let same : to_z w32 (of_z w32 r.power) ≡ r.power = search rules in
    c.text_of_digits.ensures
    ∙ ap (λ (p : ℤ). fitting (signs r.negative ++ unsigned_text c.digits.result.now p)) same
    ∙ ap fitting (ap (λ (x : List ℕ). signs r.negative ++ unsigned_text x r.power) c.digits.ensures.value ∙ sym (text_is r.negative ds r.power r.plain short))

pub returns-clause-characters : goal.returns-clause-characters
returns-clause-characters c =
    let r = c.args.self.now in
    let ds = take r.len r.digits in
    let short : length ds ≤ 64 = omega (arith, length-take r.len r.digits, r.within) in
    characters_of r.negative ds r.power r.plain short
