use Rattle.std.proofs.Common.{◌≡◌, ◌∙◌, ◌++◌, ◌∷◌, ◌+◌, [], ap, sym, List, ℕ, drop, map, get_or}
use Rattle.std.proofs.lemmas.List.{drop_all, drop_more}
use Rattle.std.proofs.lemmas.Result.{err_from_is_err_and}
use Rattle.subsetter_cff.specs.Write.Laying.Layout.{FontDict}
use Rattle.subsetter_cff.specs.Write.Laying.PartsBy.{with_dicts}
use Rattle.subsetter_cff.specs.Write.Laying.PartsView.{font_dict_view}
use Rattle.subsetter_cff.specs.Write.Plain.{new_font_dicts}
use Rattle.subsetter_cff.specs.Read.Source.{cff_of}
use Rattle.subsetter_cff.proofs.WriteLaws.LayingLaws.PartsMade.{last_dict, map_after, next_dict, next_fails}
use Rattle.subsetter_cff.proofs.write.laying.parts.new_font_dicts.Goals as goal

pub loop-number-preserved : goal.loop-number-preserved
loop-number-preserved c =
    let cff = cff_of c.args.source.now in
    let numbers = c.args.numbers.now in
    let i = c.loop-number.number-index in
    let left = drop (i + 1) numbers in
    let front = map font_dict_view c.loop-number.made.items in
    let one = font_dict_view c.in_ok-font_dict.font_dict in
    let left_is : drop i numbers ≡ get_or numbers i 0 ∷ left = drop_more numbers i 0 c.loop-number-test.true in
    let items : map font_dict_view c.push.new.self.items ≡ front ++ one ∷ [] =
    ap (map font_dict_view) c.in_ok-push.ensures.items ∙ map_after font_dict_view c.loop-number.made.items c.in_ok-font_dict.font_dict in
    ap (λ (l : List FontDict). with_dicts l (new_font_dicts cff left)) items
    ∙ next_dict cff (get_or numbers i 0) left front one (new_font_dicts cff numbers)
    (sym (ap (λ (l : List ℕ). with_dicts front (new_font_dicts cff l)) left_is) ∙ c.loop-number.invariant) c.in_ok-font_dict.ensures

pub returns : goal.returns
returns c =
    let cff = cff_of c.args.source.now in
    let numbers = c.args.numbers.now in
    let front = map font_dict_view c.loop-number.made.items in
    last_dict cff front (new_font_dicts cff numbers)
    (sym (ap (λ (l : List ℕ). with_dicts front (new_font_dicts cff l)) (drop_all c.loop-number.number-index numbers c.loop-number-test.false)) ∙ c.loop-number.invariant)

pub returns-in_err-font_dict : goal.returns-in_err-font_dict
returns-in_err-font_dict c =
    let p = err_from_is_err_and c.from_residual-in_err-font_dict.result c.from_residual-in_err-font_dict.ensures.1 in
    let cff = cff_of c.args.source.now in
    let numbers = c.args.numbers.now in
    let i = c.loop-number.number-index in
    let left = drop (i + 1) numbers in
    let front = map font_dict_view c.loop-number.made.items in
    let left_is : drop i numbers ≡ get_or numbers i 0 ∷ left = drop_more numbers i 0 c.loop-number-test.true in
    rw (p.1, p.2) (next_fails cff (get_or numbers i 0) left front c.in_err-font_dict.field-0.0 (new_font_dicts cff numbers)
    (sym (ap (λ (l : List ℕ). with_dicts front (new_font_dicts cff l)) left_is) ∙ c.loop-number.invariant) c.in_err-font_dict.ensures)
