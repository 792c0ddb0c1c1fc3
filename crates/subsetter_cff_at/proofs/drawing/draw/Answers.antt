use Rattle.std.proofs.Common.{◌∙◌, ℕ, List, map, ap, sym, refl}
use Rattle.std.proofs.lemmas.Result.{err_from_is_err_and}
use Rattle.subsetter_cff2.specs.Made2.{new_dicts}
use Rattle.subsetter_cff2.specs.Made2View.{dict_view}
use Rattle.subsetter_cff2.specs.Selection.UsedDicts.{index_in}
use Rattle.subsetter_cff_at.specs.Plain.{dict_bound, present, texts_size, drawn}
use Rattle.subsetter_cff_at.specs.View.{opened_of}
use Rattle.subsetter_cff_at.proofs.Calls.{used_is, few_dicts, few_places, places_many, ends_many, drawn_is, drawn_keeps, texts_same, texts_fail}
use Rattle.subsetter_cff_at.proofs.drawing.draw.Goals as goal

pub indexes_of-requires : goal.indexes_of-requires
indexes_of-requires c =
    let cff = (opened_of c.args.opened.now).cff in
    let numbers = c.in_ok-numbers.numbers.items in
    let used = c.in_ok-used.used.items in
    let found = c.in_ok-found.ensures.ok ∙ ap present c.deref.ensures.value in
    let are = used_is cff numbers c.in_ok-found.found.items c.deref-2.result.now c.dict_bound.result used found c.deref-2.ensures.value c.dict_bound.ensures.value c.in_ok-used.ensures in
    few_places (dict_bound cff) (present numbers) used c.deref-3.result.now are c.deref-3.ensures.value

pub draw_texts-requires-clause-places : goal.draw_texts-requires-clause-places
draw_texts-requires-clause-places c =
    let cff = (opened_of c.args.opened.now).cff in
    let placed = c.in_ok-places.ensures.ok ∙ ap (λ (l : List ℕ). map (index_in l) c.deref-4.result.now) c.deref-3.ensures.value ∙ ap (map (index_in c.in_ok-used.used.items)) c.deref-4.ensures.value in
    places_many cff c.args.glyphs.now c.in_ok-numbers.numbers.items c.in_ok-used.used.items c.in_ok-places.places.items c.deref-7.result.now c.in_ok-numbers.ensures placed c.deref-7.ensures.value

pub returns-in_err-texts-clause-err : goal.returns-in_err-texts-clause-err
returns-in_err-texts-clause-err c =
    let p = err_from_is_err_and c.from_residual-in_err-texts.result c.from_residual-in_err-texts.ensures.1 in
    let cff = (opened_of c.args.opened.now).cff in
    let v = (opened_of c.args.opened.now).variation in
    let numbers = c.in_ok-numbers.numbers.items in
    let used = c.in_ok-used.used.items in
    let found = c.in_ok-found.ensures.ok ∙ ap present c.deref.ensures.value in
    let are = used_is cff numbers c.in_ok-found.found.items c.deref-2.result.now c.dict_bound.result used found c.deref-2.ensures.value c.dict_bound.ensures.value c.in_ok-used.ensures in
    let placed = c.in_ok-places.ensures.ok ∙ ap (λ (l : List ℕ). map (index_in l) c.deref-4.result.now) c.deref-3.ensures.value ∙ ap (map (index_in used)) c.deref-4.ensures.value in
    let dicts = ap (new_dicts cff v) (sym c.deref-5.ensures.value) ∙ c.in_ok-dicts.ensures in
    rw (p.1, p.2) (texts_fail c.args.limits.bytes cff v c.args.limits.tokens c.args.limits.depth c.args.glyphs.now numbers used (map dict_view c.in_ok-dicts.dicts.items) c.in_err-texts.field-0.0 c.in_ok-numbers.ensures are dicts
    (rw (← placed, ← c.deref-7.ensures.value, ← c.deref-6.ensures.value) c.in_err-texts.ensures.err))

pub returns-clause-ok : goal.returns-clause-ok
returns-clause-ok c =
    let cff = (opened_of c.args.opened.now).cff in
    let v = (opened_of c.args.opened.now).variation in
    let tokens = c.args.limits.tokens in
    let depth = c.args.limits.depth in
    let glyphs = c.args.glyphs.now in
    let numbers = c.in_ok-numbers.numbers.items in
    let used = c.in_ok-used.used.items in
    let found = c.in_ok-found.ensures.ok ∙ ap present c.deref.ensures.value in
    let are = used_is cff numbers c.in_ok-found.found.items c.deref-2.result.now c.dict_bound.result used found c.deref-2.ensures.value c.dict_bound.ensures.value c.in_ok-used.ensures in
    let placed = c.in_ok-places.ensures.ok ∙ ap (λ (l : List ℕ). map (index_in l) c.deref-4.result.now) c.deref-3.ensures.value ∙ ap (map (index_in used)) c.deref-4.ensures.value in
    let dicts = ap (new_dicts cff v) (sym c.deref-5.ensures.value) ∙ c.in_ok-dicts.ensures in
    let all = c.in_ok-texts.ensures.ok in
    let same = texts_same cff v tokens depth glyphs (map dict_view c.deref-6.result.now) (map dict_view c.in_ok-dicts.dicts.items) c.deref-7.result.now (map (index_in used) numbers) all.texts (ap (map dict_view) c.deref-6.ensures.value) (c.deref-7.ensures.value ∙ placed) all.are in
    record {
      plain = record { dicts = map dict_view c.in_ok-dicts.dicts.items; places = map (index_in used) numbers; texts = all.texts };
      is = drawn_is cff v tokens depth glyphs numbers used (map dict_view c.in_ok-dicts.dicts.items) all.texts c.in_ok-numbers.ensures are dicts same;
      dicts = refl;
      places = placed;
      texts = record { text = all.shown.char_strings; ends = all.shown.ends };
      boxes = all.shown.boxes;
      count = ends_many cff v tokens depth glyphs numbers used (map dict_view c.in_ok-dicts.dicts.items) all.texts c.in_ok-texts.texts.ends.items c.in_ok-numbers.ensures same all.shown.ends;
    }

pub returns-clause-few : goal.returns-clause-few
returns-clause-few c =
    let cff = (opened_of c.args.opened.now).cff in
    let v = (opened_of c.args.opened.now).variation in
    let numbers = c.in_ok-numbers.numbers.items in
    let used = c.in_ok-used.used.items in
    let found = c.in_ok-found.ensures.ok ∙ ap present c.deref.ensures.value in
    let are = used_is cff numbers c.in_ok-found.found.items c.deref-2.result.now c.dict_bound.result used found c.deref-2.ensures.value c.dict_bound.ensures.value c.in_ok-used.ensures in
    let dicts = ap (new_dicts cff v) (sym c.deref-5.ensures.value) ∙ c.in_ok-dicts.ensures in
    few_dicts cff v (dict_bound cff) (present numbers) used c.in_ok-dicts.dicts.items are dicts

pub returns-clause-within : goal.returns-clause-within
returns-clause-within c =
    let cff = (opened_of c.args.opened.now).cff in
    let v = (opened_of c.args.opened.now).variation in
    let tokens = c.args.limits.tokens in
    let depth = c.args.limits.depth in
    let glyphs = c.args.glyphs.now in
    let numbers = c.in_ok-numbers.numbers.items in
    let used = c.in_ok-used.used.items in
    let found = c.in_ok-found.ensures.ok ∙ ap present c.deref.ensures.value in
    let are = used_is cff numbers c.in_ok-found.found.items c.deref-2.result.now c.dict_bound.result used found c.deref-2.ensures.value c.dict_bound.ensures.value c.in_ok-used.ensures in
    let placed = c.in_ok-places.ensures.ok ∙ ap (λ (l : List ℕ). map (index_in l) c.deref-4.result.now) c.deref-3.ensures.value ∙ ap (map (index_in used)) c.deref-4.ensures.value in
    let dicts = ap (new_dicts cff v) (sym c.deref-5.ensures.value) ∙ c.in_ok-dicts.ensures in
    let all = c.in_ok-texts.ensures.ok in
    let same = texts_same cff v tokens depth glyphs (map dict_view c.deref-6.result.now) (map dict_view c.in_ok-dicts.dicts.items) c.deref-7.result.now (map (index_in used) numbers) all.texts (ap (map dict_view) c.deref-6.ensures.value) (c.deref-7.ensures.value ∙ placed) all.are in
    drawn_keeps c.args.limits.bytes (drawn cff v tokens depth glyphs) (record { dicts = map dict_view c.in_ok-dicts.dicts.items; places = map (index_in used) numbers; texts = all.texts })
    (drawn_is cff v tokens depth glyphs numbers used (map dict_view c.in_ok-dicts.dicts.items) all.texts c.in_ok-numbers.ensures are dicts same)
    (c.count_is_whole.ensures (texts_size all.texts) all.shown.requested c.in_ok-texts.ensures.within)
