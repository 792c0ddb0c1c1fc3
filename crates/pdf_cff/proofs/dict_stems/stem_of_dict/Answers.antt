use Rattle.std.proofs.Common.{◌≡◌, ◌∙◌, ◌-◌, ◌<◌, suc, ℕ, List, [], length, take, drop, Some, None, ap, sym, arith, inl, inr}
use Rattle.std.proofs.lemmas.Bool.{cases_lt}
use Rattle.subsetter_cffdata.specs.Dicts.Dict.{entries}
use Rattle.subsetter_cff.specs.declared.read.entries.first_entries.Cell.{Cell}
use Rattle.subsetter_cff.specs.Read.Entries.FirstEntries.{AreCells}
use Rattle.subsetter_cff.proofs.ReadLaws.FdArrayLaws.OwnPrivates.{range_ordered}
use Rattle.pdf_cff.specs.DictStems.{joined, stem_saying}
use Rattle.pdf_cff.specs.Stems.{stem_in}
use Rattle.pdf_cff.proofs.DictStemLaws.{placed, unplaced, stems_are}
use Rattle.pdf_cff.proofs.dict_stems.stem_of_dict.Goals as goal

some : (cells : List Cell) → (length cells ≡ 0 → ⊥) → 0 < length cells
some cells h = elim (cases_lt 0 (length cells)) [ inl lt ↦ lt | inr le ↦ absurd (h (omega (arith, le))) ]

pub find_first-requires-clause-order : goal.find_first-requires-clause-order
find_first-requires-clause-order c =
    let d = c.requires.dict in
    range_ordered (entries d.0) c.in-Some.place.start c.in-Some.place.end (rw c.in-Some.is at d.1.entries.private)

pub find_first-requires-clause-inside : goal.find_first-requires-clause-inside
find_first-requires-clause-inside c =
    let d = c.requires.dict in
    let range : Some (c.in-Some.place.start, c.in-Some.place.end) ≡ _ = rw c.in-Some.is at d.1.entries.private in
    let p = placed c.args.bytes.now (entries d.0) c.args.dict.now c.in-Some.place.start c.in-Some.place.end d.1 range (range_ordered (entries d.0) c.in-Some.place.start c.in-Some.place.end range) in
    let all = c.requires.cells (some c.args.cells.now c.if-cells-eq0.false) in
    omega (arith, p.inside, all.len)

pub returns-in-None : goal.returns-in-None
returns-in-None c =
    let d = c.requires.dict in
    ap (stem_in c.args.units) (sym (unplaced c.args.bytes.now (entries d.0) c.args.dict.now d.1 (rw c.in-None.is at d.1.entries.private)))

pub returns-in-Some : goal.returns-in-Some
returns-in-Some c =
    let d = c.requires.dict in
    let range : Some (c.in-Some.place.start, c.in-Some.place.end) ≡ _ = rw c.in-Some.is at d.1.entries.private in
    let p = placed c.args.bytes.now (entries d.0) c.args.dict.now c.in-Some.place.start c.in-Some.place.end d.1 range (range_ordered (entries d.0) c.in-Some.place.start c.in-Some.place.end range) in
    let all = c.requires.cells (some c.args.cells.now c.if-cells-eq0.false) in
    c.joined.ensures
    ∙ ap joined (c.find_first.ensures (stem_saying c.args.units) c.args.bytes.now all)
    ∙ stems_are c.args.units (entries (take (c.in-Some.place.end - c.in-Some.place.start) (drop c.in-Some.place.start c.args.bytes.now)))
    ∙ ap (stem_in c.args.units) (sym p.is)
