use Rattle.std.proofs.Common.{◌∙◌, ap, ℕ, Option}
use Rattle.subsetter_cff2.specs.Selection.Select.{selected}
use Rattle.subsetter_cff2.proofs.SelectionLaws.RangeSteps.{cut_list}
use Rattle.subsetter_cff2.proofs.selection.search.find_ranges.Goals as goal

pub returns : goal.returns
returns c =
    let bytes = c.args.bytes.now in
    let l = c.in_ok-list.list in
    let n = c.count_there-count in
    record {
      list = record {
        by_ranges = λ glyph.
            ap (λ (o : Option ℕ). selected bytes o glyph) c.in_ok-select.was
            ∙ c.in_ok-list.ensures.by_ranges glyph
            ∙ cut_list bytes l.is_wide l.at glyph l.count n.result n.ensures.bound n.ensures.there n.ensures.cut;
        small = c.in_ok-list.ensures.small;
      };
      there = n.ensures.there;
    }
