-- What a range in memory shows.
use Rattle.subsetter_cff2.specs.Selection.Select.{Range}
use Rattle.subsetter_cff2.specs.declared.selection.select.Range.{Range as StoredRange}

abbrev pub range_view : StoredRange → Range
range_view r = record { first = r.first; dict = r.dict; next = r.next }
