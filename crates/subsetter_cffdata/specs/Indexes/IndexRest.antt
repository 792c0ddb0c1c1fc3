-- What an iterator over an INDEX has left.
use Rattle.std.specs.Prelude.{ℕ, List, drop}
use Rattle.subsetter_cffdata.specs.declared.indexes.index_iter.IndexIter.{IndexIter}
use Rattle.subsetter_cffdata.specs.Indexes.Index.{readable}
use Rattle.subsetter_cffdata.specs.Indexes.IndexView.{items}

-- the entries from its place on, before the first that can't be read
abbrev pub left : IndexIter → List (List ℕ)
left s = readable (drop s.offset (items s.index))
