use Rattle.std.proofs.Common.{◌≡◌, ◌++◌, map, drop}
use Rattle.subsetter_c.specs.Documents.Whole.{tag_number}
use Rattle.subsetter_c.proofs.documents.whole.tag_numbers.Given as goal

abbrev pub invariant-loop-tag : goal.invariant-loop-tag
invariant-loop-tag l = l.list.items ++ map tag_number (drop l.tag-index l.tags) ≡ map tag_number l.tags
