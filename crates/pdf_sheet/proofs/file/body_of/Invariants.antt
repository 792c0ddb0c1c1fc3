use Rattle.std.proofs.Common.{◌≡◌, ◌+◌, ◌++◌, length, drop}
use Rattle.std.specs.List.{concat}
use Rattle.pdf_text.specs.Objects.{objects_from, offsets_from}
use Rattle.pdf_sheet.specs.File.{body_of, offsets_of}
use Rattle.pdf_sheet.specs.View.{texts_view}
use Rattle.pdf_sheet.proofs.file.body_of.Given as goal

abbrev pub invariant-loop-value : goal.invariant-loop-value
invariant-loop-value l = record {
  number : l.number ≡ 1 + l.value-index;
  text : l.text.items ++ concat (objects_from l.number (texts_view (drop l.value-index l.values))) ≡ body_of (texts_view l.values);
  offsets : l.offsets.items ++ offsets_from (length l.text.items) (objects_from l.number (texts_view (drop l.value-index l.values))) ≡ offsets_of (texts_view l.values);
}
