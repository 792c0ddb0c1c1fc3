use Rattle.std.proofs.Common.{◌≡◌, ◌+◌, ◌++◌, length, drop}
use Rattle.std.specs.List.{concat}
use Rattle.pdf_text.specs.Objects.{objects_from, offsets_from, values_of}
use Rattle.pdf_text.proofs.objects.write_all.Given as goal

abbrev pub invariant-loop-object : goal.invariant-loop-object
invariant-loop-object l = record {
  number : l.number ≡ l.first + l.object-index;
  text : l.text.items ++ concat (objects_from l.number (values_of l.values l.references (drop l.object-index l.objects))) ≡ concat (objects_from l.first (values_of l.values l.references l.objects));
  offsets : l.offsets.items ++ offsets_from (length l.text.items) (objects_from l.number (values_of l.values l.references (drop l.object-index l.objects))) ≡ offsets_from 0 (objects_from l.first (values_of l.values l.references l.objects));
}
