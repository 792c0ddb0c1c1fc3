use Rattle.std.proofs.Common.{arith, refl}
use Rattle.subsetter_c.specs.Documents.Reading.{whole, short, refused}
use Rattle.subsetter_c.proofs.DocumentsLaws.Reading.{both_placed}
use Rattle.subsetter_c.proofs.documents.reading.hand_read.Goals.{then-len-entries-via-then-len-entries, then-len-entries-via-else-len-entries+then-len-missing}
use Rattle.subsetter_c.proofs.documents.reading.hand_read.Goals as goal

pub returns-in-Err : goal.returns-in-Err
returns-in-Err c = refused c.in-Err.error c.in-Err.is refl refl c.status_of.ensures

pub returns-then-len-entries : goal.returns-then-len-entries
returns-then-len-entries c =
    short c.in-Ok.read c.in-Ok.is
    (λ f. elim c.then-len-entries.branch [
      | then-len-entries-via-then-len-entries w ↦ omega (arith, f.entries)
      | then-len-entries-via-else-len-entries+then-len-missing w ↦ omega (arith, f.missing)
    ])
    refl c.sizes_of.ensures refl

pub returns : goal.returns
returns c =
    whole c.in-Ok.read c.in-Ok.is (record { entries = omega arith; missing = omega arith })
    (both_placed c.args.entries.now c.args.missing.now c.in-Ok.read _ _ _ _ c.deref.ensures.value c.deref-2.ensures.value c.begin_with.ensures c.begin_with-2.ensures)
    c.sizes_of.ensures refl
