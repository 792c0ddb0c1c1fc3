-- How many objects a font has.
use Rattle.std.proofs.Common.{◌≡◌, ◌≤◌, ◌+◌, Bool, true, false, length, refl, arith}
use Rattle.pdf_text.specs.declared.objects.Object.TheVariants.{CidToGidMap, Cmap}
use Rattle.pdf_text.specs.Objects.{before_cmap, objects_by, when}

pub count_is : (m a b : Bool) → length (objects_by m a b) ≡ before_cmap m a + length (when b Cmap)
count_is false false false = refl
count_is false false true = refl
count_is false true false = refl
count_is false true true = refl
count_is true false false = refl
count_is true false true = refl
count_is true true false = refl
count_is true true true = refl

pub few_objects : (m a b : Bool) → length (objects_by m a b) ≤ 7 + length (when m CidToGidMap)
few_objects false false false = omega arith
few_objects false false true = omega arith
few_objects false true false = omega arith
few_objects false true true = omega arith
few_objects true false false = omega arith
few_objects true false true = omega arith
few_objects true true false = omega arith
few_objects true true true = omega arith
