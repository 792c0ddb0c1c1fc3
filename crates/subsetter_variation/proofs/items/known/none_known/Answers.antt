use Rattle.std.proofs.Common.{ℕ, List, None, ℤ, replicate}
use Rattle.std.specs.Prelude.{IfSome}
use Rattle.std.proofs.lemmas.List.Elements.{All-replicate}
use Rattle.subsetter_variation.specs.Items.ItemVariations.{Store}
use Rattle.subsetter_variation.specs.Items.Known.{AreScalars, IsScalar}
use Rattle.subsetter_variation.proofs.items.known.none_known.Goals as goal

none : (n : ℕ) (s : Store) (at : List ℤ) → AreScalars s at (replicate n None)
none n s at = All-replicate (λ place. IfSome place (IsScalar s at)) n None tt

pub returns-clause-none : goal.returns-clause-none
returns-clause-none c = none 128
