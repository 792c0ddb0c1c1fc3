-- Private dicts that are longer than a bound on bytes.
use Rattle.std.specs.Prelude.{◌≡◌, ◌<◌, ℕ, List, length, Option, Some}
use Rattle.subsetter_cff.specs.Write.Laying.Layout.{FontDict, privates}

pub record ArePast (bound : Option ℕ) (dicts : List FontDict) : Type 0 where
  pub most : ℕ
  pub is_set : bound ≡ Some most
  pub longer : most < length (privates dicts)
