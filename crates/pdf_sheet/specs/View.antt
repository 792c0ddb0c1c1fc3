-- What the code makes of texts.
use Rattle.std.specs.Prelude.{ℕ, List, map, Vec}
use Rattle.std.specs.Global.{Global}

abbrev pub texts_view : List (Vec ℕ Global) → List (List ℕ)
texts_view texts = map (λ t. t.items) texts
