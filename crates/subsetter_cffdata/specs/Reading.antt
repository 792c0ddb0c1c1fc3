-- What the functions on a reader return.
use Rattle.std.specs.Prelude.{◌≡◌, ℕ, List, drop, Option}
use Rattle.std.specs.Option.{option_map}
use Rattle.subsetter_base.specs.Read.{Source}

-- what a reader has left
abbrev pub rest : Source → List ℕ
rest r = drop r.offset r.bytes

-- What reading gives is what is returned, seen by view, with what the reader then has left; or nothing.
abbrev pub Takes : {X Y : Type 0} → (X → Y) → Option X → Source → Source → (List ℕ → Option (Y × List ℕ)) → Type 0
Takes view answer old new read = read (rest old) ≡ option_map (λ x. (view x, rest new)) answer
