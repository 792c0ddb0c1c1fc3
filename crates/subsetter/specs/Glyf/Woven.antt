-- A list of outlines of which some are borrowed and the others follow one another.
use Rattle.std.specs.Prelude.{◌≡◌, ◌≤◌, ◌<◌, ◌^◌, ℕ, Bool, List, [], ◌∷◌, length, take, drop}
use Rattle.subsetter.specs.Glyf.BareOutlines.Bare.{requested_simple}

-- a list of outlines, and whether instructions are asked for
pub record Listed : Type 0 where
  pub hinting : Bool
  pub items : List (List ℕ)

-- the outlines: a borrowed one is a simple outline of the source and is itself, as far as it is asked for; no bytes
-- mean the next of the others, which has the next of the sizes
abbrev pub woven : Bool → List (List ℕ) → List ℕ → List ℕ → List (List ℕ)
woven hinting [] sizes bytes = []
woven hinting ([] ∷ kept) [] bytes = []
woven hinting ([] ∷ kept) (n ∷ sizes) bytes = take n bytes ∷ woven hinting kept sizes (drop n bytes)
woven hinting ((x ∷ xs) ∷ kept) sizes bytes = requested_simple hinting (x ∷ xs) ∷ woven hinting kept sizes bytes

-- there is a size for each of the others, and their bytes are there, and no more
abbrev pub AreWoven : List (List ℕ) → List ℕ → List ℕ → Type 0
AreWoven [] sizes bytes = (sizes ≡ []) × (bytes ≡ [])
AreWoven ([] ∷ kept) [] bytes = ⊥
AreWoven ([] ∷ kept) (n ∷ sizes) bytes = (n ≤ length bytes) × AreWoven kept sizes (drop n bytes)
AreWoven ((x ∷ xs) ∷ kept) sizes bytes = AreWoven kept sizes bytes

-- a length as it is counted: where it is 2^32 or more, some number from 2^32 on
abbrev pub IsCounted : ℕ → ℕ → Type 0
IsCounted counted len = (len < 2 ^ 32 → counted ≡ len) × (2 ^ 32 ≤ len → 2 ^ 32 ≤ counted)
