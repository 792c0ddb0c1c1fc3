-- An INDEX of items that follow one another.
use Rattle.std.specs.Prelude.{◌≡◌, ℕ, ◌+◌, ◌==◌, if◌then◌else◌, List, [], ◌∷◌, ◌++◌, length}
use Rattle.std.specs.Int.{bytes_high_first}
use Rattle.std.specs.List.{concat}
use Rattle.subsetter_cffdata.specs.Indexes.Index.{offset_size, offsets, numbers, index}

-- count, size of an offset, offsets; without items the count alone
unfoldable pub flat_header : ℕ → List ℕ → List ℕ
flat_header size ends =
    if length ends == 0 then 0 ∷ 0 ∷ []
    else bytes_high_first 2 (length ends) ++ (offset_size (size + 1) ∷ numbers (offset_size (size + 1)) (1 ∷ ends))

-- of one item of a size
unfoldable pub single_header : ℕ → List ℕ
single_header size =
    let width = offset_size (size + 1) in
    (0 ∷ 1 ∷ width ∷ []) ++ (bytes_high_first width 1 ++ bytes_high_first width (size + 1))

-- an INDEX with its data, where items end at these places
abbrev pub flat_index : List ℕ → List ℕ → List ℕ
flat_index text ends = flat_header (length text) ends ++ text

-- it is the INDEX of the items, where each end is the offset after one of them
abbrev pub FlatIsIndex : Type 0
FlatIsIndex = (items : List (List ℕ)) → flat_index (concat items) (offsets 1 items) ≡ index items
