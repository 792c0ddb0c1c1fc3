-- The clusters of a run: glyphs that show one text together.
use Rattle.std.specs.Prelude.{if◌then◌else◌, List, [], ◌∷◌, map}
use Rattle.std.specs.Borrow.{Bor}
use Rattle.pdf_runs.specs.declared.items.Item.{Item}
use Rattle.pdf_runs.specs.Items.{is_begun}

-- a glyph before clusters: alone, or the first of the next cluster, where that has no beginning of its own
abbrev pub before : Item → List (List Item) → List (List Item)
before i [] = (i ∷ []) ∷ []
before i (c ∷ cs) = if is_begun c then (i ∷ []) ∷ c ∷ cs else (i ∷ c) ∷ cs

abbrev pub clusters : List Item → List (List Item)
clusters [] = []
clusters (i ∷ is) = before i (clusters is)

-- the lists that are borrowed
abbrev pub lists : List (Bor (List Item)) → List (List Item)
lists cs = map (λ (c : Bor (List Item)). c.now) cs
