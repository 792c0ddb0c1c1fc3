-- The words of a run: clusters between those that are blank.
use Rattle.std.specs.Prelude.{ℕ, Bool, false, not, ◌&&◌, if◌then◌else◌, List, [], ◌∷◌, map}
use Rattle.std.specs.Borrow.{Bor}
use Rattle.std.specs.Char.{is_whitespace}
use Rattle.std.specs.List.{list_all}
use Rattle.pdf_runs.specs.declared.items.Item.{Item}
use Rattle.pdf_runs.specs.Clusters.{lists}
use Rattle.pdf_runs.specs.Items.{text_of}

-- a cluster whose text is white space alone (Unicode, White_Space), or nothing
abbrev pub is_blank : List Item → Bool
is_blank c = list_all is_whitespace (text_of c)

-- a cluster is of the next word, where neither is blank
abbrev pub goes_on : List Item → List (List Item) → Bool
goes_on c [] = false
goes_on c (b ∷ bs) = not (is_blank c) && not (is_blank b)

-- a cluster before words
abbrev pub beside : List Item → List (List (List Item)) → List (List (List Item))
beside c [] = (c ∷ []) ∷ []
beside c (w ∷ ws) = if goes_on c w then (c ∷ w) ∷ ws else (c ∷ []) ∷ w ∷ ws

abbrev pub words : List (List Item) → List (List (List Item))
words [] = []
words (c ∷ cs) = beside c (words cs)

-- the lists of clusters that are borrowed
abbrev pub groups : List (Bor (List (Bor (List Item)))) → List (List (List Item))
groups gs = map (λ (g : Bor (List (Bor (List Item)))). lists g.now) gs
