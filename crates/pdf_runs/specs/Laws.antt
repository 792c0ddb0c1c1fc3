-- Laws of runs: what is said, where the pen goes, and what is drawn.
use Rattle.std.specs.Prelude.{◌≡◌, ℕ, Bool, true, false, not, ◌&&◌, if◌then◌else◌, List, [], ◌∷◌, ◌++◌, flat_map}
use Rattle.std.specs.Prelude.{option_to_list, ℤ, pos, ◌+ℤ◌}
use Rattle.std.specs.List.{list_all}
use Rattle.pdf_runs.specs.declared.items.Direction.{Direction}
use Rattle.pdf_runs.specs.declared.items.Item.{Item}
use Rattle.pdf_runs.specs.declared.pieces.Figure.{Figure}
use Rattle.pdf_runs.specs.declared.pieces.Figure.TheVariants.{Source, Blank}
use Rattle.pdf_runs.specs.declared.pieces.Piece.{Piece}
use Rattle.pdf_runs.specs.Clusters.{clusters}
use Rattle.pdf_runs.specs.Items.{begins, is_begun, text_of, visual}
use Rattle.pdf_runs.specs.Pieces.{is_bare, pieces_of_run}

-- ---- clusters

-- the first glyph begins the cluster, and the others continue it
abbrev pub is_cluster : List Item → Bool
is_cluster [] = false
is_cluster (i ∷ is) = begins i && list_all (λ (j : Item). not (begins j)) is

-- one after the other the clusters are the run
abbrev pub ClustersAreTheRun : Type 0
ClustersAreTheRun = (is : List Item) → flat_map (λ (c : List Item). c) (clusters is) ≡ is

-- where the run begins with a cluster, each cluster has one beginning
abbrev pub ClustersBeginOnce : Type 0
ClustersBeginOnce = (is : List Item) → is_begun is ≡ true → list_all is_cluster (clusters is) ≡ true

-- ---- what is said

-- what pieces say, one after the other as they are seen
abbrev pub said : List Piece → List ℕ
said ps = flat_map (λ (p : Piece). option_to_list p.says) ps

-- what pieces say, in reading order, is the text of the clusters in reading order
abbrev pub TextIsSaid : Type 0
TextIsSaid =
    (d : Direction) (inked : List Bool) (is : List Item)
    → visual d (said (pieces_of_run d inked is)) ≡ flat_map text_of (visual d (clusters is))

-- ---- where the pen goes

-- how far the pen goes on, by an advance of each
abbrev pub total : {A : Type 0} → (A → ℤ) → List A → ℤ
total f [] = pos 0
total f (a ∷ more) = f a +ℤ total f more

-- the pen goes on by the sum of the run's advances
abbrev pub PenGoesOn : Type 0
PenGoesOn =
    (d : Direction) (inked : List Bool) (is : List Item)
    → (total (λ (p : Piece). p.x_advance) (pieces_of_run d inked is) ≡ total (λ (i : Item). i.x_advance) is)
    × (total (λ (p : Piece). p.y_advance) (pieces_of_run d inked is) ≡ total (λ (i : Item). i.y_advance) is)

-- ---- what is drawn

-- a glyph, and where its origin is
pub record Drawn : Type 0 where
  pub glyph : ℕ
  pub x : ℤ
  pub y : ℤ

abbrev pub drawn_at : Figure → ℤ → ℤ → List Drawn
drawn_at (Source g) x y = record { glyph = g; x = x; y = y } ∷ []
drawn_at Blank x y = []

-- the glyphs that pieces draw, from a pen on
abbrev pub drawn : ℤ → ℤ → List Piece → List Drawn
drawn x y [] = []
drawn x y (p ∷ ps) = drawn_at p.figure (x +ℤ p.x) (y +ℤ p.y) ++ drawn (x +ℤ p.x_advance) (y +ℤ p.y_advance) ps

-- the glyphs that the shaper wants, without those that have neither ink nor advance
abbrev pub wanted : List Bool → ℤ → ℤ → List Item → List Drawn
wanted inked x y [] = []
wanted inked x y (i ∷ is) =
    (if is_bare inked i then [] else record { glyph = i.glyph; x = x +ℤ i.x_offset; y = y +ℤ i.y_offset } ∷ [])
    ++ wanted inked (x +ℤ i.x_advance) (y +ℤ i.y_advance) is

-- the pieces draw the run's glyphs, each once, in order and where the shaper has them
abbrev pub GlyphsAreDrawn : Type 0
GlyphsAreDrawn =
    (d : Direction) (inked : List Bool) (x y : ℤ) (is : List Item)
    → drawn x y (pieces_of_run d inked is) ≡ wanted inked x y is
