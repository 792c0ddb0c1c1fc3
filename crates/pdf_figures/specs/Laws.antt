-- Laws of runs with own glyphs: what is said, where the pen goes, and what is drawn.
use Rattle.std.specs.Prelude.{◌≡◌, ◌<◌, ℕ, ◌+◌, Bool, true, false, if◌then◌else◌, List, [], ◌∷◌, ◌++◌, map, get_or}
use Rattle.std.specs.Prelude.{flat_map, option_to_list, ℤ, pos, ◌+ℤ◌}
use Rattle.std.specs.Borrow.{Bor}
use Rattle.pdf_runs.specs.declared.items.Direction.{Direction}
use Rattle.pdf_runs.specs.declared.items.Item.{Item}
use Rattle.pdf_runs.specs.Clusters.{clusters}
use Rattle.pdf_runs.specs.Items.{is_begun, text_of}
use Rattle.pdf_runs.specs.Laws.{Drawn, total, wanted}
use Rattle.pdf_figures.specs.declared.choice.Choice.{Choice}
use Rattle.pdf_figures.specs.Figures.{Figured, Ink, figured_run, glyph, ink_parts, is_bare, own, x_total, y_total}
use Rattle.pdf_figures.specs.Numbers.{figured_by, ink_by, own_by}

-- the texts of a run, one for each cluster
abbrev pub texts_of_items : List Item → List (Bor (List ℕ))
texts_of_items is = flat_map (λ (i : Item). option_to_list i.text) is

abbrev pub texts_of : List Figured → List (Bor (List ℕ))
texts_of fs = flat_map (λ (f : Figured). option_to_list f.text) fs

-- the clusters have the texts that they had
abbrev pub TextIsKept : Type 0
TextIsKept =
    (d : Direction) (c : Choice) (is : List Item) → is_begun is ≡ true
    → texts_of (figured_run d c is) ≡ texts_of_items is

-- the pen goes on as far as it did
abbrev pub PenGoesOn : Type 0
PenGoesOn =
    (d : Direction) (c : Choice) (is : List Item)
    → (total (λ (f : Figured). f.x_advance) (figured_run d c is) ≡ x_total is)
    × (total (λ (f : Figured). f.y_advance) (figured_run d c is) ≡ y_total is)

-- ---- what is drawn

abbrev pub moved_by : ℤ → ℤ → Drawn → Drawn
moved_by x y p = record { glyph = p.glyph; x = x +ℤ p.x; y = y +ℤ p.y }

-- what a figure draws at a place: its glyph, unless that has neither ink nor advance, or its parts
abbrev pub shown_at : List Bool → Figured → Ink → ℤ → ℤ → List Drawn
shown_at inked f (glyph g) x y = if is_bare inked f g then [] else record { glyph = g; x = x; y = y } ∷ []
shown_at inked f (own ps a) x y = map (moved_by x y) ps

-- what figures draw, from a pen on
abbrev pub shown : List Bool → ℤ → ℤ → List Figured → List Drawn
shown inked x y [] = []
shown inked x y (f ∷ fs) =
    shown_at inked f f.ink (x +ℤ f.x_offset) (y +ℤ f.y_offset) ++ shown inked (x +ℤ f.x_advance) (y +ℤ f.y_advance) fs

-- the figures draw the glyphs that the shaper wants, each once, in order and where it has them
abbrev pub FiguresDrawTheRun : Type 0
FiguresDrawTheRun =
    (d : Direction) (c : Choice) (x y : ℤ) (is : List Item)
    → shown c.inked.now x y (figured_run d c is) ≡ wanted c.inked.now x y is

-- ---- items by number

-- what a glyph draws, or the parts of an own one
abbrev pub parts_at : Ink → ℤ → ℤ → List Drawn
parts_at (glyph g) x y = record { glyph = g; x = x; y = y } ∷ []
parts_at (own ps a) x y = map (moved_by x y) ps

-- of a font with `count` glyphs and own ones after them
abbrev pub expanded : ℕ → List Ink → Drawn → List Drawn
expanded count inks p = parts_at (ink_by count inks p.glyph) p.x p.y

-- whether glyphs have ink: the font's as in the font, and an own one where it has parts
pub record IsInked (count : ℕ) (inks : List Ink) (inked all : List Bool) : Type 0 where
  pub font : (g : ℕ) → g < count → get_or all g true ≡ get_or inked g true
  pub own_ones : (k : ℕ) → get_or all (count + k) true ≡ false → ink_parts (own_by inks k) ≡ []

-- items that are the figures of a run draw its glyphs, where those of own ones are drawn in their place
abbrev pub ItemsDrawTheRun : Type 0
ItemsDrawTheRun =
    (d : Direction) (c : Choice) (count : ℕ) (inks : List Ink) (all : List Bool) (is js : List Item)
    → IsInked count inks c.inked.now all → map (figured_by count inks) js ≡ figured_run d c is
    → flat_map (expanded count inks) (wanted all (pos 0) (pos 0) js) ≡ wanted c.inked.now (pos 0) (pos 0) is

-- their clusters have the texts of the run's
abbrev pub ItemsSayTheRun : Type 0
ItemsSayTheRun =
    (d : Direction) (c : Choice) (count : ℕ) (inks : List Ink) (is js : List Item) → is_begun is ≡ true
    → is_begun js ≡ true → map (figured_by count inks) js ≡ figured_run d c is
    → map text_of (clusters js) ≡ map text_of (clusters is)
