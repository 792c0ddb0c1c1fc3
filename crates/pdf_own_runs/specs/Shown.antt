-- A run that is shown by the glyphs of a font and by own ones.
use Rattle.std.specs.Prelude.{◌≡◌, ◌≤◌, ◌⊎◌, ℕ, ◌+◌, Bool, true, false, List, length, map, flat_map, pos}
use Rattle.pdf_runs.specs.declared.codes.Pair.{Pair}
use Rattle.pdf_runs.specs.declared.error.RunError.{RunError}
use Rattle.pdf_runs.specs.declared.error.RunError.TheVariants.{InvalidText, Overfull, OutOfMemory}
use Rattle.pdf_runs.specs.declared.items.Direction.{Direction}
use Rattle.pdf_runs.specs.declared.items.Item.{Item}
use Rattle.pdf_runs.specs.Codes.{with_pairs}
use Rattle.pdf_runs.specs.Items.{is_run}
use Rattle.pdf_runs.specs.Laws.{wanted}
use Rattle.pdf_runs.specs.Pieces.{pieces_of_run}
use Rattle.pdf_operators.specs.declared.order.Order.{Order}
use Rattle.pdf_operators.specs.declared.places.Font.{Font}
use Rattle.pdf_operators.specs.Operators.{operators}
use Rattle.pdf_operators.specs.Content.{said_in}
use Rattle.pdf_operators.specs.Reading.{AreCoded, IsEnd, IsExtracted, IsShown, extracted, pen_past, text_in, width_in}
use Rattle.pdf_operators.specs.Runs.{IsRefused, is_valid, run_acts}
use Rattle.pdf_figures.specs.declared.choice.Choice.{Choice}
use Rattle.pdf_figures.specs.declared.ink.OwnInk.{OwnInk}
use Rattle.pdf_figures.specs.Figures.{figured_run}
use Rattle.pdf_figures.specs.Laws.{expanded}
use Rattle.pdf_figures.specs.Numbers.{figured_by}
use Rattle.pdf_figures.specs.View.{inks_of}
use Rattle.pdf_own_runs.specs.Fonts.{IsWithOwn}

-- ---- items of a font with own glyphs

-- operators show items, by the font with own glyphs after its own
pub record IsShownBy (f : Font) (known : List Bool) (own : List OwnInk) (d : Direction) (o : Order) (size : ℕ)
    (old new : List Pair) (js : List Item) (text : List ℕ) : Type 0 where
  pub font : Font
  pub with_own : IsWithOwn f known own font
  pub valid : is_valid font d o js ≡ true
  pub operators : text ≡ operators size new (run_acts font d o js)
  -- a reader finds their text, their glyphs where the shaper has them, and the pen after them
  pub shown : IsShown font d o size new js text
  pub pairs : new ≡ with_pairs old (pieces_of_run d font.inked.now js)
  pub coded : AreCoded new (pieces_of_run d font.inked.now js)

-- that font refuses them
pub record IsRefusedBy (f : Font) (known : List Bool) (own : List OwnInk) (d : Direction) (o : Order)
    (pairs new : List Pair) (js : List Item) (e : RunError) : Type 0 where
  pub font : Font
  pub with_own : IsWithOwn f known own font
  pub refused : IsRefused font d o pairs new js e

-- why items aren't shown, and which pairs there are then
abbrev pub IsUnshown : Font → List Bool → List OwnInk → Direction → Order → List Pair → List Pair → List Item → RunError
    → Type 0
IsUnshown f known own d o pairs new js e =
    ((e ≡ OutOfMemory) × (new ≡ pairs)) ⊎ IsRefusedBy f known own d o pairs new js e

-- ---- a run

-- items are the figures of a run, and a run of the font with own glyphs themselves
pub record AreFigures (count : ℕ) (c : Choice) (own : List OwnInk) (d : Direction) (is js : List Item) : Type 0 where
  pub figures : map (figured_by count (inks_of own)) js ≡ figured_run d c is
  pub run : is_run d (count + length own) js ≡ true

-- operators show a run: by items that are its figures
pub record IsShownWithOwn (f : Font) (c : Choice) (d : Direction) (o : Order) (size : ℕ) (pairs new : List Pair)
    (own : List OwnInk) (is : List Item) (bytes : List ℕ) : Type 0 where
  pub items : List Item
  pub figures : AreFigures (length f.metrics.now) c own d is items
  pub shown : IsShownBy f c.inked.now own d o size pairs new items bytes
  -- so a reader finds the run's text
  pub text : IsExtracted d o is (extracted (text_in new) false (said_in bytes))
  -- what is drawn, with the parts of own glyphs in their place, is the run's glyphs where the shaper has them
  pub drawn : flat_map (expanded (length f.metrics.now) (inks_of own))
      (wanted shown.font.inked.now (pos 0) (pos 0) items)
      ≡ wanted c.inked.now (pos 0) (pos 0) is
  -- after it the pen is where the shaper has it
  pub pen : IsEnd f d is (pen_past (width_in shown.font new) (pos 0) (said_in bytes))

-- the items that are the figures of a run aren't shown
pub record AreUnshown (f : Font) (c : Choice) (d : Direction) (o : Order) (pairs new : List Pair) (own : List OwnInk)
    (is : List Item) (e : RunError) : Type 0 where
  pub items : List Item
  pub figures : AreFigures (length f.metrics.now) c own d is items
  pub unshown : IsUnshown f c.inked.now own d o pairs new items e

-- before there are such items
pub data IsUnfigured (f : Font) (d : Direction) (own : List OwnInk) (is : List Item) : RunError → Type 0 where
  -- the glyphs are no run of the font
  no_run : is_run d (length f.metrics.now) is ≡ false → IsUnfigured f d own is InvalidText
  -- the font would have more than 65,535 glyphs
  no_room : 65535 ≤ length f.metrics.now + length own → IsUnfigured f d own is Overfull
  no_memory : IsUnfigured f d own is OutOfMemory

-- why a run isn't shown, and which pairs there are then
abbrev pub IsUnshownWithOwn : Font → Choice → Direction → Order → List Pair → List Pair → List OwnInk → List Item
    → RunError
    → Type 0
IsUnshownWithOwn f c d o pairs new own is e =
    (IsUnfigured f d own is e × (new ≡ pairs)) ⊎ AreUnshown f c d o pairs new own is e
