-- A run that is shown, for C.
use Rattle.std.specs.Prelude.{◌≡◌, ◌⊎◌, ◌<◌, ℕ, ◌&&◌, Bool, true, false, List, ◌++◌, length, map}
use Rattle.pdf_runs.specs.declared.codes.Pair.{Pair}
use Rattle.pdf_runs.specs.declared.error.RunError.{RunError}
use Rattle.pdf_runs.specs.declared.error.RunError.TheVariants.{InvalidText, Overfull, OutOfMemory}
use Rattle.pdf_runs.specs.declared.items.Direction.{Direction}
use Rattle.pdf_runs.specs.declared.items.Item.{Item}
use Rattle.pdf_runs.specs.declared.shaped.Shaped.{Shaped}
use Rattle.pdf_runs.specs.Codes.{KeepsCodes}
use Rattle.pdf_runs.specs.Shaped.{Labelled, is_shaped, items_of, seen}
use Rattle.pdf_operators.specs.declared.order.Order.{Order}
use Rattle.pdf_operators.specs.declared.places.Font.{Font}
use Rattle.pdf_figures.specs.declared.choice.Choice.{Choice}
use Rattle.pdf_figures.specs.declared.ink.OwnInk.{OwnInk}
use Rattle.pdf_figures.specs.Figures.{Ink}
use Rattle.pdf_figures.specs.View.{inks_of}
use Rattle.pdf_own_runs.specs.Shown.{IsShownWithOwn, IsUnshownWithOwn}
use Rattle.subsetter_pdf_c.specs.Entries.{are_scalars}
use Rattle.subsetter_text_c.specs.declared.items.TextItem.{TextItem}
use Rattle.subsetter_text_c.specs.declared.own.TextOwn.{TextOwn}
use Rattle.subsetter_text_c.specs.declared.own.TextPart.{TextPart}
use Rattle.subsetter_text_c.specs.declared.pairs.TextPair.{TextPair}
use Rattle.subsetter_text_c.specs.declared.shown.Kept.{Kept}
use Rattle.subsetter_text_c.specs.declared.shown.ShownRun.{ShownRun}
use Rattle.subsetter_text_c.specs.declared.units.Units.{Units}
use Rattle.subsetter_text_c.specs.Items.{are_items}
use Rattle.subsetter_text_c.specs.Own.{are_own, inks_in}
use Rattle.subsetter_text_c.specs.Pairs.{pairs_in}
use Rattle.subsetter_text_c.specs.Units.{AreCharactersOf, IsNoText, unit_of}

-- ---- what a text has

pub record Lists : Type 0 where
  pub pairs : List TextPair
  pub own : List TextOwn
  pub parts : List TextPart

abbrev pub lists_given : Kept → Lists
lists_given k = record { pairs = k.pairs.now; own = k.own.now; parts = k.parts.now }

abbrev pub lists_shown : ShownRun → Lists
lists_shown s = record { pairs = s.pairs.items; own = s.own.items; parts = s.parts.items }

-- ---- a run

-- there are the own glyphs of before, with their numbers, and further ones
pub record KeepsOwn (old new : List Ink) : Type 0 where
  pub further : List Ink
  pub are : new ≡ old ++ further

-- a run is shown by these bytes: what the text has before and after
pub record IsRunShown (f : Font) (c : Choice) (d : Direction) (o : Order) (size : ℕ) (old new : Lists) (run : List Item)
    (bytes : List ℕ) : Type 0 where
  pub own : List OwnInk
  pub own_are : inks_of own ≡ inks_in new.own new.parts
  pub is : IsShownWithOwn f c d o size (pairs_in old.pairs) (pairs_in new.pairs) own run bytes
  pub stay : KeepsCodes (pairs_in old.pairs) (pairs_in new.pairs)
  pub own_stay : KeepsOwn (inks_in old.own old.parts) (inks_in new.own new.parts)

-- a run isn't shown with the own glyphs of before and further ones
pub record IsNoneShown (f : Font) (c : Choice) (d : Direction) (o : Order) (old : Lists) (run : List Item)
    (e : RunError) : Type 0 where
  pub pairs : List Pair
  pub own : List OwnInk
  pub own_stay : KeepsOwn (inks_in old.own old.parts) (inks_of own)
  pub why : IsUnshownWithOwn f c d o (pairs_in old.pairs) pairs own run e

-- why a run isn't shown
pub data IsRunRefused (f : Font) (c : Choice) (d : Direction) (o : Order) (old : Lists) (run : List Item) (e : RunError)
    : Type 0 where
  without_memory : e ≡ OutOfMemory → IsRunRefused f c d o old run e
  -- the own glyphs of before aren't such
  no_own : e ≡ InvalidText → are_own old.own old.parts ≡ false → IsRunRefused f c d o old run e
  -- there are too many codes already
  full : e ≡ Overfull → 65535 < length (pairs_in old.pairs) → IsRunRefused f c d o old run e
  none_shown : IsNoneShown f c d o old run e → IsRunRefused f c d o old run e

-- the items with these labels are shown, if there are any
pub record IsOneShown (f : Font) (c : Choice) (d : Direction) (o : Order) (size : ℕ) (old new : Lists) (is_one : Bool)
    (labels : List Labelled) (bytes : List ℕ) : Type 0 where
  pub one : is_one ≡ true
  pub run : List Item
  pub items : map seen run ≡ labels
  pub is : IsRunShown f c d o size old new run bytes

pub data AreUnshown (f : Font) (c : Choice) (d : Direction) (o : Order) (old : Lists) (is_one : Bool)
    (labels : List Labelled) (e : RunError) : Type 0 where
  memory : e ≡ OutOfMemory → AreUnshown f c d o old is_one labels e
  none : e ≡ InvalidText → is_one ≡ false → AreUnshown f c d o old is_one labels e
  refused : (run : List Item) → map seen run ≡ labels → IsRunRefused f c d o old run e
      → AreUnshown f c d o old is_one labels e

-- ---- items

abbrev pub are_one : List ℕ → List TextItem → Bool
are_one text items = are_scalars text && are_items (length text) items

-- ---- glyphs with cluster numbers

pub record IsTextShown (f : Font) (c : Choice) (d : Direction) (o : Order) (size : ℕ) (old new : Lists) (units : Units)
    (glyphs : List Shaped) (bytes : List ℕ) : Type 0 where
  pub characters : List ℕ
  pub text : AreCharactersOf units characters
  pub is : IsOneShown f c d o size old new (is_shaped d (unit_of units) characters glyphs)
      (items_of d (unit_of units) characters glyphs) bytes

pub data IsTextUnshown (f : Font) (c : Choice) (d : Direction) (o : Order) (old : Lists) (units : Units)
    (glyphs : List Shaped) (e : RunError) : Type 0 where
  no_memory : e ≡ OutOfMemory → IsTextUnshown f c d o old units glyphs e
  no_text : e ≡ InvalidText → IsNoText units → IsTextUnshown f c d o old units glyphs e
  unshown : (characters : List ℕ) → AreCharactersOf units characters
      → AreUnshown f c d o old (is_shaped d (unit_of units) characters glyphs)
      (items_of d (unit_of units) characters glyphs) e
      → IsTextUnshown f c d o old units glyphs e
