-- A private dict that was placed and written is read again as it was placed.
use Rattle.std.specs.Prelude.{◌≡◌, ℕ, List, Option, Some, None, Ok}
use Rattle.std.specs.List.{AllByRecursion}
use Rattle.subsetter_cffdata.specs.Dicts.Dict.{FitsNewEntry, entries}
use Rattle.subsetter_cff.specs.Read.Entries.Lookup.{first_of, without}
use Rattle.subsetter_cff.specs.Read.Entries.Operators.{subroutines_operator}
use Rattle.subsetter_cff.specs.Write.Laying.Layout.{rewritten_entries}
use Rattle.subsetter_cff2.specs.PrivateDicts.PrivateAt.{Placed, private_at_location}
use Rattle.subsetter_cff2.specs.PrivateDicts.PrivateText.{PlacedText, private_text}
use Rattle.subsetter_cff2.specs.Variation.{Variation}

pub record IsReadBack (p : Placed) (t : PlacedText) : Type 0 where
  pub again : entries t.text ≡ p.entries
  -- each can be written, as an entry of CFF
  pub fit : AllByRecursion FitsNewEntry (rewritten_entries p.entries)
  -- it leads to no subroutines
  pub none_left_out : without subroutines_operator p.entries ≡ p.entries
  pub no_subroutines : first_of subroutines_operator p.entries ≡ None

abbrev pub PlacedIsReadBack : Type 0
PlacedIsReadBack =
    (v : Option Variation) (bytes : List ℕ) (t : PlacedText) (p : Placed) → private_text v bytes ≡ Ok t
    → private_at_location v bytes ≡ Some p
    → IsReadBack p t
