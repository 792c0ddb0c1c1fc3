-- The front of a new table before the places of its parts are known.
use Rattle.std.specs.Prelude.{◌≡◌, ℕ, ◌+◌, ◌<◌, ◌≤◌, ◌^◌, List, [], ◌∷◌, ◌++◌, length, take, drop}
use Rattle.subsetter_cffdata.specs.Dicts.Dict.{NewEntry, dict}
use Rattle.subsetter_cffdata.specs.Indexes.Index.{index}
use Rattle.subsetter_cff.specs.declared.write.laying.front.FrontDraft.{FrontDraft}
use Rattle.subsetter_cff.specs.declared.write.laying.table.TableParts.{TableParts}
use Rattle.subsetter_cff.specs.Write.Laying.Layout.{Offsets, TopDict, header, registry_entry, number_entries}
use Rattle.subsetter_cff.specs.Write.Laying.Layout.{placed_entries}
use Rattle.subsetter_cffdata.specs.Dicts.Plain.{plain_entry}
use Rattle.subsetter_cff.specs.Write.Laying.PartsView.{top_by}
use Rattle.subsetter_cff.specs.Read.Entries.Operators.{copyright_operator, notice_operator, font_name_operator}
use Rattle.subsetter_cff.specs.Read.Entries.Operators.{font_matrix_operator, font_box_operator}
use Rattle.subsetter_cff.specs.Write.Laying.TableBy.{front_size}

-- the entries of a top dict that name no place; those that do come after them
abbrev pub named_entries : TopDict → List NewEntry
named_entries t =
    registry_entry ∷ (number_entries copyright_operator t.copyright ++ (number_entries notice_operator t.notice
    ++ (number_entries font_name_operator t.font_name
    ++ (plain_entry font_matrix_operator t.matrix ∷ plain_entry font_box_operator t.box ∷ []))))

unfoldable pub named_bytes : TopDict → List ℕ
named_bytes t = dict (named_entries t)

-- the strings and no global subroutines
abbrev pub tail_by : List (List ℕ) → List ℕ
tail_by texts = index texts ++ (0 ∷ 0 ∷ [])

-- the two parts of a draft
abbrev pub named_of : FrontDraft → List ℕ
named_of d = take d.named d.text

abbrev pub tail_of : FrontDraft → List ℕ
tail_of d = drop d.named d.text

-- the draft has all of the front but the places, and knows its size
pub record IsDraft (texts : List (List ℕ)) (t : TableParts) (d : FrontDraft) : Type 0 where
  pub within : d.named ≤ length d.text
  pub named : named_of d ≡ named_bytes (top_by texts t)
  pub tail : tail_of d ≡ tail_by texts
  pub size : d.size ≡ front_size texts t
  pub small : d.size < 2 ^ 31
  pub small_top : d.named + 33 < 2 ^ 31

-- with these names and these places
abbrev pub front_of_draft : List ℕ → List ℕ → List ℕ → Offsets → List ℕ
front_of_draft names named tail o = header ++ (names ++ (index ((named ++ dict (placed_entries o)) ∷ []) ++ tail))
