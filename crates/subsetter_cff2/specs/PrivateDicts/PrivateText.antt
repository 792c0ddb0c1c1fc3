-- A private dict at a place, as it is written, with the errors of reading and writing in their order.
use Rattle.std.specs.Prelude.{◌≡◌, ℕ, ℤ, take, List, [], ◌∷◌, ◌++◌, Option, Some, None, Result, Ok}
use Rattle.std.specs.Option.{ok_or}
use Rattle.subsetter_base.specs.Bytes.{◌>>=◌}
use Rattle.subsetter_base.specs.declared.error.Error.{Error}
use Rattle.subsetter_base.specs.declared.error.Error.TheVariants.{MalformedFont}
use Rattle.subsetter_cffdata.specs.Dicts.Dict.{Entry, dict}
use Rattle.subsetter_cffdata.specs.Numerals.Numbers.{Number}
use Rattle.subsetter_cff.specs.Write.Laying.Layout.{rewritten_entries}
use Rattle.subsetter_cff.specs.Write.NewDicts.Rewritten.{written_entry}
use Rattle.subsetter_blend.specs.Runs.Number.{whole}
use Rattle.subsetter_cff2.specs.PrivateDicts.Blend.{edges}
use Rattle.subsetter_cff2.specs.PrivateDicts.EntryLists.{entry_lists}
use Rattle.subsetter_cff2.specs.PrivateDicts.PrivateAt.{Registers, Step, pushed, step_by, Placed, at_start}
use Rattle.subsetter_cff2.specs.PrivateDicts.PrivateAt.{private_at_location}
use Rattle.subsetter_cff2.specs.PrivateDicts.PrivateKinds.{kind_by}
use Rattle.subsetter_cff2.specs.Variation.{Variation}
use Rattle.subsetter_blend.specs.Writing.Split.{sum_of}

pub record TextStep : Type 0 where
  pub text : List ℕ
  pub next : Registers

abbrev pub entry_text : Option Entry → Result (List ℕ) Error
entry_text None = Ok []
entry_text (Some e) = written_entry e.operator e.operands

abbrev pub step_text_of : Step → Result TextStep Error
step_text_of s = entry_text s.said >>= λ text. Ok (record { text = text; next = s.next })

abbrev pub operator_text : Option Variation → Registers → List ℕ → Result TextStep Error
operator_text v r operator = ok_or (step_by (kind_by operator) v operator r) MalformedFont >>= step_text_of

-- the text of an entry
unfoldable pub step_text : Option Variation → Registers → List ℕ → List Number → Result TextStep Error
step_text v r operator xs = ok_or (pushed r xs) MalformedFont >>= λ here. operator_text v here operator

-- a text after another
abbrev pub after_step : List ℕ → Result TextStep Error → Result TextStep Error
after_step front o = o >>= λ s. Ok (record { text = front ++ s.text; next = s.next })

pub record PlacedText : Type 0 where
  pub text : List ℕ
  pub data_index : ℕ

-- text in front
abbrev pub following : List ℕ → Result PlacedText Error → Result PlacedText Error
following front o = o >>= λ p. Ok (record { text = front ++ p.text; data_index = p.data_index })

abbrev pub placed_text : Option Variation → Registers → List Entry → Result PlacedText Error
placed_text v r [] = Ok (record { text = []; data_index = r.data_index })
placed_text v r (e ∷ es) = step_text v r e.operator e.operands >>= λ s. following s.text (placed_text v s.next es)

unfoldable pub private_text : Option Variation → List ℕ → Result PlacedText Error
private_text v dict = placed_text v at_start (entry_lists dict)

abbrev pub placed_as : Placed → PlacedText
placed_as p = record { text = dict (rewritten_entries p.entries); data_index = p.data_index }

-- where a text is written, it is that of the private dict at the place
abbrev pub TextIsPlaced : Type 0
TextIsPlaced =
    (v : Option Variation) (bytes : List ℕ) (t : PlacedText) → private_text v bytes ≡ Ok t
    → (p : Placed) × ((private_at_location v bytes ≡ Some p) × (t ≡ placed_as p))

-- ---- zones
-- each edge of a placed array is the exact one, rounded once
abbrev pub EdgesAreRounded : Type 0
EdgesAreRounded = (vs : List ℤ) (k : ℕ) → sum_of (take k (edges vs)) ≡ whole (sum_of (take k vs))
