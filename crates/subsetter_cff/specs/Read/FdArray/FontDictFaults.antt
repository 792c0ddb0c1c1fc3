-- A font dict's Private entries, and its faults (Technical Note 5176, section 18 "CID-keyed Fonts").
use Rattle.std.specs.Prelude.{◌≡◌, ℕ, Bool, true, List, Option, Some, None}
use Rattle.subsetter_cffdata.specs.Numerals.Numbers.{Number}
use Rattle.subsetter_cffdata.specs.Dicts.Dict.{Entry}
use Rattle.subsetter_cff.specs.declared.read.fd_array.font_dict.FontDict.{FontDict}
use Rattle.subsetter_cff.specs.Read.Entries.OperandDemands.{font_dict_demands}
use Rattle.subsetter_cff.specs.Read.Opened.{leads}
use Rattle.subsetter_cff.specs.Read.Fault.{HasWrongOperands, HasPrivateFault}
use Rattle.subsetter_cff.specs.Read.FdArray.Private.{private_at}
use Rattle.subsetter_cff.specs.Read.FdArray.PrivateView.{private_view}
use Rattle.subsetter_cff.specs.Read.Entries.TopDicts.{IsFontDict}

-- of the entry in front, if there is one
abbrev pub leads_if_there : List ℕ → List ℕ → Option (List Number) → Bool
leads_if_there bytes operator None = true
leads_if_there bytes operator (Some xs) = leads bytes (record { operator = operator; operands = xs })

-- what a font dict says, with the private dict of its last Private entry
pub record IsFontDictIn (table : List ℕ) (es : List Entry) (f : FontDict) : Type 0 where
  pub entries : IsFontDict es f.entries
  pub private : private_at table es ≡ Some (private_view f.private)

-- an entry has wrong operands, or a Private entry leads nowhere
pub data HasFontDictFault (table : List ℕ) (es : List Entry) : Type 0 where
  wrong_entry : HasWrongOperands font_dict_demands es → HasFontDictFault table es
  bad_private : HasPrivateFault table es → HasFontDictFault table es
