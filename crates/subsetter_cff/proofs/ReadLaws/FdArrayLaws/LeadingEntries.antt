-- Private entries that lead to private dicts.
use Rattle.std.proofs.Common.{◌≡◌, ℕ, Bool, true, false, ◌&&◌, List, [], Option, Some, None, refl, ap, ◌∙◌, sym, inl, inr}
use Rattle.subsetter_cffdata.specs.Dicts.Dict.{Entry, entry_at, entries, operand_limit, entries_in}
use Rattle.subsetter_cffdata.specs.Numerals.Numbers.{Number}
use Rattle.subsetter_cffdata.specs.Dicts.Operands.{operands_at}
use Rattle.subsetter_cffdata.specs.Dicts.Tokens.{operator_part}
use Rattle.subsetter_cffdata.proofs.DictsLaws.Entries.{entries_step}
use Rattle.subsetter_cff.specs.Read.Entries.Demands.{shown_if}
use Rattle.subsetter_cff.specs.Read.Opened.{all_lead}
use Rattle.subsetter_cff.specs.Read.FdArray.FontDictFaults.{leads_if_there, HasFontDictFault, wrong_entry, bad_private}
use Rattle.subsetter_cff.specs.Read.Entries.OperandDemands.{font_dict_demands}
use Rattle.subsetter_cff.specs.Read.Fault.{HasWrongOperands}
use Rattle.subsetter_cff.specs.Read.Entries.Lookup.{last_of}
use Rattle.subsetter_cff.specs.Read.Entries.Operators.{private_operator}
use Rattle.subsetter_cff.specs.Read.FdArray.Private.{private_by, private_at}
use Rattle.subsetter_cff.proofs.ReadLaws.EntriesLaws.EntryFaults.{all_nowhere}
use Rattle.subsetter_cff.proofs.ReadLaws.EntriesLaws.EntrySound.{no_private_fault}
use Rattle.subsetter_cff.proofs.ReadLaws.FdArrayLaws.SoundDicts.{private_there}
use Rattle.subsetter_cff.proofs.WriteLaws.NewDictsLaws.Rewriting.{found, entries_are, none_left}

lead_is : (table bytes rest : List ℕ) (e : Entry) → entry_at bytes ≡ Some (e, rest)
    → (leads_if_there table e.operator (operands_at operand_limit bytes) && all_lead table (entries rest)) ≡ all_lead table (entries bytes)
unfolding operands_at
lead_is table bytes rest e is = rw (entries_are bytes rest e is, is) refl

pub lead_next : (table bytes here operator rest : List ℕ) (limit : ℕ) → operator_part (entry_at bytes) ≡ Some (operator, rest) → limit ≡ operand_limit → here ≡ bytes
    → (leads_if_there table operator (operands_at limit here) && all_lead table (entries rest)) ≡ all_lead table (entries bytes)
lead_next table bytes here operator rest limit h room same =
    let f = found bytes operator rest h in
    rw (room, same) (ap (λ (o : List ℕ). leads_if_there table o (operands_at operand_limit bytes) && all_lead table (entries rest)) (sym f.same) ∙ lead_is table bytes rest f.entry f.is)

pub lead_end : (table bytes : List ℕ) → operator_part (entry_at bytes) ≡ None → all_lead table (entries bytes) ≡ true
lead_end table bytes h = rw (entries_step bytes, none_left (entry_at bytes) h) refl

-- ---- an entry that leads nowhere
pub nowhere_stands : (table : List ℕ) (es : List Entry) → all_lead table es ≡ false → HasFontDictFault table es
nowhere_stands table es h = elim (all_nowhere table es h) [ inl wrong ↦ wrong_entry wrong | inr nowhere ↦ bad_private nowhere ]

pub no_font_dict_fault : (table : List ℕ) (es : List Entry) → (HasWrongOperands font_dict_demands es → ⊥) → all_lead table es ≡ true → HasFontDictFault table es → ⊥
no_font_dict_fault table es sound h (wrong_entry f) = sound f
no_font_dict_fault table es sound h (bad_private f) = no_private_fault table es h f

pub last_there : (table : List ℕ) (es : List Entry) → all_lead table es ≡ true → None ≡ private_at table es → ⊥
last_there table es h none = private_there table es h (sym none)

-- ---- no Private entry
pub no_entries : entries [] ≡ []
unfolding entries entries_in
no_entries = refl

pub none_named : (table : List ℕ) (es own : List Entry) (subroutines : List (Option (List ℕ))) → None ≡ last_of private_operator es → own ≡ [] → subroutines ≡ []
    → Some (record { entries = own; subroutines = subroutines }) ≡ private_at table es
unfolding private_at
none_named table es own subroutines named e s = rw (e, s) (ap (private_by table) named)

pub not_shown : (b : Bool) (xs : List Number) (o : Option (List Number)) → b ≡ false → shown_if b xs ≡ o → None ≡ o
not_shown b xs o h e = rw h at e
