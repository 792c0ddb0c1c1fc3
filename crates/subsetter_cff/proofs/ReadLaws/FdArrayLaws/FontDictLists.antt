-- Font dicts, one after the other.
use Rattle.std.proofs.Common.{ℕ, List, [], ◌∷◌, ◌++◌, inl, inr}
use Rattle.subsetter_cffdata.specs.Dicts.Dict.{entries}
use Rattle.subsetter_cff.specs.declared.read.fd_array.font_dict.FontDict.{FontDict}
use Rattle.subsetter_cff.specs.Read.FdArray.FontDictFaults.{IsFontDictIn, HasFontDictFault}
use Rattle.subsetter_cff.specs.Read.FdArray.FontDictList.{AreFontDicts, HasFaultAmong}

pub one_more : (table : List ℕ) (ds : List (List ℕ)) (fs : List FontDict) (d : List ℕ) (f : FontDict) → AreFontDicts table ds fs → IsFontDictIn table (entries d) f → AreFontDicts table (ds ++ d ∷ []) (fs ++ f ∷ [])
one_more table [] [] d f are is = (is, tt)
one_more table (x ∷ ds) (y ∷ fs) d f are is = (are.0, one_more table ds fs d f are.1 is)
one_more table [] (y ∷ fs) d f are is = absurd are
one_more table (x ∷ ds) [] d f are is = absurd are

pub still_sound : (table : List ℕ) (ds : List (List ℕ)) (d : List ℕ) → (HasFaultAmong table ds → ⊥) → (HasFontDictFault table (entries d) → ⊥) → HasFaultAmong table (ds ++ d ∷ []) → ⊥
still_sound table [] d sound here (inl f) = here f
still_sound table [] d sound here (inr more) = more
still_sound table (x ∷ ds) d sound here (inl f) = sound (inl f)
still_sound table (x ∷ ds) d sound here (inr more) = still_sound table ds d (λ h. sound (inr h)) here more

pub fault_here : (table : List ℕ) (ds : List (List ℕ)) (d : List ℕ) (rest : List (List ℕ)) → HasFontDictFault table (entries d) → HasFaultAmong table (ds ++ d ∷ rest)
fault_here table [] d rest f = inl f
fault_here table (x ∷ ds) d rest f = inr (fault_here table ds d rest f)
