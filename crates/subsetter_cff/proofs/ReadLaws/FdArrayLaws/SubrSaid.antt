-- The first entry of local subroutines, as what the first entry says that is looked for.
use Rattle.std.proofs.Common.{◌≡◌, List, [], ◌∷◌, refl, inl, inr}
use Rattle.std.specs.Option.{option_and_then}
use Rattle.std.specs.Str.{bytes_eq}
use Rattle.std.proofs.lemmas.Bool.{cases_Bool}
use Rattle.subsetter_cffdata.specs.Numerals.Numbers.{Number, as_u32}
use Rattle.subsetter_cffdata.specs.Dicts.Dict.{Entry}
use Rattle.subsetter_cffdata.specs.Dicts.Operands.{offset_operand}
use Rattle.subsetter_cff.specs.Read.Entries.FirstEntries.{only, first_said}
use Rattle.subsetter_cff.specs.Read.Entries.Operators.{subroutines_operator}
use Rattle.subsetter_cff.specs.Read.Entries.TopDicts.{first_offset}
use Rattle.subsetter_cff.specs.Read.FdArray.SubrSayings.{subr_saying, joined}

one_offset : (xs : List Number) → option_and_then as_u32 (only xs) ≡ offset_operand xs
unfolding offset_operand
one_offset [] = refl
one_offset (x ∷ []) = refl
one_offset (x ∷ y ∷ more) = refl

pub first_is : (es : List Entry) → joined (first_said subr_saying es) ≡ first_offset subroutines_operator es
first_is [] = refl
first_is (e ∷ es) =
    elim (cases_Bool (bytes_eq e.operator subroutines_operator)) [
      | inl same ↦ rw same (one_offset e.operands)
      | inr other ↦ rw other (first_is es)
    ]
