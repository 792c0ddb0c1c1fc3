-- The offset of the charstrings is the greatest of the offsets, and where it fits, so does each INDEX but that of the charstrings.
use Rattle.std.proofs.Common.{◌≡◌, ℕ, zero, suc, ◌+◌, ◌^◌, ◌<◌, ◌≤◌, List, [], ◌∷◌, length, arith, subst, length-append}
use Rattle.std.specs.Prelude.{Contains, slice_index_or}
use Rattle.std.specs.List.{AllByRecursion, concat}
use Rattle.subsetter_cffdata.specs.Dicts.Dict.{dict}
use Rattle.subsetter_cff.specs.Write.Laying.Layout.{FontDict, Parts, strings, top_entries, table_offsets, private_bytes, privates, font_dicts_from, privates_offset, char_strings_offset, font_dicts_of}
use Rattle.subsetter_cff.specs.Write.Refusals.LimitFault.{written_indexes, private_offsets, written_offsets}
use Rattle.subsetter_cff.proofs.WriteLaws.LayingLaws.MadeOf.{Limits}
use Rattle.subsetter_cff.proofs.WriteLaws.LayingLaws.Places.{length-front}
use Rattle.subsetter_cff.proofs.WriteLaws.LayingLaws.Sizes.{index_holds, in_front}

-- what holds of all holds of one of them
at_place : {A : Type 0} (P : A → Type 0) (xs : List A) (k : ℕ) (x : A) → AllByRecursion P xs → k < length xs → slice_index_or xs k x ≡ x → P x
at_place P [] k x all lt is = absurd (omega arith)
at_place P (y ∷ xs) zero x all lt is = subst P is all.0
at_place P (y ∷ xs) (suc k) x all lt is = at_place P xs k x all.1 (omega arith) is

pub contained : {A : Type 0} (P : A → Type 0) (xs : List A) (x : A) → AllByRecursion P xs → Contains xs x → P x
contained P xs x all inside = at_place P xs inside.0 x all inside.1 inside.2

private_small : (place limit : ℕ) (fs : List FontDict) → place + length (privates fs) ≤ limit → AllByRecursion (λ m. m ≤ limit) (private_offsets place fs)
private_small place limit [] le = tt
private_small place limit (f ∷ fs) le =
    let whole = length-append (private_bytes f) (privates fs) in
    (omega (arith, le, whole), (omega (arith, le), private_small (place + length (private_bytes f)) limit fs (omega (arith, le, whole))))

pub offsets_small : (p : Parts) → AllByRecursion (λ m. m ≤ char_strings_offset p) (written_offsets p)
offsets_small p = (omega arith, (omega arith, (omega arith, (omega arith, private_small (privates_offset p) (char_strings_offset p) p.font_dicts (omega arith)))))

font_dicts_small : (p : Parts) → char_strings_offset p < 2 ^ 31 → length (concat (font_dicts_from (strings p) (privates_offset p) p.font_dicts)) + 1 < 2 ^ 32
unfolding font_dicts_of
font_dicts_small p lt = omega (arith, lt, index_holds (font_dicts_from (strings p) (privates_offset p) p.font_dicts))

pub indexes_small : (p : Parts) → Limits p → AllByRecursion (λ items. length (concat items) + 1 < 2 ^ 32) (written_indexes p)
indexes_small p limits = (
  omega (arith, limits.offset, index_holds (dict (top_entries p (table_offsets p)) ∷ []), in_front p (table_offsets p), length-front p (table_offsets p)),
  (omega (arith, limits.offset, index_holds (strings p), in_front p (table_offsets p), length-front p (table_offsets p)), (font_dicts_small p limits.offset, (limits.char_strings_size, tt))),
)
