-- The INDEX of items in one piece, one after the other.
use Rattle.std.proofs.Common.{◌≡◌, ℕ, suc, ◌+◌, false, eqb, arith, inl, inr, List, [], ◌∷◌, ◌++◌, length, refl, ap}
use Rattle.std.specs.Int.{bytes_high_first}
use Rattle.std.specs.List.{concat}
use Rattle.std.proofs.lemmas.Bool.{cases_Bool, eqb-true}
use Rattle.subsetter_cffdata.specs.Indexes.Index.{offset_size, offsets, numbers, header, index}
use Rattle.subsetter_cff.specs.Write.Glyphs.FlatIndex.{flat_header, FlatIsIndex}

pub length-ends : (from : ℕ) (items : List (List ℕ)) → length (offsets from items) ≡ length items
length-ends from [] = refl
length-ends from (item ∷ items) = ap suc (length-ends (from + length item) items)

not_none : (n : ℕ) → eqb (suc n) 0 ≡ false
not_none n = elim (cases_Bool (eqb (suc n) 0)) [ inl none ↦ absurd (omega (arith, eqb-true (suc n) 0 none)) | inr some ↦ some ]

pub flat_is_index : FlatIsIndex
unfolding flat_header index header
flat_is_index [] = refl
flat_is_index (item ∷ items) =
    let text = concat (item ∷ items) in
    let size = offset_size (length text + 1) in
    let ends = numbers size (1 ∷ offsets 1 (item ∷ items)) in
    rw (not_none (length (offsets (1 + length item) items))) (ap (λ (n : ℕ). (bytes_high_first 2 n ++ (size ∷ ends)) ++ text) (length-ends 1 (item ∷ items)))
