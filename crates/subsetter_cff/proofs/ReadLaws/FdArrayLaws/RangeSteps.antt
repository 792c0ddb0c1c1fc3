-- The ranges of FDSelect, one after the other and by their number.
use Rattle.std.proofs.Common.{◌≡◌, ℕ, zero, suc, Bool, ◌+◌, ◌*◌, ◌<◌, ◌≤◌, cond, ◌&&◌, List, [], ◌∷◌, length, take, drop, Some, None, refl, ap, arith, inl, inr, ◌⊎◌, ◌∙◌, sym, length-drop}
use Rattle.std.specs.Prelude.{nat_lt, nat_le, slice_index}
use Rattle.std.proofs.lemmas.Bool.{lt-ltb, le-ltb}
use Rattle.std.proofs.lemmas.List.{drop-drop, get_or-drop}
use Rattle.subsetter_base.specs.Bytes.{be, byte}
use Rattle.subsetter_cffdata.specs.Bytes.{card, part}
use Rattle.subsetter_cff.specs.Read.FdArray.FontDicts.{in_ranges}
use Rattle.subsetter_cff.specs.Read.FdArray.Ranges.{number_of_range, found_from}

-- ---- numbers of two bytes
pub two : (bytes : List ℕ) → 2 ≤ length bytes → card 2 bytes ≡ Some (be (take 2 bytes), drop 2 bytes)
unfolding card part
two bytes le = rw (le-ltb (length bytes) 2 le) refl

pub too_short : (bytes : List ℕ) → length bytes < 2 → card 2 bytes ≡ None
unfolding card part
too_short bytes lt = rw (lt-ltb (length bytes) 2 lt) refl

-- ---- a range in front
abbrev pub front_has : List ℕ → ℕ → Bool
front_has bytes glyph = nat_le (be (take 2 bytes)) glyph && nat_lt glyph (be (take 2 (drop 3 bytes)))

range_there : (n glyph : ℕ) (bytes : List ℕ) → 5 ≤ length bytes
    → in_ranges (suc n) glyph bytes ≡ cond (front_has bytes glyph) (Some (slice_index bytes 2)) (in_ranges n glyph (drop 3 bytes))
unfolding in_ranges byte
range_there n glyph [] le = absurd (omega arith)
range_there n glyph (a ∷ []) le = absurd (omega arith)
range_there n glyph (a ∷ b ∷ []) le = absurd (omega arith)
range_there n glyph (a ∷ b ∷ c ∷ bytes) le = rw (two (a ∷ b ∷ c ∷ bytes) (omega arith), two bytes (omega arith)) refl

no_range : (n glyph : ℕ) (bytes : List ℕ) → length bytes < 5 → in_ranges n glyph bytes ≡ None
unfolding in_ranges byte
no_range zero glyph bytes lt = refl
no_range (suc n) glyph [] lt = rw (too_short [] (omega arith)) refl
no_range (suc n) glyph (a ∷ []) lt = rw (too_short (a ∷ []) (omega arith)) refl
no_range (suc n) glyph (a ∷ b ∷ []) lt = rw (two (a ∷ b ∷ []) (omega arith)) refl
no_range (suc n) glyph (a ∷ b ∷ c ∷ bytes) lt = rw (two (a ∷ b ∷ c ∷ bytes) (omega arith), too_short bytes (omega arith)) refl

-- ---- by their number
following : (bytes : List ℕ) (i : ℕ) → drop 3 (drop (3 * i + 2) bytes) ≡ drop (3 * (i + 1) + 2) bytes
following bytes i = drop-drop 3 (3 * i + 2) bytes ∙ ap (λ (n : ℕ). drop n bytes) (let e : 3 * i + 2 + 3 ≡ 3 * (i + 1) + 2 = omega arith in e)

same_number : (bytes : List ℕ) (i : ℕ) → slice_index (drop (3 * i + 2) bytes) 2 ≡ number_of_range bytes i
same_number bytes i = get_or-drop (3 * i + 2) bytes 2 0 ∙ ap (λ (n : ℕ). slice_index bytes n) (let e : 3 * i + 2 + 2 ≡ 3 * i + 4 = omega arith in e)

nothing : (glyph : ℕ) (bytes : List ℕ) → in_ranges 0 glyph bytes ≡ None
unfolding in_ranges
nothing glyph bytes = refl

next : (total n i : ℕ) (len : ℕ) → (suc n ≡ suc total) ⊎ (len < 3 * (i + suc n) + 7) → (n ≡ total) ⊎ (len < 3 * (i + 1 + n) + 7)
next total n i len (inl all) = inl (omega arith)
next total n i len (inr cut) = inr (omega arith)

-- as many ranges as are there
pub by_number : (bytes : List ℕ) (glyph total n i : ℕ) → n ≤ total → (0 < n → 3 * (i + n) + 4 ≤ length bytes) → (n ≡ total) ⊎ (length bytes < 3 * (i + n) + 7)
    → in_ranges total glyph (drop (3 * i + 2) bytes) ≡ found_from bytes glyph n i
by_number bytes glyph total zero i le room (inl all) = ap (λ (t : ℕ). in_ranges t glyph (drop (3 * i + 2) bytes)) (sym all) ∙ nothing glyph (drop (3 * i + 2) bytes)
by_number bytes glyph total zero i le room (inr cut) = no_range total glyph (drop (3 * i + 2) bytes) (omega (arith, length-drop (3 * i + 2) bytes))
by_number bytes glyph zero (suc n) i le room all = absurd (omega arith)
by_number bytes glyph (suc total) (suc n) i le room all =
    let r : 3 * (i + suc n) + 4 ≤ length bytes = room (omega arith) in
    let there : 5 ≤ length (drop (3 * i + 2) bytes) = omega (arith, length-drop (3 * i + 2) bytes) in
    range_there total glyph (drop (3 * i + 2) bytes) there
    ∙ rw (following bytes i, same_number bytes i, by_number bytes glyph total n (i + 1) (omega arith) (λ _. omega arith) (next total n i (length bytes) all)) refl
