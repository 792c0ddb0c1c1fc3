-- Outlines that were added, and those before them, are read back.
--   IsFurther                    an outline of even length, and a metric of two bytes each
--   kept_outline                 an outline that was there
--   added_outline                one that was added
use Rattle.std.proofs.Common.{◌≡◌, ℕ, zero, suc, ◌+◌, ◌-◌, ◌%◌, ◌^◌, ◌<◌, ◌≤◌, Bool, true, false, cond, leb, ltb, List, [], ◌∷◌, ◌++◌, length, get_or, take, drop, Some, None, refl, sym, ap, subst, ◌∙◌, append_assoc, zero-add, arith}
use Rattle.std.specs.Prelude.{◌||◌}
use Rattle.std.specs.Option.{option_and_then}
use Rattle.std.specs.List.{AllByRecursion}
use Rattle.std.proofs.lemmas.Bool.{le-leb, ltb-false}
use Rattle.std.proofs.lemmas.List.{length-append, get_or_append_left, get_or-append-add}
use Rattle.subsetter_base.specs.Bytes.{IsBytes, range, between_offsets}
use Rattle.subsetter_base.proofs.ByteLemmas.{range-left, range-middle}
use Rattle.subsetter_sfnt.specs.Fields.Loca.{loca_bytes, loca_offset}
use Rattle.subsetter_sfnt.proofs.Laws.FieldsLaws.HmtxLaws.{IsSmall}
use Rattle.subsetter.specs.Glyf.Read.{Outlines, offset, outline_in}
use Rattle.own_glyphs.specs.Source.{AreOffsets, Source}
use Rattle.own_glyphs.specs.Written.{Further, ends_from, glyf_with, is_long, offsets_with, outlines}
use Rattle.own_glyphs.proofs.Loca.{FitsEntry, fits_longer, offset_back, offset_fits}
use Rattle.own_glyphs.proofs.Values.{from_at}

pub record IsFurther (f : Further) : Type 0 where
  pub even : length f.outline % 2 ≡ 0
  pub small : IsSmall f.metric

-- what a place past the end would hold
abbrev pub nothing : Further
nothing = record { outline = []; metric = record { advance_width = 0; lsb = 0 } }

-- ---- places

-- where the i-th begins, after the glyphs that were there
abbrev pub place_of : List Further → ℕ → ℕ
place_of more i = length (outlines (take i more))

end_at : (at : ℕ) (more : List Further) (i : ℕ) → i < length more → get_or (ends_from at more) i 0 ≡ at + place_of more (suc i)
end_at at [] i lt = absurd (omega arith)
end_at at (f ∷ more) zero lt = omega (arith, length-append f.outline (outlines (take zero more)))
end_at at (f ∷ more) (suc i) lt = omega (arith, end_at (at + length f.outline) more i (omega arith), length-append f.outline (outlines (take (suc i) more)))

pub length-ends : (at : ℕ) (more : List Further) → length (ends_from at more) ≡ length more
length-ends at [] = refl
length-ends at (f ∷ more) = ap suc (length-ends (at + length f.outline) more)

even_place : (more : List Further) (i : ℕ) → AllByRecursion IsFurther more → place_of more i % 2 ≡ 0
even_place more zero all = refl
even_place [] (suc i) all = refl
even_place (f ∷ more) (suc i) all = omega (arith, length-append f.outline (outlines (take i more)), all.0.even, even_place more i all.1)

place_within : (more : List Further) (i : ℕ) → place_of more i ≤ length (outlines more)
place_within more zero = omega arith
place_within [] (suc i) = omega arith
place_within (f ∷ more) (suc i) = omega (arith, length-append f.outline (outlines (take i more)), length-append f.outline (outlines more), place_within more i)

split_at : (more : List Further) (i : ℕ) → i < length more → outlines more ≡ outlines (take i more) ++ ((get_or more i nothing).outline ++ outlines (drop (suc i) more))
split_at [] i lt = absurd (omega arith)
split_at (f ∷ more) zero lt = refl
split_at (f ∷ more) (suc i) lt = ap (λ (l : List ℕ). f.outline ++ l) (split_at more i (omega arith)) ∙ sym (append_assoc f.outline (outlines (take i more)) _)

place_more : (more : List Further) (i : ℕ) → i < length more → place_of more (suc i) ≡ place_of more i + length (get_or more i nothing).outline
place_more [] i lt = absurd (omega arith)
place_more (f ∷ more) zero lt = length-append f.outline [] ∙ omega arith
place_more (f ∷ more) (suc i) lt = omega (arith, length-append f.outline (outlines (take (suc i) more)), length-append f.outline (outlines (take i more)), place_more more i (omega arith))

-- ---- outlines by two offsets

outline_by : (t : Outlines) (g a b : ℕ) → offset t g ≡ Some a → offset t (g + 1) ≡ Some b → outline_in t g ≡ between_offsets t.glyf a b
unfolding outline_in
outline_by t g a b x y = ap (λ o. option_and_then (λ m. option_and_then (λ n. between_offsets t.glyf m n) (offset t (g + 1))) o) x ∙ ap (λ o. option_and_then (λ n. between_offsets t.glyf a n) o) y

between_left : (xs ys p : List ℕ) (a b : ℕ) → between_offsets xs a b ≡ Some p → between_offsets (xs ++ ys) a b ≡ Some p
between_left xs ys p a b h = by (leb a b) h
  where
    by : (t : Bool) → cond t (range xs a (b - a)) None ≡ Some p → cond t (range (xs ++ ys) a (b - a)) None ≡ Some p
    by true k = range-left xs ys p a (b - a) k
    by false k = absurd cc

between_middle : (bytes pre mid post : List ℕ) (a b : ℕ) → bytes ≡ pre ++ (mid ++ post) → a ≡ length pre → b ≡ a + length mid → between_offsets bytes a b ≡ Some mid
between_middle bytes pre mid post a b is at to =
    ap (λ c. cond c (range bytes a (b - a)) None) (le-leb a b (omega arith)) ∙ range-middle bytes pre mid post a (b - a) is at (omega arith)

-- ---- the new tables

or_false : (a b : Bool) → (a || b) ≡ false → (a ≡ false) × (b ≡ false)
or_false true b h = absurd cc
or_false false b h = (refl, h)

module _ (s : Source) (offsets : List ℕ) (are : AreOffsets s offsets) (bytes : IsBytes s.loca) (more : List Further) (all : AllByRecursion IsFurther more) (small : length (glyf_with s more) < 2 ^ 32) where
  abbrev long : Bool
  long = is_long s more

  abbrev new : List ℕ
  new = offsets_with s offsets more

  was_short : long ≡ false → s.long ≡ false
  was_short e = (or_false s.long (ltb 131070 (length (glyf_with s more))) e).0

  old_offset : (i : ℕ) → i ≤ s.count → loca_offset s.loca s.long i ≡ Some (get_or offsets i 0)
  old_offset i le = ap (loca_offset s.loca s.long) (sym (zero-add i)) ∙ from_at (loca_offset s.loca s.long) 0 i offsets 0 are.each (omega (arith, are.count))

  old_place : (i : ℕ) → i ≤ s.count → get_or new i 0 ≡ get_or offsets i 0
  old_place i le = get_or_append_left offsets (ends_from (length s.glyf) more) 0 i (omega (arith, are.count))

  new_place : (i : ℕ) → i ≤ length more → get_or new (s.count + i) 0 ≡ length s.glyf + place_of more i
  new_place zero le =
      let same : s.count + zero ≡ s.count = omega arith in
      let start : length s.glyf ≡ length s.glyf + place_of more zero = omega arith in
      ap (λ k. get_or new k 0) same ∙ old_place s.count (omega arith) ∙ are.end ∙ start
  new_place (suc i) le =
      let same : s.count + suc i ≡ length offsets + i = omega (arith, are.count) in
      ap (λ k. get_or new k 0) same ∙ get_or-append-add offsets (ends_from (length s.glyf) more) i 0 ∙ end_at (length s.glyf) more i (omega arith)

  even_glyf : s.long ≡ false → length s.glyf % 2 ≡ 0
  even_glyf e =
      let last : loca_offset s.loca s.long s.count ≡ Some (length s.glyf) = old_offset s.count (omega arith) ∙ ap Some are.end in
      let fit : FitsEntry false (length s.glyf) = subst (λ b. FitsEntry b (length s.glyf)) e (offset_fits s.long s.loca s.count (length s.glyf) bytes last) in
      fit.1

  new_fits_by : (b : Bool) → long ≡ b → (i : ℕ) → FitsEntry b (length s.glyf + place_of more i)
  new_fits_by true e i = omega (arith, length-append s.glyf (outlines more), place_within more i, small)
  new_fits_by false e i =
      let o = or_false s.long (ltb 131070 (length (glyf_with s more))) e in
      let most = ltb-false 131070 (length (glyf_with s more)) o.1 in
      let even = even_glyf o.0 in
      (omega (arith, most, length-append s.glyf (outlines more), place_within more i), omega (arith, even, even_place more i all))

  length-new : length new ≡ s.count + 1 + length more
  length-new = omega (arith, length-append offsets (ends_from (length s.glyf) more), length-ends (length s.glyf) more, are.count)

  old_back : (i : ℕ) → i ≤ s.count → loca_offset (loca_bytes long new) long i ≡ Some (get_or offsets i 0)
  old_back i le =
      let fit : FitsEntry long (get_or offsets i 0) = fits_longer s.long long (get_or offsets i 0) was_short (offset_fits s.long s.loca i (get_or offsets i 0) bytes (old_offset i le)) in
      let same = old_place i le in
      offset_back long new i (omega (arith, length-new)) (subst (FitsEntry long) (sym same) fit) ∙ ap Some same

  new_back : (i : ℕ) → i ≤ length more → loca_offset (loca_bytes long new) long (s.count + i) ≡ Some (length s.glyf + place_of more i)
  new_back i le =
      let same = new_place i le in
      offset_back long new (s.count + i) (omega (arith, length-new)) (subst (FitsEntry long) (sym same) (new_fits_by long refl i)) ∙ ap Some same

  module _ (t u : Outlines) (loca_is : t.loca ≡ s.loca) (glyf_is : t.glyf ≡ s.glyf) (long_is : t.long ≡ s.long) (new_loca_is : u.loca ≡ loca_bytes long new) (new_glyf_is : u.glyf ≡ glyf_with s more) (new_long_is : u.long ≡ long) where
    from_old : (i : ℕ) → i ≤ s.count → offset t i ≡ Some (get_or offsets i 0)
    from_old i le = ap (λ l. loca_offset l t.long i) loca_is ∙ ap (λ b. loca_offset s.loca b i) long_is ∙ old_offset i le

    from_new : (i n : ℕ) → loca_offset (loca_bytes long new) long i ≡ Some n → offset u i ≡ Some n
    from_new i n h = ap (λ l. loca_offset l u.long i) new_loca_is ∙ ap (λ b. loca_offset (loca_bytes long new) b i) new_long_is ∙ h

    pub kept_outline : (g : ℕ) (p : List ℕ) → g < s.count → outline_in t g ≡ Some p → outline_in u g ≡ Some p
    kept_outline g p lt h =
        let a = get_or offsets g 0 in
        let b = get_or offsets (g + 1) 0 in
        let was : between_offsets s.glyf a b ≡ Some p = ap (λ l. between_offsets l a b) (sym glyf_is) ∙ sym (outline_by t g a b (from_old g (omega arith)) (from_old (g + 1) (omega arith))) ∙ h in
        outline_by u g a b (from_new g a (old_back g (omega arith))) (from_new (g + 1) b (old_back (g + 1) (omega arith))) ∙ ap (λ l. between_offsets l a b) new_glyf_is ∙ between_left s.glyf (outlines more) p a b was

    pub added_outline : (i : ℕ) → i < length more → outline_in u (s.count + i) ≡ Some (get_or more i nothing).outline
    added_outline i lt =
        let f = get_or more i nothing in
        let a = length s.glyf + place_of more i in
        let b = length s.glyf + place_of more (suc i) in
        let next : s.count + i + 1 ≡ s.count + suc i = omega arith in
        let end : offset u (s.count + i + 1) ≡ Some b = ap (offset u) next ∙ from_new (s.count + suc i) b (new_back (suc i) (omega arith)) in
        let pre = s.glyf ++ outlines (take i more) in
        let post = outlines (drop (suc i) more) in
        let whole : glyf_with s more ≡ pre ++ (f.outline ++ post) = ap (λ l. s.glyf ++ l) (split_at more i lt) ∙ sym (append_assoc s.glyf (outlines (take i more)) (f.outline ++ post)) in
        outline_by u (s.count + i) a b (from_new (s.count + i) a (new_back i (omega arith))) end ∙ ap (λ l. between_offsets l a b) new_glyf_is
        ∙ between_middle (glyf_with s more) pre f.outline post a b whole (sym (length-append s.glyf (outlines (take i more)))) (omega (arith, place_more more i lt))
