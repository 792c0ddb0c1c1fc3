-- Descriptions that were written to `glyf` and `loca` are read back.
use Rattle.std.proofs.Common.{◌≡◌, ℕ, zero, suc, ◌+◌, ◌-◌, ◌*◌, ◌/◌, ◌%◌, ◌^◌, ◌<◌, ◌≤◌, Bool, true, false, cond, leb, List, [], ◌∷◌, ◌++◌, length, get_or, take, drop, Option, Some, None, refl, sym, ap, ◌∙◌, append_assoc, add-one, zero-add, arith}
use Rattle.std.specs.Prelude.{replicate}
use Rattle.std.specs.Option.{option_and_then, option_map}
use Rattle.std.specs.Int.{w16, w32, to_be_bytes}
use Rattle.std.proofs.lemmas.Bool.{le-leb, ltb-false}
use Rattle.std.proofs.lemmas.List.{length-append, length-replicate}
use Rattle.subsetter_base.specs.Bytes.{be, range, number, aligned, between_offsets}
use Rattle.subsetter_base.proofs.ByteLemmas.{be-u16, be-u32, range-middle}
use Rattle.subsetter_points.specs.Simple.{parts_bytes}
use Rattle.subsetter_instance.specs.Source.{Source, offset, description}
use Rattle.subsetter_instance.specs.Glyphs.Drawn.{Drawn}
use Rattle.subsetter_sfnt.specs.Fields.Loca.{offset_bytes, loca_bytes}
use Rattle.subsetter_instance.specs.Tables.Written.{outline_bytes, glyf_bytes, is_long, offsets_from}

-- ---- lengths

length-even : (b : List ℕ) → length (aligned 2 b) % 2 ≡ 0
length-even b =
    let n = (2 - length b % 2) % 2 in
    omega (arith, length-append b (replicate n 0), length-replicate {A = ℕ} n 0)

even_outline : (d : Option Drawn) → length (outline_bytes d) % 2 ≡ 0
even_outline None = refl
even_outline (Some d) = length-even (parts_bytes d.ends d.points)

even_place : (all : List (Option Drawn)) → length (glyf_bytes all) % 2 ≡ 0
even_place [] = refl
even_place (d ∷ all) = omega (arith, length-append (outline_bytes d) (glyf_bytes all), even_outline d, even_place all)

-- offsets of the chosen length can say each place
pub room : (long : Bool) (glyf : List ℕ) → long ≡ is_long glyf → length glyf < 2 ^ 32 → length glyf < cond long (2 ^ 32) (2 ^ 17)
room true glyf is lt = lt
room false glyf is lt = omega (arith, ltb-false 131070 (length glyf) (sym is))

-- ---- places

-- where the description of glyph i begins
abbrev place_of : List (Option Drawn) → ℕ → ℕ
place_of all i = length (glyf_bytes (take i all))

-- an entry of loca that was written
entry_back : (long : Bool) (k : ℕ) → ((n : ℕ) → length (offset_bytes long n) ≡ k) → (all : List (Option Drawn)) (i at : ℕ) (pre bytes : List ℕ) (p : ℕ) → i ≤ length all → bytes ≡ pre ++ loca_bytes long (offsets_from at all) → p ≡ length pre + k * i
    → range bytes p k ≡ Some (offset_bytes long (at + place_of all i))
entry_back long k wide [] zero at pre bytes p le is at_p =
    range-middle bytes pre (offset_bytes long at) [] p k is (omega arith) (sym (wide at)) ∙ ap (λ n. Some (offset_bytes long n)) (omega arith)
entry_back long k wide [] (suc i) at pre bytes p le is at_p = absurd (omega arith)
entry_back long k wide (d ∷ all) zero at pre bytes p le is at_p =
    range-middle bytes pre (offset_bytes long at) (loca_bytes long (offsets_from (at + length (outline_bytes d)) all)) p k is (omega arith) (sym (wide at)) ∙ ap (λ n. Some (offset_bytes long n)) (omega arith)
entry_back long k wide (d ∷ all) (suc i) at pre bytes p le is at_p =
    let o = offset_bytes long at in
    let next = at + length (outline_bytes d) in
    let regrouped : bytes ≡ (pre ++ o) ++ loca_bytes long (offsets_from next all) = is ∙ sym (append_assoc pre o (loca_bytes long (offsets_from next all))) in
    let there : p ≡ length (pre ++ o) + k * i = omega (arith, length-append pre o, wide at) in
    let sum : next + place_of all i ≡ at + place_of (d ∷ all) (suc i) = omega (arith, length-append (outline_bytes d) (glyf_bytes (take i all))) in
    entry_back long k wide all i next (pre ++ o) bytes p (omega arith) regrouped there ∙ ap (λ n. Some (offset_bytes long n)) sum

-- glyf, by one of its descriptions
split_at : (all : List (Option Drawn)) (i : ℕ) → i < length all → glyf_bytes all ≡ glyf_bytes (take i all) ++ (outline_bytes (get_or all i None) ++ glyf_bytes (drop (suc i) all))
split_at [] i lt = absurd (omega arith)
split_at (d ∷ all) zero lt = refl
split_at (d ∷ all) (suc i) lt = ap (λ (l : List ℕ). outline_bytes d ++ l) (split_at all i (omega arith)) ∙ sym (append_assoc (outline_bytes d) (glyf_bytes (take i all)) _)

place_more : (all : List (Option Drawn)) (i : ℕ) → i < length all → place_of all (suc i) ≡ place_of all i + length (outline_bytes (get_or all i None))
place_more [] i lt = absurd (omega arith)
place_more (d ∷ all) zero lt = length-append (outline_bytes d) [] ∙ omega arith
place_more (d ∷ all) (suc i) lt = omega (arith, length-append (outline_bytes d) (glyf_bytes (take (suc i) all)), length-append (outline_bytes d) (glyf_bytes (take i all)), place_more all i (omega arith))

place_within : (all : List (Option Drawn)) (i : ℕ) → place_of all i ≤ length (glyf_bytes all)
place_within all zero = omega arith
place_within [] (suc i) = omega arith
place_within (d ∷ all) (suc i) = omega (arith, length-append (outline_bytes d) (glyf_bytes (take i all)), length-append (outline_bytes d) (glyf_bytes all), place_within all i)

-- an offset that was written
offset_by : (long : Bool) (loca : List ℕ) (all : List (Option Drawn)) (i : ℕ) → loca ≡ loca_bytes long (offsets_from 0 all) → i ≤ length all → length (glyf_bytes all) < cond long (2 ^ 32) (2 ^ 17)
    → cond long (number loca (4 * i) 4) (option_map (λ half. 2 * half) (number loca (2 * i) 2)) ≡ Some (place_of all i)
offset_by true loca all i is le fit =
    let p = place_of all i in
    let small : p < 2 ^ 32 = omega (arith, place_within all i) in
    ap (option_map be) (entry_back true 4 (λ n. refl) all i 0 [] loca (4 * i) le is (omega arith)) ∙ ap (λ n. Some (be (to_be_bytes w32 n))) (zero-add p) ∙ ap Some (be-u32 p small)
offset_by false loca all i is le fit =
    let p = place_of all i in
    let small : p < 2 ^ 17 = omega (arith, place_within all i) in
    let even : 2 * (p / 2) ≡ p = omega (arith, even_place (take i all)) in
    ap (λ o. option_map (λ half. 2 * half) (option_map be o)) (entry_back false 2 (λ n. refl) all i 0 [] loca (2 * i) le is (omega arith)) ∙ ap (λ n. Some (2 * be (to_be_bytes w16 (n / 2)))) (zero-add p)
    ∙ ap (λ n. Some (2 * n)) (be-u16 (p / 2) (omega arith)) ∙ ap Some even

-- a description that was written
pub description_back : (t : Source) (all : List (Option Drawn)) (i : ℕ) → t.loca ≡ loca_bytes t.long (offsets_from 0 all) → t.glyf ≡ glyf_bytes all → i < length all → length (glyf_bytes all) < cond t.long (2 ^ 32) (2 ^ 17)
    → description t i ≡ Some (outline_bytes (get_or all i None))
unfolding description
description_back t all i is glyf_is lt fit =
    let b = outline_bytes (get_or all i None) in
    let from = place_of all i in
    let to = place_of all (suc i) in
    let starts : offset t i ≡ Some from = offset_by t.long t.loca all i is (omega arith) fit in
    let ends : offset t (i + 1) ≡ Some to = offset_by t.long t.loca all (i + 1) is (omega arith) fit ∙ ap (λ n. Some (place_of all n)) (add-one i) in
    let more : to ≡ from + length b = place_more all i lt in
    let order : leb from to ≡ true = le-leb _ _ (omega arith) in
    let part : range t.glyf from (to - from) ≡ Some b = range-middle t.glyf (glyf_bytes (take i all)) b (glyf_bytes (drop (suc i) all)) from (to - from) (glyf_is ∙ split_at all i lt) refl (omega arith) in
    ap (λ o. option_and_then (λ m. option_and_then (λ n. between_offsets t.glyf m n) (offset t (i + 1))) o) starts ∙ ap (λ o. option_and_then (λ n. between_offsets t.glyf from n) o) ends
    ∙ ap (λ c. cond c (range t.glyf from (to - from)) None) order ∙ part
