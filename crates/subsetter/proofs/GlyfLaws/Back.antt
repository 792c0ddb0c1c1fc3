-- Outlines that were written are read back.
use Rattle.std.proofs.Common.{◌≡◌, ℕ, zero, suc, ◌+◌, ◌-◌, ◌*◌, ◌/◌, ◌%◌, ◌^◌, ◌<◌, ◌≤◌, Bool, true, false, cond, leb, List, [], ◌∷◌, ◌++◌, length, get_or, take, drop, Option, Some, None, refl, sym, ap, ◌∙◌, append_assoc, add-one, zero-add, arith}
use Rattle.std.specs.Option.{option_and_then, option_map}
use Rattle.std.specs.Int.{w16, w32, to_be_bytes}
use Rattle.std.proofs.lemmas.Bool.{le-leb, ltb-false}
use Rattle.std.proofs.lemmas.List.{append-nil, length-append, length-replicate}
use Rattle.std.proofs.lemmas.List.Sums.{sum_by-cons}
use Rattle.std.proofs.lemmas.List.Concat.{flat_map-cons}
use Rattle.std.specs.Prelude.{replicate}
use Rattle.subsetter_base.specs.Bytes.{be, range, number, aligned, between_offsets}
use Rattle.subsetter_base.proofs.ByteLemmas.{be-u16, be-u32, range-middle, number-fits}
use Rattle.subsetter_base.proofs.Options.{bind_some}
use Rattle.subsetter.specs.Glyf.Read.{Outlines, entry_size, offset, outline_in}
use Rattle.subsetter.specs.Glyf.Reaching.Unfold.{padded}
use Rattle.subsetter_sfnt.specs.Fields.Loca.{offset_bytes}
use Rattle.subsetter.specs.Glyf.Written.{even_size, is_long, glyf_bytes, loca_bytes}

-- ---- lengths

pub length-even : (b : List ℕ) → length (aligned 2 b) ≡ length b + length b % 2
length-even b =
    let n = (2 - length b % 2) % 2 in
    omega (arith, length-append b (replicate n 0), length-replicate {A = ℕ} n 0)

pub length-glyf_short : (bs : List (List ℕ)) → length (glyf_bytes false bs) ≡ even_size bs
length-glyf_short [] = refl
length-glyf_short (b ∷ bs) = omega (arith, sum_by-cons (λ (x : List ℕ). length x + length x % 2) b bs, ap length (flat_map-cons (padded false) b bs), length-append (aligned 2 b) (glyf_bytes false bs), length-even b, length-glyf_short bs)

pub loca_room : (bs : List (List ℕ)) (long : Bool) → long ≡ is_long bs → length (glyf_bytes long bs) < 2 ^ 32 → length (glyf_bytes long bs) < cond long (2 ^ 32) (2 ^ 17)
loca_room bs true is lt = lt
loca_room bs false is lt = omega (arith, length-glyf_short bs, ltb-false 131070 (even_size bs) (sym is))

-- ---- places

-- where outline i begins
abbrev pub place_of : Bool → List (List ℕ) → ℕ → ℕ
place_of long bs i = length (glyf_bytes long (take i bs))

-- an entry of loca that was written
pub entry_back : (long : Bool) (k : ℕ) → ((n : ℕ) → length (offset_bytes long n) ≡ k) → (bs : List (List ℕ)) (i at : ℕ) (pre bytes : List ℕ) (p : ℕ) → i ≤ length bs → bytes ≡ pre ++ loca_bytes long at bs → p ≡ length pre + k * i
    → range bytes p k ≡ Some (offset_bytes long (at + place_of long bs i))
entry_back long k wide [] zero at pre bytes p le is at_p =
    range-middle bytes pre (offset_bytes long at) [] p k (is ∙ ap (λ (l : List ℕ). pre ++ l) (sym (append-nil (offset_bytes long at)))) (omega arith) (sym (wide at)) ∙ ap (λ n. Some (offset_bytes long n)) (omega arith)
entry_back long k wide [] (suc i) at pre bytes p le is at_p = absurd (omega arith)
entry_back long k wide (b ∷ bs) zero at pre bytes p le is at_p =
    range-middle bytes pre (offset_bytes long at) (loca_bytes long (at + length (padded long b)) bs) p k is (omega arith) (sym (wide at)) ∙ ap (λ n. Some (offset_bytes long n)) (omega arith)
entry_back long k wide (b ∷ bs) (suc i) at pre bytes p le is at_p =
    let o = offset_bytes long at in
    let next = at + length (padded long b) in
    let regrouped : bytes ≡ (pre ++ o) ++ loca_bytes long next bs = is ∙ sym (append_assoc pre o (loca_bytes long next bs)) in
    let there : p ≡ length (pre ++ o) + k * i = omega (arith, length-append pre o, wide at) in
    let sum : next + place_of long bs i ≡ at + place_of long (b ∷ bs) (suc i) = omega (arith, length-append (padded long b) (glyf_bytes long (take i bs))) in
    entry_back long k wide bs i next (pre ++ o) bytes p (omega arith) regrouped there ∙ ap (λ n. Some (offset_bytes long n)) sum

-- a glyf table, by one of its outlines
pub split_at : (long : Bool) (bs : List (List ℕ)) (i : ℕ) → i < length bs → glyf_bytes long bs ≡ glyf_bytes long (take i bs) ++ (padded long (get_or bs i []) ++ glyf_bytes long (drop (suc i) bs))
split_at long [] i lt = absurd (omega arith)
split_at long (b ∷ bs) zero lt = refl
split_at long (b ∷ bs) (suc i) lt = ap (λ (l : List ℕ). padded long b ++ l) (split_at long bs i (omega arith)) ∙ sym (append_assoc (padded long b) (glyf_bytes long (take i bs)) _)

pub place_more : (long : Bool) (bs : List (List ℕ)) (i : ℕ) → i < length bs → place_of long bs (suc i) ≡ place_of long bs i + length (padded long (get_or bs i []))
place_more long [] i lt = absurd (omega arith)
place_more long (b ∷ bs) zero lt = length-append (padded long b) [] ∙ omega arith
place_more long (b ∷ bs) (suc i) lt = omega (arith, length-append (padded long b) (glyf_bytes long (take (suc i) bs)), length-append (padded long b) (glyf_bytes long (take i bs)), place_more long bs i (omega arith))

pub place_within : (long : Bool) (bs : List (List ℕ)) (i : ℕ) → place_of long bs i ≤ length (glyf_bytes long bs)
place_within long bs zero = omega arith
place_within long [] (suc i) = omega arith
place_within long (b ∷ bs) (suc i) = omega (arith, length-append (padded long b) (glyf_bytes long (take i bs)), length-append (padded long b) (glyf_bytes long bs), place_within long bs i)

pub even_place : (bs : List (List ℕ)) → length (glyf_bytes false bs) % 2 ≡ 0
even_place [] = refl
even_place (b ∷ bs) = omega (arith, length-append (aligned 2 b) (glyf_bytes false bs), length-even b, even_place bs)

-- an offset that was written
offset_by : (long : Bool) (loca : List ℕ) (bs : List (List ℕ)) (i : ℕ) → loca ≡ loca_bytes long 0 bs → i ≤ length bs → length (glyf_bytes long bs) < cond long (2 ^ 32) (2 ^ 17)
    → cond long (number loca (4 * i) 4) (option_map (λ half. 2 * half) (number loca (2 * i) 2)) ≡ Some (place_of long bs i)
offset_by true loca bs i is le fit =
    let p = place_of true bs i in
    let small : p < 2 ^ 32 = omega (arith, place_within true bs i) in
    ap (option_map be) (entry_back true 4 (λ n. refl) bs i 0 [] loca (4 * i) le is (omega arith)) ∙ ap (λ n. Some (be (to_be_bytes w32 n))) (zero-add p) ∙ ap Some (be-u32 p small)
offset_by false loca bs i is le fit =
    let p = place_of false bs i in
    let small : p < 2 ^ 17 = omega (arith, place_within false bs i) in
    let even : 2 * (p / 2) ≡ p = omega (arith, even_place (take i bs)) in
    ap (λ o. option_map (λ half. 2 * half) (option_map be o)) (entry_back false 2 (λ n. refl) bs i 0 [] loca (2 * i) le is (omega arith)) ∙ ap (λ n. Some (2 * be (to_be_bytes w16 (n / 2)))) (zero-add p)
    ∙ ap (λ n. Some (2 * n)) (be-u16 (p / 2) (omega arith)) ∙ ap Some even

-- an outline that was written
pub outline_back : (t : Outlines) (bs : List (List ℕ)) (i : ℕ) → t.loca ≡ loca_bytes t.long 0 bs → t.glyf ≡ glyf_bytes t.long bs → i < length bs → length (glyf_bytes t.long bs) < cond t.long (2 ^ 32) (2 ^ 17)
    → outline_in t i ≡ Some (padded t.long (get_or bs i []))
unfolding outline_in
outline_back t bs i is glyf_is lt fit =
    let b = padded t.long (get_or bs i []) in
    let from = place_of t.long bs i in
    let to = place_of t.long bs (suc i) in
    let starts : offset t i ≡ Some from = offset_by t.long t.loca bs i is (omega arith) fit in
    let ends : offset t (i + 1) ≡ Some to = offset_by t.long t.loca bs (i + 1) is (omega arith) fit ∙ ap (λ n. Some (place_of t.long bs n)) (add-one i) in
    let more : to ≡ from + length b = place_more t.long bs i lt in
    let order : leb from to ≡ true = le-leb _ _ (omega arith) in
    let part : range t.glyf from (to - from) ≡ Some b = range-middle t.glyf (glyf_bytes t.long (take i bs)) b (glyf_bytes t.long (drop (suc i) bs)) from (to - from) (glyf_is ∙ split_at t.long bs i lt) refl (omega arith) in
    ap (λ o. option_and_then (λ m. option_and_then (λ n. between_offsets t.glyf m n) (offset t (i + 1))) o) starts ∙ ap (λ o. option_and_then (λ n. between_offsets t.glyf from n) o) ends
    ∙ ap (λ c. cond c (range t.glyf from (to - from)) None) order ∙ part

-- ---- tables that were written from a list of outlines

pub record AreWritten (bs : List (List ℕ)) (t : Outlines) : Type 0 where
  pub long_is : t.long ≡ is_long bs
  pub glyf_is : t.glyf ≡ glyf_bytes (is_long bs) bs
  pub loca_is : t.loca ≡ loca_bytes (is_long bs) 0 bs
  pub small : length t.glyf < 2 ^ 32

-- each outline is read back, with its padding
pub read_back : (bs : List (List ℕ)) (t : Outlines) (i : ℕ) → AreWritten bs t → i < length bs → outline_in t i ≡ Some (padded t.long (get_or bs i []))
read_back bs t i w lt =
    let glyf : t.glyf ≡ glyf_bytes t.long bs = w.glyf_is ∙ ap (λ b. glyf_bytes b bs) (sym w.long_is) in
    let loca : t.loca ≡ loca_bytes t.long 0 bs = w.loca_is ∙ ap (λ b. loca_bytes b 0 bs) (sym w.long_is) in
    outline_back t bs i loca glyf lt (loca_room bs t.long w.long_is (omega (arith, ap length glyf, w.small)))

length-loca : (long : Bool) (at : ℕ) (bs : List (List ℕ)) → length (loca_bytes long at bs) ≡ entry_size long * (length bs + 1)
length-loca true at [] = refl
length-loca false at [] = refl
length-loca true at (b ∷ bs) = omega (arith, length-append (offset_bytes true at) (loca_bytes true (at + length (padded true b)) bs), length-loca true (at + length (padded true b)) bs)
length-loca false at (b ∷ bs) = omega (arith, length-append (offset_bytes false at) (loca_bytes false (at + length (padded false b)) bs), length-loca false (at + length (padded false b)) bs)

-- loca has one entry more than there are outlines
pub entry_count : (bs : List (List ℕ)) (t : Outlines) → AreWritten bs t → length t.loca ≡ entry_size t.long * (length bs + 1)
entry_count bs t w = ap length w.loca_is ∙ length-loca (is_long bs) 0 bs ∙ ap (λ b. entry_size b * (length bs + 1)) (sym w.long_is)

-- ---- a glyph that has an outline is one of those that loca counts

within_entries : (long : Bool) (loca : List ℕ) (n g to : ℕ) → length loca ≡ entry_size long * (n + 1) → cond long (number loca (4 * (g + 1)) 4) (option_map (λ half. 2 * half) (number loca (2 * (g + 1)) 2)) ≡ Some to → g < n
within_entries true loca n g to len h = omega (arith, len, number-fits loca (4 * (g + 1)) 4 to h)
within_entries false loca n g to len h = by (number loca (2 * (g + 1)) 2) refl h
  where
    by : (o : Option ℕ) → number loca (2 * (g + 1)) 2 ≡ o → option_map (λ half. 2 * half) o ≡ Some to → g < n
    by None r k = absurd cc
    by (Some half) r k = omega (arith, len, number-fits loca (2 * (g + 1)) 2 half r)

pub has_entry : (t : Outlines) (n g : ℕ) (bytes : List ℕ) → length t.loca ≡ entry_size t.long * (n + 1) → outline_in t g ≡ Some bytes → g < n
unfolding outline_in
has_entry t n g bytes len h =
    let a = bind_some (offset t g) (λ from. option_and_then (λ to. between_offsets t.glyf from to) (offset t (g + 1))) bytes h in
    let b = bind_some (offset t (g + 1)) (λ to. between_offsets t.glyf a.0 to) bytes a.2 in
    within_entries t.long t.loca n g b.0 len b.1
