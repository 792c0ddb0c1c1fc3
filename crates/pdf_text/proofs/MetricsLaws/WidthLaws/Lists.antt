-- Lists of all widths, and what an array has room for.
use Rattle.std.proofs.Common.{◌≡◌, ℕ, suc, zero, ◌+◌, ◌-◌, ◌*◌, ◌<◌, ◌≤◌, ◌^◌, min, Bool, true, false, List, [], ◌∷◌, ◌++◌, length, take, drop, get_or, refl, sym, ap, subst, ◌∙◌, ◌⊎◌, inl, inr, arith, append_assoc, append-nil, length-take, length-drop, take_all, drop_of_length-le, drop-drop, drop-cons, get_or-drop}
use Rattle.std.specs.Prelude.{nat_le, if◌then◌else◌}
use Rattle.std.specs.List.{slice_range}
use Rattle.std.proofs.lemmas.Bool.Decides.{nat_tests}
use Rattle.std.proofs.lemmas.List.Elements.{All-take, All-drop}
use Rattle.pdf_text.specs.declared.metrics.arrays.Part.{Part}
use Rattle.pdf_text.specs.View.{part_view, parts_view}
use Rattle.pdf_text.specs.Metrics.Arrays.{Entry, each, width_in, entries_from, lists_from, elements_of, elements, has_room, entries, AreAtMost, AreFew}
use Rattle.pdf_text.proofs.MetricsLaws.WidthLaws.Read.{below_or_not, in_each, past_each, taken, entries_are_read}
use Rattle.pdf_text.proofs.MetricsLaws.WidthLaws.Text.{AreSmall, AllSmall}

-- ---- one list, and those after it

pub no_lists : (most n first : ℕ) → lists_from most n first [] ≡ []
no_lists most zero first = refl
no_lists most (suc n) first = refl

-- the same lists, however many there might be
enough : (most n m first : ℕ) (ws : List ℕ) → 0 < most → length ws ≤ n → length ws ≤ m → lists_from most n first ws ≡ lists_from most m first ws
enough most n m first [] p a b = no_lists most n first ∙ sym (no_lists most m first)
enough most zero m first (w ∷ ws) p a b = absurd (omega arith)
enough most (suc n) zero first (w ∷ ws) p a b = absurd (omega arith)
enough most (suc n) (suc m) first (w ∷ ws) p a b =
    let size = length-drop most (w ∷ ws) in
    ap (λ (es : List Entry). each first (take most (w ∷ ws)) ∷ es) (enough most n m (first + most) (drop most (w ∷ ws)) p (omega (arith, size)) (omega (arith, size)))

front_list : (most n first : ℕ) (ws : List ℕ) → 0 < length ws → 0 < n → lists_from most n first ws ≡ each first (take most ws) ∷ lists_from most (n - 1) (first + most) (drop most ws)
front_list most n first [] l m = absurd (omega arith)
front_list most zero first (w ∷ ws) l m = absurd (omega arith)
front_list most (suc n) first (w ∷ ws) l m =
    let e : n ≡ suc n - 1 = omega arith in
    ap (λ (k : ℕ). each first (take most (w ∷ ws)) ∷ lists_from most k (first + most) (drop most (w ∷ ws))) e

same_front : (first : ℕ) (a b : List ℕ) (es fs : List Entry) → a ≡ b → es ≡ fs → each first a ∷ es ≡ each first b ∷ fs
same_front first a b es fs p q = cc

none_left : (most n first k : ℕ) (ws : List ℕ) → length ws ≤ k → lists_from most n first (drop k ws) ≡ []
none_left most n first k ws l = ap (λ (vs : List ℕ). lists_from most n first vs) (drop_of_length-le ws {i = k} l) ∙ no_lists most n first

cut_by : (most first k : ℕ) (ws : List ℕ) → 0 < most → 0 < length ws → ((most ≤ length ws) × (k ≡ most)) ⊎ ((length ws < most) × (k ≡ length ws))
    → lists_from most (length ws) first ws ≡ each first (take k ws) ∷ lists_from most (length ws - k) (first + k) (drop k ws)
cut_by most first k ws p some (inl (le, e)) =
    let size = length-drop most ws in
    rw e (front_list most (length ws) first ws some some
    ∙ same_front first (take most ws) (take most ws) _ _ refl (enough most (length ws - 1) (length ws - most) (first + most) (drop most ws) p (omega (arith, size)) (omega (arith, size))))
cut_by most first k ws p some (inr (lt, e)) =
    rw e (front_list most (length ws) first ws some some
    ∙ same_front first (take most ws) (take (length ws) ws) _ _ (take_all most ws (omega arith) ∙ sym (take_all (length ws) ws (omega arith)))
    (none_left most (length ws - 1) (first + most) most ws (omega arith) ∙ sym (none_left most (length ws - length ws) (first + length ws) (length ws) ws (omega arith))))

-- which of the two it is
which : (most n k : ℕ) → k ≡ min most n → ((most ≤ n) × (k ≡ most)) ⊎ ((n < most) × (k ≡ n))
which most n k e = elim (below_or_not n most) [ inl l ↦ inr (l, omega arith) | inr l ↦ inl (l, omega arith) ]

joined : (old new all es front : List Entry) (e : Entry) → new ≡ old ++ e ∷ [] → front ≡ e ∷ es → old ++ front ≡ all → new ++ es ≡ all
joined old new all es front e n f a = rw n (append_assoc old (e ∷ []) es) ∙ ap (λ (l : List Entry). old ++ l) (sym f) ∙ a

cut_at : (most first following : ℕ) (widths : List ℕ) → 0 < most → first < length widths → following ≡ first + min most (length widths - first)
    → lists_from most (length widths - first) first (drop first widths) ≡ each first (slice_range widths first following) ∷ lists_from most (length widths - following) following (drop following widths)
cut_at most first following widths p l e =
    let k = following - first in
    let size : length (drop first widths) ≡ length widths - first = length-drop first widths in
    let left : length (drop first widths) - k ≡ length widths - following = omega (arith, size) in
    let next : first + k ≡ following = omega arith in
    let is : k ≡ min most (length (drop first widths)) = omega (arith, size) in
    ap (λ (n : ℕ). lists_from most n first (drop first widths)) (sym size)
    ∙ cut_by most first k (drop first widths) p (omega (arith, size)) (which most (length (drop first widths)) k is)
    ∙ same_front first (take k (drop first widths)) (take k (drop first widths)) _ _ refl
    (ap (λ (n : ℕ). lists_from most n (first + k) (drop k (drop first widths))) left
    ∙ ap (λ (vs : List ℕ). lists_from most (length widths - following) (first + k) vs) (drop-drop k first widths)
    ∙ ap (λ (n : ℕ). lists_from most (length widths - following) n (drop n widths)) next)

-- ---- the loop over widths

pub one_more_list : (most first following : ℕ) (old new all : List Entry) (widths : List ℕ) → 0 < most → first < length widths → following ≡ first + min most (length widths - first)
    → new ≡ old ++ each first (slice_range widths first following) ∷ []
    → old ++ lists_from most (length widths - first) first (drop first widths) ≡ all → new ++ lists_from most (length widths - following) following (drop following widths) ≡ all
one_more_list most first following old new all widths p l e n a =
    joined old new all _ _ (each first (slice_range widths first following)) n (cut_at most first following widths p l e) a

pub no_widths : (most first : ℕ) (front all : List Entry) (widths : List ℕ) → length widths ≤ first → front ++ lists_from most (length widths - first) first (drop first widths) ≡ all → front ≡ all
no_widths most first front all widths l a =
    sym (append-nil front) ∙ ap (λ (es : List Entry). front ++ es) (sym (none_left most (length widths - first) first first widths l)) ∙ a

-- ---- they say each width

pub lists_are_read : (most n first : ℕ) (ws : List ℕ) (d j : ℕ) → length ws ≤ n → 0 < most → j < length ws → width_in (lists_from most n first ws) d (first + j) ≡ get_or ws j d
lists_are_read most n first [] d j l p m = absurd (omega arith)
lists_are_read most zero first (w ∷ ws) d j l p m = absurd (omega arith)
lists_are_read most (suc n) first (w ∷ ws) d j l p m =
    let size : length (take most (w ∷ ws)) ≡ min most (suc (length ws)) = length-take most (w ∷ ws) in
    let rest : length (drop most (w ∷ ws)) ≡ suc (length ws) - most = length-drop most (w ∷ ws) in
    elim (below_or_not j most) [
      | inl here ↦ in_each first (take most (w ∷ ws)) (lists_from most n (first + most) (drop most (w ∷ ws))) d j (omega (arith, size)) ∙ taken most (w ∷ ws) d j here
      | inr following ↦
          past_each first (take most (w ∷ ws)) (lists_from most n (first + most) (drop most (w ∷ ws))) d (first + j) (inr (omega (arith, size)))
          ∙ ap (λ k. width_in (lists_from most n (first + most) (drop most (w ∷ ws))) d k) (let e : first + j ≡ (first + most) + (j - most) = omega arith in e)
          ∙ lists_are_read most n (first + most) (drop most (w ∷ ws)) d (j - most) (omega (arith, rest)) p (omega (arith, rest))
          ∙ get_or-drop most (w ∷ ws) (j - most) d
          ∙ ap (λ k. get_or (w ∷ ws) k d) (let e : most + (j - most) ≡ j = omega arith in e)
    ]

-- ---- their numbers are small, and no list is long

drop_small : (most n first : ℕ) (ws : List ℕ) → ((length ws ≤ most) ⊎ AllSmall (lists_from most n first (drop most ws))) → AllSmall (lists_from most n first (drop most ws))
drop_small most n first ws (inl l) = subst (λ (es : List Entry). AllSmall es) (sym (none_left most n first most ws l)) tt
drop_small most n first ws (inr h) = h

pub lists_small : (most n first : ℕ) (ws : List ℕ) → first + length ws < 2 ^ 64 → AreSmall ws → AllSmall (lists_from most n first ws)
lists_small most zero first ws l h = tt
lists_small most (suc n) first [] l h = tt
lists_small most (suc n) first (w ∷ ws) l h =
    let rest : length (drop most (w ∷ ws)) ≡ suc (length ws) - most = length-drop most (w ∷ ws) in (
      (omega arith, All-take (λ v. v < 2 ^ 64) most (w ∷ ws) h),
      drop_small most n (first + most) (w ∷ ws)
          (elim (below_or_not most (suc (length ws))) [
            | inl m ↦ inr (lists_small most n (first + most) (drop most (w ∷ ws)) (omega (arith, rest)) (All-drop (λ v. v < 2 ^ 64) most (w ∷ ws) h))
            | inr m ↦ inl m
          ]),
    )

pub lists_short : (bound most n first : ℕ) (ws : List ℕ) → most ≤ bound → AreAtMost bound (lists_from most n first ws)
lists_short bound most zero first ws l = tt
lists_short bound most (suc n) first [] l = tt
lists_short bound most (suc n) first (w ∷ ws) l =
    let size : length (take most (w ∷ ws)) ≡ min most (suc (length ws)) = length-take most (w ∷ ws) in
    (omega (arith, size), lists_short bound most n (first + most) (drop most (w ∷ ws)) l)

-- ---- there are few

abbrev pub times : ℕ → ℕ → ℕ
times zero most = 0
times (suc k) most = most + times k most

pub lists_few : (numbers most k n first : ℕ) (ws : List ℕ) → length ws ≤ times k most → elements numbers (lists_from most n first ws) ≤ 2 * k
lists_few numbers most k zero first ws l = omega arith
lists_few numbers most k (suc n) first [] l = omega arith
lists_few numbers most zero (suc n) first (w ∷ ws) l = absurd (omega arith)
lists_few numbers most (suc k) (suc n) first (w ∷ ws) l =
    let rest : length (drop most (w ∷ ws)) ≡ suc (length ws) - most = length-drop most (w ∷ ws) in
    let few : elements numbers (lists_from most n (first + most) (drop most (w ∷ ws))) ≤ 2 * k = lists_few numbers most k n (first + most) (drop most (w ∷ ws)) (omega (arith, rest)) in
    omega arith

room_is : (n : ℕ) → nat_le n 8191 ≡ true → n ≤ 8191
room_is n h = grind (arith, nat_tests)

few_by : (numbers : ℕ) (es fs : List Entry) (b : Bool) → has_room numbers es ≡ b → elements numbers fs ≤ 8191 → elements numbers (if b then es else fs) ≤ 8191
few_by numbers es fs true h l = room_is (elements numbers es) h
few_by numbers es fs false h l = l

pub few : (numbers : ℕ) (es fs : List Entry) → elements numbers fs ≤ 8191 → elements numbers (if has_room numbers es then es else fs) ≤ 8191
few numbers es fs l = few_by numbers es fs (has_room numbers es) refl l

pub entries_are_few : AreFew
entries_are_few ws d l =
    let lists : elements 1 (lists_from 8189 (length ws) 0 ws) ≤ 2 * 9 = lists_few 1 8189 9 (length ws) 0 ws (omega arith) in
    few 1 (entries_from 8189 0 d 0 ws) (lists_from 8189 (length ws) 0 ws) (omega arith)

-- ---- the room that is left

le_moved : (a b n : ℕ) → a ≤ n → nat_le (a + b) n ≡ nat_le b (n - a)
le_moved a b n l = grind (arith, nat_tests)

le_none : (a b n : ℕ) → n < a → nat_le (a + b) n ≡ false
le_none a b n l = grind (arith, nat_tests)

at_part : (numbers i : ℕ) (d : Part) (ps : List Part) → i < length ps
    → elements numbers (parts_view (drop i ps)) ≡ elements_of numbers (part_view (get_or ps i d)) + elements numbers (parts_view (drop (i + 1) ps))
at_part numbers i d ps l =
    ap (λ (l : List Part). elements numbers (parts_view l)) (drop-cons ps i d l)
    ∙ ap (λ (k : ℕ). elements_of numbers (part_view (get_or ps i d)) + elements numbers (parts_view (drop k ps))) (let e : suc i ≡ i + 1 = omega arith in e)

pub room_left : (numbers i left more : ℕ) (d : Part) (ps : List Part) (b : Bool) → i < length ps → more ≡ elements_of numbers (part_view (get_or ps i d)) → more ≤ left
    → nat_le (elements numbers (parts_view (drop i ps))) left ≡ b → nat_le (elements numbers (parts_view (drop (i + 1) ps))) (left - more) ≡ b
room_left numbers i left more d ps b l e m h =
    sym (le_moved more (elements numbers (parts_view (drop (i + 1) ps))) left m)
    ∙ ap (λ k. nat_le (k + elements numbers (parts_view (drop (i + 1) ps))) left) e
    ∙ ap (λ k. nat_le k left) (sym (at_part numbers i d ps l)) ∙ h

pub no_room_left : (numbers i left more : ℕ) (d : Part) (ps : List Part) (b : Bool) → i < length ps → more ≡ elements_of numbers (part_view (get_or ps i d)) → left < more
    → nat_le (elements numbers (parts_view (drop i ps))) left ≡ b → false ≡ b
no_room_left numbers i left more d ps b l e m h =
    sym (le_none more (elements numbers (parts_view (drop (i + 1) ps))) left m)
    ∙ ap (λ k. nat_le (k + elements numbers (parts_view (drop (i + 1) ps))) left) e
    ∙ ap (λ k. nat_le k left) (sym (at_part numbers i d ps l)) ∙ h

nothing_fits : (n : ℕ) → true ≡ nat_le 0 n
nothing_fits n = grind (arith, nat_tests)

pub room_for_all : (numbers i left : ℕ) (ps : List Part) (b : Bool) → length ps ≤ i → nat_le (elements numbers (parts_view (drop i ps))) left ≡ b → true ≡ b
room_for_all numbers i left ps b l h =
    nothing_fits left ∙ ap (λ (l : List Part). nat_le (elements numbers (parts_view l)) left) (sym (drop_of_length-le ps {i = i} l)) ∙ h

-- ---- one or the other

pub either : (P : List Entry → Type 0) (b : Bool) (es fs : List Entry) → P es → P fs → P (if b then es else fs)
either P true es fs p q = p
either P false es fs p q = q

pub entries_read : (ws : List ℕ) (d k : ℕ) → k < length ws → width_in (entries ws d) d k ≡ get_or ws k d
entries_read ws d k l =
    either (λ es. width_in es d k ≡ get_or ws k d) (has_room 1 (entries_from 8189 0 d 0 ws)) (entries_from 8189 0 d 0 ws) (lists_from 8189 (length ws) 0 ws)
    (entries_are_read 8189 ws d k)
    (let e : 0 + k ≡ k = omega arith in ap (λ i. width_in (lists_from 8189 (length ws) 0 ws) d i) (sym e) ∙ lists_are_read 8189 (length ws) 0 ws d k (omega arith) (omega arith) l)
