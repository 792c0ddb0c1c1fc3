-- One more step of a list that is made.
use Rattle.std.proofs.Common.{◌≡◌, ℕ, suc, ◌+◌, ◌-◌, ◌<◌, ◌≤◌, List, [], ◌∷◌, ◌++◌, map, Option, Some, None, refl, sym, ap, ◌∙◌, append_assoc, append-nil, arith}
use Rattle.std.specs.Borrow.{Bor}
use Rattle.std.specs.Option.{option_map}
use Rattle.std.proofs.lemmas.List.{map-append}
use Rattle.glyph_names.specs.Post.{first_string, pascal_strings}
use Rattle.glyph_names.specs.Charset.{Run, next_sid, sids}

one_more : (n i : ℕ) → i < n → n - i ≡ suc (n - (i + 1))
one_more n i less = omega arith

-- a string is at the front
here : (n : ℕ) (bytes : List ℕ) (s : List ℕ × List ℕ) → first_string bytes ≡ Some s → pascal_strings (suc n) bytes ≡ s.0 ∷ pascal_strings n s.1
unfolding pascal_strings
here n bytes s h = rw h refl

none : (n : ℕ) (bytes : List ℕ) → first_string bytes ≡ None → pascal_strings (suc n) bytes ≡ []
unfolding pascal_strings
none n bytes h = rw h refl

pub string_next : (front : List (Bor (List ℕ))) (n i : ℕ) (rest : List ℕ) (s following : Bor (List ℕ)) (total : List (List ℕ)) → i < n → first_string rest ≡ Some (s.now, following.now) → map (λ x. x.now) front ++ pascal_strings (n - i) rest ≡ total → map (λ x. x.now) (front ++ s ∷ []) ++ pascal_strings (n - (i + 1)) following.now ≡ total
string_next front n i rest s following total less h t =
    let m = map-append (λ (x : Bor (List ℕ)). x.now) front (s ∷ []) in
    let now = map (λ (x : Bor (List ℕ)). x.now) front in
    let left = pascal_strings (n - (i + 1)) following.now in
    let all = ap (λ (k : ℕ). pascal_strings k rest) (one_more n i less) ∙ here (n - (i + 1)) rest (s.now, following.now) h in
    ap (λ (l : List (List ℕ)). l ++ left) m ∙ (append_assoc now (s.now ∷ []) left ∙ (ap (λ (l : List (List ℕ)). now ++ l) (sym all) ∙ t))

pub string_cut : (front : List (Bor (List ℕ))) (n i : ℕ) (rest : List ℕ) (total : List (List ℕ)) → i < n → first_string rest ≡ None → map (λ x. x.now) front ++ pascal_strings (n - i) rest ≡ total → map (λ x. x.now) front ≡ total
string_cut front n i rest total less h t =
    let now = map (λ (x : Bor (List ℕ)). x.now) front in
    let all = ap (λ (k : ℕ). pascal_strings k rest) (one_more n i less) ∙ none (n - (i + 1)) rest h in
    sym (append-nil now) ∙ (ap (λ (l : List (List ℕ)). now ++ l) (sym all) ∙ t)

pub strings_end : (front : List (Bor (List ℕ))) (n i : ℕ) (rest : List ℕ) (total : List (List ℕ)) → ¬ (i < n) → map (λ x. x.now) front ++ pascal_strings (n - i) rest ≡ total → map (λ x. x.now) front ≡ total
unfolding pascal_strings
strings_end front n i rest total more t =
    let zero_left : n - i ≡ 0 = omega arith in
    let now = map (λ (x : Bor (List ℕ)). x.now) front in
    sym (append-nil now) ∙ (ap (λ (k : ℕ). now ++ pascal_strings k rest) (sym zero_left) ∙ t)

-- ---- SIDs

sid_here : (format n : ℕ) (r : Run) (s : ℕ × Run) → next_sid format r ≡ Some s → sids format (suc n) r ≡ s.0 ∷ sids format n s.1
unfolding sids
sid_here format n r s h = rw h refl

no_sid : (format n : ℕ) (r : Run) → next_sid format r ≡ None → sids format (suc n) r ≡ []
unfolding sids
no_sid format n r h = rw h refl

pub sid_next : (format : ℕ) (front : List ℕ) (n i : ℕ) (r : Run) (s : ℕ) (after : Run) (total : List ℕ) → i < n → next_sid format r ≡ Some (s, after) → front ++ sids format (n - i) r ≡ total → (front ++ s ∷ []) ++ sids format (n - (i + 1)) after ≡ total
sid_next format front n i r s after total less h t =
    let left = sids format (n - (i + 1)) after in
    let all = ap (λ (k : ℕ). sids format k r) (one_more n i less) ∙ sid_here format (n - (i + 1)) r (s, after) h in
    append_assoc front (s ∷ []) left ∙ (ap (λ (l : List ℕ). front ++ l) (sym all) ∙ t)

pub sids_cut : (format : ℕ) (front : List ℕ) (n i : ℕ) (r : Run) (total : List ℕ) → i < n → next_sid format r ≡ None → front ++ sids format (n - i) r ≡ total → front ≡ total
sids_cut format front n i r total less h t =
    let all = ap (λ (k : ℕ). sids format k r) (one_more n i less) ∙ no_sid format (n - (i + 1)) r h in
    sym (append-nil front) ∙ (ap (λ (l : List ℕ). front ++ l) (sym all) ∙ t)

pub sids_end : (format : ℕ) (front : List ℕ) (n i : ℕ) (r : Run) (total : List ℕ) → n ≤ i → front ++ sids format (n - i) r ≡ total → front ≡ total
unfolding sids
sids_end format front n i r total more t =
    let zero_left : n - i ≡ 0 = omega arith in
    sym (append-nil front) ∙ (ap (λ (k : ℕ). front ++ sids format k r) (sym zero_left) ∙ t)

pub sid_later : (format : ℕ) (front new : List ℕ) (n i : ℕ) (r after : Run) (s : ℕ) (total : List ℕ) → i < n → Some (s, after) ≡ next_sid format r → new ≡ front ++ s ∷ [] → front ++ sids format (n - i) r ≡ total → new ++ sids format (n - (i + 1)) after ≡ total
sid_later format front new n i r after s total less h e t = ap (λ (l : List ℕ). l ++ sids format (n - (i + 1)) after) e ∙ sid_next format front n i r s after total less (sym h) t
