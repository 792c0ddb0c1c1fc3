-- One more digit.
use Rattle.std.proofs.Common.{◌≡◌, ℕ, suc, ◌+◌, ◌-◌, ◌<◌, ◌/◌, ◌%◌, ◌^◌, List, [], ◌∷◌, ◌++◌, sym, ap, ◌∙◌, append_assoc, append-nil, arith}
use Rattle.pdf_names.specs.Decimal.{digits}

next : (left m : ℕ) → 0 < left → digits left m ≡ (48 + m / 10 ^ (left - 1) % 10) ∷ digits (left - 1) m
unfolding digits
next left m less =
    let one : left ≡ suc (left - 1) = omega arith in
    ap (λ (k : ℕ). digits k m) one

pub one_digit : (w : List ℕ) (left m power d : ℕ) (total after : List ℕ) → 0 < left → power ≡ 10 ^ (left - 1) → d ≡ 48 + m / power % 10 → after ≡ w ++ d ∷ [] → w ++ digits left m ≡ total → after ++ digits (left - 1) m ≡ total
one_digit w left m power d total after less p is a t =
    let digit : d ≡ 48 + m / 10 ^ (left - 1) % 10 = is ∙ ap (λ (s : ℕ). 48 + m / s % 10) p in
    ap (λ (l : List ℕ). l ++ digits (left - 1) m) a ∙ (append_assoc w (d ∷ []) (digits (left - 1) m) ∙ (ap (λ (x : ℕ). w ++ (x ∷ digits (left - 1) m)) digit ∙ (ap (λ (l : List ℕ). w ++ l) (sym (next left m less)) ∙ t)))

pub no_digit : (w : List ℕ) (left m : ℕ) (total : List ℕ) → left ≡ 0 → w ++ digits left m ≡ total → w ≡ total
unfolding digits
no_digit w left m total none t = sym (append-nil w) ∙ (ap (λ (k : ℕ). w ++ digits k m) (sym none) ∙ t)
