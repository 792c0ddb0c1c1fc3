-- The length of outlines, as it is counted.
use Rattle.std.proofs.Common.{◌≡◌, ℕ, ◌+◌, ◌-◌, ◌<◌, ◌≤◌, ◌^◌, Bool, true, false, ltb, List, [], ◌∷◌, ◌++◌, length, refl, sym, ap, subst, ◌∙◌, arith}
use Rattle.std.specs.Prelude.{min}
use Rattle.std.proofs.lemmas.Bool.{lt-ltb, ltb-true, ltb-false}
use Rattle.std.proofs.lemmas.List.{length-append, append-nil}
use Rattle.std.proofs.lemmas.List.Concat.{flat_map-cons}
use Rattle.std.proofs.lemmas.Grind.{flat_map-append}
use Rattle.subsetter.specs.Glyf.Reaching.Unfold.{padded}
use Rattle.subsetter.specs.Glyf.Woven.{IsCounted}
use Rattle.subsetter.specs.Glyf.Written.{even_size, is_long, glyf_bytes}
use Rattle.subsetter.proofs.GlyfLaws.Back.{length-glyf_short}

length-glyf_push : (long : Bool) (all : List (List ℕ)) (o : List ℕ) → length (glyf_bytes long (all ++ o ∷ [])) ≡ length (glyf_bytes long all) + length (padded long o)
length-glyf_push long all o =
    let last : glyf_bytes long (o ∷ []) ≡ padded long o = flat_map-cons (padded long) o [] ∙ append-nil (padded long o) in
    ap length (flat_map-append (padded long) all (o ∷ [])) ∙ length-append (glyf_bytes long all) (glyf_bytes long (o ∷ [])) ∙ ap (λ (l : List ℕ). length (glyf_bytes long all) + length l) last

-- an outline more
pub counted_more : (long : Bool) (all after : List (List ℕ)) (o : List ℕ) (counted n next : ℕ) → IsCounted counted (length (glyf_bytes long all)) → after ≡ all ++ o ∷ [] → n ≡ length (padded long o) → next ≡ min (counted + n) (2 ^ 64 - 1) → IsCounted next (length (glyf_bytes long after))
counted_more long all after o counted n next c is size so =
    let len : length (glyf_bytes long after) ≡ length (glyf_bytes long all) + n = ap (λ l. length (glyf_bytes long l)) is ∙ length-glyf_push long all o ∙ ap (λ k. length (glyf_bytes long all) + k) (sym size) in
    by (ltb (length (glyf_bytes long all)) (2 ^ 32)) refl len
  where
    by : (b : Bool) → ltb (length (glyf_bytes long all)) (2 ^ 32) ≡ b → length (glyf_bytes long after) ≡ length (glyf_bytes long all) + n → IsCounted next (length (glyf_bytes long after))
    by true e len =
        let same = c.0 (ltb-true _ _ e) in
        (λ lt. omega (arith, same, len, lt, so), λ le. omega (arith, same, len, le, so))
    by false e len =
        let past = ltb-false (length (glyf_bytes long all)) (2 ^ 32) e in
        let more = c.1 past in
        (λ lt. absurd (omega (arith, len, lt, past)), λ le. omega (arith, more, so))

-- an empty outline more
pub counted_empty : (long : Bool) (all after : List (List ℕ)) (counted : ℕ) → IsCounted counted (length (glyf_bytes long all)) → after ≡ all ++ [] ∷ [] → IsCounted counted (length (glyf_bytes long after))
counted_empty long all after counted c is =
    let len : length (glyf_bytes long after) ≡ length (glyf_bytes long all) = ap (λ l. length (glyf_bytes long l)) is ∙ length-glyf_push long all [] ∙ omega (arith, none long) in
    subst (λ n. IsCounted counted n) (sym len) c
  where
    none : (b : Bool) → length (padded b []) ≡ 0
    none true = refl
    none false = refl

-- the format by the counted length
pub long_by_count : (bs : List (List ℕ)) (counted : ℕ) → (length (glyf_bytes false bs) < 2 ^ 32 → counted ≡ length (glyf_bytes false bs)) → (2 ^ 32 ≤ length (glyf_bytes false bs) → 2 ^ 32 ≤ counted) → ltb 131070 counted ≡ is_long bs
long_by_count bs counted exact past = by (ltb (length (glyf_bytes false bs)) (2 ^ 32)) refl
  where
    by : (b : Bool) → ltb (length (glyf_bytes false bs)) (2 ^ 32) ≡ b → ltb 131070 counted ≡ is_long bs
    by true e = ap (ltb 131070) (exact (ltb-true _ _ e) ∙ length-glyf_short bs)
    by false e =
        let le = ltb-false (length (glyf_bytes false bs)) (2 ^ 32) e in
        lt-ltb 131070 counted (omega (arith, past le)) ∙ sym (lt-ltb 131070 (even_size bs) (omega (arith, le, length-glyf_short bs)))
