-- A list of outlines of which some are borrowed and the others are in one piece, one after another, and one more after them.
use Rattle.std.proofs.Common.{◌≡◌, ◌<◌, ◌≤◌, ℕ, Bool, true, false, List, [], ◌∷◌, ◌++◌, length, take, drop, refl, ap, ◌∙◌, arith}
use Rattle.std.proofs.lemmas.List.{take-append-le, drop-append-le, length-append, take_all}
use Rattle.std.specs.Borrow.{Bor}
use Rattle.subsetter.specs.Common.Name.View.{nows}
use Rattle.subsetter.specs.Glyf.BareOutlines.Bare.{bare_simple, requested_simple}
use Rattle.subsetter.specs.Glyf.Woven.{woven, AreWoven}
use Rattle.subsetter.proofs.CommonLaws.NameLaws.Written.{nows-push}

-- there is a byte
abbrev pub IsFilled : List ℕ → Type 0
IsFilled [] = ⊥
IsFilled (x ∷ xs) = Unit {0}

pub filled : (l : List ℕ) → 1 ≤ length l → IsFilled l
filled [] h = absurd (omega arith)
filled (x ∷ xs) h = tt

-- an empty outline has no instructions
pub asked_empty : (hint : Bool) (l : List ℕ) → length l < 1 → requested_simple hint l ≡ []
unfolding bare_simple
asked_empty true [] h = refl
asked_empty false [] h = refl
asked_empty hint (x ∷ l) h = absurd (omega (arith, h))

-- a borrowed one, which isn't empty
pub woven_kept : (hint : Bool) (kept : List (List ℕ)) (sizes bytes : List ℕ) (x : ℕ) (xs : List ℕ) → AreWoven kept sizes bytes → woven hint (kept ++ (x ∷ xs) ∷ []) sizes bytes ≡ woven hint kept sizes bytes ++ requested_simple hint (x ∷ xs) ∷ []
woven_kept hint [] sizes bytes x xs h = refl
woven_kept hint ([] ∷ kept) [] bytes x xs h = absurd h
woven_kept hint ([] ∷ kept) (n ∷ sizes) bytes x xs h = ap (λ l. take n bytes ∷ l) (woven_kept hint kept sizes (drop n bytes) x xs h.1)
woven_kept hint ((y ∷ ys) ∷ kept) sizes bytes x xs h = ap (λ l. requested_simple hint (y ∷ ys) ∷ l) (woven_kept hint kept sizes bytes x xs h)

pub are_kept : (kept : List (List ℕ)) (sizes bytes : List ℕ) (x : ℕ) (xs : List ℕ) → AreWoven kept sizes bytes → AreWoven (kept ++ (x ∷ xs) ∷ []) sizes bytes
are_kept [] sizes bytes x xs h = h
are_kept ([] ∷ kept) [] bytes x xs h = absurd h
are_kept ([] ∷ kept) (n ∷ sizes) bytes x xs h = (h.0, are_kept kept sizes (drop n bytes) x xs h.1)
are_kept ((y ∷ ys) ∷ kept) sizes bytes x xs h = are_kept kept sizes bytes x xs h

-- one that is made
pub woven_made : (hint : Bool) (kept : List (List ℕ)) (sizes bytes b : List ℕ) → AreWoven kept sizes bytes → woven hint (kept ++ [] ∷ []) (sizes ++ length b ∷ []) (bytes ++ b) ≡ woven hint kept sizes bytes ++ b ∷ []
woven_made hint [] sizes bytes b (p, q) = rw (p, q) (ap (λ (l : List ℕ). l ∷ []) (take_all (length b) b (omega arith)))
woven_made hint ([] ∷ kept) [] bytes b h = absurd h
woven_made hint ([] ∷ kept) (n ∷ sizes) bytes b h = ap (λ (l : List ℕ). l ∷ woven hint (kept ++ [] ∷ []) (sizes ++ length b ∷ []) (drop n (bytes ++ b))) (take-append-le n bytes b h.0) ∙ ap (λ (l : List ℕ). take n bytes ∷ woven hint (kept ++ [] ∷ []) (sizes ++ length b ∷ []) l) (drop-append-le n bytes b h.0) ∙ ap (λ l. take n bytes ∷ l) (woven_made hint kept sizes (drop n bytes) b h.1)
woven_made hint ((y ∷ ys) ∷ kept) sizes bytes b h = ap (λ l. requested_simple hint (y ∷ ys) ∷ l) (woven_made hint kept sizes bytes b h)

pub are_made : (kept : List (List ℕ)) (sizes bytes b : List ℕ) → AreWoven kept sizes bytes → AreWoven (kept ++ [] ∷ []) (sizes ++ length b ∷ []) (bytes ++ b)
are_made [] sizes bytes b (p, q) = rw (p, q) (omega arith, (refl, drop_whole b))
  where
    drop_whole : (b : List ℕ) → drop (length b) b ≡ []
    drop_whole [] = refl
    drop_whole (x ∷ b) = drop_whole b
are_made ([] ∷ kept) [] bytes b h = absurd h
are_made ([] ∷ kept) (n ∷ sizes) bytes b h = (omega (arith, h.0, length-append bytes b), rw (drop-append-le n bytes b h.0) (are_made kept sizes (drop n bytes) b h.1))
are_made ((y ∷ ys) ∷ kept) sizes bytes b h = are_made kept sizes bytes b h

-- as many outlines as there are slices
pub length-woven : (hint : Bool) (kept : List (List ℕ)) (sizes bytes : List ℕ) → AreWoven kept sizes bytes → length (woven hint kept sizes bytes) ≡ length kept
length-woven hint [] sizes bytes h = refl
length-woven hint ([] ∷ kept) [] bytes h = absurd h
length-woven hint ([] ∷ kept) (n ∷ sizes) bytes h = omega (arith, length-woven hint kept sizes (drop n bytes) h.1)
length-woven hint ((y ∷ ys) ∷ kept) sizes bytes h = omega (arith, length-woven hint kept sizes bytes h)

-- ---- the same over the lists after a call

module _ (hint : Bool) (kept : List (Bor (List ℕ))) (sizes bytes : List ℕ) (before : AreWoven (nows kept) sizes bytes) (b : Bor (List ℕ)) where
  -- a borrowed one is put last
  pub kept_last : (after : List (Bor (List ℕ))) → IsFilled b.now → after ≡ kept ++ b ∷ [] → (AreWoven (nows after) sizes bytes) × (woven hint (nows after) sizes bytes ≡ woven hint (nows kept) sizes bytes ++ requested_simple hint b.now ∷ [])
  kept_last after filled is = by b.now filled (ap nows is ∙ nows-push kept b)
    where
      by : (l : List ℕ) → IsFilled l → nows after ≡ nows kept ++ l ∷ [] → (AreWoven (nows after) sizes bytes) × (woven hint (nows after) sizes bytes ≡ woven hint (nows kept) sizes bytes ++ requested_simple hint l ∷ [])
      by [] f e = absurd f
      by (x ∷ xs) f e = rw e (are_kept (nows kept) sizes bytes x xs before, woven_kept hint (nows kept) sizes bytes x xs before)

  -- one that was made is put last
  pub made_last : (after : List (Bor (List ℕ))) (sizes_after bytes_after o : List ℕ) → b.now ≡ [] → after ≡ kept ++ b ∷ [] → sizes_after ≡ sizes ++ length o ∷ [] → bytes_after ≡ bytes ++ o
      → (AreWoven (nows after) sizes_after bytes_after) × (woven hint (nows after) sizes_after bytes_after ≡ woven hint (nows kept) sizes bytes ++ o ∷ [])
  made_last after sizes_after bytes_after o none is s m =
      let e : nows after ≡ nows kept ++ [] ∷ [] = ap nows is ∙ nows-push kept b ∙ ap (λ (l : List ℕ). nows kept ++ l ∷ []) none in
      rw (e, s, m) (are_made (nows kept) sizes bytes o before, woven_made hint (nows kept) sizes bytes o before)
