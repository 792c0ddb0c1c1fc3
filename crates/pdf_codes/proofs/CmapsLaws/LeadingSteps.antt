-- A table of CIDs that is filled from pairs, and the pairs that it has.
use Rattle.std.proofs.Common.{◌≡◌, ℕ, zero, suc, ◌+◌, ◌<◌, ◌≤◌, cond, min, List, [], ◌∷◌, ◌++◌, length, get_or, set, drop, replicate, Option, Some, None, refl, sym, ap, subst, ◌∙◌, inl, inr, arith}
use Rattle.std.specs.Prelude.{IsSome}
use Rattle.std.specs.Option.{option_or}
use Rattle.std.proofs.lemmas.Bool.{cases_eq, cases_lt, eq-eqb, ne_eqb}
use Rattle.std.proofs.lemmas.List.{append-nil, append_assoc, drop_more, get_or-set_same, get_or-set_other, map-append}
use Rattle.std.proofs.lemmas.List.Elements.{All-append}
use Rattle.std.specs.Prelude.{All}
use Rattle.pdf_text.specs.Cmaps.Encoding.{IsPair, Pair}
use Rattle.pdf_text.specs.View.{pair_view, pairs_view}
use Rattle.pdf_text.specs.declared.cmaps.encoding.CidOfCode.{CidOfCode}
use Rattle.pdf_codes.specs.Cmaps.Leading.{cid_of, pair_of, pairs_from, pairs_of_codes, limit, table_pairs, zipped}

-- ---- the CID of a code, with one pair more

pub cid_same : (p : Pair) (rest : List Pair) (k : ℕ) → p.code ≡ k → cid_of (p ∷ rest) k ≡ Some p.cid
cid_same p rest k e = ap (λ b. cond b (Some p.cid) (cid_of rest k)) (eq-eqb p.code k e)

pub cid_other : (p : Pair) (rest : List Pair) (k : ℕ) → (p.code ≡ k → ⊥) → cid_of (p ∷ rest) k ≡ cid_of rest k
cid_other p rest k ne = ap (λ b. cond b (Some p.cid) (cid_of rest k)) (ne_eqb p.code k ne)

some_kept : (o x y : Option ℕ) → IsSome o → option_or o x ≡ option_or o y
some_kept None x y h = absurd cc
some_kept (Some n) x y h = refl

written_here : (t : List (Option ℕ)) (c n : ℕ) (x : Option ℕ) → c < length t → get_or t c None ≡ None → option_or (get_or (set t c (Some n)) c None) x ≡ option_or (get_or t c None) (Some n)
written_here t c n x lt none = ap (λ (o : Option ℕ). option_or o x) (get_or-set_same t c (Some n) None lt) ∙ sym (ap (λ (o : Option ℕ). option_or o (Some n)) none)

-- where no CID was known, the pair's is written
pub cid_written : (t : List (Option ℕ)) (p : Pair) (rest : List Pair) (k : ℕ) → p.code < length t → get_or t p.code None ≡ None
    → option_or (get_or (set t p.code (Some p.cid)) k None) (cid_of rest k) ≡ option_or (get_or t k None) (cid_of (p ∷ rest) k)
cid_written t p rest k lt none = elim (cases_eq p.code k) [
  | inl e ↦ subst (λ (j : ℕ). option_or (get_or (set t p.code (Some p.cid)) j None) (cid_of rest j) ≡ option_or (get_or t j None) (cid_of (p ∷ rest) j)) e
      (written_here t p.code p.cid (cid_of rest p.code) lt none ∙ sym (ap (option_or (get_or t p.code None)) (cid_same p rest p.code refl)))
  | inr ne ↦ ap (λ (o : Option ℕ). option_or o (cid_of rest k)) (get_or-set_other t p.code k (Some p.cid) None (λ h. ne (sym h))) ∙ ap (option_or (get_or t k None)) (sym (cid_other p rest k ne))
]

-- where one was known, it stays
pub cid_kept : (t : List (Option ℕ)) (p : Pair) (rest : List Pair) (k : ℕ) → IsSome (get_or t p.code None) → option_or (get_or t k None) (cid_of rest k) ≡ option_or (get_or t k None) (cid_of (p ∷ rest) k)
cid_kept t p rest k some = elim (cases_eq p.code k) [
  | inl e ↦ subst (λ (j : ℕ). option_or (get_or t j None) (cid_of rest j) ≡ option_or (get_or t j None) (cid_of (p ∷ rest) j)) e (some_kept (get_or t p.code None) (cid_of rest p.code) (cid_of (p ∷ rest) p.code) some)
  | inr ne ↦ ap (option_or (get_or t k None)) (sym (cid_other p rest k ne))
]

-- ---- pairs

-- past the greatest code no code has a CID
pub none_past : (ps : List Pair) (k : ℕ) → limit ps ≤ k → cid_of ps k ≡ None
none_past [] k h = refl
none_past (p ∷ ps) k h = cid_other p ps k (λ e. omega (arith, h, e)) ∙ none_past ps k (omega (arith, h))

-- the pairs of a table of CIDs are the pairs of the codes
pub table_is : (ps : List Pair) (t : List (Option ℕ)) (k n : ℕ) → length t ≡ n → ((i : ℕ) → i < n → get_or t i None ≡ cid_of ps (k + i)) → table_pairs k t ≡ pairs_from ps k n
table_is ps [] k zero e h = refl
table_is ps [] k (suc n) e h = absurd (omega (arith, e))
table_is ps (o ∷ t) k zero e h = absurd (omega (arith, e))
table_is ps (o ∷ t) k (suc n) e h =
    let here : o ≡ cid_of ps k = h 0 (omega arith) ∙ ap (cid_of ps) (omega arith) in
    let later : (i : ℕ) → i < n → get_or t i None ≡ cid_of ps (k + 1 + i) = λ i lt. h (suc i) (omega arith) ∙ ap (cid_of ps) (omega arith) in
    ap (λ (v : Option ℕ). pair_of k v ++ table_pairs (k + 1) t) here ∙ ap (λ (m : List Pair). pair_of k (cid_of ps k) ++ m) (table_is ps t (k + 1) n (omega (arith, e)) later)

-- ---- read

pair_other : (k c : ℕ) (o : Option ℕ) (rest : List Pair) → (k ≡ c → ⊥) → cid_of (pair_of k o ++ rest) c ≡ cid_of rest c
pair_other k c None rest ne = refl
pair_other k c (Some n) rest ne = cid_other (record { code = k; cid = n }) rest c ne

pair_here : (k : ℕ) (o : Option ℕ) (rest : List Pair) → cid_of rest k ≡ None → cid_of (pair_of k o ++ rest) k ≡ o
pair_here k None rest none = none
pair_here k (Some n) rest none = cid_same (record { code = k; cid = n }) rest k refl

pub pairs_before : (ps : List Pair) (k n c : ℕ) → c < k → cid_of (pairs_from ps k n) c ≡ None
pairs_before ps k zero c h = refl
pairs_before ps k (suc n) c h = pair_other k c (cid_of ps k) (pairs_from ps (k + 1) n) (λ e. omega (arith, e)) ∙ pairs_before ps (k + 1) n c (omega arith)

pub pairs_within : (ps : List Pair) (k n c : ℕ) → k ≤ c → c < k + n → cid_of (pairs_from ps k n) c ≡ cid_of ps c
pairs_within ps k zero c h lt = absurd (omega arith)
pairs_within ps k (suc n) c h lt = elim (cases_eq k c) [
  | inl e ↦ subst (λ (j : ℕ). cid_of (pairs_from ps k (suc n)) j ≡ cid_of ps j) e (pair_here k (cid_of ps k) (pairs_from ps (k + 1) n) (pairs_before ps (k + 1) n k (omega arith)))
  | inr ne ↦ pair_other k c (cid_of ps k) (pairs_from ps (k + 1) n) ne ∙ pairs_within ps (k + 1) n c (omega (arith, ne)) (omega arith)
]

pub pairs_past : (ps : List Pair) (k n c : ℕ) → k + n ≤ c → cid_of (pairs_from ps k n) c ≡ None
pairs_past ps k zero c h = refl
pairs_past ps k (suc n) c h = pair_other k c (cid_of ps k) (pairs_from ps (k + 1) n) (λ e. omega (arith, e)) ∙ pairs_past ps (k + 1) n c (omega arith)

-- the pairs of the codes have the CID of each code
pub same_cid : (ps : List Pair) (k : ℕ) → cid_of (pairs_from ps 0 (limit ps)) k ≡ cid_of ps k
same_cid ps k = elim (cases_lt k (limit ps)) [
  | inl lt ↦ pairs_within ps 0 (limit ps) k (omega arith) (omega arith)
  | inr ge ↦ pairs_past ps 0 (limit ps) k (omega arith) ∙ sym (none_past ps k ge)
]

-- ---- pairs that can be written

only : {p : Pair} → IsPair p → All IsPair (p ∷ [])
only {p} h zero d lt = h
only {p} h (suc k) d lt = absurd (omega arith)

pub pair_added : (ps after : List CidOfCode) (p : CidOfCode) → after ≡ ps ++ p ∷ [] → All IsPair (pairs_view ps) → IsPair (pair_view p) → All IsPair (pairs_view after)
pair_added ps after p is are one =
    let P : List Pair → Type 0 = λ l. All IsPair l in
    subst P (sym (map-append pair_view ps (p ∷ [])) ∙ sym (ap pairs_view is)) (All-append IsPair (pairs_view ps) (pair_view p ∷ []) are (only one))

-- ---- where no CID is known, and where all pairs are read

nothing : (n k : ℕ) → get_or (replicate {A = Option ℕ} n None) k None ≡ None
nothing zero k = refl
nothing (suc n) zero = refl
nothing (suc n) (suc k) = nothing n k

pub cid_begun : (n k : ℕ) (x : Option ℕ) → option_or (get_or (replicate {A = Option ℕ} n None) k None) x ≡ x
cid_begun n k x = ap (λ (o : Option ℕ). option_or o x) (nothing n k)

pub cid_done : (o : Option ℕ) → option_or o None ≡ o
cid_done None = refl
cid_done (Some n) = refl

pub pairs_are : (ps : List Pair) (t : List (Option ℕ)) (n : ℕ) → n ≡ limit ps → length t ≡ n → ((k : ℕ) → k < n → get_or t k None ≡ cid_of ps k) → table_pairs 0 t ≡ pairs_of_codes ps
pairs_are ps t n is many h = table_is ps t 0 (limit ps) (many ∙ is) (λ i lt. let here : i ≡ 0 + i = omega arith in h i (omega (arith, lt, is)) ∙ ap (cid_of ps) here)

-- ---- codes beside CIDs

zipped_nil : (ks : List ℕ) → zipped ks [] ≡ []
zipped_nil [] = refl
zipped_nil (k ∷ ks) = refl

-- past the end of one of both
pub zipped_end : (i : ℕ) (ks cids : List ℕ) → min (length ks) (length cids) ≤ i → zipped (drop i ks) (drop i cids) ≡ []
zipped_end zero [] cids h = refl
zipped_end (suc i) [] cids h = refl
zipped_end zero (k ∷ ks) [] h = refl
zipped_end (suc i) (k ∷ ks) [] h = zipped_nil (drop i ks)
zipped_end zero (k ∷ ks) (d ∷ ds) h = absurd (omega (arith, h))
zipped_end (suc i) (k ∷ ks) (d ∷ ds) h = zipped_end i ks ds (omega (arith, h))

-- ---- one CID of the table more

pair_read : (ts : List (Option ℕ)) (front : List Pair) (k : ℕ) (m all : List Pair) → k < length ts → pair_of k (get_or ts k None) ≡ m → front ++ table_pairs k (drop k ts) ≡ all
    → (front ++ m) ++ table_pairs (k + 1) (drop (k + 1) ts) ≡ all
pair_read ts front k m all lt is h =
    let others : List Pair = table_pairs (k + 1) (drop (k + 1) ts) in
    append_assoc front m others
    ∙ ap (λ (l : List Pair). front ++ (l ++ others)) (sym is)
    ∙ sym (ap (λ (l : List (Option ℕ)). front ++ table_pairs k l) (drop_more ts k None lt))
    ∙ h

pub pair_put : (ts : List (Option ℕ)) (ps after : List CidOfCode) (p : CidOfCode) (k n : ℕ) (all : List Pair) → after ≡ ps ++ p ∷ [] → k < length ts → get_or ts k None ≡ Some n
    → pair_view p ≡ record { code = k; cid = n } → pairs_view ps ++ table_pairs k (drop k ts) ≡ all → pairs_view after ++ table_pairs (k + 1) (drop (k + 1) ts) ≡ all
pair_put ts ps after p k n all is lt here view h =
    let others : List Pair = table_pairs (k + 1) (drop (k + 1) ts) in
    ap (λ (l : List CidOfCode). pairs_view l ++ others) is
    ∙ ap (λ (l : List Pair). l ++ others) (map-append pair_view ps (p ∷ []))
    ∙ pair_read ts (pairs_view ps) k (pair_view p ∷ []) all lt (ap (pair_of k) here ∙ sym (ap (λ (q : Pair). q ∷ []) view)) h

no_cid : (o : Option ℕ) → ((n : ℕ) → o ≡ Some n → ⊥) → o ≡ None
no_cid None h = refl
no_cid (Some n) h = absurd (h n refl)

pub pair_left : (ts : List (Option ℕ)) (front : List Pair) (k : ℕ) (all : List Pair) → k < length ts → ((n : ℕ) → get_or ts k None ≡ Some n → ⊥) → front ++ table_pairs k (drop k ts) ≡ all
    → front ++ table_pairs (k + 1) (drop (k + 1) ts) ≡ all
pair_left ts front k all lt none h =
    let others : List Pair = table_pairs (k + 1) (drop (k + 1) ts) in
    sym (ap (λ (l : List Pair). l ++ others) (append-nil front)) ∙ pair_read ts front k [] all lt (ap (pair_of k) (no_cid (get_or ts k None) none)) h
