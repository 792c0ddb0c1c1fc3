-- Entries whose pairs of a glyph and a text are numbered one by one.
use Rattle.std.proofs.Common.{◌≡◌, ℕ, ◌+◌, ◌<◌, List, [], ◌∷◌, ◌++◌, length, get_or, map, drop, Option, Some, refl, sym, ap, ◌∙◌, append_assoc, ◌⊎◌, inl, inr, arith}
use Rattle.std.proofs.lemmas.List.{drop_more, map_push}
use Rattle.subsetter_base.specs.Remap.{index_by, with_value}
use Rattle.subsetter_base.specs.declared.error.Error.{Error}
use Rattle.subsetter_base.specs.declared.error.Error.TheVariants.{OutOfMemory, OverflowError}
use Rattle.pdf_codes.specs.declared.codes.Entry.{Entry}
use Rattle.pdf_codes.specs.Codes.{Used, keyed, same, used_of, with_pairs}
use Rattle.pdf_codes.proofs.CodeLaws.{pairs_grow}
use Rattle.pdf_codes.proofs.Pairs.{number_stays}

-- the keys of the entries that are left
abbrev pub keys : List Entry → List Used
keys es = map keyed (map used_of es)

keys_here : (es : List Entry) (i : ℕ) (d : Entry) → i < length es → keys (drop i es) ≡ keyed (used_of (get_or es i d)) ∷ keys (drop (i + 1) es)
keys_here es i d lt = ap keys (drop_more es i d lt)

-- with one pair more in the list, all pairs are the same
pub all_more : (es : List Entry) (i : ℕ) (d : Entry) (was now total : List Used) (u : Used) → i < length es → u ≡ keyed (used_of (get_or es i d)) → now ≡ with_value same was u
    → with_pairs was (keys (drop i es)) ≡ total → with_pairs now (keys (drop (i + 1) es)) ≡ total
all_more es i d was now total u lt is put all =
    let rest : List Used = keys (drop (i + 1) es) in
    ap (λ (l : List Used). with_pairs l rest) put
    ∙ ap (λ (v : Used). with_pairs (with_value same was v) rest) is
    ∙ sym (ap (with_pairs was) (keys_here es i d lt))
    ∙ all

-- the number of one pair more
pub codes_more : (es : List Entry) (i : ℕ) (d : Entry) (now total : List Used) (u : Used) (codes : List ℕ) (n : ℕ) (whole : List (Option ℕ)) → i < length es → u ≡ keyed (used_of (get_or es i d))
    → index_by same now u ≡ Some n → with_pairs now (keys (drop (i + 1) es)) ≡ total
    → map Some codes ++ map (index_by same total) (keys (drop i es)) ≡ whole → map Some (codes ++ n ∷ []) ++ map (index_by same total) (keys (drop (i + 1) es)) ≡ whole
codes_more es i d now total u codes n whole lt is found all so_far =
    let rest : List Used = keys (drop (i + 1) es) in
    let later : List (Option ℕ) = map (index_by same total) rest in
    let number : Some n ≡ index_by same total (keyed (used_of (get_or es i d))) = sym (number_stays rest now total u n found all) ∙ ap (index_by same total) is in
    ap (λ (l : List (Option ℕ)). l ++ later) (map_push Some codes n)
    ∙ append_assoc (map Some codes) (Some n ∷ []) later
    ∙ ap (λ (o : Option ℕ). map Some codes ++ o ∷ later) number
    ∙ sym (ap (λ (l : List Used). map Some codes ++ map (index_by same total) l) (keys_here es i d lt))
    ∙ so_far

-- where one pair more is too many, all are
pub all_refused : (es : List Entry) (i : ℕ) (d : Entry) (was total : List Used) (u : Used) (e : Error) → i < length es → u ≡ keyed (used_of (get_or es i d)) → with_pairs was (keys (drop i es)) ≡ total
    → (e ≡ OutOfMemory) ⊎ ((e ≡ OverflowError) × (65535 < length (with_value same was u))) → (e ≡ OutOfMemory) ⊎ ((e ≡ OverflowError) × (65535 < length total))
all_refused es i d was total u e lt is all (inl memory) = inl memory
all_refused es i d was total u e lt is all (inr more) =
    let rest : List Used = keys (drop (i + 1) es) in
    let grown : with_pairs (with_value same was u) rest ≡ total = all_more es i d was (with_value same was u) total u lt is refl all in
    inr (more.0, omega (arith, more.1, pairs_grow rest (with_value same was u), ap length grown))
