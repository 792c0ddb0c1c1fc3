-- Outlines of a list of glyphs, read in turn.
use Rattle.std.proofs.Common.{◌≡◌, ℕ, ◌+◌, ◌-◌, ◌<◌, ◌≤◌, Bool, List, [], ◌∷◌, ◌++◌, length, get_or, take, drop, Option, Some, None, Result, Ok, Err, refl, sym, ap, subst, ◌∙◌, append_assoc}
use Rattle.std.specs.Prelude.{map}
use Rattle.std.specs.Borrow.{Bor}
use Rattle.std.specs.Option.{option_copied, ok_or}
use Rattle.std.proofs.lemmas.List.{append-nil, drop_more, map-append, take-append-drop, drop-drop, get_or-map}
use Rattle.subsetter_base.specs.Bytes.{◌>>=◌}
use Rattle.subsetter_base.specs.Gives.{Fails, following}
use Rattle.subsetter_base.specs.declared.error.Error.{Error}
use Rattle.subsetter_base.specs.declared.error.Error.TheVariants as errors
use Rattle.subsetter_base.proofs.Lists.{rest_of}
use Rattle.subsetter_base.proofs.Results.{with_front, bind_ok, done_is, named_err}
use Rattle.subsetter.specs.Glyf.Read.{Outlines, outline_in}
use Rattle.subsetter.specs.Glyf.BareOutlines.Bare.{requested_simple}
use Rattle.subsetter.specs.Glyf.Plain.{kept, kept_outline, kept_outlines, kept_all, with_last, with_outlines, rewritten_composite}
use Rattle.subsetter.specs.Glyf.Reaching.Closure.{first_byte_in}
use Rattle.subsetter.proofs.GlyfLaws.Chains.{rewritten_begun, rewritten_simple}

regroup : {A : Type 0} (front : List A) (x : A) (read : Result (List A) Error) → with_front front (read >>= λ xs. Ok (x ∷ xs)) ≡ with_front (front ++ x ∷ []) read
regroup front x (Ok xs) = ap Ok (sym (append_assoc front (x ∷ []) xs))
regroup front x (Err e) = refl

pub goes_on : (t : Outlines) (order : List ℕ) (front : List (List ℕ)) (g : ℕ) (gs b : List ℕ) (total : Result (List (List ℕ)) Error) → kept t order g ≡ Ok b → with_front front (kept_all t order (g ∷ gs)) ≡ total → with_front (front ++ b ∷ []) (kept_all t order gs) ≡ total
goes_on t order front g gs b total h so_far = sym (regroup front b (kept_all t order gs)) ∙ rw h at so_far

pub ends : (e : Error) (t : Outlines) (order : List ℕ) (front : List (List ℕ)) (g : ℕ) (gs : List ℕ) (total : Result (List (List ℕ)) Error) → Fails e (kept t order g) → with_front front (kept_all t order (g ∷ gs)) ≡ total → Fails e total
ends errors.OutOfMemory t order front g gs total h so_far = tt
ends errors.UnknownKind t order front g gs total h so_far = sym so_far ∙ rw h refl
ends errors.MalformedFont t order front g gs total h so_far = sym so_far ∙ rw h refl
ends errors.Unimplemented t order front g gs total h so_far = sym so_far ∙ rw h refl
ends errors.SubsetError t order front g gs total h so_far = sym so_far ∙ rw h refl
ends errors.OverflowError t order front g gs total h so_far = sym so_far ∙ rw h refl
ends errors.CFFError t order front g gs total h so_far = sym so_far ∙ rw h refl

-- the same of outlines that were looked up
outlines_on : (hint : Bool) (order : List ℕ) (front : List (List ℕ)) (o : Option (List ℕ)) (os : List (Option (List ℕ))) (b : List ℕ) (total : Result (List (List ℕ)) Error) → kept_outline hint order o ≡ Ok b → with_outlines front (kept_outlines hint order (o ∷ os)) ≡ total → with_outlines (front ++ b ∷ []) (kept_outlines hint order os) ≡ total
outlines_on hint order front o os b total h so_far = sym (regroup front b (kept_outlines hint order os)) ∙ rw h at so_far

pub outlines_next : (hint hint_after : Bool) (order : List ℕ) (front after : List (List ℕ)) (o : Option (List ℕ)) (os : List (Option (List ℕ))) (total : Result (List (List ℕ)) Error) → hint_after ≡ hint → with_last front (kept_outline hint order o) ≡ Ok after → with_outlines front (kept_outlines hint order (o ∷ os)) ≡ total → with_outlines after (kept_outlines hint_after order os) ≡ total
outlines_next hint hint_after order front after o os total hinted h so_far =
    let k = bind_ok (kept_outline hint order o) (λ b. Ok (front ++ b ∷ [])) after h in
    let same : front ++ k.0 ∷ [] ≡ after = done_is (front ++ k.0 ∷ []) after k.2 in
    ap (λ (b : Bool). with_outlines after (kept_outlines b order os)) hinted ∙ ap (λ (l : List (List ℕ)). with_outlines l (kept_outlines hint order os)) (sym same) ∙ outlines_on hint order front o os k.0 total k.1 so_far

-- some outlines and then others
pub outlines_apart : (hint : Bool) (order : List ℕ) (front : List (List ℕ)) (os rest : List (Option (List ℕ))) → with_outlines front (kept_outlines hint order (os ++ rest)) ≡ (with_outlines front (kept_outlines hint order os) >>= λ more. with_outlines more (kept_outlines hint order rest))
outlines_apart hint order front [] rest = ap (λ (l : List (List ℕ)). with_outlines l (kept_outlines hint order rest)) (sym (append-nil front))
outlines_apart hint order front (o ∷ os) rest = by (λ b. outlines_apart hint order (front ++ b ∷ []) os rest) (kept_outline hint order o) refl
  where
    by : ((b : List ℕ) → with_outlines (front ++ b ∷ []) (kept_outlines hint order (os ++ rest)) ≡ (with_outlines (front ++ b ∷ []) (kept_outlines hint order os) >>= λ more. with_outlines more (kept_outlines hint order rest))) → (r : Result (List ℕ) Error) → kept_outline hint order o ≡ r → with_outlines front (kept_outlines hint order (o ∷ os ++ rest)) ≡ (with_outlines front (kept_outlines hint order (o ∷ os)) >>= λ more. with_outlines more (kept_outlines hint order rest))
    by again (Ok b) h = sym (outlines_on hint order front o (os ++ rest) b _ h refl) ∙ again b ∙ ap (λ (r : Result (List (List ℕ)) Error). r >>= λ more. with_outlines more (kept_outlines hint order rest)) (outlines_on hint order front o os b _ h refl)
    by again (Err e) h = rw h refl

last_failed : (e : Error) (front : List (List ℕ)) (r : Result (List ℕ) Error) → with_last front r ≡ Err e → r ≡ Err e
last_failed e front (Ok b) h = absurd cc
last_failed e front (Err d) h = cc

-- where one fails, all do
pub outlines_ends : (e : Error) (hint : Bool) (order : List ℕ) (front : List (List ℕ)) (o : Option (List ℕ)) (os : List (Option (List ℕ))) (total : Result (List (List ℕ)) Error) → Fails e (with_last front (kept_outline hint order o)) → with_outlines front (kept_outlines hint order (o ∷ os)) ≡ total → Fails e total
outlines_ends errors.OutOfMemory hint order front o os total h so_far = tt
outlines_ends errors.UnknownKind hint order front o os total h so_far = sym so_far ∙ rw (last_failed errors.UnknownKind front (kept_outline hint order o) h) refl
outlines_ends errors.MalformedFont hint order front o os total h so_far = sym so_far ∙ rw (last_failed errors.MalformedFont front (kept_outline hint order o) h) refl
outlines_ends errors.Unimplemented hint order front o os total h so_far = sym so_far ∙ rw (last_failed errors.Unimplemented front (kept_outline hint order o) h) refl
outlines_ends errors.SubsetError hint order front o os total h so_far = sym so_far ∙ rw (last_failed errors.SubsetError front (kept_outline hint order o) h) refl
outlines_ends errors.OverflowError hint order front o os total h so_far = sym so_far ∙ rw (last_failed errors.OverflowError front (kept_outline hint order o) h) refl
outlines_ends errors.CFFError hint order front o os total h so_far = sym so_far ∙ rw (last_failed errors.CFFError front (kept_outline hint order o) h) refl

-- where a block is put last, the others follow
pub outlines_block : (hint : Bool) (order : List ℕ) (front after : List (List ℕ)) (os rest : List (Option (List ℕ))) (total : Result (List (List ℕ)) Error) → with_outlines front (kept_outlines hint order os) ≡ Ok after → with_outlines front (kept_outlines hint order (os ++ rest)) ≡ total → with_outlines after (kept_outlines hint order rest) ≡ total
outlines_block hint order front after os rest total h so_far = sym (ap (λ (r : Result (List (List ℕ)) Error). r >>= λ more. with_outlines more (kept_outlines hint order rest)) h) ∙ sym (outlines_apart hint order front os rest) ∙ so_far

-- or it fails, and so do all
pub outlines_fail : (e : Error) (hint : Bool) (order : List ℕ) (front : List (List ℕ)) (os rest : List (Option (List ℕ))) (total : Result (List (List ℕ)) Error) → Fails e (with_outlines front (kept_outlines hint order os)) → with_outlines front (kept_outlines hint order (os ++ rest)) ≡ total → Fails e total
outlines_fail errors.OutOfMemory hint order front os rest total h so_far = tt
outlines_fail errors.UnknownKind hint order front os rest total h so_far = sym so_far ∙ outlines_apart hint order front os rest ∙ rw h refl
outlines_fail errors.MalformedFont hint order front os rest total h so_far = sym so_far ∙ outlines_apart hint order front os rest ∙ rw h refl
outlines_fail errors.Unimplemented hint order front os rest total h so_far = sym so_far ∙ outlines_apart hint order front os rest ∙ rw h refl
outlines_fail errors.SubsetError hint order front os rest total h so_far = sym so_far ∙ outlines_apart hint order front os rest ∙ rw h refl
outlines_fail errors.OverflowError hint order front os rest total h so_far = sym so_far ∙ outlines_apart hint order front os rest ∙ rw h refl
outlines_fail errors.CFFError hint order front os rest total h so_far = sym so_far ∙ outlines_apart hint order front os rest ∙ rw h refl

-- the outline at an index, and those after it
pub outline_at : (hint : Bool) (order : List ℕ) (front : List (List ℕ)) (block : List (Option (Bor (List ℕ)))) (i : ℕ) (d : Option (Bor (List ℕ))) (total : Result (List (List ℕ)) Error) → i < length block → with_outlines front (kept_outlines hint order (map option_copied (drop i block))) ≡ total
    → with_outlines front (kept_outlines hint order (option_copied (get_or block i d) ∷ map option_copied (drop (i + 1) block))) ≡ total
outline_at hint order front block i d total lt so_far = ap (λ (l : List (Option (Bor (List ℕ)))). with_outlines front (kept_outlines hint order (map option_copied l))) (sym (drop_more block i d lt)) ∙ so_far

-- a block of outlines, and those after it
pub block_of : (items slice : List (Option (Bor (List ℕ)))) (at count n : ℕ) → slice ≡ items → n ≡ count → map option_copied (take n (drop at slice)) ++ map option_copied (drop (at + count) items) ≡ map option_copied (drop at items)
block_of items slice at count n same is =
    ap (λ (l : List (Option (Bor (List ℕ)))). map option_copied (take n (drop at l)) ++ map option_copied (drop (at + count) items)) same
    ∙ ap (λ k. map option_copied (take k (drop at items)) ++ map option_copied (drop (at + count) items)) is
    ∙ sym (map-append option_copied (take count (drop at items)) (drop (at + count) items))
    ∙ ap (λ (l : List (Option (Bor (List ℕ)))). map option_copied (take count (drop at items) ++ l)) (drop_on at items)
    ∙ ap (map option_copied) (take-append-drop count (drop at items))
  where
    drop_on : (k : ℕ) (l : List (Option (Bor (List ℕ)))) → drop (k + count) l ≡ drop count (drop k l)
    drop_on k l = sym (drop-drop count k l)

pub none_before : (read : Result (List (List ℕ)) Error) → with_outlines [] read ≡ read
none_before (Ok xs) = refl
none_before (Err e) = refl

-- the outlines of glyphs, each looked up
pub all_by_outlines : (t : Outlines) (order gs : List ℕ) → kept_all t order gs ≡ kept_outlines t.hinting order (map (outline_in t) gs)
unfolding kept kept_outline
all_by_outlines t order [] = refl
all_by_outlines t order (g ∷ gs) = ap (λ r. kept t order g >>= λ first. r >>= λ rest. Ok (first ∷ rest)) (all_by_outlines t order gs)

-- what was written after other bytes
pub after_ok : (front : List ℕ) (read : Result (List ℕ) Error) (all : List ℕ) → following front read ≡ Ok all → (b : List ℕ) × (read ≡ Ok b) × (front ++ b ≡ all)
after_ok front read all h =
    let k = bind_ok read (λ b. Ok (front ++ b)) all h in
    (k.0, k.1, done_is (front ++ k.0) all k.2)

-- and is read from there on
pub written_is : (front b all slice : List ℕ) (start : ℕ) → slice ≡ all → front ++ b ≡ all → start ≡ length front → take (length slice - start) (drop start slice) ≡ b
written_is front b all slice start same parts at =
    rest_of start slice ∙ ap (drop start) (same ∙ sym parts) ∙ ap (λ (n : ℕ). drop n (front ++ b)) at ∙ drop_front front
  where
    drop_front : (l : List ℕ) → drop (length l) (l ++ b) ≡ b
    drop_front [] = refl
    drop_front (x ∷ l) = drop_front l

-- ---- one outline of a block

-- its first byte
pub first_byte_at : (block : List (Option (Bor (List ℕ)))) (first_bytes : List ℕ) (i : ℕ) (d : Option (Bor (List ℕ))) (e : ℕ) → first_bytes ≡ map (λ o. first_byte_in (option_copied o)) block → i < length block → get_or first_bytes i e ≡ first_byte_in (option_copied (get_or block i d))
first_byte_at block first_bytes i d e is lt = ap (λ (l : List ℕ). get_or l i e) is ∙ get_or-map (λ o. first_byte_in (option_copied o)) block i d e lt

-- a composite is written anew
pub kept_composite : (hint : Bool) (order : List ℕ) (o : Option (Bor (List ℕ))) (b : Bor (List ℕ)) (first : ℕ) → o ≡ Some b → first ≡ first_byte_in (option_copied o) → 128 ≤ first → kept_outline hint order (option_copied o) ≡ rewritten_composite hint order b.now
unfolding kept_outline
kept_composite hint order o b first is head high =
    let here : first ≡ first_byte_in (Some b.now) = head ∙ ap (λ (p : Option (Bor (List ℕ))). first_byte_in (option_copied p)) is in
    ap (λ (p : Option (Bor (List ℕ))). kept_outline hint order (option_copied p)) is ∙ rewritten_begun hint order b.now first here high

-- another stays as it is, or loses its instructions
pub kept_simple : (hint : Bool) (order : List ℕ) (o : Option (Bor (List ℕ))) (b : Bor (List ℕ)) (first : ℕ) → o ≡ Some b → first ≡ first_byte_in (option_copied o) → first < 128 → kept_outline hint order (option_copied o) ≡ Ok (requested_simple hint b.now)
unfolding kept_outline
kept_simple hint order o b first is head low =
    let here : first ≡ first_byte_in (Some b.now) = head ∙ ap (λ (p : Option (Bor (List ℕ))). first_byte_in (option_copied p)) is in
    ap (λ (p : Option (Bor (List ℕ))). kept_outline hint order (option_copied p)) is ∙ rewritten_simple hint order b.now first here low

-- one that isn't there is missed
pub kept_none : (hint : Bool) (order : List ℕ) (front : List (List ℕ)) (o : Option (Bor (List ℕ))) (e : Error) → ok_or o errors.MalformedFont ≡ Err e → Fails e (with_last front (kept_outline hint order (option_copied o)))
unfolding kept_outline
kept_none hint order front None e is =
    let named = named_err None errors.MalformedFont e is in
    subst (λ d. Fails d (with_last front (kept_outline hint order None))) named.1 refl
kept_none hint order front (Some b) e is = absurd cc
