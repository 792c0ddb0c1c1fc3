-- Where objects are, and the numbers that they have.
use Rattle.std.proofs.Common.{◌≡◌, ℕ, suc, zero, ◌+◌, ◌<◌, Bool, true, false, List, [], ◌∷◌, ◌++◌, length, get_or, map, refl, sym, ap, subst, ◌∙◌, append_assoc, append-nil, arith, length-append}
use Rattle.std.specs.Prelude.{is_some, Result, Ok, Err, IfOk}
use Rattle.std.proofs.lemmas.List.{length-map}
use Rattle.subsetter_base.specs.declared.error.Error.{Error}
use Rattle.pdf_text.specs.declared.values.References.{References}
use Rattle.pdf_text.specs.declared.objects.Object.{Object}
use Rattle.pdf_text.specs.declared.objects.FontObjects.{FontObjects}
use Rattle.std.specs.List.{concat}
use Rattle.pdf_text.specs.declared.values.FontValues.{FontValues}
use Rattle.pdf_text.specs.Objects.{object_text, objects_from, offsets_from, objects_by, objects_of, references_by, references_from, number_of, numbers, IsObjectAt, AreAt, AreReferredTo, value_of, values_of, font_objects, AreFontObjectsAt}

-- ---- offsets

-- where the first text ends begins the next, or ends the whole
end_of : (front t : List ℕ) (n : ℕ) (xs : List (List ℕ)) → get_or (offsets_from (length front + length t) (objects_from n xs)) 0 (length (front ++ (t ++ concat (objects_from n xs)))) ≡ length front + length t
end_of front t n [] = length-append front (t ++ []) ∙ ap (λ (l : List ℕ). length front + length l) (append-nil t)
end_of front t n (x ∷ xs) = refl

following : (front t : List ℕ) (ts : List (List ℕ)) (k m : ℕ) (v : List ℕ) → IsObjectAt ((front ++ t) ++ concat ts) (get_or (offsets_from (length (front ++ t)) ts) k 0) (get_or (offsets_from (length (front ++ t)) ts) (suc k) (length ((front ++ t) ++ concat ts))) m v
    → IsObjectAt (front ++ (t ++ concat ts)) (get_or (offsets_from (length front + length t) ts) k 0) (get_or (offsets_from (length front + length t) ts) (suc k) (length (front ++ (t ++ concat ts)))) m v
following front t ts k m v h =
    let P : List ℕ → Type 0 = λ text. IsObjectAt text (get_or (offsets_from (length (front ++ t)) ts) k 0) (get_or (offsets_from (length (front ++ t)) ts) (suc k) (length text)) m v in
    let Q : ℕ → Type 0 = λ n. IsObjectAt (front ++ (t ++ concat ts)) (get_or (offsets_from n ts) k 0) (get_or (offsets_from n ts) (suc k) (length (front ++ (t ++ concat ts)))) m v in
    subst Q (length-append front t) (subst P (append_assoc front t (concat ts)) h)

stands : (front : List ℕ) (n k m : ℕ) (values : List (List ℕ)) → m ≡ n + k → k < length values
    → IsObjectAt (front ++ concat (objects_from n values)) (get_or (offsets_from (length front) (objects_from n values)) k 0) (get_or (offsets_from (length front) (objects_from n values)) (suc k) (length (front ++ concat (objects_from n values)))) m (get_or values k [])
stands front n k m [] e l = absurd (omega arith)
stands front n zero m (x ∷ xs) e l =
    let equal : m ≡ n = omega arith in
    record {
      before = front;
      after = concat (objects_from (n + 1) xs);
      whole = ap (λ i. front ++ (object_text i x ++ concat (objects_from (n + 1) xs))) (sym equal);
      begins = refl;
      ends = ap (λ i. length front + length (object_text i x)) equal ∙ sym (end_of front (object_text n x) (n + 1) xs);
    }
stands front n (suc k) m (x ∷ xs) e l =
    following front (object_text n x) (objects_from (n + 1) xs) k m (get_or xs k []) (stands (front ++ object_text n x) (n + 1) k m xs (omega arith) (omega arith))

pub are_at : AreAt
are_at first values k l =
    let ts = objects_from first values in
    let next : suc k ≡ k + 1 = omega arith in
    let P : ℕ → Type 0 = λ j. IsObjectAt (concat ts) (get_or (offsets_from 0 ts) k 0) (get_or (offsets_from 0 ts) j (length (concat ts))) (first + k) (get_or values k []) in
    subst P next (stands [] first k (first + k) values refl l)

-- ---- numbers

referred_by : (first : ℕ) (m a b : Bool) → map (number_of first (references_by first m a)) (objects_by m a b) ≡ numbers first 0 (objects_by m a b)
referred_by first false false false = let e : first + 0 ≡ first = omega arith in rw e refl
referred_by first false false true = let e : first + 0 ≡ first = omega arith in rw e refl
referred_by first false true false = let e : first + 0 ≡ first = omega arith in rw e refl
referred_by first false true true = let e : first + 0 ≡ first = omega arith in rw e refl
referred_by first true false false = let e : first + 0 ≡ first = omega arith in rw e refl
referred_by first true false true = let e : first + 0 ≡ first = omega arith in rw e refl
referred_by first true true false = let e : first + 0 ≡ first = omega arith in rw e refl
referred_by first true true true = let e : first + 0 ≡ first = omega arith in rw e refl

pub are_referred_to : AreReferredTo
are_referred_to first v = referred_by first (is_some v.cid_to_gid_map) (is_some v.cid_set) (is_some v.encoding)

-- ---- the objects of a font

-- one object more
pub one_more_offset : (offsets offsets1 w w1 t : List ℕ) (ts : List (List ℕ)) (all : List ℕ) → offsets1 ≡ offsets ++ length w ∷ [] → w1 ≡ w ++ t → offsets ++ offsets_from (length w) (t ∷ ts) ≡ all → offsets1 ++ offsets_from (length w1) ts ≡ all
one_more_offset offsets offsets1 w w1 t ts all e f h =
    ap (λ (l : List ℕ). l ++ offsets_from (length w1) ts) e ∙ append_assoc offsets (length w ∷ []) (offsets_from (length w1) ts)
    ∙ ap (λ n. offsets ++ (length w ∷ offsets_from n ts)) (ap length f ∙ length-append w t) ∙ h

font_at : (first : ℕ) (v : FontValues) (text offsets : List ℕ) → text ≡ concat (font_objects first v) → offsets ≡ offsets_from 0 (font_objects first v) → AreFontObjectsAt first v text offsets
font_at first v text offsets e f k l =
    let values = values_of v (references_from first v) (objects_of v) in
    let size : length values ≡ length (objects_of v) = length-map (objects_of v) (λ o. value_of o v (references_from first v)) in
    let P : List ℕ → List ℕ → Type 0 = λ t o. IsObjectAt t (get_or o k 0) (get_or o (k + 1) (length t)) (first + k) (get_or values k []) in
    let law : P (concat (font_objects first v)) (offsets_from 0 (font_objects first v)) = are_at first values k (omega arith) in
    subst (λ (t : List ℕ). P t offsets) (sym e) (subst (λ (o : List ℕ). P (concat (font_objects first v)) o) (sym f) law)

same_objects : (first : ℕ) (v : FontValues) (r : References) (os : List Object) → r ≡ references_from first v → os ≡ objects_of v → objects_from first (values_of v r os) ≡ font_objects first v
same_objects first v r os p q = ap (λ (s : References). objects_from first (values_of v s os)) p ∙ ap (λ (l : List Object). objects_from first (values_of v (references_from first v) l)) q

-- what is answered where all objects of a font were written
pub answer_at : (first : ℕ) (v : FontValues) (r : References) (os : List Object) (answer : Result FontObjects Error) → r ≡ references_from first v → os ≡ objects_of v → IfOk answer (λ o. o.text.items ≡ concat (objects_from first (values_of v r os))) → IfOk answer (λ o. o.offsets.items ≡ offsets_from 0 (objects_from first (values_of v r os))) → IfOk answer (λ o. AreFontObjectsAt first v o.text.items o.offsets.items)
answer_at first v r os (Ok o) p q e f =
    font_at first v o.text.items o.offsets.items (e ∙ ap concat (same_objects first v r os p q)) (f ∙ ap (λ (ts : List (List ℕ)). offsets_from 0 ts) (same_objects first v r os p q))
answer_at first v r os (Err _) p q e f = tt

pub answer_text : (first : ℕ) (v : FontValues) (r : References) (os : List Object) (answer : Result FontObjects Error) → r ≡ references_from first v → os ≡ objects_of v → IfOk answer (λ o. o.text.items ≡ concat (objects_from first (values_of v r os))) → IfOk answer (λ o. o.text.items ≡ concat (font_objects first v))
answer_text first v r os (Ok o) p q e = e ∙ ap concat (same_objects first v r os p q)
answer_text first v r os (Err _) p q e = tt

pub answer_offsets : (first : ℕ) (v : FontValues) (r : References) (os : List Object) (answer : Result FontObjects Error) → r ≡ references_from first v → os ≡ objects_of v → IfOk answer (λ o. o.offsets.items ≡ offsets_from 0 (objects_from first (values_of v r os))) → IfOk answer (λ o. o.offsets.items ≡ offsets_from 0 (font_objects first v))
answer_offsets first v r os (Ok o) p q e = e ∙ ap (λ (ts : List (List ℕ)). offsets_from 0 ts) (same_objects first v r os p q)
answer_offsets first v r os (Err _) p q e = tt
