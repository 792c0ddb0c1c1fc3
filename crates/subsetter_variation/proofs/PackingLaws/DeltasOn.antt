-- Deltas that are read run by run: where a reader of them is.
use Rattle.std.proofs.Common.{◌≡◌, ℕ, zero, suc, ◌+◌, ◌-◌, ◌%◌, ◌<◌, ◌≤◌, List, [], ◌∷◌, ◌++◌, length, get_or, drop, Option, Some, None, IfSome, ℤ, pos, refl, ap, subst, sym, ◌∙◌, arith}
use Rattle.std.specs.Option.{option_map}
use Rattle.std.proofs.lemmas.List.{drop-drop, get_or-drop, get_or_append_left}
use Rattle.std.proofs.Math.Seq.{drop-append_seam}
use Rattle.subsetter_variation.specs.Packing.Packed.{Run, runs, ended, next_delta, deltas_from}
use Rattle.subsetter_base.specs.Bytes.{byte}
use Rattle.subsetter_variation.proofs.PackingLaws.DeltaRuns.{run_of, onto, next_then, then_deltas, run_begins, no_run, run_then, run_past}

-- what is read from a place on
abbrev pub from_place : ℕ → List ℤ × List ℕ → List ℤ × List ℕ
from_place at d = (drop at d.0, d.1)

abbrev byte_list : Option (ℕ × List ℕ) → List ℕ
byte_list None = []
byte_list (Some x) = x.0 ∷ x.1

pub byte_is : (bytes : List ℕ) (b : ℕ) (rest : List ℕ) → byte bytes ≡ Some (b, rest) → bytes ≡ b ∷ rest
unfolding byte
byte_is [] b rest e = absurd (cc)
byte_is (x ∷ xs) b rest e = ap byte_list e

pub no_byte : (bytes : List ℕ) → byte bytes ≡ None → bytes ≡ []
unfolding byte
no_byte [] e = refl
no_byte (x ∷ xs) e = absurd (cc)

-- ---- as many as were asked for
ended_length : (o : Option (List ℕ)) → IfSome {T = List ℤ × List ℕ} (option_map (λ bytes. ([], bytes)) o) (λ d. length d.0 ≡ 0)
ended_length None = tt
ended_length (Some bytes) = refl

onto_length : (n : ℕ) (x : ℤ) (o : Option (List ℤ × List ℕ)) → IfSome o (λ d. length d.0 ≡ n) → IfSome (onto x o) (λ d. length d.0 ≡ suc n)
onto_length n x None h = tt
onto_length n x (Some d) h = ap suc h

then_length : (n : ℕ) (o : Option (ℤ × Run)) → ((r : Run) → IfSome (deltas_from n r) (λ d. length d.0 ≡ n)) → IfSome (next_then n o) (λ d. length d.0 ≡ suc n)
then_length n None h = tt
then_length n (Some d) h = onto_length n d.0 (deltas_from n d.1) (h d.1)

pub length_read : (n : ℕ) (r : Run) → IfSome (deltas_from n r) (λ d. length d.0 ≡ n)
length_read zero r = ended_length (ended r)
length_read (suc n) r = then_length n (next_delta r) (λ next. length_read n next)

-- ---- after a run
abbrev got : Option (List ℤ × List ℕ) → List ℤ × List ℕ
got None = ([], [])
got (Some d) = d

past_front : (at c past : ℕ) (front : List ℤ) (q whole : Option (List ℤ × List ℕ)) → past ≡ at + c → length front ≡ c → option_map (λ x. (front ++ x.0, x.1)) q ≡ option_map (from_place at) whole → q ≡ option_map (from_place past) whole
past_front at c past front None None p l e = refl
past_front at c past front None (Some d) p l e = absurd (cc)
past_front at c past front (Some x) None p l e = absurd (cc)
past_front at c past front (Some x) (Some d) p l e =
    let deltas : front ++ x.0 ≡ drop at d.0 = ap (λ o. (got o).0) e in
    let bytes : x.1 ≡ d.1 = ap (λ o. (got o).1) e in
    let rest : x.0 ≡ drop past d.0 = sym (drop-append_seam front x.0) ∙ ap (λ n. drop n (front ++ x.0)) l ∙ ap (drop c) deltas ∙ drop-drop c at d.0 ∙ ap (λ n. drop n d.0) (sym p) in
    ap (λ y. Some (y, x.1)) rest ∙ ap (λ y. Some (drop past d.0, y)) bytes

pub after_run : (m at c past : ℕ) (o whole : Option (List ℤ × List ℕ)) (rest : List ℕ) → past ≡ at + c → IfSome o (λ d. length d.0 ≡ c) → Some rest ≡ option_map (λ d. d.1) o → then_deltas m o ≡ option_map (from_place at) whole → deltas_from m (runs rest) ≡ option_map (from_place past) whole
after_run m at c past None whole rest p l r e = absurd (cc)
after_run m at c past (Some x) whole rest p l r e =
    let same : rest ≡ x.1 = cc in
    ap (λ bytes. deltas_from m (runs bytes)) same ∙ past_front at c past x.0 (deltas_from m (runs x.1)) whole p l e

-- the deltas of the run are those from its place on
front_at : (at c k : ℕ) (front : List ℤ) (q : Option (List ℤ × List ℕ)) (d : List ℤ × List ℕ) → at ≤ k → k < at + c → length front ≡ c → option_map (λ x. (front ++ x.0, x.1)) q ≡ Some (from_place at d) → get_or front (k - at) (pos 0) ≡ get_or d.0 k (pos 0)
front_at at c k front None d h g l e = absurd (cc)
front_at at c k front (Some x) d h g l e =
    let deltas : front ++ x.0 ≡ drop at d.0 = ap (λ o. (got o).0) e in
    let place : at + (k - at) ≡ k = omega arith in
    sym (get_or_append_left front x.0 (pos 0) (k - at) (omega arith)) ∙ ap (λ xs. get_or xs (k - at) (pos 0)) deltas ∙ get_or-drop at d.0 (k - at) (pos 0) ∙ ap (λ j. get_or d.0 j (pos 0)) place

pub in_run : (P : ℕ → ℤ → Type 0) (m at c k : ℕ) (o : Option (List ℤ × List ℕ)) (d : List ℤ × List ℕ) (rest : List ℕ) → at ≤ k → k < at + c → IfSome o (λ x. length x.0 ≡ c) → Some rest ≡ option_map (λ x. x.1) o → then_deltas m o ≡ Some (from_place at d) → IfSome o (λ x. (j : ℕ) → j < c → P j (get_or x.0 j (pos 0))) → P (k - at) (get_or d.0 k (pos 0))
in_run P m at c k None d rest h g l r e p = absurd (cc)
in_run P m at c k (Some x) d rest h g l r e p = subst (P (k - at)) (front_at at c k x.0 (deltas_from m (runs x.1)) d h g l e) (p (k - at) (omega arith))

-- ---- from a place on
pub run_read : (n at c past control : ℕ) (bytes : List ℕ) → past ≡ at + c → past ≤ n → c ≡ control % 64 + 1 → deltas_from (n - at) (runs (control ∷ bytes)) ≡ then_deltas (n - past) (deltas_from c (run_of c control bytes))
run_read n at c past control bytes p l e =
    let more : n - at ≡ c + (n - past) = omega arith in
    run_begins (n - at) control bytes (omega arith) ∙ ap (λ k. deltas_from (n - at) (run_of k control bytes)) (sym e) ∙ ap (λ k. deltas_from k (run_of c control bytes)) more ∙ run_then c (n - past) control bytes

none_of : (at : ℕ) (whole : Option (List ℤ × List ℕ)) → None ≡ option_map (from_place at) whole → whole ≡ None
none_of at None e = refl
none_of at (Some d) e = absurd (cc)

pub cut_here : (n at : ℕ) (bytes : List ℕ) (whole : Option (List ℤ × List ℕ)) → at < n → byte bytes ≡ None → deltas_from (n - at) (runs bytes) ≡ option_map (from_place at) whole → whole ≡ None
cut_here n at bytes whole l e read = none_of at whole (sym (ap (λ b. deltas_from (n - at) (runs b)) (no_byte bytes e) ∙ no_run (n - at) (omega arith)) ∙ read)

pub past_here : (n at control : ℕ) (bytes more : List ℕ) (whole : Option (List ℤ × List ℕ)) → at < n → n < at + (control % 64) + 1 → byte bytes ≡ Some (control, more) → deltas_from (n - at) (runs bytes) ≡ option_map (from_place at) whole → whole ≡ None
past_here n at control bytes more whole l h e read = none_of at whole (sym (ap (λ b. deltas_from (n - at) (runs b)) (byte_is bytes control more e) ∙ run_begins (n - at) control more (omega arith) ∙ run_past (n - at) (control % 64 + 1) control more (omega arith)) ∙ read)

no_run_read : (o : Option (List ℤ × List ℕ)) → None ≡ option_map (λ d. d.1) o → o ≡ None
no_run_read None e = refl
no_run_read (Some d) e = absurd (cc)

pub cut_run : (n at c past control : ℕ) (bytes more : List ℕ) (whole : Option (List ℤ × List ℕ)) → past ≡ at + c → past ≤ n → c ≡ control % 64 + 1 → byte bytes ≡ Some (control, more) → None ≡ option_map (λ d. d.1) (deltas_from c (run_of c control more)) → deltas_from (n - at) (runs bytes) ≡ option_map (from_place at) whole → whole ≡ None
cut_run n at c past control bytes more whole p l h e none read = none_of at whole (sym (ap (λ b. deltas_from (n - at) (runs b)) (byte_is bytes control more e) ∙ run_read n at c past control more p l h ∙ ap (then_deltas (n - past)) (no_run_read (deltas_from c (run_of c control more)) none)) ∙ read)

-- ---- what is said of what is read
pub of_none : (P : List ℤ × List ℕ → Type 0) (o : Option (List ℤ × List ℕ)) → o ≡ None → IfSome o P
of_none P o e = subst (λ x. IfSome x P) (sym e) tt

pub of_each : (P : List ℤ × List ℕ → Type 0) (o : Option (List ℤ × List ℕ)) → ((d : List ℤ × List ℕ) → o ≡ Some d → P d) → IfSome o P
of_each P None h = tt
of_each P (Some d) h = h d refl

rest_of : (at : ℕ) (bytes : List ℕ) (whole : Option (List ℤ × List ℕ)) → Some ([], bytes) ≡ option_map (from_place at) whole → Some bytes ≡ option_map (λ d. d.1) whole
rest_of at bytes None e = absurd (cc)
rest_of at bytes (Some d) e = ap (λ o. Some (got o).1) e

pub all_read : (n at : ℕ) (bytes : List ℕ) (whole : Option (List ℤ × List ℕ)) → n ≡ at → deltas_from (n - at) (runs bytes) ≡ option_map (from_place at) whole → Some bytes ≡ option_map (λ d. d.1) whole
all_read n at bytes whole same read =
    let none : n - at ≡ 0 = omega arith in
    rest_of at bytes whole (sym (ap (λ k. deltas_from k (runs bytes)) none) ∙ read)
