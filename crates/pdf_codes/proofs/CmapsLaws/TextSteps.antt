-- A table of texts that is filled from lines, and the lines that it has.
use Rattle.std.proofs.Common.{◌≡◌, ℕ, zero, suc, ◌+◌, ◌<◌, ◌≤◌, cond, List, [], ◌∷◌, ◌++◌, length, get_or, set, drop, replicate, refl, sym, ap, subst, ◌∙◌, inl, inr, arith}
use Rattle.std.proofs.lemmas.Bool.{cases_eq, eq-eqb, ne_eqb}
use Rattle.std.proofs.lemmas.List.{append-nil, append_assoc, drop_more, get_or-map, get_or-set_same, get_or-set_other, length-map, map-append, map-set}
use Rattle.std.proofs.lemmas.List.Elements.{All-append}
use Rattle.std.specs.Borrow.{Bor}
use Rattle.std.specs.Prelude.{All}
use Rattle.pdf_text.specs.Cmaps.Cmap.{IsLine, Line}
use Rattle.pdf_text.specs.View.{line_view, lines_view}
use Rattle.pdf_text.specs.declared.cmaps.to_unicode.Mapping.{Mapping}
use Rattle.pdf_codes.specs.Cmaps.Texts.{first_text, limit, line_of, lines_from, lines_of_codes, said_by, table_lines}
use Rattle.subsetter_base.specs.Texts.{or_else, views}

no_units : (us : List ℕ) → length us ≡ 0 → us ≡ []
no_units [] h = refl
no_units (u ∷ us) h = absurd (omega arith)

pub line_none : (k : ℕ) (us : List ℕ) → length us ≡ 0 → line_of k us ≡ []
line_none k [] h = refl
line_none k (u ∷ us) h = absurd (omega arith)

pub line_is : (k : ℕ) (us : List ℕ) → 0 < length us → line_of k us ≡ record { code = k; units = us } ∷ []
line_is k [] h = absurd (omega arith)
line_is k (u ∷ us) h = refl

nothing : (n k : ℕ) → get_or (replicate {A = List ℕ} n []) k [] ≡ []
nothing zero k = refl
nothing (suc n) zero = refl
nothing (suc n) (suc k) = nothing n k

-- where no text is known, and where all lines are read
pub text_begun : (n k : ℕ) (x : List ℕ) → or_else (get_or (replicate {A = List ℕ} n []) k []) x ≡ x
text_begun n k x = ap (λ (t : List ℕ). or_else t x) (nothing n k)

pub text_done : (t : List ℕ) → or_else t [] ≡ t
text_done [] = refl
text_done (u ∷ us) = refl

only : {l : Line} → IsLine l → All IsLine (l ∷ [])
only {l} h zero d lt = h
only {l} h (suc k) d lt = absurd (omega arith)

-- ---- the first text of a code, with one line more

pub first_same : (l : Line) (rest : List Line) (k : ℕ) → l.code ≡ k → first_text (l ∷ rest) k ≡ or_else l.units (first_text rest k)
first_same l rest k e = ap (λ b. cond b (or_else l.units (first_text rest k)) (first_text rest k)) (eq-eqb l.code k e)

pub first_other : (l : Line) (rest : List Line) (k : ℕ) → (l.code ≡ k → ⊥) → first_text (l ∷ rest) k ≡ first_text rest k
first_other l rest k ne = ap (λ b. cond b (or_else l.units (first_text rest k)) (first_text rest k)) (ne_eqb l.code k ne)

or_kept : (text x y : List ℕ) → 1 ≤ length text → or_else text x ≡ or_else text y
or_kept [] x y h = absurd (omega arith)
or_kept (u ∷ us) x y h = refl

-- where no text was known, the line's is written
written_here : (t : List (List ℕ)) (c : ℕ) (us x : List ℕ) → c < length t → get_or t c [] ≡ [] → or_else (get_or (set t c us) c []) x ≡ or_else (get_or t c []) (or_else us x)
written_here t c us x lt none = ap (λ (v : List ℕ). or_else v x) (get_or-set_same t c us [] lt) ∙ sym (ap (λ (v : List ℕ). or_else v (or_else us x)) none)

pub text_written : (t : List (List ℕ)) (l : Line) (rest : List Line) (k : ℕ) → l.code < length t → get_or t l.code [] ≡ []
    → or_else (get_or (set t l.code l.units) k []) (first_text rest k) ≡ or_else (get_or t k []) (first_text (l ∷ rest) k)
text_written t l rest k lt none = elim (cases_eq l.code k) [
  | inl e ↦ subst (λ (j : ℕ). or_else (get_or (set t l.code l.units) j []) (first_text rest j) ≡ or_else (get_or t j []) (first_text (l ∷ rest) j)) e
      (written_here t l.code l.units (first_text rest l.code) lt none ∙ sym (ap (or_else (get_or t l.code [])) (first_same l rest l.code refl)))
  | inr ne ↦ ap (λ (v : List ℕ). or_else v (first_text rest k)) (get_or-set_other t l.code k l.units [] (λ h. ne (sym h))) ∙ ap (or_else (get_or t k [])) (sym (first_other l rest k ne))
]

-- where one was known, it stays
pub text_kept : (t : List (List ℕ)) (l : Line) (rest : List Line) (k : ℕ) → 1 ≤ length (get_or t l.code []) → or_else (get_or t k []) (first_text rest k) ≡ or_else (get_or t k []) (first_text (l ∷ rest) k)
text_kept t l rest k some = elim (cases_eq l.code k) [
  | inl e ↦ subst (λ (j : ℕ). or_else (get_or t j []) (first_text rest j) ≡ or_else (get_or t j []) (first_text (l ∷ rest) j)) e (or_kept (get_or t l.code []) (first_text rest l.code) (first_text (l ∷ rest) l.code) some)
  | inr ne ↦ ap (or_else (get_or t k [])) (sym (first_other l rest k ne))
]

-- ---- lines

-- past the greatest code no code has a text
pub none_past : (ls : List Line) (k : ℕ) → limit ls ≤ k → first_text ls k ≡ []
none_past [] k h = refl
none_past (l ∷ ls) k h = first_other l ls k (λ e. omega (arith, h, e)) ∙ none_past ls k (omega (arith, h))

-- the lines of a table of what codes say are the lines of the codes
pub table_is : (says : ℕ → List ℕ) (t : List (List ℕ)) (k n : ℕ) → length t ≡ n → ((i : ℕ) → i < n → get_or t i [] ≡ says (k + i)) → table_lines k t ≡ lines_from says k n
table_is says [] k zero e h = refl
table_is says [] k (suc n) e h = absurd (omega (arith, e))
table_is says (us ∷ t) k zero e h = absurd (omega (arith, e))
table_is says (us ∷ t) k (suc n) e h =
    let here : us ≡ says k = h 0 (omega arith) ∙ ap says (omega arith) in
    let later : (i : ℕ) → i < n → get_or t i [] ≡ says (k + 1 + i) = λ i lt. h (suc i) (omega arith) ∙ ap says (omega arith) in
    ap (λ (v : List ℕ). line_of k v ++ table_lines (k + 1) t) here ∙ ap (λ (m : List Line). line_of k (says k) ++ m) (table_is says t (k + 1) n (omega (arith, e)) later)

-- ---- read

-- the first text in the lines from a code on, past a line of that code
line_first : (k c : ℕ) (us : List ℕ) (rest : List Line) → (k ≡ c → ⊥) → first_text (line_of k us ++ rest) c ≡ first_text rest c
line_first k c [] rest ne = refl
line_first k c (u ∷ us) rest ne = first_other (record { code = k; units = u ∷ us }) rest c ne

line_here : (k : ℕ) (us : List ℕ) (rest : List Line) → first_text rest k ≡ [] → first_text (line_of k us ++ rest) k ≡ us
line_here k [] rest none = none
line_here k (u ∷ us) rest none = first_same (record { code = k; units = u ∷ us }) rest k refl

pub lines_before : (says : ℕ → List ℕ) (k n c : ℕ) → c < k → first_text (lines_from says k n) c ≡ []
lines_before says k zero c h = refl
lines_before says k (suc n) c h = line_first k c (says k) (lines_from says (k + 1) n) (λ e. omega (arith, e)) ∙ lines_before says (k + 1) n c (omega arith)

pub lines_within : (says : ℕ → List ℕ) (k n c : ℕ) → k ≤ c → c < k + n → first_text (lines_from says k n) c ≡ says c
lines_within says k zero c h lt = absurd (omega arith)
lines_within says k (suc n) c h lt = elim (cases_eq k c) [
  | inl e ↦ subst (λ (j : ℕ). first_text (lines_from says k (suc n)) j ≡ says j) e (line_here k (says k) (lines_from says (k + 1) n) (lines_before says (k + 1) n k (omega arith)))
  | inr ne ↦ line_first k c (says k) (lines_from says (k + 1) n) ne ∙ lines_within says (k + 1) n c (omega (arith, ne)) (omega arith)
]

pub lines_past : (says : ℕ → List ℕ) (k n c : ℕ) → k + n ≤ c → first_text (lines_from says k n) c ≡ []
lines_past says k zero c h = refl
lines_past says k (suc n) c h = line_first k c (says k) (lines_from says (k + 1) n) (λ e. omega (arith, e)) ∙ lines_past says (k + 1) n c (omega arith)

-- ---- with the references that the code has

view_set : (ts : List (Bor (List ℕ))) (c : ℕ) (u : Bor (List ℕ)) → views (set ts c u) ≡ set (views ts) c u.now
view_set ts c u = map-set (λ (t : Bor (List ℕ)). t.now) ts c u

pub written_in : (ts : List (Bor (List ℕ))) (m : Mapping) (rest : List Line) (k : ℕ) → m.code < length ts → length (get_or (views ts) m.code []) ≡ 0
    → or_else (get_or (views (set ts m.code m.units)) k []) (first_text rest k) ≡ or_else (get_or (views ts) k []) (first_text (line_view m ∷ rest) k)
written_in ts m rest k lt none =
    ap (λ (l : List (List ℕ)). or_else (get_or l k []) (first_text rest k)) (view_set ts m.code m.units)
    ∙ text_written (views ts) (line_view m) rest k (omega (arith, lt, length-map ts (λ (t : Bor (List ℕ)). t.now))) (no_units (get_or (views ts) m.code []) none)

pub kept_in : (ts : List (Bor (List ℕ))) (m : Mapping) (rest : List Line) (k : ℕ) → 1 ≤ length (get_or (views ts) m.code []) → or_else (get_or (views ts) k []) (first_text rest k) ≡ or_else (get_or (views ts) k []) (first_text (line_view m ∷ rest) k)
kept_in ts m rest k some = text_kept (views ts) (line_view m) rest k some

-- ---- lines that can be written

pub line_added : (ls after : List Mapping) (m : Mapping) → after ≡ ls ++ m ∷ [] → All IsLine (lines_view ls) → IsLine (line_view m) → All IsLine (lines_view after)
line_added ls after m is are one =
    let P : List Line → Type 0 = λ l. All IsLine l in
    subst P (sym (map-append line_view ls (m ∷ [])) ∙ sym (ap lines_view is)) (All-append IsLine (lines_view ls) (line_view m ∷ []) are (only one))

-- the text that a table of first texts has for a code
pub text_found : (ts : List (Bor (List ℕ))) (ls : List Line) (c : ℕ) (d : Bor (List ℕ)) → ((k : ℕ) → k < length ts → get_or (views ts) k [] ≡ first_text ls k) → c < length ts → (get_or ts c d).now ≡ first_text ls c
text_found ts ls c d h lt = sym (get_or-map (λ (t : Bor (List ℕ)). t.now) ts c d [] lt) ∙ h c lt

pub lines_are : (ls : List Line) (ts : List (Bor (List ℕ))) (n : ℕ) → n ≡ limit ls → length ts ≡ n → ((k : ℕ) → k < n → get_or (views ts) k [] ≡ said_by ls k) → table_lines 0 (views ts) ≡ lines_of_codes ls
lines_are ls ts n is many h =
    table_is (said_by ls) (views ts) 0 (limit ls) (length-map ts (λ (t : Bor (List ℕ)). t.now) ∙ many ∙ is) (λ i lt. let here : i ≡ 0 + i = omega arith in h i (omega (arith, lt, is)) ∙ ap (said_by ls) here)

pub written_at : (ts : List (Bor (List ℕ))) (m : Mapping) (code : ℕ) → code ≡ m.code → m.code < length ts → length (get_or (views ts) code []) ≡ 0 → (k : ℕ) (rest : List Line)
    → or_else (get_or (views (set ts code m.units)) k []) (first_text rest k) ≡ or_else (get_or (views ts) k []) (first_text (line_view m ∷ rest) k)
written_at ts m code is lt none k rest =
    ap (λ (c : ℕ). or_else (get_or (views (set ts c m.units)) k []) (first_text rest k)) is
    ∙ written_in ts m rest k lt (let P : ℕ → Type 0 = λ c. length (get_or (views ts) c []) ≡ 0 in subst P is none)

-- what is empty in the table is so in its view
pub empty_at : (ts : List (Bor (List ℕ))) (c : ℕ) (d : Bor (List ℕ)) → c < length ts → length (get_or ts c d).now ≡ 0 → length (get_or (views ts) c []) ≡ 0
empty_at ts c d lt none = ap length (get_or-map (λ (t : Bor (List ℕ)). t.now) ts c d [] lt) ∙ none

-- ---- one text of the table more

line_read : (ts : List (Bor (List ℕ))) (front : List Line) (k : ℕ) (d : Bor (List ℕ)) (m all : List Line) → k < length ts → line_of k (get_or ts k d).now ≡ m → front ++ table_lines k (views (drop k ts)) ≡ all
    → (front ++ m) ++ table_lines (k + 1) (views (drop (k + 1) ts)) ≡ all
line_read ts front k d m all lt is h =
    let others : List Line = table_lines (k + 1) (views (drop (k + 1) ts)) in
    append_assoc front m others
    ∙ ap (λ (l : List Line). front ++ (l ++ others)) (sym is)
    ∙ sym (ap (λ (l : List (Bor (List ℕ))). front ++ table_lines k (views l)) (drop_more ts k d lt))
    ∙ h

pub line_put : (ts : List (Bor (List ℕ))) (ls after : List Mapping) (m : Mapping) (k : ℕ) (d : Bor (List ℕ)) (all : List Line) → after ≡ ls ++ m ∷ [] → k < length ts → 0 < length (get_or ts k d).now
    → line_view m ≡ record { code = k; units = (get_or ts k d).now } → lines_view ls ++ table_lines k (views (drop k ts)) ≡ all → lines_view after ++ table_lines (k + 1) (views (drop (k + 1) ts)) ≡ all
line_put ts ls after m k d all is lt some view h =
    let others : List Line = table_lines (k + 1) (views (drop (k + 1) ts)) in
    ap (λ (l : List Mapping). lines_view l ++ others) is
    ∙ ap (λ (l : List Line). l ++ others) (map-append line_view ls (m ∷ []))
    ∙ line_read ts (lines_view ls) k d (line_view m ∷ []) all lt (line_is k (get_or ts k d).now some ∙ sym (ap (λ (l : Line). l ∷ []) view)) h

pub line_left : (ts : List (Bor (List ℕ))) (front : List Line) (k : ℕ) (d : Bor (List ℕ)) (all : List Line) → k < length ts → length (get_or ts k d).now ≡ 0 → front ++ table_lines k (views (drop k ts)) ≡ all
    → front ++ table_lines (k + 1) (views (drop (k + 1) ts)) ≡ all
line_left ts front k d all lt none h =
    let others : List Line = table_lines (k + 1) (views (drop (k + 1) ts)) in
    sym (ap (λ (l : List Line). l ++ others) (append-nil front)) ∙ line_read ts front k d [] all lt (line_none k (get_or ts k d).now none) h
