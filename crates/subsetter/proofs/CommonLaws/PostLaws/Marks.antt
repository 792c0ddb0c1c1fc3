-- Names of `post` that are found from marks.
use Rattle.std.proofs.Common.{◌≡◌, ◌<◌, ◌≤◌, ℕ, zero, suc, ◌+◌, ◌*◌, List, [], ◌∷◌, ◌++◌, length, drop, Option, Some, None, refl, sym, ap, ◌∙◌, arith}
use Rattle.std.specs.Prelude.{slice_get, get_or}
use Rattle.std.proofs.lemmas.List.{drop-drop, drop_more, length-append, length-drop}
use Rattle.subsetter.specs.Common.Post.Read.{names_in}
use Rattle.subsetter.specs.Common.Post.Marks.{AreMarks}
use Rattle.subsetter.proofs.CommonLaws.PostLaws.Steps.{first_gone}

-- a step more
one_step : (step n : ℕ) → step * n + step ≡ step * suc n
one_step step n = omega arith

no_step : (step : ℕ) → step * 0 ≡ 0
no_step step = omega arith

steps_more : (step n : ℕ) → step + step * n ≡ step * suc n
steps_more step n = omega arith

pub marks_push : (step : ℕ) (all : List ℕ) (names : List (List ℕ)) (marks : List ℕ) (m : ℕ) → AreMarks step all names marks → names_in (drop m all) ≡ drop (step * length marks) names → m ≤ length all → AreMarks step all names (marks ++ m ∷ [])
marks_push step all names [] m h e le = (e ∙ ap (λ n. drop n names) (no_step step), (le, tt))
marks_push step all names (x ∷ marks) m h e le = (h.0, (h.1.0, marks_push step all (drop step names) marks m h.1.1 (e ∙ ap (λ n. drop n names) (sym (steps_more step (length marks))) ∙ sym (drop-drop (step * length marks) step names)) le))

-- no marks at first
pub no_marks : (step : ℕ) (all marks : List ℕ) → marks ≡ [] → names_in all ≡ drop (step * length marks) (names_in all)
no_marks step all marks e = ap (λ n. drop n (names_in all)) (sym (ap (λ (l : List ℕ). step * length l) e ∙ no_step step))

-- the same of the code's marks
pub mark_last : (step : ℕ) (all : List ℕ) (names : List (List ℕ)) (marks after : List ℕ) (m : ℕ) → after ≡ marks ++ m ∷ [] → AreMarks step all names marks → names_in (drop m all) ≡ drop (step * length marks) names → m ≤ length all → AreMarks step all names after
mark_last step all names marks after m is h e le = rw is (marks_push step all names marks m h e le)

pub mark_is : (step : ℕ) (all : List ℕ) (names : List (List ℕ)) (marks : List ℕ) (j m : ℕ) → AreMarks step all names marks → slice_get marks j ≡ Some m → (names_in (drop m all) ≡ drop (step * j) names) × (m ≤ length all)
mark_is step all names [] j m h e = absurd cc
mark_is step all names (x ∷ marks) zero m h e =
    let same : m ≡ x = ap (λ (o : Option ℕ). elim o as (λ _. ℕ) [ None ↦ m | Some b ↦ b ]) (sym e) in
    (ap (λ (n : ℕ). names_in (drop n all)) same ∙ h.0 ∙ ap (λ n. drop n names) (sym (no_step step)), omega (arith, same, h.1.0))
mark_is step all names (x ∷ marks) (suc j) m h e =
    let later = mark_is step all (drop step names) marks j m h.1.1 e in
    (later.0 ∙ drop-drop (step * j) step names ∙ ap (λ n. drop n names) (steps_more step j), later.1)

-- the member at a place is the first after the place
pub first_after : (names : List (List ℕ)) (i : ℕ) (x : List ℕ) (rest : List (List ℕ)) → drop i names ≡ x ∷ rest → get_or names i [] ≡ x
first_after [] zero x rest e = absurd cc
first_after [] (suc i) x rest e = absurd cc
first_after (y ∷ names) zero x rest e = ap (λ (l : List (List ℕ)). get_or l 0 []) e
first_after (y ∷ names) (suc i) x rest e = first_after names i x rest e

pub none_following : (names : List (List ℕ)) (i : ℕ) → drop i names ≡ [] → get_or names i [] ≡ []
none_following [] i e = refl
none_following (y ∷ names) zero e = absurd cc
none_following (y ∷ names) (suc i) e = none_following names i e

-- after the name at a place
pub past_first : (bytes : List ℕ) (at len : ℕ) → at < length bytes → len ≡ get_or bytes at 0 → at + 1 + len ≤ length bytes → names_in (drop (at + 1 + len) bytes) ≡ drop 1 (names_in (drop at bytes))
past_first bytes at len lt is le =
    let front : drop at bytes ≡ len ∷ drop (at + 1) bytes = drop_more bytes at 0 lt ∙ ap (λ (x : ℕ). x ∷ drop (at + 1) bytes) (sym is) in
    let following : drop len (drop (at + 1) bytes) ≡ drop (at + 1 + len) bytes = drop-drop len (at + 1) bytes in
    ap names_in (sym following) ∙ first_gone len (drop (at + 1) bytes) (omega (arith, length-drop (at + 1) bytes)) ∙ ap (λ l. drop 1 (names_in l)) (sym front)

-- one name more is passed over
pub passed : (bytes : List ℕ) (start at next n : ℕ) → names_in (drop at bytes) ≡ drop n (names_in (drop start bytes)) → names_in (drop next bytes) ≡ drop 1 (names_in (drop at bytes)) → names_in (drop next bytes) ≡ drop (n + 1) (names_in (drop start bytes))
passed bytes start at next n e h = h ∙ ap (drop 1) e ∙ drop-drop 1 n (names_in (drop start bytes))

-- a step further
pub mark_more : (step : ℕ) (all : List ℕ) (names : List (List ℕ)) (marks after : List ℕ) (m at next : ℕ) → after ≡ marks ++ m ∷ [] → names_in (drop at all) ≡ drop (step * length marks) names → names_in (drop next all) ≡ drop step (names_in (drop at all)) → names_in (drop next all) ≡ drop (step * length after) names
mark_more step all names marks after m at next is here further =
    let len : length after ≡ suc (length marks) = ap length is ∙ length-append marks (m ∷ []) ∙ omega arith in
    further ∙ ap (drop step) here ∙ drop-drop step (step * length marks) names ∙ ap (λ n. drop n names) (one_step step (length marks) ∙ ap (λ n. step * n) (sym len))

-- found from a mark
pub from_mark : (step : ℕ) (all : List ℕ) (marks : List ℕ) (i j k m : ℕ) → step * j + k ≡ i → AreMarks step all (names_in all) marks → slice_get marks j ≡ Some m → drop k (names_in (drop m all)) ≡ drop i (names_in all)
from_mark step all marks i j k m is h e = ap (drop k) (mark_is step all (names_in all) marks j m h e).0 ∙ drop-drop k (step * j) (names_in all) ∙ ap (λ n. drop n (names_in all)) is
