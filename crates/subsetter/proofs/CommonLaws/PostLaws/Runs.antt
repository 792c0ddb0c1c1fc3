-- Names of `post` that follow one another.
use Rattle.std.proofs.Common.{◌≡◌, ℕ, zero, suc, ◌+◌, ◌-◌, ◌*◌, ◌%◌, ◌<◌, ◌≤◌, List, [], ◌∷◌, ◌++◌, Bool, true, false, cond, leb, length, get_or, take, drop, Option, Some, None, refl, sym, ap, subst, ◌∙◌, inl, inr, append_assoc, add-one, arith}
use Rattle.std.specs.Prelude.{flat_map, slice_get, slice_index, IfSome}
use Rattle.std.specs.Borrow.{Bor}
use Rattle.std.specs.Option.{option_copied}
use Rattle.std.proofs.lemmas.Bool.{cases_lt, le-ltb, lt-leb, lt-ltb}
use Rattle.std.proofs.lemmas.Option.{get_or_from_slice_get, slice_get_within}
use Rattle.std.proofs.lemmas.List.Concat.{flat_map-cons}
use Rattle.std.proofs.lemmas.List.{append-nil, drop-drop, drop_all, drop_more, drop_at, get_or-drop, length-append, length-drop, length-take-le, take_at, take-append-drop}
use Rattle.subsetter_base.specs.Bytes.{IsBytes, between_offsets}
use Rattle.subsetter_base.proofs.ByteLemmas.{IsBytes-drop}
use Rattle.subsetter_base.proofs.Options.{just_is}
use Rattle.subsetter.specs.Common.Post.Marks.{AreMarks, step_of, run_bytes, place_of, ArePlaces, IsName}
use Rattle.subsetter.specs.Common.Post.Plain.{entry_of}
use Rattle.subsetter.specs.Common.Post.Read.{names_in, pascal_strings, pascal_bytes}
use Rattle.subsetter.proofs.CommonLaws.PostLaws.Indexes.{first_name}
use Rattle.subsetter.proofs.CommonLaws.PostLaws.Marks.{past_first, mark_is}

-- ---- one name

no_name : (len : ℕ) (rest : List ℕ) → length rest < len → names_in (len ∷ rest) ≡ []
no_name len rest lt = ap (λ b. cond b (take len rest ∷ pascal_strings (length rest) (drop len rest)) []) (lt-leb _ _ lt)

pub none_at_end : (bytes : List ℕ) (at : ℕ) → length bytes ≤ at → names_in (drop at bytes) ≡ []
none_at_end bytes at le = ap names_in (drop_all at bytes le)

pub none_cut : (bytes : List ℕ) (at len : ℕ) → at < length bytes → len ≡ get_or bytes at 0 → length bytes < at + 1 + len → names_in (drop at bytes) ≡ []
none_cut bytes at len lt is past =
    ap names_in (drop_more bytes at 0 lt ∙ ap (λ (x : ℕ). x ∷ drop (at + 1) bytes) (sym is)) ∙ no_name len (drop (at + 1) bytes) (omega (arith, length-drop (at + 1) bytes))

pub is_name : (bytes : List ℕ) (at len : ℕ) → at < length bytes → len ≡ get_or bytes at 0 → at + 1 + len ≤ length bytes → IsName bytes at (at + 1 + len)
is_name bytes at len lt is le =
    let rest = drop (at + 1) bytes in
    let front : drop at bytes ≡ len ∷ rest = drop_more bytes at 0 lt ∙ ap (λ (x : ℕ). x ∷ rest) (sym is) in
    let room : len ≤ length rest = omega (arith, length-drop (at + 1) bytes) in
    let names = first_name (drop at bytes) rest len front room in
    let size : length (take len rest) ≡ len = length-take-le len rest room in
    record {
      some = omega (arith, ap length names);
      place = omega (arith, size, ap (λ (l : List (List ℕ)). length (get_or l 0 [])) names);
      following = past_first bytes at len lt is le;
    }

-- ---- the names at the front of some bytes

-- the first k names, and what is after them
record IsFront (all : List ℕ) (k : ℕ) : Type 0 where
  rest : List ℕ
  split : all ≡ run_bytes (names_in all) 0 k ++ rest
  left : names_in rest ≡ drop k (names_in all)

record IsFirst (bytes : List ℕ) : Type 0 where
  len : ℕ
  rest : List ℕ
  is : bytes ≡ len ∷ rest
  room : len ≤ length rest
  small : len < 256

is_first : (bytes : List ℕ) → IsBytes bytes → 1 ≤ length (names_in bytes) → IsFirst bytes
is_first [] small some = absurd (omega (arith, some))
is_first (len ∷ rest) small some = elim (cases_lt (length rest) len) [
  | inl lt ↦ absurd (omega (arith, some, ap length (no_name len rest lt)))
  | inr le ↦ record { len = len; rest = rest; is = refl; room = le; small = small 0 }
]

next_front : (all : List ℕ) (k : ℕ) → IsBytes all → IsFront all k → k < length (names_in all) → IsFront all (suc k)
next_front all k small f lt =
    let names = names_in all in
    let front = run_bytes names 0 k in
    let following : f.rest ≡ drop (length front) all = sym (ap (drop (length front)) f.split ∙ drop_at front f.rest (length front) refl) in
    let bytes : IsBytes f.rest = subst IsBytes (sym following) (IsBytes-drop (length front) all small) in
    let first = is_first f.rest bytes (omega (arith, ap length f.left, length-drop k names)) in
    let name = take first.len first.rest in
    let after = drop first.len first.rest in
    let here = first_name f.rest first.rest first.len first.is first.room in
    let is_name : get_or names k [] ≡ name = sym (get_or-drop k names 0 [] ∙ ap (λ n. get_or names n []) (let e : k + 0 ≡ k = omega arith in e)) ∙ ap (λ (l : List (List ℕ)). get_or l 0 []) (sym f.left) ∙ ap (λ (l : List (List ℕ)). get_or l 0 []) here in
    let size : length name % 256 ≡ first.len = omega (arith, length-take-le first.len first.rest first.room, first.small) in
    let entry : pascal_bytes (get_or names (0 + k) []) ≡ first.len ∷ name = ap pascal_bytes (ap (λ n. get_or names n []) (let e : 0 + k ≡ k = omega arith in e) ∙ is_name) ∙ ap (λ (n : ℕ). n ∷ name) size in
    record {
      rest = after;
      split = f.split ∙ ap (λ (l : List ℕ). front ++ l) (first.is ∙ ap (λ (l : List ℕ). first.len ∷ l) (sym (take-append-drop first.len first.rest))) ∙ sym (append_assoc front (first.len ∷ name) after) ∙ ap (λ (l : List ℕ). (front ++ l) ++ after) (sym entry);
      left = gone f.rest first.rest first.len first.is first.room ∙ ap (drop 1) f.left ∙ drop-drop 1 k names ∙ ap (λ n. drop n names) (add-one k);
    }
  where
    gone : (bytes rest : List ℕ) (len : ℕ) → bytes ≡ len ∷ rest → len ≤ length rest → names_in (drop len rest) ≡ drop 1 (names_in bytes)
    gone bytes rest len is le =
        let all : drop (0 + 1 + len) (len ∷ rest) ≡ drop len rest = ap (λ n. drop n (len ∷ rest)) (let e : 0 + 1 + len ≡ suc len = omega arith in e) in
        sym (ap names_in all) ∙ past_first (len ∷ rest) 0 len (omega arith) refl (omega arith) ∙ ap (λ (l : List ℕ). drop 1 (names_in l)) (sym is)

front_of : (all : List ℕ) (k : ℕ) → IsBytes all → k ≤ length (names_in all) → IsFront all k
front_of all zero small le = record { rest = all; split = refl; left = refl }
front_of all (suc k) small le = next_front all k small (front_of all k small (omega arith)) (omega arith)

-- a run after another
run_more : (names : List (List ℕ)) (from n : ℕ) → run_bytes names 0 (from + n) ≡ run_bytes names 0 from ++ run_bytes names from n
run_more names from zero = ap (run_bytes names 0) (let e : from + 0 ≡ from = omega arith in e) ∙ sym (append-nil (run_bytes names 0 from))
run_more names from (suc n) =
    let entry = pascal_bytes (get_or names (from + n) []) in
    ap (run_bytes names 0) (let e : from + suc n ≡ suc (from + n) = omega arith in e)
    ∙ ap (λ k. run_bytes names 0 (from + n) ++ pascal_bytes (get_or names k [])) (let e : 0 + (from + n) ≡ from + n = omega arith in e)
    ∙ ap (λ (l : List ℕ). l ++ entry) (run_more names from n) ∙ append_assoc (run_bytes names 0 from) (run_bytes names from n) entry

-- the bytes between the places of two names
pub run_there : (all : List ℕ) (from n start end : ℕ) → IsBytes all → from + n ≤ length (names_in all) → start ≡ place_of (names_in all) from → end ≡ place_of (names_in all) (from + n) → take (end - start) (drop start all) ≡ run_bytes (names_in all) from n
run_there all from n start end small le s e =
    let names = names_in all in
    let f = front_of all (from + n) small le in
    let front = run_bytes names 0 from in
    let run = run_bytes names from n in
    let whole : all ≡ front ++ (run ++ f.rest) = f.split ∙ ap (λ (l : List ℕ). l ++ f.rest) (run_more names from n) ∙ append_assoc front run f.rest in
    let following : drop start all ≡ run ++ f.rest = ap (drop start) whole ∙ drop_at front (run ++ f.rest) start (sym s) in
    let size : length run ≡ end - start = omega (arith, s, e, ap length (run_more names from n), length-append front run) in
    ap (take (end - start)) following ∙ take_at run f.rest (end - start) size

-- ---- marks

-- where the next name begins
pub next_place : (names : List (List ℕ)) (all : List ℕ) (k at end : ℕ) → names_in (drop at all) ≡ drop k names → at ≡ place_of names k → IsName all at end → end ≡ place_of names (k + 1)
next_place names all k at end here is name =
    let first : get_or (names_in (drop at all)) 0 [] ≡ get_or names (0 + k) [] = ap (λ (l : List (List ℕ)). get_or l 0 []) here ∙ get_or-drop k names 0 [] ∙ ap (λ n. get_or names n []) (let e : k + 0 ≡ 0 + k = omega arith in e) in
    name.place ∙ ap (λ (l : List ℕ). at + length (pascal_bytes l)) first ∙ ap (λ (n : ℕ). n + length (pascal_bytes (get_or names (0 + k) []))) is
    ∙ sym (length-append (run_bytes names 0 k) (pascal_bytes (get_or names (0 + k) []))) ∙ ap (λ n. length (run_bytes names 0 n)) (sym (add-one k))

pub end_names : (bytes : List ℕ) (at : ℕ) → names_in (drop at bytes) ≡ [] → names_in (drop (length bytes) bytes) ≡ drop 1 (names_in (drop at bytes))
end_names bytes at none = ap names_in (drop_all (length bytes) bytes (omega arith)) ∙ sym (ap (drop 1) none)

pub no_place : (bytes : List ℕ) (at end : ℕ) → names_in (drop at bytes) ≡ [] → 1 ≤ length (names_in (drop at bytes)) → IsName bytes at end
no_place bytes at end none some = absurd (omega (arith, some, ap length none))

-- no marks at first
pub no_places : (names : List (List ℕ)) (marks : List ℕ) → marks ≡ [] → ArePlaces names marks
no_places names marks e k lt le = absurd (omega (arith, lt, ap length e))

pub first_place : (names : List (List ℕ)) (marks : List ℕ) → marks ≡ [] → 0 ≡ place_of names (length marks)
first_place names marks e = ap (λ (l : List ℕ). place_of names (length l)) (sym e)

-- a mark more
get_last : (marks : List ℕ) (m k : ℕ) → k < length marks + 1 → (k < length marks → slice_index (marks ++ m ∷ []) k ≡ slice_index marks k) × (length marks ≤ k → slice_index (marks ++ m ∷ []) k ≡ m)
get_last [] m zero lt = (λ a. absurd (omega (arith, a)), λ a. refl)
get_last [] m (suc k) lt = absurd (omega (arith, lt))
get_last (x ∷ marks) m zero lt = (λ a. refl, λ a. absurd (omega (arith, a)))
get_last (x ∷ marks) m (suc k) lt = let r = get_last marks m k (omega (arith, lt)) in (λ a. r.0 (omega (arith, a)), λ a. r.1 (omega (arith, a)))

pub places_more : (names : List (List ℕ)) (marks after : List ℕ) (m : ℕ) → after ≡ marks ++ m ∷ [] → (length marks ≤ length names → m ≡ place_of names (length marks)) → ArePlaces names marks → ArePlaces names after
places_more names marks after m is here h k lt le =
    let size : length after ≡ length marks + 1 = ap length is ∙ length-append marks (m ∷ []) in
    let last = get_last marks m k (omega (arith, lt, size)) in
    let there : slice_index (marks ++ m ∷ []) k ≡ place_of names k = elim (cases_lt k (length marks)) [
      | inl less ↦ last.0 less ∙ h k less le
      | inr more ↦ last.1 more ∙ here (omega (arith, more, le)) ∙ ap (place_of names) (let e : length marks ≡ k = omega (arith, more, lt, size) in e)
    ] in
    ap (λ (l : List ℕ). slice_index l k) is ∙ there

pub here_more : (all : List ℕ) (dense : Bool) (marks after : List ℕ) (at next : ℕ) → dense ≡ true → after ≡ marks ++ at ∷ [] → names_in (drop at all) ≡ drop (step_of dense * length marks) (names_in all) → (length marks ≤ length (names_in all) → at ≡ place_of (names_in all) (length marks))
    → (1 ≤ length (names_in (drop at all)) → IsName all at next) → length after ≤ length (names_in all) → next ≡ place_of (names_in all) (length after)
here_more all false marks after at next d is e here name le = absurd cc
here_more all true marks after at next d is e here name le =
    let names = names_in all in
    let k = length marks in
    let size : length after ≡ k + 1 = ap length is ∙ length-append marks (at ∷ []) in
    let there : names_in (drop at all) ≡ drop k names = e ∙ ap (λ n. drop n names) (let q : 1 * k ≡ k = omega arith in q) in
    let some : 1 ≤ length (names_in (drop at all)) = omega (arith, ap length there, length-drop k names, size, le) in
    next_place names all k at next there (here (omega (arith, size, le))) (name some) ∙ ap (place_of names) (sym size)

-- the marks that are read
pub entries_are : (all marks : List ℕ) (from count i start last end : ℕ) → IsBytes all → AreMarks 1 all (names_in all) marks → ArePlaces (names_in all) marks → 1 ≤ count → i ≡ from + count - 1 → slice_get marks from ≡ Some start → slice_get marks i ≡ Some last → IsName all last end → take (end - start) (drop start all) ≡ run_bytes (names_in all) from count
entries_are all marks from count i start last end small m p some is s l name =
    let names = names_in all in
    let here : names_in (drop last all) ≡ drop i names = (mark_is 1 all names marks i last m l).0 ∙ ap (λ n. drop n names) (let e : 1 * i ≡ i = omega arith in e) in
    let there : i < length names = omega (arith, name.some, ap length here, length-drop i names) in
    let starts : start ≡ place_of names from = sym (get_or_from_slice_get marks from start 0 s) ∙ p from (slice_get_within marks from start s) (omega (arith, there, is)) in
    let lasts : last ≡ place_of names i = sym (get_or_from_slice_get marks i last 0 l) ∙ p i (slice_get_within marks i last l) (omega (arith, there)) in
    let ends : end ≡ place_of names (from + count) = next_place names all i last end here lasts name ∙ ap (place_of names) (let e : i + 1 ≡ from + count = omega (arith, is, some) in e) in
    run_there all from count start end small (omega (arith, there, is, some)) starts ends

pub part_between : (found : Option (Bor (List ℕ))) (bytes run : List ℕ) (from to : ℕ) → option_copied found ≡ between_offsets bytes from to → take (to - from) (drop from bytes) ≡ run → IfSome found (λ p. p.now ≡ run)
part_between None bytes run from to h e = tt
part_between (Some p) bytes run from to h e = by (leb from to) (leb (from + (to - from)) (length bytes)) p.now (take (to - from) (drop from bytes)) h ∙ e
  where
    by : (a b : Bool) (x y : List ℕ) → Some x ≡ cond a (cond b (Some y) None) None → x ≡ y
    by true true x y h = just_is x y h
    by true false x y h = absurd cc
    by false b x y h = absurd cc

-- ---- runs that are written

pub run_last : (w : List ℕ) (names : List (List ℕ)) (from i : ℕ) → (w ++ run_bytes names from i) ++ pascal_bytes (get_or names (from + i) []) ≡ w ++ run_bytes names from (i + 1)
run_last w names from i = append_assoc w (run_bytes names from i) (pascal_bytes (get_or names (from + i) [])) ∙ ap (λ k. w ++ run_bytes names from k) (sym (add-one i))

-- the entry of an index of an own name, and of a standard name
own_entry : (names : List (List ℕ)) (index : ℕ) → 258 ≤ index → pascal_bytes (get_or names (index - 258) []) ≡ entry_of names index
own_entry names index own = let entry = pascal_bytes (get_or names (index - 258) []) in sym (ap (λ b. cond b [] entry) (le-ltb index 258 own))

pub run_stays : (w run : List ℕ) (names : List (List ℕ)) (index : ℕ) → index < 258 → w ++ run ≡ (w ++ run) ++ entry_of names index
run_stays w run names index low =
    let entry = pascal_bytes (get_or names (index - 258) []) in
    let none : entry_of names index ≡ [] = ap (λ b. cond b [] entry) (lt-ltb index 258 low) in
    sym (ap (λ (l : List ℕ). (w ++ run) ++ l) none ∙ append-nil (w ++ run))

-- a name that follows a run, and one that begins another
pub run_follows : (w : List ℕ) (names : List (List ℕ)) (from count index : ℕ) → 258 ≤ index → index - 258 ≡ from + count → w ++ run_bytes names from (count + 1) ≡ (w ++ run_bytes names from count) ++ entry_of names index
run_follows w names from count index own is =
    let before = w ++ run_bytes names from count in
    sym (run_last w names from count) ∙ ap (λ n. before ++ pascal_bytes (get_or names n [])) (sym is) ∙ ap (λ (l : List ℕ). before ++ l) (own_entry names index own)

pub run_begins : (w before run : List ℕ) (names : List (List ℕ)) (number index : ℕ) → 258 ≤ index → number ≡ index - 258 → w ≡ before ++ run → w ++ run_bytes names number 1 ≡ (before ++ run) ++ entry_of names index
run_begins w before run names number index own is e =
    ap (λ n. w ++ pascal_bytes (get_or names n [])) (let q : number + 0 ≡ index - 258 = omega (arith, is) in q) ∙ ap (λ (l : List ℕ). l ++ pascal_bytes (get_or names (index - 258) [])) e ∙ ap (λ (l : List ℕ). (before ++ run) ++ l) (own_entry names index own)

-- the entry of the next index
pub next_written : (names : List (List ℕ)) (indexes : List ℕ) (i index : ℕ) (before next total : List ℕ) → i < length indexes → index ≡ get_or indexes i 0 → next ≡ before ++ entry_of names index → before ++ flat_map (entry_of names) (drop i indexes) ≡ total → next ++ flat_map (entry_of names) (drop (i + 1) indexes) ≡ total
next_written names indexes i index before next total lt is e so_far =
    let rest = flat_map (entry_of names) (drop (i + 1) indexes) in
    let here : flat_map (entry_of names) (drop i indexes) ≡ entry_of names index ++ rest = ap (flat_map (entry_of names)) (drop_more indexes i 0 lt ∙ ap (λ (x : ℕ). x ∷ drop (i + 1) indexes) (sym is)) ∙ flat_map-cons (entry_of names) index (drop (i + 1) indexes) in
    ap (λ (l : List ℕ). l ++ rest) e ∙ append_assoc before (entry_of names index) rest ∙ ap (λ (l : List ℕ). before ++ l) (sym here) ∙ so_far

-- after the last index
pub all_written : (names : List (List ℕ)) (indexes : List ℕ) (i : ℕ) (before after total : List ℕ) → length indexes ≤ i → after ≡ before → before ++ flat_map (entry_of names) (drop i indexes) ≡ total → after ≡ total
all_written names indexes i before after total le e so_far = e ∙ sym (append-nil before) ∙ ap (λ (l : List ℕ). before ++ flat_map (entry_of names) l) (sym (drop_all i indexes le)) ∙ so_far
