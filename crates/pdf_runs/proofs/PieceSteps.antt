-- Pieces that are written one after the other.
use Rattle.std.proofs.Common.{◌≡◌, ℕ, zero, suc, ◌+◌, ◌-◌, ◌<◌, ◌≤◌, Bool, true, false, not, nat_lt, List, [], ◌∷◌, ◌++◌, length, get_or, map, take, drop, slice_get, flat_map, Result, Ok, Err, OnOk, Option, Some, None, if◌then◌else◌, refl, sym, ap, ◌∙◌, append-nil, append_assoc, arith, lt-ltb, ltb-true, Bor}
use Rattle.std.specs.List.{position_or_len}
use Rattle.std.proofs.lemmas.List.{drop_more, length-map, take_all, take_rest}
use Rattle.std.proofs.lemmas.List.Sums.{prefix_len_is}
use Rattle.std.proofs.lemmas.Bool.Decides.{nat_tests}
use Rattle.std.proofs.lemmas.Option.{slice_get-get_or}
use Rattle.pdf_runs.specs.declared.items.Direction.{Direction}
use Rattle.pdf_runs.specs.declared.items.Direction.TheVariants.{LeftToRight, RightToLeft, TopToBottom}
use Rattle.pdf_runs.specs.declared.items.Item.{Item}
use Rattle.pdf_runs.specs.declared.pieces.Piece.{Piece}
use Rattle.pdf_runs.specs.Clusters.{lists}
use Rattle.pdf_runs.specs.Items.{text_in, text_of, visual}
use Rattle.pdf_runs.specs.Marks.{is_mark}
use Rattle.pdf_runs.specs.Pieces.{bearer, blank_of, piece_of, pieces_of_cluster, shares_of, spread, spread_all}
use Rattle.pdf_runs.specs.Shares.{shares}
use Rattle.pdf_runs.proofs.Joined.{visual_length}
use Rattle.pdf_runs.proofs.ShareLaws.{shares_length}

-- ---- the bearer

bearer_by : (cs : List ℕ) (n m : ℕ) → n ≡ m → m < length cs → (if nat_lt n (length cs) then n else 0) ≡ m
bearer_by cs n m e l = ap (λ (k : ℕ). if nat_lt k (length cs) then k else 0) e ∙ ap (λ (b : Bool). if b then m else 0) (lt-ltb m (length cs) l)

-- it is at the first place where there is no mark
pub bearer_found : (cs : List ℕ) (n : ℕ) → n < length cs → ((k : ℕ) → k < n → not (is_mark (get_or cs k 0)) ≡ false) → not (is_mark (get_or cs n 0)) ≡ true → n ≡ bearer cs
bearer_found cs n l marks here =
    let place : position_or_len (λ c. not (is_mark c)) cs ≡ n = prefix_len_is (λ c. not (not (is_mark c))) cs n 0 (omega arith) (λ k h. ap not (marks k h)) (λ h. ap not here) in
    sym (bearer_by cs (position_or_len (λ c. not (is_mark c)) cs) n place l)

not_below : (n : ℕ) → nat_lt n n ≡ false
not_below n = grind (arith, nat_tests)

bearer_none_by : (cs : List ℕ) (n : ℕ) → n ≡ length cs → (if nat_lt n (length cs) then n else 0) ≡ 0
bearer_none_by cs n e = ap (λ (k : ℕ). if nat_lt k (length cs) then k else 0) e ∙ ap (λ (b : Bool). if b then length cs else 0) (not_below (length cs))

-- where all are marks, it is the first
pub bearer_none : (cs : List ℕ) → ((k : ℕ) → k < length cs → not (is_mark (get_or cs k 0)) ≡ false) → 0 ≡ bearer cs
bearer_none cs marks =
    let place : position_or_len (λ c. not (is_mark c)) cs ≡ length cs =
    prefix_len_is (λ c. not (not (is_mark c))) cs (length cs) 0 (omega arith) (λ k h. ap not (marks k h)) (λ h. absurd (omega arith))
    in
    sym (bearer_none_by cs (position_or_len (λ c. not (is_mark c)) cs) place)

below_by : (n m : ℕ) (b : Bool) → nat_lt n m ≡ b → 0 < m → (if b then n else 0) < m
below_by n m true e l = ltb-true n m e
below_by n m false e l = l

-- it is one of the places, where there are any
pub bearer_below : (cs : List ℕ) (n : ℕ) → n ≡ bearer cs → 0 < length cs → n < length cs
bearer_below cs n e l =
    let place : ℕ = position_or_len (λ c. not (is_mark c)) cs in
    let below : bearer cs < length cs = below_by place (length cs) (nat_lt place (length cs)) refl l in
    omega arith

-- ---- one piece more

get_or_seen : (d : Direction) (xss : List (List ℕ)) (place : ℕ) → place < length xss → get_or (map (visual d) xss) place [] ≡ visual d (get_or xss place [])
get_or_seen d [] place l = absurd (omega arith)
get_or_seen d (xs ∷ xss) zero l = refl
get_or_seen d (xs ∷ xss) (suc place) l = get_or_seen d xss place (omega arith)

-- with one blank more, blanks and those of the rest are still all
pub blanks_more : (cs : List ℕ) (place end c : ℕ) (so_far new total : List Piece) → place < end → end ≤ length cs → c ≡ get_or cs place 0 → new ≡ so_far ++ blank_of c ∷ []
    → so_far ++ map blank_of (take (end - place) (drop place cs)) ≡ total → new ++ map blank_of (take (end - (place + 1)) (drop (place + 1) cs)) ≡ total
blanks_more cs place end c so_far new total l within is more h =
    let rest : List ℕ = drop (place + 1) cs in
    let n : ℕ = end - (place + 1) in
    let one : end - place ≡ suc n = omega arith in
    let first : take (end - place) (drop place cs) ≡ c ∷ take n rest =
    ap (λ (k : ℕ). take k (drop place cs)) one
    ∙ ap (take (suc n)) (drop_more cs place 0 (omega arith))
    ∙ ap (λ (x : ℕ). x ∷ take n rest) (sym is)
    in
    ap (λ (l : List Piece). l ++ map blank_of (take n rest)) more
    ∙ append_assoc so_far (blank_of c ∷ []) (map blank_of (take n rest))
    ∙ sym (ap (λ (l : List ℕ). so_far ++ map blank_of l) first)
    ∙ h

-- with the pieces of one glyph more, they and those of the rest are still all
pub cluster_more : (d : Direction) (inked : List Bool) (items : List Item) (place : ℕ) (e : Item) (share : List ℕ) (so_far new total : List Piece) → place < length items
    → share ≡ get_or (visual d (shares (length items) (text_of items))) place [] → new ≡ so_far ++ spread inked (get_or items place e) (visual d share)
    → so_far ++ spread_all inked (drop place items) (drop place (shares_of d items)) ≡ total → new ++ spread_all inked (drop (place + 1) items) (drop (place + 1) (shares_of d items)) ≡ total
cluster_more d inked items place e share so_far new total l is more h =
    let all : List (List ℕ) = visual d (shares (length items) (text_of items)) in
    let count : length all ≡ length items = visual_length d (shares (length items) (text_of items)) ∙ shares_length (length items) (text_of items) in
    let fit : length (shares_of d items) ≡ length items = length-map all (visual d) ∙ count in
    let seen : get_or (shares_of d items) place [] ≡ visual d share = get_or_seen d all place (omega arith) ∙ sym (ap (λ (s : List ℕ). visual d s) is) in
    let i : Item = get_or items place e in
    let rest : List Piece = spread_all inked (drop (place + 1) items) (drop (place + 1) (shares_of d items)) in
    let first : spread_all inked (drop place items) (drop place (shares_of d items)) ≡ spread inked i (visual d share) ++ rest =
    ap (λ (l : List Item). spread_all inked l (drop place (shares_of d items))) (drop_more items place e l)
    ∙ ap (λ (l : List (List ℕ)). spread_all inked (i ∷ drop (place + 1) items) l) (drop_more (shares_of d items) place [] (omega arith))
    ∙ ap (λ (s : List ℕ). spread inked i s ++ rest) seen
    in
    ap (λ (l : List Piece). l ++ rest) more
    ∙ append_assoc so_far (spread inked i (visual d share)) rest
    ∙ sym (ap (λ (l : List Piece). so_far ++ l) first)
    ∙ h

-- ---- a glyph and its blanks

pub on_ok_then : {A E : Type 0} (r : Result A E) {P Q : Type 0} → OnOk r P → (P → Q) → OnOk r Q
on_ok_then (Ok x) h f = f h
on_ok_then (Err e) h f = tt

-- three writes
pub spread_written : (inked : List Bool) (i : Item) (cs : List ℕ) (k n c : ℕ) (old one two three : List Piece) → k ≡ bearer cs → n ≡ length cs → k < length cs → c ≡ get_or cs k 0
    → one ≡ old ++ map blank_of (take (k - 0) (drop 0 cs)) → two ≡ one ++ piece_of inked i (Some c) ∷ [] → three ≡ two ++ map blank_of (take (n - (k + 1)) (drop (k + 1) cs))
    → three ≡ old ++ spread inked i cs
spread_written inked i cs k n c old one two three there all l is a b d =
    let before : List Piece = map blank_of (take k cs) in
    let following : List Piece = map blank_of (drop (k + 1) cs) in
    let p : Piece = piece_of inked i (Some c) in
    let says : slice_get cs k ≡ Some c = slice_get-get_or cs k 0 l ∙ ap Some (sym is) in
    let rest : take (n - (k + 1)) (drop (k + 1) cs) ≡ drop (k + 1) cs = ap (λ (m : ℕ). take (m - (k + 1)) (drop (k + 1) cs)) all ∙ take_rest cs (k + 1) in
    let none : k - 0 ≡ k = omega arith in
    let first : two ≡ (old ++ before) ++ p ∷ [] = b ∙ ap (λ (l : List Piece). l ++ p ∷ []) (a ∙ ap (λ (m : ℕ). old ++ map blank_of (take m cs)) none) in
    d
    ∙ ap (λ (l : List ℕ). two ++ map blank_of l) rest
    ∙ ap (λ (l : List Piece). l ++ following) first
    ∙ append_assoc (old ++ before) (p ∷ []) following
    ∙ append_assoc old before (p ∷ following)
    ∙ ap (λ (o : Option ℕ). old ++ (before ++ piece_of inked i o ∷ following)) (sym says)
    ∙ ap (λ (m : ℕ). old ++ (map blank_of (take m cs) ++ piece_of inked i (slice_get cs m) ∷ map blank_of (drop (m + 1) cs))) there

-- the only character is that of the glyph
bearer_alone : (c : ℕ) → bearer (c ∷ []) ≡ 0
bearer_alone c = omega (arith, bearer_below (c ∷ []) (bearer (c ∷ [])) refl (omega arith))

spread_one : (inked : List Bool) (i : Item) (c : ℕ) → spread inked i (c ∷ []) ≡ piece_of inked i (Some c) ∷ []
spread_one inked i c = ap (λ (k : ℕ). map blank_of (take k (c ∷ [])) ++ piece_of inked i (slice_get (c ∷ []) k) ∷ map blank_of (drop (k + 1) (c ∷ []))) (bearer_alone c)

spread_few : (d : Direction) (inked : List Bool) (i : Item) (cs : List ℕ) → length cs ≤ 1 → spread inked i (visual d cs) ≡ piece_of inked i (slice_get cs 0) ∷ []
spread_few LeftToRight inked i [] l = refl
spread_few RightToLeft inked i [] l = refl
spread_few TopToBottom inked i [] l = refl
spread_few LeftToRight inked i (c ∷ []) l = spread_one inked i c
spread_few RightToLeft inked i (c ∷ []) l = spread_one inked i c
spread_few TopToBottom inked i (c ∷ []) l = spread_one inked i c
spread_few d inked i (c ∷ e ∷ cs) l = absurd (omega arith)

-- a glyph that has one character or none says that
pub spread_alone : (d : Direction) (inked : List Bool) (i : Item) (cs : List ℕ) (old new : List Piece) → length cs ≤ 1 → new ≡ old ++ piece_of inked i (slice_get cs 0) ∷ [] → new ≡ old ++ spread inked i (visual d cs)
spread_alone d inked i cs old new l h = h ∙ ap (λ (ps : List Piece). old ++ ps) (sym (spread_few d inked i cs l))

-- the glyph of a cluster of one says its text
shares_alone : (d : Direction) (i : Item) → shares_of d (i ∷ []) ≡ visual d (take (1 + (length (text_in i.text) - 1)) (text_in i.text)) ∷ []
shares_alone LeftToRight i = refl
shares_alone RightToLeft i = refl
shares_alone TopToBottom i = refl

cluster_of_one : (d : Direction) (inked : List Bool) (i : Item) → spread inked i (visual d (text_in i.text)) ≡ pieces_of_cluster d inked (i ∷ [])
cluster_of_one d inked i =
    let cs : List ℕ = text_in i.text in
    ap (λ (l : List ℕ). spread inked i (visual d l)) (sym (take_all (1 + (length cs - 1)) cs (omega arith)))
    ∙ sym (append-nil (spread inked i (visual d (take (1 + (length cs - 1)) cs))))
    ∙ ap (λ (ss : List (List ℕ)). spread_all inked (i ∷ []) ss) (sym (shares_alone d i))

pub cluster_alone : (d : Direction) (inked : List Bool) (items : List Item) (e : Item) (old new : List Piece) → length items ≡ 1 → new ≡ old ++ spread inked (get_or items 0 e) (visual d (text_of items)) → new ≡ old ++ pieces_of_cluster d inked items
cluster_alone d inked (i ∷ []) e old new l h = h ∙ ap (λ (ps : List Piece). old ++ ps) (cluster_of_one d inked i)
cluster_alone d inked [] e old new l h = absurd (omega arith)
cluster_alone d inked (i ∷ j ∷ is) e old new l h = absurd (omega arith)

-- ---- clusters of a run

-- with the pieces of one cluster more, they and those of the rest are still all
pub run_more : (d : Direction) (inked : List Bool) (found : List (Bor (List Item))) (k : ℕ) (e : Bor (List Item)) (so_far new total : List Piece) → k < length found
    → new ≡ so_far ++ pieces_of_cluster d inked (get_or found k e).now → so_far ++ flat_map (pieces_of_cluster d inked) (lists (drop k found)) ≡ total
    → new ++ flat_map (pieces_of_cluster d inked) (lists (drop (k + 1) found)) ≡ total
run_more d inked found k e so_far new total l more h =
    let rest : List Piece = flat_map (pieces_of_cluster d inked) (lists (drop (k + 1) found)) in
    ap (λ (l : List Piece). l ++ rest) more
    ∙ append_assoc so_far (pieces_of_cluster d inked (get_or found k e).now) rest
    ∙ sym (ap (λ (l : List (Bor (List Item))). so_far ++ flat_map (pieces_of_cluster d inked) (lists l)) (drop_more found k e l))
    ∙ h
