-- The words of a run, from the first on.
use Rattle.std.proofs.Common.{◌≡◌, ℕ, zero, suc, ◌+◌, ◌<◌, ◌≤◌, Bool, true, false, not, ◌&&◌, if◌then◌else◌, List, [], ◌∷◌, ◌++◌, length, map, get_or, take, drop, flat_map, refl, sym, ap, ◌∙◌, append_assoc, one-add, arith, Bor}
use Rattle.std.specs.List.{position_or_len}
use Rattle.std.proofs.lemmas.List.{drop_all, drop_more, map-append}
use Rattle.pdf_runs.specs.declared.items.Item.{Item}
use Rattle.pdf_runs.specs.Clusters.{lists}
use Rattle.pdf_runs.specs.Words.{beside, groups, is_blank, words}

-- how many clusters after the first are of its word
abbrev more_by : Bool → List (List Item) → ℕ
more_by true cs = 0
more_by false cs = position_or_len is_blank cs

first_by : (a b : Bool) (c d : List Item) (cs : List (List Item)) (m : ℕ) → m ≡ more_by b cs
    → (if not a && not b then (c ∷ d ∷ take m cs) ∷ words (drop m cs) else (c ∷ []) ∷ (d ∷ take m cs) ∷ words (drop m cs))
    ≡ (if not a && not b then (c ∷ take (1 + m) (d ∷ cs)) ∷ words (drop (1 + m) (d ∷ cs)) else (c ∷ []) ∷ (d ∷ take m cs) ∷ words (drop m cs))
first_by true b c d cs m e = refl
first_by false true c d cs m e = refl
first_by false false c d cs m e = sym (ap (λ (n : ℕ). (c ∷ take n (d ∷ cs)) ∷ words (drop n (d ∷ cs))) (one-add m))

count_by : (a b : Bool) (c d : List Item) (cs : List (List Item)) (m : ℕ) → is_blank d ≡ b → m ≡ more_by b cs → words (d ∷ cs) ≡ (d ∷ take m cs) ∷ words (drop m cs)
    → (if not a && not b then (c ∷ take (1 + m) (d ∷ cs)) ∷ words (drop (1 + m) (d ∷ cs)) else (c ∷ []) ∷ (d ∷ take m cs) ∷ words (drop m cs))
    ≡ (c ∷ take (more_by a (d ∷ cs)) (d ∷ cs)) ∷ words (drop (more_by a (d ∷ cs)) (d ∷ cs))
count_by true b c d cs m e is here = ap (λ (l : List (List (List Item))). (c ∷ []) ∷ l) (sym here)
count_by false true c d cs m e is here =
    ap (λ (l : List (List (List Item))). (c ∷ []) ∷ l) (sym here)
    ∙ sym (ap (λ (t : Bool). (c ∷ take (if not t then 1 + position_or_len is_blank cs else 0) (d ∷ cs)) ∷ words (drop (if not t then 1 + position_or_len is_blank cs else 0) (d ∷ cs))) e)
count_by false false c d cs m e is here =
    ap (λ (n : ℕ). (c ∷ take (1 + n) (d ∷ cs)) ∷ words (drop (1 + n) (d ∷ cs))) is
    ∙ sym (ap (λ (t : Bool). (c ∷ take (if not t then 1 + position_or_len is_blank cs else 0) (d ∷ cs)) ∷ words (drop (if not t then 1 + position_or_len is_blank cs else 0) (d ∷ cs))) e)

no_more : (a : Bool) (c : List Item) → (c ∷ []) ∷ [] ≡ (c ∷ take (more_by a []) []) ∷ words (drop (more_by a []) [])
no_more true c = refl
no_more false c = refl

-- the first word has the first cluster and those that go on it
pub first_word : (c : List Item) (cs : List (List Item)) → words (c ∷ cs) ≡ (c ∷ take (more_by (is_blank c) cs) cs) ∷ words (drop (more_by (is_blank c) cs) cs)
first_word c [] = no_more (is_blank c) c
first_word c (d ∷ cs) =
    let m : ℕ = more_by (is_blank d) cs in
    ap (beside c) (first_word d cs)
    ∙ first_by (is_blank c) (is_blank d) c d cs m refl
    ∙ count_by (is_blank c) (is_blank d) c d cs m refl refl (first_word d cs)

word_at : (b : Bool) (n : ℕ) (c : List Item) (cs : List (List Item)) → is_blank c ≡ b → n ≡ 1 + more_by b cs → words (c ∷ cs) ≡ take n (c ∷ cs) ∷ words (drop n (c ∷ cs))
word_at b n c cs e is =
    first_word c cs
    ∙ ap (λ (t : Bool). (c ∷ take (more_by t cs) cs) ∷ words (drop (more_by t cs) cs)) e
    ∙ sym (ap (λ (k : ℕ). take k (c ∷ cs) ∷ words (drop k (c ∷ cs))) (is ∙ one-add (more_by b cs)))

-- ---- words that are borrowed

rest_by : (t : Bool) (cs : List (Bor (List Item))) (k : ℕ) (e : Bor (List Item)) → k < length cs → is_blank (get_or cs k e).now ≡ t
    → position_or_len is_blank (lists (drop k cs)) ≡ (if not t then 1 + position_or_len is_blank (lists (drop (k + 1) cs)) else 0)
rest_by t cs k e l is =
    ap (λ (l : List (Bor (List Item))). position_or_len is_blank (lists l)) (drop_more cs k e l) ∙ ap (λ (t : Bool). if not t then 1 + position_or_len is_blank (lists (drop (k + 1) cs)) else 0) is

-- with one cluster more that isn't blank, those before a blank one are as many
pub rest_more : (cs : List (Bor (List Item))) (n k : ℕ) (e : Bor (List Item)) (total : ℕ) → k < length cs → is_blank (get_or cs k e).now ≡ false → n + position_or_len is_blank (lists (drop k cs)) ≡ total
    → (n + 1) + position_or_len is_blank (lists (drop (k + 1) cs)) ≡ total
rest_more cs n k e total l is h = omega (arith, rest_by false cs k e l is, h)

pub rest_found : (cs : List (Bor (List Item))) (n k : ℕ) (e : Bor (List Item)) (total : ℕ) → k < length cs → is_blank (get_or cs k e).now ≡ true → n + position_or_len is_blank (lists (drop k cs)) ≡ total → n ≡ total
rest_found cs n k e total l is h = omega (arith, rest_by true cs k e l is, h)

pub rest_none : (cs : List (Bor (List Item))) (n k total : ℕ) → length cs ≤ k → n + position_or_len is_blank (lists (drop k cs)) ≡ total → n ≡ total
rest_none cs n k total l h =
    let none : position_or_len is_blank (lists (drop k cs)) ≡ 0 = ap (λ (l : List (Bor (List Item))). position_or_len is_blank (lists l)) (drop_all k cs l) in
    omega (arith, none, h)

-- a blank cluster is alone, and another one goes with those after it
pub blank_first : (cs : List (Bor (List Item))) (e : Bor (List Item)) → 1 ≤ length cs → is_blank (get_or cs 0 e).now ≡ true → words (lists cs) ≡ take 1 (lists cs) ∷ words (drop 1 (lists cs))
blank_first [] e l is = absurd (omega arith)
blank_first (c ∷ cs) e l is = word_at true 1 c.now (lists cs) is refl

pub long_first : (cs rest : List (Bor (List Item))) (e : Bor (List Item)) (m : ℕ) → 1 ≤ length cs → is_blank (get_or cs 0 e).now ≡ false → rest ≡ drop 1 cs → m ≡ position_or_len is_blank (lists rest)
    → words (lists cs) ≡ take (1 + m) (lists cs) ∷ words (drop (1 + m) (lists cs))
long_first [] rest e m l is later all = absurd (omega arith)
long_first (c ∷ cs) rest e m l is later all = word_at false (1 + m) c.now (lists cs) is (ap (λ (k : ℕ). 1 + k) (all ∙ ap (λ (l : List (Bor (List Item))). position_or_len is_blank (lists l)) later))

lists_drop : (n : ℕ) (cs : List (Bor (List Item))) → lists (drop n cs) ≡ drop n (lists cs)
lists_drop zero cs = refl
lists_drop (suc n) [] = refl
lists_drop (suc n) (c ∷ cs) = lists_drop n cs

lists_take : (n : ℕ) (cs : List (Bor (List Item))) → lists (take n cs) ≡ take n (lists cs)
lists_take zero cs = refl
lists_take (suc n) [] = refl
lists_take (suc n) (c ∷ cs) = ap (λ (l : List (List Item)). c.now ∷ l) (lists_take n cs)

-- with one word more, words and those of the rest are still all
pub words_more : (found new : List (Bor (List (Bor (List Item))))) (word : Bor (List (Bor (List Item)))) (rest following : List (Bor (List Item))) (n : ℕ) (total : List (List (List Item)))
    → words (lists rest) ≡ take n (lists rest) ∷ words (drop n (lists rest)) → word.now ≡ take n rest → following ≡ drop n rest → new ≡ found ++ word ∷ []
    → groups found ++ words (lists rest) ≡ total → groups new ++ words (lists following) ≡ total
words_more found new word rest following n total first is later more h =
    let group : Bor (List (Bor (List Item))) → List (List Item) = λ g. lists g.now in
    let here : groups new ≡ groups found ++ (take n (lists rest) ∷ []) =
    ap groups more ∙ map-append group found (word ∷ []) ∙ ap (λ (g : List (List Item)). groups found ++ g ∷ []) (ap lists is ∙ lists_take n rest)
    in
    ap (λ (l : List (List (List Item))). l ++ words (lists following)) here
    ∙ append_assoc (groups found) (take n (lists rest) ∷ []) (words (lists following))
    ∙ ap (λ (l : List (List (List Item))). groups found ++ take n (lists rest) ∷ l) (ap (λ (l : List (Bor (List Item))). words (lists l)) later ∙ ap words (lists_drop n rest))
    ∙ sym (ap (λ (l : List (List (List Item))). groups found ++ l) first)
    ∙ h

-- ---- the law

joined_by : (t : Bool) (c : List Item) (w : List (List Item)) (ws : List (List (List Item))) → flat_map (λ (g : List (List Item)). g) (if t then (c ∷ w) ∷ ws else (c ∷ []) ∷ w ∷ ws) ≡ c ∷ flat_map (λ (g : List (List Item)). g) (w ∷ ws)
joined_by true c w ws = refl
joined_by false c w ws = refl

joined_before : (t : Bool) (c : List Item) (ws : List (List (List Item))) → flat_map (λ (g : List (List Item)). g) (beside c ws) ≡ c ∷ flat_map (λ (g : List (List Item)). g) ws
joined_before t c [] = refl
joined_before t c ([] ∷ ws) = joined_by false c [] ws
joined_before t c ((b ∷ w) ∷ ws) = joined_by (not (is_blank c) && not (is_blank b)) c (b ∷ w) ws

-- one after the other the words are the clusters
pub words_are_clusters : (cs : List (List Item)) → flat_map (λ (g : List (List Item)). g) (words cs) ≡ cs
words_are_clusters [] = refl
words_are_clusters (c ∷ cs) = joined_before true c (words cs) ∙ ap (λ (l : List (List Item)). c ∷ l) (words_are_clusters cs)
