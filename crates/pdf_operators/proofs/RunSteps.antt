-- What shows a run, one piece and one part after the other.
use Rattle.std.proofs.Common.{◌≡◌, ℕ, ◌+◌, ◌<◌, ◌≤◌, List, [], ◌∷◌, ◌++◌, length, map, get_or, take, drop, flat_map, refl, sym, ap, ◌∙◌, subst, append_assoc, length-append, arith, true, false, Bool, ◌&&◌, Bor, inl, inr, Some, ℤ, pos}
use Rattle.std.specs.Prelude.{is_some, All, ◌⊎◌}
use Rattle.std.proofs.lemmas.List.{drop_all, drop_more, map-append, take_all}
use Rattle.std.proofs.lemmas.List.Concat.{flat_map-append}
use Rattle.std.proofs.lemmas.List.Elements.{All-append, All-nil, All-cons}
use Rattle.std.proofs.lemmas.Int.{to_z-of_z}
use Rattle.subsetter_base.specs.Remap.{index_by}
use Rattle.subsetter_base.specs.Texts.{utf16}
use Rattle.pdf_text.specs.Cmaps.Cmap.{words}
use Rattle.pdf_runs.specs.declared.codes.Pair.{Pair}
use Rattle.pdf_runs.specs.declared.error.RunError.{RunError}
use Rattle.pdf_runs.specs.declared.error.RunError.TheVariants.{InvalidText, OutOfMemory}
use Rattle.pdf_runs.specs.declared.items.Direction.{Direction}
use Rattle.pdf_runs.specs.declared.items.Item.{Item}
use Rattle.pdf_runs.specs.declared.pieces.Piece.{Piece}
use Rattle.pdf_runs.specs.Clusters.{clusters, lists}
use Rattle.pdf_runs.specs.Codes.{HasFirst, pair_of, same, with_pairs}
use Rattle.pdf_runs.specs.Items.{is_run, text_of}
use Rattle.pdf_runs.specs.Pieces.{pieces_of_run}
use Rattle.pdf_runs.specs.Words.{groups}
use Rattle.pdf_operators.specs.declared.operations.OpenArray.{OpenArray}
use Rattle.pdf_operators.specs.declared.operations.Operation.{Operation}
use Rattle.pdf_operators.specs.declared.order.Order.{Order}
use Rattle.pdf_operators.specs.declared.places.Advance.{Advance}
use Rattle.pdf_operators.specs.declared.places.Font.{Font}
use Rattle.pdf_operators.specs.declared.places.Stop.{Stop}
use Rattle.pdf_operators.specs.Operators.{Act, act_of, act_text, acts_of, open_after, text_of_all, units_of, written}
use Rattle.pdf_operators.specs.Order.{is_turned, turned}
use Rattle.pdf_operators.specs.Pens.{advance_of, are_pens, end_of, start}
use Rattle.pdf_operators.specs.Places.{are_near, fits, is_near, laid, last_back, next, shown_at, stop_after}
use Rattle.pdf_operators.specs.Reading.{AreCoded}
use Rattle.pdf_operators.proofs.ReadLaws.{words_joined}
use Rattle.pdf_operators.specs.Runs.{IsRefused, acts_after, are_shown, end_acts, is_laid, is_part_shown, is_valid, part_acts, part_stop, parts, run_acts, singles, word_parts}

pub act_put : (ops new : List Operation) (op : Operation) → new ≡ ops ++ op ∷ [] → acts_of new ≡ acts_of ops ++ act_of op ∷ []
act_put ops new op e = ap acts_of e ∙ map-append act_of ops (op ∷ [])

pub two_acts : (w a b w1 w2 : List Act) → w1 ≡ w ++ a → w2 ≡ w1 ++ b → w2 ≡ w ++ (a ++ b)
two_acts w a b w1 w2 e f = f ∙ ap (λ (l : List Act). l ++ b) e ∙ append_assoc w a b

pub ruleset two_put = (two_acts, to_z-of_z)

-- where the length of the whole is a count and that of the rest, it is so after one piece more
pub count_more : (n m total : ℕ) (piece rest : List ℕ) → n + length (piece ++ rest) ≡ total → m ≡ n + length piece → m + length rest ≡ total
count_more n m total piece rest so_far is = omega (arith, so_far, is, length-append piece rest)

-- with what shows one piece more, it and that of the rest are still all
pub piece_more : (f : Font) (d : Direction) (ps : List Piece) (k : ℕ) (e : Piece) (s n : Stop) (so_far new total : List Act) → k < length ps → n ≡ next f d s (get_or ps k e) → new ≡ so_far ++ shown_at s (next f d s (get_or ps k e)) (pair_of (get_or ps k e))
    → so_far ++ laid f d s (drop k ps) ≡ total → new ++ laid f d n (drop (k + 1) ps) ≡ total
piece_more f d ps k e s n so_far new total l is more h =
    let p : Piece = get_or ps k e in
    let rest : List Act = laid f d (next f d s p) (drop (k + 1) ps) in
    ap (λ (m : Stop). new ++ laid f d m (drop (k + 1) ps)) is
    ∙ ap (λ (l : List Act). l ++ rest) more
    ∙ append_assoc so_far (shown_at s (next f d s p) (pair_of p)) rest
    ∙ sym (ap (λ (l : List Piece). so_far ++ laid f d s l) (drop_more ps k e l))
    ∙ h

pub stop_more : (f : Font) (d : Direction) (ps : List Piece) (k : ℕ) (e : Piece) (s n total : Stop) → k < length ps → n ≡ next f d s (get_or ps k e) → stop_after f d s (drop k ps) ≡ total → stop_after f d n (drop (k + 1) ps) ≡ total
stop_more f d ps k e s n total l is h =
    ap (λ (m : Stop). stop_after f d m (drop (k + 1) ps)) is
    ∙ sym (ap (λ (l : List Piece). stop_after f d s l) (drop_more ps k e l))
    ∙ h

both : (a b : Bool) → a ≡ true → (a && b) ≡ b
both a b e = rw e refl

neither : (a b : Bool) → a ≡ false → (a && b) ≡ false
neither a b e = rw e refl

pub near_more : (f : Font) (d : Direction) (ps : List Piece) (k : ℕ) (e : Piece) (s n : Stop) (total : Bool) → k < length ps → n ≡ next f d s (get_or ps k e) → is_near (next f d s (get_or ps k e)) ≡ true → are_near f d s (drop k ps) ≡ total → are_near f d n (drop (k + 1) ps) ≡ total
near_more f d ps k e s n total l is near h =
    let p : Piece = get_or ps k e in
    ap (λ (m : Stop). are_near f d m (drop (k + 1) ps)) is
    ∙ sym (both (is_near (next f d s p)) (are_near f d (next f d s p) (drop (k + 1) ps)) near)
    ∙ sym (ap (λ (l : List Piece). are_near f d s l) (drop_more ps k e l))
    ∙ h

pub near_failed : (f : Font) (d : Direction) (ps : List Piece) (k : ℕ) (e : Piece) (s : Stop) (total : Bool) → k < length ps → is_near (next f d s (get_or ps k e)) ≡ false → are_near f d s (drop k ps) ≡ total → total ≡ false
near_failed f d ps k e s total l far h =
    let p : Piece = get_or ps k e in
    sym h
    ∙ ap (λ (l : List Piece). are_near f d s l) (drop_more ps k e l)
    ∙ neither (is_near (next f d s p)) (are_near f d (next f d s p) (drop (k + 1) ps)) far

-- ---- parts

pub part_more : (f : Font) (d : Direction) (end : ℤ) (found : List (Bor (List (Bor (List Item))))) (k : ℕ) (e : Bor (List (Bor (List Item)))) (s n : Stop) (so_far new total : List Act) → k < length found → n ≡ part_stop f d s (lists (get_or found k e).now) → new ≡ so_far ++ part_acts f d s (lists (get_or found k e).now)
    → so_far ++ acts_after f d end s (groups (drop k found)) ≡ total → new ++ acts_after f d end n (groups (drop (k + 1) found)) ≡ total
part_more f d end found k e s n so_far new total l is more h =
    let g : List (List Item) = lists (get_or found k e).now in
    let rest : List Act = acts_after f d end (part_stop f d s g) (groups (drop (k + 1) found)) in
    ap (λ (m : Stop). new ++ acts_after f d end m (groups (drop (k + 1) found))) is
    ∙ ap (λ (l : List Act). l ++ rest) more
    ∙ append_assoc so_far (part_acts f d s g) rest
    ∙ sym (ap (λ (l : List (Bor (List (Bor (List Item))))). so_far ++ acts_after f d end s (groups l)) (drop_more found k e l))
    ∙ h

pub shown_more : (f : Font) (d : Direction) (end : ℤ) (found : List (Bor (List (Bor (List Item))))) (k : ℕ) (e : Bor (List (Bor (List Item)))) (s n : Stop) (total : Bool) → k < length found → n ≡ part_stop f d s (lists (get_or found k e).now) → is_part_shown f d s (lists (get_or found k e).now) ≡ true
    → are_shown f d end s (groups (drop k found)) ≡ total → are_shown f d end n (groups (drop (k + 1) found)) ≡ total
shown_more f d end found k e s n total l is shown h =
    let g : List (List Item) = lists (get_or found k e).now in
    ap (λ (m : Stop). are_shown f d end m (groups (drop (k + 1) found))) is
    ∙ sym (both (is_part_shown f d s g) (are_shown f d end (part_stop f d s g) (groups (drop (k + 1) found))) shown)
    ∙ sym (ap (λ (l : List (Bor (List (Bor (List Item))))). are_shown f d end s (groups l)) (drop_more found k e l))
    ∙ h

pub part_failed : (f : Font) (d : Direction) (end : ℤ) (found : List (Bor (List (Bor (List Item))))) (k : ℕ) (e : Bor (List (Bor (List Item)))) (s : Stop) (total : Bool) → k < length found → is_part_shown f d s (lists (get_or found k e).now) ≡ false
    → are_shown f d end s (groups (drop k found)) ≡ total → total ≡ false
part_failed f d end found k e s total l far h =
    let g : List (List Item) = lists (get_or found k e).now in
    sym h
    ∙ ap (λ (l : List (Bor (List (Bor (List Item))))). are_shown f d end s (groups l)) (drop_more found k e l)
    ∙ neither (is_part_shown f d s g) (are_shown f d end (part_stop f d s g) (groups (drop (k + 1) found))) far

-- after the last part
pub parts_ended : (f : Font) (d : Direction) (end : ℤ) (found : List (Bor (List (Bor (List Item))))) (k : ℕ) (s : Stop) (so_far new total : List Act) → length found ≤ k → new ≡ so_far ++ end_acts f end s
    → so_far ++ acts_after f d end s (groups (drop k found)) ≡ total → new ≡ total
parts_ended f d end found k s so_far new total l more h = more ∙ sym (ap (λ (l : List (Bor (List (Bor (List Item))))). so_far ++ acts_after f d end s (groups l)) (drop_all k found l)) ∙ h

pub end_is : (f : Font) (d : Direction) (end : ℤ) (found : List (Bor (List (Bor (List Item))))) (k : ℕ) (s : Stop) (b total : Bool) → length found ≤ k → fits (last_back f end s) ≡ b → are_shown f d end s (groups (drop k found)) ≡ total → total ≡ b
end_is f d end found k s b total l is h = sym h ∙ ap (λ (l : List (Bor (List (Bor (List Item))))). are_shown f d end s (groups l)) (drop_all k found l) ∙ is

-- ---- parts that are borrowed

-- with clusters alone one more, they and those of the rest are still all
pub singles_more : (found new : List (Bor (List (Bor (List Item))))) (first : Bor (List (Bor (List Item)))) (rest following : List (Bor (List Item))) (total : List (List (List Item))) → 0 < length rest → first.now ≡ take 1 rest → following ≡ drop 1 rest → new ≡ found ++ first ∷ []
    → groups found ++ singles (lists rest) ≡ total → groups new ++ singles (lists following) ≡ total
singles_more found new first [] following total l is later more h = absurd (omega arith)
singles_more found new first (c ∷ rest) following total l is later more h =
    let group : Bor (List (Bor (List Item))) → List (List Item) = λ g. lists g.now in
    ap (λ (l : List (List (List Item))). l ++ singles (lists following)) (ap groups more ∙ map-append group found (first ∷ []) ∙ ap (λ (g : List (Bor (List Item))). groups found ++ lists g ∷ []) is)
    ∙ append_assoc (groups found) ((c.now ∷ []) ∷ []) (singles (lists following))
    ∙ ap (λ (l : List (Bor (List Item))). groups found ++ (c.now ∷ []) ∷ singles (lists l)) later
    ∙ h

-- with the parts of one word more, they and those of the rest are still all
pub words_more : (words : List (Bor (List (Bor (List Item))))) (k : ℕ) (e : Bor (List (Bor (List Item)))) (so_far new total : List (List (List Item))) → k < length words → new ≡ so_far ++ word_parts (lists (get_or words k e).now)
    → so_far ++ flat_map word_parts (groups (drop k words)) ≡ total → new ++ flat_map word_parts (groups (drop (k + 1) words)) ≡ total
words_more words k e so_far new total l more h =
    let rest : List (List (List Item)) = flat_map word_parts (groups (drop (k + 1) words)) in
    ap (λ (l : List (List (List Item))). l ++ rest) more
    ∙ append_assoc so_far (word_parts (lists (get_or words k e).now)) rest
    ∙ sym (ap (λ (l : List (Bor (List (Bor (List Item))))). so_far ++ flat_map word_parts (groups l)) (drop_more words k e l))
    ∙ h

-- ---- the text of clusters that are borrowed

pub text_more : (cs : List (Bor (List Item))) (k : ℕ) (e : Bor (List Item)) → k < length cs → units_of (text_of_all (lists (drop k cs))) ≡ units_of (text_of (get_or cs k e).now) ++ units_of (text_of_all (lists (drop (k + 1) cs)))
text_more cs k e l =
    ap (λ (l : List (Bor (List Item))). units_of (text_of_all (lists l))) (drop_more cs k e l)
    ∙ flat_map-append utf16 (text_of (get_or cs k e).now) (text_of_all (lists (drop (k + 1) cs)))

-- with the text of one cluster more, it and that of the rest are still all
pub texts_put : (cs : List (Bor (List Item))) (k : ℕ) (e : Bor (List Item)) (so_far new total : List ℕ) → k < length cs → new ≡ so_far ++ words (units_of (text_of (get_or cs k e).now))
    → so_far ++ words (units_of (text_of_all (lists (drop k cs)))) ≡ total → new ++ words (units_of (text_of_all (lists (drop (k + 1) cs)))) ≡ total
texts_put cs k e so_far new total l more h =
    let here : List ℕ = units_of (text_of (get_or cs k e).now) in
    let rest : List ℕ = units_of (text_of_all (lists (drop (k + 1) cs))) in
    ap (λ (l : List ℕ). l ++ words rest) more
    ∙ append_assoc so_far (words here) (words rest)
    ∙ sym (ap (λ (l : List ℕ). so_far ++ l) (ap words (text_more cs k e l) ∙ words_joined here rest))
    ∙ h

-- the same with one character more, and with one operation more
pub character_put : (cs : List ℕ) (k e : ℕ) (so_far new total : List ℕ) → k < length cs → new ≡ so_far ++ words (utf16 (get_or cs k e)) → so_far ++ words (units_of (drop k cs)) ≡ total → new ++ words (units_of (drop (k + 1) cs)) ≡ total
character_put cs k e so_far new total l more h =
    let here : List ℕ = utf16 (get_or cs k e) in
    let rest : List ℕ = units_of (drop (k + 1) cs) in
    ap (λ (l : List ℕ). l ++ words rest) more
    ∙ append_assoc so_far (words here) (words rest)
    ∙ sym (ap (λ (l : List ℕ). so_far ++ l) (ap (λ (l : List ℕ). words (units_of l)) (drop_more cs k e l) ∙ words_joined here rest))
    ∙ h

pub operation_put : (size : ℕ) (pairs : List Pair) (ops : List Operation) (k : ℕ) (e : Operation) (o next_open : OpenArray) (so_far new total : List ℕ) → k < length ops → new ≡ so_far ++ act_text size pairs o (act_of (get_or ops k e)) → next_open ≡ open_after o (act_of (get_or ops k e))
    → so_far ++ written size pairs o (acts_of (drop k ops)) ≡ total → new ++ written size pairs next_open (acts_of (drop (k + 1) ops)) ≡ total
operation_put size pairs ops k e o next_open so_far new total l more is h =
    let a : Act = act_of (get_or ops k e) in
    let rest : List ℕ = written size pairs (open_after o a) (acts_of (drop (k + 1) ops)) in
    ap (λ (n : OpenArray). new ++ written size pairs n (acts_of (drop (k + 1) ops))) is
    ∙ ap (λ (l : List ℕ). l ++ rest) more
    ∙ append_assoc so_far (act_text size pairs o a) rest
    ∙ sym (ap (λ (os : List Operation). so_far ++ written size pairs o (acts_of os)) (drop_more ops k e l))
    ∙ h

pub texts_seen : (P : ℕ → Type 0) (cs : List (Bor (List Item))) (k : ℕ) (e : Bor (List Item)) → k < length cs → All P (text_of (get_or cs k e).now) → (All P (text_of_all (lists (drop k cs))) → All P (text_of_all (lists cs)))
    → All P (text_of_all (lists (drop (k + 1) cs))) → All P (text_of_all (lists cs))
texts_seen P cs k e l here h more =
    h (subst (All P) (sym (ap (λ (l : List (Bor (List Item))). text_of_all (lists l)) (drop_more cs k e l))) (All-append P (text_of (get_or cs k e).now) (text_of_all (lists (drop (k + 1) cs))) here more))

pub texts_all : (P : ℕ → Type 0) (cs : List (Bor (List Item))) (k : ℕ) → length cs ≤ k → (All P (text_of_all (lists (drop k cs))) → All P (text_of_all (lists cs))) → All P (text_of_all (lists cs))
texts_all P cs k l h = h (subst (All P) (sym (ap (λ (l : List (Bor (List Item))). text_of_all (lists l)) (drop_all k cs l))) (All-nil P))

pub long_more : (cs : List (Bor (List Item))) (k : ℕ) (e : Bor (List Item)) (n m total : ℕ) → k < length cs → m ≡ n + length (units_of (text_of (get_or cs k e).now)) → n + length (units_of (text_of_all (lists (drop k cs)))) ≡ total
    → m + length (units_of (text_of_all (lists (drop (k + 1) cs)))) ≡ total
long_more cs k e n m total l is h =
    count_more n m total (units_of (text_of (get_or cs k e).now)) (units_of (text_of_all (lists (drop (k + 1) cs)))) (ap (λ (us : List ℕ). n + length us) (sym (text_more cs k e l)) ∙ h) is

-- ---- why a run isn't shown

-- out of memory, or a test that fails
abbrev pub Refuses : Bool → RunError → Type 0
Refuses test e = (e ≡ OutOfMemory) ⊎ ((e ≡ InvalidText) × (test ≡ false))

refuses_by : (one all : Bool) (e : RunError) → (one ≡ false → all ≡ false) → Refuses one e → Refuses all e
refuses_by one all e f (inl memory) = inl memory
refuses_by one all e f (inr why_not) = inr (why_not.0, f why_not.1)

pub piece_refused : (f : Font) (d : Direction) (ps : List Piece) (k : ℕ) (e : Piece) (s : Stop) (total : Bool) (why : RunError) → k < length ps → Refuses (is_near (next f d s (get_or ps k e))) why → are_near f d s (drop k ps) ≡ total → Refuses total why
piece_refused f d ps k e s total why l why_not h = refuses_by (is_near (next f d s (get_or ps k e))) total why (λ far. near_failed f d ps k e s total l far h) why_not

pub part_refused : (f : Font) (d : Direction) (end : ℤ) (found : List (Bor (List (Bor (List Item))))) (k : ℕ) (e : Bor (List (Bor (List Item)))) (s : Stop) (total : Bool) (why : RunError) → k < length found → Refuses (is_part_shown f d s (lists (get_or found k e).now)) why
    → are_shown f d end s (groups (drop k found)) ≡ total → Refuses total why
part_refused f d end found k e s total why l why_not h = refuses_by (is_part_shown f d s (lists (get_or found k e).now)) total why (λ far. part_failed f d end found k e s total l far h) why_not

pub end_refused : (f : Font) (d : Direction) (end : ℤ) (found : List (Bor (List (Bor (List Item))))) (k : ℕ) (s : Stop) (total : Bool) (why : RunError) → length found ≤ k → Refuses (fits (last_back f end s)) why → are_shown f d end s (groups (drop k found)) ≡ total → Refuses total why
end_refused f d end found k s total why l why_not h = refuses_by (fits (last_back f end s)) total why (λ far. end_is f d end found k s false total l far h) why_not

-- ---- codes

cons_head : {A : Type 0} (x y : A) (xs ys : List A) → x ∷ xs ≡ y ∷ ys → x ≡ y
cons_head x y xs ys e = cc

cons_tail : {A : Type 0} (x y : A) (xs ys : List A) → x ∷ xs ≡ y ∷ ys → xs ≡ ys
cons_tail x y xs ys e = cc

pub coded_all : (pairs : List Pair) (ps : List Piece) (codes : List ℕ) → map Some codes ≡ map (λ (p : Piece). index_by same pairs (pair_of p)) ps → AreCoded pairs ps
coded_all pairs [] codes e = All-nil (λ (p : Piece). is_some (index_by same pairs (pair_of p)) ≡ true)
coded_all pairs (p ∷ ps) [] e = absurd cc
coded_all pairs (p ∷ ps) (c ∷ codes) e =
    let head : Some c ≡ index_by same pairs (pair_of p) = cons_head (Some c) (index_by same pairs (pair_of p)) (map Some codes) (map (λ (p : Piece). index_by same pairs (pair_of p)) ps) e in
    let tail : map Some codes ≡ map (λ (p : Piece). index_by same pairs (pair_of p)) ps = cons_tail (Some c) (index_by same pairs (pair_of p)) (map Some codes) (map (λ (p : Piece). index_by same pairs (pair_of p)) ps) e in
    All-cons (λ (p : Piece). is_some (index_by same pairs (pair_of p)) ≡ true) p ps (ap is_some (sym head)) (coded_all pairs ps codes tail)

-- ---- a whole run

pub not_run : (f : Font) (d : Direction) (o : Order) (is : List Item) → is_run d (length f.metrics.now) is ≡ false → is_valid f d o is ≡ false
not_run f d o is e = neither (is_run d (length f.metrics.now) is) (is_laid f d o is) e

not_second : (a b : Bool) → b ≡ false → (a && b) ≡ false
not_second true b e = e
not_second false b e = refl

pub is_shown : (f : Font) (d : Direction) (o : Order) (is : List Item) → is_run d (length f.metrics.now) is ≡ true → is_laid f d o is ≡ true → is_valid f d o is ≡ true
is_shown f d o is e h = both (is_run d (length f.metrics.now) is) (is_laid f d o is) e ∙ h

none_first : (pairs : List Pair) (is : List Piece) → HasFirst pairs pairs is
none_first pairs ps = record { count = 0; first = refl }

pub no_memory : (f : Font) (d : Direction) (o : Order) (pairs : List Pair) (is : List Item) (e : RunError) → e ≡ OutOfMemory → IsRefused f d o pairs pairs is e
no_memory f d o pairs is e memory = inr (inl (memory, none_first pairs (pieces_of_run d f.inked.now is)))

pub unshown : (f : Font) (d : Direction) (o : Order) (pairs : List Pair) (is : List Item) (e : RunError) → Refuses (is_laid f d o is) e → IsRefused f d o pairs pairs is e
unshown f d o pairs is e (inl memory) = no_memory f d o pairs is e memory
unshown f d o pairs is e (inr why_not) = inl (why_not.0, not_second (is_run d (length f.metrics.now) is) (is_laid f d o is) why_not.1, refl)

pub all_first : (pairs new : List Pair) (ps : List Piece) → new ≡ with_pairs pairs ps → HasFirst pairs new ps
all_first pairs new ps e = record { count = length ps; first = e ∙ sym (ap (with_pairs pairs) (take_all (length ps) ps (omega arith))) }

pub refused : (f : Font) (d : Direction) (o : Order) (pairs : List Pair) (is : List Item) → is_run d (length f.metrics.now) is ≡ false → IsRefused f d o pairs pairs is InvalidText
refused f d o pairs is e = inl (refl, not_run f d o is e, refl)

pub unwritten : (f : Font) (d : Direction) (o : Order) (pairs new : List Pair) (is : List Item) (e : RunError) → e ≡ OutOfMemory → new ≡ with_pairs pairs (pieces_of_run d f.inked.now is) → IsRefused f d o pairs new is e
unwritten f d o pairs new is e memory put = inr (inl (memory, all_first pairs new (pieces_of_run d f.inked.now is) put))

-- ---- what shows a run, from its parts

pub acts_are : (f : Font) (d : Direction) (o : Order) (is : List Item) (cs : List (List Item)) (a : Advance) (end : ℤ) (s : Stop) (gs : List (List (List Item))) (acts : List Act) → a ≡ advance_of is → cs ≡ clusters is → end ≡ end_of d a → s ≡ start (is_turned d o) a
    → gs ≡ turned (is_turned d o) (parts d cs) → acts ≡ acts_after f d end s gs → acts ≡ run_acts f d o is
acts_are f d o is cs a end s gs acts ea ec ee es eg e =
    let b : Bool = is_turned d o in
    let whole : ℤ = end_of d (advance_of is) in
    e
    ∙ ap (λ (z : ℤ). acts_after f d z s gs) (ee ∙ ap (end_of d) ea)
    ∙ ap (λ (t : Stop). acts_after f d whole t gs) (es ∙ ap (start b) ea)
    ∙ ap (λ (l : List (List (List Item))). acts_after f d whole (start b (advance_of is)) l) (eg ∙ ap (λ (c : List (List Item)). turned b (parts d c)) ec)

pub laid_are : (f : Font) (d : Direction) (o : Order) (is : List Item) (cs : List (List Item)) (a : Advance) (end : ℤ) (s : Stop) (gs : List (List (List Item))) (all : Bool) → a ≡ advance_of is → cs ≡ clusters is → end ≡ end_of d a → s ≡ start (is_turned d o) a
    → gs ≡ turned (is_turned d o) (parts d cs) → are_pens (pos 0) (pos 0) is ≡ true → are_shown f d end s gs ≡ all → is_laid f d o is ≡ all
laid_are f d o is cs a end s gs all ea ec ee es eg pens e =
    let b : Bool = is_turned d o in
    let whole : ℤ = end_of d (advance_of is) in
    both (are_pens (pos 0) (pos 0) is) (are_shown f d whole (start b (advance_of is)) (turned b (parts d (clusters is)))) pens
    ∙ sym (ap (λ (z : ℤ). are_shown f d z s gs) (ee ∙ ap (end_of d) ea)
    ∙ ap (λ (t : Stop). are_shown f d whole t gs) (es ∙ ap (start b) ea)
    ∙ ap (λ (l : List (List (List Item))). are_shown f d whole (start b (advance_of is)) l) (eg ∙ ap (λ (c : List (List Item)). turned b (parts d c)) ec))
    ∙ e

pub unlaid : (f : Font) (d : Direction) (o : Order) (is : List Item) → are_pens (pos 0) (pos 0) is ≡ false → is_laid f d o is ≡ false
unlaid f d o is e = neither (are_pens (pos 0) (pos 0) is) (are_shown f d (end_of d (advance_of is)) (start (is_turned d o) (advance_of is)) (turned (is_turned d o) (parts d (clusters is)))) e
