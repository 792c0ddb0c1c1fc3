-- The lines that are read of blocks are those that were written.
use Rattle.std.proofs.Common.{◌≡◌, ℕ, suc, zero, ◌≤◌, true, false, List, [], ◌∷◌, ◌++◌, length, map, take, drop, refl, sym, ap, ◌∙◌, append_assoc, arith, length-take, length-drop}
use Rattle.std.specs.Prelude.{not, All, Option, Some, None, codes, decimal}
use Rattle.std.specs.Option.{option_map}
use Rattle.std.specs.Str.{bytes_eq}
use Rattle.std.proofs.lemmas.List.{take-append-drop}
use Rattle.std.proofs.lemmas.List.Elements.{All-nil, All-cons, All-head, All-tail, All-take, All-drop}
use Rattle.subsetter_base.proofs.Lists.{bytes_eq_self, and_parts}
use Rattle.pdf_text.specs.Cmaps.Blocks.{Row, block, blocks, count_in, rows_in, each_in}
use Rattle.pdf_text.specs.Cmaps.Cmap.{back}
use Rattle.pdf_text.specs.Tokens.{tokens}
use Rattle.pdf_text.proofs.TokenLaws.Tokens.{IsDark, no_word, decimal_digits}
use Rattle.pdf_text.proofs.CmapsLaws.CmapLaws.Units.{count_read}
use Rattle.pdf_text.proofs.CmapsLaws.CmapLaws.Tokens.{IsRow, all_tokens, block_tokens, is_plain, not_false}

-- ---- a block

-- lines before others
abbrev with_front : List Row → Option (List Row) → Option (List Row)
with_front rs more = option_map (λ ss. rs ++ ss) more

joined : (r : Row) (rs : List Row) (more : Option (List Row)) → option_map (λ ss. r ∷ ss) (with_front rs more) ≡ with_front (r ∷ rs) more
joined r rs None = refl
joined r rs (Some ss) = refl

nothing_joined : (more : Option (List Row)) → more ≡ with_front [] more
nothing_joined None = refl
nothing_joined (Some ss) = refl

closed : (kind : List ℕ) (ts : List (List ℕ)) → rows_in kind (Some zero) ((codes "end" ++ kind) ∷ ts) ≡ rows_in kind None ts
closed kind ts = rw (bytes_eq_self (codes "end" ++ kind)) refl

rows_read : (kind : List ℕ) (rs : List Row) (ts : List (List ℕ)) → rows_in kind (Some (length rs)) (all_tokens rs ++ ((codes "end" ++ kind) ∷ ts)) ≡ with_front rs (rows_in kind None ts)
rows_read kind [] ts = closed kind ts ∙ nothing_joined (rows_in kind None ts)
rows_read kind (r ∷ rs) ts = ap (λ (o : Option (List Row)). option_map (λ ss. r ∷ ss) o) (rows_read kind rs ts) ∙ joined r rs (rows_in kind None ts)

block_opened : (kind count : List ℕ) (n : ℕ) (ts : List (List ℕ)) → count_in count ≡ Some n → rows_in kind None (count ∷ (codes "begin" ++ kind) ∷ ts) ≡ rows_in kind (Some n) ts
block_opened kind count n ts e = rw (bytes_eq_self (codes "begin" ++ kind), e) refl

block_read : (kind : List ℕ) (rs : List Row) (rest : List ℕ) → All IsDark kind → All IsRow rs → length rs ≤ 100 → rows_in kind None (tokens (block kind rs ++ rest)) ≡ with_front rs (rows_in kind None (tokens rest))
block_read kind rs rest k h l =
    ap (λ (ts : List (List ℕ)). rows_in kind None ts) (block_tokens kind rs rest k h (omega arith))
    ∙ block_opened kind (decimal (length rs)) (length rs) (all_tokens rs ++ ((codes "end" ++ kind) ∷ tokens rest)) (count_read (length rs) l)
    ∙ rows_read kind rs (tokens rest)

-- ---- blocks

few : (rs : List Row) → length (take 100 rs) ≤ 100
few rs = simp length-take (omega arith)

fewer : (most : ℕ) (r : Row) (rs : List Row) → length (r ∷ rs) ≤ suc most → length (drop 100 (r ∷ rs)) ≤ most
fewer most r rs h = simp length-drop (omega arith)

blocks_read : (kind : List ℕ) (most : ℕ) (rs : List Row) → All IsDark kind → All IsRow rs → length rs ≤ most → rows_in kind None (tokens (blocks kind most rs ++ back)) ≡ Some rs
blocks_read kind zero [] k h l = refl
blocks_read kind zero (r ∷ rs) k h l = absurd (omega arith)
blocks_read kind (suc most) [] k h l = refl
blocks_read kind (suc most) (r ∷ rs) k h l =
    ap (λ (t : List ℕ). rows_in kind None (tokens t)) (append_assoc (block kind (take 100 (r ∷ rs))) (blocks kind most (drop 100 (r ∷ rs))) back)
    ∙ block_read kind (take 100 (r ∷ rs)) (blocks kind most (drop 100 (r ∷ rs)) ++ back) k (All-take IsRow 100 (r ∷ rs) h) (few (r ∷ rs))
    ∙ ap (λ (o : Option (List Row)). with_front (take 100 (r ∷ rs)) o) (blocks_read kind most (drop 100 (r ∷ rs)) k (All-drop IsRow 100 (r ∷ rs) h) (fewer most r rs l))
    ∙ ap Some (take-append-drop 100 (r ∷ rs))

-- ---- the front says nothing

one_skipped : (kind w u : List ℕ) (us : List (List ℕ)) → bytes_eq u (codes "begin" ++ kind) ≡ false → rows_in kind None (w ∷ u ∷ us) ≡ rows_in kind None (u ∷ us)
one_skipped kind w u us h = rw h refl

skipped : (kind : List ℕ) (ws : List (List ℕ)) (t : List ℕ) (ts : List (List ℕ)) → is_plain (codes "begin" ++ kind) ws ≡ true → bytes_eq t (codes "begin" ++ kind) ≡ false → rows_in kind None (ws ++ (t ∷ ts)) ≡ rows_in kind None (t ∷ ts)
skipped kind [] t ts p h = refl
skipped kind (w ∷ []) t ts p h = one_skipped kind w t ts h
skipped kind (w ∷ v ∷ ws) t ts p h =
    let later = (and_parts (not (bytes_eq w (codes "begin" ++ kind))) (is_plain (codes "begin" ++ kind) (v ∷ ws)) p).1 in
    let here = (and_parts (not (bytes_eq v (codes "begin" ++ kind))) (is_plain (codes "begin" ++ kind) ws) later).0 in
    one_skipped kind w v (ws ++ (t ∷ ts)) (not_false (bytes_eq v (codes "begin" ++ kind)) here) ∙ skipped kind (v ∷ ws) t ts later h

over : (kind : List ℕ) (ws : List (List ℕ)) (t : List ℕ) (ts all : List (List ℕ)) → is_plain (codes "begin" ++ kind) ws ≡ true → all ≡ t ∷ ts → bytes_eq t (codes "begin" ++ kind) ≡ false → rows_in kind None (ws ++ all) ≡ rows_in kind None all
over kind ws t ts all p e h =
    ap (λ (us : List (List ℕ)). rows_in kind None (ws ++ us)) e ∙ skipped kind ws t ts p h ∙ ap (λ (us : List (List ℕ)). rows_in kind None us) (sym e)

-- the tokens of blocks begin with a count
blocks_begun : (kind : List ℕ) (most : ℕ) (r : Row) (rs : List Row) → All IsDark kind → All IsRow (r ∷ rs) → tokens (blocks kind (suc most) (r ∷ rs) ++ back) ≡ decimal (length (take 100 (r ∷ rs))) ∷ (codes "begin" ++ kind) ∷ (all_tokens (take 100 (r ∷ rs)) ++ ((codes "end" ++ kind) ∷ tokens (blocks kind most (drop 100 (r ∷ rs)) ++ back)))
blocks_begun kind most r rs k h =
    let small : length (take 100 (r ∷ rs)) ≤ 100 = few (r ∷ rs) in
    ap tokens (append_assoc (block kind (take 100 (r ∷ rs))) (blocks kind most (drop 100 (r ∷ rs))) back)
    ∙ block_tokens kind (take 100 (r ∷ rs)) (blocks kind most (drop 100 (r ∷ rs)) ++ back) k (All-take IsRow 100 (r ∷ rs) h) (omega arith)

over_blocks : (kind : List ℕ) (ws : List (List ℕ)) (most : ℕ) (r : Row) (rs : List Row) → All IsDark kind → is_plain (codes "begin" ++ kind) ws ≡ true → All IsRow (r ∷ rs) → rows_in kind None (ws ++ tokens (blocks kind (suc most) (r ∷ rs) ++ back)) ≡ rows_in kind None (tokens (blocks kind (suc most) (r ∷ rs) ++ back))
over_blocks kind ws most r rs k p h =
    let small : length (take 100 (r ∷ rs)) ≤ 100 = few (r ∷ rs) in
    let count = decimal (length (take 100 (r ∷ rs))) in
    over kind ws count ((codes "begin" ++ kind) ∷ (all_tokens (take 100 (r ∷ rs)) ++ ((codes "end" ++ kind) ∷ tokens (blocks kind most (drop 100 (r ∷ rs)) ++ back))))
    (tokens (blocks kind (suc most) (r ∷ rs) ++ back)) p (blocks_begun kind most r rs k h)
    (no_word count (codes "begin" ++ kind) (decimal_digits (length (take 100 (r ∷ rs))) (omega arith)) refl)

pub all_read : (kind : List ℕ) (ws : List (List ℕ)) (rs : List Row) → All IsDark kind → is_plain (codes "begin" ++ kind) ws ≡ true → All IsRow rs → rows_in kind None (ws ++ tokens (blocks kind (length rs) rs ++ back)) ≡ Some rs
all_read kind ws [] k p h = over kind ws (codes "endcmap") (tokens (drop 8 back)) (tokens back) p refl refl ∙ blocks_read kind 0 [] k h (omega arith)
all_read kind ws (r ∷ rs) k p h = over_blocks kind ws (length rs) r rs k p h ∙ blocks_read kind (suc (length rs)) (r ∷ rs) k h (omega arith)

-- ---- what the lines say

one_said : {X : Type 0} (f : Row → Option X) (r : Row) (rs : List Row) (x : X) (xs : List X) → f r ≡ Some x → each_in f rs ≡ Some xs → each_in f (r ∷ rs) ≡ Some (x ∷ xs)
one_said f r rs x xs p q = rw (p, q) refl

pub all_said : {X : Type 0} (f : Row → Option X) (g : X → Row) (P : X → Type 0) → ((x : X) → P x → f (g x) ≡ Some x) → (xs : List X) → All P xs → each_in f (map g xs) ≡ Some xs
all_said f g P back_again [] h = refl
all_said f g P back_again (x ∷ xs) h =
    one_said f (g x) (map g xs) x xs (back_again x (All-head P x xs h)) (all_said f g P back_again xs (All-tail P x xs h))

pub all_rows : {X : Type 0} (g : X → Row) (P : X → Type 0) → ((x : X) → P x → IsRow (g x)) → (xs : List X) → All P xs → All IsRow (map g xs)
all_rows g P is_row [] h = All-nil IsRow
all_rows g P is_row (x ∷ xs) h = All-cons IsRow (g x) (map g xs) (is_row x (All-head P x xs h)) (all_rows g P is_row xs (All-tail P x xs h))
