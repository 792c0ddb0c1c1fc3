-- Columns that are counted one after the other.
use Rattle.std.proofs.Common.{◌≡◌, ℕ, ◌+◌, ◌<◌, ◌≤◌, Bool, true, false, cond, ltb, List, length, take, drop, get_or, sym, ap, ◌∙◌, ℤ, arith}
use Rattle.std.proofs.lemmas.List.{drop_more, length-take, take_more}
use Rattle.std.proofs.lemmas.List.Sums.{count_by-le-length, sum_by_push}
use Rattle.pdf_text.specs.declared.metrics.columns.Column.{Column}
use Rattle.pdf_text.specs.declared.metrics.columns.DefaultColumn.{DefaultColumn}
use Rattle.pdf_glyphs.specs.declared.frequent.Best.{Best}
use Rattle.pdf_glyphs.specs.declared.frequent.Key.{Key}
use Rattle.pdf_glyphs.specs.Keys.{key_of, same_key}
use Rattle.pdf_glyphs.specs.Frequent.{count, default_of, has_both, most_from}

-- one column more
pub count_more : (cs : List Column) (i : ℕ) (d : Column) (key q : Key) (was now : ℕ) → i < length cs → key ≡ key_of (get_or cs i d) → now ≡ was + cond (same_key key q) 1 0 → was ≡ count (take i cs) q.y q.advance → now ≡ count (take (i + 1) cs) q.y q.advance
count_more cs i d key q was now lt is more so_far =
    let c : Column = get_or cs i d in
    let one : ℕ = cond (has_both q.y q.advance c) 1 0 in
    let next : count (take (i + 1) cs) q.y q.advance ≡ count (take i cs) q.y q.advance + one =
    ap (λ (l : List Column). count l q.y q.advance) (take_more cs i d lt) ∙ sum_by_push (λ (v : Column). cond (has_both q.y q.advance v) 1 0) (take i cs) c
    in
    more ∙ ap (λ (k : Key). was + cond (same_key k q) 1 0) is ∙ ap (λ (n : ℕ). n + one) so_far ∙ sym next

-- as many as are counted at most
pub count_few : (cs : List Column) (i : ℕ) (y a : ℤ) → length cs ≤ 65535 → count (take i cs) y a < 65536
count_few cs i y a few = omega (arith, few, count_by-le-length (has_both y a) (take i cs), length-take i cs)

-- ---- the most frequent one so far

taken : (t : Bool) (all rest : List Column) (m : ℕ) (x : DefaultColumn) (b : Best) (total : DefaultColumn) → cond t (most_from all m x rest) (most_from all b.count b.column rest) ≡ total
    → most_from all (cond t (record { column = x; count = m }) b).count (cond t (record { column = x; count = m }) b).column rest ≡ total
taken true all rest m x b total h = h
taken false all rest m x b total h = h

-- with one column more
pub best_more : (all : List Column) (i m : ℕ) (d : Column) (b next : Best) (total : DefaultColumn) → i < length all → m ≡ count all (get_or all i d).y (get_or all i d).advance
    → next ≡ cond (ltb b.count m) (record { column = default_of (get_or all i d); count = m }) b → most_from all b.count b.column (drop i all) ≡ total → most_from all next.count next.column (drop (i + 1) all) ≡ total
best_more all i m d b next total lt is step so_far =
    let c : Column = get_or all i d in
    let rest : List Column = drop (i + 1) all in
    let kept : DefaultColumn = most_from all b.count b.column rest in
    let here : cond (ltb b.count (count all c.y c.advance)) (most_from all (count all c.y c.advance) (default_of c) rest) kept ≡ total = sym (ap (most_from all b.count b.column) (drop_more all i d lt)) ∙ so_far in
    let counted : cond (ltb b.count m) (most_from all m (default_of c) rest) kept ≡ total = ap (λ (k : ℕ). cond (ltb b.count k) (most_from all k (default_of c) rest) kept) is ∙ here in
    ap (λ (v : Best). most_from all v.count v.column rest) step ∙ taken (ltb b.count m) all rest m (default_of c) b total counted
