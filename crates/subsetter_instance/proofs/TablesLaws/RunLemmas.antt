-- Entries of one offset in `loca`, a row of them at a time.
use Rattle.std.proofs.Common.{◌≡◌, ℕ, zero, suc, ◌+◌, ◌-◌, ◌*◌, ◌/◌, ◌%◌, ◌<◌, ◌≤◌, Bool, true, false, cond, List, ◌∷◌, ◌++◌, length, take, drop, get_or, replicate, refl, sym, ap, ◌∙◌, append_assoc, arith}
use Rattle.std.proofs.lemmas.Grind.{flat_map-append}
use Rattle.std.proofs.lemmas.List.{length-append, take_at, replicate-append-replicate, drop_all, drop_more}
use Rattle.subsetter_sfnt.specs.Fields.Loca.{offset_bytes, loca_bytes}
use Rattle.subsetter_instance.specs.Tables.Requested.{offsets_by}

-- how many bytes an entry has, and how many entries a row
abbrev pub size_of : Bool → ℕ
size_of long = cond long 4 2

abbrev pub row_count : Bool → ℕ
row_count long = cond long 8 16

-- k entries of one offset
abbrev pub entries : Bool → ℕ → ℕ → List ℕ
entries long at k = loca_bytes long (replicate k at)

pub entries_append : (long : Bool) (at j k : ℕ) → entries long at j ++ entries long at k ≡ entries long at (j + k)
entries_append long at j k = sym (flat_map-append (offset_bytes long) (replicate j at) (replicate k at)) ∙ ap (loca_bytes long) (replicate-append-replicate j k at)

length-entry : (long : Bool) (at : ℕ) → length (offset_bytes long at) ≡ size_of long
length-entry true at = refl
length-entry false at = refl

length-entries : (long : Bool) (at k : ℕ) → length (entries long at k) ≡ k * size_of long
length-entries long at zero = omega arith
length-entries true at (suc k) = omega (arith, length-append (offset_bytes true at) (entries true at k), length-entry true at, length-entries true at k)
length-entries false at (suc k) = omega (arith, length-append (offset_bytes false at) (entries false at k), length-entry false at, length-entries false at k)

-- the front of a row
front : (long : Bool) (at j k : ℕ) → j ≤ k → take (j * size_of long) (entries long at k) ≡ entries long at j
front long at j k le =
    let sum : j + (k - j) ≡ k = omega arith in
    ap (take (j * size_of long)) (ap (entries long at) (sym sum) ∙ sym (entries_append long at j (k - j)))
    ∙ take_at (entries long at j) (entries long at (k - j)) (j * size_of long) (length-entries long at j)

-- a row more
pub row_more : (long : Bool) (at k : ℕ) (w v row start : List ℕ) → v ≡ w ++ row → row ≡ entries long at (row_count long) → w ≡ start ++ entries long at (k * row_count long) → v ≡ start ++ entries long at ((k + 1) * row_count long)
row_more true at k w v row start is r so_far =
    let sum : k * 8 + 8 ≡ (k + 1) * 8 = omega arith in
    is ∙ ap (λ (l : List ℕ). l ++ row) so_far ∙ append_assoc start (entries true at (k * 8)) row
    ∙ ap (λ (l : List ℕ). start ++ (entries true at (k * 8) ++ l)) r ∙ ap (λ (l : List ℕ). start ++ l) (entries_append true at (k * 8) 8) ∙ ap (λ (m : ℕ). start ++ entries true at m) sum
row_more false at k w v row start is r so_far =
    let sum : k * 16 + 16 ≡ (k + 1) * 16 = omega arith in
    is ∙ ap (λ (l : List ℕ). l ++ row) so_far ∙ append_assoc start (entries false at (k * 16)) row
    ∙ ap (λ (l : List ℕ). start ++ (entries false at (k * 16) ++ l)) r ∙ ap (λ (l : List ℕ). start ++ l) (entries_append false at (k * 16) 16) ∙ ap (λ (m : ℕ). start ++ entries false at m) sum

-- and the front of one
pub run_end : (long : Bool) (at count size k : ℕ) (w v row part start : List ℕ) → size ≡ count * size_of long → k ≡ size / 32 → v ≡ w ++ part → part ≡ take (size % 32) row → row ≡ entries long at (row_count long)
    → w ≡ start ++ entries long at (k * row_count long) → v ≡ start ++ entries long at count
run_end true at count size k w v row part start s rows is p r so_far =
    let left = count - k * 8 in
    let few : left ≤ 8 = omega arith in
    let sum : k * 8 + left ≡ count = omega arith in
    let over : size % 32 ≡ left * 4 = omega arith in
    let part_is : part ≡ entries true at left = p ∙ ap (λ (m : ℕ). take m row) over ∙ ap (take (left * 4)) r ∙ front true at left 8 few in
    is ∙ ap (λ (l : List ℕ). l ++ part) so_far ∙ append_assoc start (entries true at (k * 8)) part
    ∙ ap (λ (l : List ℕ). start ++ (entries true at (k * 8) ++ l)) part_is ∙ ap (λ (l : List ℕ). start ++ l) (entries_append true at (k * 8) left) ∙ ap (λ (m : ℕ). start ++ entries true at m) sum
run_end false at count size k w v row part start s rows is p r so_far =
    let left = count - k * 16 in
    let few : left ≤ 16 = omega arith in
    let sum : k * 16 + left ≡ count = omega arith in
    let over : size % 32 ≡ left * 2 = omega arith in
    let part_is : part ≡ entries false at left = p ∙ ap (λ (m : ℕ). take m row) over ∙ ap (take (left * 2)) r ∙ front false at left 16 few in
    is ∙ ap (λ (l : List ℕ). l ++ part) so_far ∙ append_assoc start (entries false at (k * 16)) part
    ∙ ap (λ (l : List ℕ). start ++ (entries false at (k * 16) ++ l)) part_is ∙ ap (λ (l : List ℕ). start ++ l) (entries_append false at (k * 16) left) ∙ ap (λ (m : ℕ). start ++ entries false at m) sum

-- ---- of all glyphs

-- a run more
pub loca_more : (long : Bool) (n end from next run start k : ℕ) (order starts w v whole : List ℕ) → k < length order → length starts ≡ length order → next ≡ get_or order k 0 + 1 → run ≡ next - from → start ≡ get_or starts k 0
    → v ≡ w ++ loca_bytes long (replicate run start) → w ++ loca_bytes long (offsets_by n end from (drop k order) (drop k starts)) ≡ whole
    → v ++ loca_bytes long (offsets_by n end next (drop (k + 1) order) (drop (k + 1) starts)) ≡ whole
loca_more long n end from next run start k order starts w v whole lt same at long_run first is so_far =
    let g = get_or order k 0 in
    let s = get_or starts k 0 in
    let rest = offsets_by n end (g + 1) (drop (k + 1) order) (drop (k + 1) starts) in
    let len : run ≡ g + 1 - from = omega arith in
    let here : offsets_by n end from (drop k order) (drop k starts) ≡ replicate (g + 1 - from) s ++ rest =
    ap (λ (l : List ℕ). offsets_by n end from l (drop k starts)) (drop_more order k 0 lt)
    ∙ ap (offsets_by n end from (g ∷ drop (k + 1) order)) (drop_more starts k 0 (omega arith)) in
    ap (λ (m : ℕ). v ++ loca_bytes long (offsets_by n end m (drop (k + 1) order) (drop (k + 1) starts))) at
    ∙ ap (λ (l : List ℕ). l ++ loca_bytes long rest) (is ∙ ap (λ (m : ℕ). w ++ loca_bytes long (replicate m start)) len ∙ ap (λ (m : ℕ). w ++ loca_bytes long (replicate (g + 1 - from) m)) first)
    ∙ append_assoc w (loca_bytes long (replicate (g + 1 - from) s)) (loca_bytes long rest)
    ∙ ap (λ (l : List ℕ). w ++ l) (sym (flat_map-append (offset_bytes long) (replicate (g + 1 - from) s) rest) ∙ ap (loca_bytes long) (sym here))
    ∙ so_far

-- and the last one
pub loca_end : (long : Bool) (n end from run k : ℕ) (order starts w v whole : List ℕ) → length order ≤ k → run ≡ n + 1 - from → v ≡ w ++ loca_bytes long (replicate run end)
    → w ++ loca_bytes long (offsets_by n end from (drop k order) (drop k starts)) ≡ whole → v ≡ whole
loca_end long n end from run k order starts w v whole le len is so_far =
    is ∙ ap (λ (m : ℕ). w ++ loca_bytes long (replicate m end)) len
    ∙ ap (λ (l : List ℕ). w ++ loca_bytes long (offsets_by n end from l (drop k starts))) (sym (drop_all k order le))
    ∙ so_far
