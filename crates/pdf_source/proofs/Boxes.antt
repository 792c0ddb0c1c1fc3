-- A file with a box in its `head` is the one that is laid out of the same tables, of which `head` has the box.
use Rattle.std.proofs.Common.{◌≡◌, ℕ, suc, ◌+◌, ◌-◌, ◌*◌, ◌/◌, ◌%◌, ◌^◌, ◌<◌, ◌≤◌, Bool, true, false, cond, List, [], ◌∷◌, ◌++◌, length, take, drop, Option, Some, None, refl, sym, ap, subst, ◌∙◌, append_assoc, ◌⊎◌, arith, inl, inr}
use Rattle.std.specs.Prelude.{◌&&◌, if◌then◌else◌, map, codes, replicate, is_some, nat_le, nat_lt}
use Rattle.std.specs.Int.{w32, to_be_bytes}
use Rattle.std.specs.List.{AllByRecursion}
use Rattle.std.specs.Option.{option_and_then, option_map, option_map_or}
use Rattle.std.specs.Str.{bytes_eq}
use Rattle.std.proofs.lemmas.Bool.Decides.{nat_tests}
use Rattle.std.proofs.lemmas.List.{take_at, drop_at, drop-drop, drop-take, take-append-drop, take-append-le, take-take, length-append, length-map, length-take, length-drop}
use Rattle.subsetter_base.specs.Bytes.{aligned, be, number, range}
use Rattle.subsetter_base.proofs.ByteLemmas.{range-left, range-right, range-take_drop}
use Rattle.subsetter_base.proofs.Options.{just_is}
use Rattle.subsetter_sfnt.specs.Container.{IsSoundContainer}
use Rattle.subsetter_sfnt.specs.Fields.Head.{units_per_em}
use Rattle.subsetter_sfnt.specs.Laying.Checksum.{checksum}
use Rattle.subsetter_sfnt.specs.Laying.Rows.{FontTables, bytes_of, opt, present, rows, tags}
use Rattle.subsetter_sfnt.specs.Laying.Written.{IsTable, Table, adjusted, adjustment, body, directory_bytes, file, fits, front, header_bytes, kind_word, record_bytes, start_of, with_adjustment}
use Rattle.subsetter_sfnt.specs.Read.{as_font, directory_records, find_record, records, records_at, table, table_in}
use Rattle.subsetter_sfnt.specs.declared.face.TableRecord.{TableRecord}
use Rattle.subsetter_sfnt.specs.declared.flavor.FontFlavor.{FontFlavor}
use Rattle.subsetter_sfnt.specs.declared.flavor.FontFlavor.TheVariants.{TrueType, Cff}
use Rattle.subsetter_sfnt.proofs.Laws.Back.{IsKind, record_at, records_at_back, records_back, records_back_whole, records_from, word_of}
use Rattle.subsetter_sfnt.proofs.Laws.Container.{sound}
use Rattle.subsetter_sfnt.proofs.Laws.LayingLaws.Laid.{head_row_back, row_back}
use Rattle.subsetter_sfnt.proofs.Laws.LayingLaws.Rows.{AreAlike, HasRoom, present_ascends, rows_ascend, rows_few, rows_tables, same_tags}
use Rattle.subsetter_sfnt.proofs.Laws.LayingLaws.Written.{adjusted_head, aligned_len, length-directory, length-header}
use Rattle.pdf_values.specs.declared.looks.bounds.GlyphBox.{GlyphBox}
use Rattle.pdf_source.specs.Boxed.{Differ, IsBoxed, blank, box_bytes, boxed, boxed_at, boxed_tables, head_place, if_room, is_in, one_if, place_by, place_of, put, records_before, settled, summed, with_box}
use Rattle.pdf_source.specs.declared.boxed.HeadPlace.{HeadPlace}

-- ---- bytes in place of others

put_at : (pre old post new file : List ℕ) (at : ℕ) → file ≡ pre ++ (old ++ post) → at ≡ length pre → length old ≡ length new → put at new file ≡ pre ++ (new ++ post)
put_at pre old post new file at is a same =
    let first : take at file ≡ pre = ap (take at) is ∙ take_at pre (old ++ post) at (sym a) in
    let whole : file ≡ (pre ++ old) ++ post = is ∙ sym (append_assoc pre old post) in
    let last : drop (at + length new) file ≡ post = ap (drop (at + length new)) whole ∙ drop_at (pre ++ old) post (at + length new) (omega (arith, length-append pre old)) in
    ap (λ (l : List ℕ). l ++ new ++ drop (at + length new) file) first ∙ ap (λ (l : List ℕ). pre ++ new ++ l) last ∙ append_assoc pre new post

-- ---- a file around the bytes that change

-- the checksum of `head` in its record, checkSumAdjustment, and the box
abbrev pub joined : (A S R W M B D : List ℕ) → List ℕ
joined A S R W M B D = A ++ (S ++ (R ++ (W ++ (M ++ (B ++ D)))))

abbrev zeros : List ℕ
zeros = 0 ∷ 0 ∷ 0 ∷ 0 ∷ []

pub record Cut (p : HeadPlace) (A R M : List ℕ) : Type 0 where
  pub sum_at : p.record_at + 4 ≡ length A
  pub word_at : p.offset + 8 ≡ length A + 4 + length R
  pub middle : length M ≡ 24

blank_is : (p : HeadPlace) (A S R W M B D box : List ℕ) → Cut p A R M → length S ≡ 4 → length W ≡ 4 → length B ≡ 8 → length box ≡ 8 → blank p box (joined A S R W M B D) ≡ joined A S R zeros M box D
blank_is p A S R W M B D box c s w b e =
    let pre : List ℕ = A ++ (S ++ R) in
    let lp : p.offset + 8 ≡ length pre = omega (arith, c.word_at, s, length-append A (S ++ R), length-append S R) in
    let first : joined A S R W M B D ≡ pre ++ (W ++ (M ++ (B ++ D))) = simp append_assoc in
    let one : put (p.offset + 8) zeros (joined A S R W M B D) ≡ pre ++ (zeros ++ (M ++ (B ++ D))) = put_at pre W (M ++ (B ++ D)) zeros (joined A S R W M B D) (p.offset + 8) first lp w in
    let more : List ℕ = pre ++ (zeros ++ M) in
    let lm : p.offset + 36 ≡ length more = omega (arith, lp, c.middle, length-append pre (zeros ++ M), length-append zeros M) in
    let second : pre ++ (zeros ++ (M ++ (B ++ D))) ≡ more ++ (B ++ D) = simp append_assoc in
    let two : put (p.offset + 36) box (pre ++ (zeros ++ (M ++ (B ++ D)))) ≡ more ++ (box ++ D) = put_at more B D box (pre ++ (zeros ++ (M ++ (B ++ D)))) (p.offset + 36) second lm (b ∙ sym e) in
    let last : more ++ (box ++ D) ≡ joined A S R zeros M box D = simp append_assoc in
    ap (put (p.offset + 36) box) one ∙ two ∙ last

summed_is : (p : HeadPlace) (A S R W M B D head : List ℕ) → Cut p A R M → length S ≡ 4 → take p.size (drop p.offset (joined A S R W M B D)) ≡ head → summed p (joined A S R W M B D) ≡ joined A (to_be_bytes w32 (checksum head)) R W M B D
summed_is p A S R W M B D head c s h =
    ap (λ (l : List ℕ). put (p.record_at + 4) (to_be_bytes w32 (checksum l)) (joined A S R W M B D)) h
    ∙ put_at A S (R ++ (W ++ (M ++ (B ++ D)))) (to_be_bytes w32 (checksum head)) (joined A S R W M B D) (p.record_at + 4) refl c.sum_at s

settled_is : (p : HeadPlace) (A S R W M B D : List ℕ) → Cut p A R M → length S ≡ 4 → length W ≡ 4 → settled p (joined A S R W M B D) ≡ joined A S R (to_be_bytes w32 (adjustment (checksum (joined A S R W M B D)))) M B D
settled_is p A S R W M B D c s w =
    let pre : List ℕ = A ++ (S ++ R) in
    let word : List ℕ = to_be_bytes w32 (adjustment (checksum (joined A S R W M B D))) in
    let lp : p.offset + 8 ≡ length pre = omega (arith, c.word_at, s, length-append A (S ++ R), length-append S R) in
    let first : joined A S R W M B D ≡ pre ++ (W ++ (M ++ (B ++ D))) = simp append_assoc in
    let last : pre ++ (word ++ (M ++ (B ++ D))) ≡ joined A S R word M B D = simp append_assoc in
    put_at pre W (M ++ (B ++ D)) word (joined A S R W M B D) (p.offset + 8) first lp w ∙ last

-- ---- tables one after another

abbrev NoHead : Table → Type 0
NoHead t = bytes_eq t.tag (codes "head") ≡ false

adjusted_none : (w : ℕ) (ts : List Table) → AllByRecursion NoHead ts → map (adjusted w) ts ≡ ts
adjusted_none w [] h = refl
adjusted_none w (t ∷ ts) h =
    ap (λ b. cond b (record { tag = t.tag; bytes = with_adjustment w t.bytes }) t ∷ map (adjusted w) ts) h.0 ∙ ap (λ (l : List Table). t ∷ l) (adjusted_none w ts h.1)

adjusted_split : (w : ℕ) (pre : List Table) (t : Table) (post : List Table) → AllByRecursion NoHead pre → AllByRecursion NoHead post → map (adjusted w) (pre ++ (t ∷ post)) ≡ pre ++ (adjusted w t ∷ post)
adjusted_split w [] t post h g = ap (λ (l : List Table). adjusted w t ∷ l) (adjusted_none w post g)
adjusted_split w (x ∷ pre) t post h g =
    ap (λ b. cond b (record { tag = x.tag; bytes = with_adjustment w x.bytes }) x ∷ map (adjusted w) (pre ++ (t ∷ post))) h.0 ∙ ap (λ (l : List Table). x ∷ l) (adjusted_split w pre t post h.1 g)

body-append : (a b : List Table) → body (a ++ b) ≡ body a ++ body b
body-append [] b = refl
body-append (t ∷ a) b = ap (λ (l : List ℕ). aligned 4 t.bytes ++ l) (body-append a b) ∙ sym (append_assoc (aligned 4 t.bytes) (body a) (body b))

directory-append : (at : ℕ) (a b : List Table) → directory_bytes at (a ++ b) ≡ directory_bytes at a ++ directory_bytes (at + length (body a)) b
directory-append at [] b = let e : at ≡ at + 0 = omega arith in ap (λ (n : ℕ). directory_bytes n b) e
directory-append at (t ∷ a) b =
    let next = at + length (aligned 4 t.bytes) in
    let e : next + length (body a) ≡ at + length (body (t ∷ a)) = omega (arith, length-append (aligned 4 t.bytes) (body a)) in
    ap (λ (l : List ℕ). record_bytes at t ++ l) (directory-append next a b) ∙ sym (append_assoc (record_bytes at t) (directory_bytes next a) (directory_bytes (next + length (body a)) b))
    ∙ ap (λ (n : ℕ). directory_bytes at (t ∷ a) ++ directory_bytes n b) e

found_after : (at : ℕ) (pre : List Table) (t : Table) (post : List Table) → AllByRecursion NoHead pre → bytes_eq t.tag (codes "head") ≡ true → find_record (codes "head") (records_from at (pre ++ (t ∷ post))) ≡ Some (record_at (at + length (body pre)) t)
found_after at [] t post h is =
    let e : at ≡ at + 0 = omega arith in
    ap (λ b. cond b (Some (record_at at t)) (find_record (codes "head") (records_from (at + length (aligned 4 t.bytes)) post))) is ∙ ap (λ (n : ℕ). Some (record_at n t)) e
found_after at (x ∷ pre) t post h is =
    let next = at + length (aligned 4 x.bytes) in
    let e : next + length (body pre) ≡ at + length (body (x ∷ pre)) = omega (arith, length-append (aligned 4 x.bytes) (body pre)) in
    ap (λ b. cond b (Some (record_at at x)) (find_record (codes "head") (records_from next (pre ++ (t ∷ post))))) h.0 ∙ found_after next pre t post h.1 is ∙ ap (λ (n : ℕ). Some (record_at n t)) e

found_nowhere : (at : ℕ) (ts : List Table) → AllByRecursion NoHead ts → find_record (codes "head") (records_from at ts) ≡ None
found_nowhere at [] h = refl
found_nowhere at (x ∷ ts) h = ap (λ b. cond b (Some (record_at at x)) (find_record (codes "head") (records_from (at + length (aligned 4 x.bytes)) ts))) h.0 ∙ found_nowhere (at + length (aligned 4 x.bytes)) ts h.1

all-append : (a b : List Table) → AllByRecursion IsTable (a ++ b) → AllByRecursion IsTable a
all-append [] b h = tt
all-append (t ∷ a) b h = (h.0, all-append a b h.1)

all-following : (a b : List Table) → AllByRecursion IsTable (a ++ b) → AllByRecursion IsTable b
all-following [] b h = h
all-following (t ∷ a) b h = all-following a b h.1

-- ---- a file of tables around `head`

module _ (kind : ℕ) (pre post : List Table) (a m d : List ℕ) (size room : ℕ) (clear : AllByRecursion NoHead pre) (others : AllByRecursion NoHead post) (tables_before : AllByRecursion IsTable pre) (tables_after : AllByRecursion IsTable post) (eight : length a ≡ 8) where
  abbrev head : List ℕ → List ℕ → List ℕ
  head z b = a ++ (z ++ (m ++ (b ++ d)))

  abbrev head_table : List ℕ → List ℕ → Table
  head_table z b = record { tag = codes "head"; bytes = head z b }

  abbrev tables : List ℕ → List ℕ → List Table
  tables z b = pre ++ (head_table z b ∷ post)

  abbrev count : ℕ
  count = length pre + suc (length post)

  abbrev start : ℕ
  start = 12 + 16 * count

  abbrev offset : ℕ
  offset = start + length (body pre)

  abbrev A : List ℕ
  A = header_bytes kind count ++ (directory_bytes start pre ++ codes "head")

  abbrev R : List ℕ
  R = to_be_bytes w32 offset ++ (to_be_bytes w32 size ++ (directory_bytes (offset + room) post ++ (body pre ++ a)))

  abbrev pad : List ℕ
  pad = replicate ((4 - size % 4) % 4) 0

  abbrev D : List ℕ
  D = d ++ (pad ++ body post)

  abbrev place : HeadPlace
  place = record { record_at = 12 + 16 * length pre; offset = offset; size = size }

  abbrev sum : List ℕ → List ℕ
  sum b = to_be_bytes w32 (checksum (head zeros b))

  -- ---- lengths

  length-A : length A ≡ 12 + 16 * length pre + 4
  length-A = omega (arith, length-append (header_bytes kind count) (directory_bytes start pre ++ codes "head"), length-append (directory_bytes start pre) (codes "head"), length-header kind count, length-directory start pre tables_before)

  length-R : length R ≡ 16 + 16 * length post + length (body pre)
  length-R =
      let P : List ℕ = directory_bytes (offset + room) post in
      omega (arith, length-append (to_be_bytes w32 offset) (to_be_bytes w32 size ++ (P ++ (body pre ++ a))), length-append (to_be_bytes w32 size) (P ++ (body pre ++ a)), length-append P (body pre ++ a), length-append (body pre) a, length-directory (offset + room) post tables_after, eight)

  cut : length m ≡ 24 → Cut place A R m
  cut h = record { sum_at = omega (arith, length-A); word_at = omega (arith, length-A, length-R); middle = h }

  -- ---- the file

  front_is : (z b : List ℕ) → length (head z b) ≡ size → length (aligned 4 (head z b)) ≡ room
      → front kind (tables z b) ≡ A ++ (to_be_bytes w32 (checksum (head z b)) ++ (to_be_bytes w32 offset ++ (to_be_bytes w32 size ++ directory_bytes (offset + room) post)))
  unfolding front
  front_is z b s r =
      let ts = tables z b in
      let S = to_be_bytes w32 (checksum (head z b)) in
      let n : length ts ≡ count = length-append pre (head_table z b ∷ post) in
      let records = directory-append start pre (head_table z b ∷ post) in
      ap (λ (k : ℕ). header_bytes kind k ++ directory_bytes (12 + 16 * k) ts) n ∙ ap (λ (l : List ℕ). header_bytes kind count ++ l) records
      ∙ ap (λ (k : ℕ). header_bytes kind count ++ (directory_bytes start pre ++ (record_bytes offset (head_table z b) ++ directory_bytes (offset + k) post))) r
      ∙ ap (λ (k : ℕ). header_bytes kind count ++ (directory_bytes start pre ++ ((codes "head" ++ S ++ to_be_bytes w32 offset ++ to_be_bytes w32 k) ++ directory_bytes (offset + room) post))) s
      ∙ regroup (header_bytes kind count) (directory_bytes start pre) (codes "head") S (to_be_bytes w32 offset) (to_be_bytes w32 size) (directory_bytes (offset + room) post)
    where
      regroup : (h d t s o l p : List ℕ) → h ++ (d ++ ((t ++ s ++ o ++ l) ++ p)) ≡ (h ++ (d ++ t)) ++ (s ++ (o ++ (l ++ p)))
      regroup h d t s o l p = simp append_assoc

  adjusted_is : (w : ℕ) (z rest : List ℕ) → length z ≡ 4 → with_adjustment w (a ++ (z ++ rest)) ≡ a ++ (to_be_bytes w32 w ++ rest)
  adjusted_is w z rest four =
      let W = to_be_bytes w32 w in
      let first : take 8 (a ++ (z ++ rest)) ≡ a = take_at a (z ++ rest) 8 eight in
      let last : drop 12 (a ++ (z ++ rest)) ≡ rest = ap (drop 12) (sym (append_assoc a z rest)) ∙ drop_at (a ++ z) rest 12 (omega (arith, length-append a z, eight, four)) in
      ap (λ (l : List ℕ). l ++ W ++ drop 12 (a ++ (z ++ rest))) first ∙ ap (λ (l : List ℕ). a ++ W ++ l) last ∙ append_assoc a W rest

  -- ---- the length of `head` stays where its parts are as long
  same_size : (z y b c : List ℕ) → length z ≡ length y → length b ≡ length c → length (head z b) ≡ length (head y c)
  same_size z y b c h g =
      omega (arith, length-append a (z ++ (m ++ (b ++ d))), length-append a (y ++ (m ++ (c ++ d))), length-append z (m ++ (b ++ d)), length-append y (m ++ (c ++ d)), length-append m (b ++ d), length-append m (c ++ d), length-append b d, length-append c d)

  table_adjusted : (w : ℕ) (z b : List ℕ) → length z ≡ 4 → adjusted w (head_table z b) ≡ head_table (to_be_bytes w32 w) b
  table_adjusted w z b four = ap (λ (l : List ℕ). let t : Table = record { tag = codes "head"; bytes = l } in t) (adjusted_is w z (m ++ (b ++ d)) four)

  body_is : (w : ℕ) (z b : List ℕ) → length z ≡ 4 → length (head z b) ≡ size → body (map (adjusted w) (tables z b)) ≡ body pre ++ ((head (to_be_bytes w32 w) b ++ pad) ++ body post)
  body_is w z b four s =
      let W = to_be_bytes w32 w in
      let long : length (head W b) ≡ size = same_size W z b b (sym four) refl ∙ s in
      ap body (adjusted_split w pre (head_table z b) post clear others ∙ ap (λ (t : Table). pre ++ (t ∷ post)) (table_adjusted w z b four)) ∙ body-append pre (head_table W b ∷ post)
      ∙ ap (λ (k : ℕ). body pre ++ ((head W b ++ replicate ((4 - k % 4) % 4) 0) ++ body post)) long

  shape : (w : ℕ) (z b : List ℕ) → length z ≡ 4 → length (head z b) ≡ size → length (aligned 4 (head z b)) ≡ room
      → front kind (tables z b) ++ body (map (adjusted w) (tables z b)) ≡ joined A (to_be_bytes w32 (checksum (head z b))) R (to_be_bytes w32 w) m b D
  shape w z b four s r =
      let S = to_be_bytes w32 (checksum (head z b)) in
      let O = to_be_bytes w32 offset in
      let L = to_be_bytes w32 size in
      let P = directory_bytes (offset + room) post in
      let W = to_be_bytes w32 w in
      ap (λ (l : List ℕ). l ++ body (map (adjusted w) (tables z b))) (front_is z b s r) ∙ ap (λ (l : List ℕ). (A ++ (S ++ (O ++ (L ++ P)))) ++ l) (body_is w z b four s) ∙ regroup A S O L P (body pre) a W m b d pad (body post)
    where
      regroup : (x s o l p y e w n c f g q : List ℕ) → (x ++ (s ++ (o ++ (l ++ p)))) ++ (y ++ (((e ++ (w ++ (n ++ (c ++ f)))) ++ g) ++ q)) ≡ x ++ (s ++ ((o ++ (l ++ (p ++ (y ++ e)))) ++ (w ++ (n ++ (c ++ (f ++ (g ++ q)))))))
      regroup x s o l p y e w n c f g q = simp append_assoc

  unadjusted : (b : List ℕ) → length (head zeros b) ≡ size → length (aligned 4 (head zeros b)) ≡ room → front kind (tables zeros b) ++ body (tables zeros b) ≡ joined A (sum b) R zeros m b D
  unadjusted b s r =
      let same : map (adjusted 0) (tables zeros b) ≡ tables zeros b = adjusted_split 0 pre (head_table zeros b) post clear others ∙ ap (λ (t : Table). pre ++ (t ∷ post)) (table_adjusted 0 zeros b refl) in
      ap (λ (l : List Table). front kind (tables zeros b) ++ body l) (sym same) ∙ shape 0 zeros b refl s r

  pub file_is : (b : List ℕ) → length (head zeros b) ≡ size → length (aligned 4 (head zeros b)) ≡ room → file kind (tables zeros b) ≡ joined A (sum b) R (to_be_bytes w32 (adjustment (checksum (joined A (sum b) R zeros m b D)))) m b D
  unfolding file
  file_is b s r =
      let ts = tables zeros b in
      shape (adjustment (checksum (front kind ts ++ body ts))) zeros b refl s r ∙ ap (λ (l : List ℕ). joined A (sum b) R (to_be_bytes w32 (adjustment (checksum l))) m b D) (unadjusted b s r)

  -- ---- `head` in the file

  abbrev before_head : List ℕ → List ℕ
  before_head s = A ++ (s ++ (to_be_bytes w32 offset ++ (to_be_bytes w32 size ++ (directory_bytes (offset + room) post ++ body pre))))

  around_head : (s w b : List ℕ) → joined A s R w m b D ≡ before_head s ++ (head w b ++ (pad ++ body post))
  around_head s w b = regroup A s (to_be_bytes w32 offset) (to_be_bytes w32 size) (directory_bytes (offset + room) post) (body pre) a w m b d pad (body post)
    where
      regroup : (x s o l p y e w n c f g q : List ℕ) → x ++ (s ++ ((o ++ (l ++ (p ++ (y ++ e)))) ++ (w ++ (n ++ (c ++ (f ++ (g ++ q))))))) ≡ (x ++ (s ++ (o ++ (l ++ (p ++ y))))) ++ ((e ++ (w ++ (n ++ (c ++ f)))) ++ (g ++ q))
      regroup x s o l p y e w n c f g q = simp append_assoc

  length-before : (s : List ℕ) → length s ≡ 4 → length (before_head s) ≡ offset
  length-before s four =
      let O = to_be_bytes w32 offset in
      let L = to_be_bytes w32 size in
      let P = directory_bytes (offset + room) post in
      omega (arith, length-A, four, length-append A (s ++ (O ++ (L ++ (P ++ body pre)))), length-append s (O ++ (L ++ (P ++ body pre))), length-append O (L ++ (P ++ body pre)), length-append L (P ++ body pre), length-append P (body pre), length-directory (offset + room) post tables_after)

  head_there : (s w b : List ℕ) → length s ≡ 4 → length (head w b) ≡ size → take size (drop offset (joined A s R w m b D)) ≡ head w b
  head_there s w b four long =
      ap (λ (l : List ℕ). take size (drop offset l)) (around_head s w b) ∙ ap (take size) (drop_at (before_head s) (head w b ++ (pad ++ body post)) offset (length-before s four)) ∙ take_at (head w b) (pad ++ body post) size long

  both : (x y z : Bool) → x ≡ true → y ≡ true → z ≡ true → (x && (y && z)) ≡ true
  both true true true h g f = refl
  both false y z h g f = absurd cc
  both true false z h g f = absurd cc
  both true true false h g f = absurd cc

  inside : (n : ℕ) → 44 ≤ size → offset + size ≤ n → is_in place n ≡ true
  inside n large fits =
      both (nat_le 44 size) (nat_le (offset + size) n) (nat_le (12 + 16 * length pre + 8) n) (grind (arith, nat_tests)) (grind (arith, nat_tests)) (let e : 12 + 16 * length pre + 8 ≤ n = omega arith in grind (arith, nat_tests))

  pub boxed_at_is : (b box : List ℕ) → length m ≡ 24 → length b ≡ 8 → length box ≡ 8 → 44 ≤ size → length (head zeros b) ≡ size → length (aligned 4 (head zeros b)) ≡ room → boxed_at place box (file kind (tables zeros b)) ≡ file kind (tables zeros box)
  boxed_at_is b box lm lb lx large s r =
      let F = file kind (tables zeros b) in
      let W = to_be_bytes w32 (adjustment (checksum (joined A (sum b) R zeros m b D))) in
      let t : length (head zeros box) ≡ size = same_size zeros zeros box b refl (lx ∙ sym lb) ∙ s in
      let q : length (aligned 4 (head zeros box)) ≡ room = aligned_len (head zeros box) (head zeros b) (t ∙ sym s) ∙ r in
      let is = file_is b s r in
      let lw : length (head W b) ≡ size = same_size W zeros b b refl refl ∙ s in
      let whole : offset + size ≤ length F = omega (arith, ap length (is ∙ around_head (sum b) W b), length-append (before_head (sum b)) (head W b ++ (pad ++ body post)), length-append (head W b) (pad ++ body post), length-before (sum b) refl, lw) in
      let c = cut lm in
      ap (λ x. cond x (settled place (summed place (blank place box F))) F) (inside (length F) large whole)
      ∙ ap (λ (l : List ℕ). settled place (summed place (blank place box l))) is
      ∙ ap (λ (l : List ℕ). settled place (summed place l)) (blank_is place A (sum b) R W m b D box c refl refl lb lx)
      ∙ ap (settled place) (summed_is place A (sum b) R zeros m box D (head zeros box) c refl (head_there (sum b) zeros box refl t))
      ∙ settled_is place A (sum box) R zeros m box D c refl refl
      ∙ sym (file_is box t q)

  pub differing : (b box : List ℕ) → length b ≡ 8 → length box ≡ 8 → length (head zeros b) ≡ size → length (aligned 4 (head zeros b)) ≡ room → (x y : List ℕ) → x ≡ file kind (tables zeros b) → y ≡ file kind (tables zeros box) → Differ x y
  differing b box lb lx s r x y e g =
      let t : length (head zeros box) ≡ size = same_size zeros zeros box b refl (lx ∙ sym lb) ∙ s in
      let q : length (aligned 4 (head zeros box)) ≡ room = aligned_len (head zeros box) (head zeros b) (t ∙ sym s) ∙ r in
      record {
        front = A;
        between = R;
        middle = m;
        rest = D;
        sum = sum b;
        other_sum = sum box;
        word = to_be_bytes w32 (adjustment (checksum (joined A (sum b) R zeros m b D)));
        other_word = to_be_bytes w32 (adjustment (checksum (joined A (sum box) R zeros m box D)));
        box = b;
        other_box = box;
        one = e ∙ file_is b s r;
        other = g ∙ file_is box t q;
        sums = (refl, refl);
        words = (refl, refl);
        boxes = (lb, lx);
      }

-- ---- the rows of a font

abbrev before : FontTables → List Table
before t = opt (codes "CFF ") t.cff ++ (opt (codes "cvt ") t.cvt ++ (opt (codes "fpgm") t.fpgm ++ (opt (codes "glyf") t.glyf ++ [])))

abbrev following : FontTables → List Table
following t = opt (codes "hhea") t.hhea ++ (opt (codes "hmtx") t.hmtx ++ (opt (codes "loca") t.loca ++ (opt (codes "maxp") t.maxp ++ (opt (codes "name") t.name ++ (opt (codes "post") t.post ++ (opt (codes "prep") t.prep ++ []))))))

four_pieces : (a b c d e : List Table) → a ++ (b ++ (c ++ (d ++ e))) ≡ (a ++ (b ++ (c ++ (d ++ [])))) ++ e
four_pieces a b c d e = simp append_assoc

split : (t : FontTables) (o : Option (List ℕ)) → t.head ≡ o → present (rows t) ≡ before t ++ (opt (codes "head") o ++ following t)
split t o e =
    ap (λ (x : Option (List ℕ)). opt (codes "CFF ") t.cff ++ (opt (codes "cvt ") t.cvt ++ (opt (codes "fpgm") t.fpgm ++ (opt (codes "glyf") t.glyf ++ (opt (codes "head") x ++ following t))))) e
    ∙ four_pieces (opt (codes "CFF ") t.cff) (opt (codes "cvt ") t.cvt) (opt (codes "fpgm") t.fpgm) (opt (codes "glyf") t.glyf) (opt (codes "head") o ++ following t)

clear_opt : (tag : List ℕ) (o : Option (List ℕ)) (rest : List Table) → bytes_eq tag (codes "head") ≡ false → AllByRecursion NoHead rest → AllByRecursion NoHead (opt tag o ++ rest)
clear_opt tag None rest e h = h
clear_opt tag (Some bytes) rest e h = (e, h)

clear_before : (t : FontTables) → AllByRecursion NoHead (before t)
clear_before t = clear_opt (codes "CFF ") t.cff _ refl (clear_opt (codes "cvt ") t.cvt _ refl (clear_opt (codes "fpgm") t.fpgm _ refl (clear_opt (codes "glyf") t.glyf [] refl tt)))

clear_after : (t : FontTables) → AllByRecursion NoHead (following t)
clear_after t = clear_opt (codes "hhea") t.hhea _ refl (clear_opt (codes "hmtx") t.hmtx _ refl (clear_opt (codes "loca") t.loca _ refl (clear_opt (codes "maxp") t.maxp _ refl (clear_opt (codes "name") t.name _ refl (clear_opt (codes "post") t.post _ refl (clear_opt (codes "prep") t.prep [] refl tt))))))

size_opt : (tag : List ℕ) (o : Option (List ℕ)) (rest : List Table) → length (opt tag o ++ rest) ≡ one_if (is_some o) + length rest
size_opt tag None rest = omega arith
size_opt tag (Some bytes) rest = omega arith

size_before : (t : FontTables) → length (before t) ≡ one_if (is_some t.cff) + (one_if (is_some t.cvt) + (one_if (is_some t.fpgm) + one_if (is_some t.glyf)))
size_before t = omega (arith, size_opt (codes "CFF ") t.cff (opt (codes "cvt ") t.cvt ++ (opt (codes "fpgm") t.fpgm ++ (opt (codes "glyf") t.glyf ++ []))), size_opt (codes "cvt ") t.cvt (opt (codes "fpgm") t.fpgm ++ (opt (codes "glyf") t.glyf ++ [])), size_opt (codes "fpgm") t.fpgm (opt (codes "glyf") t.glyf ++ []), size_opt (codes "glyf") t.glyf [])

-- ---- `head` with a box

size_kept : (box h : List ℕ) → length box ≡ 8 → length (if_room box h) ≡ length h
size_kept box h e = by (nat_le 44 (length h)) refl
  where
    by : (x : Bool) → nat_le 44 (length h) ≡ x → length (cond x (with_box box h) h) ≡ length h
    by false k = refl
    by true k = let large : 44 ≤ length h = is_large (length h) k in omega (arith, length-append (take 36 h ++ box) (drop 44 h), length-append (take 36 h) box, length-take 36 h, length-drop 44 h, e)
      where
        is_large : (n : ℕ) → nat_le 44 n ≡ true → 44 ≤ n
        is_large n q = grind (arith, nat_tests)

roomy : (h box : List ℕ) → 44 ≤ length h → 12 ≤ length (with_box box h)
roomy h box large = omega (arith, length-append (take 36 h ++ box) (drop 44 h), length-append (take 36 h) box, length-take 36 h)

-- the bytes after the adjustment
pub after_word_with : (h box : List ℕ) → 44 ≤ length h → drop 12 (with_box box h) ≡ take 24 (drop 12 h) ++ (box ++ drop 44 h)
after_word_with h box large =
    let cut : take 36 h ≡ take 12 h ++ take 24 (drop 12 h) = sym (take-append-drop 12 (take 36 h)) ∙ ap (λ (l : List ℕ). l ++ drop 12 (take 36 h)) (take-take 12 36 h (omega arith)) ∙ ap (λ (l : List ℕ). take 12 h ++ l) (drop-take 12 24 h) in
    let whole : with_box box h ≡ take 12 h ++ (take 24 (drop 12 h) ++ (box ++ drop 44 h)) = ap (λ (l : List ℕ). l ++ box ++ drop 44 h) cut ∙ regroup (take 12 h) (take 24 (drop 12 h)) box (drop 44 h) in
    ap (drop 12) whole ∙ drop_at (take 12 h) (take 24 (drop 12 h) ++ (box ++ drop 44 h)) 12 (omega (arith, length-take 12 h))
  where
    regroup : (a b c d : List ℕ) → (a ++ b) ++ c ++ d ≡ a ++ (b ++ (c ++ d))
    regroup a b c d = simp append_assoc

first_kept : (h box : List ℕ) → 44 ≤ length h → take 8 (with_box box h) ≡ take 8 h
first_kept h box large =
    ap (take 8) (append_assoc (take 36 h) box (drop 44 h)) ∙ take-append-le 8 (take 36 h) (box ++ drop 44 h) (omega (arith, length-take 36 h)) ∙ take-take 8 36 h (omega arith)

-- zeros for the adjustment stay
zeroed : (h box : List ℕ) → 44 ≤ length h → with_adjustment 0 h ≡ h → with_adjustment 0 (with_box box h) ≡ with_box box h
zeroed h box large zero =
    let rest : List ℕ = take 24 (drop 12 h) ++ (box ++ drop 44 h) in
    let Z : List ℕ = to_be_bytes w32 0 in
    let twelve : take 12 h ≡ take 8 h ++ Z = sym (ap (take 12) zero) ∙ take_at (take 8 h ++ Z) (drop 12 h) 12 (omega (arith, length-append (take 8 h) Z, length-take 8 h)) in
    let cut : take 36 h ≡ take 12 h ++ take 24 (drop 12 h) = sym (take-append-drop 12 (take 36 h)) ∙ ap (λ (l : List ℕ). l ++ drop 12 (take 36 h)) (take-take 12 36 h (omega arith)) ∙ ap (λ (l : List ℕ). take 12 h ++ l) (drop-take 12 24 h) in
    let whole : with_box box h ≡ (take 8 h ++ Z) ++ rest = ap (λ (l : List ℕ). l ++ box ++ drop 44 h) (cut ∙ ap (λ (l : List ℕ). l ++ take 24 (drop 12 h)) twelve) ∙ regroup (take 8 h ++ Z) (take 24 (drop 12 h)) box (drop 44 h) in
    ap (λ (l : List ℕ). l ++ Z ++ drop 12 (with_box box h)) (first_kept h box large) ∙ ap (λ (l : List ℕ). take 8 h ++ Z ++ l) (after_word_with h box large) ∙ sym whole
  where
    regroup : (a b c d : List ℕ) → (a ++ b) ++ c ++ d ≡ a ++ (b ++ (c ++ d))
    regroup a b c d = simp append_assoc

-- ---- places that fit

fits_from : (at : ℕ) (pre : List Table) (x y : List ℕ) (post : List Table) → length x ≡ length y → fits at (pre ++ (record { tag = codes "head"; bytes = x } ∷ post)) ≡ fits at (pre ++ (record { tag = codes "head"; bytes = y } ∷ post))
fits_from at [] x y post e =
    ap (λ (n : ℕ). nat_lt at (2 ^ 32) && (nat_lt n (2 ^ 32) && fits (at + length (aligned 4 x)) post)) e ∙ ap (λ (n : ℕ). nat_lt at (2 ^ 32) && (nat_lt (length y) (2 ^ 32) && fits (at + n) post)) (aligned_len x y e)
fits_from at (t ∷ pre) x y post e =
    ap (λ (b : Bool). nat_lt at (2 ^ 32) && (nat_lt (length t.bytes) (2 ^ 32) && b)) (fits_from (at + length (aligned 4 t.bytes)) pre x y post e)

fits_alike : (pre post : List Table) (x y : List ℕ) → length x ≡ length y → (let old : List Table = pre ++ (record { tag = codes "head"; bytes = x } ∷ post) in fits (start_of old) old) ≡ (let new : List Table = pre ++ (record { tag = codes "head"; bytes = y } ∷ post) in fits (start_of new) new)
fits_alike pre post x y e =
    let n : length (pre ++ (record { tag = codes "head"; bytes = x } ∷ post)) ≡ length (pre ++ (record { tag = codes "head"; bytes = y } ∷ post)) = length-append pre (record { tag = codes "head"; bytes = x } ∷ post) ∙ sym (length-append pre (record { tag = codes "head"; bytes = y } ∷ post)) in
    ap (λ (k : ℕ). fits (12 + 16 * k) (pre ++ (record { tag = codes "head"; bytes = x } ∷ post))) n ∙ fits_from (12 + 16 * length (pre ++ (record { tag = codes "head"; bytes = y } ∷ post))) pre x y post e

-- ---- the whole

is_kind : (kind : FontFlavor) → IsKind (kind_word kind)
is_kind TrueType = inl refl
is_kind Cff = inr refl

module _ (kind : FontFlavor) (t : FontTables) (room : HasRoom t.head) (fit : fits (start_of (present (rows t))) (present (rows t)) ≡ true) where
  abbrev word : ℕ
  word = kind_word kind

  abbrev ts : List Table
  ts = present (rows t)

  abbrev F : List ℕ
  F = file word ts

  abbrev directory : List ℕ
  directory = directory_bytes (12 + 16 * length ts) ts

  all : AllByRecursion IsTable ts
  all = rows_tables t room

  records_are : records (as_font F) ≡ Some directory
  unfolding file
  records_are = records_back_whole word ts (body (map (adjusted (adjustment (checksum (front word ts ++ body ts)))) ts)) (is_kind kind) (rows_few t) all

  directory_is : records_at F 0 ≡ Some directory
  unfolding file
  directory_is = records_at_back word ts (body (map (adjusted (adjustment (checksum (front word ts ++ body ts)))) ts)) (rows_few t) all

  read : directory_records (length directory / 16) directory ≡ records_from (12 + 16 * length ts) ts
  read =
      let n : length directory / 16 ≡ length ts = omega (arith, length-directory (12 + 16 * length ts) ts all) in
      ap (λ (k : ℕ). directory_records k directory) n ∙ records_back (12 + 16 * length ts) ts all fit

  found : (tag : List ℕ) (o : Option (List ℕ)) → table (as_font F) tag ≡ o → table_in F directory tag ≡ o
  found tag o h = sym (ap (option_and_then (λ d. table_in F d tag)) records_are) ∙ h

  counted : records_before (table_in F directory) ≡ length (before t)
  counted =
      let c = ap (λ (o : Option (List ℕ)). one_if (is_some o)) (found (codes "CFF ") t.cff (row_back kind t room fit (codes "CFF ") refl)) in
      let v = ap (λ (o : Option (List ℕ)). one_if (is_some o)) (found (codes "cvt ") t.cvt (row_back kind t room fit (codes "cvt ") refl)) in
      let f = ap (λ (o : Option (List ℕ)). one_if (is_some o)) (found (codes "fpgm") t.fpgm (row_back kind t room fit (codes "fpgm") refl)) in
      let g = ap (λ (o : Option (List ℕ)). one_if (is_some o)) (found (codes "glyf") t.glyf (row_back kind t room fit (codes "glyf") refl)) in
      omega (arith, c, v, f, g, size_before t)

  abbrev place_from : TableRecord → HeadPlace
  place_from = place_of (records_before (table_in F directory))

  placed : (o : Option TableRecord) → find_record (codes "head") (records_from (12 + 16 * length ts) ts) ≡ o → head_place F ≡ option_map place_from o
  unfolding head_place
  placed o h =
      ap (option_and_then (place_by F)) directory_is ∙ ap (λ (rs : List TableRecord). option_map place_from (find_record (codes "head") rs)) read ∙ ap (option_map place_from) h

  -- without `head` the file stays
  boxed_none : (b : GlyphBox) → t.head ≡ None → boxed b F ≡ file word (present (rows (boxed_tables b t)))
  unfolding boxed
  boxed_none b e =
      let nowhere = ap (λ (l : List Table). find_record (codes "head") (records_from (12 + 16 * length l) l)) (split t None e) ∙ found_nowhere (12 + 16 * length (before t ++ following t)) (before t ++ following t) (clear_opts (before t) (following t) (clear_before t) (clear_after t)) in
      let same : present (rows (boxed_tables b t)) ≡ ts = split (boxed_tables b t) None (ap (option_map (if_room (box_bytes b))) e) ∙ sym (split t None e) in
      ap (λ (o : Option HeadPlace). option_map_or (λ p. boxed_at p (box_bytes b) F) o F) (placed None nowhere) ∙ ap (file word) (sym same)
    where
      clear_opts : (x y : List Table) → AllByRecursion NoHead x → AllByRecursion NoHead y → AllByRecursion NoHead (x ++ y)
      clear_opts [] y h g = g
      clear_opts (u ∷ x) y h g = (h.0, clear_opts x y h.1 g)

  module _ (b : GlyphBox) (h : List ℕ) (e : t.head ≡ Some h) where
    abbrev head_row : List ℕ → Table
    head_row bytes = record { tag = codes "head"; bytes = bytes }

    abbrev offset_of : ℕ
    offset_of = 12 + 16 * (length (before t) + suc (length (following t))) + length (body (before t))

    tables_are : ts ≡ before t ++ (head_row h ∷ following t)
    tables_are = split t (Some h) e

    there : find_record (codes "head") (records_from (12 + 16 * length ts) ts) ≡ Some (record_at offset_of (head_row h))
    there =
        ap (λ (l : List Table). find_record (codes "head") (records_from (12 + 16 * length l) l)) tables_are
        ∙ ap (λ (n : ℕ). find_record (codes "head") (records_from (12 + 16 * n) (before t ++ (head_row h ∷ following t)))) (length-append (before t) (head_row h ∷ following t))
        ∙ found_after (12 + 16 * (length (before t) + suc (length (following t)))) (before t) (head_row h) (following t) (clear_before t) refl

    abbrev its_place : HeadPlace
    its_place = record { record_at = 12 + 16 * length (before t); offset = offset_of; size = length h }

    place_is : head_place F ≡ Some its_place
    place_is = placed (Some (record_at offset_of (head_row h))) there ∙ ap (λ (n : ℕ). let p : HeadPlace = record { record_at = 12 + 16 * n; offset = offset_of; size = length h } in Some p) counted

    boxed_there : boxed b F ≡ boxed_at its_place (box_bytes b) F
    unfolding boxed
    boxed_there = ap (λ (o : Option HeadPlace). option_map_or (λ p. boxed_at p (box_bytes b) F) o F) place_is

    new_tables_are : present (rows (boxed_tables b t)) ≡ before t ++ (head_row (if_room (box_bytes b) h) ∷ following t)
    new_tables_are = split (boxed_tables b t) (Some (if_room (box_bytes b) h)) (ap (option_map (if_room (box_bytes b))) e)

    -- ---- a short `head` stays

    boxed_short : nat_le 44 (length h) ≡ false → boxed b F ≡ file word (present (rows (boxed_tables b t)))
    boxed_short short =
        let kept : if_room (box_bytes b) h ≡ h = ap (λ x. cond x (with_box (box_bytes b) h) h) short in
        let same : present (rows (boxed_tables b t)) ≡ ts = new_tables_are ∙ ap (λ (l : List ℕ). before t ++ (head_row l ∷ following t)) kept ∙ sym tables_are in
        let out : is_in its_place (length F) ≡ false = ap (λ x. x && (nat_le (offset_of + length h) (length F) && nat_le (12 + 16 * length (before t) + 8) (length F))) short in
        boxed_there ∙ ap (λ x. cond x (settled its_place (summed its_place (blank its_place (box_bytes b) F))) F) out ∙ ap (file word) (sym same)

    -- ---- a whole one

    module _ (large : 44 ≤ length h) where
      abbrev a : List ℕ
      a = take 8 h

      abbrev m : List ℕ
      m = take 24 (drop 12 h)

      abbrev edges : List ℕ
      edges = take 8 (drop 36 h)

      abbrev d : List ℕ
      d = drop 44 h

      la : length a ≡ 8
      la = omega (arith, length-take 8 h)

      lm : length m ≡ 24
      lm = omega (arith, length-take 24 (drop 12 h), length-drop 12 h)

      le : length edges ≡ 8
      le = omega (arith, length-take 8 (drop 36 h), length-drop 36 h)

      past_word : drop 12 h ≡ m ++ (edges ++ d)
      past_word =
          sym (take-append-drop 24 (drop 12 h)) ∙ ap (λ (l : List ℕ). m ++ l) (drop-drop 24 12 h ∙ sym (take-append-drop 8 (drop 36 h)) ∙ ap (λ (l : List ℕ). edges ++ l) (drop-drop 8 36 h))

      in_parts : h ≡ a ++ (zeros ++ (m ++ (edges ++ d)))
      in_parts = sym (room h e).1 ∙ ap (λ (l : List ℕ). a ++ zeros ++ l) past_word ∙ append_assoc a zeros (m ++ (edges ++ d))

      with_new_box : if_room (box_bytes b) h ≡ a ++ (zeros ++ (m ++ (box_bytes b ++ d)))
      with_new_box =
          let all_before : take 36 h ≡ a ++ (zeros ++ m) = ap (take 36) (in_parts ∙ regroup a zeros m (edges ++ d)) ∙ take_at (a ++ (zeros ++ m)) (edges ++ d) 36 (omega (arith, length-append a (zeros ++ m), length-append zeros m, la, lm)) in
          let yes : nat_le 44 (length h) ≡ true = grind (arith, nat_tests) in
          ap (λ x. cond x (with_box (box_bytes b) h) h) yes ∙ ap (λ (l : List ℕ). l ++ box_bytes b ++ d) all_before ∙ regroup_back a zeros m (box_bytes b) d
        where
          regroup : (x y z w : List ℕ) → x ++ (y ++ (z ++ w)) ≡ (x ++ (y ++ z)) ++ w
          regroup x y z w = simp append_assoc

          regroup_back : (x y z w v : List ℕ) → (x ++ (y ++ z)) ++ w ++ v ≡ x ++ (y ++ (z ++ (w ++ v)))
          regroup_back x y z w v = simp append_assoc

      tables_all : AllByRecursion IsTable (before t ++ (head_row h ∷ following t))
      tables_all = subst (λ (l : List Table). AllByRecursion IsTable l) tables_are all

      boxed_large : boxed b F ≡ file word (present (rows (boxed_tables b t)))
      boxed_large =
          let parts = ap (λ (l : List ℕ). before t ++ (head_row l ∷ following t)) in_parts in
          let size : length (a ++ (zeros ++ (m ++ (edges ++ d)))) ≡ length h = ap length (sym in_parts) in
          let padded : length (aligned 4 (a ++ (zeros ++ (m ++ (edges ++ d))))) ≡ length (aligned 4 h) = ap (λ (l : List ℕ). length (aligned 4 l)) (sym in_parts) in
          boxed_there ∙ ap (λ (l : List Table). boxed_at its_place (box_bytes b) (file word l)) (tables_are ∙ parts)
          ∙ boxed_at_is word (before t) (following t) a m d (length h) (length (aligned 4 h)) (clear_before t) (clear_after t) (all-append (before t) (head_row h ∷ following t) tables_all) (all-following (before t) (head_row h ∷ following t) tables_all).1 la edges (box_bytes b) lm le refl large size padded
          ∙ ap (λ (l : List ℕ). file word (before t ++ (head_row l ∷ following t))) (sym with_new_box) ∙ ap (file word) (sym new_tables_are)

      differs : Differ F (boxed b F)
      differs =
          let parts = tables_are ∙ ap (λ (l : List ℕ). before t ++ (head_row l ∷ following t)) in_parts in
          let size : length (a ++ (zeros ++ (m ++ (edges ++ d)))) ≡ length h = ap length (sym in_parts) in
          let padded : length (aligned 4 (a ++ (zeros ++ (m ++ (edges ++ d))))) ≡ length (aligned 4 h) = ap (λ (l : List ℕ). length (aligned 4 l)) (sym in_parts) in
          differing word (before t) (following t) a m d (length h) (length (aligned 4 h)) (clear_before t) (clear_after t) (all-append (before t) (head_row h ∷ following t) tables_all) (all-following (before t) (head_row h ∷ following t) tables_all).1 la edges (box_bytes b) le refl size padded
          F (boxed b F) (ap (file word) parts) (boxed_large ∙ ap (file word) (new_tables_are ∙ ap (λ (l : List ℕ). before t ++ (head_row l ∷ following t)) with_new_box))

  boxed_by_head : (b : GlyphBox) (o : Option (List ℕ)) → t.head ≡ o → boxed b F ≡ file word (present (rows (boxed_tables b t)))
  boxed_by_head b None e = boxed_none b e
  boxed_by_head b (Some h) e = by (nat_le 44 (length h)) refl
    where
      by : (x : Bool) → nat_le 44 (length h) ≡ x → boxed b F ≡ file word (present (rows (boxed_tables b t)))
      by true large = boxed_large b h e (grind (arith, nat_tests))
      by false short = boxed_short b h e short

  pub boxed_is : (b : GlyphBox) → boxed b F ≡ file word (present (rows (boxed_tables b t)))
  boxed_is b = boxed_by_head b t.head refl

  -- ---- the tables with the box can be laid out, and are read as the others

  boxed_room_by : (b : GlyphBox) (o : Option (List ℕ)) → t.head ≡ o → HasRoom (option_map (if_room (box_bytes b)) o)
  boxed_room_by b None e bytes is = absurd cc
  boxed_room_by b (Some h) e bytes is =
      let same : if_room (box_bytes b) h ≡ bytes = just_is (if_room (box_bytes b) h) bytes is in
      subst (λ (l : List ℕ). (12 ≤ length l) × (with_adjustment 0 l ≡ l)) same (by (nat_le 44 (length h)) refl)
    where
      by : (x : Bool) → nat_le 44 (length h) ≡ x → (12 ≤ length (cond x (with_box (box_bytes b) h) h)) × (with_adjustment 0 (cond x (with_box (box_bytes b) h) h) ≡ cond x (with_box (box_bytes b) h) h)
      by false k = room h e
      by true k = (roomy h (box_bytes b) (large (length h) k), zeroed h (box_bytes b) (large (length h) k) (room h e).1)
        where
          large : (n : ℕ) → nat_le 44 n ≡ true → 44 ≤ n
          large n q = grind (arith, nat_tests)

  pub boxed_room : (b : GlyphBox) → HasRoom (boxed_tables b t).head
  boxed_room b = boxed_room_by b t.head refl

  pub boxed_fit : (b : GlyphBox) → fits (start_of (present (rows (boxed_tables b t)))) (present (rows (boxed_tables b t))) ≡ true
  boxed_fit b = by t.head refl
    where
      by : (o : Option (List ℕ)) → t.head ≡ o → fits (start_of (present (rows (boxed_tables b t)))) (present (rows (boxed_tables b t))) ≡ true
      by None e =
          let same : present (rows (boxed_tables b t)) ≡ ts = split (boxed_tables b t) None (ap (option_map (if_room (box_bytes b))) e) ∙ sym (split t None e) in
          ap (λ (l : List Table). fits (start_of l) l) same ∙ fit
      by (Some h) e =
          let new : present (rows (boxed_tables b t)) ≡ before t ++ (record { tag = codes "head"; bytes = if_room (box_bytes b) h } ∷ following t) = split (boxed_tables b t) (Some (if_room (box_bytes b) h)) (ap (option_map (if_room (box_bytes b))) e) in
          let old : before t ++ (record { tag = codes "head"; bytes = h } ∷ following t) ≡ ts = sym (split t (Some h) e) in
          ap (λ (l : List Table). fits (start_of l) l) new ∙ fits_alike (before t) (following t) (if_room (box_bytes b) h) h (size_kept (box_bytes b) h refl) ∙ ap (λ (l : List Table). fits (start_of l) l) old ∙ fit

  -- ---- the tables, read afresh

  same_tables : (b : GlyphBox) → tags (present (rows (boxed_tables b t))) ≡ tags ts
  same_tables b = same_tags (boxed_tables b t) t (alike b)
    where
      some_map : {X Y : Type 0} (g : X → Y) (o : Option X) → is_some (option_map g o) ≡ is_some o
      some_map g None = refl
      some_map g (Some x) = refl

      alike : (b : GlyphBox) → AreAlike (boxed_tables b t) t
      alike b = record { cff = refl; cvt = refl; fpgm = refl; glyf = refl; head = some_map (if_room (box_bytes b)) t.head; hhea = refl; hmtx = refl; loca = refl; maxp = refl; name = refl; post = refl; prep = refl }

  sound_box : (b : GlyphBox) → 0 < length ts → IsSoundContainer (file word (present (rows (boxed_tables b t)))) word (tags ts)
  sound_box b some =
      let n : length (present (rows (boxed_tables b t))) ≡ length ts = sym (length-map (present (rows (boxed_tables b t))) (λ (x : Table). x.tag)) ∙ ap length (same_tables b) ∙ length-map ts (λ (x : Table). x.tag) in
      subst (λ (l : List (List ℕ)). IsSoundContainer (file word (present (rows (boxed_tables b t)))) word l) (same_tables b)
      (sound word (present (rows (boxed_tables b t))) (is_kind kind) (omega (arith, n, some)) (rows_few (boxed_tables b t)) (rows_tables (boxed_tables b t) (boxed_room b)) (boxed_fit b) (present_ascends 0 (rows (boxed_tables b t)) (rows_ascend (boxed_tables b t))))

  -- a table but `head` stays
  pub other_stays : (b : GlyphBox) (tag : List ℕ) → bytes_eq tag (codes "head") ≡ false → bytes_of tag (rows (boxed_tables b t)) ≡ bytes_of tag (rows t) → table (as_font (boxed b F)) tag ≡ table (as_font F) tag
  other_stays b tag other same =
      ap (λ (l : List ℕ). table (as_font l) tag) (boxed_is b) ∙ row_back kind (boxed_tables b t) (boxed_room b) (boxed_fit b) tag other ∙ same ∙ sym (row_back kind t room fit tag other)

  units_after : (w : ℕ) (h : List ℕ) → 12 ≤ length h → units_per_em (with_adjustment w h) ≡ number (drop 12 h) 6 2
  units_after w h large =
      let front : List ℕ = take 8 h ++ to_be_bytes w32 w in
      let at : 18 ≡ length front + 6 = omega (arith, length-append (take 8 h) (to_be_bytes w32 w), length-take 8 h) in
      ap (λ (n : ℕ). number (front ++ drop 12 h) n 2) at ∙ ap (option_map be) (range-right front (drop 12 h) 6 2)

  -- and unitsPerEm of `head` too
  pub units_stay : (b : GlyphBox) → option_map units_per_em (table (as_font (boxed b F)) (codes "head")) ≡ option_map units_per_em (table (as_font F) (codes "head"))
  units_stay b =
      ap (λ (l : List ℕ). option_map units_per_em (table (as_font l) (codes "head"))) (boxed_is b)
      ∙ ap (option_map units_per_em) (head_row_back kind (boxed_tables b t) (boxed_room b) (boxed_fit b))
      ∙ by t.head refl
      ∙ sym (ap (option_map units_per_em) (head_row_back kind t room fit))
    where
      new_word : ℕ
      new_word = word_of word (present (rows (boxed_tables b t)))

      old_word : ℕ
      old_word = word_of word ts

      within_box : (h : List ℕ) → 44 ≤ length h → number (drop 12 (with_box (box_bytes b) h)) 6 2 ≡ number (drop 12 h) 6 2
      within_box h large =
          let m = take 24 (drop 12 h) in
          let lm : length m ≡ 24 = omega (arith, length-take 24 (drop 12 h), length-drop 12 h) in
          let there : range m 6 2 ≡ Some (take 2 (drop 6 m)) = range-take_drop m 6 2 (omega (arith, lm)) in
          let new = ap (λ (l : List ℕ). number l 6 2) (after_word_with h (box_bytes b) large) ∙ ap (option_map be) (range-left m (box_bytes b ++ drop 44 h) (take 2 (drop 6 m)) 6 2 there) in
          let old = ap (λ (l : List ℕ). number l 6 2) (sym (take-append-drop 24 (drop 12 h))) ∙ ap (option_map be) (range-left m (drop 24 (drop 12 h)) (take 2 (drop 6 m)) 6 2 there) in
          new ∙ sym old

      of_head : (h : List ℕ) → t.head ≡ Some h → (x : Bool) → nat_le 44 (length h) ≡ x → number (drop 12 (cond x (with_box (box_bytes b) h) h)) 6 2 ≡ number (drop 12 h) 6 2
      of_head h e true k = within_box h (is_large (length h) k)
        where
          is_large : (n : ℕ) → nat_le 44 n ≡ true → 44 ≤ n
          is_large n q = grind (arith, nat_tests)
      of_head h e false k = refl

      by : (o : Option (List ℕ)) → t.head ≡ o → option_map units_per_em (option_map (with_adjustment new_word) (option_map (if_room (box_bytes b)) o)) ≡ option_map units_per_em (option_map (with_adjustment old_word) o)
      by None e = refl
      by (Some h) e =
          let big : 12 ≤ length h = (room h e).0 in
          let new_big : 12 ≤ length (if_room (box_bytes b) h) = (boxed_room b (if_room (box_bytes b) h) (ap (option_map (if_room (box_bytes b))) e)).0 in
          ap Some (units_after new_word (if_room (box_bytes b) h) new_big ∙ of_head h e (nat_le 44 (length h)) refl ∙ sym (units_after old_word h big))

  -- ---- which bytes differ

  differ_by : (b : GlyphBox) (o : Option (List ℕ)) → t.head ≡ o → (F ≡ boxed b F) ⊎ Differ F (boxed b F)
  differ_by b None e =
      let same : present (rows (boxed_tables b t)) ≡ ts = split (boxed_tables b t) None (ap (option_map (if_room (box_bytes b))) e) ∙ sym (split t None e) in
      inl (sym (boxed_is b ∙ ap (file word) same))
  differ_by b (Some h) e = by (nat_le 44 (length h)) refl
    where
      by : (x : Bool) → nat_le 44 (length h) ≡ x → (F ≡ boxed b F) ⊎ Differ F (boxed b F)
      by false short =
          let kept : if_room (box_bytes b) h ≡ h = ap (λ x. cond x (with_box (box_bytes b) h) h) short in
          let same : present (rows (boxed_tables b t)) ≡ ts = new_tables_are b h e ∙ ap (λ (l : List ℕ). before t ++ (record { tag = codes "head"; bytes = l } ∷ following t)) kept ∙ sym (tables_are b h e) in
          inl (sym (boxed_is b ∙ ap (file word) same))
      by true k = inr (differs b h e (grind (arith, nat_tests)))

  pub is_boxed : (b : GlyphBox) → 0 < length ts → IsBoxed b F (boxed b F)
  is_boxed b some = record {
    kind = kind;
    tables = t;
    old_is = refl;
    new_is = boxed_is b;
    sound = subst (λ (l : List ℕ). IsSoundContainer l word (tags ts)) (sym (boxed_is b)) (sound_box b some);
    differ = differ_by b t.head refl;
  }
