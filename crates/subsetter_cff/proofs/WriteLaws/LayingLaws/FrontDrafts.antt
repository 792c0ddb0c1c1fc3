-- A front by its draft.
use Rattle.std.proofs.Common.{◌≡◌, ℕ, zero, suc, ◌+◌, ◌*◌, List, [], ◌∷◌, ◌++◌, length, refl, ap, subst, arith, ◌∙◌, sym, append_assoc, length-append}
use Rattle.std.specs.Prelude.{Result, Ok, Err, OnOk}
use Rattle.std.specs.Int.{bytes_high_first}
use Rattle.std.proofs.lemmas.List.{append-nil}
use Rattle.std.proofs.lemmas.List.Concat.{flat_map-append}
use Rattle.subsetter_cffdata.specs.Dicts.Dict.{NewEntry, entry_bytes, dict}
use Rattle.subsetter_cffdata.specs.Indexes.Index.{index, header as index_header, offset_size}
use Rattle.subsetter_cff.specs.declared.write.laying.table.TableParts.{TableParts}
use Rattle.subsetter_cff.specs.Write.Glyphs.FlatIndex.{single_header}
use Rattle.subsetter_cff.specs.Write.Laying.FrontDraft.{named_entries, named_bytes, tail_by, front_of_draft}
use Rattle.subsetter_cff.specs.Write.Laying.Layout.{Offsets, TopDict, nowhere, header, registry_entry, number_entries, placed_entries, top_entries_by}
use Rattle.subsetter_cffdata.specs.Dicts.Plain.{plain_entry}
use Rattle.subsetter_cff.specs.Read.Entries.Operators.{copyright_operator, notice_operator, font_name_operator, font_matrix_operator, font_box_operator}
use Rattle.subsetter_cff.specs.Write.Laying.PartsView.{front_by, top_by}
use Rattle.subsetter_cff.specs.Write.Laying.TableBy.{front_size}
use Rattle.subsetter_cff.specs.Write.Laying.TableLimits.{limit, is_offset, has_index, numbers_limits, front_limits}
use Rattle.subsetter_base.specs.Gives.{Fails}
use Rattle.subsetter_base.specs.declared.error.Error.{Error}
use Rattle.subsetter_cff.proofs.WriteLaws.LayingLaws.Places.{length-placed}

-- ---- the entries of a top dict
regroup : (r m b : NewEntry) (x y z p : List NewEntry) → r ∷ (x ++ (y ++ (z ++ (m ∷ b ∷ p)))) ≡ (r ∷ (x ++ (y ++ (z ++ (m ∷ b ∷ []))))) ++ p
regroup r m b x y z p = simp append_assoc

entries_split : (t : TopDict) (o : Offsets) → top_entries_by t o ≡ named_entries t ++ placed_entries o
unfolding top_entries_by
entries_split t o =
    regroup registry_entry (plain_entry font_matrix_operator t.matrix) (plain_entry font_box_operator t.box) (number_entries copyright_operator t.copyright) (number_entries notice_operator t.notice) (number_entries font_name_operator t.font_name) (placed_entries o)

pub top_split : (t : TopDict) (o : Offsets) → dict (top_entries_by t o) ≡ named_bytes t ++ dict (placed_entries o)
unfolding named_bytes
top_split t o = ap dict (entries_split t o) ∙ flat_map-append entry_bytes (named_entries t) (placed_entries o)

pub front_split : (texts : List (List ℕ)) (t : TableParts) (o : Offsets) → front_by texts t o ≡ front_of_draft t.names.now (named_bytes (top_by texts t)) (tail_by texts) o
unfolding front_by
front_split texts t o = ap (λ (l : List ℕ). header ++ (t.names.now ++ (index (l ∷ []) ++ tail_by texts))) (top_split (top_by texts t) o)

-- ---- an INDEX of one item
-- of data of `total` bytes, with this last offset
abbrev single_by : ℕ → ℕ → List ℕ
single_by total end = 0 ∷ 1 ∷ offset_size (total + 1) ∷ (bytes_high_first (offset_size (total + 1)) 1 ++ bytes_high_first (offset_size (total + 1)) end)

by_parts : (x : List ℕ) → index_header (x ∷ []) ≡ single_by (length (x ++ [])) (1 + length x)
unfolding index_header
by_parts x =
    let width = offset_size (length (x ++ []) + 1) in
    ap (λ (l : List ℕ). 0 ∷ 1 ∷ width ∷ (bytes_high_first width 1 ++ l)) (append-nil (bytes_high_first width (1 + length x)))

header_is : (x : List ℕ) → index_header (x ∷ []) ≡ single_header (length x)
unfolding single_header
header_is x =
    let last : 1 + length x ≡ length x + 1 = omega arith in
    by_parts x ∙ ap (λ (n : ℕ). single_by n (1 + length x)) (ap length (append-nil x)) ∙ ap (single_by (length x)) last

single_is : (x : List ℕ) → index (x ∷ []) ≡ single_header (length x) ++ x
unfolding index
single_is x = ap (λ (l : List ℕ). index_header (x ∷ []) ++ l) (append-nil x) ∙ ap (λ (l : List ℕ). l ++ x) (header_is x)

single_written : (old named placed a b w : List ℕ) (n : ℕ) → n ≡ length named + 33 → length placed ≡ 33 → a ≡ old ++ single_header n → b ≡ a ++ named → w ≡ b ++ placed
    → w ≡ old ++ index ((named ++ placed) ∷ [])
single_written old named placed a b w n e f g h i =
    let size : n ≡ length (named ++ placed) = omega (arith, e, f, length-append named placed) in
    i ∙ rw (h, g, size, single_is (named ++ placed)) (simp append_assoc)

pub top_written : {A E : Type 0} (r : Result A E) (old named : List ℕ) (o : Offsets) (a b w : List ℕ) (n : ℕ) → n ≡ length named + 33 → a ≡ old ++ single_header n → b ≡ a ++ named
    → OnOk r (w ≡ b ++ dict (placed_entries o)) → OnOk r (w ≡ old ++ index ((named ++ dict (placed_entries o)) ∷ []))
top_written (Err f) old named o a b w n e g h i = tt
top_written (Ok x) old named o a b w n e g h i = single_written old named (dict (placed_entries o)) a b w n e (length-placed o) g h i

-- ---- the size of a front
length-high_first : (width n : ℕ) → length (bytes_high_first width n) ≡ width
length-high_first zero n = refl
length-high_first (suc width) n = ap suc (length-high_first width n)

length-single : (n : ℕ) → length (single_header n) ≡ 3 + 2 * offset_size (n + 1)
unfolding single_header
length-single n =
    let width = offset_size (n + 1) in
    omega (arith, length-append (bytes_high_first width 1) (bytes_high_first width (n + 1)), length-high_first width 1, length-high_first width (n + 1))

single_size : (x : List ℕ) → length (index (x ∷ [])) ≡ 3 + 2 * offset_size (length x + 1) + length x
single_size x = ap length (single_is x) ∙ omega (arith, length-append (single_header (length x)) x, length-single (length x))

pub front_size_is : (texts : List (List ℕ)) (t : TableParts) (named tail : List ℕ) (top : ℕ) → named ≡ named_bytes (top_by texts t) → tail ≡ tail_by texts → top ≡ length named + 33
    → 4 + (length t.names.now + ((3 + 2 * offset_size (top + 1) + top) + length tail)) ≡ front_size texts t
front_size_is texts t named tail top a b c =
    let x = named_bytes (top_by texts t) ++ dict (placed_entries nowhere) in
    let whole = ap length (front_split texts t nowhere) in
    let long : length x ≡ top = omega (arith, length-append (named_bytes (top_by texts t)) (dict (placed_entries nowhere)), length-placed nowhere, ap length a, c) in
    let size : length (index (x ∷ [])) ≡ 3 + 2 * offset_size (top + 1) + top = single_size x ∙ ap (λ (n : ℕ). 3 + 2 * offset_size (n + 1) + n) long in
    omega (arith, whole, size, ap length b, length-append t.names.now (index (x ∷ []) ++ tail_by texts), length-append (index (x ∷ [])) (tail_by texts))

-- ---- its limits
abbrev none : Result (Unit {0}) Error
none = Ok tt

top_kept : (texts : List (List ℕ)) (t : TableParts) (top : ℕ) → top ≡ length (named_bytes (top_by texts t)) + 33 → limit (is_offset top) ≡ none → limit (is_offset (length (named_bytes (top_by texts t)) + 33)) ≡ none
top_kept texts t top e h = ap (λ (n : ℕ). limit (is_offset n)) (sym e) ∙ h

pub limits_hold : (texts : List (List ℕ)) (t : TableParts) (top size : ℕ) → top ≡ length (named_bytes (top_by texts t)) + 33 → size ≡ front_size texts t
    → numbers_limits (top_by texts t).matrix (top_by texts t).box ≡ none → limit (is_offset top) ≡ none → limit (has_index texts) ≡ none → limit (is_offset size) ≡ none → front_limits texts t ≡ none
unfolding front_limits
limits_hold texts t top size e f a b c d = rw (a, top_kept texts t top e b, c) (ap (λ (n : ℕ). limit (is_offset n)) (sym f) ∙ d)

pub limits_break : (texts : List (List ℕ)) (t : TableParts) (error : Error) (top size : ℕ) → top ≡ length (named_bytes (top_by texts t)) + 33 → size ≡ front_size texts t
    → numbers_limits (top_by texts t).matrix (top_by texts t).box ≡ none → limit (is_offset top) ≡ none → limit (has_index texts) ≡ none → Fails error (limit (is_offset size)) → Fails error (front_limits texts t)
unfolding front_limits
limits_break texts t error top size e f a b c d = rw (a, top_kept texts t top e b, c) (subst (λ (n : ℕ). Fails error (limit (is_offset n))) f d)
