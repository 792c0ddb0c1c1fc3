-- `head` with another box and checksumAdjustment, read afresh.
use Rattle.std.proofs.Common.{◌≡◌, ℕ, ◌+◌, ◌≤◌, List, [], ◌∷◌, ◌++◌, length, take, drop, Option, Some, ℤ, refl, sym, ap, subst, ◌∙◌, append_assoc, arith}
use Rattle.std.specs.Prelude.{slice_range}
use Rattle.std.specs.Int.{w16, w32, to_be_bytes, cast_signed}
use Rattle.std.specs.Option.{option_map}
use Rattle.std.proofs.lemmas.List.{take_at, drop_at, length-append, length-take, length-take-le, length-drop, take-append-drop}
use Rattle.subsetter_base.specs.Bytes.{be, range}
use Rattle.subsetter_base.proofs.ByteLemmas.{range-drop, range-left, range-right, range-take_drop}
use Rattle.subsetter_base.proofs.Options.{just_is}
use Rattle.subsetter_sfnt.specs.Fields.Head.{units_per_em, y_max}
use Rattle.subsetter_sfnt.specs.Laying.Written.{with_adjustment}
use Rattle.subsetter_sfnt.proofs.Laws.LayingLaws.Rows.{HasRoom}
use Rattle.subsetter_instance.specs.declared.tables.extremes.Extents.{Extents}
use Rattle.subsetter_instance.specs.Tables.Extremes.{box_bytes}
use Rattle.subsetter_instance.proofs.FileLaws.Head.{eight_bytes, slice_at}
use Rattle.subsetter_cff_instance.specs.Tables.{head_bytes}

-- with other bytes between two parts
replaced : (A Z M W : List ℕ) → length A ≡ 8 → length Z ≡ 4 → take 8 (A ++ Z ++ M) ++ W ++ drop 12 (A ++ Z ++ M) ≡ A ++ W ++ M
replaced A Z M W la lz =
    let first : take 8 (A ++ Z ++ M) ≡ A = ap (take 8) (append_assoc A Z M) ∙ take_at A (Z ++ M) 8 la in
    let back : drop 12 (A ++ Z ++ M) ≡ M = drop_at (A ++ Z) M 12 (omega (arith, length-append A Z, la, lz)) in
    ap (λ (l : List ℕ). l ++ W ++ drop 12 (A ++ Z ++ M)) first ∙ ap (λ (l : List ℕ). A ++ W ++ l) back

-- bytes that are written in turn
pub five_written : (w a b c d e last w1 w2 w3 w4 w5 : List ℕ) → w ≡ [] → w1 ≡ w ++ a → w2 ≡ w1 ++ b → w3 ≡ w2 ++ c → w4 ≡ w3 ++ d → w5 ≡ w4 ++ last → last ≡ e → w5 ≡ a ++ b ++ (c ++ d ++ e)
five_written w a b c d e last w1 w2 w3 w4 w5 h0 h1 h2 h3 h4 h5 h6 = rw (h5, h6, h4, h3, h2, h1, h0) (simp append_assoc)

module _ (w : ℕ) (e : Option Extents) (head : List ℕ) (le : 44 ≤ length head) where
  abbrev front : List ℕ
  front = take 8 head

  abbrev word : List ℕ
  word = to_be_bytes w32 w

  abbrev first : List ℕ
  first = slice_range head 12 36

  abbrev box : List ℕ
  box = box_bytes e

  abbrev end : List ℕ
  end = drop 44 head

  length-front : length front ≡ 8
  length-front = length-take-le 8 head (omega (arith, le))

  length-first : length first ≡ 24
  length-first = omega (arith, length-take 24 (drop 12 head), length-drop 12 head, le)

  pub head_is : with_adjustment w (head_bytes e head) ≡ front ++ word ++ (first ++ box ++ end)
  head_is = replaced front (0 ∷ 0 ∷ 0 ∷ 0 ∷ []) (first ++ box ++ end) word length-front refl

  pub head_length : length (with_adjustment w (head_bytes e head)) ≡ length head
  head_length =
      omega (arith, ap length head_is, length-append (front ++ word) (first ++ box ++ end), length-append front word, length-append (first ++ box) end, length-append first box, length-front, length-first, eight_bytes e, length-drop 44 head, le)

  pub head_front : take 8 (with_adjustment w (head_bytes e head)) ≡ take 8 head
  head_front = ap (take 8) (head_is ∙ append_assoc front word (first ++ box ++ end)) ∙ take_at front (word ++ (first ++ box ++ end)) 8 length-front

  in_parts : with_adjustment w (head_bytes e head) ≡ front ++ word ++ (first ++ (box ++ end))
  in_parts = head_is ∙ ap (λ (l : List ℕ). front ++ word ++ l) (append_assoc first box end)

  length-before : length (front ++ word) ≡ 12
  length-before = omega (arith, length-append front word, length-front)

  pub head_middle : slice_range (with_adjustment w (head_bytes e head)) 12 36 ≡ slice_range head 12 36
  head_middle = slice_at _ (front ++ word) first (box ++ end) 12 24 in_parts length-before length-first

  to_box : with_adjustment w (head_bytes e head) ≡ (front ++ word ++ first) ++ (box ++ end)
  to_box = in_parts ∙ sym (append_assoc (front ++ word) first (box ++ end))

  length-to_box : length (front ++ word ++ first) ≡ 36
  length-to_box = omega (arith, length-append (front ++ word) first, length-before, length-first)

  pub head_box : slice_range (with_adjustment w (head_bytes e head)) 36 44 ≡ box_bytes e
  head_box = slice_at _ (front ++ word ++ first) box end 36 8 to_box length-to_box (eight_bytes e)

  pub head_end : drop 44 (with_adjustment w (head_bytes e head)) ≡ drop 44 head
  head_end =
      ap (drop 44) (to_box ∙ sym (append_assoc (front ++ word ++ first) box end)) ∙ drop_at ((front ++ word ++ first) ++ box) end 44 (omega (arith, length-append (front ++ word ++ first) box, length-to_box, eight_bytes e))

  pub head_units : units_per_em (with_adjustment w (head_bytes e head)) ≡ units_per_em head
  head_units =
      let part = take 2 (drop 6 first) in
      let here : range first 6 2 ≡ Some part = range-take_drop first 6 2 (omega (arith, length-first)) in
      let place : 18 ≡ length (front ++ word) + 6 = omega (arith, length-before) in
      let new : range (with_adjustment w (head_bytes e head)) 18 2 ≡ Some part =
      ap (λ (l : List ℕ). range l 18 2) in_parts ∙ ap (λ (n : ℕ). range (front ++ word ++ (first ++ (box ++ end))) n 2) place ∙ range-right (front ++ word) (first ++ (box ++ end)) 6 2 ∙ range-left first (box ++ end) part 6 2 here in
      let old : range head 18 2 ≡ Some part =
      sym (range-drop head 12 6 2 (omega (arith, le))) ∙ ap (λ (l : List ℕ). range l 6 2) (sym (take-append-drop 24 (drop 12 head))) ∙ range-left first (drop 24 (drop 12 head)) part 6 2 here in
      ap (option_map be) (new ∙ sym old)

-- the end of the box can be read
pub top_there : (head : List ℕ) → 44 ≤ length head → (top : ℤ) × (y_max (Some head) ≡ Some top)
top_there head le = (cast_signed w16 (be (take 2 (drop 42 head))), ap (λ (r : Option (List ℕ)). option_map (cast_signed w16) (option_map be r)) (range-take_drop head 42 2 (omega (arith, le))))

-- a new head has room for the adjustment, and zeros there
pub has_room : (e : Option Extents) (head : List ℕ) → 44 ≤ length head → HasRoom (Some (head_bytes e head))
has_room e head le bytes is =
    let zeros : with_adjustment 0 (head_bytes e head) ≡ head_bytes e head = head_is 0 e head le in
    subst (λ b. (12 ≤ length b) × (with_adjustment 0 b ≡ b)) (just_is (head_bytes e head) bytes is) (omega (arith, ap length zeros, head_length 0 e head le, le), zeros)
