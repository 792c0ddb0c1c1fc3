-- `head` of an instance, read afresh.
use Rattle.std.proofs.Common.{◌≡◌, ℕ, ◌+◌, ◌≤◌, Bool, true, false, eqb, List, [], ◌∷◌, ◌++◌, length, take, drop, Option, Some, None, refl, sym, ap, ◌∙◌, append_assoc, arith}
use Rattle.std.specs.Prelude.{slice_range, not}
use Rattle.std.specs.Int.{w32, to_be_bytes}
use Rattle.std.proofs.lemmas.List.{take_at, drop_at, length-append, length-take, length-drop}
use Rattle.subsetter_base.specs.Bytes.{be, number}
use Rattle.subsetter_base.proofs.ByteLemmas.{number_at}
use Rattle.subsetter_sfnt.specs.Fields.Head.{format_bytes}
use Rattle.subsetter_sfnt.specs.Laying.Written.{with_adjustment}
use Rattle.subsetter_instance.specs.declared.tables.extremes.Extents.{Extents}
use Rattle.subsetter_instance.specs.Glyphs.Drawn.{Drawn}
use Rattle.subsetter_instance.specs.Tables.Extremes.{all_extents, box_bytes}
use Rattle.subsetter_instance.specs.Tables.Written.{head_bytes}

-- what is between checksumAdjustment and indexToLocFormat
abbrev pub middle_bytes : List Drawn → List ℕ → List ℕ
middle_bytes ds head = slice_range head 12 36 ++ box_bytes (all_extents ds) ++ slice_range head 44 50

pub eight_bytes : (e : Option Extents) → length (box_bytes e) ≡ 8
eight_bytes None = refl
eight_bytes (Some e) = refl

-- a part of n bytes from an offset on
pub slice_at : (l pre part post : List ℕ) (from n : ℕ) → l ≡ pre ++ (part ++ post) → length pre ≡ from → length part ≡ n → take n (drop from l) ≡ part
slice_at l pre part post from n is a b = ap (λ (x : List ℕ). take n (drop from x)) is ∙ ap (take n) (drop_at pre (part ++ post) from a) ∙ take_at part post n b

module _ (w : ℕ) (long : Bool) (ds : List Drawn) (head : List ℕ) (le : 52 ≤ length head) where
  abbrev front : List ℕ
  front = take 8 head

  abbrev word : List ℕ
  word = to_be_bytes w32 w

  abbrev first : List ℕ
  first = slice_range head 12 36

  abbrev box : List ℕ
  box = box_bytes (all_extents ds)

  abbrev style : List ℕ
  style = slice_range head 44 50

  abbrev middle : List ℕ
  middle = middle_bytes ds head

  abbrev end : List ℕ
  end = drop 52 head

  length-front : length front ≡ 8
  length-front = omega (arith, length-take 8 head)

  length-first : length first ≡ 24
  length-first = omega (arith, length-take 24 (drop 12 head), length-drop 12 head)

  length-style : length style ≡ 6
  length-style = omega (arith, length-take 6 (drop 44 head), length-drop 44 head)

  length-middle : length middle ≡ 38
  length-middle = omega (arith, length-append (first ++ box) style, length-append first box, length-first, eight_bytes (all_extents ds), length-style)

  replaced : (A Z M F E W : List ℕ) → length A ≡ 8 → length Z ≡ 4 → take 8 (A ++ Z ++ M ++ F ++ E) ++ W ++ drop 12 (A ++ Z ++ M ++ F ++ E) ≡ A ++ W ++ (M ++ (F ++ E))
  replaced A Z M F E W la lz =
      let whole : A ++ Z ++ M ++ F ++ E ≡ A ++ (Z ++ (M ++ (F ++ E))) = simp append_assoc in
      let first : take 8 (A ++ Z ++ M ++ F ++ E) ≡ A = ap (take 8) whole ∙ take_at A _ 8 la in
      let back : drop 12 (A ++ Z ++ M ++ F ++ E) ≡ M ++ (F ++ E) = ap (drop 12) (whole ∙ sym (append_assoc A Z _)) ∙ drop_at (A ++ Z) _ 12 (omega (arith, length-append A Z)) in
      ap (λ (l : List ℕ). l ++ W ++ drop 12 (A ++ Z ++ M ++ F ++ E)) first ∙ ap (λ (l : List ℕ). A ++ W ++ l) back

  abbrev copy : List ℕ
  copy = with_adjustment w (head_bytes long ds head)

  pub head_is : with_adjustment w (head_bytes long ds head) ≡ front ++ word ++ (middle ++ (format_bytes long ++ end))
  head_is = replaced front (0 ∷ 0 ∷ 0 ∷ 0 ∷ []) middle (format_bytes long) end word length-front refl

  length-end : length end + 52 ≡ length head
  length-end = omega (arith, length-drop 52 head)

  two_bytes : (b : Bool) → length (format_bytes b) ≡ 2
  two_bytes true = refl
  two_bytes false = refl

  pub head_length : length (with_adjustment w (head_bytes long ds head)) ≡ length head
  head_length = omega (arith, ap length head_is, length-append (front ++ word) (middle ++ (format_bytes long ++ end)), length-append front word, length-append middle (format_bytes long ++ end), length-append (format_bytes long) end, length-front, length-middle, length-end, two_bytes long)

  pub head_front : take 8 (with_adjustment w (head_bytes long ds head)) ≡ take 8 head
  head_front = ap (take 8) (head_is ∙ append_assoc front word (middle ++ (format_bytes long ++ end))) ∙ take_at front (word ++ (middle ++ (format_bytes long ++ end))) 8 length-front

  abbrev last : List ℕ
  last = format_bytes long ++ end

  in_parts : with_adjustment w (head_bytes long ds head) ≡ front ++ word ++ (first ++ (box ++ (style ++ last)))
  in_parts = head_is ∙ ap (λ (l : List ℕ). front ++ word ++ l) (append_assoc (first ++ box) style last ∙ append_assoc first box (style ++ last))

  pub head_middle : slice_range (with_adjustment w (head_bytes long ds head)) 12 36 ≡ slice_range head 12 36
  head_middle = slice_at _ (front ++ word) first (box ++ (style ++ last)) 12 24 in_parts (omega (arith, length-append front word, length-front)) length-first

  pub head_box : slice_range (with_adjustment w (head_bytes long ds head)) 36 44 ≡ box_bytes (all_extents ds)
  head_box = slice_at _ (front ++ word ++ first) box (style ++ last) 36 8 (in_parts ∙ sym (append_assoc (front ++ word) first (box ++ (style ++ last)))) (omega (arith, length-append (front ++ word) first, length-append front word, length-front, length-first)) (eight_bytes (all_extents ds))

  pub head_style : slice_range (with_adjustment w (head_bytes long ds head)) 44 50 ≡ slice_range head 44 50
  head_style =
      slice_at _ (front ++ word ++ first ++ box) style last 44 6 (in_parts ∙ sym (append_assoc (front ++ word) first (box ++ (style ++ last))) ∙ sym (append_assoc (front ++ word ++ first) box (style ++ last)))
      (omega (arith, length-append (front ++ word ++ first) box, length-append (front ++ word) first, length-append front word, length-front, length-first, eight_bytes (all_extents ds))) length-style

  regrouped : with_adjustment w (head_bytes long ds head) ≡ (front ++ word ++ middle) ++ (format_bytes long ++ end)
  regrouped = head_is ∙ sym (append_assoc (front ++ word) middle (format_bytes long ++ end))

  length-before : length (front ++ word ++ middle) ≡ 50
  length-before = omega (arith, length-append (front ++ word) middle, length-append front word, length-front, length-middle)

  pub head_end : drop 52 (with_adjustment w (head_bytes long ds head)) ≡ drop 52 head
  head_end = ap (drop 52) (regrouped ∙ sym (append_assoc (front ++ word ++ middle) (format_bytes long) end)) ∙ drop_at ((front ++ word ++ middle) ++ format_bytes long) end 52 (omega (arith, length-append (front ++ word ++ middle) (format_bytes long), length-before, two_bytes long))

  pub head_format : number (with_adjustment w (head_bytes long ds head)) 50 2 ≡ Some (be (format_bytes long))
  head_format = number_at (with_adjustment w (head_bytes long ds head)) (front ++ word ++ middle) (format_bytes long) end 50 2 (be (format_bytes long)) regrouped (sym length-before) (sym (two_bytes long)) refl

-- long where the format isn't 0
pub format_back : (long : Bool) → not (eqb (be (format_bytes long)) 0) ≡ long
format_back true = refl
format_back false = refl

-- four parts after one, grouped
regroup : (A Z M F E : List ℕ) → A ++ Z ++ (M ++ (F ++ E)) ≡ A ++ Z ++ M ++ F ++ E
regroup A Z M F E = simp append_assoc

-- a new head has zeros for the adjustment
pub head_zeros : (long : Bool) (ds : List Drawn) (head : List ℕ) → 52 ≤ length head → with_adjustment 0 (head_bytes long ds head) ≡ head_bytes long ds head
head_zeros long ds head le = head_is 0 long ds head le ∙ regroup (take 8 head) (0 ∷ 0 ∷ 0 ∷ 0 ∷ []) (middle_bytes ds head) (format_bytes long) (drop 52 head)

-- and room for it
pub head_room : (long : Bool) (ds : List Drawn) (head : List ℕ) → 52 ≤ length head → 12 ≤ length (head_bytes long ds head)
head_room long ds head le = omega (arith, ap length (head_zeros long ds head le), head_length 0 long ds head le)
