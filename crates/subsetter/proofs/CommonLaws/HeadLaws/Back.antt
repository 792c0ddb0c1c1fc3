-- `head` of a subset, read afresh.
use Rattle.std.proofs.Common.{◌≡◌, ℕ, ◌+◌, ◌≤◌, Bool, true, false, eqb, List, [], ◌∷◌, ◌++◌, length, take, drop, Option, Some, refl, sym, ap, ◌∙◌, append_assoc, arith}
use Rattle.std.specs.Prelude.{codes, slice_range, not}
use Rattle.std.specs.Int.{w32, to_be_bytes}
use Rattle.std.proofs.lemmas.List.{take_at, drop_at, length-append, length-take, length-drop}
use Rattle.subsetter_base.specs.Bytes.{be, number}
use Rattle.subsetter_base.proofs.ByteLemmas.{number_at}
use Rattle.subsetter.specs.Glyf.Read.{outlines_in}
use Rattle.subsetter_sfnt.specs.Fields.Head.{format_bytes}
use Rattle.subsetter_sfnt.specs.Laying.Written.{with_adjustment}
use Rattle.subsetter_sfnt.proofs.Laws.FieldsLaws.HeadLaws.{own_head}
use Rattle.subsetter.specs.Common.Head.Written.{head_bytes}

module _ (w : ℕ) (long : Bool) (head : List ℕ) (le : 52 ≤ length head) where
  abbrev front : List ℕ
  front = take 8 head

  abbrev word : List ℕ
  word = to_be_bytes w32 w

  abbrev middle : List ℕ
  middle = slice_range head 12 50

  abbrev end : List ℕ
  end = drop 52 head

  length-front : length front ≡ 8
  length-front = omega (arith, length-take 8 head)

  length-middle : length middle ≡ 38
  length-middle = omega (arith, length-take 38 (drop 12 head), length-drop 12 head)

  replaced : (A Z M F E W : List ℕ) → length A ≡ 8 → length Z ≡ 4 → take 8 (A ++ Z ++ M ++ F ++ E) ++ W ++ drop 12 (A ++ Z ++ M ++ F ++ E) ≡ A ++ W ++ (M ++ (F ++ E))
  replaced A Z M F E W la lz =
      let whole : A ++ Z ++ M ++ F ++ E ≡ A ++ (Z ++ (M ++ (F ++ E))) = simp append_assoc in
      let first : take 8 (A ++ Z ++ M ++ F ++ E) ≡ A = ap (take 8) whole ∙ take_at A _ 8 la in
      let back : drop 12 (A ++ Z ++ M ++ F ++ E) ≡ M ++ (F ++ E) = ap (drop 12) (whole ∙ sym (append_assoc A Z _)) ∙ drop_at (A ++ Z) _ 12 (omega (arith, length-append A Z)) in
      ap (λ (l : List ℕ). l ++ W ++ drop 12 (A ++ Z ++ M ++ F ++ E)) first ∙ ap (λ (l : List ℕ). A ++ W ++ l) back

  abbrev copy : List ℕ
  copy = with_adjustment w (head_bytes long head)

  pub head_is : with_adjustment w (head_bytes long head) ≡ front ++ word ++ (middle ++ (format_bytes long ++ end))
  head_is = ap (with_adjustment w) (own_head long head) ∙ replaced front (0 ∷ 0 ∷ 0 ∷ 0 ∷ []) middle (format_bytes long) end word length-front refl

  length-end : length end + 52 ≡ length head
  length-end = omega (arith, length-drop 52 head)

  two_bytes : (b : Bool) → length (format_bytes b) ≡ 2
  two_bytes true = refl
  two_bytes false = refl

  pub head_length : length (with_adjustment w (head_bytes long head)) ≡ length head
  head_length = omega (arith, ap length head_is, length-append (front ++ word) (middle ++ (format_bytes long ++ end)), length-append front word, length-append middle (format_bytes long ++ end), length-append (format_bytes long) end, length-front, length-middle, length-end, two_bytes long)

  pub head_front : take 8 (with_adjustment w (head_bytes long head)) ≡ take 8 head
  head_front = ap (take 8) (head_is ∙ append_assoc front word (middle ++ (format_bytes long ++ end))) ∙ take_at front (word ++ (middle ++ (format_bytes long ++ end))) 8 length-front

  from_twelve : drop 12 (with_adjustment w (head_bytes long head)) ≡ middle ++ (format_bytes long ++ end)
  from_twelve = ap (drop 12) head_is ∙ drop_at (front ++ word) (middle ++ (format_bytes long ++ end)) 12 (omega (arith, length-append front word, length-front))

  pub head_middle : slice_range (with_adjustment w (head_bytes long head)) 12 50 ≡ slice_range head 12 50
  head_middle = ap (take 38) from_twelve ∙ take_at middle (format_bytes long ++ end) 38 length-middle

  regrouped : with_adjustment w (head_bytes long head) ≡ (front ++ word ++ middle) ++ (format_bytes long ++ end)
  regrouped = head_is ∙ sym (append_assoc (front ++ word) middle (format_bytes long ++ end))

  length-before : length (front ++ word ++ middle) ≡ 50
  length-before = omega (arith, length-append (front ++ word) middle, length-append front word, length-front, length-middle)

  pub head_end : drop 52 (with_adjustment w (head_bytes long head)) ≡ drop 52 head
  head_end = ap (drop 52) (regrouped ∙ sym (append_assoc (front ++ word ++ middle) (format_bytes long) end)) ∙ drop_at ((front ++ word ++ middle) ++ format_bytes long) end 52 (omega (arith, length-append (front ++ word ++ middle) (format_bytes long), length-before, two_bytes long))

  pub head_format : number (with_adjustment w (head_bytes long head)) 50 2 ≡ Some (be (format_bytes long))
  head_format = number_at (with_adjustment w (head_bytes long head)) (front ++ word ++ middle) (format_bytes long) end 50 2 (be (format_bytes long)) regrouped (sym length-before) (sym (two_bytes long)) refl

outlines_by : (hinting : Bool) (find : List ℕ → Option (List ℕ)) (loca glyf head : List ℕ) (n : ℕ) → find (codes "loca") ≡ Some loca → find (codes "glyf") ≡ Some glyf → find (codes "head") ≡ Some head → number head 50 2 ≡ Some n
    → outlines_in hinting find ≡ Some (record { loca = loca; glyf = glyf; head = head; long = not (eqb n 0); hinting = hinting })
unfolding outlines_in
outlines_by hinting find loca glyf head n a b c d = rw (a, b, c, d) refl

format_back : (long : Bool) → not (eqb (be (format_bytes long)) 0) ≡ long
format_back true = refl
format_back false = refl

-- the tables of outlines, with the format that head was given
pub outlines_afresh : (hinting : Bool) (find : List ℕ → Option (List ℕ)) (loca glyf : List ℕ) (w : ℕ) (long : Bool) (head : List ℕ) → 52 ≤ length head → find (codes "loca") ≡ Some loca → find (codes "glyf") ≡ Some glyf → find (codes "head") ≡ Some (with_adjustment w (head_bytes long head))
    → outlines_in hinting find ≡ Some (record { loca = loca; glyf = glyf; head = with_adjustment w (head_bytes long head); long = long; hinting = hinting })
outlines_afresh hinting find loca glyf w long head le a b c =
    outlines_by hinting find loca glyf (with_adjustment w (head_bytes long head)) (be (format_bytes long)) a b c (head_format w long head le)
    ∙ ap (λ (l : Bool). Some (record { loca = loca; glyf = glyf; head = with_adjustment w (head_bytes long head); long = l; hinting = hinting })) (format_back long)

-- four parts after one, grouped
regroup : (A Z M F E : List ℕ) → A ++ Z ++ (M ++ (F ++ E)) ≡ A ++ Z ++ M ++ F ++ E
regroup A Z M F E = simp append_assoc

-- a new head has zeros for the adjustment
pub head_zeros : (long : Bool) (head : List ℕ) → 52 ≤ length head → with_adjustment 0 (head_bytes long head) ≡ head_bytes long head
head_zeros long head le = head_is 0 long head le ∙ regroup (take 8 head) (0 ∷ 0 ∷ 0 ∷ 0 ∷ []) (slice_range head 12 50) (format_bytes long) (drop 52 head) ∙ sym (own_head long head)

-- and room for it
pub head_room : (long : Bool) (head : List ℕ) → 52 ≤ length head → 12 ≤ length (head_bytes long head)
head_room long head le = omega (arith, ap length (head_zeros long head le), head_length 0 long head le)
