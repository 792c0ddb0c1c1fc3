-- What an operator in two parts says.
use Rattle.std.proofs.Common.{◌≡◌, ℕ, ℤ, pos, Bool, true, false, List, [], ◌∷◌, ◌++◌, take, drop, map, refl, sym, ap, ◌∙◌, arith, append_assoc, append-nil}
use Rattle.std.specs.Prelude.{◌==◌, ◌||◌, if◌then◌else◌}
use Rattle.std.proofs.lemmas.Bool.Decides.{nat_tests}
use Rattle.std.proofs.lemmas.List.{map-append}
use Rattle.subsetter_cffdata.specs.declared.dicts.operator.OperatorType.{OperatorType}
use Rattle.subsetter_cffdata.specs.declared.dicts.operator.OperatorType.TheVariants.{OneByteOperator, TwoByteOperator}
use Rattle.subsetter_blend.specs.declared.writing.placing.Position.{Position}
use Rattle.subsetter_blend.specs.Drawing.{event_drawn}
use Rattle.subsetter_blend.specs.Drawn.{Segment, point_after}
use Rattle.subsetter_blend.specs.Hint.{is_hint}
use Rattle.subsetter_blend.specs.Writing.Marks.{Mark, Edge, Masked, Draws, type_masks, marks, event_marks}
use Rattle.subsetter_blend.specs.Writing.Split.{one_byte_piece, piece_type, moved_by, sum_before, front_of, rest_of}
use Rattle.subsetter_blend.specs.Writing.Stems.{edges_from, has_stems, type_stems, stems_of}
use Rattle.subsetter_blend.specs.Writing.Taking.{Event}
use Rattle.subsetter_blend.proofs.WritingLaws.SplitLaws.Stemmed.{same_says, hint_says, type_parted}

-- ---- the parts, where some are empty
module _ (h1 h2 v1 v2 : List ℤ) (m : List Mark) (d1 d2 : List Segment) where
  abbrev whole_says : List Mark
  whole_says = marks (h1 ++ h2) (v1 ++ v2) m (d1 ++ d2)

  abbrev parts_say : List Mark
  parts_say = marks h1 v1 [] d1 ++ marks h2 v2 m d2

  -- horizontal stems
  by_horizontal : v1 ≡ [] → d1 ≡ [] → parts_say ≡ whole_says
  by_horizontal v d =
      let rest = marks h2 v2 m d2 in
      ap (λ (l : List ℤ). marks h1 l [] d1 ++ rest) v ∙ ap (λ (l : List Segment). marks h1 [] [] l ++ rest) d
      ∙ ap (λ (l : List Mark). l ++ rest) (append-nil (map (λ z. Edge false z) h1))
      ∙ sym (append_assoc (map (λ z. Edge false z) h1) (map (λ z. Edge false z) h2) (map (λ z. Edge true z) v2 ++ (m ++ map (λ s. Draws s) d2)))
      ∙ ap (λ (l : List Mark). l ++ (map (λ z. Edge true z) v2 ++ (m ++ map (λ s. Draws s) d2))) (sym (map-append (λ z. Edge false z) h1 h2))
      ∙ ap (λ (l : List ℤ). marks (h1 ++ h2) (l ++ v2) m d2) (sym v) ∙ ap (λ (l : List Segment). marks (h1 ++ h2) (v1 ++ v2) m (l ++ d2)) (sym d)

  -- vertical ones, and masks
  by_vertical : h1 ≡ [] → h2 ≡ [] → d1 ≡ [] → parts_say ≡ whole_says
  by_vertical h k d =
      ap (λ (l : List ℤ). marks l v1 [] d1 ++ marks h2 v2 m d2) h ∙ ap (λ (l : List ℤ). marks [] v1 [] d1 ++ marks l v2 m d2) k ∙ ap (λ (l : List Segment). marks [] v1 [] l ++ marks [] v2 m d2) d
      ∙ ap (λ (l : List Mark). l ++ marks [] v2 m d2) (append-nil (map (λ z. Edge true z) v1))
      ∙ sym (append_assoc (map (λ z. Edge true z) v1) (map (λ z. Edge true z) v2) (m ++ map (λ s. Draws s) d2))
      ∙ ap (λ (l : List Mark). l ++ (m ++ map (λ s. Draws s) d2)) (sym (map-append (λ z. Edge true z) v1 v2))
      ∙ ap (λ (l : List ℤ). marks (l ++ []) (v1 ++ v2) m d2) (sym h) ∙ ap (λ (l : List ℤ). marks (h1 ++ l) (v1 ++ v2) m d2) (sym k) ∙ ap (λ (l : List Segment). marks (h1 ++ h2) (v1 ++ v2) m (l ++ d2)) (sym d)

  -- a path
  by_path : h1 ≡ [] → h2 ≡ [] → v1 ≡ [] → v2 ≡ [] → m ≡ [] → parts_say ≡ whole_says
  by_path h k v w n =
      ap (λ (l : List ℤ). marks l v1 [] d1 ++ marks h2 v2 m d2) h ∙ ap (λ (l : List ℤ). marks [] v1 [] d1 ++ marks l v2 m d2) k
      ∙ ap (λ (l : List ℤ). marks [] l [] d1 ++ marks [] v2 m d2) v ∙ ap (λ (l : List ℤ). marks [] [] [] d1 ++ marks [] l m d2) w ∙ ap (λ (l : List Mark). marks [] [] [] d1 ++ marks [] [] l d2) n
      ∙ sym (map-append (λ s. Draws s) d1 d2)
      ∙ ap (λ (l : List Mark). marks [] [] l (d1 ++ d2)) (sym n) ∙ ap (λ (l : List ℤ). marks [] ([] ++ l) m (d1 ++ d2)) (sym w) ∙ ap (λ (l : List ℤ). marks [] (l ++ v2) m (d1 ++ d2)) (sym v)
      ∙ ap (λ (l : List ℤ). marks ([] ++ l) (v1 ++ v2) m (d1 ++ d2)) (sym k) ∙ ap (λ (l : List ℤ). marks (l ++ h2) (v1 ++ v2) m (d1 ++ d2)) (sym h)

-- ---- by the operator
off_masks : (b : ℕ) (mask : List ℕ) (t : Bool) → (b == 19 || b == 20) ≡ t → t ≡ false → type_masks (OneByteOperator (b ∷ [])) mask ≡ []
off_masks b mask t e f = ap (λ (u : Bool). if u then Masked b mask ∷ [] else []) (e ∙ f)

no_stems_no_mask : (b : ℕ) → has_stems true b ≡ false → (b == 19 || b == 20) ≡ false
no_stems_no_mask b h = grind (arith, nat_tests)

no_mask : (b : ℕ) (mask : List ℕ) → has_stems true b ≡ false → type_masks (OneByteOperator (b ∷ [])) mask ≡ []
no_mask b mask h = off_masks b mask (b == 19 || b == 20) refl (no_stems_no_mask b h)

piece_by : (b : ℕ) (p q r s : Bool) → (b == 19) ≡ p → (b == 20) ≡ q → ((if p || q then 23 else if r then 8 else if s then 5 else b) == 19 || (if p || q then 23 else if r then 8 else if s then 5 else b) == 20) ≡ false
piece_by b true q r s e f = refl
piece_by b false true r s e f = refl
piece_by b false false true s e f = refl
piece_by b false false false true e f = refl
piece_by b false false false false e f = rw (e, f) refl

piece_no_mask : (b : ℕ) (mask : List ℕ) → type_masks (OneByteOperator (one_byte_piece b ∷ [])) mask ≡ []
piece_no_mask b mask = off_masks (one_byte_piece b) mask _ refl (piece_by b (b == 19) (b == 20) (b == 24) (b == 25) refl refl)

one_way : (b : ℕ) → has_stems false b ≡ true → has_stems true b ≡ false
one_way b h = grind (arith, nat_tests)

none_of : (vertical : Bool) (b : ℕ) (vs : List ℤ) → has_stems vertical b ≡ false → type_stems vertical (OneByteOperator (b ∷ [])) vs ≡ []
none_of vertical b vs h = ap (λ (t : Bool). if t then edges_from (pos 0) vs else []) h

none_in_front : (vertical : Bool) (b : ℕ) (vs : List ℤ) → has_stems vertical b ≡ false → type_stems vertical (OneByteOperator (one_byte_piece b ∷ [])) vs ≡ []
none_in_front vertical b vs h = none_of vertical (one_byte_piece b) vs (same_says vertical b ∙ h)

module _ (b : ℕ) (front rest : List ℤ) (mask : List ℕ) (d1 d2 : List Segment) (still : is_hint (OneByteOperator (b ∷ [])) ≡ true → d1 ≡ []) where
  abbrev h1 : List ℤ
  h1 = type_stems false (OneByteOperator (one_byte_piece b ∷ [])) front

  abbrev h2 : List ℤ
  h2 = type_stems false (OneByteOperator (b ∷ [])) rest

  abbrev v1 : List ℤ
  v1 = type_stems true (OneByteOperator (one_byte_piece b ∷ [])) front

  abbrev v2 : List ℤ
  v2 = type_stems true (OneByteOperator (b ∷ [])) rest

  abbrev m : List Mark
  m = type_masks (OneByteOperator (b ∷ [])) mask

  by_kind : (f t : Bool) → has_stems false b ≡ f → has_stems true b ≡ t → parts_say h1 h2 v1 v2 m d1 d2 ≡ whole_says h1 h2 v1 v2 m d1 d2
  by_kind true t e g = by_horizontal h1 h2 v1 v2 m d1 d2 (none_in_front true b front (one_way b e)) (still (hint_says false b e))
  by_kind false true e g = by_vertical h1 h2 v1 v2 m d1 d2 (none_in_front false b front e) (none_of false b rest e) (still (hint_says true b g))
  by_kind false false e g =
      by_path h1 h2 v1 v2 m d1 d2 (none_in_front false b front e) (none_of false b rest e) (none_in_front true b front g) (none_of true b rest g) (no_mask b mask g)

  pub one_says : marks h1 v1 (type_masks (OneByteOperator (one_byte_piece b ∷ [])) []) d1 ++ marks h2 v2 m d2 ≡ marks (h1 ++ h2) (v1 ++ v2) m (d1 ++ d2)
  one_says = ap (λ (l : List Mark). marks h1 v1 l d1 ++ marks h2 v2 m d2) (piece_no_mask b []) ∙ by_kind (has_stems false b) (has_stems true b) refl refl

type_says : (t : OperatorType) (k : ℕ) (vs : List ℤ) (mask : List ℕ) (d1 d2 : List Segment) → (is_hint t ≡ true → d1 ≡ [])
    → marks (type_stems false (piece_type t) (take k vs)) (type_stems true (piece_type t) (take k vs)) (type_masks (piece_type t) []) d1
    ++ marks (type_stems false t (moved_by (sum_before (is_hint t) (take k vs)) (drop k vs))) (type_stems true t (moved_by (sum_before (is_hint t) (take k vs)) (drop k vs))) (type_masks t mask) d2
    ≡ marks (type_stems false t vs) (type_stems true t vs) (type_masks t mask) (d1 ++ d2)
type_says (OneByteOperator []) k vs mask d1 d2 still = sym (map-append (λ s. Draws s) d1 d2)
type_says (OneByteOperator (b ∷ [])) k vs mask d1 d2 still =
    let t = OneByteOperator (b ∷ []) in
    one_says b (take k vs) (moved_by (sum_before (is_hint t) (take k vs)) (drop k vs)) mask d1 d2 still
    ∙ ap (λ (l : List ℤ). marks l (type_stems true (piece_type t) (take k vs) ++ type_stems true t (moved_by (sum_before (is_hint t) (take k vs)) (drop k vs))) (type_masks t mask) (d1 ++ d2)) (sym (type_parted false t k vs))
    ∙ ap (λ (l : List ℤ). marks (type_stems false t vs) l (type_masks t mask) (d1 ++ d2)) (sym (type_parted true t k vs))
type_says (OneByteOperator (c ∷ b ∷ bytes)) k vs mask d1 d2 still = sym (map-append (λ s. Draws s) d1 d2)
type_says (TwoByteOperator code) k vs mask d1 d2 still = sym (map-append (λ s. Draws s) d1 d2)

pub says_parted : (k : ℕ) (e : Event) (at : Position) → (is_hint e.operator.0 ≡ true → event_drawn (front_of k e) at ≡ [])
    → event_drawn e at ≡ event_drawn (front_of k e) at ++ event_drawn (rest_of k e) (point_after at (event_drawn (front_of k e) at))
    → event_marks (front_of k e) at ++ event_marks (rest_of k e) (point_after at (event_drawn (front_of k e) at)) ≡ event_marks e at
says_parted k e at still draws =
    type_says e.operator.0 k e.operands e.mask (event_drawn (front_of k e) at) (event_drawn (rest_of k e) (point_after at (event_drawn (front_of k e) at))) still
    ∙ ap (λ (l : List Segment). marks (stems_of false e) (stems_of true e) (type_masks e.operator.0 e.mask) l) (sym draws)
