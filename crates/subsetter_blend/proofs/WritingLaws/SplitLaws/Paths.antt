-- A path in two parts.
use Rattle.std.proofs.Common.{◌≡◌, ◌%◌, ◌≤◌, ℤ, Bool, true, false, List, [], ◌∷◌, ◌++◌, length, refl, sym, ap, ◌∙◌, arith, length-append}
use Rattle.subsetter_blend.specs.declared.axes.Along.TheVariants.{X, Y}
use Rattle.subsetter_blend.specs.declared.writing.placing.Position.{Position}
use Rattle.subsetter_blend.specs.Drawn.{Segment, Line, Curve, by, lines, alternating_lines, curves, curves_line, lines_curve, horizontal_curves, vertical_curves, odd_horizontal, odd_vertical, alternating_curves, point_after}
use Rattle.subsetter_blend.specs.Writing.Placed.{position_after}

pub lines_split : (at : Position) (xs ys : List ℤ) → length xs % 2 ≡ 0 → lines at (xs ++ ys) ≡ lines at xs ++ lines (point_after at (lines at xs)) ys
lines_split at [] ys e = refl
lines_split at (a ∷ []) ys e = absurd (omega (arith, e))
lines_split at (a ∷ b ∷ xs) ys e = ap (λ (l : List Segment). Line (by a b at) ∷ l) (lines_split (by a b at) xs ys (omega (arith, e)))

pub turning_lines_split : (v : Bool) (at : Position) (xs ys : List ℤ) → length xs % 2 ≡ 0 → alternating_lines v at (xs ++ ys) ≡ alternating_lines v at xs ++ alternating_lines v (point_after at (alternating_lines v at xs)) ys
turning_lines_split true at [] ys e = refl
turning_lines_split false at [] ys e = refl
turning_lines_split true at (a ∷ []) ys e = absurd (omega (arith, e))
turning_lines_split false at (a ∷ []) ys e = absurd (omega (arith, e))
turning_lines_split true at (a ∷ b ∷ xs) ys e = ap (λ (l : List Segment). Line (position_after Y a at) ∷ Line (position_after X b (position_after Y a at)) ∷ l) (turning_lines_split true (position_after X b (position_after Y a at)) xs ys (omega (arith, e)))
turning_lines_split false at (a ∷ b ∷ xs) ys e = ap (λ (l : List Segment). Line (position_after X a at) ∷ Line (position_after Y b (position_after X a at)) ∷ l) (turning_lines_split false (position_after Y b (position_after X a at)) xs ys (omega (arith, e)))

pub curves_split : (at : Position) (xs ys : List ℤ) → length xs % 6 ≡ 0 → curves at (xs ++ ys) ≡ curves at xs ++ curves (point_after at (curves at xs)) ys
curves_split at [] ys e = refl
curves_split at (a ∷ []) ys e = absurd (omega (arith, e))
curves_split at (a ∷ b ∷ []) ys e = absurd (omega (arith, e))
curves_split at (a ∷ b ∷ c ∷ []) ys e = absurd (omega (arith, e))
curves_split at (a ∷ b ∷ c ∷ d ∷ []) ys e = absurd (omega (arith, e))
curves_split at (a ∷ b ∷ c ∷ d ∷ f ∷ []) ys e = absurd (omega (arith, e))
curves_split at (a ∷ b ∷ c ∷ d ∷ f ∷ g ∷ xs) ys e =
    ap (λ (l : List Segment). Curve (by a b at) (by c d (by a b at)) (by f g (by c d (by a b at))) ∷ l) (curves_split (by f g (by c d (by a b at))) xs ys (omega (arith, e)))

-- curves, and then curves and a line
pub curves_line_split : (at : Position) (xs ys : List ℤ) → length xs % 6 ≡ 0 → curves_line at (xs ++ ys) ≡ curves at xs ++ curves_line (point_after at (curves at xs)) ys
curves_line_split at [] ys e = refl
curves_line_split at (a ∷ []) ys e = absurd (omega (arith, e))
curves_line_split at (a ∷ b ∷ []) ys e = absurd (omega (arith, e))
curves_line_split at (a ∷ b ∷ c ∷ []) ys e = absurd (omega (arith, e))
curves_line_split at (a ∷ b ∷ c ∷ d ∷ []) ys e = absurd (omega (arith, e))
curves_line_split at (a ∷ b ∷ c ∷ d ∷ f ∷ []) ys e = absurd (omega (arith, e))
curves_line_split at (a ∷ b ∷ c ∷ d ∷ f ∷ g ∷ xs) ys e =
    ap (λ (l : List Segment). Curve (by a b at) (by c d (by a b at)) (by f g (by c d (by a b at))) ∷ l) (curves_line_split (by f g (by c d (by a b at))) xs ys (omega (arith, e)))

-- lines, and then lines and a curve
lines_curve_more : (at : Position) (a b : ℤ) (rest : List ℤ) → 5 ≤ length rest → lines_curve at (a ∷ b ∷ rest) ≡ Line (by a b at) ∷ lines_curve (by a b at) rest
lines_curve_more at a b [] h = absurd (omega (arith, h))
lines_curve_more at a b (c ∷ []) h = absurd (omega (arith, h))
lines_curve_more at a b (c ∷ d ∷ []) h = absurd (omega (arith, h))
lines_curve_more at a b (c ∷ d ∷ e ∷ []) h = absurd (omega (arith, h))
lines_curve_more at a b (c ∷ d ∷ e ∷ f ∷ []) h = absurd (omega (arith, h))
lines_curve_more at a b (c ∷ d ∷ e ∷ f ∷ g ∷ rest) h = refl

pub lines_curve_split : (at : Position) (xs ys : List ℤ) → length xs % 2 ≡ 0 → 6 ≤ length ys → lines_curve at (xs ++ ys) ≡ lines at xs ++ lines_curve (point_after at (lines at xs)) ys
lines_curve_split at [] ys e h = refl
lines_curve_split at (a ∷ []) ys e h = absurd (omega (arith, e))
lines_curve_split at (a ∷ b ∷ xs) ys e h =
    lines_curve_more at a b (xs ++ ys) (omega (arith, h, length-append xs ys))
    ∙ ap (λ (l : List Segment). Line (by a b at) ∷ l) (lines_curve_split (by a b at) xs ys (omega (arith, e)) h)

pub horizontal_split : (at : Position) (xs ys : List ℤ) → length xs % 4 ≡ 0 → horizontal_curves at (xs ++ ys) ≡ horizontal_curves at xs ++ horizontal_curves (point_after at (horizontal_curves at xs)) ys
horizontal_split at [] ys e = refl
horizontal_split at (a ∷ []) ys e = absurd (omega (arith, e))
horizontal_split at (a ∷ b ∷ []) ys e = absurd (omega (arith, e))
horizontal_split at (a ∷ b ∷ c ∷ []) ys e = absurd (omega (arith, e))
horizontal_split at (a ∷ b ∷ c ∷ d ∷ xs) ys e =
    let end = position_after X d (by b c (position_after X a at)) in
    ap (λ (l : List Segment). Curve (position_after X a at) (by b c (position_after X a at)) end ∷ l) (horizontal_split end xs ys (omega (arith, e)))

pub vertical_split : (at : Position) (xs ys : List ℤ) → length xs % 4 ≡ 0 → vertical_curves at (xs ++ ys) ≡ vertical_curves at xs ++ vertical_curves (point_after at (vertical_curves at xs)) ys
vertical_split at [] ys e = refl
vertical_split at (a ∷ []) ys e = absurd (omega (arith, e))
vertical_split at (a ∷ b ∷ []) ys e = absurd (omega (arith, e))
vertical_split at (a ∷ b ∷ c ∷ []) ys e = absurd (omega (arith, e))
vertical_split at (a ∷ b ∷ c ∷ d ∷ xs) ys e =
    let end = position_after Y d (by b c (position_after Y a at)) in
    ap (λ (l : List Segment). Curve (position_after Y a at) (by b c (position_after Y a at)) end ∷ l) (vertical_split end xs ys (omega (arith, e)))

-- an odd operand in front, in the first part alone
-- the place that a drawing of no curve leaves is not moved, so there is one
pub odd_horizontal_split : (b : Bool) (at : Position) (xs ys : List ℤ) → (b ≡ true → length xs % 4 ≡ 1) → (b ≡ false → length xs % 4 ≡ 0) → 4 ≤ length xs
    → odd_horizontal b at (xs ++ ys) ≡ odd_horizontal b at xs ++ horizontal_curves (point_after at (odd_horizontal b at xs)) ys
odd_horizontal_split true at [] ys odd even h = absurd (omega (arith, h))
odd_horizontal_split true at (v ∷ []) ys odd even h = absurd (omega (arith, h))
odd_horizontal_split true at (v ∷ a ∷ []) ys odd even h = absurd (omega (arith, h))
odd_horizontal_split true at (v ∷ a ∷ b ∷ []) ys odd even h = absurd (omega (arith, h))
odd_horizontal_split true at (v ∷ a ∷ b ∷ c ∷ []) ys odd even h = absurd (omega (arith, odd refl))
odd_horizontal_split true at (v ∷ a ∷ b ∷ c ∷ d ∷ xs) ys odd even h = horizontal_split (position_after Y v at) (a ∷ b ∷ c ∷ d ∷ xs) ys (omega (arith, odd refl))
odd_horizontal_split false at xs ys odd even h = horizontal_split at xs ys (even refl)

pub odd_vertical_split : (b : Bool) (at : Position) (xs ys : List ℤ) → (b ≡ true → length xs % 4 ≡ 1) → (b ≡ false → length xs % 4 ≡ 0) → 4 ≤ length xs
    → odd_vertical b at (xs ++ ys) ≡ odd_vertical b at xs ++ vertical_curves (point_after at (odd_vertical b at xs)) ys
odd_vertical_split true at [] ys odd even h = absurd (omega (arith, h))
odd_vertical_split true at (v ∷ []) ys odd even h = absurd (omega (arith, h))
odd_vertical_split true at (v ∷ a ∷ []) ys odd even h = absurd (omega (arith, h))
odd_vertical_split true at (v ∷ a ∷ b ∷ []) ys odd even h = absurd (omega (arith, h))
odd_vertical_split true at (v ∷ a ∷ b ∷ c ∷ []) ys odd even h = absurd (omega (arith, odd refl))
odd_vertical_split true at (v ∷ a ∷ b ∷ c ∷ d ∷ xs) ys odd even h = vertical_split (position_after X v at) (a ∷ b ∷ c ∷ d ∷ xs) ys (omega (arith, odd refl))
odd_vertical_split false at xs ys odd even h = vertical_split at xs ys (even refl)

-- ---- curves that turn, two at a time
false_more : (at : Position) (a b c d : ℤ) (rest : List ℤ) → (length rest ≡ 1 → ⊥) → alternating_curves false at (a ∷ b ∷ c ∷ d ∷ rest)
    ≡ Curve (position_after X a at) (by b c (position_after X a at)) (position_after Y d (by b c (position_after X a at))) ∷ alternating_curves true (position_after Y d (by b c (position_after X a at))) rest
false_more at a b c d [] h = refl
false_more at a b c d (e ∷ []) h = absurd (h refl)
false_more at a b c d (e ∷ f ∷ rest) h = refl

true_more : (at : Position) (a b c d : ℤ) (rest : List ℤ) → (length rest ≡ 1 → ⊥) → alternating_curves true at (a ∷ b ∷ c ∷ d ∷ rest)
    ≡ Curve (position_after Y a at) (by b c (position_after Y a at)) (position_after X d (by b c (position_after Y a at))) ∷ alternating_curves false (position_after X d (by b c (position_after Y a at))) rest
true_more at a b c d [] h = refl
true_more at a b c d (e ∷ []) h = absurd (h refl)
true_more at a b c d (e ∷ f ∷ rest) h = refl

no_one : (xs ys : List ℤ) → length xs % 8 ≡ 0 → (length ys ≡ 1 → ⊥) → length (xs ++ ys) ≡ 1 → ⊥
no_one xs ys e h l = h (omega (arith, e, l, length-append xs ys))

alone : (xs : List ℤ) → length xs % 8 ≡ 0 → length xs ≡ 1 → ⊥
alone xs e l = absurd (omega (arith, e, l))

two_parts : (at next : Position) (v : Bool) (ys : List ℤ) (first second : Segment) (all front tail tail_front : List Segment) → all ≡ first ∷ second ∷ tail → front ≡ first ∷ second ∷ tail_front
    → point_after at (first ∷ second ∷ tail_front) ≡ point_after next tail_front → tail ≡ tail_front ++ alternating_curves v (point_after next tail_front) ys
    → all ≡ front ++ alternating_curves v (point_after at front) ys
two_parts at next v ys first second all front tail tail_front is front_is ends h =
    is
    ∙ ap (λ (l : List Segment). first ∷ second ∷ l) h
    ∙ ap (λ (p : Position). first ∷ second ∷ (tail_front ++ alternating_curves v p ys)) (sym ends)
    ∙ ap (λ (l : List Segment). l ++ alternating_curves v (point_after at l) ys) (sym front_is)

pub turning_split : (v : Bool) (at : Position) (xs ys : List ℤ) → length xs % 8 ≡ 0 → (length ys ≡ 1 → ⊥) → alternating_curves v at (xs ++ ys) ≡ alternating_curves v at xs ++ alternating_curves v (point_after at (alternating_curves v at xs)) ys
turning_split true at [] ys e h = refl
turning_split false at [] ys e h = refl
turning_split true at (a ∷ []) ys e h = absurd (omega (arith, e))
turning_split false at (a ∷ []) ys e h = absurd (omega (arith, e))
turning_split true at (a ∷ b ∷ []) ys e h = absurd (omega (arith, e))
turning_split false at (a ∷ b ∷ []) ys e h = absurd (omega (arith, e))
turning_split true at (a ∷ b ∷ c ∷ []) ys e h = absurd (omega (arith, e))
turning_split false at (a ∷ b ∷ c ∷ []) ys e h = absurd (omega (arith, e))
turning_split true at (a ∷ b ∷ c ∷ d ∷ []) ys e h = absurd (omega (arith, e))
turning_split false at (a ∷ b ∷ c ∷ d ∷ []) ys e h = absurd (omega (arith, e))
turning_split true at (a ∷ b ∷ c ∷ d ∷ f ∷ []) ys e h = absurd (omega (arith, e))
turning_split false at (a ∷ b ∷ c ∷ d ∷ f ∷ []) ys e h = absurd (omega (arith, e))
turning_split true at (a ∷ b ∷ c ∷ d ∷ f ∷ g ∷ []) ys e h = absurd (omega (arith, e))
turning_split false at (a ∷ b ∷ c ∷ d ∷ f ∷ g ∷ []) ys e h = absurd (omega (arith, e))
turning_split true at (a ∷ b ∷ c ∷ d ∷ f ∷ g ∷ i ∷ []) ys e h = absurd (omega (arith, e))
turning_split false at (a ∷ b ∷ c ∷ d ∷ f ∷ g ∷ i ∷ []) ys e h = absurd (omega (arith, e))
turning_split false at (a ∷ b ∷ c ∷ d ∷ f ∷ g ∷ i ∷ j ∷ xs) ys e h =
    let more : length xs % 8 ≡ 0 = omega (arith, e) in
    let mid = position_after Y d (by b c (position_after X a at)) in
    let end = position_after X j (by g i (position_after Y f mid)) in
    let first = Curve (position_after X a at) (by b c (position_after X a at)) mid in
    let second = Curve (position_after Y f mid) (by g i (position_after Y f mid)) end in
    two_parts at end false ys first second _ _ (alternating_curves false end (xs ++ ys)) (alternating_curves false end xs)
    (ap (λ (l : List Segment). first ∷ l) (true_more mid f g i j (xs ++ ys) (no_one xs ys more h)))
    (ap (λ (l : List Segment). first ∷ l) (true_more mid f g i j xs (alone xs more)))
    refl
    (turning_split false end xs ys more h)
turning_split true at (a ∷ b ∷ c ∷ d ∷ f ∷ g ∷ i ∷ j ∷ xs) ys e h =
    let more : length xs % 8 ≡ 0 = omega (arith, e) in
    let mid = position_after X d (by b c (position_after Y a at)) in
    let end = position_after Y j (by g i (position_after X f mid)) in
    let first = Curve (position_after Y a at) (by b c (position_after Y a at)) mid in
    let second = Curve (position_after X f mid) (by g i (position_after X f mid)) end in
    two_parts at end true ys first second _ _ (alternating_curves true end (xs ++ ys)) (alternating_curves true end xs)
    (ap (λ (l : List Segment). first ∷ l) (false_more mid f g i j (xs ++ ys) (no_one xs ys more h)))
    (ap (λ (l : List Segment). first ∷ l) (false_more mid f g i j xs (alone xs more)))
    refl
    (turning_split true end xs ys more h)
