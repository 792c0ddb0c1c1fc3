-- The points of an unfolded glyph, one after another.
use Rattle.std.proofs.Common.{◌≡◌, ℕ, ◌+◌, ◌<◌, ◌≤◌, Bool, false, pos, List, [], ◌∷◌, ◌++◌, length, get_or, drop, Result, Ok, Err, ℤ, refl, sym, ap, ◌∙◌, append_assoc, arith}
use Rattle.std.proofs.lemmas.List.{append-nil, drop_more, drop_all}
use Rattle.subsetter_base.specs.Bytes.{◌>>=◌}
use Rattle.subsetter_base.specs.declared.error.Error.{Error}
use Rattle.subsetter_base.specs.declared.error.Error.TheVariants as errors
use Rattle.subsetter_base.specs.Gives.{Fails}
use Rattle.subsetter_base.proofs.Results.{with_front}
use Rattle.subsetter_points.specs.declared.outline.Point.{Point}
use Rattle.subsetter_instance.specs.Glyphs.Drawn.{point_or_fault, points_or_fault}
use Rattle.subsetter_instance.specs.Glyphs.Unfolded.{on_curve}
use Rattle.subsetter_instance.proofs.GlyphsLaws.Reach.{on_count}

-- a reading that fails with an error
pub fails : {Y : Type 0} (e : Error) (read : Result Y Error) → read ≡ Err e → Fails e read
fails errors.OutOfMemory read h = tt
fails errors.UnknownKind read h = h
fails errors.MalformedFont read h = h
fails errors.Unimplemented read h = h
fails errors.SubsetError read h = h
fails errors.OverflowError read h = h
fails errors.CFFError read h = h

abbrev onto : Point → Result (List Point) Error → Result (List Point) Error
onto p r = r >>= λ rest. Ok (p ∷ rest)

push_front : (front : List Point) (p : Point) (r : Result (List Point) Error) → with_front front (onto p r) ≡ with_front (front ++ p ∷ []) r
push_front front p (Ok rest) = ap (λ l. Ok l) (sym (append_assoc front (p ∷ []) rest))
push_front front p (Err e) = refl

pub no_front : (r : Result (List Point) Error) → with_front [] r ≡ r
no_front (Ok rest) = refl
no_front (Err e) = refl

first_of_all : (left : ℤ) (o : Bool) (x y : ℤ) (on : List Bool) (xs ys : List ℤ) (r : Result Point Error) → point_or_fault left o x y ≡ r
    → points_or_fault left (o ∷ on) (x ∷ xs) (y ∷ ys) ≡ (r >>= λ p. onto p (points_or_fault left on xs ys))
unfolding points_or_fault
first_of_all left o x y on xs ys r h = ap (λ (f : Result Point Error). f >>= λ p. onto p (points_or_fault left on xs ys)) h

-- the point numbered i and those after it
apart : (left : ℤ) (on : List Bool) (xs ys : List ℤ) (i : ℕ) (o : Bool) (x y : ℤ) (r : Result Point Error) → i < length on → length xs ≡ length on → length ys ≡ length on → o ≡ get_or on i false → x ≡ get_or xs i (pos 0) → y ≡ get_or ys i (pos 0) → point_or_fault left o x y ≡ r
    → points_or_fault left (drop i on) (drop i xs) (drop i ys) ≡ (r >>= λ p. onto p (points_or_fault left (drop (i + 1) on) (drop (i + 1) xs) (drop (i + 1) ys)))
apart left on xs ys i o x y r less many_xs many_ys ho hx hy h =
    let a : drop i on ≡ o ∷ drop (i + 1) on = drop_more on i false less ∙ ap (λ z. z ∷ drop (i + 1) on) (sym ho) in
    let b : drop i xs ≡ x ∷ drop (i + 1) xs = drop_more xs i (pos 0) (omega arith) ∙ ap (λ z. z ∷ drop (i + 1) xs) (sym hx) in
    let c : drop i ys ≡ y ∷ drop (i + 1) ys = drop_more ys i (pos 0) (omega arith) ∙ ap (λ z. z ∷ drop (i + 1) ys) (sym hy) in
    rw (a, b, c) (first_of_all left o x y (drop (i + 1) on) (drop (i + 1) xs) (drop (i + 1) ys) r h)

pub points_step : (left : ℤ) (on : List Bool) (xs ys : List ℤ) (i : ℕ) (front : List Point) (o : Bool) (x y : ℤ) (p : Point) → i < length on → length xs ≡ length on → length ys ≡ length on → o ≡ get_or on i false → x ≡ get_or xs i (pos 0) → y ≡ get_or ys i (pos 0) → point_or_fault left o x y ≡ Ok p
    → with_front front (points_or_fault left (drop i on) (drop i xs) (drop i ys)) ≡ with_front (front ++ p ∷ []) (points_or_fault left (drop (i + 1) on) (drop (i + 1) xs) (drop (i + 1) ys))
points_step left on xs ys i front o x y p less many_xs many_ys ho hx hy h =
    ap (with_front front) (apart left on xs ys i o x y (Ok p) less many_xs many_ys ho hx hy h) ∙ push_front front p (points_or_fault left (drop (i + 1) on) (drop (i + 1) xs) (drop (i + 1) ys))

pub points_cut : (left : ℤ) (on : List Bool) (xs ys : List ℤ) (i : ℕ) (front : List Point) (o : Bool) (x y : ℤ) (e : Error) → i < length on → length xs ≡ length on → length ys ≡ length on → o ≡ get_or on i false → x ≡ get_or xs i (pos 0) → y ≡ get_or ys i (pos 0) → point_or_fault left o x y ≡ Err e
    → with_front front (points_or_fault left (drop i on) (drop i xs) (drop i ys)) ≡ Err e
points_cut left on xs ys i front o x y e less many_xs many_ys ho hx hy h = ap (with_front front) (apart left on xs ys i o x y (Err e) less many_xs many_ys ho hx hy h)

none_left : (left : ℤ) (on : List Bool) (xs ys : List ℤ) → on ≡ [] → points_or_fault left on xs ys ≡ Ok []
unfolding points_or_fault
none_left left [] xs ys h = refl
none_left left (o ∷ on) xs ys h = absurd (cc)

points_end : (left : ℤ) (on : List Bool) (xs ys : List ℤ) (i : ℕ) (front : List Point) → length on ≤ i → with_front front (points_or_fault left (drop i on) (drop i xs) (drop i ys)) ≡ Ok front
points_end left on xs ys i front past = ap (with_front front) (none_left left (drop i on) (drop i xs) (drop i ys) (drop_all i on past)) ∙ ap (λ l. Ok l) (append-nil front)

-- no flag is left
pub flags_end : (left : ℤ) (flags : List ℕ) (xs ys : List ℤ) (i : ℕ) (front : List Point) → length flags ≤ i → with_front front (points_or_fault left (drop i (on_curve flags)) (drop i xs) (drop i ys)) ≡ Ok front
flags_end left flags xs ys i front past = points_end left (on_curve flags) xs ys i front (omega (arith, on_count flags))
