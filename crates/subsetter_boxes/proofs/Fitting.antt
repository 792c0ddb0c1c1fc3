-- The edges of boxes have 16 bits.
use Rattle.std.proofs.Common.{◌≡◌, ℕ, ℤ, pos, negsuc, Bool, true, false, cond, FitsSigned, w16, List, [], ◌∷◌, length, map, Option, Some, None, refl, subst, arith}
use Rattle.std.specs.Prelude.{if◌then◌else◌}
use Rattle.std.specs.Int.{int_max, int_min}
use Rattle.std.specs.List.{AllByRecursion, fold}
use Rattle.std.specs.Option.{option_and_then}
use Rattle.std.proofs.lemmas.Int.{ints}
use Rattle.std.proofs.lemmas.Bool.Decides.{nat_tests}
use Rattle.subsetter_base.proofs.Options.{bind_some, just_is}
use Rattle.subsetter_points.specs.declared.bounds.Bounds.{Bounds}
use Rattle.subsetter_blend.specs.declared.writing.placing.Position.{Position}
use Rattle.subsetter_blend.specs.Runs.Number.{is_within, whole}
use Rattle.subsetter_blend.specs.Writing.Placed.{is_short}
use Rattle.subsetter_boxes.specs.CharstringBox.{in_units, point_box, points, least, outline, outline_box, after_width, before_endchar, charstring_box}
use Rattle.subsetter_boxes.specs.Joined.{joined, least_box, font_box}

-- a box whose edges have 16 bits
pub record IsShortBox (b : Bounds) : Type 0 where
  pub x_min : FitsSigned w16 b.x_min
  pub y_min : FitsSigned w16 b.y_min
  pub x_max : FitsSigned w16 b.x_max
  pub y_max : FitsSigned w16 b.y_max

abbrev pub Fits : Option Bounds → Type 0
Fits None = Unit {0}
Fits (Some b) = IsShortBox b

-- ---- of points
short_range : (v : ℤ) → is_short v ≡ true → FitsSigned w16 v
short_range (pos n) h = record { sfits = grind (arith, ints, nat_tests) }
short_range (negsuc n) h = record { sfits = grind (arith, ints, nat_tests) }

units_by : (a b : Bool) (v z : ℤ) → (b ≡ true → FitsSigned w16 v) → (if a then (if b then Some v else None) else None) ≡ Some z → FitsSigned w16 z
units_by true true v z f h = subst (FitsSigned w16) (just_is v z h) (f refl)
units_by true false v z f h = absurd (cc)
units_by false b v z f h = absurd (cc)

units_fit : (v z : ℤ) → in_units v ≡ Some z → FitsSigned w16 z
unfolding in_units
units_fit v z h = units_by (is_within v) (is_short (whole v)) (whole v) z (short_range (whole v)) h

point_fits : (at : Position) (b : Bounds) → point_box at ≡ Some b → IsShortBox b
point_fits at b h =
    let x = bind_some (in_units at.x) _ b h in
    let y = bind_some (in_units at.y) _ b x.2 in
    let fx = units_fit at.x x.0 x.1 in
    let fy = units_fit at.y y.0 y.1 in
    subst IsShortBox (just_is (record { x_min = x.0; y_min = y.0; x_max = x.0; y_max = y.0 }) b y.2) (record { x_min = fx; y_min = fy; x_max = fx; y_max = fy })

-- ---- of several
chosen : (c : Bool) (x y : ℤ) → FitsSigned w16 x → FitsSigned w16 y → FitsSigned w16 (cond c y x)
chosen true x y f g = g
chosen false x y f g = f

lesser : (x y : ℤ) → FitsSigned w16 x → FitsSigned w16 y → FitsSigned w16 (int_min x y)
lesser x y f g = chosen _ x y f g

greater : (x y : ℤ) → FitsSigned w16 x → FitsSigned w16 y → FitsSigned w16 (int_max x y)
greater x y f g = chosen _ y x g f

pub joined_fits : (a b : Option Bounds) → Fits a → Fits b → Fits (joined a b)
joined_fits None b f g = g
joined_fits (Some a) None f g = f
joined_fits (Some a) (Some b) f g = record { x_min = lesser a.x_min b.x_min f.x_min g.x_min; y_min = lesser a.y_min b.y_min f.y_min g.y_min; x_max = greater a.x_max b.x_max f.x_max g.x_max; y_max = greater a.y_max b.y_max f.y_max g.y_max }

least_fits : (ps : List Position) (b : Option Bounds) → least ps ≡ Some b → Fits b
least_fits [] b h = subst Fits (just_is None b h) tt
least_fits (at ∷ ps) b h =
    let own = bind_some (point_box at) _ b h in
    let others = bind_some (least ps) _ b own.2 in
    subst Fits (just_is (joined (Some own.0) others.0) b others.2) (joined_fits (Some own.0) others.0 (point_fits at own.0 own.1) (least_fits ps others.0 others.1))

-- ---- of charstrings
-- what is found in an option that may be missing
found : {A : Type 0} (o : Option A) (f : A → Option Bounds) → ((a : A) → o ≡ Some a → Fits (f a)) → Fits (option_and_then f o)
found None f h = tt
found (Some a) f h = h a refl

pub outline_fits : (charstring : List ℕ) → Fits (outline_box charstring)
unfolding outline_box
outline_fits charstring = found (outline charstring) _ (λ segments is. found (least (points segments)) (λ box. box) (λ box h. least_fits (points segments) box h))

pub charstring_fits : (charstring : List ℕ) → Fits (charstring_box charstring)
unfolding charstring_box
charstring_fits charstring = found (after_width charstring) _ (λ following is. found (before_endchar following) outline_box (λ body h. outline_fits body))

-- ---- around all
all_fit : (first : Option Bounds) (charstrings : List (List ℕ)) → Fits first → Fits (fold joined first (map charstring_box charstrings))
all_fit first [] f = f
all_fit first (c ∷ charstrings) f = all_fit (joined first (charstring_box c)) charstrings (joined_fits first (charstring_box c) f (charstring_fits c))

pub least_box_fits : (charstrings : List (List ℕ)) → Fits (least_box (map charstring_box charstrings))
least_box_fits charstrings = all_fit None charstrings tt

pub font_box_fits : (b : Option Bounds) → Fits b → AllByRecursion (FitsSigned w16) (font_box b)
font_box_fits None f = (record { sfits = omega arith }, (record { sfits = omega arith }, (record { sfits = omega arith }, (record { sfits = omega arith }, tt))))
font_box_fits (Some b) f = (f.x_min, (f.y_min, (f.x_max, (f.y_max, tt))))

pub font_box_length : (b : Option Bounds) → length (font_box b) ≡ 4
font_box_length None = refl
font_box_length (Some b) = refl
