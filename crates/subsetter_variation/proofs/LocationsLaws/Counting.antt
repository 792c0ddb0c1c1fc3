-- The ends of segments that count.
use Rattle.std.proofs.Common.{◌≡◌, Bool, true, false, ◌&&◌, List, [], ◌∷◌, ℤ, int_lt, int_le, refl, arith, ◌∙◌}
use Rattle.std.specs.Prelude.{if◌then◌else◌}
use Rattle.std.proofs.lemmas.Int.{ints}
use lib.Signed.{◌≤ℤ◌}
use Rattle.subsetter_variation.specs.Locations.Segments.{counts, counting, counting_from, is_on, keeps, mapped_from, on_segment, stays, topmost}
use Rattle.subsetter_variation.specs.declared.locations.segments.AxisValueMap.{AxisValueMap}

-- ---- they ascend

-- an end comes after another: its number is greater, and its new number isn't less
abbrev pub follows : AxisValueMap → AxisValueMap → Bool
follows p q = int_lt p.from q.from && int_le p.to q.to

abbrev pub ascends_from : AxisValueMap → List AxisValueMap → Bool
ascends_from p [] = true
ascends_from p (q ∷ ends) = follows p q && ascends_from q ends

abbrev pub ascends : List AxisValueMap → Bool
ascends [] = true
ascends (p ∷ ends) = ascends_from p ends

both : (a b : Bool) → a ≡ true → b ≡ true → (a && b) ≡ true
both true b p q = q
both false b p q = absurd cc

first_of : (a b : Bool) → (a && b) ≡ true → a ≡ true
first_of true b h = refl
first_of false b h = absurd cc

second_of : (a b : Bool) → (a && b) ≡ true → b ≡ true
second_of true b h = h
second_of false b h = absurd cc

lower : (x y z : ℤ) → x ≤ℤ y → int_lt y z ≡ true → int_lt x z ≡ true
lower x y z h k = grind (arith, ints)

least : (x : ℤ) → x ≤ℤ x
least x = omega (arith, ints)

no_less : (top from : ℤ) (b : Bool) → int_lt top from ≡ b → from ≤ℤ (if b then from else top)
no_less top from true e = least from
no_less top from false e = grind (arith, ints)

no_lower : (x top from : ℤ) (b : Bool) → int_lt top from ≡ b → x ≤ℤ top → x ≤ℤ (if b then from else top)
no_lower x top from true e h = grind (arith, ints)
no_lower x top from false e h = h

ascend_from : (top : ℤ) (p : AxisValueMap) (ends : List AxisValueMap) → p.from ≤ℤ top → ascends_from p (counting_from top p ends) ≡ true
ascend_from top p [] h = refl
ascend_from top p (q ∷ ends) h =
    by (ascend_from (topmost top q) q ends (no_less top q.from (int_lt top q.from) refl)) (ascend_from (topmost top q) p ends (no_lower p.from top q.from (int_lt top q.from) refl h)) (counts top p q) refl
  where
    by : ascends_from q (counting_from (topmost top q) q ends) ≡ true → ascends_from p (counting_from (topmost top q) p ends) ≡ true → (b : Bool) → counts top p q ≡ b
        → ascends_from p (if b then q ∷ counting_from (topmost top q) q ends else counting_from (topmost top q) p ends) ≡ true
    by more less true e =
        both (follows p q) (ascends_from q (counting_from (topmost top q) q ends))
        (both (int_lt p.from q.from) (int_le p.to q.to) (lower p.from top q.from h (first_of (int_lt top q.from) (int_le p.to q.to) e)) (second_of (int_lt top q.from) (int_le p.to q.to) e)) more
    by more less false e = less

pub counting_ascends : (ends : List AxisValueMap) → ascends (counting ends) ≡ true
counting_ascends [] = refl
counting_ascends (p ∷ ends) = ascend_from p.from p ends (least p.from)

-- ---- steps of the loops over ends

kept_here_by : (number top : ℤ) (last q : AxisValueMap) (ends : List AxisValueMap) (b c : Bool) → stays number q ≡ c → (b && c) ≡ true → true ≡ keeps number (if b then q ∷ counting_from (topmost top q) q ends else counting_from (topmost top q) last ends)
kept_here_by number top last q ends true true e h = rw e refl
kept_here_by number top last q ends true false e h = absurd cc
kept_here_by number top last q ends false c e h = absurd cc

pub kept_here : (number top : ℤ) (last q : AxisValueMap) (ends : List AxisValueMap) (answer : Bool) → (counts top last q && stays number q) ≡ true → keeps number (counting_from top last (q ∷ ends)) ≡ answer → true ≡ answer
kept_here number top last q ends answer h e = kept_here_by number top last q ends (counts top last q) (stays number q) refl h ∙ e

kept_later_by : (number top : ℤ) (last q : AxisValueMap) (ends : List AxisValueMap) (b c : Bool) → stays number q ≡ c → (b && c) ≡ false
    → keeps number (counting_from (topmost top q) (if b then q else last) ends) ≡ keeps number (if b then q ∷ counting_from (topmost top q) q ends else counting_from (topmost top q) last ends)
kept_later_by number top last q ends true true e h = absurd cc
kept_later_by number top last q ends true false e h = rw e refl
kept_later_by number top last q ends false c e h = refl

pub kept_later : (number top : ℤ) (last q : AxisValueMap) (ends : List AxisValueMap) (answer : Bool) → (counts top last q && stays number q) ≡ false → keeps number (counting_from top last (q ∷ ends)) ≡ answer
    → keeps number (counting_from (topmost top q) (if counts top last q then q else last) ends) ≡ answer
kept_later number top last q ends answer h e = kept_later_by number top last q ends (counts top last q) (stays number q) refl h ∙ e

mapped_here_by : (n top : ℤ) (last q : AxisValueMap) (ends : List AxisValueMap) (b c : Bool) → is_on last q n ≡ c → (b && c) ≡ true → on_segment last q n ≡ mapped_from last (if b then q ∷ counting_from (topmost top q) q ends else counting_from (topmost top q) last ends) n
mapped_here_by n top last q ends true true e h = rw e refl
mapped_here_by n top last q ends true false e h = absurd cc
mapped_here_by n top last q ends false c e h = absurd cc

pub mapped_here : (n top : ℤ) (last q : AxisValueMap) (ends : List AxisValueMap) (answer : ℤ) → (counts top last q && is_on last q n) ≡ true → mapped_from last (counting_from top last (q ∷ ends)) n ≡ answer → on_segment last q n ≡ answer
mapped_here n top last q ends answer h e = mapped_here_by n top last q ends (counts top last q) (is_on last q n) refl h ∙ e

mapped_later_by : (n top : ℤ) (last q : AxisValueMap) (ends : List AxisValueMap) (b c : Bool) → is_on last q n ≡ c → (b && c) ≡ false
    → mapped_from (if b then q else last) (counting_from (topmost top q) (if b then q else last) ends) n ≡ mapped_from last (if b then q ∷ counting_from (topmost top q) q ends else counting_from (topmost top q) last ends) n
mapped_later_by n top last q ends true true e h = absurd cc
mapped_later_by n top last q ends true false e h = rw e refl
mapped_later_by n top last q ends false c e h = refl

pub mapped_later : (n top : ℤ) (last q : AxisValueMap) (ends : List AxisValueMap) (answer : ℤ) → (counts top last q && is_on last q n) ≡ false → mapped_from last (counting_from top last (q ∷ ends)) n ≡ answer
    → mapped_from (if counts top last q then q else last) (counting_from (topmost top q) (if counts top last q then q else last) ends) n ≡ answer
mapped_later n top last q ends answer h e = mapped_later_by n top last q ends (counts top last q) (is_on last q n) refl h ∙ e
