-- A path that is followed from point to point has the least box around its points.
use Rattle.std.proofs.Common.{◌≡◌, List, [], ◌∷◌, ◌++◌, Option, Some, None, refl, sym, ap, ◌∙◌}
use Rattle.std.specs.Prelude.{option_map}
use Rattle.std.specs.Option.{option_and_then}
use Rattle.subsetter_blend.specs.declared.writing.placing.Position.{Position}
use Rattle.subsetter_blend.specs.Drawing.{event_drawn, events_drawn}
use Rattle.subsetter_blend.specs.Drawn.{Segment, Move, Line, Curve, point_after}
use Rattle.subsetter_blend.specs.Writing.Placed.{origin}
use Rattle.subsetter_blend.specs.Writing.Taking.{Event}
use Rattle.subsetter_points.specs.declared.bounds.Bounds.{Bounds}
use Rattle.subsetter_boxes.specs.Joined.{joined}
use Rattle.subsetter_boxes.specs.declared.pen.Pen.{Pen}
use Rattle.subsetter_boxes.specs.CharstringBox.{points, point_box, least}
use Rattle.subsetter_boxes.specs.Traced.{visited, followed, event_traced, pen_start}
use Rattle.subsetter_boxes.proofs.Around.{joined_assoc, joined_none}

-- the pen after a point, and after some with a box around them
abbrev pen_with : Position → Pen → Bounds → Pen
pen_with to pen own = record { at = to; bounds = joined pen.bounds (Some own) }

abbrev last_point : Position → List Position → Position
last_point at [] = at
last_point at (p ∷ ps) = last_point p ps

abbrev pen_after : Pen → List Position → Option Bounds → Pen
pen_after pen ps box = record { at = last_point pen.at ps; bounds = joined pen.bounds box }

visited_is : (to : Position) (pen : Pen) → visited to pen ≡ option_map (pen_with to pen) (point_box to)
unfolding visited
visited_is to pen = refl

-- ---- the box around the points that were followed
others_more : (p : Position) (ps : List Position) (pen : Pen) (own : Bounds) (q : Option (Option Bounds))
    → option_map (pen_after (pen_with p pen own) ps) q ≡ option_map (pen_after pen (p ∷ ps)) (option_and_then (λ others. Some (joined (Some own) others)) q)
others_more p ps pen own None = refl
others_more p ps pen own (Some box) = ap (λ (b : Option Bounds). Some (record { at = last_point p ps; bounds = b })) (joined_assoc pen.bounds (Some own) box)

point_more : (p : Position) (ps : List Position) (pen : Pen) (o : Option Bounds) → ((next : Pen) → followed ps next ≡ option_map (pen_after next ps) (least ps))
    → option_and_then (followed ps) (option_map (pen_with p pen) o) ≡ option_map (pen_after pen (p ∷ ps)) (option_and_then (λ own. option_and_then (λ others. Some (joined (Some own) others)) (least ps)) o)
point_more p ps pen None ih = refl
point_more p ps pen (Some own) ih = ih (pen_with p pen own) ∙ others_more p ps pen own (least ps)

pub followed_least : (ps : List Position) (pen : Pen) → followed ps pen ≡ option_map (pen_after pen ps) (least ps)
followed_least [] pen = ap (λ (b : Option Bounds). Some (record { at = pen.at; bounds = b })) (sym (joined_none pen.bounds))
followed_least (p ∷ ps) pen = ap (λ (o : Option Pen). option_and_then (followed ps) o) (visited_is p pen) ∙ point_more p ps pen (point_box p) (λ next. followed_least ps next)

-- ---- where it ends
points_end : (at : Position) (segments : List Segment) → last_point at (points segments) ≡ point_after at segments
points_end at [] = refl
points_end at (Move to ∷ segments) = points_end to segments
points_end at (Line to ∷ segments) = points_end to segments
points_end at (Curve first second to ∷ segments) = points_end to segments

mapped_end : (pen next : Pen) (ps : List Position) (q : Option (Option Bounds)) → option_map (pen_after pen ps) q ≡ Some next → next.at ≡ last_point pen.at ps
mapped_end pen next ps None h = absurd (cc)
mapped_end pen next ps (Some box) h = let same : ◌≡◌ {A = Pen} (pen_after pen ps box) next = cc in sym (ap (λ (p : Pen). p.at) same)

pub followed_end : (pen next : Pen) (segments : List Segment) → followed (points segments) pen ≡ Some next → next.at ≡ point_after pen.at segments
followed_end pen next segments h = mapped_end pen next (points segments) (least (points segments)) (sym (followed_least (points segments) pen) ∙ h) ∙ points_end pen.at segments

-- ---- one path after another
pub points_both : (a b : List Segment) → points (a ++ b) ≡ points a ++ points b
points_both [] b = refl
points_both (Move to ∷ a) b = ap (λ (ps : List Position). to ∷ ps) (points_both a b)
points_both (Line to ∷ a) b = ap (λ (ps : List Position). to ∷ ps) (points_both a b)
points_both (Curve first second to ∷ a) b = ap (λ (ps : List Position). first ∷ second ∷ to ∷ ps) (points_both a b)

then_both : (ps qs : List Position) (o : Option Pen) → ((next : Pen) → followed (ps ++ qs) next ≡ option_and_then (followed qs) (followed ps next))
    → option_and_then (followed (ps ++ qs)) o ≡ option_and_then (followed qs) (option_and_then (followed ps) o)
then_both ps qs None ih = refl
then_both ps qs (Some next) ih = ih next

pub followed_both : (ps qs : List Position) (pen : Pen) → followed (ps ++ qs) pen ≡ option_and_then (followed qs) (followed ps pen)
followed_both [] qs pen = refl
followed_both (p ∷ ps) qs pen = then_both ps qs (visited p pen) (λ next. followed_both ps qs next)

-- ---- events, one after the other
abbrev pub all_traced : List Event → Pen → Option Pen
all_traced [] pen = Some pen
all_traced (e ∷ es) pen = option_and_then (all_traced es) (event_traced e pen)

event_more : (e : Event) (es : List Event) (pen : Pen) (o : Option Pen) → followed (points (event_drawn e pen.at)) pen ≡ o
    → ((next : Pen) → all_traced es next ≡ followed (points (events_drawn next.at es)) next)
    → option_and_then (all_traced es) o ≡ option_and_then (followed (points (events_drawn (point_after pen.at (event_drawn e pen.at)) es))) o
event_more e es pen None f ih = refl
event_more e es pen (Some next) f ih = ih next ∙ ap (λ (at : Position). followed (points (events_drawn at es)) next) (followed_end pen next (event_drawn e pen.at) f)

pub events_followed : (es : List Event) (pen : Pen) → all_traced es pen ≡ followed (points (events_drawn pen.at es)) pen
events_followed [] pen = refl
events_followed (e ∷ es) pen =
    let following = events_drawn (point_after pen.at (event_drawn e pen.at)) es in
    event_more e es pen (followed (points (event_drawn e pen.at)) pen) refl (λ next. events_followed es next)
    ∙ sym (followed_both (points (event_drawn e pen.at)) (points following) pen)
    ∙ ap (λ (ps : List Position). followed ps pen) (sym (points_both (event_drawn e pen.at) following))

-- ---- from the origin on
bounds_are : (ps : List Position) (q : Option (Option Bounds)) → option_and_then (λ p. p.bounds) (option_map (pen_after pen_start ps) q) ≡ option_and_then (λ box. box) q
bounds_are ps None = refl
bounds_are ps (Some box) = refl

pub traced_box : (es : List Event) → option_and_then (λ p. p.bounds) (all_traced es pen_start) ≡ option_and_then (λ box. box) (least (points (events_drawn origin es)))
traced_box es =
    let ps = points (events_drawn origin es) in
    ap (λ (o : Option Pen). option_and_then (λ p. p.bounds) o) (events_followed es pen_start ∙ followed_least ps pen_start)
    ∙ bounds_are ps (least ps)
