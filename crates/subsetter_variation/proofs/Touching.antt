-- Points that a tuple gives deltas, one after the other.
use Rattle.std.proofs.Common.{◌≡◌, ℕ, suc, ◌≤◌, List, [], ◌∷◌, length, get_or, set, Option, None, ℤ, refl, ap, sym, ◌∙◌, arith, slice_set}
use Rattle.std.specs.Prelude.{zero}
use Rattle.std.proofs.lemmas.List.{length-map, map-set, set-get_or, set_past}
use Rattle.subsetter_variation.specs.declared.glyphs.inference.Point.{Point}
use Rattle.subsetter_variation.specs.Glyphs.Varied.{ats_of, deltas_of, points, untouched}

-- there is no such point
pub past_points : (ps : List Point) (n : ℕ) (d : Option ℤ) → length ps ≤ n → slice_set (deltas_of ps) n d ≡ deltas_of ps
past_points ps n d h = set_past (deltas_of ps) n d (omega (arith, length-map ps (λ (p : Point). p.delta)))

at_of : (ps : List Point) (n : ℕ) (q : Point) → (get_or ps n q).at ≡ get_or (ats_of ps) n q.at
at_of [] n q = refl
at_of (p ∷ ps) zero q = refl
at_of (p ∷ ps) (suc n) q = at_of ps n q

-- a point that is given a delta stays where it is
pub touched_at : (ps : List Point) (n : ℕ) (p q : Point) → q ≡ get_or ps n q → p.at ≡ q.at → ats_of (set ps n p) ≡ ats_of ps
touched_at ps n p q e h =
    map-set (λ (r : Point). r.at) ps n p ∙ ap (λ (x : ℤ). set (ats_of ps) n x) (h ∙ ap (λ (r : Point). r.at) e ∙ at_of ps n q) ∙ set-get_or (ats_of ps) n q.at

-- and has it then
pub touched_delta : (ps : List Point) (n : ℕ) (p : Point) → deltas_of (set ps n p) ≡ slice_set (deltas_of ps) n p.delta
touched_delta ps n p = map-set (λ (r : Point). r.delta) ps n p

-- points are where they lie and the deltas that they have
pub points_again : (ps : List Point) → points (ats_of ps) (deltas_of ps) ≡ ps
points_again [] = refl
points_again (p ∷ ps) = ap (λ l. p ∷ l) (points_again ps)

pub ats_untouched : (cs : List ℤ) → ats_of (untouched cs) ≡ cs
ats_untouched [] = refl
ats_untouched (x ∷ cs) = ap (λ l. x ∷ l) (ats_untouched cs)

pub none_untouched : (cs : List ℤ) (k : ℕ) → get_or (deltas_of (untouched cs)) k None ≡ None
none_untouched [] k = refl
none_untouched (x ∷ cs) zero = refl
none_untouched (x ∷ cs) (suc k) = none_untouched cs k

pub many_deltas : (ps : List Point) (cs : List ℤ) → ats_of ps ≡ cs → length (deltas_of ps) ≡ length cs
many_deltas ps cs e = length-map ps (λ (p : Point). p.delta) ∙ sym (length-map ps (λ (p : Point). p.at)) ∙ ap length e
