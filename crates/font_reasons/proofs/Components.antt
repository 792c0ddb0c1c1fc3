-- Components of a composite, one after another.
use Rattle.std.proofs.Common.{◌≡◌, ℕ, zero, suc, ◌<◌, Bool, true, cond, List, [], ◌∷◌, ◌++◌, Some, None, sym, ap, ◌∙◌, ◌≤◌, length, drop, arith}
use Rattle.std.proofs.lemmas.List.{append-nil, append_assoc}
use Rattle.font_reasons.specs.Outlines.{Component, Reach, Walked, component_at, has_more, levels_below, no_components, reached_below, reached_from, walked, walked_from}

-- some glyphs, and the components that are walked after them
abbrev pub after : List ℕ → Walked → Walked
after front w = record { glyphs = front ++ w.glyphs; is_cut = w.is_cut }

abbrev pub ended : List ℕ → Bool → Walked
ended glyphs is_cut = record { glyphs = glyphs; is_cut = is_cut }

-- none after these
pub no_more : (front : List ℕ) (is_cut : Bool) → ended front is_cut ≡ after front (ended [] is_cut)
no_more front is_cut = ap (λ (l : List ℕ). ended l is_cut) (sym (append-nil front))

-- a component that is cut
pub cut_here : (n : ℕ) (front bytes : List ℕ) (total : Walked) → 0 < n → component_at bytes ≡ None → after front (walked n bytes) ≡ total → ended front true ≡ total
cut_here zero front bytes total lt e h = absurd (omega arith)
cut_here (suc n) front bytes total lt e h = no_more front true ∙ (sym (ap (λ c. after front (walked_from (walked n) c)) e) ∙ h)

-- one that is there, and those after it, if there are any
pub next_walked : (n k : ℕ) (front bytes : List ℕ) (c : Component) (more : Bool) (total : Walked) → n ≡ suc k → Some c ≡ component_at bytes → more ≡ has_more c.flags
    → after front (walked n bytes) ≡ total → after (front ++ c.glyph ∷ []) (cond more (walked k c.after) no_components) ≡ total
next_walked n k front bytes c more total is e m h =
    ap (λ (b : Bool). after (front ++ c.glyph ∷ []) (cond b (walked k c.after) no_components)) m
    ∙ (ap (λ (l : List ℕ). ended l (cond (has_more c.flags) (walked k c.after) no_components).is_cut) (append_assoc front (c.glyph ∷ []) (cond (has_more c.flags) (walked k c.after) no_components).glyphs)
    ∙ (ap (λ x. after front (walked_from (walked k) x)) e ∙ (sym (ap (λ m. after front (walked m bytes)) is) ∙ h)))

-- a level, before those below it
module _ (glyf loca : List ℕ) (format n k : ℕ) (r new : Reach) (level total : List ℕ) where
  pub one_below : (from : ℕ) → n ≡ suc k → level ≡ drop from r.seen → new ≡ reached_from glyf loca format r level → reached_below glyf loca format n from r ≡ total → reached_below glyf loca format k (length r.seen) new ≡ total
  one_below from is l w h =
      ap (reached_below glyf loca format k (length r.seen)) (w ∙ ap (reached_from glyf loca format r) l) ∙ (sym (ap (λ m. reached_below glyf loca format m from r) is) ∙ h)

  pub one_deeper : (fresh : List ℕ) → n ≡ suc k → level ≡ drop 1 r.seen → fresh ≡ 0 ∷ [] → new ≡ reached_from glyf loca format (record { steps = r.steps; seen = fresh }) level → levels_below glyf loca format n r ≡ total
      → levels_below glyf loca format k new ≡ total
  unfolding levels_below
  one_deeper fresh is l f w h =
      ap (levels_below glyf loca format k) (w ∙ (ap (λ (s : List ℕ). reached_from glyf loca format (record { steps = r.steps; seen = s }) level) f ∙ ap (reached_from glyf loca format (record { steps = r.steps; seen = 0 ∷ [] })) l))
      ∙ (sym (ap (λ m. levels_below glyf loca format m r) is) ∙ h)

pub last_level : (glyf loca : List ℕ) (format n : ℕ) (r : Reach) (level total : List ℕ) → n ≤ 0 → level ≡ drop 1 r.seen → levels_below glyf loca format n r ≡ total → level ≡ total
unfolding levels_below
last_level glyf loca format zero r level total le l h = l ∙ h
last_level glyf loca format (suc n) r level total le l h = absurd (omega arith)
