-- A figure that is cut into the characters that it says.
use Rattle.std.proofs.Common.{◌≡◌, ℕ, zero, suc, ◌+◌, ◌-◌, ◌/◌, ◌≤◌, ◌==◌, Bool, true, false, cond, ◌&&◌, not, nat_lt, List, [], ◌∷◌, ◌++◌, map, Option, None, option_to_list, refl, sym, ap, ◌∙◌, append-nil, arith, ltb-true, ℤ, pos, ◌+ℤ◌, ◌-ℤ◌, Bor}
use Rattle.std.proofs.lemmas.Int.{ints}
use lib.IntN.{+ℤ_idl, +ℤ_idr}
use Rattle.pdf_runs.specs.Laws.{Drawn, total}
use Rattle.pdf_runs.specs.Marks.{is_mark}
use Rattle.pdf_figures.specs.declared.choice.Choice.{Choice}
use Rattle.pdf_figures.specs.Figures.{Figured, Ink, blank, cut, cut_one, glyph, going, in_parts, ink_advance, ink_parts, is_bare, is_divisible, is_divisible_ink, own, part_of, rest_of, untitled, wide_count}
use Rattle.pdf_figures.specs.Laws.{moved_by, shown, shown_at, texts_of}

abbrev pub x_of : Figured → ℤ
x_of f = f.x_advance

abbrev pub y_of : Figured → ℤ
y_of f = f.y_advance

abbrev pub text_in : Figured → Option (Bor (List ℕ))
text_in f = f.text

-- ---- how far the pen goes on

-- with marks alone, not at all
still_by : (b : Bool) (f : Figured) (w : ℕ) (cs : List ℕ) → cond b (wide_count cs) (suc (wide_count cs)) ≡ 0 → (wide_count cs ≡ 0 → total x_of (cut (untitled f) w cs) ≡ pos 0)
    → total x_of (cond b (blank f.text ∷ cut (untitled f) w cs) (part_of f w (wide_count cs) ∷ cut (rest_of f w (wide_count cs)) (w - w / (wide_count cs + 1)) cs)) ≡ pos 0
still_by true f w cs e later = +ℤ_idl (total x_of (cut (untitled f) w cs)) ∙ later e
still_by false f w cs e later = absurd (omega arith)

still : (f : Figured) (w : ℕ) (cs : List ℕ) → wide_count cs ≡ 0 → total x_of (cut f w cs) ≡ pos 0
still f w [] e = refl
still f w (c ∷ cs) e = still_by (is_mark c) f w cs e (λ h. still (untitled f) w cs h)

back_and_on : (p z : ℤ) → p +ℤ (z -ℤ p) ≡ z
back_and_on p z = omega (arith, ints)

-- where the last part goes all the way, and each other as far as it is wide
last_by : (n : ℕ) (f : Figured) (w v : ℕ) (cs : List ℕ) → wide_count cs ≡ n → ((g : Figured) (u k : ℕ) → wide_count cs ≡ suc k → total x_of (cut g u cs) ≡ g.x_advance)
    → going n f.x_advance w +ℤ total x_of (cut (record { ink = own [] 0; text = None; x_advance = f.x_advance -ℤ pos w; y_advance = pos 0; x_offset = pos 0; y_offset = pos 0 }) v cs) ≡ f.x_advance
last_by zero f w v cs e later =
    ap (λ (z : ℤ). f.x_advance +ℤ z) (still (record { ink = own [] 0; text = None; x_advance = f.x_advance -ℤ pos w; y_advance = pos 0; x_offset = pos 0; y_offset = pos 0 }) v cs e) ∙ +ℤ_idr f.x_advance
last_by (suc k) f w v cs e later =
    ap (λ (z : ℤ). pos w +ℤ z) (later (record { ink = own [] 0; text = None; x_advance = f.x_advance -ℤ pos w; y_advance = pos 0; x_offset = pos 0; y_offset = pos 0 }) v k e) ∙ back_and_on (pos w) f.x_advance

all_by : (b : Bool) (f : Figured) (w : ℕ) (cs : List ℕ) (m : ℕ) → cond b (wide_count cs) (suc (wide_count cs)) ≡ suc m → ((g : Figured) (u k : ℕ) → wide_count cs ≡ suc k → total x_of (cut g u cs) ≡ g.x_advance)
    → total x_of (cond b (blank f.text ∷ cut (untitled f) w cs) (part_of f w (wide_count cs) ∷ cut (rest_of f w (wide_count cs)) (w - w / (wide_count cs + 1)) cs)) ≡ f.x_advance
all_by true f w cs m e later = +ℤ_idl (total x_of (cut (untitled f) w cs)) ∙ later (untitled f) w m e
all_by false f w cs m e later = last_by (wide_count cs) f (w / (wide_count cs + 1)) (w - w / (wide_count cs + 1)) cs refl later

-- with a character that is no mark, as far as the figure
x_cut : (f : Figured) (w : ℕ) (cs : List ℕ) (m : ℕ) → wide_count cs ≡ suc m → total x_of (cut f w cs) ≡ f.x_advance
x_cut f w [] m e = absurd (omega arith)
x_cut f w (c ∷ cs) m e = all_by (is_mark c) f w cs m e (λ g u k h. x_cut g u cs k h)

-- upwards
level_by : (b : Bool) (f : Figured) (w : ℕ) (cs : List ℕ) → f.y_advance ≡ pos 0 → ((g : Figured) (u : ℕ) → g.y_advance ≡ pos 0 → total y_of (cut g u cs) ≡ pos 0)
    → total y_of (cond b (blank f.text ∷ cut (untitled f) w cs) (part_of f w (wide_count cs) ∷ cut (rest_of f w (wide_count cs)) (w - w / (wide_count cs + 1)) cs)) ≡ pos 0
level_by true f w cs e later = +ℤ_idl (total y_of (cut (untitled f) w cs)) ∙ later (untitled f) w e
level_by false f w cs e later =
    ap (λ (z : ℤ). f.y_advance +ℤ z) (later (rest_of f w (wide_count cs)) (w - w / (wide_count cs + 1)) refl) ∙ +ℤ_idr f.y_advance ∙ e

level : (f : Figured) (w : ℕ) (cs : List ℕ) → f.y_advance ≡ pos 0 → total y_of (cut f w cs) ≡ pos 0
level f w [] e = refl
level f w (c ∷ cs) e = level_by (is_mark c) f w cs e (λ g u h. level g u cs h)

up_by : (b : Bool) (f : Figured) (w : ℕ) (cs : List ℕ) (m : ℕ) → cond b (wide_count cs) (suc (wide_count cs)) ≡ suc m → (wide_count cs ≡ suc m → total y_of (cut (untitled f) w cs) ≡ f.y_advance)
    → total y_of (cond b (blank f.text ∷ cut (untitled f) w cs) (part_of f w (wide_count cs) ∷ cut (rest_of f w (wide_count cs)) (w - w / (wide_count cs + 1)) cs)) ≡ f.y_advance
up_by true f w cs m e later = +ℤ_idl (total y_of (cut (untitled f) w cs)) ∙ later e
up_by false f w cs m e later =
    ap (λ (z : ℤ). f.y_advance +ℤ z) (level (rest_of f w (wide_count cs)) (w - w / (wide_count cs + 1)) cs refl) ∙ +ℤ_idr f.y_advance

y_cut : (f : Figured) (w : ℕ) (cs : List ℕ) (m : ℕ) → wide_count cs ≡ suc m → total y_of (cut f w cs) ≡ f.y_advance
y_cut f w [] m e = absurd (omega arith)
y_cut f w (c ∷ cs) m e = up_by (is_mark c) f w cs m e (λ h. y_cut (untitled f) w cs m h)

-- ---- texts

bare_texts_by : (b : Bool) (f : Figured) (w : ℕ) (cs : List ℕ) → f.text ≡ None → ((g : Figured) (u : ℕ) → g.text ≡ None → texts_of (cut g u cs) ≡ [])
    → texts_of (cond b (blank f.text ∷ cut (untitled f) w cs) (part_of f w (wide_count cs) ∷ cut (rest_of f w (wide_count cs)) (w - w / (wide_count cs + 1)) cs)) ≡ []
bare_texts_by true f w cs e later = ap (λ (t : Option (Bor (List ℕ))). option_to_list t ++ texts_of (cut (untitled f) w cs)) e ∙ later (untitled f) w refl
bare_texts_by false f w cs e later =
    ap (λ (t : Option (Bor (List ℕ))). option_to_list t ++ texts_of (cut (rest_of f w (wide_count cs)) (w - w / (wide_count cs + 1)) cs)) e
    ∙ later (rest_of f w (wide_count cs)) (w - w / (wide_count cs + 1)) refl

bare_texts : (f : Figured) (w : ℕ) (cs : List ℕ) → f.text ≡ None → texts_of (cut f w cs) ≡ []
bare_texts f w [] e = refl
bare_texts f w (c ∷ cs) e = bare_texts_by (is_mark c) f w cs e (λ g u h. bare_texts g u cs h)

title_by : (b : Bool) (f : Figured) (w : ℕ) (cs : List ℕ)
    → texts_of (cond b (blank f.text ∷ cut (untitled f) w cs) (part_of f w (wide_count cs) ∷ cut (rest_of f w (wide_count cs)) (w - w / (wide_count cs + 1)) cs)) ≡ option_to_list f.text
title_by true f w cs = ap (λ (l : List (Bor (List ℕ))). option_to_list f.text ++ l) (bare_texts (untitled f) w cs refl) ∙ append-nil (option_to_list f.text)
title_by false f w cs =
    ap (λ (l : List (Bor (List ℕ))). option_to_list f.text ++ l) (bare_texts (rest_of f w (wide_count cs)) (w - w / (wide_count cs + 1)) cs refl)
    ∙ append-nil (option_to_list f.text)

-- the first has the figure's text
texts_cut : (f : Figured) (w : ℕ) (cs : List ℕ) (m : ℕ) → wide_count cs ≡ suc m → texts_of (cut f w cs) ≡ option_to_list f.text
texts_cut f w [] m e = absurd (omega arith)
texts_cut f w (c ∷ cs) m e = title_by (is_mark c) f w cs

-- ---- what is drawn

inkless_by : (b : Bool) (inked : List Bool) (x y : ℤ) (f : Figured) (w : ℕ) (cs : List ℕ) → ink_parts f.ink ≡ [] → ((x y : ℤ) (g : Figured) (u : ℕ) → ink_parts g.ink ≡ [] → shown inked x y (cut g u cs) ≡ [])
    → shown inked x y (cond b (blank f.text ∷ cut (untitled f) w cs) (part_of f w (wide_count cs) ∷ cut (rest_of f w (wide_count cs)) (w - w / (wide_count cs + 1)) cs)) ≡ []
inkless_by true inked x y f w cs e later = later (x +ℤ pos 0) (y +ℤ pos 0) (untitled f) w e
inkless_by false inked x y f w cs e later =
    let n : ℕ = wide_count cs in
    let rest : List Drawn = shown inked (x +ℤ going n f.x_advance (w / (n + 1))) (y +ℤ f.y_advance) (cut (rest_of f w n) (w - w / (n + 1)) cs) in
    ap (λ (l : List Drawn). map (moved_by (x +ℤ f.x_offset) (y +ℤ f.y_offset)) l ++ rest) e
    ∙ later (x +ℤ going n f.x_advance (w / (n + 1))) (y +ℤ f.y_advance) (rest_of f w n) (w - w / (n + 1)) refl

-- a figure without ink draws nothing
inkless : (inked : List Bool) (x y : ℤ) (f : Figured) (w : ℕ) (cs : List ℕ) → ink_parts f.ink ≡ [] → shown inked x y (cut f w cs) ≡ []
inkless inked x y f w [] e = refl
inkless inked x y f w (c ∷ cs) e = inkless_by (is_mark c) inked x y f w cs e (λ x y g u h. inkless inked x y g u cs h)

ink_by : (b : Bool) (inked : List Bool) (x y : ℤ) (f : Figured) (w : ℕ) (cs : List ℕ) (m : ℕ) → cond b (wide_count cs) (suc (wide_count cs)) ≡ suc m
    → (wide_count cs ≡ suc m → (x y : ℤ) → shown inked x y (cut (untitled f) w cs) ≡ map (moved_by (x +ℤ f.x_offset) (y +ℤ f.y_offset)) (ink_parts f.ink))
    → shown inked x y (cond b (blank f.text ∷ cut (untitled f) w cs) (part_of f w (wide_count cs) ∷ cut (rest_of f w (wide_count cs)) (w - w / (wide_count cs + 1)) cs)) ≡ map (moved_by (x +ℤ f.x_offset) (y +ℤ f.y_offset)) (ink_parts f.ink)
ink_by true inked x y f w cs m e later =
    later e (x +ℤ pos 0) (y +ℤ pos 0)
    ∙ ap (λ (z : ℤ). map (moved_by (z +ℤ f.x_offset) ((y +ℤ pos 0) +ℤ f.y_offset)) (ink_parts f.ink)) (+ℤ_idr x)
    ∙ ap (λ (z : ℤ). map (moved_by (x +ℤ f.x_offset) (z +ℤ f.y_offset)) (ink_parts f.ink)) (+ℤ_idr y)
ink_by false inked x y f w cs m e later =
    let n : ℕ = wide_count cs in
    let parts : List Drawn = map (moved_by (x +ℤ f.x_offset) (y +ℤ f.y_offset)) (ink_parts f.ink) in
    ap (λ (l : List Drawn). parts ++ l) (inkless inked (x +ℤ going n f.x_advance (w / (n + 1))) (y +ℤ f.y_advance) (rest_of f w n) (w - w / (n + 1)) cs refl)
    ∙ append-nil parts

-- with a character that is no mark, its ink is drawn once
ink_cut : (inked : List Bool) (x y : ℤ) (f : Figured) (w : ℕ) (cs : List ℕ) (m : ℕ) → wide_count cs ≡ suc m → shown inked x y (cut f w cs) ≡ map (moved_by (x +ℤ f.x_offset) (y +ℤ f.y_offset)) (ink_parts f.ink)
ink_cut inked x y f w [] m e = absurd (omega arith)
ink_cut inked x y f w (c ∷ cs) m e = ink_by (is_mark c) inked x y f w cs m e (λ h x y. ink_cut inked x y (untitled f) w cs m h)

-- ---- where it can be cut

pub both : (a b : Bool) → (a && b) ≡ true → (a ≡ true) × (b ≡ true)
both true b e = (refl, e)
both false b e = absurd cc

one_more : (n : ℕ) → nat_lt 1 n ≡ true → n ≡ suc (n - 1)
one_more n e = let l : 1 ≤ n = omega (arith, ltb-true 1 n e) in omega arith

x_one_by : (b : Bool) (f : Figured) (w : ℕ) (cs : List ℕ) → (b ≡ true → nat_lt 1 (wide_count cs) ≡ true) → total x_of (cond b (cut (in_parts f) w cs) (f ∷ [])) ≡ f.x_advance
x_one_by true f w cs h = x_cut (in_parts f) w cs (wide_count cs - 1) (one_more (wide_count cs) (h refl))
x_one_by false f w cs h = +ℤ_idr f.x_advance

pub x_one : (c : Choice) (cs : List ℕ) (f : Figured) → total x_of (cut_one c cs f) ≡ f.x_advance
x_one c cs f = x_one_by (nat_lt 1 (wide_count cs) && is_divisible c f) f (ink_advance c f.ink) cs (λ e. (both (nat_lt 1 (wide_count cs)) (is_divisible c f) e).0)

y_one_by : (b : Bool) (f : Figured) (w : ℕ) (cs : List ℕ) → (b ≡ true → nat_lt 1 (wide_count cs) ≡ true) → total y_of (cond b (cut (in_parts f) w cs) (f ∷ [])) ≡ f.y_advance
y_one_by true f w cs h = y_cut (in_parts f) w cs (wide_count cs - 1) (one_more (wide_count cs) (h refl))
y_one_by false f w cs h = +ℤ_idr f.y_advance

pub y_one : (c : Choice) (cs : List ℕ) (f : Figured) → total y_of (cut_one c cs f) ≡ f.y_advance
y_one c cs f = y_one_by (nat_lt 1 (wide_count cs) && is_divisible c f) f (ink_advance c f.ink) cs (λ e. (both (nat_lt 1 (wide_count cs)) (is_divisible c f) e).0)

texts_one_by : (b : Bool) (f : Figured) (w : ℕ) (cs : List ℕ) → (b ≡ true → nat_lt 1 (wide_count cs) ≡ true) → texts_of (cond b (cut (in_parts f) w cs) (f ∷ [])) ≡ option_to_list f.text
texts_one_by true f w cs h = texts_cut (in_parts f) w cs (wide_count cs - 1) (one_more (wide_count cs) (h refl))
texts_one_by false f w cs h = append-nil (option_to_list f.text)

pub texts_one : (c : Choice) (cs : List ℕ) (f : Figured) → texts_of (cut_one c cs f) ≡ option_to_list f.text
texts_one c cs f = texts_one_by (nat_lt 1 (wide_count cs) && is_divisible c f) f (ink_advance c f.ink) cs (λ e. (both (nat_lt 1 (wide_count cs)) (is_divisible c f) e).0)

pub opposite : (b : Bool) → not b ≡ true → b ≡ false
opposite true e = absurd cc
opposite false e = refl

at_zero : (x y : ℤ) (g : ℕ) → moved_by x y (record { glyph = g; x = pos 0; y = pos 0 }) ≡ record { glyph = g; x = x; y = y }
at_zero x y g = ap (λ (z : ℤ). record { glyph = g; x = z; y = y +ℤ pos 0 }) (+ℤ_idr x) ∙ ap (λ (z : ℤ). record { glyph = g; x = x; y = z }) (+ℤ_idr y)

-- the parts of the ink are what the figure draws
parts_by : (i : Ink) (c : Choice) (x y : ℤ) (f : Figured) → is_divisible_ink c f i ≡ true → map (moved_by x y) (ink_parts i) ≡ shown_at c.inked.now f i x y
parts_by (glyph g) c x y f e =
    let first : (not (g == 0) && not (is_bare c.inked.now f g)) ≡ true = (both (not (g == 0) && not (is_bare c.inked.now f g)) _ e).0 in
    let inked : is_bare c.inked.now f g ≡ false = opposite (is_bare c.inked.now f g) (both (not (g == 0)) (not (is_bare c.inked.now f g)) first).1 in
    ap (λ (p : Drawn). p ∷ []) (at_zero x y g) ∙ sym (ap (λ (b : Bool). cond b [] (record { glyph = g; x = x; y = y } ∷ [])) inked)
parts_by (own ps a) c x y f e = refl

shown_one_by : (b : Bool) (c : Choice) (x y : ℤ) (f : Figured) (w : ℕ) (cs : List ℕ) → (b ≡ true → (nat_lt 1 (wide_count cs) ≡ true) × (is_divisible_ink c f f.ink ≡ true))
    → shown c.inked.now x y (cond b (cut (in_parts f) w cs) (f ∷ [])) ≡ shown_at c.inked.now f f.ink (x +ℤ f.x_offset) (y +ℤ f.y_offset)
shown_one_by true c x y f w cs h = ink_cut c.inked.now x y (in_parts f) w cs (wide_count cs - 1) (one_more (wide_count cs) (h refl).0) ∙ parts_by f.ink c (x +ℤ f.x_offset) (y +ℤ f.y_offset) f (h refl).1
shown_one_by false c x y f w cs h = append-nil (shown_at c.inked.now f f.ink (x +ℤ f.x_offset) (y +ℤ f.y_offset))

pub shown_one : (c : Choice) (cs : List ℕ) (x y : ℤ) (f : Figured) → shown c.inked.now x y (cut_one c cs f) ≡ shown_at c.inked.now f f.ink (x +ℤ f.x_offset) (y +ℤ f.y_offset)
shown_one c cs x y f =
    shown_one_by (nat_lt 1 (wide_count cs) && is_divisible c f) c x y f (ink_advance c f.ink) cs
    (λ e. let two : (nat_lt 1 (wide_count cs) ≡ true) × (is_divisible c f ≡ true) = both (nat_lt 1 (wide_count cs)) (is_divisible c f) e in (two.0, (both (is_divisible_ink c f f.ink) _ two.1).0))
