-- How many characters are no marks, in either order, and figures that are cut one character after the other.
use Rattle.std.proofs.Common.{◌≡◌, ℕ, suc, ◌+◌, ◌-◌, ◌/◌, ◌^◌, ◌<◌, ◌≤◌, Bool, true, false, nat_lt, cond, List, [], ◌∷◌, ◌++◌, length, get_or, drop, reverse, refl, sym, ap, ◌∙◌, append_assoc, arith, ℤ, pos, ◌-ℤ◌, None}
use Rattle.std.specs.Prelude.{unsigned_abs}
use Rattle.std.proofs.lemmas.Grind.{common_steps}
use Rattle.std.proofs.lemmas.Int.{ints}
use Rattle.std.proofs.lemmas.List.{drop_more}
use mathlib.Core.List.{reverse-cons}
use Rattle.pdf_runs.specs.declared.items.Direction.{Direction}
use Rattle.pdf_runs.specs.declared.items.Direction.TheVariants.{LeftToRight, RightToLeft, TopToBottom}
use Rattle.pdf_runs.specs.Items.{visual}
use Rattle.pdf_runs.specs.Marks.{is_mark}
use Rattle.pdf_figures.specs.Figures.{Figured, blank, cut, going, ink_parts, own, part_of, rest_of, untitled, wide_count}

-- ---- in either order

suc_on : (b : Bool) (n m : ℕ) → cond b (n + m) (suc (n + m)) ≡ cond b n (suc n) + m
suc_on true n m = refl
suc_on false n m = omega arith

wide_append : (xs ys : List ℕ) → wide_count (xs ++ ys) ≡ wide_count xs + wide_count ys
wide_append [] ys = omega arith
wide_append (x ∷ xs) ys = ap (λ (n : ℕ). cond (is_mark x) n (suc n)) (wide_append xs ys) ∙ suc_on (is_mark x) (wide_count xs) (wide_count ys)

last_on : (b : Bool) (n : ℕ) → n + cond b 0 1 ≡ cond b n (suc n)
last_on true n = omega arith
last_on false n = omega arith

wide_reverse : (xs : List ℕ) → wide_count (reverse xs) ≡ wide_count xs
wide_reverse [] = refl
wide_reverse (x ∷ xs) =
    ap wide_count (reverse-cons x xs)
    ∙ wide_append (reverse xs) (x ∷ [])
    ∙ ap (λ (n : ℕ). n + cond (is_mark x) 0 1) (wide_reverse xs)
    ∙ last_on (is_mark x) (wide_count xs)

pub wide_visual : (d : Direction) (xs : List ℕ) → wide_count (visual d xs) ≡ wide_count xs
wide_visual LeftToRight xs = refl
wide_visual RightToLeft xs = wide_reverse xs
wide_visual TopToBottom xs = refl

few_on : (b : Bool) → nat_lt 1 (cond b 0 1) ≡ false
few_on true = refl
few_on false = refl

few : (xs : List ℕ) → length xs ≤ 1 → nat_lt 1 (wide_count xs) ≡ false
few [] l = refl
few (x ∷ []) l = few_on (is_mark x)
few (x ∷ y ∷ xs) l = absurd (omega arith)

-- one character isn't several
pub few_wide : (d : Direction) (xs : List ℕ) → length xs ≤ 1 → nat_lt 1 (wide_count (visual d xs)) ≡ false
few_wide d xs l = ap (nat_lt 1) (wide_visual d xs) ∙ few xs l

-- ---- one after the other

pub wide_here : (xs : List ℕ) (k e : ℕ) → k < length xs → is_mark (get_or xs k e) ≡ false → wide_count (drop k xs) ≡ suc (wide_count (drop (k + 1) xs))
wide_here xs k e l h = ap wide_count (drop_more xs k e l) ∙ ap (λ (b : Bool). cond b (wide_count (drop (k + 1) xs)) (suc (wide_count (drop (k + 1) xs)))) h

pub mark_here : (xs : List ℕ) (k e : ℕ) → k < length xs → is_mark (get_or xs k e) ≡ true → wide_count (drop k xs) ≡ wide_count (drop (k + 1) xs)
mark_here xs k e l h = ap wide_count (drop_more xs k e l) ∙ ap (λ (b : Bool). cond b (wide_count (drop (k + 1) xs)) (suc (wide_count (drop (k + 1) xs)))) h

pub cut_mark : (f : Figured) (w : ℕ) (xs : List ℕ) (k e : ℕ) → k < length xs → is_mark (get_or xs k e) ≡ true → cut f w (drop k xs) ≡ blank f.text ∷ cut (untitled f) w (drop (k + 1) xs)
cut_mark f w xs k e l h =
    ap (cut f w) (drop_more xs k e l)
    ∙ ap (λ (b : Bool). cond b (blank f.text ∷ cut (untitled f) w (drop (k + 1) xs)) (part_of f w (wide_count (drop (k + 1) xs)) ∷ cut (rest_of f w (wide_count (drop (k + 1) xs))) (w - w / (wide_count (drop (k + 1) xs) + 1)) (drop (k + 1) xs))) h

pub cut_wide : (f : Figured) (w : ℕ) (xs : List ℕ) (k e n : ℕ) → k < length xs → is_mark (get_or xs k e) ≡ false → n ≡ wide_count (drop (k + 1) xs)
    → cut f w (drop k xs) ≡ part_of f w n ∷ cut (rest_of f w n) (w - w / (n + 1)) (drop (k + 1) xs)
cut_wide f w xs k e n l h count =
    ap (cut f w) (drop_more xs k e l)
    ∙ ap (λ (b : Bool). cond b (blank f.text ∷ cut (untitled f) w (drop (k + 1) xs)) (part_of f w (wide_count (drop (k + 1) xs)) ∷ cut (rest_of f w (wide_count (drop (k + 1) xs))) (w - w / (wide_count (drop (k + 1) xs) + 1)) (drop (k + 1) xs))) h
    ∙ sym (ap (λ (m : ℕ). part_of f w m ∷ cut (rest_of f w m) (w - w / (m + 1)) (drop (k + 1) xs)) count)

-- what is put and what is left is all
pub cut_on : (old new : List Figured) (g : Figured) (more rest all : List Figured) → new ≡ old ++ g ∷ [] → more ≡ g ∷ rest → old ++ more ≡ all → new ++ rest ≡ all
cut_on old new g more rest all put next h =
    ap (λ (l : List Figured). l ++ rest) put ∙ append_assoc old (g ∷ []) rest ∙ sym (ap (λ (l : List Figured). old ++ l) next) ∙ h

pub nearer : (z : ℤ) (p n w : ℕ) → p ≤ w → unsigned_abs z + w ≤ n → unsigned_abs (z -ℤ pos p) + (w - p) ≤ n
nearer z p n w l h = grind (arith, ints, common_steps)

-- ---- a figure that is cut up to a character

pub record IsCut (xs : List ℕ) (k : ℕ) (done : List Figured) (f : Figured) (w more : ℕ) (all : List Figured) : Type 0 where
  pub figures : done ++ cut f w (drop k xs) ≡ all
  pub more_are : more ≡ wide_count (drop k xs)
  pub near : unsigned_abs f.x_advance + w ≤ 2 ^ 30 + 2 ^ 16

pub mark_on : (xs : List ℕ) (k e : ℕ) (old new : List Figured) (f g : Figured) (w m : ℕ) (all : List Figured) → k < length xs → is_mark (get_or xs k e) ≡ true → new ≡ old ++ blank f.text ∷ [] → g ≡ untitled f → IsCut xs k old f w m all → IsCut xs (k + 1) new g w m all
mark_on xs k e old new f g w m all l h put same c =
    rw same (record {
      figures = cut_on old new (blank f.text) (cut f w (drop k xs)) (cut (untitled f) w (drop (k + 1) xs)) all put (cut_mark f w xs k e l h) c.figures;
      more_are = c.more_are ∙ mark_here xs k e l h;
      near = c.near;
    })

-- the part of a character with this advance, and what is left
abbrev pub part_with : Figured → ℕ → ℕ → Figured
part_with f p n = record { ink = own (ink_parts f.ink) p; text = f.text; x_advance = going n f.x_advance p; y_advance = f.y_advance; x_offset = f.x_offset; y_offset = f.y_offset }

abbrev pub rest_with : Figured → ℕ → Figured
rest_with f p = record { ink = own [] 0; text = None; x_advance = f.x_advance -ℤ pos p; y_advance = pos 0; x_offset = pos 0; y_offset = pos 0 }

pub wide_on : (xs : List ℕ) (k e : ℕ) (old new : List Figured) (f g : Figured) (w v n m p : ℕ) (all : List Figured) → k < length xs → is_mark (get_or xs k e) ≡ false → n ≡ m - 1 → p ≡ w / (n + 1) → p ≤ w
    → new ≡ old ++ part_with f p n ∷ [] → g ≡ rest_with f p → v ≡ w - p → IsCut xs k old f w m all → IsCut xs (k + 1) new g v n all
wide_on xs k e old new f g w v n m p all l h one is within put same left c =
    let count : n ≡ wide_count (drop (k + 1) xs) = omega (arith, c.more_are, wide_here xs k e l h, one) in
    let next : cut f w (drop k xs) ≡ part_with f p n ∷ cut (rest_with f p) (w - p) (drop (k + 1) xs) =
    cut_wide f w xs k e n l h count ∙ sym (ap (λ (q : ℕ). part_with f q n ∷ cut (rest_with f q) (w - q) (drop (k + 1) xs)) is) in
    rw same (rw left (record {
      figures = cut_on old new (part_with f p n) (cut f w (drop k xs)) (cut (rest_with f p) (w - p) (drop (k + 1) xs)) all put next c.figures;
      more_are = count;
      near = nearer f.x_advance p (2 ^ 30 + 2 ^ 16) w within c.near;
    }))
