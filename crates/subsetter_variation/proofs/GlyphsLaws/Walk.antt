-- The touched points below and above a point, one step on.
use Rattle.std.proofs.Common.{◌≡◌, ℕ, ◌+◌, ◌<◌, List, [], ◌∷◌, ◌++◌, length, get_or, take, drop, Option, Some, None, ℤ, refl, ap, sym, ◌∙◌}
use Rattle.std.specs.Option.{option_or, option_map}
use Rattle.std.proofs.lemmas.List.{take_more, drop_more}
use Rattle.std.proofs.lemmas.Option.{slice_get-get_or}
use Rattle.subsetter_variation.specs.declared.glyphs.inference.Point.{Point}
use Rattle.subsetter_variation.specs.declared.glyphs.inference.Touched.{Touched}
use Rattle.subsetter_variation.specs.Glyphs.Inferred.{touched, first_touched, last_touched, before, after, delta_or, inferred, moved, moved_at}

pub or_none : (a : Option Touched) → option_or a None ≡ a
or_none None = refl
or_none (Some x) = refl

pub or_assoc : (a b c : Option Touched) → option_or (option_or a b) c ≡ option_or a (option_or b c)
or_assoc None b c = refl
or_assoc (Some x) b c = refl

last_touched-push : (xs : List Point) (p : Point) → last_touched (xs ++ p ∷ []) ≡ option_or (touched p) (last_touched xs)
last_touched-push [] p = sym (or_none (touched p))
last_touched-push (x ∷ xs) p = ap (λ o. option_or o (touched x)) (last_touched-push xs p) ∙ or_assoc (touched p) (last_touched xs) (touched x)

pub last_touched-take : (c : List Point) (k : ℕ) (d : Point) → k < length c → last_touched (take (k + 1) c) ≡ option_or (touched (get_or c k d)) (last_touched (take k c))
last_touched-take c k d l = ap last_touched (take_more c k d l) ∙ last_touched-push (take k c) (get_or c k d)

pub first_touched-drop : (c : List Point) (k : ℕ) (d : Point) → k < length c → first_touched (drop k c) ≡ option_or (touched (get_or c k d)) (first_touched (drop (k + 1) c))
first_touched-drop c k d l = ap first_touched (drop_more c k d l)

-- where the loop is, the two neighbours are those of the definition, or the point is touched
here : (c : List Point) (k : ℕ) (x s : ℤ) (d : Option ℤ) → first_touched (drop k c) ≡ option_or (option_map (λ y. record { at = x; delta = y }) d) (first_touched (drop (k + 1) c)) → delta_or d x (before c k) (option_or (first_touched (drop k c)) (first_touched c)) s ≡ delta_or d x (before c k) (after c k) s
here c k x s None f = ap (λ o. inferred x (before c k) (option_or o (first_touched c)) s) f
here c k x s (Some d) f = refl

pub moved_here : (c : List Point) (k : ℕ) (d : Point) (s : ℤ) → k < length c → delta_or (get_or c k d).delta (get_or c k d).at (option_or (last_touched (take k c)) (last_touched c)) (option_or (first_touched (drop k c)) (first_touched c)) s ≡ moved c k s
unfolding moved
moved_here c k d s l = here c k (get_or c k d).at s (get_or c k d).delta (first_touched-drop c k d l) ∙ sym (ap (λ o. moved_at o (before c k) (after c k) s) (slice_get-get_or c k d l))

-- what the loop goes on with after a touched point, and after an untouched one
pub after_touched : (c : List Point) (k : ℕ) (d : Point) (t : Touched) → k < length c → touched (get_or c k d) ≡ Some t → Some t ≡ before c (k + 1)
after_touched c k d t l e = sym (ap (λ o. option_or o (last_touched c)) (last_touched-take c k d l ∙ ap (λ o. option_or o (last_touched (take k c))) e))

pub after_untouched : (c : List Point) (k : ℕ) (d : Point) → k < length c → touched (get_or c k d) ≡ None → (before c k ≡ before c (k + 1)) × (option_or (first_touched (drop k c)) (first_touched c) ≡ option_or (first_touched (drop (k + 1) c)) (first_touched c))
after_untouched c k d l e = (
  sym (ap (λ o. option_or o (last_touched c)) (last_touched-take c k d l ∙ ap (λ o. option_or o (last_touched (take k c))) e)),
  ap (λ o. option_or o (first_touched c)) (first_touched-drop c k d l ∙ ap (λ o. option_or o (first_touched (drop (k + 1) c))) e),
)

pub none_left : (o : Option Touched) → ((t : Touched) → o ≡ Some t → ⊥) → o ≡ None
none_left None h = refl
none_left (Some t) h = absurd (h t refl)
