-- Lists that are joined, as they are seen and in reading order.
use Rattle.std.proofs.Common.{◌≡◌, ℕ, ◌<◌, List, [], ◌∷◌, ◌++◌, length, get_or, map, reverse, flat_map, refl, sym, ap, ◌∙◌, append-nil}
use Rattle.std.proofs.lemmas.List.{reverse-append, reverse-reverse, length-reverse, get_or-reverse}
use Rattle.std.proofs.lemmas.List.Concat.{flat_map-append}
use mathlib.Core.List.{reverse-cons}
use Rattle.pdf_runs.specs.declared.items.Direction.{Direction}
use Rattle.pdf_runs.specs.declared.items.Direction.TheVariants.{LeftToRight, RightToLeft, TopToBottom}
use Rattle.pdf_runs.specs.Items.{in_reading, visual}

pub visual_twice : {A : Type 0} (d : Direction) (xs : List A) → visual d (visual d xs) ≡ xs
visual_twice LeftToRight xs = refl
visual_twice RightToLeft xs = reverse-reverse xs
visual_twice TopToBottom xs = refl

pub visual_none : {A : Type 0} (d : Direction) → visual {A = A} d [] ≡ []
visual_none LeftToRight = refl
visual_none RightToLeft = refl
visual_none TopToBottom = refl

pub visual_length : {A : Type 0} (d : Direction) (xs : List A) → length (visual d xs) ≡ length xs
visual_length LeftToRight xs = refl
visual_length RightToLeft xs = length-reverse xs
visual_length TopToBottom xs = refl

-- what is seen at a place
pub visual_at : {A : Type 0} (d : Direction) (xs : List A) (place : ℕ) (e : A) → place < length xs → get_or (visual d xs) place e ≡ get_or xs (in_reading d (length xs) place) e
visual_at LeftToRight xs place e l = refl
visual_at RightToLeft xs place e l = get_or-reverse xs place e l
visual_at TopToBottom xs place e l = refl

-- lists that are the same each are the same joined
pub joined_same : {A B : Type 0} (f g : A → List B) (xs : List A) → ((x : A) → f x ≡ g x) → flat_map f xs ≡ flat_map g xs
joined_same f g [] same = refl
joined_same {A} {B} f g (x ∷ xs) same = ap (λ (l : List B). l ++ flat_map f xs) (same x) ∙ ap (λ (l : List B). g x ++ l) (joined_same f g xs same)

-- joined lists of what is joined
pub joined_twice : {A B C : Type 0} (f : B → List C) (g : A → List B) (xs : List A) → flat_map f (flat_map g xs) ≡ flat_map (λ x. flat_map f (g x)) xs
joined_twice f g [] = refl
joined_twice {A} {B} {C} f g (x ∷ xs) = flat_map-append f (g x) (flat_map g xs) ∙ ap (λ (l : List C). flat_map f (g x) ++ l) (joined_twice f g xs)

pub joined_map : {A B C : Type 0} (f : B → List C) (g : A → B) (xs : List A) → flat_map f (map g xs) ≡ flat_map (λ x. f (g x)) xs
joined_map f g [] = refl
joined_map {A} {B} {C} f g (x ∷ xs) = ap (λ (l : List C). f (g x) ++ l) (joined_map f g xs)

reverse_joined : {A B : Type 0} (f : A → List B) (xs : List A) → reverse (flat_map f xs) ≡ flat_map (λ x. reverse (f x)) (reverse xs)
reverse_joined f [] = refl
reverse_joined {A} {B} f (x ∷ xs) =
    let g : A → List B = λ y. reverse (f y) in
    reverse-append (f x) (flat_map f xs)
    ∙ ap (λ (l : List B). l ++ reverse (f x)) (reverse_joined f xs)
    ∙ sym (ap (λ (l : List A). flat_map g l) (reverse-cons x xs)
    ∙ flat_map-append g (reverse xs) (x ∷ [])
    ∙ ap (λ (l : List B). flat_map g (reverse xs) ++ l) (append-nil (reverse (f x))))

-- joined lists in the other order
pub visual_joined : {A B : Type 0} (d : Direction) (f : A → List B) (xs : List A) → visual d (flat_map f xs) ≡ flat_map (λ x. visual d (f x)) (visual d xs)
visual_joined LeftToRight f xs = refl
visual_joined RightToLeft f xs = reverse_joined f xs
visual_joined TopToBottom f xs = refl
