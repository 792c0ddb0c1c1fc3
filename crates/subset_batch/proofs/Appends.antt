-- What a list has while parts are added to it.
use Rattle.std.proofs.Common.{◌≡◌, ℕ, List, [], ◌∷◌, ◌++◌, refl, sym, ap, ◌∙◌, append_assoc, append-nil}

-- with the rest, it will be all
pub record Reaches {A : Type 0} (now rest all : List A) : Type 0 where
  pub is : now ++ rest ≡ all

pub at_first : {A : Type 0} (now rest : List A) → Reaches now rest (now ++ rest)
at_first now rest = record { is = refl }

pub after_part : {A : Type 0} (now new part rest all : List A) → Reaches now (part ++ rest) all → new ≡ now ++ part → Reaches new rest all
after_part now new part rest all h e = record { is = ap (λ xs. xs ++ rest) e ∙ append_assoc now part rest ∙ h.is }

pub at_last : {A : Type 0} (now all : List A) → Reaches now [] all → now ≡ all
at_last now all h = sym (append-nil now) ∙ h.is

pub two_words : (old now new : List (List ℕ)) (a b : List ℕ) → now ≡ old ++ a ∷ [] → new ≡ now ++ b ∷ [] → new ≡ old ++ a ∷ b ∷ []
two_words old now new a b p q = q ∙ ap (λ ws. ws ++ b ∷ []) p ∙ append_assoc old (a ∷ []) (b ∷ [])

pub both_texts : (old now new a b : List ℕ) → now ≡ old ++ a → new ≡ now ++ b → new ≡ old ++ (a ++ b)
both_texts old now new a b p q = q ∙ ap (λ bytes. bytes ++ b) p ∙ append_assoc old a b
