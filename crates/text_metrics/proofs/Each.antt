-- Lists that are made one by one: with what is left they are all.
use Rattle.std.proofs.Common.{◌≡◌, ℕ, suc, ◌+◌, List, [], ◌∷◌, ◌++◌, sym, ap, ◌∙◌, append_assoc, append-nil}
use Rattle.text_metrics.specs.Ink.{each_from}

pub each_more : {A : Type 0} (f : ℕ → A) (xs all : List A) (x : A) (g n m : ℕ) → n ≡ suc m → x ≡ f g → xs ++ each_from f g n ≡ all → (xs ++ x ∷ []) ++ each_from f (g + 1) m ≡ all
each_more f xs all x g n m e is h = rw (is) (append_assoc xs (f g ∷ []) (each_from f (g + 1) m) ∙ ap (λ k. xs ++ each_from f g k) (sym e) ∙ h)

pub each_done : {A : Type 0} (f : ℕ → A) (xs all : List A) (g n : ℕ) → n ≡ 0 → xs ++ each_from f g n ≡ all → xs ≡ all
each_done f xs all g n e h = sym (append-nil xs) ∙ ap (λ k. xs ++ each_from f g k) (sym e) ∙ h
