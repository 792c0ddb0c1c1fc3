-- Words that are there if something holds.
use Rattle.std.proofs.Common.{◌≡◌, ℕ, List, ◌++◌, ap, ◌∙◌, Result, Ok, Err, Bool}
use Rattle.std.specs.Prelude.{IfOk}
use Rattle.subset_lines.specs.Faces.Info.{word_if}

pub word_next : (before said words : List (List ℕ)) (holds is : Bool) (word : List ℕ) → words ≡ before ++ word_if holds word → before ≡ said → holds ≡ is → words ≡ said ++ word_if is word
word_next before said words holds is word e f g = e ∙ ap (λ l. l ++ word_if holds word) f ∙ ap (λ b. said ++ word_if b word) g

pub word_last : {T E : Type 0} (r : Result T E) (view : T → List (List ℕ)) (before said : List (List ℕ)) (holds is : Bool) (word : List ℕ) → IfOk r (λ v. view v ≡ before ++ word_if holds word) → before ≡ said → holds ≡ is → IfOk r (λ v. view v ≡ said ++ word_if is word)
word_last (Ok v) view before said holds is word e f g = word_next before said (view v) holds is word e f g
word_last (Err e) view before said holds is word x f g = tt
