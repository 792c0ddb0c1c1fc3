-- Names of `post` after their length bytes.
use Rattle.std.proofs.Common.{◌≡◌, ℕ, suc, ◌+◌, ◌%◌, ◌<◌, ◌≤◌, List, [], ◌∷◌, cond, length, get_or, take, drop, ap, sym, ◌∙◌, arith}
use Rattle.std.proofs.lemmas.Bool.{lt-leb}
use Rattle.std.proofs.lemmas.List.{length-take-le}
use Rattle.subsetter.specs.Common.Post.Read.{names_in, pascal_strings, pascal_bytes}
use Rattle.subsetter.proofs.CommonLaws.PostLaws.Indexes.{first_name}

-- the first name, where it is whole
pub entry_there : (bytes rest : List ℕ) (len : ℕ) → bytes ≡ len ∷ rest → len ≤ length rest → len < 256 → take (len + 1) bytes ≡ pascal_bytes (get_or (names_in bytes) 0 [])
entry_there bytes rest len is le lt =
    let size : len ≡ length (take len rest) % 256 = omega (arith, length-take-le len rest le) in
    let more : len + 1 ≡ suc len = omega arith in
    ap (take (len + 1)) is ∙ ap (λ (n : ℕ). take n (len ∷ rest)) more ∙ ap (λ (n : ℕ). n ∷ take len rest) size ∙ sym (ap (λ (l : List (List ℕ)). pascal_bytes (get_or l 0 [])) (first_name bytes rest len is le))

-- where it is cut, there is none
pub entry_cut : (bytes rest : List ℕ) (len : ℕ) → bytes ≡ len ∷ rest → length rest < len → 0 ∷ [] ≡ pascal_bytes (get_or (names_in bytes) 0 [])
entry_cut bytes rest len is lt = sym (ap (λ (l : List (List ℕ)). pascal_bytes (get_or l 0 [])) (ap names_in is ∙ ap (λ b. cond b (take len rest ∷ pascal_strings (length rest) (drop len rest)) []) (lt-leb _ _ lt)))
