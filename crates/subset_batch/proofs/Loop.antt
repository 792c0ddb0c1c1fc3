-- What a step reads again and again, as a loop does.
use Rattle.std.proofs.Common.{◌≡◌, ℕ, suc, ◌-◌, ◌+◌, ◌≤◌, ◌<◌, Bool, true, false, List, [], ◌∷◌, ◌++◌, map, Result, Ok, Err, refl, sym, ap, ◌∙◌, append_assoc, arith}
use Rattle.subset_batch.specs.declared.fault.Wanted.{Wanted}
use Rattle.subset_batch.specs.declared.fault.Unread.{Unread}
use Rattle.subset_batch.specs.declared.fault.Unread.TheVariants as unread
use Rattle.subset_batch.specs.Reading.{Fault, missing, with_front, many}
use Rattle.subset_batch.specs.View.{Fails, fault_view}

pub map_last : {A B : Type 0} (f : A → B) (xs : List A) (x : A) → map f (xs ++ x ∷ []) ≡ map f xs ++ f x ∷ []
map_last f [] x = refl
map_last f (y ∷ xs) x = ap (λ ys. f y ∷ ys) (map_last f xs x)

regroup : {A : Type 0} (front piece : List A) (read : Result (List A × List ℕ) Fault) → with_front front (with_front piece read) ≡ with_front (front ++ piece) read
regroup {A} front piece (Ok x) = ap (λ (xs : List A). Ok (xs, x.1)) (sym (append_assoc front piece x.0))
regroup front piece (Err f) = refl

pub no_front : {A : Type 0} (read : Result (List A × List ℕ) Fault) → with_front [] read ≡ read
no_front (Ok x) = refl
no_front (Err f) = refl

-- one more step, after which others follow
pub more_follow : {A : Type 0} (step : List ℕ → Result (List A × Bool × List ℕ) Fault) (wanted : Wanted) (front : List A) (count i : ℕ) (bytes : List ℕ) (piece : List A) (more : Bool) (after : List ℕ) (total : Result (List A × List ℕ) Fault)
    → i < count → step bytes ≡ Ok (piece, more, after) → more ≡ true → with_front front (many step wanted (count - i) bytes) ≡ total → with_front (front ++ piece) (many step wanted (count - (i + 1)) after) ≡ total
unfolding many
more_follow step wanted front count i bytes piece more after total less h is so_far =
    let k : count - i ≡ suc (count - (i + 1)) = omega arith in
    let one : with_front front (many step wanted (count - i) bytes) ≡ with_front (front ++ piece) (many step wanted (count - (i + 1)) after) = rw (k, h, is) (regroup front piece (many step wanted (count - (i + 1)) after)) in
    sym one ∙ so_far

-- the last step
pub none_follow : {A : Type 0} (step : List ℕ → Result (List A × Bool × List ℕ) Fault) (wanted : Wanted) (front : List A) (count i : ℕ) (bytes : List ℕ) (piece : List A) (more : Bool) (after : List ℕ) (total : Result (List A × List ℕ) Fault)
    → i < count → step bytes ≡ Ok (piece, more, after) → more ≡ false → with_front front (many step wanted (count - i) bytes) ≡ total → total ≡ Ok (front ++ piece, after)
unfolding many
none_follow step wanted front count i bytes piece more after total less h is so_far =
    let k : count - i ≡ suc (count - (i + 1)) = omega arith in
    let one : with_front front (many step wanted (count - i) bytes) ≡ Ok (front ++ piece, after) = rw (k, h, is) refl in
    sym so_far ∙ one

-- a step that refuses
pub refused : {A : Type 0} (e : Unread) (step : List ℕ → Result (List A × Bool × List ℕ) Fault) (wanted : Wanted) (front : List A) (count i : ℕ) (bytes : List ℕ) (total : Result (List A × List ℕ) Fault)
    → i < count → Fails e (step bytes) → with_front front (many step wanted (count - i) bytes) ≡ total → Fails e total
unfolding many
refused unread.OutOfMemory step wanted front count i bytes total less h so_far = tt
refused (unread.Fault f) step wanted front count i bytes total less h so_far =
    let k : count - i ≡ suc (count - (i + 1)) = omega arith in
    let one : with_front front (many step wanted (count - i) bytes) ≡ Err (fault_view f) = rw (k, h) refl in
    sym so_far ∙ one

-- no more steps
pub all_steps : {A : Type 0} (step : List ℕ → Result (List A × Bool × List ℕ) Fault) (wanted : Wanted) (front : List A) (count i : ℕ) (bytes : List ℕ) (total : Result (List A × List ℕ) Fault)
    → count ≤ i → with_front front (many step wanted (count - i) bytes) ≡ total → total ≡ missing wanted bytes
unfolding many
all_steps step wanted front count i bytes total le so_far =
    let k : count - i ≡ 0 = omega arith in
    let one : with_front front (many step wanted (count - i) bytes) ≡ missing wanted bytes = rw k refl in
    sym so_far ∙ one
