-- Lists that are read from runs, one number after another, with what follows them.
use Rattle.std.proofs.Common.{◌≡◌, ℕ, ℤ, suc, ◌+◌, ◌-◌, ◌<◌, List, [], ◌∷◌, ◌++◌, Option, Some, None, Result, Ok, Err, refl, append_assoc, arith}
use Rattle.std.specs.Option.{ok_or, option_map}
use Rattle.std.proofs.lemmas.List.{append-nil}
use Rattle.subsetter_base.specs.Bytes.{◌>>=◌}
use Rattle.subsetter_base.specs.declared.error.Error.{Error}
use Rattle.subsetter_base.specs.Options as optional
use Rattle.subsetter_variation.specs.Packing.Packed.{Run, ended, next_delta, deltas_from, next_point, points_from}

-- members before a list that is answered with what follows it
abbrev pub ahead : {A B : Type 0} → List A → Result (List A × B) Error → Result (List A × B) Error
ahead front read = read >>= λ x. Ok (front ++ x.0, x.1)

ahead_more : {A B : Type 0} (front : List A) (x : A) (o : Option (List A × B)) (e : Error) → ahead front (ok_or (optional.◌>>=◌ o (λ xs. Some (x ∷ xs.0, xs.1))) e) ≡ ahead (front ++ x ∷ []) (ok_or o e)
ahead_more front x None e = refl
ahead_more front x (Some xs) e = simp append_assoc

ahead_end : {A B : Type 0} (front : List A) (o : Option B) (e : Error) → ahead front (ok_or (option_map (λ bytes. ([], bytes)) o) e) ≡ ok_or (option_map (λ bytes. (front, bytes)) o) e
ahead_end front None e = refl
ahead_end front (Some x) e = simp append-nil

pub deltas_step : (front : List ℤ) (n i : ℕ) (r next : Run) (x : ℤ) (e : Error) → i < n → next_delta r ≡ Some (x, next) → ahead front (ok_or (deltas_from (n - i) r) e) ≡ ahead (front ++ x ∷ []) (ok_or (deltas_from (n - (i + 1)) next) e)
deltas_step front n i r next x e less h =
    let one : n - i ≡ suc (n - (i + 1)) = omega arith in
    rw (one, h) (ahead_more front x (deltas_from (n - (i + 1)) next) e)

pub deltas_cut : (front : List ℤ) (n i : ℕ) (r : Run) (e : Error) → i < n → next_delta r ≡ None → ahead front (ok_or (deltas_from (n - i) r) e) ≡ Err e
deltas_cut front n i r e less h =
    let one : n - i ≡ suc (n - (i + 1)) = omega arith in
    rw (one, h) refl

pub deltas_end : (front : List ℤ) (n i : ℕ) (r : Run) (e : Error) → n ≡ i → ahead front (ok_or (deltas_from (n - i) r) e) ≡ ok_or (option_map (λ bytes. (front, bytes)) (ended r)) e
deltas_end front n i r e same =
    let none : n - i ≡ 0 = omega arith in
    rw none (ahead_end front (ended r) e)

pub points_step : (front : List ℕ) (limit n i before least : ℕ) (r next : Run) (x : ℕ) (e : Error) → i < n → next_point limit before least r ≡ Some (x, next) → ahead front (ok_or (points_from limit (n - i) before least r) e) ≡ ahead (front ++ x ∷ []) (ok_or (points_from limit (n - (i + 1)) x (x + 1) next) e)
points_step front limit n i before least r next x e less h =
    let one : n - i ≡ suc (n - (i + 1)) = omega arith in
    rw (one, h) (ahead_more front x (points_from limit (n - (i + 1)) x (x + 1) next) e)

pub points_cut : (front : List ℕ) (limit n i before least : ℕ) (r : Run) (e : Error) → i < n → next_point limit before least r ≡ None → ahead front (ok_or (points_from limit (n - i) before least r) e) ≡ Err e
points_cut front limit n i before least r e less h =
    let one : n - i ≡ suc (n - (i + 1)) = omega arith in
    rw (one, h) refl

pub points_end : (front : List ℕ) (limit n i before least : ℕ) (r : Run) (e : Error) → n ≡ i → ahead front (ok_or (points_from limit (n - i) before least r) e) ≡ ok_or (option_map (λ bytes. (front, bytes)) (ended r)) e
points_end front limit n i before least r e same =
    let none : n - i ≡ 0 = omega arith in
    rw none (ahead_end front (ended r) e)
