-- The deltas of a whole run, and those after it.
use Rattle.std.proofs.Common.{◌≡◌, ℕ, zero, suc, ◌+◌, ◌-◌, ◌*◌, ◌%◌, ◌<◌, ◌≤◌, Bool, true, false, cond, List, [], ◌∷◌, ◌++◌, length, get_or, take, drop, map, Option, Some, None, ℤ, pos, nat_le, refl, ap, sym, ◌∙◌, arith}
use Rattle.std.specs.Int.{w8, w16, cast_signed}
use Rattle.std.specs.Option.{option_map}
use Rattle.std.proofs.lemmas.Bool.{ne_eqb}
use Rattle.subsetter_base.specs.Options.{◌>>=◌}
use Rattle.subsetter_variation.specs.Packing.Packed.{Run, word_in, runs, run_in, begun, delta_in, next_delta, deltas_from}
use Rattle.subsetter_base.specs.Bytes.{byte}

-- a run of n deltas, after its first byte
abbrev pub run_of : ℕ → ℕ → List ℕ → Run
run_of n control bytes = record { left = n; control = control; bytes = bytes }

-- the delta that a run has next, and the bytes after it
abbrev delta_bytes : ℕ → List ℕ → Option (ℤ × List ℕ)
delta_bytes control bytes = cond (nat_le 128 control) (Some (pos 0, bytes)) (cond (nat_le 64 control) (option_map (λ w. (cast_signed w16 w.0, w.1)) (word_in bytes)) (option_map (λ b. (cast_signed w8 b.0, b.1)) (byte bytes)))

-- with those after it
abbrev pub onto : ℤ → Option (List ℤ × List ℕ) → Option (List ℤ × List ℕ)
onto x read = read >>= λ rest. Some (x ∷ rest.0, rest.1)

with_run : (zeros words : Bool) (n control : ℕ) (bytes : List ℕ) (w b : Option (ℕ × List ℕ)) → cond {A = Option (ℤ × Run)} zeros (Some (pos 0, run_of n control bytes)) (cond words (option_map (λ x. (cast_signed w16 x.0, run_of n control x.1)) w) (option_map (λ x. (cast_signed w8 x.0, run_of n control x.1)) b)) ≡ option_map (λ d. (d.0, run_of n control d.1)) (cond {A = Option (ℤ × List ℕ)} zeros (Some (pos 0, bytes)) (cond words (option_map (λ x. (cast_signed w16 x.0, x.1)) w) (option_map (λ x. (cast_signed w8 x.0, x.1)) b)))
with_run true words n control bytes w b = refl
with_run false true n control bytes None b = refl
with_run false true n control bytes (Some x) b = refl
with_run false false n control bytes w None = refl
with_run false false n control bytes w (Some x) = refl

begun_on : (n control : ℕ) (bytes : List ℕ) → begun 64 (run_of (suc n) control bytes) ≡ Some (run_of (suc n) control bytes)
begun_on n control bytes = ap (λ b. cond b (run_in 64 bytes) (Some (run_of (suc n) control bytes))) (ne_eqb (suc n) 0 (λ e. omega arith))

next_in_run : (n control : ℕ) (bytes : List ℕ) → next_delta (run_of (suc n) control bytes) ≡ option_map (λ d. (d.0, run_of n control d.1)) (delta_bytes control bytes)
unfolding next_delta
next_in_run n control bytes =
    let one : suc n - 1 ≡ n = omega arith in
    ap (λ o. o >>= delta_in) (begun_on n control bytes) ∙ rw one (with_run (nat_le 128 control) (nat_le 64 control) n control bytes (word_in bytes) (byte bytes))

-- a delta that is read, and m after it
abbrev pub next_then : ℕ → Option (ℤ × Run) → Option (List ℤ × List ℕ)
next_then m o = o >>= λ d. onto d.0 (deltas_from m d.1)

run_step : (m n control : ℕ) (bytes more : List ℕ) (x : ℤ) → delta_bytes control bytes ≡ Some (x, more) → deltas_from (suc m) (run_of (suc n) control bytes) ≡ onto x (deltas_from m (run_of n control more))
run_step m n control bytes more x h = ap (next_then m) (next_in_run n control bytes) ∙ ap (λ o. next_then m (option_map (λ d. (d.0, run_of n control d.1)) o)) h

run_cut : (m n control : ℕ) (bytes : List ℕ) → delta_bytes control bytes ≡ None → deltas_from (suc m) (run_of (suc n) control bytes) ≡ None
run_cut m n control bytes h = ap (next_then m) (next_in_run n control bytes) ∙ ap (λ o. next_then m (option_map (λ d. (d.0, run_of n control d.1)) o)) h

-- ---- of each kind
-- a number of zeros
abbrev pub zeros : ℕ → List ℤ
zeros zero = []
zeros (suc n) = pos 0 ∷ zeros n

pub zero_run : (n control : ℕ) (bytes : List ℕ) → nat_le 128 control ≡ true → deltas_from n (run_of n control bytes) ≡ Some (zeros n, bytes)
zero_run zero control bytes h = refl
zero_run (suc n) control bytes h = run_step n n control bytes bytes (pos 0) (rw h refl) ∙ ap (onto (pos 0)) (zero_run n control bytes h)

-- signed numbers of one byte
pub byte_run : (n control : ℕ) (bytes : List ℕ) → nat_le 128 control ≡ false → nat_le 64 control ≡ false → n ≤ length bytes → deltas_from n (run_of n control bytes) ≡ Some (map (cast_signed w8) (take n bytes), drop n bytes)
unfolding byte
byte_run zero control bytes h g l = refl
byte_run (suc n) control [] h g l = absurd (omega arith)
byte_run (suc n) control (b ∷ bytes) h g l = run_step n n control (b ∷ bytes) bytes (cast_signed w8 b) (rw (h, g) refl) ∙ ap (onto (cast_signed w8 b)) (byte_run n control bytes h g (omega arith))

pub byte_run_cut : (n control : ℕ) (bytes : List ℕ) → nat_le 128 control ≡ false → nat_le 64 control ≡ false → length bytes < n → deltas_from n (run_of n control bytes) ≡ None
unfolding byte
byte_run_cut zero control bytes h g l = absurd (omega arith)
byte_run_cut (suc n) control [] h g l = run_cut n n control [] (rw (h, g) refl)
byte_run_cut (suc n) control (b ∷ bytes) h g l = run_step n n control (b ∷ bytes) bytes (cast_signed w8 b) (rw (h, g) refl) ∙ ap (onto (cast_signed w8 b)) (byte_run_cut n control bytes h g (omega arith))

-- signed numbers of two bytes
abbrev pub words : ℕ → List ℕ → List ℤ
words zero bytes = []
words (suc n) (high ∷ low ∷ rest) = cast_signed w16 (high * 256 + low) ∷ words n rest
words (suc n) _ = []

pub word_run : (n control : ℕ) (bytes : List ℕ) → nat_le 128 control ≡ false → nat_le 64 control ≡ true → n * 2 ≤ length bytes → deltas_from n (run_of n control bytes) ≡ Some (words n bytes, drop (n * 2) bytes)
word_run zero control bytes h g l = refl
word_run (suc n) control [] h g l = absurd (omega arith)
word_run (suc n) control (b ∷ []) h g l = absurd (omega arith)
word_run (suc n) control (b ∷ c ∷ bytes) h g l =
    let x = cast_signed w16 (b * 256 + c) in
    let twice : suc n * 2 ≡ suc (suc (n * 2)) = omega arith in
    run_step n n control (b ∷ c ∷ bytes) bytes x (rw (h, g) refl) ∙ ap (onto x) (word_run n control bytes h g (omega arith)) ∙ rw twice refl

pub word_run_cut : (n control : ℕ) (bytes : List ℕ) → nat_le 128 control ≡ false → nat_le 64 control ≡ true → length bytes < n * 2 → deltas_from n (run_of n control bytes) ≡ None
word_run_cut zero control bytes h g l = absurd (omega arith)
word_run_cut (suc n) control [] h g l = run_cut n n control [] (rw (h, g) refl)
word_run_cut (suc n) control (b ∷ []) h g l = run_cut n n control (b ∷ []) (rw (h, g) refl)
word_run_cut (suc n) control (b ∷ c ∷ bytes) h g l =
    let x = cast_signed w16 (b * 256 + c) in
    run_step n n control (b ∷ c ∷ bytes) bytes x (rw (h, g) refl) ∙ ap (onto x) (word_run_cut n control bytes h g (omega arith))

pub zeros_at : (n k : ℕ) → get_or (zeros n) k (pos 0) ≡ pos 0
zeros_at zero k = refl
zeros_at (suc n) zero = refl
zeros_at (suc n) (suc k) = zeros_at n k

pub words_at : (n k : ℕ) (bytes : List ℕ) → k < n → n * 2 ≤ length bytes → get_or (words n bytes) k (pos 0) ≡ cast_signed w16 (get_or bytes (k * 2) 0 * 256 + get_or bytes (k * 2 + 1) 0)
words_at zero k bytes h l = absurd (omega arith)
words_at (suc n) k [] h l = absurd (omega arith)
words_at (suc n) k (b ∷ []) h l = absurd (omega arith)
words_at (suc n) zero (b ∷ c ∷ bytes) h l = refl
words_at (suc n) (suc k) (b ∷ c ∷ bytes) h l =
    let even : suc k * 2 ≡ suc (suc (k * 2)) = omega arith in
    let odd : suc k * 2 + 1 ≡ suc (suc (k * 2 + 1)) = omega arith in
    words_at n k bytes (omega arith) (omega arith) ∙ rw (odd, even) refl

-- ---- from one run to the next
-- the first byte of a run begins it
pub run_begins : (m control : ℕ) (bytes : List ℕ) → 0 < m → deltas_from m (runs (control ∷ bytes)) ≡ deltas_from m (run_of (control % 64 + 1) control bytes)
unfolding next_delta
run_begins zero control bytes h = absurd (omega arith)
run_begins (suc m) control bytes h =
    let more : control % 64 + 1 ≡ suc (control % 64) = omega arith in
    let on : begun 64 (run_of (control % 64 + 1) control bytes) ≡ Some (run_of (control % 64 + 1) control bytes) = rw more (begun_on (control % 64) control bytes) in
    sym (ap (λ (o : Option Run). next_then m (o >>= delta_in)) on)

pub no_run : (m : ℕ) → 0 < m → deltas_from m (runs []) ≡ None
unfolding next_delta
no_run zero h = absurd (omega arith)
no_run (suc m) h = refl

-- where no delta of a run is left, its first byte says nothing more
between_runs : (m control : ℕ) (bytes : List ℕ) → deltas_from m (run_of 0 control bytes) ≡ deltas_from m (runs bytes)
unfolding next_delta
between_runs zero control bytes = refl
between_runs (suc m) control bytes = refl

-- the deltas that are read, and m after them
abbrev pub then_deltas : ℕ → Option (List ℤ × List ℕ) → Option (List ℤ × List ℕ)
then_deltas m None = None
then_deltas m (Some d) = option_map (λ x. (d.0 ++ x.0, x.1)) (deltas_from m (runs d.1))

in_front_of_none : (o : Option (List ℤ × List ℕ)) → option_map (λ x. ([] ++ x.0, x.1)) o ≡ o
in_front_of_none None = refl
in_front_of_none (Some x) = refl

onto_some : (x : ℤ) (front : List ℤ) (o : Option (List ℤ × List ℕ)) → onto x (option_map (λ w. (front ++ w.0, w.1)) o) ≡ option_map (λ w. (x ∷ front ++ w.0, w.1)) o
onto_some x front None = refl
onto_some x front (Some w) = refl

onto_then : (m : ℕ) (x : ℤ) (o : Option (List ℤ × List ℕ)) → onto x (then_deltas m o) ≡ then_deltas m (onto x o)
onto_then m x None = refl
onto_then m x (Some d) = onto_some x d.0 (deltas_from m (runs d.1))

run_then_by : (c m control : ℕ) (bytes : List ℕ) (o : Option (ℤ × List ℕ)) → delta_bytes control bytes ≡ o → ((more : List ℕ) → deltas_from (c + m) (run_of c control more) ≡ then_deltas m (deltas_from c (run_of c control more))) → deltas_from (suc (c + m)) (run_of (suc c) control bytes) ≡ then_deltas m (deltas_from (suc c) (run_of (suc c) control bytes))
run_then_by c m control bytes None e more = run_cut (c + m) c control bytes e ∙ sym (ap (then_deltas m) (run_cut c c control bytes e))
run_then_by c m control bytes (Some d) e more = run_step (c + m) c control bytes d.1 d.0 e ∙ ap (onto d.0) (more d.1) ∙ onto_then m d.0 (deltas_from c (run_of c control d.1)) ∙ sym (ap (then_deltas m) (run_step c c control bytes d.1 d.0 e))

pub run_then : (c m control : ℕ) (bytes : List ℕ) → deltas_from (c + m) (run_of c control bytes) ≡ then_deltas m (deltas_from c (run_of c control bytes))
run_then zero m control bytes =
    let none : 0 + m ≡ m = omega arith in
    rw none (between_runs m control bytes ∙ sym (in_front_of_none (deltas_from m (runs bytes))))
run_then (suc c) m control bytes =
    let more : suc c + m ≡ suc (c + m) = omega arith in
    rw more (run_then_by c m control bytes (delta_bytes control bytes) refl (λ rest. run_then c m control rest))

-- a run that goes on past the last delta
run_past_by : (n c control : ℕ) (bytes : List ℕ) (o : Option (ℤ × List ℕ)) → delta_bytes control bytes ≡ o → ((more : List ℕ) → deltas_from n (run_of c control more) ≡ None) → deltas_from (suc n) (run_of (suc c) control bytes) ≡ None
run_past_by n c control bytes None e more = run_cut n c control bytes e
run_past_by n c control bytes (Some d) e more = run_step n c control bytes d.1 d.0 e ∙ ap (onto d.0) (more d.1)

pub run_past : (n c control : ℕ) (bytes : List ℕ) → n < c → deltas_from n (run_of c control bytes) ≡ None
run_past n zero control bytes h = absurd (omega arith)
run_past zero (suc c) control bytes h = ap (λ b. option_map (λ rest. ([], rest)) (cond b (Some bytes) None)) (ne_eqb (suc c) 0 (λ e. omega arith))
run_past (suc n) (suc c) control bytes h = run_past_by n c control bytes (delta_bytes control bytes) refl (λ more. run_past n c control more (omega arith))
