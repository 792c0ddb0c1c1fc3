-- A tuple that counts, by the bytes of its deltas.
use Rattle.std.proofs.Common.{◌≡◌, true, List, length, ℕ, ℤ, Option, Some, None, IfSome, IfOk, Result, Ok, Err, option_map, refl, sym}
use Rattle.std.specs.Option.{ok_or}
use Rattle.subsetter_base.specs.Bytes.{◌>>=◌}
use Rattle.subsetter_base.specs.Gives.{Gives}
use Rattle.subsetter_base.specs.declared.error.Error.{Error}
use Rattle.subsetter_base.specs.declared.error.Error.TheVariants.{UnknownKind, MalformedFont, Unimplemented, SubsetError, OverflowError, CFFError, OutOfMemory}
use Rattle.subsetter_base.specs.Options as optional
use Rattle.subsetter_variation.specs.Packing.Packed.{point_numbers}
use Rattle.subsetter_variation.specs.Glyphs.Tuples.{Tuple, TupleHeader, both_deltas, count_of, numbers_and_deltas, tuple_of}
use Rattle.subsetter_variation.specs.Glyphs.Movement.{Outline, Walk, spent, moved_by, counted_walk}

-- what is read without taking memory
pub gives_same : {X : Type 0} (r read : Result X Error) → r ≡ read → Gives (λ v. v) r read
gives_same (Ok x) read e = sym e
gives_same (Err OutOfMemory) read e = tt
gives_same (Err UnknownKind) read e = sym e
gives_same (Err MalformedFont) read e = sym e
gives_same (Err Unimplemented) read e = sym e
gives_same (Err SubsetError) read e = sym e
gives_same (Err OverflowError) read e = sym e
gives_same (Err CFFError) read e = sym e

pub if_ok : (P : Walk → Type 0) (o : Option Walk) (e : Error) → IfSome o P → IfOk (ok_or o e) P
if_ok P None e h = tt
if_ok P (Some x) e h = h

of_ok : {X : Type 0} (o : Option X) (x : X) → ok_or o MalformedFont ≡ Ok x → o ≡ Some x
of_ok None x e = absurd (cc)
of_ok (Some y) x e = cc

with_numbers : (o : Outline) (s : ℤ) (numbers : Option (List ℕ)) (left : ℕ) (h : TupleHeader) (w : Walk) (both : Option (List ℤ × List ℤ)) → (ok_or (option_map {T = Option (List ℕ) × List ℤ × List ℤ} {U = Tuple} (λ d. record { region = h.region; numbers = d.0; dx = d.1; dy = d.2 }) (optional.◌>>=◌ {B = Option (List ℕ) × List ℤ × List ℤ} both (λ b. Some (numbers, b.0, b.1)))) MalformedFont >>= λ t. Ok (moved_by o s t.numbers t.dx t.dy left w)) ≡ ok_or (option_map (λ d. moved_by o s numbers d.0 d.1 left w) both) MalformedFont
with_numbers o s numbers left h w None = refl
with_numbers o s numbers left h w (Some d) = refl

pub counted_private : (o : Outline) (shared numbers : Option (List ℕ)) (s : ℤ) (h : TupleHeader) (w : Walk) (left : ℕ) (rest : List ℕ) → spent (length o.xs) w.steps ≡ Ok left → h.private_numbers ≡ true → ok_or (point_numbers (length o.xs) h.packed) MalformedFont ≡ Ok (numbers, rest) → counted_walk o shared s h w ≡ ok_or (option_map (λ d. moved_by o s numbers d.0 d.1 left w) (both_deltas (count_of (length o.xs) numbers) rest)) MalformedFont
unfolding counted_walk tuple_of numbers_and_deltas
counted_private o shared numbers s h w left rest steps own read = rw (steps, own, of_ok (point_numbers (length o.xs) h.packed) (numbers, rest) read) (with_numbers o s numbers left h w (both_deltas (count_of (length o.xs) numbers) rest))
