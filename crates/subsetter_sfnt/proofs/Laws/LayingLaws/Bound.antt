-- What is laid out of tables, and what isn't.
use Rattle.std.proofs.Common.{◌≡◌, ℕ, Bool, true, false, cond, List, length, Option, Some, None, Ok, Err, refl, ap, arith}
use Rattle.std.proofs.lemmas.Bool.{ltb-true}
use Rattle.subsetter_base.specs.Within.{is_past, IsTooLong}
use Rattle.subsetter_base.specs.declared.error.Error.TheVariants.{OverflowError}
use Rattle.subsetter_sfnt.specs.Plain.{file_of}
use Rattle.subsetter_sfnt.specs.Laying.Written.{Table, file, fits, start_of}

pub has_room : (kind : ℕ) (ts : List Table) → fits (start_of ts) ts ≡ true → file_of kind ts ≡ Ok (file kind ts)
unfolding file_of
has_room kind ts h = ap (λ b. cond b (Ok (file kind ts)) (Err OverflowError)) h

pub no_room : (kind : ℕ) (ts : List Table) → fits (start_of ts) ts ≡ false → file_of kind ts ≡ Err OverflowError
unfolding file_of
no_room kind ts h = ap (λ b. cond b (Ok (file kind ts)) (Err OverflowError)) h

laid_is : (kind : ℕ) (ts : List Table) (f : List ℕ) → file_of kind ts ≡ Ok f → file kind ts ≡ f
unfolding file_of
laid_is kind ts f h = by (fits (start_of ts) ts) h
  where
    by : (b : Bool) → cond b (Ok (file kind ts)) (Err OverflowError) ≡ Ok f → file kind ts ≡ f
    by true e = cc
    by false e = absurd (cc)

-- a file that passes a bound
pub past_file : (bound : Option ℕ) (kind : ℕ) (ts : List Table) → is_past bound (length (file kind ts)) ≡ true → IsTooLong bound length (file_of kind ts)
past_file None kind ts h = absurd (cc)
past_file (Some most) kind ts h = record { most = most; is_set = refl; longer = λ f is. omega (arith, ltb-true most (length (file kind ts)) h, ap length (laid_is kind ts f is)) }
