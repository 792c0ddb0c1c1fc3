-- What a writer returns is a limit that is kept or not, unless memory ran out.
use Rattle.std.proofs.Common.{◌≡◌, ℕ, ◌+◌, ◌^◌, Bool, true, false, cond, ◌⊎◌, List, [], ◌∷◌, ◌++◌, map, length, refl, ap, inl, inr, ◌∙◌, sym}
use Rattle.std.specs.Prelude.{◌||◌, Option, None, Some, Result, Ok, Err, IfErr}
use Rattle.std.specs.List.{concat, list_any}
use Rattle.std.proofs.lemmas.Bool.{cases_lt, lt-ltb, le-ltb}
use Rattle.std.proofs.lemmas.Option.{none-some}
use Rattle.subsetter_base.specs.Bytes.{◌>>=◌}
use Rattle.subsetter_base.specs.Gives.{Fails, Gives, following}
use Rattle.subsetter_base.specs.Refusals.{IsOutOfMemoryOr, first_refusal}
use Rattle.subsetter_base.specs.declared.error.Error.{Error}
use Rattle.subsetter_base.specs.declared.error.Error.TheVariants.{OutOfMemory, OverflowError}
use Rattle.subsetter_cffdata.specs.declared.numerals.number.Number.{Number as StoredNumber}
use Rattle.subsetter_cffdata.specs.Dicts.Dict.{Entry, entry_bytes}
use Rattle.subsetter_cffdata.specs.Numerals.Numbers.{Number, is_too_long}
use Rattle.subsetter_cffdata.specs.Indexes.Owned.{FitIndex}
use Rattle.subsetter_cffdata.specs.Views.{number_of}
use Rattle.subsetter_cffdata.specs.Dicts.Plain.{plain_entry}
use Rattle.subsetter_cff.specs.Write.NewDicts.WrittenNumbers.{any_long, entry_numbers}
use Rattle.subsetter_cff.specs.Write.NewDicts.Rewritten.{is_refused, written_entries, written_entry}
use Rattle.subsetter_cff.specs.Write.Laying.TableLimits.{limit, short, has_index}
use Rattle.subsetter_cff.proofs.WriteLaws.NewDictsLaws.Rewriting.{refusal_is}

-- ---- numbers
pub long_is : (xs : List Number) → list_any is_too_long xs ≡ any_long xs
long_is [] = refl
long_is (x ∷ xs) = ap (λ (b : Bool). is_too_long x || b) (long_is xs)

refused_is : (xs : List StoredNumber) → first_refusal (λ x. cond (is_too_long (number_of x)) (Some OverflowError) None) xs ≡ cond (any_long (map number_of xs)) (Some OverflowError) None
refused_is xs = refusal_is xs ∙ ap (λ (b : Bool). cond b (Some OverflowError) None) (long_is (map number_of xs))

abbrev none : Option Error
none = None

not_refused : (b : Bool) → cond b (Some OverflowError) none ≡ none → limit (cond b false true) ≡ Ok tt
not_refused true e = absurd (none-some OverflowError (sym e))
not_refused false e = refl

refused : (b : Bool) (e : Error) → IsOutOfMemoryOr (cond b (Some OverflowError) none) e → Fails e (limit (cond b false true))
refused true e (inl h) = rw h tt
refused true e (inr h) = rw h refl
refused false e h = rw h tt

pub numbers_kept : (xs : List StoredNumber) → first_refusal (λ x. cond (is_too_long (number_of x)) (Some OverflowError) None) xs ≡ None → limit (short (map number_of xs)) ≡ Ok tt
numbers_kept xs e = not_refused (any_long (map number_of xs)) (sym (refused_is xs) ∙ e)

pub numbers_refused : (xs : List StoredNumber) (e : Error) → IsOutOfMemoryOr (first_refusal (λ x. cond (is_too_long (number_of x)) (Some OverflowError) None) xs) e → Fails e (limit (short (map number_of xs)))
numbers_refused xs e h = refused (any_long (map number_of xs)) e (rw refused_is at h)

-- what is kept stays so where memory alone may run out
pub stays_kept : {X : Type 0} (r : Result X Error) (whole : Result (Unit {0}) Error) → whole ≡ Ok tt → IfErr r (λ e. e ≡ OutOfMemory) → Gives (λ (x : X). tt) r whole
stays_kept (Ok x) whole e h = e
stays_kept (Err f) whole e h = rw h tt

-- ---- entries
or_grouped : (a b c : Bool) → (a || (b || c)) ≡ ((a || b) || c)
or_grouped true b c = refl
or_grouped false b c = refl

long_append : (xs ys : List Number) → any_long (xs ++ ys) ≡ (any_long xs || any_long ys)
long_append [] ys = refl
long_append (x ∷ xs) ys = ap (λ (b : Bool). is_too_long x || b) (long_append xs ys) ∙ or_grouped (is_too_long x) (any_long xs) (any_long ys)

entries_long : (es : List Entry) → any_long (entry_numbers es) ≡ list_any is_refused es
entries_long [] = refl
entries_long (e ∷ es) = long_append e.operands (entry_numbers es) ∙ ap (λ (b : Bool). b || any_long (entry_numbers es)) (sym (long_is e.operands)) ∙ ap (λ (b : Bool). is_refused e || b) (entries_long es)

by_entry : (b : Bool) (front text : List ℕ) → (limit (cond b false true) >>= λ kept. Ok (front ++ text)) ≡ following front (cond b (Err OverflowError) (Ok text))
by_entry true front text = refl
by_entry false front text = refl

-- an entry is written where its numbers keep the limit
pub entry_checked : (front operator : List ℕ) (xs : List Number) → (limit (short xs) >>= λ kept. Ok (front ++ entry_bytes (plain_entry operator xs))) ≡ following front (written_entry operator xs)
unfolding written_entry
entry_checked front operator xs =
    by_entry (any_long xs) front (entry_bytes (plain_entry operator xs)) ∙ ap (λ (b : Bool). following front (cond b (Err OverflowError) (Ok (entry_bytes (plain_entry operator xs))))) (sym (long_is xs))

by_refused : (b : Bool) (front text : List ℕ) → (following front (cond b (Err OverflowError) (Ok text)) >>= λ out. Ok tt) ≡ limit (cond b false true)
by_refused true front text = refl
by_refused false front text = refl

pub entries_checked : (front : List ℕ) (es : List Entry) → (following front (written_entries es) >>= λ out. Ok tt) ≡ limit (short (entry_numbers es))
unfolding written_entries
entries_checked front es = by_refused (list_any is_refused es) front _ ∙ ap (λ (b : Bool). limit (cond b false true)) (sym (entries_long es))

-- ---- an INDEX
pub index_kept : (items : List (List ℕ)) → FitIndex items → limit (has_index items) ≡ Ok tt
index_kept items fits = rw (lt-ltb (length items) 65536 fits.count, lt-ltb (length (concat items) + 1) (2 ^ 32) fits.size) refl

pub no_index : (items : List (List ℕ)) → (FitIndex items → ⊥) → limit (has_index items) ≡ Err OverflowError
no_index items not =
    elim (cases_lt (length items) 65536) [
      | inl few ↦ elim (cases_lt (length (concat items) + 1) (2 ^ 32)) [
        | inl small ↦ absurd (not (record { count = few; size = small }))
        | inr large ↦ rw (lt-ltb (length items) 65536 few, le-ltb (length (concat items) + 1) (2 ^ 32) large) refl
      ]
      | inr many ↦ rw (le-ltb (length items) 65536 many) refl
    ]

pub index_refused : (items : List (List ℕ)) (e : Error) → (e ≡ OutOfMemory) ⊎ ((e ≡ OverflowError) × (FitIndex items → ⊥)) → Fails e (limit (has_index items))
index_refused items e (inl h) = rw h tt
index_refused items e (inr h) = rw h.0 (no_index items h.1)
