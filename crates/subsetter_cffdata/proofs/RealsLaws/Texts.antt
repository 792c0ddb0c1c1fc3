-- The text that is read nibble by nibble is the text, where it isn't too long.
use Rattle.std.proofs.Common.{◌≡◌, ℕ, ◌+◌, ◌/◌, ◌%◌, ◌<◌, ◌≤◌, Bool, true, false, cond, eqb, leb, List, [], ◌∷◌, ◌++◌, length, drop, get_or, Option, Some, None, refl, ap, arith, ◌∙◌, sym, append_assoc, length-append, inl, inr}
use Rattle.std.proofs.lemmas.Bool.{cases_lt, le-leb, lt-leb}
use Rattle.std.proofs.lemmas.List.{append-nil, drop_more, drop_all}
use Rattle.subsetter_base.specs.Options.{◌>>=◌}
use Rattle.subsetter_cffdata.specs.Reals.Decimals.{Decimal, real_of, real_at, characters, with_text, text_at, text_limit}
use Rattle.subsetter_cffdata.specs.Reals.TextSteps.{fitting, extended, byte_step, text_from}

abbrev limited : Option (List ℕ × List ℕ) → Option (List ℕ × List ℕ)
limited o = o >>= λ t. cond (leb (length t.0) text_limit) (Some t) None

with_text_both : (a b : List ℕ) (o : Option (List ℕ × List ℕ)) → with_text a (with_text b o) ≡ with_text (a ++ b) o
with_text_both a b None = refl
with_text_both a b (Some t) = ap (λ (x : List ℕ). Some (x, t.1)) (sym (append_assoc a b t.0))

too_long : (a : List ℕ) (o : Option (List ℕ × List ℕ)) → 64 < length a → limited (with_text a o) ≡ None
too_long a None long = refl
too_long a (Some t) long = rw (lt-leb (length (a ++ t.0)) 64 (omega (arith, length-append a t.0))) refl

-- one nibble
half : (front : List ℕ) (cs : Option (List ℕ)) (o : Option (List ℕ × List ℕ)) → ((cs >>= λ more. fitting (front ++ more)) >>= λ t. limited (with_text t o)) ≡ limited (with_text front (cs >>= λ more. with_text more o))
half front None o = refl
half front (Some more) o =
    elim (cases_lt 64 (length (front ++ more))) [
      | inl long ↦ rw (lt-leb (length (front ++ more)) 64 long, with_text_both front more o, too_long (front ++ more) o long) refl
      | inr short ↦ rw (le-leb (length (front ++ more)) 64 short, with_text_both front more o) refl
    ]

ended : (front bytes : List ℕ) → length front ≤ 64 → Some (front, bytes) ≡ limited (with_text front (Some ([], bytes)))
ended front bytes short = rw (append-nil front, le-leb (length front) 64 short) refl

fits_then : (front : List ℕ) (cs : Option (List ℕ)) (f g : List ℕ → Option (List ℕ × List ℕ)) → ((t : List ℕ) → length t ≤ 64 → f t ≡ g t) → ((cs >>= λ more. fitting (front ++ more)) >>= f) ≡ ((cs >>= λ more. fitting (front ++ more)) >>= g)
fits_then front None f g h = refl
fits_then front (Some more) f g h =
    elim (cases_lt 64 (length (front ++ more))) [
      | inl long ↦ rw (lt-leb (length (front ++ more)) 64 long) refl
      | inr short ↦ rw (le-leb (length (front ++ more)) 64 short) (h (front ++ more) short)
    ]

second : (t bytes : List ℕ) (low : ℕ) (last : Bool) → length t ≤ 64 → ((u : List ℕ) → length u ≤ 64 → text_from u bytes ≡ limited (with_text u (text_at bytes)))
    → cond last (Some (t, bytes)) (extended t low >>= λ u. text_from u bytes) ≡ limited (with_text t (cond last (Some ([], bytes)) (characters low >>= λ more. with_text more (text_at bytes))))
unfolding extended
second t bytes low true fits ih = ended t bytes fits
second t bytes low false fits ih = fits_then t (characters low) (λ u. text_from u bytes) (λ u. limited (with_text u (text_at bytes))) ih ∙ half t (characters low) (text_at bytes)

first : (front bytes : List ℕ) (high : ℕ) (last : Bool) (o : Option (List ℕ × List ℕ)) (f : List ℕ → Option (List ℕ × List ℕ)) → length front ≤ 64 → ((t : List ℕ) → length t ≤ 64 → f t ≡ limited (with_text t o))
    → cond last (Some (front, bytes)) (extended front high >>= f) ≡ limited (with_text front (cond last (Some ([], bytes)) (characters high >>= λ more. with_text more o)))
unfolding extended
first front bytes high true o f fits h = ended front bytes fits
first front bytes high false o f fits h = fits_then front (characters high) f (λ t. limited (with_text t o)) h ∙ half front (characters high) o

joined : (o : Option (List ℕ)) (k : Bool × List ℕ → Option (List ℕ × List ℕ)) → ((o >>= λ u. Some (false, u)) >>= k) ≡ (o >>= λ u. k (false, u))
joined None k = refl
joined (Some u) k = refl

unrolled : (l m : Bool) (front : List ℕ) (o : Option (List ℕ)) (g : List ℕ → Option (List ℕ)) (k : Bool × List ℕ → Option (List ℕ × List ℕ))
    → (cond l (Some (true, front)) (o >>= λ t. cond m (Some (true, t)) (g t >>= λ u. Some (false, u))) >>= k) ≡ cond l (k (true, front)) (o >>= λ t. cond m (k (true, t)) (g t >>= λ u. k (false, u)))
unrolled true m front o g k = refl
unrolled false m front None g k = refl
unrolled false true front (Some t) g k = refl
unrolled false false front (Some t) g k = joined (g t) k

pub text_from_is : (front bytes : List ℕ) → length front ≤ 64 → text_from front bytes ≡ limited (with_text front (text_at bytes))
unfolding text_from text_at byte_step
text_from_is front [] fits = refl
text_from_is front (b ∷ bytes) fits =
    unrolled (eqb (b / 16) 15) (eqb (b % 16) 15) front (extended front (b / 16)) (λ t. extended t (b % 16)) (λ s. cond s.0 (Some (s.1, bytes)) (text_from s.1 bytes))
    ∙ first front bytes (b / 16) (eqb (b / 16) 15) (cond (eqb (b % 16) 15) (Some ([], bytes)) (characters (b % 16) >>= λ more. with_text more (text_at bytes)))
    (λ t. cond (eqb (b % 16) 15) (Some (t, bytes)) (extended t (b % 16) >>= λ u. text_from u bytes)) fits
    (λ t short. second t bytes (b % 16) (eqb (b % 16) 15) short (λ u le. text_from_is u bytes le))

with_no_text : (o : Option (List ℕ × List ℕ)) → with_text [] o ≡ o
with_no_text None = refl
with_no_text (Some t) = refl

-- the text, where it isn't too long
pub text_from_front : (bytes : List ℕ) → text_from [] bytes ≡ limited (text_at bytes)
text_from_front bytes = text_from_is [] bytes (omega arith) ∙ ap limited (with_no_text (text_at bytes))

-- ---- the steps of the loop
at_byte : (bytes : List ℕ) (i b : ℕ) (front : List ℕ) → i < length bytes → get_or bytes i 0 ≡ b → text_from front (drop i bytes) ≡ (byte_step front b >>= λ s. cond s.0 (Some (s.1, drop (i + 1) bytes)) (text_from s.1 (drop (i + 1) bytes)))
unfolding text_from
at_byte bytes i b front lt is = ap (text_from front) (drop_more bytes i 0 lt ∙ ap (λ (x : ℕ). x ∷ drop (i + 1) bytes) is)

pub step_ends : (bytes : List ℕ) (i b : ℕ) (front text : List ℕ) → i < length bytes → get_or bytes i 0 ≡ b → byte_step front b ≡ Some (true, text) → text_from front (drop i bytes) ≡ Some (text, drop (i + 1) bytes)
step_ends bytes i b front text lt is e = at_byte bytes i b front lt is ∙ rw e refl

pub step_goes : (bytes : List ℕ) (i b : ℕ) (front text : List ℕ) → i < length bytes → get_or bytes i 0 ≡ b → byte_step front b ≡ Some (false, text) → text_from front (drop i bytes) ≡ text_from text (drop (i + 1) bytes)
step_goes bytes i b front text lt is e = at_byte bytes i b front lt is ∙ rw e refl

pub step_fails : (bytes : List ℕ) (i b : ℕ) (front : List ℕ) → i < length bytes → get_or bytes i 0 ≡ b → byte_step front b ≡ None → text_from front (drop i bytes) ≡ None
step_fails bytes i b front lt is e = at_byte bytes i b front lt is ∙ rw e refl

pub no_step : (bytes : List ℕ) (i : ℕ) (front : List ℕ) → length bytes ≤ i → text_from front (drop i bytes) ≡ None
unfolding text_from
no_step bytes i front le = rw (drop_all i bytes le) refl

abbrev pub valued : List ℕ × List ℕ → Option (Decimal × List ℕ)
valued t = real_of t.0 >>= λ d. Some (d, t.1)

chosen : (b : Bool) (t : List ℕ × List ℕ) → cond b (valued t) None ≡ (cond b (Some t) None >>= valued)
chosen true t = refl
chosen false t = refl

checked : (o : Option (List ℕ × List ℕ)) → (o >>= λ t. cond (leb (length t.0) text_limit) (valued t) None) ≡ (limited o >>= valued)
checked None = refl
checked (Some t) = chosen (leb (length t.0) text_limit) t

-- a real, by its text
pub real_by_text : (bytes : List ℕ) → real_at bytes ≡ (text_from [] bytes >>= valued)
unfolding real_at
real_by_text bytes = rw (text_from_front bytes) (checked (text_at bytes))
