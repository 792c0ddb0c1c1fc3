-- The private dict of a font without font dicts, by the range that the top dict says.
use Rattle.std.proofs.Common.{◌≡◌, ℕ, ◌+◌, ◌≤◌, List, [], ◌∷◌, Option, Some, None, refl, ap, sym, arith}
use Rattle.std.specs.Prelude.{unwrap_or}
use Rattle.std.proofs.lemmas.Option.{none-some, same_Some}
use Rattle.subsetter_base.specs.Options.{◌>>=◌}
use Rattle.subsetter_cffdata.specs.Dicts.Dict.{Entry}
use Rattle.subsetter_cffdata.specs.Numerals.Numbers.{Number, as_u32}
use Rattle.subsetter_cffdata.specs.Dicts.Operands.{range_operands}
use Rattle.subsetter_cff.specs.Read.Entries.Lookup.{last_of}
use Rattle.subsetter_cff.specs.Read.Entries.Operators.{private_operator}
use Rattle.subsetter_cff.specs.Read.FdArray.Private.{Private, no_private, private_at, private_by, private_in}
use Rattle.subsetter_cff.specs.Read.Entries.TopDicts.{last_range}

-- no entry, and one with wrong operands, both mean an empty private dict
by_operands : (bytes : List ℕ) (o : Option (List Number)) → unwrap_or (private_by bytes o) no_private ≡ unwrap_or ((o >>= range_operands) >>= private_in bytes) no_private
by_operands bytes None = refl
by_operands bytes (Some xs) = refl

by_range : (bytes : List ℕ) (es : List Entry) (o : Option (ℕ × ℕ)) → o ≡ last_range private_operator es → unwrap_or (private_at bytes es) no_private ≡ unwrap_or (o >>= private_in bytes) no_private
unfolding private_at
by_range bytes es o e = rw e (by_operands bytes (last_of private_operator es))

abbrev Range : Type 0
Range = Option (ℕ × ℕ)

abbrev no_range : Range
no_range = None

abbrev some_range : ℕ → ℕ → Range
some_range start end = Some (start, end)

pub own_without : (bytes : List ℕ) (es : List Entry) → no_range ≡ last_range private_operator es → no_private ≡ unwrap_or (private_at bytes es) no_private
own_without bytes es e = rw (by_range bytes es no_range e) refl

pub own_with : (bytes : List ℕ) (es : List Entry) (start end : ℕ) (p : Option Private) → some_range start end ≡ last_range private_operator es → p ≡ private_in bytes (start, end)
    → unwrap_or p no_private ≡ unwrap_or (private_at bytes es) no_private
own_with bytes es start end p e h = rw (by_range bytes es (some_range start end) e, h) refl

-- ---- a range ends where it begins or after
abbrev range_of : Option ℕ → Option ℕ → Range
range_of n s = n >>= λ size. s >>= λ start. some_range start (start + size)

ordered_by : (n s : Option ℕ) (a b : ℕ) → range_of n s ≡ some_range a b → a ≤ b
ordered_by None s a b e = absurd (none-some _ e)
ordered_by (Some n) None a b e = absurd (none-some _ e)
ordered_by (Some n) (Some s) a b e =
    let same = same_Some _ _ e in
    omega (arith, ap (λ (x : ℕ × ℕ). x.0) same, ap (λ (x : ℕ × ℕ). x.1) same)

ordered : (xs : List Number) (a b : ℕ) → range_operands xs ≡ some_range a b → a ≤ b
unfolding range_operands
ordered [] a b e = absurd (none-some _ e)
ordered (x ∷ []) a b e = absurd (none-some _ e)
ordered (x ∷ y ∷ []) a b e = ordered_by (as_u32 x) (as_u32 y) a b e
ordered (x ∷ y ∷ z ∷ zs) a b e = absurd (none-some _ e)

ordered_in : (o : Option (List Number)) (a b : ℕ) → (o >>= range_operands) ≡ some_range a b → a ≤ b
ordered_in None a b e = absurd (none-some _ e)
ordered_in (Some xs) a b e = ordered xs a b e

pub range_ordered : (es : List Entry) (a b : ℕ) → some_range a b ≡ last_range private_operator es → a ≤ b
range_ordered es a b e = ordered_in (last_of private_operator es) a b (sym e)
