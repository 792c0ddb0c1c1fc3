-- Parts of tables that are missing, and numbers that are there.
--   bind_none                    the step that has no answer
--   number_is, not_short         a number that is there, and no more
--   if_some, if_none, unless_some, unless_none
--                                what a test says of an answer
use Rattle.std.proofs.Common.{◌≡◌, ℕ, ◌+◌, ◌<◌, ◌≤◌, Bool, true, false, cond, List, length, take, drop, Option, Some, None, refl, ap, ◌⊎◌, inl, inr, arith}
use Rattle.std.specs.Option.{option_and_then, option_map}
use Rattle.subsetter_base.specs.Bytes.{be, number}
use Rattle.subsetter_base.proofs.ByteLemmas.{number-fits, number-short, range-take_drop}

pub bind_none : {A B : Type 0} (o : Option A) (f : A → Option B) → option_and_then f o ≡ None → (o ≡ None) ⊎ ((x : A) × (o ≡ Some x) × (f x ≡ None))
bind_none None f h = inl refl
bind_none (Some x) f h = inr (x, refl, h)

pub number_is : (bytes : List ℕ) (at size : ℕ) → at + size ≤ length bytes → (n : ℕ) × (number bytes at size ≡ Some n)
number_is bytes at size h = (be (take size (drop at bytes)), ap (option_map be) (range-take_drop bytes at size h))

-- a number that is missing where there are as many bytes
pub not_short : (bytes : List ℕ) (at size : ℕ) → at + size ≤ length bytes → number bytes at size ≡ None → ⊥
not_short bytes at size h none = let less = number-short bytes at size none in omega arith

-- a number that is there where there are fewer bytes
pub not_long : (bytes : List ℕ) (at size n : ℕ) → length bytes < at + size → number bytes at size ≡ Some n → ⊥
not_long bytes at size n h is = let fits = number-fits bytes at size n is in omega arith

-- what is there where a test holds
pub if_some : {A : Type 0} (b : Bool) (o : Option A) (x : A) → cond b o None ≡ Some x → (b ≡ true) × (o ≡ Some x)
if_some true o x h = (refl, h)
if_some false o x h = absurd cc

pub if_none : {A : Type 0} (b : Bool) (o : Option A) → cond b o None ≡ None → (b ≡ false) ⊎ ((b ≡ true) × (o ≡ None))
if_none true o h = inr (refl, h)
if_none false o h = inl refl

-- or where it doesn't
pub unless_some : {A : Type 0} (b : Bool) (o : Option A) (x : A) → cond b None o ≡ Some x → (b ≡ false) × (o ≡ Some x)
unless_some true o x h = absurd cc
unless_some false o x h = (refl, h)

pub unless_none : {A : Type 0} (b : Bool) (o : Option A) → cond b None o ≡ None → (b ≡ true) ⊎ ((b ≡ false) × (o ≡ None))
unless_none true o h = inl refl
unless_none false o h = inr (refl, h)

pub some_is_not : {A : Type 0} (x : A) → Some x ≡ None → ⊥
some_is_not x h = cc
