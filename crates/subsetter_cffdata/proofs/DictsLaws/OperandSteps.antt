-- Operands that are read one by one into a buffer.
use Rattle.std.proofs.Common.{◌≡◌, ℕ, ◌+◌, ◌<◌, ◌≤◌, List, [], length, take, map, Option, Some, None, refl, ap, ◌∙◌, sym}
use Rattle.std.specs.Option.{option_map}
use Rattle.std.proofs.Math.ListN.{set}
use Rattle.std.proofs.lemmas.List.{take_more_set, map_push, take_at, take_all, append-nil}
use Rattle.std.proofs.lemmas.Option.{none-some}
use Rattle.subsetter_cffdata.specs.Numerals.Numbers.{Number}
use Rattle.subsetter_cffdata.specs.Dicts.Dict.{Operand, Operator, token_at, Entry, entry_at}
use Rattle.subsetter_cffdata.specs.Dicts.Tokens.{operator_part, with_operands}
use Rattle.subsetter_cffdata.proofs.DictsLaws.Shorter.{at_no_token, at_operator, at_operand, with_both}

pub goes_on : {A : Type 0} (f : A → Number) (buffer : List A) (len : ℕ) (bytes rest : List ℕ) (y : A) (whole : Option (Entry × List ℕ))
    → with_operands (map f (take len buffer)) (entry_at bytes) ≡ whole → token_at bytes ≡ Some (Operand (f y), rest) → len < length buffer
    → with_operands (map f (take (len + 1) (set buffer len y))) (entry_at rest) ≡ whole
goes_on f buffer len bytes rest y whole so_far read lt =
    rw (take_more_set buffer len y lt, map_push f (take len buffer) y, ← with_both (map f (take len buffer)) (f y) (entry_at rest), ← at_operand bytes rest (f y) read) so_far

abbrev pub kept_of : ℕ → Option (Entry × List ℕ) → Option (List Number)
kept_of limit o = option_map (λ e. take limit e.0.operands) o

-- the entry ends here
pub ends_here : (read : List Number) (bytes p rest : List ℕ) (limit : ℕ) (whole : Option (Entry × List ℕ)) → token_at bytes ≡ Some (Operator p, rest) → with_operands read (entry_at bytes) ≡ whole → length read ≤ limit → Some read ≡ kept_of limit whole
ends_here read bytes p rest limit whole token h le =
    let made : with_operands read (Some (record { operator = p; operands = [] }, rest)) ≡ whole = ap (with_operands read) (sym (at_operator bytes p rest token)) ∙ h in
    rw (← made, append-nil read, take_all limit read le) refl

-- as many were read as are kept
full_with : (read : List Number) (o : Option (Entry × List ℕ)) (limit : ℕ) (found : List ℕ × List ℕ) → operator_part o ≡ Some found → length read ≡ limit → Some read ≡ kept_of limit (with_operands read o)
full_with read None limit found there len = absurd (none-some found there)
full_with read (Some e) limit found there len = ap Some (sym (take_at read e.0.operands limit len))

pub full : (read : List Number) (bytes : List ℕ) (limit : ℕ) (found : List ℕ × List ℕ) (whole : Option (Entry × List ℕ)) → operator_part (entry_at bytes) ≡ Some found → with_operands read (entry_at bytes) ≡ whole → length read ≡ limit → Some read ≡ kept_of limit whole
full read bytes limit found whole there h len = full_with read (entry_at bytes) limit found there len ∙ ap (kept_of limit) h

none_with : (read : List Number) (o : Option (Entry × List ℕ)) (limit : ℕ) → operator_part o ≡ None → None ≡ kept_of limit (with_operands read o)
none_with read None limit none = refl
none_with read (Some e) limit none = absurd (none-some _ (sym none))

-- no operator follows
pub cut : (read : List Number) (bytes : List ℕ) (limit : ℕ) (whole : Option (Entry × List ℕ)) → operator_part (entry_at bytes) ≡ None → with_operands read (entry_at bytes) ≡ whole → None ≡ kept_of limit whole
cut read bytes limit whole none h = none_with read (entry_at bytes) limit none ∙ ap (kept_of limit) h

-- no token follows
pub not_here : (read : List Number) (bytes : List ℕ) (limit : ℕ) (whole : Option (Entry × List ℕ)) → token_at bytes ≡ None → with_operands read (entry_at bytes) ≡ whole → None ≡ kept_of limit whole
not_here read bytes limit whole token h = cut read bytes limit whole (ap operator_part (at_no_token bytes token)) h

-- ---- the operator of the whole is that of what is left
part_with : (read : List Number) (o : Option (Entry × List ℕ)) → operator_part (with_operands read o) ≡ operator_part o
part_with read None = refl
part_with read (Some e) = refl

pub part_of_whole : (read : List Number) (o whole : Option (Entry × List ℕ)) → with_operands read o ≡ whole → operator_part whole ≡ operator_part o
part_of_whole read o whole h = ap operator_part (sym h) ∙ part_with read o
