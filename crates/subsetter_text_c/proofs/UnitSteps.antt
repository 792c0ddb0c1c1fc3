-- UTF-16, one unit after the other.
use Rattle.std.proofs.Common.{◌≡◌, ℕ, ◌+◌, ◌<◌, ◌≤◌, List, [], ◌++◌, length, get_or, drop, option_map, Option, Some, None, refl, sym, ap, ◌∙◌, append_assoc, append-nil}
use Rattle.std.specs.Option.{option_and_then}
use Rattle.std.proofs.lemmas.List.{drop_all, drop_more}
use Rattle.subsetter_text_c.specs.Units.{decoded, next_high, read_out, read_unit}
use Rattle.subsetter_text_c.specs.declared.units.Read.{Read}

-- characters before those of units
abbrev front : List ℕ → Option (List ℕ) → Option (List ℕ)
front cs o = option_map (λ (l : List ℕ). cs ++ l) o

front_twice : (a b : List ℕ) (o : Option (List ℕ)) → front (a ++ b) o ≡ front a (front b o)
front_twice a b None = refl
front_twice a b (Some l) = ap Some (append_assoc a b l)

here : (high : Option ℕ) (us : List ℕ) (k d : ℕ) → k < length us → decoded high (drop k us) ≡ option_and_then (λ (r : Read). front (read_out r) (decoded (next_high r) (drop (k + 1) us))) (read_unit high (get_or us k d))
here high us k d l = ap (decoded high) (drop_more us k d l)

-- with one unit more, the characters so far and those of the rest are still all
pub unit_read : (us : List ℕ) (k d : ℕ) (high next : Option ℕ) (r : Read) (so_far new : List ℕ) (total : Option (List ℕ)) → k < length us → read_unit high (get_or us k d) ≡ Some r → next ≡ next_high r → new ≡ so_far ++ read_out r
    → option_map (λ (cs : List ℕ). so_far ++ cs) (decoded high (drop k us)) ≡ total → option_map (λ (cs : List ℕ). new ++ cs) (decoded next (drop (k + 1) us)) ≡ total
unit_read us k d high next r so_far new total l is then more h =
    let rest : List ℕ = drop (k + 1) us in
    ap (λ (n : Option ℕ). front new (decoded n rest)) then
    ∙ ap (λ (cs : List ℕ). front cs (decoded (next_high r) rest)) more
    ∙ front_twice so_far (read_out r) (decoded (next_high r) rest)
    ∙ sym (ap (front so_far) (here high us k d l ∙ ap (option_and_then (λ (r : Read). front (read_out r) (decoded (next_high r) rest))) is))
    ∙ h

-- a unit that is nothing
pub unit_wrong : (us : List ℕ) (k d : ℕ) (high : Option ℕ) (so_far : List ℕ) (total : Option (List ℕ)) → k < length us → read_unit high (get_or us k d) ≡ None → option_map (λ (cs : List ℕ). so_far ++ cs) (decoded high (drop k us)) ≡ total → total ≡ None
unit_wrong us k d high so_far total l is h =
    sym h ∙ ap (front so_far) (here high us k d l ∙ ap (option_and_then (λ (r : Read). front (read_out r) (decoded (next_high r) (drop (k + 1) us)))) is)

at_end : (us : List ℕ) (k : ℕ) (high : Option ℕ) (so_far : List ℕ) (total : Option (List ℕ)) → length us ≤ k → front so_far (decoded high (drop k us)) ≡ total → front so_far (decoded high []) ≡ total
at_end us k high so_far total l h = sym (ap (λ (l : List ℕ). front so_far (decoded high l)) (drop_all k us l)) ∙ h

-- after the last unit
pub all_read : (us : List ℕ) (k : ℕ) (high : Option ℕ) (so_far : List ℕ) (total : Option (List ℕ)) → length us ≤ k → high ≡ None → option_map (λ (cs : List ℕ). so_far ++ cs) (decoded high (drop k us)) ≡ total → total ≡ Some so_far
all_read us k high so_far total l none h =
    sym (at_end us k high so_far total l h) ∙ ap (λ (o : Option ℕ). front so_far (decoded o [])) none ∙ ap Some (append-nil so_far)

pub half_read : (us : List ℕ) (k : ℕ) (high : Option ℕ) (so_far : List ℕ) (total : Option (List ℕ)) (u : ℕ) → length us ≤ k → high ≡ Some u → option_map (λ (cs : List ℕ). so_far ++ cs) (decoded high (drop k us)) ≡ total → total ≡ None
half_read us k high so_far total u l some h = sym (at_end us k high so_far total l h) ∙ ap (λ (o : Option ℕ). front so_far (decoded o [])) some
