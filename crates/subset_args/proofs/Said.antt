-- The coordinates of the parts of a list, one after another.
use Rattle.std.proofs.Common.{◌≡◌, ℕ, ℤ, suc, ◌+◌, ◌<◌, List, [], ◌∷◌, ◌++◌, length, drop, get_or, drop-cons, Option, Some, None, sym, ap, ◌∙◌, ◌⊎◌, inl, inr, append_assoc, arith}
use Rattle.std.specs.Borrow.{Bor}
use Rattle.std.specs.Option.{option_map, option_and_then}
use Rattle.subsetter_base.specs.declared.tag.Tag.{Tag}
use Rattle.subset_args.specs.Coordinates.{coordinate_in, coordinates_of}
use Rattle.subset_args.specs.declared.jobs.command.ArgsError.{ArgsError}
use Rattle.subset_args.specs.declared.jobs.command.ArgsError.TheVariants.{Usage, OutOfMemory}
use Rattle.subset_args.proofs.WordLaws.{texts}

abbrev Coordinates : Type 0
Coordinates = List (Tag × ℤ)

one_more : (o : Option (Tag × ℤ)) (q : Option Coordinates) (old new : Coordinates) (total : Option Coordinates) → option_map (λ c. old ++ c ∷ []) o ≡ Some new → option_map (λ more. old ++ more) (option_and_then (λ c. option_map (λ more. c ∷ more) q) o) ≡ total → option_map (λ more. new ++ more) q ≡ total
one_more (Some c) (Some more) old new total h t =
    let e : old ++ c ∷ [] ≡ new = cc in
    ap (λ (v : Coordinates). Some (v ++ more)) (sym e) ∙ (ap Some (append_assoc old (c ∷ []) more) ∙ t)
one_more (Some c) None old new total h t = t
one_more None q old new total h t = absurd cc

-- what is left to say, after one more part
pub after_place : (parts : List (Bor (List ℕ))) (i : ℕ) (d : Bor (List ℕ)) (old new : Coordinates) (total : Option Coordinates) → i < length parts → option_map (λ c. old ++ c ∷ []) (coordinate_in (get_or parts i d).now) ≡ Some new → option_map (λ more. old ++ more) (coordinates_of (texts (drop i parts))) ≡ total → option_map (λ more. new ++ more) (coordinates_of (texts (drop (i + 1) parts))) ≡ total
after_place parts i d old new total lt h t =
    let next : suc i ≡ i + 1 = omega arith in
    let cut : drop i parts ≡ get_or parts i d ∷ drop (i + 1) parts = drop-cons parts i d lt ∙ ap (λ (k : ℕ). get_or parts i d ∷ drop k parts) next in
    one_more (coordinate_in (get_or parts i d).now) (coordinates_of (texts (drop (i + 1) parts))) old new total h (ap (λ (l : List (Bor (List ℕ))). option_map (λ more. old ++ more) (coordinates_of (texts l))) (sym cut) ∙ t)

-- a part that says none leaves nothing said
none_left : (o : Option (Tag × ℤ)) (q : Option Coordinates) (old : Coordinates) (total : Option Coordinates) → o ≡ None → option_map (λ more. old ++ more) (option_and_then (λ c. option_map (λ more. c ∷ more) q) o) ≡ total → total ≡ None
none_left None q old total h t = sym t
none_left (Some c) q old total h t = absurd cc

pub refused_place : (parts : List (Bor (List ℕ))) (i : ℕ) (d : Bor (List ℕ)) (old : Coordinates) (total : Option Coordinates) (e : ArgsError) → i < length parts → (e ≡ OutOfMemory) ⊎ ((e ≡ Usage) × (coordinate_in (get_or parts i d).now ≡ None)) → option_map (λ more. old ++ more) (coordinates_of (texts (drop i parts))) ≡ total → (e ≡ OutOfMemory) ⊎ ((e ≡ Usage) × (total ≡ None))
refused_place parts i d old total e lt (inl memory) t = inl memory
refused_place parts i d old total e lt (inr wrong) t =
    let next : suc i ≡ i + 1 = omega arith in
    let cut : drop i parts ≡ get_or parts i d ∷ drop (i + 1) parts = drop-cons parts i d lt ∙ ap (λ (k : ℕ). get_or parts i d ∷ drop k parts) next in
    inr (wrong.0, none_left (coordinate_in (get_or parts i d).now) (coordinates_of (texts (drop (i + 1) parts))) old total wrong.1 (ap (λ (l : List (Bor (List ℕ))). option_map (λ more. old ++ more) (coordinates_of (texts l))) (sym cut) ∙ t))
