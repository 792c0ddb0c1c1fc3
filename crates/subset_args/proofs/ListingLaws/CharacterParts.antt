-- The parts of a list of characters, one after another.
use Rattle.std.proofs.Common.{◌≡◌, ℕ, suc, ◌+◌, ◌<◌, List, ◌∷◌, ◌++◌, length, drop, get_or, drop-cons, Option, Some, None, sym, ap, ◌∙◌, append_assoc, arith}
use Rattle.std.specs.Borrow.{Bor}
use Rattle.std.specs.Option.{option_map, option_and_then}
use Rattle.subset_args.specs.Listing.Characters.{part_characters, parts_characters}
use Rattle.subset_args.proofs.WordLaws.{texts}

one_more : (o q : Option (List ℕ)) (old new : List ℕ) (total : Option (List ℕ)) → option_map (λ more. old ++ more) o ≡ Some new → option_map (λ more. old ++ more) (option_and_then (λ found. option_map (λ more. found ++ more) q) o) ≡ total → option_map (λ more. new ++ more) q ≡ total
one_more (Some found) (Some more) old new total h t =
    let e : old ++ found ≡ new = grind arith in
    ap (λ (v : List ℕ). Some (v ++ more)) (sym e) ∙ (ap Some (append_assoc old found more) ∙ t)
one_more (Some found) None old new total h t = t
one_more None q old new total h t = grind arith

-- what is left to list, after one more part
pub after_part : (old new part : List ℕ) (parts : List (List ℕ)) (total : Option (List ℕ)) → option_map (λ more. old ++ more) (part_characters part) ≡ Some new → option_map (λ more. old ++ more) (parts_characters (part ∷ parts)) ≡ total → option_map (λ more. new ++ more) (parts_characters parts) ≡ total
after_part old new part parts total h t = one_more (part_characters part) (parts_characters parts) old new total h t

-- the same for the parts of a list by their places
pub after_place : (parts : List (Bor (List ℕ))) (i : ℕ) (d : Bor (List ℕ)) (old new : List ℕ) (total : Option (List ℕ)) → i < length parts → option_map (λ more. old ++ more) (part_characters (get_or parts i d).now) ≡ Some new → option_map (λ more. old ++ more) (parts_characters (texts (drop i parts))) ≡ total → option_map (λ more. new ++ more) (parts_characters (texts (drop (i + 1) parts))) ≡ total
after_place parts i d old new total lt h t =
    let next : suc i ≡ i + 1 = omega arith in
    let cut : drop i parts ≡ get_or parts i d ∷ drop (i + 1) parts = drop-cons parts i d lt ∙ ap (λ (k : ℕ). get_or parts i d ∷ drop k parts) next in
    after_part old new (get_or parts i d).now (texts (drop (i + 1) parts)) total h (ap (λ (l : List (Bor (List ℕ))). option_map (λ more. old ++ more) (parts_characters (texts l))) (sym cut) ∙ t)
