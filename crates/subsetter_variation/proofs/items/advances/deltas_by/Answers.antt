use Rattle.std.proofs.Common.{◌≡◌, ℕ, List, [], ◌∷◌, map, Option, None, Some, ℤ, Result, Err, length, replicate, refl, ap, subst, ◌∙◌}
use Rattle.std.specs.Prelude.{IfOk}
use Rattle.std.proofs.lemmas.Simd.{splat_is_map}
use Rattle.subsetter_base.specs.declared.error.Error.{Error}
use Rattle.subsetter_base.specs.declared.error.Error.TheVariants.{MalformedFont}
use Rattle.subsetter_variation.specs.Items.ItemVariations.{Store}
use Rattle.subsetter_variation.specs.Items.Advances.{delta_by, store_of}
use Rattle.subsetter_variation.specs.Items.Known.{listed_delta}
use Rattle.subsetter_variation.proofs.items.advances.deltas_by.Goals as goal

by_index : (s : Store) (at : List ℤ) (index : Option (ℕ × ℕ)) → listed_delta s at index ≡ delta_by (Some s) at index
by_index s at None = refl
by_index s at (Some i) = refl

each : (s : Store) (at : List ℤ) (items : List (Option (ℕ × ℕ))) → map (listed_delta s at) items ≡ map (delta_by (Some s) at) items
each s at [] = refl
each s at (i ∷ items) = ap (λ d. d ∷ map (listed_delta s at) items) (by_index s at i) ∙ ap (λ rest. delta_by (Some s) at i ∷ rest) (each s at items)

pub returns-in-Some : goal.returns-in-Some
returns-in-Some c =
    let same = each c.in-Some.s c.args.at.now c.args.items.now ∙ ap (λ (s : Option Store). map (delta_by s c.args.at.now) c.args.items.now) c.in-Some.ensures in
    subst (λ (l : List (Result ℤ Error)). IfOk c.each_delta.result (λ v. v.items ≡ l)) same c.each_delta.ensures

pub returns-in-None : goal.returns-in-None
returns-in-None c =
    let fault : Result ℤ Error = Err MalformedFont in
    let none : replicate (length c.args.items.now) fault ≡ map (delta_by None c.args.at.now) c.args.items.now = splat_is_map c.args.items.now (length c.args.items.now) fault refl in
    let same = none ∙ ap (λ (s : Option Store). map (delta_by s c.args.at.now) c.args.items.now) c.in-None.ensures in
    subst (λ (l : List (Result ℤ Error)). IfOk c.without_store.result (λ v. v.items ≡ l)) same c.without_store.ensures
