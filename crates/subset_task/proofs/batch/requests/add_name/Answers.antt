use Rattle.std.proofs.Common.{◌≡◌, ◌||◌, List, ℕ, Option, Some, is_some, rules, string_bytes, subst}
use Rattle.std.proofs.lemmas.Map.Text.{hash_map_updates_text}
use Rattle.std.specs.HashMap.{get_by_text}
use Rattle.std.specs.Option.{option_copied}
use Rattle.subset_task.specs.Batch.Requests.{is_of_name}
use Rattle.subset_task.proofs.BatchLaws.{one_more_name}
use Rattle.subset_task.proofs.batch.requests.add_name.Goals as goal

pub returns-in_ok-insert : goal.returns-in_ok-insert
returns-in_ok-insert c =
    let old = c.args.names.now in
    let new = c.insert.new.self in
    let name = c.in-Some.name.now in
    let key : string_bytes c.in_ok-name.name ≡ name = search rules in
    let given : Some name ≡ option_copied c.args.name = search rules in
    let sets = hash_map_updates_text (string_bytes c.in_ok-name.name) old new _ c.in_ok-insert.ensures.updates in
    λ q. subst (λ (n : Option (List ℕ)). is_some (get_by_text new q) ≡ (is_of_name q n || is_some (get_by_text old q))) given (one_more_name old new (string_bytes c.in_ok-name.name) name key sets q)
