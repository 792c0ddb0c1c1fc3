-- The steps of a `post` that is answered.
use Rattle.std.proofs.Common.{◌≡◌, ℕ, ◌≤◌, Bool, true, false, cond, leb, eqb, List, Option, Some, None, Ok, Err, refl, sym, ap, ◌∙◌}
use Rattle.std.specs.Prelude.{codes, map, ◌≢◌}
use Rattle.std.specs.Option.{ok_or}
use Rattle.std.proofs.lemmas.Bool.{leb-true, eqb-true}
use Rattle.subsetter_base.specs.Bytes.{number, ◌>>=◌}
use Rattle.subsetter_base.specs.declared.error.Error.{Error}
use Rattle.subsetter_base.specs.declared.error.Error.TheVariants.{MalformedFont, OverflowError}
use Rattle.subsetter_base.proofs.Results.{done_is, failed_is, bind_ok, named_ok}
use Rattle.subsetter.specs.Common.Post.Read.{PostTable, names_in, post_table, name_of_index, post_bytes}
use Rattle.subsetter.specs.Common.Post.Plain.{indexes_of, custom_count, post_of_indexes, subset_glyph_names, post_of_table, new_post, post_of}
use Rattle.subsetter_base.proofs.Options.{just_is}

-- ---- the steps of an answer

within : (b : Bool) (x : List ℕ) (y : List ℕ) → cond b (Ok x) (Err OverflowError) ≡ Ok y → (b ≡ true) × (x ≡ y)
within true x y h = (refl, done_is x y h)
within false x y h = absurd cc

pub beyond : (b : Bool) (x : List ℕ) (e : Error) → cond b (Ok x) (Err OverflowError) ≡ Err e → (b ≡ false) × (OverflowError ≡ e)
beyond true x e h = absurd cc
beyond false x e h = (refl, failed_is {A = List ℕ} OverflowError e h)

pub record PostSteps (bytes order new : List ℕ) : Type 0 where
  pub table : PostTable
  pub read : post_table bytes ≡ Some table
  pub indexes : List ℕ
  pub are : indexes_of table order ≡ Ok indexes
  pub few : custom_count indexes ≤ 65278
  pub new_is : new ≡ post_bytes table.header (map (name_of_index (names_in table.names_data)) indexes)

post_steps : (bytes order new : List ℕ) → (ok_or (post_table bytes) MalformedFont >>= λ t. subset_glyph_names t order) ≡ Ok new → PostSteps bytes order new
unfolding subset_glyph_names post_of_indexes
post_steps bytes order new h =
    let a = bind_ok (ok_or (post_table bytes) MalformedFont) (λ t. indexes_of t order >>= λ is. post_of_indexes t is) new h in
    let b = bind_ok (indexes_of a.0 order) (λ is. post_of_indexes a.0 is) new a.2 in
    let c = within (leb (custom_count b.0) 65278) (post_bytes a.0.header (map (name_of_index (names_in a.0.names_data)) b.0)) new b.2 in
    record { table = a.0; read = named_ok (post_table bytes) MalformedFont a.0 a.1; indexes = b.0; are = b.1; few = leb-true _ _ c.0; new_is = sym c.1 }

-- the version, and what it leads to
pub data PostAnswer (bytes order new : List ℕ) : Type 0 where
  second : number bytes 0 4 ≡ Some 0x00020000 → PostSteps bytes order new → PostAnswer bytes order new
  another : (version : ℕ) → number bytes 0 4 ≡ Some version → version ≢ 0x00020000 → new ≡ bytes → PostAnswer bytes order new

not_second : (v : ℕ) → eqb v 0x00020000 ≡ false → v ≡ 0x00020000 → ⊥
not_second v h e = let k = sym h ∙ ap (λ n. eqb n 0x00020000) e in cc

post_answer : (bytes order new : List ℕ) → post_of_table bytes order ≡ Ok new → PostAnswer bytes order new
unfolding post_of_table
post_answer bytes order new h =
    let a = bind_ok (ok_or (number bytes 0 4) MalformedFont) (λ v. cond (eqb v 0x00020000) (ok_or (post_table bytes) MalformedFont >>= λ t. subset_glyph_names t order) (Ok bytes)) new h in
    by a.0 (named_ok (number bytes 0 4) MalformedFont a.0 a.1) (eqb a.0 0x00020000) refl a.2
  where
    by : (v : ℕ) → number bytes 0 4 ≡ Some v → (b : Bool) → eqb v 0x00020000 ≡ b → cond b (ok_or (post_table bytes) MalformedFont >>= λ t. subset_glyph_names t order) (Ok bytes) ≡ Ok new → PostAnswer bytes order new
    by v is true e k = second (is ∙ ap (λ (n : ℕ). Some n) (eqb-true v 0x00020000 e)) (post_steps bytes order new k)
    by v is false e k = another v is (not_second v e) (sym (done_is bytes new k))

-- the table of the source, and the new one
pub record PostTables (find : List ℕ → Option (List ℕ)) (order new : List ℕ) : Type 0 where
  pub source : List ℕ
  pub source_is : find (codes "post") ≡ Some source
  pub answer : PostAnswer source order new

pub post_tables : (find : List ℕ → Option (List ℕ)) (order new : List ℕ) → post_of find order ≡ Ok (Some new) → PostTables find order new
unfolding new_post
post_tables find order new h = by (find (codes "post")) refl h
  where
    maybe_is : (x : List ℕ) → (post_of_table x order >>= λ n. Ok (Some n)) ≡ Ok (Some new) → post_of_table x order ≡ Ok new
    maybe_is x k =
        let a = bind_ok (post_of_table x order) (λ n. Ok (Some n)) (Some new) k in
        a.1 ∙ ap (λ (l : List ℕ). Ok l) (just_is a.0 new (done_is (Some a.0) (Some new) a.2))

    by : (o : Option (List ℕ)) → find (codes "post") ≡ o → new_post o order ≡ Ok (Some new) → PostTables find order new
    by None is k = absurd cc
    by (Some x) is k = record { source = x; source_is = is; answer = post_answer x order new (maybe_is x k) }
