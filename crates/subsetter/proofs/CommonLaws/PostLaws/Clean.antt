-- A `post` that is answered has no fault.
use Rattle.std.proofs.Common.{◌≡◌, ℕ, ◌*◌, ◌<◌, ◌≤◌, Bool, true, false, cond, ltb, List, length, get_or, Option, Some, None, Ok, refl, sym, ap, subst, ◌∙◌, arith}
use Rattle.std.specs.Prelude.{codes, Contains, nat_eq, ◌≢◌}
use Rattle.std.specs.Option.{option_and_then}
use Rattle.std.specs.List.{AllByRecursion, IsDistinct}
use Rattle.std.proofs.lemmas.Bool.{ltb-true}
use Rattle.std.proofs.lemmas.Bool.Decides.{Decides-eqb}
use Rattle.std.proofs.lemmas.Cmp.{nat_eq_equiv}
use Rattle.std.proofs.lemmas.Map.Made.{length-le_from_is_member, is_member-Decides}
use Rattle.std.proofs.lemmas.List.{get_or_default}
use Rattle.subsetter_base.specs.Bytes.{be, range, number}
use Rattle.subsetter_base.specs.declared.error.Error.{Error}
use Rattle.subsetter_base.proofs.Results.{done_is, bind_ok}
use Rattle.subsetter_base.proofs.Options.{some_not_none, just_is}
use Rattle.subsetter.specs.Common.Post.Read.{PostTable, glyph_index}
use Rattle.subsetter.specs.Common.Post.Plain.{post_of_table, new_post, post_of}
use Rattle.subsetter.specs.Common.Post.Fault.{HasOwnName, HasGlyphNameFault}
use Rattle.subsetter_base.proofs.ByteLemmas.{number-fits}
use Rattle.subsetter.specs.Common.Post.Fault as faults
use Rattle.subsetter.proofs.CommonLaws.PostLaws.Own.{index_of, owned, owned_counted, has_own, named_own}
use Rattle.subsetter.proofs.CommonLaws.PostLaws.Answer.{PostSteps, PostAnswer, second, another, PostTables, post_tables}
use Rattle.subsetter.proofs.CommonLaws.PostLaws.Fault.{PostRead, read_table, each_member}

-- ---- what is answered has none

apart_numbers : (a b : ℕ) (o : Option ℕ) → o ≡ Some a → o ≡ Some b → a ≡ b
apart_numbers a b o h k = just_is a b (sym h ∙ k)

has_index : (t : PostTable) (g i : ℕ) → glyph_index t g ≡ Some i → g < t.indexes.count
has_index t g i h = by (ltb g t.indexes.count) refl h
  where
    by : (b : Bool) → ltb g t.indexes.count ≡ b → option_and_then (λ x. Some (be x)) (cond b (range t.indexes.bytes (g * 2) 2) None) ≡ Some i → g < t.indexes.count
    by true e k = ltb-true g t.indexes.count e
    by false e k = absurd cc

-- distinct members of a list with names of their own are no more than the list's
module _ (find : List ℕ → Option (List ℕ)) (bytes order new : List ℕ) (there : find (codes "post") ≡ Some bytes) (v : number bytes 0 4 ≡ Some 0x00020000) (s : PostSteps bytes order new) where
  same : (other : List ℕ) → find (codes "post") ≡ Some other → bytes ≡ other
  same other h = just_is bytes other (sym there ∙ h)

  r : PostRead bytes s.table
  r = read_table bytes s.table v s.read

  at_most_own : (gs : List ℕ) → IsDistinct nat_eq gs → AllByRecursion (λ g. Contains order g × HasOwnName bytes g) gs → length gs ≤ 65278
  at_most_own gs distinct all =
      let own = owned order s.indexes in
      let among : (q : ℕ) → Contains gs q → Contains own q = λ q c. let f = each_member gs (λ g. Contains order g × HasOwnName bytes g) all q c in has_own s.table order s.indexes q s.are f.0 (named_own bytes s.table s.read q f.1) in
      let shorter : length gs ≤ length own = length-le_from_is_member nat_eq_equiv gs own distinct (λ q m. (is_member-Decides Decides-eqb own q).1 (among q ((is_member-Decides Decides-eqb gs q).0 m))) in
      omega (arith, shorter, owned_counted s.table order s.indexes s.are, s.few)

  clean_second : (e : Error) → HasGlyphNameFault find (Contains order) e → ⊥
  clean_second e (faults.short_post x h lt) = omega (arith, r.long, ap length (same x h), lt)
  clean_second e (faults.short_header x h k lt) = omega (arith, r.long, ap length (same x h), lt)
  clean_second e (faults.count_cut x h k lt) = omega (arith, r.long, ap length (same x h), lt)
  clean_second e (faults.indexes_cut x count h k n lt) =
      let e2 = apart_numbers s.table.indexes.count count (number bytes 32 2) r.count (ap (λ (l : List ℕ). number l 32 2) (same x h) ∙ n) in
      omega (arith, r.long, ap length (same x h), lt, e2)
  clean_second e (faults.no_index x count g h k n c le) =
      let e2 = apart_numbers s.table.indexes.count count (number bytes 32 2) r.count (ap (λ (l : List ℕ). number l 32 2) (same x h) ∙ n) in
      let i = index_of s.table order s.indexes c.0 s.are c.1 in
      let is_g : get_or order c.0 0 ≡ g = get_or_default order c.0 0 g c.1 ∙ c.2 in
      omega (arith, has_index s.table g (get_or s.indexes c.0 0) (ap (glyph_index s.table) (sym is_g) ∙ i), le, e2)
  clean_second e (faults.many_own_names x gs h k d all lt) =
      omega (arith, lt, at_most_own gs d (subst (λ (l : List ℕ). AllByRecursion (λ g. Contains order g × HasOwnName l g) gs) (sym (same x h)) all))

clean_other : (find : List ℕ → Option (List ℕ)) (bytes order : List ℕ) (v : ℕ) → find (codes "post") ≡ Some bytes → number bytes 0 4 ≡ Some v → v ≢ 0x00020000 → (e : Error) → HasGlyphNameFault find (Contains order) e → ⊥
clean_other find bytes order v there is other e f = by e f
  where
    same : (x : List ℕ) → find (codes "post") ≡ Some x → bytes ≡ x
    same x h = just_is bytes x (sym there ∙ h)

    second_not : (x : List ℕ) → find (codes "post") ≡ Some x → number x 0 4 ≡ Some 0x00020000 → ⊥
    second_not x h k = other (apart_numbers v 0x00020000 (number bytes 0 4) is (ap (λ (l : List ℕ). number l 0 4) (same x h) ∙ k))

    by : (d : Error) → HasGlyphNameFault find (Contains order) d → ⊥
    by d (faults.short_post x h lt) = omega (arith, number-fits bytes 0 4 v is, ap length (same x h), lt)
    by d (faults.short_header x h k lt) = second_not x h k
    by d (faults.count_cut x h k lt) = second_not x h k
    by d (faults.indexes_cut x count h k n lt) = second_not x h k
    by d (faults.no_index x count g h k n c le) = second_not x h k
    by d (faults.many_own_names x gs h k a b lt) = second_not x h k

none_there : (find : List ℕ → Option (List ℕ)) (reached : ℕ → Type 0) (e : Error) → find (codes "post") ≡ None → HasGlyphNameFault find reached e → ⊥
none_there find reached e gone (faults.short_post x h lt) = some_not_none (find (codes "post")) x h gone
none_there find reached e gone (faults.short_header x h k lt) = some_not_none (find (codes "post")) x h gone
none_there find reached e gone (faults.count_cut x h k lt) = some_not_none (find (codes "post")) x h gone
none_there find reached e gone (faults.indexes_cut x count h k n lt) = some_not_none (find (codes "post")) x h gone
none_there find reached e gone (faults.no_index x count g h k n c le) = some_not_none (find (codes "post")) x h gone
none_there find reached e gone (faults.many_own_names x gs h k a b lt) = some_not_none (find (codes "post")) x h gone

pub no_post : (find : List ℕ → Option (List ℕ)) (order : List ℕ) → post_of find order ≡ Ok None → find (codes "post") ≡ None
unfolding new_post
no_post find order h = by (find (codes "post")) refl h
  where
    by : (o : Option (List ℕ)) → find (codes "post") ≡ o → new_post o order ≡ Ok None → find (codes "post") ≡ None
    by None is k = is
    by (Some x) is k = absurd (let a = bind_ok (post_of_table x order) (λ n. Ok (Some n)) None k in let z = done_is (Some a.0) None a.2 in cc)

pub post_clean : (find : List ℕ → Option (List ℕ)) (order : List ℕ) (x : Option (List ℕ)) (e : Error) → post_of find order ≡ Ok x → HasGlyphNameFault find (Contains order) e → ⊥
post_clean find order None e h f = none_there find (Contains order) e (no_post find order h) f
post_clean find order (Some new) e h f = by (post_tables find order new h)
  where
    by : PostTables find order new → ⊥
    by t = answered t.answer
      where
        answered : PostAnswer t.source order new → ⊥
        answered (second v s) = clean_second find t.source order new t.source_is v s e f
        answered (another v is apart same) = clean_other find t.source order v t.source_is is apart e f
