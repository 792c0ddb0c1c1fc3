-- The steps to the tables that both kinds of outlines share.
use Rattle.std.proofs.Common.{◌≡◌, ℕ, ◌≤◌, ltb, Bool, true, false, cond, List, length, Option, Some, None, Ok, Err, refl, sym, ap, subst, ◌∙◌}
use Rattle.std.specs.Prelude.{codes, is_some}
use Rattle.std.proofs.lemmas.Bool.{ltb-false}
use Rattle.subsetter_base.specs.Bytes.{◌>>=◌}
use Rattle.subsetter_base.specs.declared.error.Error.{Error}
use Rattle.subsetter_base.specs.declared.error.Error.TheVariants.{MalformedFont}
use Rattle.subsetter_base.proofs.Options.{just, just_is}
use Rattle.subsetter_base.proofs.Results.{done_is, bind_ok}
use Rattle.subsetter_sfnt.specs.declared.flavor.FontFlavor.{FontFlavor}
use Rattle.subsetter.specs.Common.Head.Written.{head_bytes, head_in, head_of}
use Rattle.subsetter.specs.Common.Hmtx.Written.{MetricBytes, metrics_in, metrics_of, tables_of}
use Rattle.subsetter.specs.Common.Maxp.Written.{maxp_bytes, maxp_in, maxp_of}
use Rattle.subsetter.specs.Common.Name.Plain.{new_name, name_of, name_of_table}
use Rattle.subsetter.specs.Common.Post.Plain.{new_post, post_of, post_of_table}
use Rattle.subsetter.specs.Common.Shared.Plain.{SharedTables, shared_of}

refused : {A : Type 0} (b : Bool) (x y : A) (e : Error) → cond b (Err e) (Ok x) ≡ Ok y → (b ≡ false) × (x ≡ y)
refused true x y e h = absurd cc
refused false x y e h = (refl, done_is x y h)

-- what was made, part by part
pub record SharedSteps (find : List ℕ → Option (List ℕ)) (flavor : FontFlavor) (long : Bool) (order : List ℕ) (s : SharedTables) : Type 0 where
  pub head_is : head_of find long ≡ Ok s.head
  pub metrics_are : metrics_of find order ≡ Ok s.metrics
  pub maxp_is : maxp_of find flavor (length order) ≡ Ok s.maxp
  pub name_is : name_of find ≡ Ok s.name
  pub post_is : post_of find order ≡ Ok s.post

pub shared_steps : (find : List ℕ → Option (List ℕ)) (flavor : FontFlavor) (long : Bool) (order : List ℕ) (s : SharedTables) → shared_of find flavor long order ≡ Ok s → SharedSteps find flavor long order s
unfolding shared_of
shared_steps find flavor long order s h =
    let after_post = λ (head : Option (List ℕ)) (metrics : Option MetricBytes) (maxp name post : Option (List ℕ)). Ok (record { head = head; metrics = metrics; maxp = maxp; name = name; post = post }) in
    let after_name = λ (head : Option (List ℕ)) (metrics : Option MetricBytes) (maxp name : Option (List ℕ)). post_of find order >>= after_post head metrics maxp name in
    let after_maxp = λ (head : Option (List ℕ)) (metrics : Option MetricBytes) (maxp : Option (List ℕ)). name_of find >>= after_name head metrics maxp in
    let after_metrics = λ (head : Option (List ℕ)) (metrics : Option MetricBytes). maxp_of find flavor (length order) >>= after_maxp head metrics in
    let after_head = λ (head : Option (List ℕ)). metrics_of find order >>= after_metrics head in
    let c = bind_ok (head_of find long) after_head s h in
    let d = bind_ok (metrics_of find order) (after_metrics c.0) s c.2 in
    let e = bind_ok (maxp_of find flavor (length order)) (after_maxp c.0 d.0) s d.2 in
    let f = bind_ok (name_of find) (after_name c.0 d.0 e.0) s e.2 in
    let g = bind_ok (post_of find order) (after_post c.0 d.0 e.0 f.0) s f.2 in
    let made : SharedTables = record { head = c.0; metrics = d.0; maxp = e.0; name = f.0; post = g.0 } in
    subst (SharedSteps find flavor long order) {x = made} (done_is made s g.2) (record { head_is = c.1; metrics_are = d.1; maxp_is = e.1; name_is = f.1; post_is = g.1 })

-- ---- a table is made exactly where the source has it

pub head_there : (find : List ℕ → Option (List ℕ)) (long : Bool) (x : Option (List ℕ)) → head_of find long ≡ Ok x → is_some x ≡ is_some (find (codes "head"))
head_there find long x h = by (find (codes "head")) h
  where
    by : (o : Option (List ℕ)) → head_in o long ≡ Ok x → is_some x ≡ is_some o
    by None k = ap is_some (sym (done_is None x k))
    by (Some head) k = ap is_some (sym (refused (ltb (length head) 52) (Some (head_bytes long head)) x MalformedFont k).1)

pub maxp_there : (find : List ℕ → Option (List ℕ)) (f : FontFlavor) (n : ℕ) (x : Option (List ℕ)) → maxp_of find f n ≡ Ok x → is_some x ≡ is_some (find (codes "maxp"))
maxp_there find f n x h = by (find (codes "maxp")) h
  where
    by : (o : Option (List ℕ)) → maxp_in o f n ≡ Ok x → is_some x ≡ is_some o
    by None k = ap is_some (sym (done_is None x k))
    by (Some maxp) k = ap is_some (sym (refused (ltb (length maxp) 6) (Some (maxp_bytes f n maxp)) x MalformedFont k).1)

pub metrics_there : (find : List ℕ → Option (List ℕ)) (order : List ℕ) (x : Option MetricBytes) → metrics_of find order ≡ Ok x → is_some x ≡ is_some (find (codes "hmtx"))
unfolding metrics_in
metrics_there find order x h = by (find (codes "hmtx")) h
  where
    by : (o : Option (List ℕ)) → metrics_in (find (codes "hhea")) o order ≡ Ok x → is_some x ≡ is_some o
    by None k = ap is_some (sym (done_is None x k))
    by (Some hmtx) k = let a = bind_ok (tables_of (find (codes "hhea")) hmtx order) (λ tables. Ok (Some tables)) x k in ap is_some (sym (done_is (Some a.0) x a.2))

pub name_there : (find : List ℕ → Option (List ℕ)) (x : Option (List ℕ)) → name_of find ≡ Ok x → is_some x ≡ is_some (find (codes "name"))
unfolding new_name
name_there find x h = by (find (codes "name")) h
  where
    by : (o : Option (List ℕ)) → new_name o ≡ Ok x → is_some x ≡ is_some o
    by None k = ap is_some (sym (done_is None x k))
    by (Some bytes) k = let a = bind_ok (name_of_table bytes) (λ new. Ok (Some new)) x k in ap is_some (sym (done_is (Some a.0) x a.2))

pub post_there : (find : List ℕ → Option (List ℕ)) (order : List ℕ) (x : Option (List ℕ)) → post_of find order ≡ Ok x → is_some x ≡ is_some (find (codes "post"))
unfolding new_post
post_there find order x h = by (find (codes "post")) h
  where
    by : (o : Option (List ℕ)) → new_post o order ≡ Ok x → is_some x ≡ is_some o
    by None k = ap is_some (sym (done_is None x k))
    by (Some bytes) k = let a = bind_ok (post_of_table bytes order) (λ new. Ok (Some new)) x k in ap is_some (sym (done_is (Some a.0) x a.2))

-- ---- the table that a new one was made from

-- `head`, with the one that it was made from
pub record HeadFrom (find : List ℕ → Option (List ℕ)) (long : Bool) (new : List ℕ) : Type 0 where
  pub source : List ℕ
  pub source_is : find (codes "head") ≡ Some source
  pub long_enough : 52 ≤ length source
  pub new_is : new ≡ head_bytes long source

pub head_from : (find : List ℕ → Option (List ℕ)) (long : Bool) (new : List ℕ) → head_of find long ≡ Ok (Some new) → HeadFrom find long new
head_from find long new h = by (find (codes "head")) refl h
  where
    by : (o : Option (List ℕ)) → find (codes "head") ≡ o → head_in o long ≡ Ok (Some new) → HeadFrom find long new
    by None is k = absurd (let e = done_is None (just new) k in cc)
    by (Some head) is k =
        let r = refused (ltb (length head) 52) (just (head_bytes long head)) (just new) MalformedFont k in
        record { source = head; source_is = is; long_enough = ltb-false _ _ r.0; new_is = sym (just_is (head_bytes long head) new r.1) }

pub name_tables : (find : List ℕ → Option (List ℕ)) (new : List ℕ) → name_of find ≡ Ok (Some new) → (source : List ℕ) × (find (codes "name") ≡ Some source) × (name_of_table source ≡ Ok new)
unfolding new_name
name_tables find new h = by (find (codes "name")) refl h
  where
    by : (o : Option (List ℕ)) → find (codes "name") ≡ o → new_name o ≡ Ok (Some new) → (source : List ℕ) × (find (codes "name") ≡ Some source) × (name_of_table source ≡ Ok new)
    by None is k = absurd cc
    by (Some bytes) is k =
        let a = bind_ok (name_of_table bytes) (λ x. Ok (Some x)) (Some new) k in
        (bytes, is, a.1 ∙ ap (λ (l : List ℕ). Ok l) (just_is a.0 new (done_is (Some a.0) (Some new) a.2)))

pub glyph_name_tables : (find : List ℕ → Option (List ℕ)) (order new : List ℕ) → post_of find order ≡ Ok (Some new) → (source : List ℕ) × (find (codes "post") ≡ Some source) × (post_of_table source order ≡ Ok new)
unfolding new_post
glyph_name_tables find order new h = by (find (codes "post")) refl h
  where
    by : (o : Option (List ℕ)) → find (codes "post") ≡ o → new_post o order ≡ Ok (Some new) → (source : List ℕ) × (find (codes "post") ≡ Some source) × (post_of_table source order ≡ Ok new)
    by None is k = absurd cc
    by (Some bytes) is k =
        let a = bind_ok (post_of_table bytes order) (λ x. Ok (Some x)) (Some new) k in
        (bytes, is, a.1 ∙ ap (λ (l : List ℕ). Ok l) (just_is a.0 new (done_is (Some a.0) (Some new) a.2)))
