-- What is refused of the tables that both kinds of outlines share has a fault of that name; where they are made there is none.
use Rattle.std.proofs.Common.{◌≡◌, ℕ, ltb, Bool, true, false, cond, List, [], ◌∷◌, length, Option, Some, None, Ok, Err, refl, subst, inl, inr}
use Rattle.std.specs.Prelude.{codes, Contains}
use Rattle.std.specs.List.{AllByRecursion}
use Rattle.std.proofs.lemmas.Bool.{ltb-true}
use Rattle.subsetter_base.specs.Bytes.{◌>>=◌, IsBytes}
use Rattle.subsetter_base.specs.declared.error.Error.{Error}
use Rattle.subsetter_base.specs.declared.error.Error.TheVariants.{MalformedFont}
use Rattle.subsetter_base.proofs.Results.{failed_is, bind_err}
use Rattle.subsetter_sfnt.specs.declared.flavor.FontFlavor.{FontFlavor}
use Rattle.subsetter.specs.Fault as faults
use Rattle.subsetter.specs.Fault.{HasFault}
use Rattle.subsetter_sfnt.specs.Read.{Font, table}
use Rattle.subsetter.specs.Glyf.Fault as outline_faults
use Rattle.subsetter.specs.Glyf.Reaching.Reach.{IsReachable, IsGlyphOrder}
use Rattle.subsetter.specs.Common.Head.Written.{head_bytes, head_in, head_of}
use Rattle.subsetter.specs.Common.Hmtx.Read.{HasMetricsFault}
use Rattle.subsetter.specs.Common.Hmtx.Written.{MetricBytes, metrics_of}
use Rattle.subsetter.specs.Common.Maxp.Read.{HasMaxProfileFault}
use Rattle.subsetter.specs.Common.Maxp.Written.{maxp_of}
use Rattle.subsetter.specs.Common.Name.Fault.{HasNameFault}
use Rattle.subsetter.specs.Common.Name.Plain.{name_of}
use Rattle.subsetter.specs.Common.Post.Fault as name_faults
use Rattle.subsetter.specs.Common.Post.Fault.{HasOwnName, HasGlyphNameFault}
use Rattle.subsetter.specs.Common.Post.Plain.{post_of}
use Rattle.subsetter.specs.Common.Shared.Plain.{SharedTables, shared_of}
use Rattle.subsetter.proofs.CommonLaws.HmtxLaws.Kept.{metrics_refused, metrics_clean, metrics_fault_among}
use Rattle.subsetter.proofs.CommonLaws.MaxpLaws.Kept.{maxp_refused, maxp_clean}
use Rattle.subsetter.proofs.CommonLaws.NameLaws.Clean.{name_clean}
use Rattle.subsetter.proofs.CommonLaws.NameLaws.Fault.{name_refused}
use Rattle.subsetter.proofs.CommonLaws.PostLaws.Fault.{post_refused}
use Rattle.subsetter.proofs.CommonLaws.PostLaws.Clean.{post_clean}
use Rattle.subsetter_sfnt.proofs.Laws.LayingLaws.TableBytes.{table_bytes}
use Rattle.subsetter.proofs.CommonLaws.SharedLaws.Steps.{SharedSteps}

-- a test that was passed where it must fail
chosen_err : {A : Type 0} (b : Bool) (x : A) (d e : Error) → cond b (Err d) (Ok x) ≡ Err e → (b ≡ true) × (d ≡ e)
chosen_err true x d e h = (refl, failed_is {A = _} d e h)
chosen_err false x d e h = absurd cc

-- the same fault for glyphs that are among others, of the names of glyphs
own_among : (bytes gs : List ℕ) (P Q : ℕ → Type 0) → ((g : ℕ) → P g → Q g) → AllByRecursion (λ g. P g × HasOwnName bytes g) gs → AllByRecursion (λ g. Q g × HasOwnName bytes g) gs
own_among bytes [] P Q f h = tt
own_among bytes (g ∷ gs) P Q f h = ((f g h.0.0, h.0.1), own_among bytes gs P Q f h.1)

glyph_names_among : (find : List ℕ → Option (List ℕ)) (P Q : ℕ → Type 0) (e : Error) → ((g : ℕ) → P g → Q g) → HasGlyphNameFault find P e → HasGlyphNameFault find Q e
glyph_names_among find P Q e f (name_faults.short_post x h lt) = name_faults.short_post x h lt
glyph_names_among find P Q e f (name_faults.short_header x h k lt) = name_faults.short_header x h k lt
glyph_names_among find P Q e f (name_faults.count_cut x h k lt) = name_faults.count_cut x h k lt
glyph_names_among find P Q e f (name_faults.indexes_cut x count h k n lt) = name_faults.indexes_cut x count h k n lt
glyph_names_among find P Q e f (name_faults.no_index x count g h k n c le) = name_faults.no_index x count g h k n (f g c) le
glyph_names_among find P Q e f (name_faults.many_own_names x gs h k a b lt) = name_faults.many_own_names x gs h k a (own_among x gs P Q f b) lt

module _ (tokens depth : ℕ) (font : Font) (glyphs order : List ℕ) (closed : IsGlyphOrder font glyphs order) where
  in_head : (long : Bool) (e : Error) → head_of (table font) long ≡ Err e → HasFault tokens depth font glyphs order e
  in_head long e h = by (table font (codes "head")) refl h
    where
      by : (o : Option (List ℕ)) → table font (codes "head") ≡ o → head_in o long ≡ Err e → HasFault tokens depth font glyphs order e
      by None is k = absurd cc
      by (Some head) is k =
          let c = chosen_err (ltb (length head) 52) (Some (head_bytes long head)) MalformedFont e k in
          subst (HasFault tokens depth font glyphs order) c.1 (faults.in_outlines (outline_faults.short_head head is (ltb-true _ _ c.0)))

  in_metrics : (e : Error) → metrics_of (table font) order ≡ Err e → HasFault tokens depth font glyphs order e
  in_metrics e h = faults.in_metrics (metrics_fault_among (table font) (Contains order) (IsReachable font glyphs) e (λ g c. (closed.members g).0 c) (metrics_refused (table font) order e h))

  in_glyph_names : (e : Error) → post_of (table font) order ≡ Err e → HasFault tokens depth font glyphs order e
  in_glyph_names e h = faults.in_glyph_names (glyph_names_among (table font) (Contains order) (IsReachable font glyphs) e (λ g c. (closed.members g).0 c) (post_refused (table font) order e closed.once h))

  -- one of them could not be made
  pub shared_refused : (kind : FontFlavor) (long : Bool) (e : Error) → shared_of (table font) kind long order ≡ Err e → HasFault tokens depth font glyphs order e
  unfolding shared_of
  shared_refused kind long e h =
      let after_post = λ (head : Option (List ℕ)) (metrics : Option MetricBytes) (maxp name post : Option (List ℕ)). let s : SharedTables = record { head = head; metrics = metrics; maxp = maxp; name = name; post = post } in Ok s in
      let after_name = λ (head : Option (List ℕ)) (metrics : Option MetricBytes) (maxp name : Option (List ℕ)). post_of (table font) order >>= after_post head metrics maxp name in
      let after_maxp = λ (head : Option (List ℕ)) (metrics : Option MetricBytes) (maxp : Option (List ℕ)). name_of (table font) >>= after_name head metrics maxp in
      let after_metrics = λ (head : Option (List ℕ)) (metrics : Option MetricBytes). maxp_of (table font) kind (length order) >>= after_maxp head metrics in
      let after_head = λ (head : Option (List ℕ)). metrics_of (table font) order >>= after_metrics head in
      elim (bind_err (head_of (table font) long) after_head e h) [
        | inl k ↦ in_head long e k
        | inr c ↦ elim (bind_err (metrics_of (table font) order) (after_metrics c.0) e c.2) [
          | inl k ↦ in_metrics e k
          | inr d ↦ elim (bind_err (maxp_of (table font) kind (length order)) (after_maxp c.0 d.0) e d.2) [
            | inl k ↦ faults.in_max_profile (maxp_refused (table font) kind (length order) e k)
            | inr f ↦ elim (bind_err (name_of (table font)) (after_name c.0 d.0 f.0) e f.2) [
              | inl k ↦ faults.in_names (name_refused (table font) e k)
              | inr g ↦ elim (bind_err (post_of (table font) order) (after_post c.0 d.0 f.0 g.0) e g.2) [
                | inl k ↦ in_glyph_names e k
                | inr i ↦ absurd (let z = i.2 in cc)
              ]
            ]
          ]
        ]
      ]

module _ (font : Font) (glyphs order : List ℕ) (kind : FontFlavor) (long : Bool) (s : SharedTables) (bytes : IsBytes font.bytes) (closed : IsGlyphOrder font glyphs order) (steps : SharedSteps (table font) kind long order s) where
  among : (g : ℕ) → IsReachable font glyphs g → Contains order g
  among g r = (closed.members g).1 r

  pub no_metrics_fault : (e : Error) → HasMetricsFault (table font) (IsReachable font glyphs) e → ⊥
  no_metrics_fault e f = metrics_clean (table font) order s.metrics e steps.metrics_are (metrics_fault_among (table font) (IsReachable font glyphs) (Contains order) e among f)

  pub no_max_profile_fault : (e : Error) → HasMaxProfileFault (table font) e → ⊥
  no_max_profile_fault e f = maxp_clean (table font) kind (length order) s.maxp e steps.maxp_is f

  pub no_name_fault : (e : Error) → HasNameFault (table font) e → ⊥
  no_name_fault e f = name_clean (table font) s.name e (λ name is. table_bytes font (codes "name") name bytes is) steps.name_is f

  pub no_glyph_name_fault : (e : Error) → HasGlyphNameFault (table font) (IsReachable font glyphs) e → ⊥
  no_glyph_name_fault e f = post_clean (table font) order s.post e steps.post_is (glyph_names_among (table font) (IsReachable font glyphs) (Contains order) e among f)
