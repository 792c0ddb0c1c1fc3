-- The tables that both kinds of outlines share are answered of a subset as of the first font.
use Rattle.std.proofs.Common.{◌≡◌, ℕ, ◌^◌, ◌<◌, Bool, cond, List, length, Option, None, Result, Ok, refl, sym, ap, ◌∙◌, arith}
use Rattle.std.specs.Prelude.{codes, IsSome}
use Rattle.std.specs.Option.{option_map}
use Rattle.subsetter_base.specs.Bytes.{IsBytes, ◌>>=◌}
use Rattle.subsetter_base.specs.declared.error.Error.{Error}
use Rattle.subsetter_sfnt.specs.declared.flavor.FontFlavor.{FontFlavor}
use Rattle.subsetter_sfnt.specs.Read.{Font, table}
use Rattle.subsetter.specs.Common.Head.Written.{head_of}
use Rattle.subsetter_sfnt.specs.Extras.{without_glyph_names}
use Rattle.subsetter.specs.Common.Hmtx.Written.{MetricBytes, metrics_in, metrics_of}
use Rattle.subsetter.specs.Common.Maxp.Written.{maxp_in, maxp_of}
use Rattle.subsetter.specs.Common.Name.Plain.{name_of}
use Rattle.subsetter.specs.Common.Post.Plain.{new_post, post_of}
use Rattle.subsetter.specs.Common.Head.Written.{head_in}
use Rattle.subsetter.specs.Common.Shared.Plain.{SharedTables, shared_of}
use Rattle.subsetter_sfnt.proofs.Laws.LayingLaws.TableBytes.{table_bytes}
use Rattle.subsetter.proofs.CommonLaws.SharedLaws.Kept.{AreBack}
use Rattle.subsetter.proofs.CommonLaws.SharedLaws.Steps.{SharedSteps, metrics_there}
use Rattle.cid_embed.specs.Again.{requests_less}
use Rattle.cid_embed.proofs.AgainLaws.TablesLaws.GlyphNames.{post_of_again, bare_post_again}
use Rattle.cid_embed.proofs.AgainLaws.Less.{other_table, name_less, post_less}
use Rattle.cid_embed.proofs.AgainLaws.TablesLaws.Metrics.{metrics_again}
use Rattle.cid_embed.proofs.AgainLaws.TablesLaws.Names.{name_of_again}
use Rattle.cid_embed.proofs.AgainLaws.OrderLaws.Places.{AreAt}
use Rattle.cid_embed.proofs.AgainLaws.TablesLaws.SmallTables.{head_again, maxp_again}

-- the result, from the results of the parts
shared_by : Result (Option (List ℕ)) Error → Result (Option MetricBytes) Error → Result (Option (List ℕ)) Error → Result (Option (List ℕ)) Error → Result (Option (List ℕ)) Error → Result SharedTables Error
shared_by h m x n p = h >>= λ head. m >>= λ metrics. x >>= λ maxp. n >>= λ name. p >>= λ post. Ok (record { head = head; metrics = metrics; maxp = maxp; name = name; post = post })

by_parts : (find : List ℕ → Option (List ℕ)) (kind : FontFlavor) (long : Bool) (order : List ℕ) → shared_of find kind long order ≡ shared_by (head_of find long) (metrics_of find order) (maxp_of find kind (length order)) (name_of find) (post_of find order)
unfolding shared_of shared_by
by_parts find kind long order = refl

module _ (font out : Font) (bytes : IsBytes font.bytes) (kind : FontFlavor) (long : Bool) (L M order : List ℕ) (word : ℕ) (s : SharedTables) (steps : SharedSteps (table font) kind long L s) (back : AreBack out word s) (some : IsSome (table font (codes "hmtx")) → 0 < length L) (few : length L < 2 ^ 16) (at : AreAt L M order) where
  head : (last : Bool) → head_of (table out) last ≡ head_of (table font) last
  head last = ap (λ (o : Option (List ℕ)). head_in o last) back.head ∙ head_again word long last (table font (codes "head")) s.head steps.head_is

  metrics : metrics_of (table out) M ≡ metrics_of (table font) order
  metrics = metrics_again (table font) (table out) L M order s.metrics (λ x is. table_bytes font (codes "hmtx") x bytes is) (λ there. some (sym (metrics_there (table font) L s.metrics steps.metrics_are) ∙ there)) few at steps.metrics_are back.hhea back.hmtx

  maxp : maxp_of (table out) kind (length M) ≡ maxp_of (table font) kind (length order)
  maxp = ap (λ (o : Option (List ℕ)). maxp_in o kind (length M)) back.maxp ∙ maxp_again kind (length L) (length M) (table font (codes "maxp")) s.maxp steps.maxp_is ∙ ap (maxp_of (table font) kind) (sym at.size)

  name : name_of (table out) ≡ name_of (table font)
  name = name_of_again (table font) (table out) s.name (λ x is. table_bytes font (codes "name") x bytes is) steps.name_is back.name

  post : post_of (table out) M ≡ post_of (table font) order
  post = post_of_again (table font) (table out) L M order s.post (λ x is. table_bytes font (codes "post") x bytes is) (omega (arith, few)) at steps.post_is back.post

  -- also where less is asked for
  module _ (n g : Bool) where
    head_less : (last : Bool) → head_of (table (requests_less n g out)) last ≡ head_of (table (requests_less n g font)) last
    head_less last = ap (λ (o : Option (List ℕ)). head_in o last) (other_table n g out (codes "head") refl refl) ∙ head last ∙ ap (λ (o : Option (List ℕ)). head_in o last) (sym (other_table n g font (codes "head") refl refl))

    metrics_by : (f : Font) (glyphs : List ℕ) → metrics_of (table (requests_less n g f)) glyphs ≡ metrics_of (table f) glyphs
    metrics_by f glyphs =
        ap (λ (o : Option (List ℕ)). metrics_in o (table (requests_less n g f) (codes "hmtx")) glyphs) (other_table n g f (codes "hhea") refl refl) ∙ ap (λ (o : Option (List ℕ)). metrics_in (table f (codes "hhea")) o glyphs) (other_table n g f (codes "hmtx") refl refl)

    metrics_less : metrics_of (table (requests_less n g out)) M ≡ metrics_of (table (requests_less n g font)) order
    metrics_less = metrics_by out M ∙ metrics ∙ sym (metrics_by font order)

    maxp_less : maxp_of (table (requests_less n g out)) kind (length M) ≡ maxp_of (table (requests_less n g font)) kind (length order)
    maxp_less = ap (λ (o : Option (List ℕ)). maxp_in o kind (length M)) (other_table n g out (codes "maxp") refl refl) ∙ maxp ∙ ap (λ (o : Option (List ℕ)). maxp_in o kind (length order)) (sym (other_table n g font (codes "maxp") refl refl))

    names_less : name_of (table (requests_less n g out)) ≡ name_of (table (requests_less n g font))
    names_less = name_less n g out ∙ ap (λ (r : Result (Option (List ℕ)) Error). cond n r (Ok None)) name ∙ sym (name_less n g font)

    posts_less : post_of (table (requests_less n g out)) M ≡ post_of (table (requests_less n g font)) order
    posts_less =
        let bare = bare_post_again (table font) (table out) L M order s.post (omega (arith, few)) steps.post_is back.post in
        post_less n g out M ∙ ap (λ (r : Result (Option (List ℕ)) Error). cond g r (new_post (option_map without_glyph_names (table out (codes "post"))) M)) post ∙ ap (λ (r : Result (Option (List ℕ)) Error). cond g (post_of (table font) order) r) bare ∙ sym (post_less n g font order)

    pub shared_again : (last : Bool) → shared_of (table (requests_less n g out)) kind last M ≡ shared_of (table (requests_less n g font)) kind last order
    shared_again last =
        let new = table (requests_less n g out) in
        let old = table (requests_less n g font) in
        by_parts new kind last M
        ∙ ap (λ r. shared_by r (metrics_of new M) (maxp_of new kind (length M)) (name_of new) (post_of new M)) (head_less last)
        ∙ ap (λ r. shared_by (head_of old last) r (maxp_of new kind (length M)) (name_of new) (post_of new M)) metrics_less
        ∙ ap (λ r. shared_by (head_of old last) (metrics_of old order) r (name_of new) (post_of new M)) maxp_less
        ∙ ap (λ r. shared_by (head_of old last) (metrics_of old order) (maxp_of old kind (length order)) r (post_of new M)) names_less
        ∙ ap (λ r. shared_by (head_of old last) (metrics_of old order) (maxp_of old kind (length order)) (name_of old) r) posts_less
        ∙ sym (by_parts old kind last order)
