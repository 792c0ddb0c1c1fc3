-- The tables that both kinds of outlines share, read afresh from a new font.
use Rattle.std.proofs.Common.{◌≡◌, ℕ, ◌^◌, ◌<◌, ◌≤◌, Bool, List, length, Option, Some, Ok, sym, ap, subst, ◌∙◌}
use Rattle.std.specs.Prelude.{codes, IsSome}
use Rattle.std.specs.Option.{option_map}
use Rattle.subsetter_base.specs.Bytes.{IsBytes}
use Rattle.subsetter_base.proofs.Options.{some_of}
use Rattle.subsetter_sfnt.specs.declared.flavor.FontFlavor.{FontFlavor}
use Rattle.subsetter_sfnt.specs.Read.{Font, table}
use Rattle.subsetter_sfnt.specs.Laying.Written.{with_adjustment}
use Rattle.subsetter.specs.Common.Head.Read.{KeepsHead}
use Rattle.subsetter.specs.Common.Head.Written.{head_bytes}
use Rattle.subsetter.specs.Common.Hmtx.Read.{KeepsMetrics}
use Rattle.subsetter.specs.Common.Hmtx.Written.{MetricBytes}
use Rattle.subsetter.specs.Common.Maxp.Read.{IsMaxProfile}
use Rattle.subsetter.specs.Common.Name.Read.{KeepsNames}
use Rattle.subsetter.specs.Common.Post.Read.{KeepsGlyphNames}
use Rattle.subsetter.specs.Common.Shared.Plain.{SharedTables}
use Rattle.subsetter.specs.Subset.{KeepsTable, KeepsShared}
use Rattle.subsetter_sfnt.proofs.Laws.LayingLaws.Rows.{HasRoom}
use Rattle.subsetter_sfnt.proofs.Laws.LayingLaws.TableBytes.{table_bytes}
use Rattle.subsetter.proofs.CommonLaws.HeadLaws.Back.{head_length, head_front, head_middle, head_end, head_room, head_zeros}
use Rattle.subsetter.proofs.CommonLaws.HmtxLaws.Kept.{keeps_metrics}
use Rattle.subsetter.proofs.CommonLaws.MaxpLaws.Kept.{is_max_profile}
use Rattle.subsetter.proofs.CommonLaws.NameLaws.Kept.{keeps_table}
use Rattle.subsetter.proofs.CommonLaws.PostLaws.Kept.{keeps_post}
use Rattle.subsetter.proofs.CommonLaws.SharedLaws.Steps.{SharedSteps, head_from, head_there, maxp_there, metrics_there, name_there, post_there, name_tables, glyph_name_tables}

-- a new head has room for the adjustment, and zeros there
pub shared_room : (find : List ℕ → Option (List ℕ)) (kind : FontFlavor) (long : Bool) (order : List ℕ) (s : SharedTables) → SharedSteps find kind long order s → HasRoom s.head
shared_room find kind long order s steps bytes is =
    let n = head_from find long bytes (steps.head_is ∙ ap (λ (o : Option (List ℕ)). Ok o) is) in
    (subst (λ (h : List ℕ). 12 ≤ length h) (sym n.new_is) (head_room long n.source n.long_enough), subst (λ (h : List ℕ). with_adjustment 0 h ≡ h) (sym n.new_is) (head_zeros long n.source n.long_enough))

-- what is read of the new font
pub record AreBack (out : Font) (word : ℕ) (s : SharedTables) : Type 0 where
  pub head : table out (codes "head") ≡ option_map (with_adjustment word) s.head
  pub hhea : table out (codes "hhea") ≡ option_map (λ (x : MetricBytes). x.hhea) s.metrics
  pub hmtx : table out (codes "hmtx") ≡ option_map (λ (x : MetricBytes). x.hmtx) s.metrics
  pub maxp : table out (codes "maxp") ≡ s.maxp
  pub name : table out (codes "name") ≡ s.name
  pub post : table out (codes "post") ≡ s.post

module _ (font out : Font) (kind : FontFlavor) (long : Bool) (order : List ℕ) (s : SharedTables) (word : ℕ) (steps : SharedSteps (table font) kind long order s) (back : AreBack out word s) where
  pub head_kept : IsSome (table font (codes "head")) → KeepsHead font out
  head_kept h =
      let x = some_of s.head (head_there (table font) long s.head steps.head_is ∙ h) in
      let n = head_from (table font) long x.0 (steps.head_is ∙ ap (λ (o : Option (List ℕ)). Ok o) x.1) in
      record {
        source = n.source;
        source_is = n.source_is;
        copy = with_adjustment word (head_bytes long n.source);
        copy_is = back.head ∙ ap (option_map (with_adjustment word)) x.1 ∙ ap (λ (b : List ℕ). Some (with_adjustment word b)) n.new_is;
        same_length = head_length word long n.source n.long_enough;
        front = head_front word long n.source n.long_enough;
        middle = head_middle word long n.source n.long_enough;
        end = head_end word long n.source n.long_enough;
      }

  metrics_kept : IsBytes font.bytes → 0 < length order → length order < 2 ^ 16 → IsSome (table font (codes "hmtx")) → KeepsMetrics (table font) order (table out)
  metrics_kept bytes some few h =
      let x = some_of s.metrics (metrics_there (table font) order s.metrics steps.metrics_are ∙ h) in
      keeps_metrics (table font) (table out) order x.0 (λ hmtx is. table_bytes font (codes "hmtx") hmtx bytes is) some few (steps.metrics_are ∙ ap (λ (o : Option MetricBytes). Ok o) x.1)
      (back.hhea ∙ ap (option_map (λ (y : MetricBytes). y.hhea)) x.1) (back.hmtx ∙ ap (option_map (λ (y : MetricBytes). y.hmtx)) x.1)

  max_profile_kept : length order < 2 ^ 16 → IsSome (table font (codes "maxp")) → IsMaxProfile (table font) kind (length order) (table out)
  max_profile_kept few h =
      let x = some_of s.maxp (maxp_there (table font) kind (length order) s.maxp steps.maxp_is ∙ h) in
      is_max_profile (table font) (table out) kind (length order) x.0 few (steps.maxp_is ∙ ap (λ (o : Option (List ℕ)). Ok o) x.1) (back.maxp ∙ x.1)

  names_kept : IsBytes font.bytes → IsSome (table font (codes "name")) → KeepsTable font out (codes "name") KeepsNames
  names_kept bytes h =
      let x = some_of s.name (name_there (table font) s.name steps.name_is ∙ h) in
      let n = name_tables (table font) x.0 (steps.name_is ∙ ap (λ (o : Option (List ℕ)). Ok o) x.1) in
      record { source = n.0; source_is = n.1; copy = x.0; copy_is = back.name ∙ x.1; kept = keeps_table n.0 x.0 (table_bytes font (codes "name") n.0 bytes n.1) n.2 }

  glyph_names_kept : IsBytes font.bytes → length order < 2 ^ 16 → IsSome (table font (codes "post")) → KeepsTable font out (codes "post") (λ source copy. KeepsGlyphNames source copy order)
  glyph_names_kept bytes few h =
      let x = some_of s.post (post_there (table font) order s.post steps.post_is ∙ h) in
      let n = glyph_name_tables (table font) order x.0 (steps.post_is ∙ ap (λ (o : Option (List ℕ)). Ok o) x.1) in
      record { source = n.0; source_is = n.1; copy = x.0; copy_is = back.post ∙ x.1; kept = keeps_post n.0 x.0 order (table_bytes font (codes "post") n.0 bytes n.1) few n.2 }

  pub keeps_shared : IsBytes font.bytes → 0 < length order → length order < 2 ^ 16 → KeepsShared font kind order out
  keeps_shared bytes some few = record { head = head_kept; metrics = metrics_kept bytes some few; max_profile = max_profile_kept few; names = names_kept bytes; glyph_names = glyph_names_kept bytes few }
