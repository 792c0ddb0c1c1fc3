-- The tables are laid out.
--   has_room                     head has room for its checksum
--   font_made                    the tables, one by one
--   all_tables, plainly          those that are laid out
--   few_tables                   they are few
--   given                        what is given where no bound is set
use Rattle.std.proofs.Common.{◌≡◌, ℕ, ◌<◌, ◌≤◌, Bool, List, length, Option, Some, None, Result, Ok, Err, refl, sym, ap, subst, ◌∙◌, inl, inr, arith}
use Rattle.std.specs.Prelude.{codes}
use Rattle.std.specs.List.{AllByRecursion}
use Rattle.std.proofs.lemmas.List.{length-map}
use Rattle.subsetter_base.specs.Gives.{Gives}
use Rattle.subsetter_base.specs.Within.{GivesWithin}
use Rattle.subsetter_base.specs.declared.error.Error.{Error}
use Rattle.subsetter_base.proofs.Options.{just_is, some_not_none}
use Rattle.subsetter_sfnt.specs.Fields.Hmtx.{hmtx_bytes}
use Rattle.subsetter_sfnt.specs.Fields.Loca.{loca_bytes}
use Rattle.subsetter_sfnt.specs.Laying.Rows.{FontTables, present, rows}
use Rattle.subsetter_sfnt.specs.Laying.Written.{IsTable, Table, kind_word, with_adjustment}
use Rattle.subsetter_sfnt.specs.Plain.{file_of}
use Rattle.subsetter_sfnt.specs.View.{view, views}
use Rattle.subsetter_sfnt.specs.declared.laying.tables.NewTable.{NewTable}
use Rattle.subsetter_sfnt.specs.declared.fields.hmtx.LongHorMetric.{LongHorMetric}
use Rattle.subsetter_sfnt.specs.declared.flavor.FontFlavor.TheVariants.{TrueType}
use Rattle.subsetter_sfnt.proofs.Laws.LayingLaws.Rows.{HasRoom, rows_few, rows_tables}
use Rattle.subsetter.specs.Common.Head.Written.{head_bytes}
use Rattle.subsetter.specs.Common.Hmtx.Written.{hhea_bytes}
use Rattle.subsetter.proofs.CommonLaws.HeadLaws.Back.{head_room, head_zeros}
use Rattle.own_glyphs.specs.Source.{Source}
use Rattle.own_glyphs.specs.Written.{is_longer, tables_by}

pub has_room : (long : Bool) (head : List ℕ) → 52 ≤ length head → HasRoom (Some (head_bytes long head))
has_room long head le bytes is = subst (λ b. (12 ≤ length b) × (with_adjustment 0 b ≡ b)) (just_is (head_bytes long head) bytes is) (head_room long head le, head_zeros long head le)

module _ (find : List ℕ → Option (List ℕ)) (s : Source) (glyf offsets : List ℕ) (metrics : List LongHorMetric) (maxp : List ℕ) (n : ℕ) where
  abbrev made : FontTables
  made = tables_by find s glyf offsets metrics maxp n

  pub font_made : (t : FontTables) (cvt fpgm name post prep : Option (List ℕ)) (g head hhea hmtx loca m : List ℕ)
      → t ≡ record { cff = None; cvt = cvt; fpgm = fpgm; glyf = Some g; head = Some head; hhea = Some hhea; hmtx = Some hmtx; loca = Some loca; maxp = Some m; name = name; post = post; prep = prep }
      → cvt ≡ find (codes "cvt ") → fpgm ≡ find (codes "fpgm") → name ≡ find (codes "name") → post ≡ find (codes "post") → prep ≡ find (codes "prep")
      → g ≡ glyf → head ≡ head_bytes (is_longer s.long glyf) s.head → hhea ≡ hhea_bytes n s.hhea → hmtx ≡ hmtx_bytes n metrics → loca ≡ loca_bytes (is_longer s.long glyf) offsets → m ≡ maxp → t ≡ made
  font_made t cvt fpgm name post prep g head hhea hmtx loca m is a b d e f h i j k l o = rw (is, a, b, d, e, f, h, i, j, k, l, o) refl

  module _ (whole : 52 ≤ length s.head) (ts : List Table) (t : FontTables) (is : ts ≡ present (rows t)) (t_is : t ≡ made) where
    same : ts ≡ present (rows made)
    same = is ∙ ap (λ (x : FontTables). present (rows x)) t_is

    pub all_tables : AllByRecursion IsTable ts
    all_tables = subst (AllByRecursion IsTable) (sym same) (rows_tables made (has_room (is_longer s.long glyf) s.head whole))

    pub plainly : file_of (kind_word TrueType) ts ≡ file_of (kind_word TrueType) (present (rows made))
    plainly = ap (file_of (kind_word TrueType)) same

-- what is given within a bound, where none is set
pub given : {X Y : Type 0} (view : X → Y) (size : Y → ℕ) (result : Result X Error) (read : Result Y Error) → GivesWithin view None size result read → Gives view result read
given view size (Ok x) read g = g
given view size (Err e) read (inl f) = f
given view size (Err e) read (inr long) = absurd (some_not_none None long.1.most long.1.is_set refl)

pub few_tables : {A : Type 0} (bytes_of : A → List ℕ) (ts : List (NewTable A)) (t : FontTables) → views bytes_of ts ≡ present (rows t) → length ts < 16
few_tables bytes_of ts t there = omega (arith, length-map ts (view bytes_of), ap length there, rows_few t)
