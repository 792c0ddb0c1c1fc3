-- The plain way to the tables that both kinds of outlines share.
use Rattle.std.specs.Prelude.{ℕ, Bool, List, length, Option, None, Result, Ok}
use Rattle.std.specs.Option.{option_map}
use Rattle.subsetter_base.specs.Bytes.{◌>>=◌}
use Rattle.subsetter_base.specs.declared.error.Error.{Error}
use Rattle.subsetter_sfnt.specs.declared.flavor.FontFlavor.{FontFlavor}
use Rattle.subsetter_sfnt.specs.Laying.Rows.{FontTables}
use Rattle.subsetter.specs.Common.Head.Written.{head_of}
use Rattle.subsetter.specs.Common.Hmtx.Written.{MetricBytes, metrics_of}
use Rattle.subsetter.specs.Common.Maxp.Written.{maxp_of}
use Rattle.subsetter.specs.Common.Name.Plain.{name_of}
use Rattle.subsetter.specs.Common.Post.Plain.{post_of}

-- each is made where the source has it
pub record SharedTables : Type 0 where
  pub head : Option (List ℕ)
  pub metrics : Option MetricBytes
  pub maxp : Option (List ℕ)
  pub name : Option (List ℕ)
  pub post : Option (List ℕ)

-- the tables for a kind of outlines, a format of loca and an order of the glyphs, from those that a look-up finds
unfoldable pub shared_of : (List ℕ → Option (List ℕ)) → FontFlavor → Bool → List ℕ → Result SharedTables Error
shared_of find flavor long order = do
  head ← head_of find long
  metrics ← metrics_of find order
  maxp ← maxp_of find flavor (length order)
  name ← name_of find
  post ← post_of find order
  Ok (record { head = head; metrics = metrics; maxp = maxp; name = name; post = post })

-- a font with these tables and none of outlines
abbrev pub with_shared : SharedTables → FontTables
with_shared s = record {
  cff = None;
  cvt = None;
  fpgm = None;
  glyf = None;
  head = s.head;
  hhea = option_map (λ (x : MetricBytes). x.hhea) s.metrics;
  hmtx = option_map (λ (x : MetricBytes). x.hmtx) s.metrics;
  loca = None;
  maxp = s.maxp;
  name = s.name;
  post = s.post;
  prep = None;
}
