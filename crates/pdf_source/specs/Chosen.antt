-- What a caller chooses.
use Rattle.std.specs.Prelude.{◌≡◌, Bool, true, false, None}
use Rattle.subsetter_sfnt.specs.declared.extras.Extras.{Extras}
use Rattle.pdf_codes.specs.declared.codes.Codes.TheVariants.{Consecutive}
use Rattle.pdf_values.specs.declared.looks.bounds.Bounds.TheVariants.{Font}
use Rattle.pdf_values.specs.declared.permission.Rights.TheVariants.{AsSaid}
use Rattle.pdf_source.specs.declared.choice.ProgramChoice.TheVariants.{Smallest}
use Rattle.pdf_source.specs.declared.choice.Direction.{Direction}
use Rattle.pdf_source.specs.declared.choice.Direction.TheVariants.{Horizontal, Vertical}
use Rattle.pdf_source.specs.declared.choice.FontOptions.{FontOptions}

-- names are never kept
abbrev pub extras_of : FontOptions → Extras
extras_of o = record { hinting = o.hinting; names = false; glyph_names = false }

abbrev pub is_vertical : Direction → Bool
is_vertical Horizontal = false
is_vertical Vertical = true

-- what counts where nothing is chosen: hinting is kept, the tag is computed, and of each choice the first counts
pub record IsDefault (o : FontOptions) : Type 0 where
  pub tokens : o.limits.tokens ≡ 1000000
  pub depth : o.limits.depth ≡ 64
  pub bytes : o.limits.bytes ≡ None
  pub hinting : o.hinting ≡ true
  pub program : o.program ≡ Smallest
  pub codes : o.codes ≡ Consecutive
  pub direction : o.direction ≡ Horizontal
  pub bounds : o.bounds ≡ Font
  pub cid_set : o.cid_set ≡ false
  pub tag : o.tag ≡ None
  pub rights : o.rights ≡ AsSaid
