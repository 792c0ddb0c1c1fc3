-- Why a font may not be embedded: what fsType of `OS/2` says (OpenType, "OS/2").
use Rattle.std.specs.Prelude.{ℕ, if◌then◌else◌, Option, Some, None, codes}
use Rattle.subsetter_sfnt.specs.Fields.Os2.{fs_type}
use Rattle.subsetter_sfnt.specs.Read.{Font, stored}
use Rattle.pdf_values.specs.Permission.{is_permitted, permission}
use Rattle.pdf_values.specs.declared.permission.Permission.{Permission}
use Rattle.pdf_values.specs.declared.permission.Rights.TheVariants.{AsSaid}
use Rattle.font_reasons.specs.declared.reason.Reason.{Reason}
use Rattle.font_reasons.specs.declared.reason.Reason.TheVariants.{Forbidden}

abbrev pub prohibition_by : Permission → Option ℕ → Option Reason
prohibition_by p None = None
prohibition_by p (Some fs_type) = if is_permitted p AsSaid then None else Some (Forbidden fs_type p)

abbrev pub prohibition : Font → Option Reason
prohibition font = prohibition_by (permission (stored font (codes "OS/2"))) (fs_type (stored font (codes "OS/2")))
