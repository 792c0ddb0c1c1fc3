use Rattle.std.proofs.Common.{refl, sym}
use Rattle.subsetter_c.specs.Documents.Parts.{whole, refused}
use Rattle.subsetter_c.proofs.documents.parts.hand_parts.Goals as goal

pub returns-in-Ok : goal.returns-in-Ok
returns-in-Ok c = whole (c.in-Ok.parts, c.in-Ok.is, sym c.kept_parts.ensures) refl

pub returns-in-Err : goal.returns-in-Err
returns-in-Err c = refused c.in-Err.error c.in-Err.is c.no_parts.ensures c.parts_status.ensures
