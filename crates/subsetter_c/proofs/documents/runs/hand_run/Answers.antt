use Rattle.std.proofs.Common.{refl}
use Rattle.subsetter_c.specs.Documents.Runs.{refused, shown}
use Rattle.subsetter_c.proofs.DocumentsLaws.Runs.{lists_are}
use Rattle.subsetter_c.proofs.documents.runs.hand_run.Goals as goal

pub returns-in-Ok : goal.returns-in-Ok
returns-in-Ok c = shown c.in-Ok.shown c.in-Ok.is refl (lists_are _ _ _ c.in-Ok.shown c.kept_pairs-text.ensures c.kept_own-text.ensures c.kept_places-text.ensures) c.kept_bytes.ensures refl (record { pairs = refl; own = refl; parts = refl }) refl

pub returns-in-Err : goal.returns-in-Err
returns-in-Err c = refused c.in-Err.error c.in-Err.is refl c.nothing.ensures c.none_left.ensures c.run_status.ensures
