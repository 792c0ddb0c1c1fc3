-- A face that is opened finds the tables of its font.
use Rattle.std.proofs.Common.{◌≡◌, Result, Ok, Err}
use Rattle.std.specs.Prelude.{IfOk, IfErr}
use Rattle.subsetter_base.specs.declared.error.Error.{Error}
use Rattle.subsetter_sfnt.specs.Plain.{opened}
use Rattle.subsetter_sfnt.specs.Read.{Font}
use Rattle.subsetter_sfnt.specs.declared.face.Face.{Face}
use Rattle.subsetter_variable.specs.Subset.{HasOpeningFaultAt}
use Rattle.subsetter_variable.proofs.Stands.{find_is}
use Rattle.subsetter_variable.proofs.Static.{unread_at}
use Rattle.pdf_font.specs.Opened.{IsOpened}

pub opened_ok : (font : Font) → ((e : Error) → HasOpeningFaultAt font e → ⊥) → (r : Result Face Error) → IfOk r (λ face. (face.«data».now ≡ font.bytes) × (opened font ≡ Ok face.records.now)) → IfOk r (λ face. IsOpened font face)
opened_ok font clean (Ok face) h = record { find = find_is font face.records.now face.«data».now h.1 h.0; clean = clean }
opened_ok font clean (Err e) h = tt

pub opened_err : (font : Font) (r : Result Face Error) → IfErr r (λ e. opened font ≡ Err e) → IfErr r (λ e. HasOpeningFaultAt font e)
opened_err font (Ok face) h = tt
opened_err font (Err e) h = unread_at font e h
