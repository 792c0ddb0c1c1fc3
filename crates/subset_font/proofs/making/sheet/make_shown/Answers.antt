use Rattle.subset_pdf.specs.declared.sheet.SheetError.TheVariants.{Font, NotPermitted, TextTooLong}
use Rattle.subset_font.proofs.MakingLaws.Sheets.{shown_of, unshown_by}
use Rattle.subset_font.proofs.making.sheet.make_shown.Goals as goal

pub returns-in-Ok-clause-ok : goal.returns-in-Ok-clause-ok
returns-in-Ok-clause-ok c = shown_of c.args.choice c.args.task.now c.args.font.now c.args.made.now c.request_of-request.result c.deref.result.now c.deref-2.result.now c.deref-3.result.now c.in-Ok.sheet c.request_of-request.ensures c.deref.ensures.value c.deref-2.ensures.value c.deref-3.ensures.value c.in-Ok.ensures.ok

pub returns-in-Err-Font-clause-err : goal.returns-in-Err-Font-clause-err
returns-in-Err-Font-clause-err c = unshown_by c.args.choice c.args.task.now c.args.font.now c.args.made.now c.request_of-request.result c.deref.result.now c.deref-2.result.now c.deref-3.result.now (Font c.in-Err-Font.error) c.request_of-request.ensures c.deref.ensures.value c.deref-2.ensures.value c.deref-3.ensures.value (rw c.in-Err-Font.field-0-is at c.in-Err-Font.ensures.err)

pub returns-in-Err-NotPermitted-clause-err : goal.returns-in-Err-NotPermitted-clause-err
returns-in-Err-NotPermitted-clause-err c = unshown_by c.args.choice c.args.task.now c.args.font.now c.args.made.now c.request_of-request.result c.deref.result.now c.deref-2.result.now c.deref-3.result.now (NotPermitted c.in-Err-NotPermitted.permission) c.request_of-request.ensures c.deref.ensures.value c.deref-2.ensures.value c.deref-3.ensures.value (rw c.in-Err-NotPermitted.field-0-is at c.in-Err-NotPermitted.ensures.err)

pub returns-in-Err-TextTooLong-clause-err : goal.returns-in-Err-TextTooLong-clause-err
returns-in-Err-TextTooLong-clause-err c = unshown_by c.args.choice c.args.task.now c.args.font.now c.args.made.now c.request_of-request.result c.deref.result.now c.deref-2.result.now c.deref-3.result.now TextTooLong c.request_of-request.ensures c.deref.ensures.value c.deref-2.ensures.value c.deref-3.ensures.value (rw c.in-Err-TextTooLong.field-0-is at c.in-Err-TextTooLong.ensures.err)
