use Rattle.std.proofs.Common.{ℕ, List, Some, sym, ap, ◌∙◌}
use Rattle.std.specs.Option.{option_and_then}
use Rattle.subsetter_base.specs.Bytes.{range}
use Rattle.subsetter_sfnt.specs.Read.{record_of}
use Rattle.subsetter_sfnt.proofs.Laws.LayingLaws.Records.{reads}
use Rattle.subset_task.specs.Faces.Tables.{records_in}
use Rattle.subset_task.proofs.FacesLaws.Directory.{news_later}
use Rattle.subset_task.proofs.faces.tables.push_new_rows.Goals as goal

pub loop-one-preserved : goal.loop-one-preserved
loop-one-preserved c =
    let p = c.loop-one.r.offset in
    let read = reads c.args.new.now p c.in-Some.one (ap (λ (b : List ℕ). option_and_then (λ bytes. Some (record_of bytes)) (range b p 16)) (sym c.loop-one.invariant.same) ∙ sym c.in-Some.ensures.value) in
    rw c.in-Some.ensures.moves (record {
      same = c.loop-one.invariant.same;
      within = read.within;
      rest = news_later (records_in c.args.old.now) _ _ c.in-Some.one _ _ _ read.more (c.in_ok-push_new_row.ensures) c.loop-one.invariant.rest;
    })
