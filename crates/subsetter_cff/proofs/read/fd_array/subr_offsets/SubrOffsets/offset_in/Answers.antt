use Rattle.std.proofs.Common.{◌∙◌, ◌-◌, ◌<◌, suc, List, ℕ, length, take, drop, ap, sym, subst, arith, inl, inr}
use Rattle.std.proofs.lemmas.Bool.{cases_lt}
use Rattle.subsetter_cffdata.specs.Dicts.Dict.{entries}
use Rattle.subsetter_cff.specs.declared.read.entries.first_entries.Cell.{Cell}
use Rattle.subsetter_cff.specs.Read.Entries.FirstEntries.{AreCells}
use Rattle.subsetter_cff.specs.Read.FdArray.SubrSayings.{subr_saying, joined}
use Rattle.subsetter_cff.proofs.ReadLaws.FdArrayLaws.SubrSaid.{first_is}
use Rattle.subsetter_cff.proofs.read.fd_array.subr_offsets.SubrOffsets.offset_in.Goals as goal

pub returns : goal.returns
returns c =
    let table = c.self.inside.table.now in
    let items = c.self.inside.cells.items in
    let some : 0 < length items = elim (cases_lt 0 (length items)) [
      | inl lt ↦ lt
      | inr le ↦ absurd (c.if-len-eq0.false (omega (arith, c.len.ensures, c.deref.ensures.len, ap length c.deref.ensures.value, le)))
    ] in
    let kept : AreCells subr_saying table c.deref.result.now (suc (length table)) = subst (λ (l : List Cell). AreCells subr_saying table l (suc (length table))) (sym c.deref.ensures.value) (c.self.invariant some) in
    let all : AreCells subr_saying c.args.self.now c.deref.result.now (suc (length c.args.self.now)) = subst (λ (l : List ℕ). AreCells subr_saying l c.deref.result.now (suc (length l))) c.self.view_is kept in
    c.joined.ensures
    ∙ ap joined (c.find_first.ensures subr_saying c.args.self.now all)
    ∙ first_is (entries (take (c.args.end - c.args.start) (drop c.args.start c.args.self.now)))
