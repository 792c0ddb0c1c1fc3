use Rattle.std.proofs.Common.{[], List, ℕ, get_or, ap, sym, ◌∙◌}
use Rattle.std.specs.Borrow.{Bor}
use Rattle.std.proofs.lemmas.List.{drop_more}
use Rattle.subsetter.specs.Common.Name.View.{nows}
use Rattle.subsetter.proofs.CommonLaws.NameLaws.Written.{found_first, found_later, joined-first}
use Rattle.subsetter.proofs.common.name.linear_offset.Goals as goal

pub returns-then-eq : goal.returns-then-eq
returns-then-eq c =
    let i = c.loop-known.known-index in
    let bs = c.args.strings.now in
    let none : Bor (List ℕ) = record { ref_ptr = (0, 0); now = [] } in
    let more = ap nows (drop_more bs i none c.loop-known-test.true) in
    found_first _ _ (get_or bs i none).now c.args.string.now c.loop-known.place _ more (sym c.eq.ensures ∙ c.if-eq.true) c.loop-known.invariant.rest

pub loop-known-preserved : goal.loop-known-preserved
loop-known-preserved c =
    let i = c.loop-known.known-index in
    let bs = c.args.strings.now in
    let none : Bor (List ℕ) = record { ref_ptr = (0, 0); now = [] } in
    let more = ap nows (drop_more bs i none c.loop-known-test.true) in
    record {
      rest = found_later _ _ (get_or bs i none).now c.args.string.now c.loop-known.place _ more (sym c.eq.ensures ∙ c.if-eq.false) c.loop-known.invariant.rest;
      size = joined-first _ _ (get_or bs i none).now c.loop-known.place _ more c.loop-known.invariant.size;
    }
