use Rattle.std.proofs.Common.{◌≡◌, ◌∙◌, ◌<◌, ◌==◌, ◌++◌, [], sym, true, false, List, ℕ, zero, suc, arith}
use Rattle.std.specs.Borrow.{Bor}
use Rattle.std.proofs.lemmas.List.{append-nil, at_drop_all}
use Rattle.std.proofs.lemmas.Bool.Decides.{nat_tests}
use Rattle.pdf_text.specs.View.{lines_view}
use Rattle.pdf_codes.specs.Cmaps.Texts.{table_lines}
use Rattle.subsetter_base.specs.Texts.{views}
use Rattle.pdf_codes.proofs.CmapsLaws.TextSteps.{line_added, line_left, line_put}
use Rattle.pdf_codes.proofs.cmaps.texts.lines_in.Goals.{then-not-is_empty+in_ok-push, else-not-is_empty}
use Rattle.pdf_codes.proofs.cmaps.texts.lines_in.Goals as goal

some_units : (n : ℕ) → false ≡ (n == 0) → 0 < n
some_units zero e = absurd cc
some_units (suc n) e = omega arith

no_unit : (n : ℕ) → true ≡ (n == 0) → n ≡ 0
no_unit n e = grind (arith, nat_tests)

pub loop-place-preserved : goal.loop-place-preserved
loop-place-preserved c =
    let d : Bor (List ℕ) = record { ref_ptr = (0, 0); now = [] } in
    let ts : List (Bor (List ℕ)) = c.args.texts.now in
    let k : ℕ = c.loop-place.place in
    elim c.if-not-is_empty.branch [
      | then-not-is_empty+in_ok-push w ↦ rw w.lines-is (record {
        so_far = line_put ts c.loop-place.lines.items w.push.new.self.items w.line_of.result k d (table_lines 0 (views ts)) w.in_ok-push.ensures.items c.loop-place-test.true (some_units _ w.if-not-is_empty.ensures) w.line_of.ensures.line c.loop-place.invariant.so_far;
        are_lines = line_added c.loop-place.lines.items w.push.new.self.items w.line_of.result w.in_ok-push.ensures.items c.loop-place.invariant.are_lines w.line_of.ensures.is_line;
      })
      | else-not-is_empty w ↦ rw w.lines-is (record {
        so_far = line_left ts (lines_view c.loop-place.lines.items) k d (table_lines 0 (views ts)) c.loop-place-test.true (no_unit _ w.if-not-is_empty.ensures) c.loop-place.invariant.so_far;
        are_lines = c.loop-place.invariant.are_lines;
      })
    ]

pub returns-clause-ok : goal.returns-clause-ok
returns-clause-ok c =
    sym (append-nil (lines_view c.loop-place.lines.items))
    ∙ sym (at_drop_all (λ (l : List (Bor (List ℕ))). lines_view c.loop-place.lines.items ++ table_lines c.loop-place.place (views l)) c.args.texts.now c.loop-place.place c.loop-place-test.false)
    ∙ c.loop-place.invariant.so_far

pub returns-clause-are_lines : goal.returns-clause-are_lines
returns-clause-are_lines c = c.loop-place.invariant.are_lines
