use Rattle.std.proofs.Common.{ℕ, List, ◌++◌, take, drop, ap, ◌∙◌}
use Rattle.std.specs.Prelude.{slice_range}
use Rattle.std.specs.Int.{w16, to_be_bytes}
use Rattle.std.proofs.lemmas.List.{take_rest}
use Rattle.subsetter_sfnt.proofs.Laws.FieldsLaws.HeadLaws.{seven_written}
use Rattle.own_glyphs.specs.Profile.{limited}
use Rattle.own_glyphs.proofs.profile.limited.Goals as goal

pub returns-clause-ok : goal.returns-clause-ok
returns-clause-ok c =
    let m = c.args.maxp.now in
    let l = c.args.limits in
    let n = to_be_bytes w16 c.args.count in
    let outlines = to_be_bytes w16 l.points ++ to_be_bytes w16 l.contours in
    let parts = to_be_bytes w16 l.elements ++ to_be_bytes w16 l.depth in
    seven_written c.in_ok-new.new.items (take 4 m) n (slice_range m 6 10) outlines (slice_range m 14 28) parts (drop 32 m) _ _ _ _ _ _ _
    c.in_ok-extend_from_slice.ensures.items
    (c.in_ok-extend_from_slice-2.ensures.items ∙ ap (λ (b : List ℕ). c.extend_from_slice.new.self.items ++ b) c.to_be_bytes.ensures)
    c.in_ok-extend_from_slice-3.ensures.items
    (c.in_ok-extend_from_slice-4.ensures.items ∙ ap (λ (b : List ℕ). c.extend_from_slice-3.new.self.items ++ b) c.two_bytes_each.ensures)
    c.in_ok-extend_from_slice-5.ensures.items
    (c.in_ok-extend_from_slice-6.ensures.items ∙ ap (λ (b : List ℕ). c.extend_from_slice-5.new.self.items ++ b) c.two_bytes_each-2.ensures)
    (c.in_ok-extend_from_slice-7.ensures.items ∙ ap (λ (b : List ℕ). c.extend_from_slice-6.new.self.items ++ b) (take_rest m 32))
    ∙ ap (λ (front : List ℕ). front ++ limited c.args.count l m) c.in_ok-new.ensures.items
