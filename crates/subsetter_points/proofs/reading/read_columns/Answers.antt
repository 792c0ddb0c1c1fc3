use Rattle.std.proofs.Common.{◌≡◌, ◌<◌, length, Some, sym, ap, ◌∙◌, arith}
use Rattle.std.proofs.lemmas.Bool.{eqb-true, eqb-false}
use Rattle.subsetter_base.specs.Options.{◌>>=◌}
use Rattle.subsetter_points.specs.Simple.{description_at, parts}
use Rattle.subsetter_points.proofs.ReadLemmas.{parts_of_none, parts_of_bytes, if_ok, no_columns, if_ok_three}
use Rattle.subsetter_points.proofs.Sound.{sound_of_columns}
use Rattle.subsetter_points.proofs.reading.read_columns.Goals as goal

pub returns-then-is_empty-clause-parts : goal.returns-then-is_empty-clause-parts
returns-then-is_empty-clause-parts c =
    let none : length c.args.bytes.now ≡ 0 = eqb-true (length c.args.bytes.now) 0 (sym c.if-is_empty.ensures) in
    let is = parts_of_none c.args.bytes.now none in
    cc (is, no_columns, c.emptied.ensures.ends, c.emptied.ensures.flags, c.emptied.ensures.xs, c.emptied.ensures.ys)

pub returns-in_default-clause-parts : goal.returns-in_default-clause-parts
returns-in_default-clause-parts c =
    let some : 0 < length c.args.bytes.now = omega (arith, eqb-false (length c.args.bytes.now) 0 (sym c.if-is_empty.ensures)) in
    sym (parts_of_bytes c.args.bytes.now some ∙ ap (λ o. o >>= λ h. description_at h.0 h.1) (sym c.in_default.ensures))

pub returns-clause-parts : goal.returns-clause-parts
returns-clause-parts c =
    let some : 0 < length c.args.bytes.now = omega (arith, eqb-false (length c.args.bytes.now) 0 (sym c.if-is_empty.ensures)) in
    let is : description_at c.in-Some.contours c.in-Some.rest.now ≡ parts c.args.bytes.now = sym (parts_of_bytes c.args.bytes.now some ∙ ap (λ o. o >>= λ h. description_at h.0 h.1) (sym c.in-Some.ensures)) in
    if_ok c.read_description.result (λ o e. e ∙ is) c.read_description.ensures.ok

pub returns-then-is_empty-clause-sound : goal.returns-then-is_empty-clause-sound
returns-then-is_empty-clause-sound c = sound_of_columns (Some c.emptied.result) c.args.bytes.now (returns-then-is_empty-clause-parts c) (ap length c.emptied.ensures.xs ∙ sym (ap length c.emptied.ensures.flags)) (ap length c.emptied.ensures.ys ∙ sym (ap length c.emptied.ensures.flags))

pub returns-clause-sound : goal.returns-clause-sound
returns-clause-sound c = if_ok_three c.read_description.result (λ o e a b. sound_of_columns o c.args.bytes.now e a b) (returns-clause-parts c) c.read_description.ensures.xs c.read_description.ensures.ys
