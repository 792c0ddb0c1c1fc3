use Rattle.std.proofs.Common.{◌≡◌, ◌+◌, ℕ, List, length, arith, ap, ◌∙◌}
use Rattle.std.specs.Borrow.{Bor}
use Rattle.std.specs.Str.{bytes_eq}
use Rattle.subsetter_base.specs.Remap.{index_by}
use Rattle.subsetter_base.specs.Texts.{views}
use Rattle.subsetter_cff.proofs.WriteLaws.StringsLaws.StringPlaces.{number_added}
use Rattle.subsetter_cff.proofs.write.strings.sid_remapper.put_string.Goals as goal

pub returns-clause-number : goal.returns-clause-number
returns-clause-number c =
    let at : c.number_at-number.result.0 ≡ 391 + c.len.result = omega (arith, c.number_at-number.ensures) in
    let is : c.len.result ≡ length c.args.strings.now.items = omega (arith, c.len.ensures) in
    rw at (number_added c.args.strings.now.items c.push.new.self.items c.args.string c.len.result (c.in_default.ensures.value ∙ ap (λ (l : List (Bor (List ℕ))). index_by bytes_eq (views l) c.args.string.now) c.deref.ensures.value) c.in_ok-push.ensures.items is)
