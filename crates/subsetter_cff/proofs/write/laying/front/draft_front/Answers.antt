use Rattle.std.proofs.Common.{◌≡◌, ◌+◌, ◌-◌, take, drop, ap, refl, ◌∙◌, arith, length, length-append}
use Rattle.std.proofs.lemmas.List.{take_at, drop_at}
use Rattle.std.proofs.lemmas.Result.{err_from_is_err_and}
use Rattle.subsetter_cff.specs.Write.Laying.FrontDraft.{tail_by}
use Rattle.subsetter_cff.proofs.WriteLaws.LayingLaws.FrontDrafts.{front_size_is, limits_hold, limits_break}
use Rattle.subsetter_cff.proofs.write.laying.front.draft_front.Goals as goal

pub returns-clause-value : goal.returns-clause-value
returns-clause-value c =
    let texts = c.args.remapper.now.texts in
    let first = c.in_ok-text.text in
    let tail = tail_by texts in
    let whole = c.in_ok-put_tail.ensures.ok in
    let at : length first ≡ c.len-named.result = omega (arith, c.len-named.ensures) in
    let top : c.in_ok-top.top ≡ length first + 33 = omega (arith, c.in_ok-top.ensures.value, c.len-named.ensures) in
    let left : c.len.result - c.len-named.result ≡ length tail = omega (arith, c.len.ensures, c.len-named.ensures, ap length whole, length-append first tail) in
    let size = front_size_is texts c.args.table.now first tail c.in_ok-top.top c.in_ok-text.ensures.value refl top in
    record {
      within = omega (arith, ap length whole, length-append first tail, at);
      named = ap (take c.len-named.result) whole ∙ take_at first tail c.len-named.result at ∙ c.in_ok-text.ensures.value;
      tail = ap (drop c.len-named.result) whole ∙ drop_at first tail c.len-named.result at;
      size = omega (arith, size, c.in_ok-size.ensures.value, c.single_size.ensures, left);
      small = c.in_ok-size.ensures.small;
      small_top = omega (arith, c.in_ok-top.ensures.small, c.in_ok-top.ensures.value);
    }

pub returns-clause-checked : goal.returns-clause-checked
returns-clause-checked c =
    let texts = c.args.remapper.now.texts in
    let t = c.args.table.now in
    let first = c.in_ok-text.text in
    let tail = tail_by texts in
    let top : c.in_ok-top.top ≡ length first + 33 = omega (arith, c.in_ok-top.ensures.value, c.len-named.ensures) in
    let left : c.len.result - c.len-named.result ≡ length tail = omega (arith, c.len.ensures, c.len-named.ensures, ap length c.in_ok-put_tail.ensures.ok, length-append first tail) in
    let size = front_size_is texts t first tail c.in_ok-top.top c.in_ok-text.ensures.value refl top in
    limits_hold texts t (c.len-named.result + 33) (4 + (length t.names.now + (c.single_size.result + (c.len.result - c.len-named.result))))
    (omega (arith, c.len-named.ensures, ap length c.in_ok-text.ensures.value))
    (omega (arith, size, c.single_size.ensures, left))
    c.in_ok-text.ensures.checked c.in_ok-top.ensures.checked c.in_ok-put_tail.ensures.checked c.in_ok-size.ensures.checked

pub returns-in_err-size-clause-checked : goal.returns-in_err-size-clause-checked
returns-in_err-size-clause-checked c =
    let texts = c.args.remapper.now.texts in
    let t = c.args.table.now in
    let first = c.in_ok-text.text in
    let tail = tail_by texts in
    let top : c.in_ok-top.top ≡ length first + 33 = omega (arith, c.in_ok-top.ensures.value, c.len-named.ensures) in
    let left : c.len.result - c.len-named.result ≡ length tail = omega (arith, c.len.ensures, c.len-named.ensures, ap length c.in_ok-put_tail.ensures.ok, length-append first tail) in
    let size = front_size_is texts t first tail c.in_ok-top.top c.in_ok-text.ensures.value refl top in
    let p = err_from_is_err_and c.from_residual-in_err-size.result c.from_residual-in_err-size.ensures.1 in
    rw (p.1, p.2) (limits_break texts t _ (c.len-named.result + 33) (4 + (length t.names.now + (c.single_size.result + (c.len.result - c.len-named.result))))
    (omega (arith, c.len-named.ensures, ap length c.in_ok-text.ensures.value))
    (omega (arith, size, c.single_size.ensures, left))
    c.in_ok-text.ensures.checked c.in_ok-top.ensures.checked c.in_ok-put_tail.ensures.checked c.in_err-size.ensures.checked)
