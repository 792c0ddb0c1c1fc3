use Rattle.std.proofs.Common.{◌≡◌, ap, ◌∙◌}
use Rattle.pdf_text.specs.View.{pairs_view}
use Rattle.pdf_codes.specs.Cmaps.Leading.{pairs_of_codes}
use Rattle.pdf_codes.proofs.CmapsLaws.ReadBack.{name_led, read_led, text_led}
use Rattle.pdf_codes.proofs.cmaps.leading.write_leading.Goals as goal

pub returns-clause-name : goal.returns-clause-name
returns-clause-name c =
    let is : pairs_view c.as_slice.result.now ≡ pairs_of_codes (pairs_view c.args.pairs.now) = ap pairs_view c.as_slice.ensures.value ∙ c.in_ok-written.ensures.ok in
    name_led c.write_named_encoding.result c.args.vertical (pairs_view c.args.pairs.now) (pairs_view c.as_slice.result.now) is c.write_named_encoding.ensures.name

pub returns-clause-text : goal.returns-clause-text
returns-clause-text c =
    let is : pairs_view c.as_slice.result.now ≡ pairs_of_codes (pairs_view c.args.pairs.now) = ap pairs_view c.as_slice.ensures.value ∙ c.in_ok-written.ensures.ok in
    text_led c.write_named_encoding.result c.args.vertical (pairs_view c.args.pairs.now) (pairs_view c.as_slice.result.now) is c.write_named_encoding.ensures.text

pub returns-clause-read : goal.returns-clause-read
returns-clause-read c =
    read_led c.write_named_encoding.result (pairs_view c.args.pairs.now) c.in_ok-written.written.items c.as_slice.result.now c.as_slice.ensures.value c.in_ok-written.ensures.ok c.in_ok-written.ensures.are_pairs c.write_named_encoding.ensures.read
