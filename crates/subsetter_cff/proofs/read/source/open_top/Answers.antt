use Rattle.std.proofs.Common.{◌<◌, ◌≤◌, length, arith, sym, ◌∙◌}
use Rattle.std.proofs.lemmas.Result.{err_from_is_err_and}
use Rattle.std.proofs.lemmas.Bool.{lt-ltb, le-ltb}
use Rattle.subsetter_cffdata.specs.Indexes.IndexView.{items}
use Rattle.subsetter_cff.specs.Read.FrontView.{front_of}
use Rattle.subsetter_cff.proofs.ReadLaws.Opening.{char_strings_at, demands_met, top_is_wrong, top_without_char_strings, top_without_glyphs, top_opens}
use Rattle.subsetter_cff.proofs.read.source.open_top.Goals as goal

pub returns-then-not-read_top_dict-clause-value : goal.returns-then-not-read_top_dict-clause-value
returns-then-not-read_top_dict-clause-value c = top_is_wrong (front_of c.args.front) (c.read_top_dict.ensures.fault c.if-not-read_top_dict.true)

pub returns-in_default-clause-value : goal.returns-in_default-clause-value
returns-in_default-clause-value c =
    let cff = front_of c.args.front in
    top_without_char_strings cff (char_strings_at cff c.read_top_dict.new.said.char_strings (c.read_top_dict.ensures.value c.if-not-read_top_dict.false).char_strings ∙ sym c.in_default.ensures)

pub returns-then-len-eq0-clause-value : goal.returns-then-len-eq0-clause-value
returns-then-len-eq0-clause-value c =
    let cff = front_of c.args.front in
    let all = items c.in-Some.char_strings in
    let none : length all ≤ 0 = omega (arith, c.len.ensures, c.if-len-eq0.true) in
    top_without_glyphs cff all (demands_met cff (c.read_top_dict.ensures.sound c.if-not-read_top_dict.false)) (char_strings_at cff c.read_top_dict.new.said.char_strings (c.read_top_dict.ensures.value c.if-not-read_top_dict.false).char_strings ∙ sym c.in-Some.ensures) (le-ltb 0 (length all) none)

pub open_keyed-requires-clause-glyphs : goal.open_keyed-requires-clause-glyphs
open_keyed-requires-clause-glyphs c = char_strings_at (front_of c.args.front) c.read_top_dict.new.said.char_strings (c.read_top_dict.ensures.value c.if-not-read_top_dict.false).char_strings ∙ sym c.in-Some.ensures

pub returns-in_err-cid-clause-value : goal.returns-in_err-cid-clause-value
returns-in_err-cid-clause-value c =
    let cff = front_of c.args.front in
    let all = items c.in-Some.char_strings in
    let some : 0 < length all = omega (arith, c.len.ensures, c.if-len-eq0.false) in
    let p = err_from_is_err_and c.from_residual.result c.from_residual.ensures.1 in
    rw (p.1, p.2, top_opens cff all (demands_met cff (c.read_top_dict.ensures.sound c.if-not-read_top_dict.false)) (char_strings_at cff c.read_top_dict.new.said.char_strings (c.read_top_dict.ensures.value c.if-not-read_top_dict.false).char_strings ∙ sym c.in-Some.ensures) (lt-ltb 0 (length all) some)) c.in_err-cid.ensures.value

pub returns-clause-value : goal.returns-clause-value
returns-clause-value c =
    let cff = front_of c.args.front in
    let all = items c.in-Some.char_strings in
    let some : 0 < length all = omega (arith, c.len.ensures, c.if-len-eq0.false) in
    top_opens cff all (demands_met cff (c.read_top_dict.ensures.sound c.if-not-read_top_dict.false)) (char_strings_at cff c.read_top_dict.new.said.char_strings (c.read_top_dict.ensures.value c.if-not-read_top_dict.false).char_strings ∙ sym c.in-Some.ensures) (lt-ltb 0 (length all) some) ∙ c.in_ok-cid.ensures.value

pub returns-clause-ok : goal.returns-clause-ok
returns-clause-ok c =
    let cff = front_of c.args.front in
    record {
      demands = demands_met cff (c.read_top_dict.ensures.sound c.if-not-read_top_dict.false);
      top = c.read_top_dict.ensures.value c.if-not-read_top_dict.false;
      char_strings_are = char_strings_at cff c.read_top_dict.new.said.char_strings (c.read_top_dict.ensures.value c.if-not-read_top_dict.false).char_strings ∙ sym c.in-Some.ensures;
      own = c.parse_sid_metadata-private.ensures;
      keyed = c.in_ok-cid.ensures.ok;
    }

pub open_keyed-requires-clause-top : goal.open_keyed-requires-clause-top
open_keyed-requires-clause-top c = c.read_top_dict.ensures.value c.if-not-read_top_dict.false

pub parse_sid_metadata-private-requires : goal.parse_sid_metadata-private-requires
parse_sid_metadata-private-requires c = c.read_top_dict.ensures.value c.if-not-read_top_dict.false
