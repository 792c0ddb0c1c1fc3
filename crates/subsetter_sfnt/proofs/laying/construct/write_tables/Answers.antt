use Rattle.std.proofs.Common.{◌≡◌, ◌+◌, ◌≤◌, ◌∷◌, ◌++◌, List, ℕ, take, drop, length, refl, ap, sym, ◌∙◌, arith}
use Rattle.std.proofs.lemmas.List.{append-nil, drop_all, drop_more, length-append, length-drop}
use Rattle.subsetter_base.specs.Bytes.{aligned}
use Rattle.subsetter_base.proofs.Lists.{one_more_written}
use Rattle.subsetter_sfnt.specs.declared.laying.tables.NewTable.{NewTable}
use Rattle.subsetter_sfnt.specs.Laying.Checksum.{checksum}
use Rattle.subsetter_sfnt.specs.Laying.Written.{body, record_bytes, directory_bytes, fits, IsTable}
use Rattle.subsetter_sfnt.specs.View.{view, views}
use Rattle.subsetter_sfnt.proofs.Laws.LayingLaws.Checksum.{checksum-body, checksum_fits, length-aligned, none_left}
use Rattle.subsetter_sfnt.proofs.Laws.LayingLaws.Written.{at_index, fitting, rounded, after_more}
use Rattle.subsetter_sfnt.proofs.laying.construct.write_tables.Goals as goal

pub loop-table-init : goal.loop-table-init
loop-table-init g c = record {
  written = refl;
  laid = ap (λ (l : List ℕ). l ++ body (views g.T.TableBytes.bytes_of c.args.tables.now)) (drop_all c.args.start c.args.out.now.items (omega (arith, c.requires.front)));
  places = omega (arith, c.requires.start);
  long = omega (arith, c.requires.front);
  multiple = omega (arith, c.requires.front, c.requires.start);
  room = c.requires.room;
  fit = c.requires.fit;
  small = omega arith;
  summed = omega (arith, checksum_fits (body (views g.T.TableBytes.bytes_of c.args.tables.now)));
}

pub write_table-sum-requires-clause-is_table : goal.write_table-sum-requires-clause-is_table
write_table-sum-requires-clause-is_table g c = at_index IsTable (view g.T.TableBytes.bytes_of) c.args.tables.now c.loop-table.table-index c.table-item.result c.requires.tables c.loop-table-test.true c.table-item.is

pub write_table-sum-requires-clause-place : goal.write_table-sum-requires-clause-place
write_table-sum-requires-clause-place g c = omega (arith, c.loop-table.invariant.places, c.loop-table.invariant.long, length-drop c.loop-table.table-index c.args.tables.now, c.loop-table-test.true)

pub overflow_add-place : goal.overflow_add-place
overflow_add-place g c = omega (arith, c.loop-table.invariant.places, c.requires.start, c.requires.few, length-drop c.loop-table.table-index c.args.tables.now, c.loop-table-test.true)

pub write_table-sum-requires-clause-at : goal.write_table-sum-requires-clause-at
write_table-sum-requires-clause-at g c =
    let i = c.loop-table.table-index in
    let at = c.loop-table.at in
    let ts = c.args.tables.now in
    let t = c.table-item.result in
    let others = drop (i + 1) ts in
    let more : views g.T.TableBytes.bytes_of (drop i ts) ≡ view g.T.TableBytes.bytes_of t ∷ views g.T.TableBytes.bytes_of others = ap (views g.T.TableBytes.bytes_of) (drop_more ts i t c.loop-table-test.true ∙ ap (λ (x : NewTable g.row.T.Denot). x ∷ others) (sym c.table-item.is)) in
    let f = fitting at (view g.T.TableBytes.bytes_of t) (views g.T.TableBytes.bytes_of others) (ap (fits at) (sym more) ∙ c.loop-table.invariant.fit) in
    (f.offset, f.len)

pub aligned_len-at-requires : goal.aligned_len-at-requires
aligned_len-at-requires g c =
    let i = c.loop-table.table-index in
    let at = c.loop-table.at in
    let ts = c.args.tables.now in
    let t = c.table-item.result in
    let others = drop (i + 1) ts in
    let more : views g.T.TableBytes.bytes_of (drop i ts) ≡ view g.T.TableBytes.bytes_of t ∷ views g.T.TableBytes.bytes_of others = ap (views g.T.TableBytes.bytes_of) (drop_more ts i t c.loop-table-test.true ∙ ap (λ (x : NewTable g.row.T.Denot). x ∷ others) (sym c.table-item.is)) in
    let f = fitting at (view g.T.TableBytes.bytes_of t) (views g.T.TableBytes.bytes_of others) (ap (fits at) (sym more) ∙ c.loop-table.invariant.fit) in
    omega (arith, c.len.ensures.exact f.len, f.len)

pub overflow_add-at : goal.overflow_add-at
overflow_add-at g c =
    let i = c.loop-table.table-index in
    let at = c.loop-table.at in
    let ts = c.args.tables.now in
    let t = c.table-item.result in
    let others = drop (i + 1) ts in
    let more : views g.T.TableBytes.bytes_of (drop i ts) ≡ view g.T.TableBytes.bytes_of t ∷ views g.T.TableBytes.bytes_of others = ap (views g.T.TableBytes.bytes_of) (drop_more ts i t c.loop-table-test.true ∙ ap (λ (x : NewTable g.row.T.Denot). x ∷ others) (sym c.table-item.is)) in
    let f = fitting at (view g.T.TableBytes.bytes_of t) (views g.T.TableBytes.bytes_of others) (ap (fits at) (sym more) ∙ c.loop-table.invariant.fit) in
    omega (arith, c.len.ensures.exact f.len, f.len, f.offset, c.aligned_len-at.ensures)

pub loop-table-preserved : goal.loop-table-preserved
loop-table-preserved g c =
    let i = c.loop-table.table-index in
    let at = c.loop-table.at in
    let ts = c.args.tables.now in
    let t = c.table-item.result in
    let others = drop (i + 1) ts in
    let more : views g.T.TableBytes.bytes_of (drop i ts) ≡ view g.T.TableBytes.bytes_of t ∷ views g.T.TableBytes.bytes_of others = ap (views g.T.TableBytes.bytes_of) (drop_more ts i t c.loop-table-test.true ∙ ap (λ (x : NewTable g.row.T.Denot). x ∷ others) (sym c.table-item.is)) in
    let f = fitting at (view g.T.TableBytes.bytes_of t) (views g.T.TableBytes.bytes_of others) (ap (fits at) (sym more) ∙ c.loop-table.invariant.fit) in
    let bytes = (view g.T.TableBytes.bytes_of t).bytes in
    let w = c.write_table-sum.ensures in
    let out = c.loop-table.out.items in
    let len : c.len.result ≡ length bytes = c.len.ensures.exact f.len in
    let next : at + c.aligned_len-at.result ≡ at + length (aligned 4 bytes) = omega (arith, c.aligned_len-at.ensures, len, rounded bytes) in
    let left : body (views g.T.TableBytes.bytes_of (drop i ts)) ≡ aligned 4 bytes ++ body (views g.T.TableBytes.bytes_of others) = ap body more in
    let place = c.loop-table.place in
    let start = c.args.start in
    let new = c.write_table-sum.new.out.items in
    let sizes : length (drop i ts) ≡ length others + 1 = omega (arith, length-drop i ts, length-drop (i + 1) ts, c.loop-table-test.true) in
    let before : place + 16 ≤ start = omega (arith, c.loop-table.invariant.places, sizes) in
    record {
      written = ap (λ n. take (place + 16) new ++ directory_bytes n (views g.T.TableBytes.bytes_of others)) next ∙ one_more_written (take place out) (record_bytes at (view g.T.TableBytes.bytes_of t)) (directory_bytes (at + length (aligned 4 bytes)) (views g.T.TableBytes.bytes_of others)) _ (take (place + 16) new) w.record (ap (λ v. take place out ++ directory_bytes at v) (sym more) ∙ c.loop-table.invariant.written);
      laid = one_more_written (drop start out) (aligned 4 bytes) (body (views g.T.TableBytes.bytes_of others)) _ (drop start new) (after_more new out (aligned 4 bytes) (place + 16) start w.items before c.loop-table.invariant.long) (ap (λ (l : List ℕ). drop start out ++ l) (sym left) ∙ c.loop-table.invariant.laid);
      places = omega (arith, c.loop-table.invariant.places, sizes);
      long = omega (arith, w.len, c.loop-table.invariant.long);
      multiple = omega (arith, w.len, length-aligned bytes, c.loop-table.invariant.multiple);
      room = omega (arith, w.len, ap length left, length-append (aligned 4 bytes) (body (views g.T.TableBytes.bytes_of others)), c.loop-table.invariant.room, w.capacity);
      fit = ap (λ n. fits n (views g.T.TableBytes.bytes_of others)) next ∙ f.rest;
      small = omega arith;
      summed = omega (arith, ap (λ l. checksum (body l)) more, checksum-body (view g.T.TableBytes.bytes_of t) (views g.T.TableBytes.bytes_of others), w.sum, c.loop-table.invariant.summed);
    }

pub returns-clause-front : goal.returns-clause-front
returns-clause-front g c =
    let i = c.loop-table.table-index in
    let ts = c.args.tables.now in
    let out = c.loop-table.out.items in
    let none = ap (views g.T.TableBytes.bytes_of) (drop_all i ts c.loop-table-test.false) in
    let at : c.args.start ≡ c.loop-table.place = omega (arith, c.loop-table.invariant.places, length-drop i ts, c.loop-table-test.false) in
    ap (λ (n : ℕ). take n out) at ∙ sym (append-nil (take c.loop-table.place out)) ∙ ap (λ v. take c.loop-table.place out ++ directory_bytes c.loop-table.at v) (sym none) ∙ c.loop-table.invariant.written

pub returns-clause-items : goal.returns-clause-items
returns-clause-items g c =
    let none = ap (views g.T.TableBytes.bytes_of) (drop_all c.loop-table.table-index c.args.tables.now c.loop-table-test.false) in
    sym (append-nil (drop c.args.start c.loop-table.out.items)) ∙ ap (λ v. drop c.args.start c.loop-table.out.items ++ body v) (sym none) ∙ c.loop-table.invariant.laid

pub returns-clause-sum : goal.returns-clause-sum
returns-clause-sum g c = none_left c.loop-table.sum (checksum (body (views g.T.TableBytes.bytes_of c.args.tables.now))) (views g.T.TableBytes.bytes_of (drop c.loop-table.table-index c.args.tables.now)) (ap (views g.T.TableBytes.bytes_of) (drop_all c.loop-table.table-index c.args.tables.now c.loop-table-test.false)) c.loop-table.invariant.small c.loop-table.invariant.summed
