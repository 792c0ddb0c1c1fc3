use Rattle.std.proofs.Common.{◌≡◌, ◌+◌, ◌*◌, ◌++◌, ◌%◌, ◌^◌, ℕ, List, take, drop, length, refl, ap, sym, ◌∙◌, arith}
use Rattle.std.proofs.lemmas.List.{length-map, take-append-drop}
use Rattle.subsetter_sfnt.specs.Laying.Checksum.{checksum}
use Rattle.subsetter_sfnt.specs.Laying.Written.{body, front, adjustment, kind_word}
use Rattle.subsetter_sfnt.specs.View.{view, views}
use Rattle.subsetter_sfnt.proofs.Laws.LayingLaws.Checksum.{checksum-append}
use Rattle.subsetter_sfnt.proofs.Laws.LayingLaws.Written.{length-header, length-front, length-file, front_is, headed, made}
use Rattle.subsetter_sfnt.proofs.laying.construct.construct.Goals as goal

pub skip_front-requires-clause-room : goal.skip_front-requires-clause-room
skip_front-requires-clause-room g c = omega (arith, ap length c.requires.empty, length-file (kind_word c.args.flavor) (views g.T.TableBytes.bytes_of c.args.tables.now) c.requires.tables, c.requires.room, length-map c.args.tables.now (view g.T.TableBytes.bytes_of))

pub patch_bytes-requires : goal.patch_bytes-requires
patch_bytes-requires g c = omega (arith, ap length c.requires.empty, c.skip_front.ensures.count, ap length c.new_header-header.ensures, length-header c.kind.result (length c.args.tables.now))

pub write_tables-tables_sum-requires-clause-front : goal.write_tables-tables_sum-requires-clause-front
write_tables-tables_sum-requires-clause-front g c =
    let p = headed c.skip_front.new.out.items c.new_header-header.result c.patch_bytes.new.out.items c.kind.result (length c.args.tables.now) c.new_header-header.ensures (omega (arith, c.skip_front.ensures.count)) c.patch_bytes.ensures.items in
    omega (arith, p.len, c.skip_front.ensures.count, ap length c.requires.empty)

pub write_tables-tables_sum-requires-clause-room : goal.write_tables-tables_sum-requires-clause-room
write_tables-tables_sum-requires-clause-room g c =
    let p = headed c.skip_front.new.out.items c.new_header-header.result c.patch_bytes.new.out.items c.kind.result (length c.args.tables.now) c.new_header-header.ensures (omega (arith, c.skip_front.ensures.count)) c.patch_bytes.ensures.items in
    omega (arith, p.len, c.skip_front.ensures.count, ap length c.requires.empty, c.skip_front.ensures.capacity, c.patch_bytes.ensures.capacity, length-file (kind_word c.args.flavor) (views g.T.TableBytes.bytes_of c.args.tables.now) c.requires.tables, c.requires.room, length-map c.args.tables.now (view g.T.TableBytes.bytes_of))

pub returns : goal.returns
returns g c =
    let ts = c.args.tables.now in
    let vs = views g.T.TableBytes.bytes_of ts in
    let n = length ts in
    let start = 12 + 16 * n in
    let kind = kind_word c.args.flavor in
    let p = headed c.skip_front.new.out.items c.new_header-header.result c.patch_bytes.new.out.items c.kind.result n c.new_header-header.ensures (omega (arith, c.skip_front.ensures.count)) c.patch_bytes.ensures.items in
    let out = c.write_tables-tables_sum.new.out.items in
    let f = front kind vs in
    let front_is_f : take start out ≡ f = front_is c.kind.result vs n (take 12 c.patch_bytes.new.out.items) (take start out) (sym (length-map ts (view g.T.TableBytes.bytes_of))) p.front c.write_tables-tables_sum.ensures.front ∙ ap (λ k. front k vs) c.kind.ensures in
    let written : out ≡ f ++ body vs = sym (take-append-drop start out) ∙ ap (λ (l : List ℕ). l ++ drop start out) front_is_f ∙ ap (λ (l : List ℕ). f ++ l) c.write_tables-tables_sum.ensures.items in
    let front_sum : c.checksum.result ≡ checksum f = c.checksum.ensures ∙ ap (λ (l : List ℕ). checksum (take start l)) c.deref.ensures.value ∙ ap checksum front_is_f in
    let long = length-front kind vs c.requires.tables in
    let multiple : length f % 4 ≡ 0 = omega (arith, long) in
    let sum = (c.checksum.result + c.write_tables-tables_sum.result) % 2 ^ 32 in
    let whole : sum ≡ checksum (f ++ body vs) = omega (arith, front_sum, c.write_tables-tables_sum.ensures.sum, checksum-append f (body vs) multiple) in
    made kind vs start sum (adjustment sum) out _ c.requires.tables (ap (λ n. 12 + 16 * n) (sym (length-map ts (view g.T.TableBytes.bytes_of))))
    written
    (whole ∙ ap checksum (sym written)) refl c.adjust.ensures
